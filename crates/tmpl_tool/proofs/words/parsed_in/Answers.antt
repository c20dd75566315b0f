use Rattle.tmpl_tool.proofs.NumberLemmas.{read-in, read-none}
use Rattle.tmpl_tool.proofs.words.parsed_in.Goals as goal

pub returns-in-Ok-clause-value : goal.returns-in-Ok-clause-value
returns-in-Ok-clause-value c =
    read-in c.args.default c.args.low c.args.high c.in-Ok.number c.args.text.now c.in-Ok.ensures.value.0 c.if-low-number.true c.if-number-high.true

pub returns-in_default-3-clause-value : goal.returns-in_default-3-clause-value
returns-in_default-3-clause-value c = read-none c.args.default c.args.low c.args.high _ c.args.text.now c.in_default.field-0 c.in_default.ensures.value.0
