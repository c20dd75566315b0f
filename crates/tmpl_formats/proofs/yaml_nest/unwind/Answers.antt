use Rattle.std.proofs.Common.{sym, ◌∙◌, ap, reverse}
use Rattle.tmpl_formats.proofs.YamlUnwindLemmas.{unwind-step, unwind-stop}
use Rattle.tmpl_formats.specs.computed.YamlNest.{unwound_from}
use Rattle.tmpl_formats.specs.declared.yaml_nest.Expects.TheVariants as expects
use Rattle.tmpl_formats.proofs.yaml_nest.unwind.Goals as goal

pub loop-nest-preserved : goal.loop-nest-preserved
loop-nest-preserved c =
    let n = c.loop-nest.nest in
    ap (λ ls. unwound_from c.args.column c.args.is_item expects.Nothing ls (reverse n.brackets.items)) c.end_innermost.ensures
    ∙ unwind-step c.args.column c.args.is_item n.expects (reverse n.levels.items) (reverse n.brackets.items) (sym (rw c.innermost.ensures at c.loop-nest-test.ensures))
    ∙ c.loop-nest.invariant

pub returns : goal.returns
returns c =
    let n = c.loop-nest.nest in
    unwind-stop c.args.column c.args.is_item n.expects (reverse n.levels.items) (reverse n.brackets.items) (sym (rw c.innermost.ensures at c.loop-nest-test.ensures))
    ∙ c.loop-nest.invariant
