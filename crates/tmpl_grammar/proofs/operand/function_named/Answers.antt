use Rattle.tmpl_grammar.proofs.FunctionLemmas.{named}
use Rattle.tmpl_grammar.proofs.operand.function_named.Goals as goal

pub returns : goal.returns
returns c = named c.args.name.now c.named.result c.named.ensures.known c.named.ensures.unknown
