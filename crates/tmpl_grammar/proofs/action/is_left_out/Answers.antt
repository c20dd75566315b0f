use Rattle.std.proofs.Common.{arith, ◌≡◌, ◌≤◌, false, List, [], ◌∷◌, length, map, ap, refl}
use Rattle.tmpl_grammar.specs.Tree.{commands_from}
use Rattle.tmpl_grammar.specs.View.{command_of}
use Rattle.tmpl_grammar.specs.declared.tree.Command.{Command}
use Rattle.tmpl_grammar.specs.computed.Depth.{is_left_out}
use Rattle.tmpl_grammar.proofs.action.is_left_out.Goals as goal

some-there : (cs : List Command) → 1 ≤ length cs → false ≡ is_left_out (commands_from (map command_of cs))
some-there [] h = absurd (omega (arith, h))
some-there (c ∷ cs) h = refl

pub returns-in_default : goal.returns-in_default
returns-in_default c = some-there c.args.pipeline.now.commands.items (omega (arith, c.in_default.len_at_least, ap length c.as_slice.ensures.value))
