-- For code on operands: a pipeline in parentheses, seen by its commands.
use Rattle.std.proofs.Common.{rules, ◌≡◌, List, ℕ, Vec, Global, append_assoc}
use Rattle.std.proofs.lemmas.List.Concat.{flat_map-append}
use Rattle.tmpl_grammar.specs.View.{operand_of, commands_in}
use Rattle.tmpl_grammar.specs.Tree.{group}
use Rattle.tmpl_grammar.specs.declared.tree.Operand.{Group, the_lemmas}
use Rattle.tmpl_grammar.specs.declared.tree.Command.{Command}

pub group_seen : (cs : Vec Command Global) (names : Vec (List ℕ) Global) → operand_of (Group cs names) ≡ group (commands_in cs.items) names.items
group_seen cs names = search (rules, the_lemmas)

pub ruleset groups = (group_seen, flat_map-append, append_assoc)
