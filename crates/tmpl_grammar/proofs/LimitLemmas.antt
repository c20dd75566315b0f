-- For `pipeline` and `commands_in`, which let go of what stands in parentheses where they nest too deep: they read just
-- the tokens that are read without a limit.
use Rattle.std.proofs.Common.{arith, ◌≡◌, ◌∙◌, ◌<◌, ℕ, Bool, true, false, nat_le, List, [], ◌∷◌, Option, Some, None, IfSome, refl, ap, map, option_map}
use Rattle.std.proofs.Common.{option_and_then}
use Rattle.std.proofs.lemmas.Bool.Decides.{nat_tests}
use Rattle.std.proofs.lemmas.List.{map-append}
use Rattle.std.proofs.lemmas.Option.{IfSome_then}
use Rattle.tmpl_lex.specs.declared.piece.TokenKind.{TokenKind}
use Rattle.tmpl_lex.specs.Piece.{Token}
use Rattle.tmpl_grammar.specs.Tree as tree
use Rattle.tmpl_grammar.specs.Tree.{Operand, Operands, operands_from, commands_from}
use Rattle.tmpl_grammar.specs.Depth.{depth_of_pipeline, most_deep}
use Rattle.tmpl_grammar.specs.computed.Depth.{deepest, limited_pipeline}
use Rattle.tmpl_grammar.specs.computed.Limited.{without_contents, prune, pruned_step, pruned_steps, pruned_commands, limited_commands}
use Rattle.tmpl_grammar.specs.computed.Parser.{Parser, Partial, with_last_operand, more_commands, may_stand, step, step_by, steps, finished, commands_after, start}
use Rattle.tmpl_grammar.specs.computed.Reading.{pipeline_in}
use Rattle.tmpl_grammar.proofs.DepthLemmas.{pipeline-depth}
use Rattle.tmpl_grammar.proofs.PipelineLemmas.{pipeline-admitted}

-- ---- with nothing in parentheses

abbrev emptied_operands : Operands → Operands
emptied_operands tree.no_operand = tree.no_operand
emptied_operands (tree.operand o os) = tree.operand (without_contents o) (emptied_operands os)

abbrev emptied_commands : List Operands → List Operands
emptied_commands cs = map emptied_operands cs

abbrev emptied_partial : Partial → Partial
emptied_partial l = record { commands = emptied_commands l.commands; operands = map without_contents l.operands }

-- .. or with it
abbrev seen : Bool → Parser → Parser
seen true h = h
seen false h = record { outer = map emptied_partial h.outer; inner = emptied_partial h.inner; last = option_map without_contents h.last }

-- ---- one token

with_last_operand-without_contents : (last : Option Operand) (os : List Operand) → with_last_operand (option_map without_contents last) (map without_contents os) ≡ map without_contents (with_last_operand last os)
with_last_operand-without_contents last os = grind (arith, map-append)

from-without_contents : (os : List Operand) → operands_from (map without_contents os) ≡ emptied_operands (operands_from os)
from-without_contents [] = refl
from-without_contents (o ∷ os) = ap (tree.operand (without_contents o)) (from-without_contents os)

more-without_contents : (cs : List Operands) (os : List Operand)
    → more_commands (emptied_commands cs) (map without_contents os) ≡ option_map emptied_commands (more_commands cs os)
more-without_contents cs [] = refl
more-without_contents cs (o ∷ os) = simp (from-without_contents os, map-append)

stands-without_contents : (cs : List Operands) (os : List Operand) (o : Operand) → may_stand (emptied_commands cs) (map without_contents os) o ≡ may_stand cs os o
stands-without_contents cs os o = grind arith

step-seen : (keeps : Bool) (h : Parser) (k : TokenKind) (t : Token)
    → option_map (prune keeps) (step_by k t (seen keeps h)) ≡ option_map (seen keeps) (step_by k t h)
step-seen true h k t = refl
step-seen false h k t = grind (arith, with_last_operand-without_contents, more-without_contents, stands-without_contents)

-- ---- all of them

steps-seen : (keeps : Bool) (o : Option Parser) (ts : List Token)
    → pruned_steps keeps (option_map (seen keeps) o) ts ≡ option_map (seen keeps) (steps o ts)
unfolding step pruned_step
steps-seen keeps o [] = refl
steps-seen keeps None (t ∷ ts) = steps-seen keeps None ts
steps-seen keeps (Some h) (t ∷ ts) = ap (λ o. pruned_steps keeps o ts) (step-seen keeps h t.kind t) ∙ steps-seen keeps (step t h) ts

none-steps : (keeps : Bool) (ts : List Token) → pruned_steps keeps None ts ≡ None
none-steps keeps [] = refl
none-steps keeps (t ∷ ts) = none-steps keeps ts

-- a token that may not stand
pub none-read : (keeps : Bool) (h : Parser) (ts : List Token) (t : Token) (us : List Token) → ts ≡ t ∷ us → pruned_step keeps t h ≡ None
    → pruned_commands keeps h ts ≡ None
none-read keeps h ts t us is e = simp (is, e, none-steps keeps us)

-- ---- the limit

pub nat_le-false : (m n : ℕ) → n < m → nat_le m n ≡ false
nat_le-false m n h = grind (arith, nat_tests)

limited-seen : (keeps : Bool) (o : Option Parser)
    → limited_commands keeps (option_and_then finished (option_map (seen keeps) o)) ≡ limited_commands keeps (option_and_then finished o)
unfolding finished
limited-seen keeps o = grind (arith, with_last_operand-without_contents, more-without_contents)

start-seen : (keeps : Bool) → seen keeps start ≡ start
start-seen keeps = grind arith

prune-limited : (keeps : Bool) (ts : List Token) → limited_commands keeps (pruned_commands keeps start ts) ≡ limited_commands keeps (commands_after start ts)
prune-limited keeps ts = grind (arith, start-seen keeps, steps-seen keeps (Some start) ts, limited-seen keeps (steps (Some start) ts))

pub limited-read : (ts : List Token)
    → limited_commands (nat_le (deepest 0 ts) most_deep) (pruned_commands (nat_le (deepest 0 ts) most_deep) start ts)
    ≡ option_map limited_pipeline (pipeline_in ts)
unfolding pipeline_in
limited-read ts =
    prune-limited (nat_le (deepest 0 ts) most_deep) ts
    ∙ by (commands_after start ts) (IfSome_then (pipeline_in ts) (pipeline-admitted ts) (λ cs s. pipeline-depth cs ts s))
  where
    by : (o : Option (List Operands)) → IfSome (option_map commands_from o) (λ cs. depth_of_pipeline cs ≡ deepest 0 ts)
        → limited_commands (nat_le (deepest 0 ts) most_deep) o ≡ option_map limited_pipeline (option_map commands_from o)
    by o deep = grind arith

pub ruleset limits = (limited-read)
