-- Not needed by any proof: how many turns the code of one text takes, computed.
use Rattle.std.proofs.Common.{◌≡◌, false, [], ◌∷◌, None, refl, codes}
use Rattle.tmpl_values.specs.Value.{nothing}
use Rattle.tmpl_syntax.specs.Tree.{none, then, text}
use Rattle.tmpl_meaning.specs.Meaning.{Ran}
use Rattle.tmpl_meaning.specs.declared.missing_key.MissingKey.TheVariants.{Default}
use Rattle.tmpl_code.specs.Instruction.{put, return_from}
use Rattle.tmpl_engine.specs.State.{Plan, State, starting}
use Rattle.tmpl_engine.specs.Ends.{RunsTo}
use Rattle.tmpl_engine.specs.Laws.{most_turns}

-- the text A, which may take one step
abbrev plan : Plan
plan = record {
  rules = record { missing_key = Default; step_limit = 1; depth_limit = 1 };
  templates = (codes "t", record { file = codes "f"; nodes = then 1 (text (codes "A")) none }) ∷ [];
  starts = 0 ∷ [];
  code = put 1 (codes "A") ∷ return_from 0 ∷ [];
}

abbrev start : State
start = starting plan 0 0 nothing

abbrev end : Ran
end = record { text = codes "A"; fault = None; made_text = false }

in-two : RunsTo plan 3 2 start end
in-two = (tt, (tt, refl))

not-in-one : RunsTo plan 3 1 start end → ⊥
not-in-one h = h.1

at-most : most_turns plan ≡ 8
at-most = refl
