-- To which end a run of flat code comes.
use Rattle.std.specs.Prelude.{◌≡◌, ℕ, zero, suc, Option, Some, None, length, slice_get}
use Rattle.tmpl_meaning.specs.Meaning.{Ran}
use Rattle.tmpl_code.specs.Instruction.{Instruction}
use Rattle.tmpl_engine.specs.Machine.{Turn, goes, ended, stuck, next_of}
use Rattle.tmpl_engine.specs.Ready.{Has}
use Rattle.tmpl_engine.specs.State.{Plan, State}

-- there is a next instruction, and it has what it needs of a stack of this many cells
abbrev pub IsReady : ℕ → Option Instruction → State → Type 0
IsReady room None s = ⊥
IsReady room (Some i) s = Has i (length s.cells) room

abbrev pub Comes : (State → Type 0) → Turn → Ran → Type 0
Comes After (goes t) end = After t
Comes After (ended r) end = r ≡ end
Comes After stuck end = ⊥

-- it reaches this end in at most this many turns, each of which is ready, and none gets stuck
abbrev pub RunsTo : Plan → ℕ → ℕ → State → Ran → Type 0
RunsTo plan room zero s end = ⊥
RunsTo plan room (suc n) s end =
    IsReady room (slice_get plan.code s.place) s × Comes (λ t. RunsTo plan room n t end) (next_of plan s) end

-- .. in some number of turns
abbrev pub Ends : Plan → ℕ → State → Ran → Type 0
Ends plan room s end = (n : ℕ) × RunsTo plan room n s end
