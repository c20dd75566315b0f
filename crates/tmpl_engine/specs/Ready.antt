-- What an instruction needs of the stack: that the cells which it takes or looks at are there, and that there is room
-- for those which it puts, where there may be this many.
use Rattle.std.specs.Prelude.{◌≡◌, ℕ, suc, ◌+◌, ◌-◌, ◌≤◌, ◌<◌, Bool, true, false}
use Rattle.tmpl_funcs.specs.Func.{is_called}
use Rattle.tmpl_code.specs.Code.{piped_count}
use Rattle.tmpl_code.specs.Instruction as code
use Rattle.tmpl_code.specs.Instruction.{Operation, push_slot, chained, call_with, decide, settle, refuse, Instruction}

-- a step of a pipeline over this many cells; `and` and `or` are no calls
abbrev pub Fits : Operation → ℕ → ℕ → Type 0
Fits (push_slot k) n room = (k < n) × (n < room)
Fits (chained names) n room = 1 ≤ n
Fits (call_with f count piped) n room =
    (is_called f ≡ true) × (count + piped_count piped ≤ n) × (n - (count + piped_count piped) < room)
Fits (decide is_or piped skip) n room = 1 + piped_count piped ≤ n
Fits settle n room = 1 ≤ n
Fits (refuse why) n room = Unit {0}
Fits push n room = n < room

abbrev pub RoomIf : Bool → ℕ → ℕ → Type 0
RoomIf true n room = n < room
RoomIf false n room = Unit {0}

-- an instruction over this many cells; where it is no step of a pipeline, it looks for the newest cells by itself
abbrev pub Has : Instruction → ℕ → ℕ → Type 0
Has (code.act o) n room = Fits o n room
Has (code.show_slot line k names) n room = k < n
Has (code.hold key) n room = RoomIf key n room
Has (code.set slot) n room = suc slot < n
Has (code.set_dot slot) n room = slot < n
Has (code.enter_with kept skip) n room = RoomIf kept n room
Has (code.end_with m variables skip) n room = m + 1 + variables ≤ n
Has (code.forget m skip) n room = m ≤ n
Has (code.enter key skip) n room = n < room
Has (code.turn m) n room = n + m ≤ room
Has (code.invoke number) n room = n + 2 ≤ room
Has i n room = Unit {0}
