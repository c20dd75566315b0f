-- What the stages of a call answer.
use Rattle.std.specs.Prelude.{◌≡◌, ◌⊎◌, ℕ, List, Option, Some, Result, Ok, Err, IfSome, eqb, length, if◌then◌else◌}
use Rattle.tmpl_tool.specs.Inputs.{stop_seen}
use Rattle.tmpl_tool.specs.Outcome.{Answer, memory_line}
use Rattle.tmpl_tool.specs.Tool.{Early, bad_words}
use Rattle.tmpl_c.specs.Filled.{Fills, Seen}
use Rattle.tmpl_c.specs.declared.load.Halt.{Halt}
use Rattle.tmpl_c.specs.declared.load.Halt.TheVariants as halt

abbrev pub halt_seen : Halt → Option Early
halt_seen halt.NotText = Some bad_words
halt_seen (halt.Stop s) = stop_seen s

-- the answer is the result of a stage, or its stop, or memory ran out
abbrev pub ComesTo : {T U : Type 0} → (T → U) → Result U Early → Result T Halt → Type 0
ComesTo seen stage (Ok t) = stage ≡ Ok (seen t)
ComesTo seen stage (Err h) = IfSome (halt_seen h) (λ s. stage ≡ Err s)

-- the message of a stop, or of out of memory
abbrev pub IsSaid : Answer → ℕ → Seen → ℕ → Type 0
IsSaid a room err code = (Fills a.line room err × (code ≡ a.status)) ⊎ (Fills memory_line room err × (code ≡ 7))

-- the status of a check after a file of which this is refused
abbrev pub status_after : {T : Type 0} → ℕ → List T → ℕ
status_after code mistakes = if eqb (length mistakes) 0 then code else 4
