-- What instructions name in tables.
use Rattle.std.specs.Prelude.{◌≡◌, ℕ, ◌+◌, Bool, true, List, ◌++◌, length, nat_lt, nat_le}
use Rattle.tmpl_code.specs.declared.instruction.Instruction as held_instruction
use Rattle.tmpl_code.specs.declared.instruction.Instruction.TheVariants as i
use Rattle.tmpl_code.specs.View.{names_of}
use Rattle.tmpl_code.specs.declared.tables.Tables.{Tables}

-- what an instruction names is in the tables
abbrev pub fits : Tables → held_instruction.Instruction → Bool
fits t (i.Put place line) = nat_lt place (length t.texts.items)
fits t (i.PushText place) = nat_lt place (length t.spans.items)
fits t (i.PushFields span) = nat_le (span.start + span.count) (length t.spans.items)
fits t (i.ShowFields names line) = nat_le (names.start + names.count) (length t.spans.items)
fits t (i.ShowSlotField slot name line) = nat_lt name (length t.spans.items)
fits t (i.Chain span) = nat_le (span.start + span.count) (length t.spans.items)
fits t (i.RefuseTemplate place) = nat_lt place (length t.spans.items)
fits t i = true

-- tables hold what they held before, and may hold more after it
pub record Grows (before after : Tables) : Type 0 where
  pub texts : List (List ℕ)
  pub names : List (List ℕ)
  pub texts_so : after.texts.items ≡ before.texts.items ++ texts
  pub names_so : names_of after ≡ names_of before ++ names
