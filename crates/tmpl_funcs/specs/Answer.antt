-- Which answers hold no made text, which alone takes memory to share.
use Rattle.std.specs.Prelude.{◌≡◌, List, [], ◌∷◌, false, Result, Ok, Err}
use Rattle.tmpl_values.specs.View.{is_made}
use Rattle.tmpl_values.specs.declared.value.Val.{Val}
use Rattle.tmpl_values.specs.declared.value.Cell.{Cell}

-- no value in the cells is a made text
abbrev pub AreBorrowed : List Cell → Type 0
AreBorrowed [] = Unit {0}
AreBorrowed (c ∷ cells) = (is_made c.val ≡ false) × AreBorrowed cells

-- the answer, if there is one, is no made text
abbrev pub IsBorrowed : {E : Type 0} → Result Val E → Type 0
IsBorrowed (Ok v) = is_made v ≡ false
IsBorrowed (Err e) = Unit {0}
