-- What a part of a file adds to what is found.
use Rattle.std.specs.Prelude.{◌≡◌, ◌≤◌, ◌+◌, ◌==◌, ◌&&◌, ℕ, Bool, List, [], ◌∷◌, ◌++◌, length, map, fold, true, false}
use Rattle.std.specs.Prelude.{Option, Some, None, string_bytes, All, if◌then◌else◌}
use Rattle.std.specs.List.{AllZip, enumerate_from, list_any}
use Rattle.std.specs.Str.{bytes_eq}
use Rattle.std.specs.Borrow.{Bor}
use Rattle.tmpl_lex.specs.Begin.{BeginsAt}
use Rattle.tmpl_lex.specs.Piece.{Token}
use Rattle.tmpl_lex.specs.View.{token_of}
use Rattle.tmpl_lex.specs.declared.part.AfterText.{AfterText}
use Rattle.tmpl_lex.specs.declared.part.AfterText.TheVariants as variant
use Rattle.tmpl_lex.specs.declared.piece.Token as held
use Rattle.tmpl_syntax.specs.Column.{IsPlace}
use Rattle.tmpl_syntax.specs.declared.column.Place.{Place}
use Rattle.tmpl_problems.specs.declared.survey.Named.{Named}
use Rattle.tmpl_problems.specs.declared.survey.Variable.{Variable}
use Rattle.tmpl_problems.specs.declared.survey.Warning.{Warning}
use Rattle.tmpl_problems.specs.Survey.{Declared, is_used, named_place, warned_place}
use Rattle.tmpl_problems.specs.Tokens.{declared_names, used_names}

-- the tokens of the action after a text; none where no action stands there
abbrev pub action_tokens : AfterText → List held.Token → List Token
action_tokens variant.Nothing ts = []
action_tokens other ts = map token_of ts

-- a name is added, reported there
pub record AddsOne (file : List ℕ) (opens : ℕ) (name : List ℕ) (old new : List Named) : Type 0 where
  pub one : Named
  pub added : new ≡ old ++ one ∷ []
  pub name_is : one.name.now ≡ name
  pub start : opens ≤ length file → one.start ≡ opens
  pub place : IsPlace file (named_place one)

-- .. if there is one
abbrev pub AddsName : List ℕ → ℕ → Option (List ℕ) → List Named → List Named → Type 0
AddsName file opens None old new = new ≡ old
AddsName file opens (Some name) old new = AddsOne file opens name old new

-- an action is added that fails, reported there
pub record AddsAction (file : List ℕ) (opens : ℕ) (old new : List Warning) : Type 0 where
  pub one : Warning
  pub added : new ≡ old ++ one ∷ []
  pub start : opens ≤ length file → one.start ≡ opens
  pub place : IsPlace file (warned_place one)

-- .. if it does
abbrev pub AddsFailing : List ℕ → ℕ → Bool → List Warning → List Warning → Type 0
AddsFailing file opens false old new = new ≡ old
AddsFailing file opens true old new = AddsAction file opens old new

-- a warning of a sign is added, reported there
pub record AddsWarning (file : List ℕ) (start : ℕ) (at : ℕ × List ℕ) (old new : List Warning) : Type 0 where
  pub one : Warning
  pub added : new ≡ old ++ one ∷ []
  pub start_is : one.start ≡ start + at.0
  pub words : string_bytes one.text ≡ at.1
  pub place : IsPlace file (warned_place one)

abbrev pub AddsSign : List ℕ → ℕ → Option (ℕ × List ℕ) → List Warning → List Warning → Type 0
AddsSign file start None old new = new ≡ old
AddsSign file start (Some at) old new = AddsWarning file start at old new

-- the variables are noted at places of the file
abbrev pub ArePlaced : List ℕ → List (Bor (List ℕ) × Variable) → Type 0
ArePlaced file entries = All (λ e. IsPlace file e.1.place) entries

-- a variable is noted, unless one of its name is
abbrev pub note : Bor (List ℕ) → Variable → List (Bor (List ℕ) × Variable) → List (Bor (List ℕ) × Variable)
note name v entries = if list_any (λ e. bytes_eq name.now e.0.now) entries then entries else entries ++ (name, v) ∷ []

-- the first variable of this name is used
abbrev pub mark : List ℕ → List (Bor (List ℕ) × Variable) → List (Bor (List ℕ) × Variable)
mark name [] = []
mark name (e ∷ es) =
    if bytes_eq name e.0.now then (e.0, record { place = e.1.place; is_used = true }) ∷ es else e ∷ mark name es

-- variables of these names are noted, of which there are as many together, at a place
abbrev pub note_each : Place → ℕ → List (Bor (List ℕ)) → List (Bor (List ℕ) × Variable) → List (Bor (List ℕ) × Variable)
note_each place count names entries =
    fold (λ es x. note x.1 (record { place = place; is_used = count == 2 && x.0 == 0 }) es) entries (enumerate_from 0 names)

-- .. of these names are used
abbrev pub mark_each : List (List ℕ) → List (Bor (List ℕ) × Variable) → List (Bor (List ℕ) × Variable)
mark_each names entries = fold (λ es name. mark name es) entries names

-- the variables that an action declares are noted, where it opens
pub record Notes (file : List ℕ) (opens : ℕ) (declared : List (List ℕ)) (old new : List (Bor (List ℕ) × Variable)) : Type 0 where
  pub names : List (Bor (List ℕ))
  pub names_are : map (λ (name : Bor (List ℕ)). name.now) names ≡ declared
  pub place : Place
  pub is_place : IsPlace file place
  pub start : opens ≤ length file → place.start ≡ opens
  pub entries : new ≡ note_each place (length names) names old

-- .. and then those that it uses are used
pub record Passes (file : List ℕ) (opens : ℕ) (ts : List Token) (old new : List (Bor (List ℕ) × Variable)) : Type 0 where
  pub noted : List (Bor (List ℕ) × Variable)
  pub notes : Notes file opens (declared_names ts) old noted
  pub marks : new ≡ mark_each (used_names ts) noted

-- the variable is noted, as it is declared there and used so far
pub record IsNoted (file : List ℕ) (uses : List (ℕ × List ℕ)) (d : Declared) (e : Bor (List ℕ) × Variable) : Type 0 where
  pub name : e.0.now ≡ d.name
  pub used : e.1.is_used ≡ is_used uses d
  pub begins : BeginsAt file d.piece e.1.place.start
  pub place : IsPlace file e.1.place

-- more is added, in which each of these is reported
pub record AddsZip {A B : Type 0} (R : A → B → Type 0) (xs : List A) (old new : List B) : Type 0 where
  pub more : List B
  pub added : new ≡ old ++ more
  pub told : AllZip R xs more

-- more is added, of which this holds
pub record AddsAll {B : Type 0} (P : B → Type 0) (old new : List B) : Type 0 where
  pub more : List B
  pub added : new ≡ old ++ more
  pub all : All P more
