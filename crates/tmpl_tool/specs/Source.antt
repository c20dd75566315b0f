-- What a source tells, and what a read answers.
use Rattle.std.specs.Prelude.{◌≡◌, ◌<◌, ◌⊎◌, ◌+◌, ◌++◌, ℕ, List, [], ◌∷◌, length, Option, Some, None, Result, Ok, Err}
use Rattle.std.specs.Prelude.{IfSome, Vec, option_map}
use Rattle.tmpl_tool.specs.declared.files.source.SourceFault.{SourceFault}
use Rattle.tmpl_tool.specs.declared.files.source.SourceFault.TheVariants as fault

abbrev pub Bytes : Type 0
Bytes = List ℕ

-- what stands under each name, or nothing
abbrev pub Files : Type 0
Files = Bytes → Option Bytes

-- a read, with the count of failures before and after it: where the contents of the files are stated, this one has
-- these bytes, or is not there
abbrev pub IsRead : {Z : Type 0} → Option Files → Bytes → ℕ → ℕ → Result (Vec ℕ Z) SourceFault → Type 0
IsRead told name was is (Ok bytes) = (is ≡ was) × IfSome told (λ files. files name ≡ Some bytes.items)
IsRead told name was is (Err fault.NotFound) = (is ≡ was) × IfSome told (λ files. files name ≡ None)
IsRead told name was is (Err fault.Failed) = is ≡ was + 1
IsRead told name was is (Err fault.OutOfMemory) = is ≡ was

-- where the contents of the files are stated, this one begins with these bytes, and they are all of it or more than
-- this many
abbrev pub TellsFront : ℕ → Option Files → Bytes → Bytes → Type 0
TellsFront most told name bytes = IfSome told (λ files.
    (rest : Bytes) × (files name ≡ Some (bytes ++ rest)) × ((rest ≡ []) ⊎ (most < length bytes)))

-- a read that may stop after this many bytes
abbrev pub IsReadUpTo : {Z : Type 0} → ℕ → Option Files → Bytes → ℕ → ℕ → Result (Vec ℕ Z) SourceFault → Type 0
IsReadUpTo most told name was is (Ok bytes) = (is ≡ was) × TellsFront most told name bytes.items
IsReadUpTo {Z} most told name was is (Err e) = IsRead {Z = Z} told name was is (Err e)

-- the names that were asked for, where a source tells them: before, and after these too, one after the other
abbrev pub Asked : Option (List Bytes) → Option (List Bytes) → List Bytes → Type 0
Asked before after names = after ≡ option_map (λ asked. asked ++ names) before

-- a read asks for its name, but for one for which memory ran out
abbrev pub Asks : {T : Type 0} → Option (List Bytes) → Bytes → Result T SourceFault → Option (List Bytes) → Type 0
Asks before name (Err fault.OutOfMemory) after = Asked before after []
Asks before name r after = Asked before after (name ∷ [])
