-- CSV (RFC 4180), with as many fields in each record. A newline may stand in place of CRLF.
use Rattle.std.specs.Prelude.{◌≡◌, ◌≢◌, ℕ, suc, Bool, true, not, ◌&&◌, ◌==◌, List, [], ◌∷◌, ◌++◌, codes}
use Rattle.std.specs.List.{list_all}
use Rattle.std.specs.Str.{byte}

-- a byte of a field without quotes
abbrev pub is_bare : ℕ → Bool
is_bare b = not (b == 0) && not (b == byte "\"") && not (b == byte ",") && not (b == byte "\n") && not (b == byte "\r")

-- a byte between quotes that stands for itself
abbrev pub is_inside : ℕ → Bool
is_inside b = not (b == 0) && not (b == byte "\"")

-- what stands between quotes: two quotes stand for one
pub data IsInside : List ℕ → Type 0 where
  nothing : IsInside []
  plain : {b : ℕ} {bs : List ℕ} → is_inside b ≡ true → IsInside bs → IsInside (b ∷ bs)
  doubled : {bs : List ℕ} → IsInside bs → IsInside (codes "\"\"" ++ bs)

pub data IsField : List ℕ → Type 0 where
  bare : {bs : List ℕ} → list_all is_bare bs ≡ true → IsField bs
  quoted : (bs : List ℕ) → IsInside bs → IsField (codes "\"" ++ (bs ++ codes "\""))

-- this many fields, with commas between them
pub data IsFields : ℕ → List ℕ → Type 0 where
  last : {field : List ℕ} → IsField field → IsFields 1 field
  more : {count : ℕ} (field fields : List ℕ) → IsField field → IsFields count fields → IsFields (suc count) (field ++ (codes "," ++ fields))

-- a record, which is no empty line: readers take that for a record of no field, for one of one field, or for none
pub record IsRecord (columns : ℕ) (line : List ℕ) : Type 0 where
  pub fields : IsFields columns line
  pub some : line ≢ []

pub data IsNewline : List ℕ → Type 0 where
  newline : IsNewline (codes "\n")
  return_newline : IsNewline (codes "\r\n")

-- records, with a newline after each, though the last may have none
pub data IsCsv (columns : ℕ) : List ℕ → Type 0 where
  empty : IsCsv columns []
  last_record : {line : List ℕ} → IsRecord columns line → IsCsv columns line
  more_records : (line end rest : List ℕ) → IsRecord columns line → IsNewline end → IsCsv columns rest → IsCsv columns (line ++ (end ++ rest))
