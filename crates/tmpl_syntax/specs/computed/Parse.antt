-- What a file adds to the set, or why it is refused, computed.
use Rattle.std.specs.Prelude.{◌≡◌, ◌+◌, ℕ, Bool, true, false, List, [], ◌∷◌, ◌++◌, Option, Some, None, Result, Ok}
use Rattle.std.specs.Prelude.{Err, length, map, nat_lt, slice_get, if◌then◌else◌}
use Rattle.std.specs.Borrow.{Bor}
use Rattle.tmpl_lex.specs.Text.{newlines}
use Rattle.tmpl_lex.specs.computed.Cut.{cut_of}
use Rattle.tmpl_syntax.specs.Tree.{Definition}
use Rattle.tmpl_syntax.specs.Spelling.{definition}
use Rattle.tmpl_syntax.specs.Item.{Item, item}
pub use Rattle.tmpl_syntax.specs.Parse.{Refusal}
use Rattle.tmpl_syntax.specs.Parse.{Parses, ParsesUnless, base_name, most_bytes, template_in}
use Rattle.tmpl_syntax.specs.Place.Role.{Name, roles_of}
use Rattle.tmpl_syntax.specs.computed.Frames.{Verdict, fine, refused, left_open}
use Rattle.tmpl_syntax.specs.Fault.{Reason, open_at_end, too_long, second_definition, reason_of}
use Rattle.tmpl_syntax.specs.Set.{Template, is_blank, defined_each}
use Rattle.tmpl_syntax.specs.computed.Item.{items_in}
use Rattle.tmpl_syntax.specs.computed.Frames.{is_known, verdict_of}
use Rattle.tmpl_syntax.specs.computed.Build.{nodes_from, definitions_from}
use Rattle.tmpl_syntax.specs.declared.fault.ParseFault.{ParseFault}
use Rattle.tmpl_syntax.specs.declared.fault.Refusal as held

-- the line of the end of a file
abbrev pub last_line : List ℕ → ℕ
last_line bytes = newlines bytes + 1

abbrev pub line_in : Option Item → ℕ
line_in None = 1
line_in (Some (item line what)) = line

-- the line of the item at a place
abbrev pub line_at : List Item → ℕ → ℕ
line_at items i = line_in (slice_get items i)

abbrev pub by_verdict : ℕ → List Item → Verdict → Result (Unit {0}) Refusal
by_verdict last items fine = Ok tt
by_verdict last items (refused i reason) = Err (line_at items i, reason)
by_verdict last items left_open = Err (last, open_at_end)

-- the refusal of the first item that is refused, or at its last line of a file that ends inside what is open
unfoldable pub checked : List ℕ → List Item → Result (Unit {0}) Refusal
checked bytes items = by_verdict (last_line bytes) items (verdict_of (roles_of items))

-- of a definition that is blank or not, and whose name is among those before it or not: what stands after it decides
-- unless it is a second one; a blank one is none, and no other is a second one of it
abbrev pub second_if : Bool → Bool → ℕ → Option ℕ → Option ℕ → Option ℕ
second_if true known line without with_it = without
second_if false true line without with_it = Some line
second_if false false line without with_it = with_it

-- the line of the first second definition, after definitions of these names that are not blank
abbrev pub second_from : List Name → List Definition → Option ℕ
second_from names [] = None
second_from names (d ∷ ds) =
    second_if (is_blank d.nodes) (is_known names d.name) d.line (second_from names ds)
    (second_from (names ++ d.name ∷ []) ds)

unfoldable pub second_in : List Definition → Option ℕ
second_in ds = second_from [] ds

abbrev pub unless_second : Option ℕ → List Definition → Result (List Definition) Refusal
unless_second None ds = Ok ds
unless_second (Some line) ds = Err (line, second_definition)

abbrev pub definitions_or : Result (Unit {0}) Refusal → List Definition → Result (List Definition) Refusal
definitions_or (Ok u) ds = unless_second (second_in ds) ds
definitions_or (Err r) ds = Err r

-- the definitions of items, and after them their own of this name
abbrev pub all_from : List ℕ → List Item → List Definition
all_from name items = definitions_from items ++ definition 1 name (nodes_from items) ∷ []

-- the definitions of a file, or its refusal
abbrev pub bodies_of : List ℕ → List ℕ → List Item → Result (List Definition) Refusal
bodies_of file bytes items = definitions_or (checked bytes items) (all_from (base_name file) items)

abbrev pub add_definitions : List Template → List ℕ → Result (List Definition) Refusal → Result (List Template) Refusal
add_definitions set file (Ok ds) = Ok (defined_each set (map (template_in file) ds))
add_definitions set file (Err r) = Err r

-- the items of a file: the one list that its bytes are cut into and read as
abbrev pub items_of : List ℕ → List Item
items_of bytes = items_in (cut_of bytes)

-- the set with the file's templates, or the refusal
unfoldable pub parsed : List Template → List ℕ → List ℕ → Result (List Template) Refusal
parsed set file bytes =
    if nat_lt most_bytes (length bytes) then Err (1, too_long)
    else add_definitions set file (bodies_of file bytes (items_of bytes))

-- what is known of a refusal: not which one it is where memory ran out
abbrev pub IsRefusal : {T : Type 0} → Result T Refusal → ℕ → Option Reason → Type 0
IsRefusal r line None = line ≡ 1
IsRefusal r line (Some reason) = r ≡ Err (line, reason)

abbrev pub IsParse : List Template → Bor (List ℕ) → List ℕ → List Template → Result (Unit {0}) ParseFault → Type 0
IsParse old file bytes new (Ok u) = parsed old file.now bytes ≡ Ok new
IsParse old file bytes new (Err fault) =
    (fault.file ≡ file) × (new ≡ old) × IsRefusal (parsed old file.now bytes) fault.line (reason_of fault.kind)

-- ---- the steps from a file to the set

-- what comes of a file, a refusal with the path of the file
abbrev pub with_file : Bor (List ℕ) → Result (Unit {0}) held.Refusal → Result (Unit {0}) ParseFault
with_file file (Ok u) = Ok u
with_file file (Err r) = Err (record { file = file; line = r.line; kind = r.kind })

abbrev pub IsSecondAt : Option ℕ → ℕ → Option Reason → Type 0
IsSecondAt second line None = line ≡ 1
IsSecondAt second line (Some reason) = (second ≡ Some line) × (reason ≡ second_definition)

-- the items of a file
abbrev pub IsChecked : List ℕ → List Item → Result (Unit {0}) held.Refusal → Type 0
IsChecked bytes items (Ok u) = checked bytes items ≡ Ok tt
IsChecked bytes items (Err r) = IsRefusal (checked bytes items) r.line (reason_of r.kind)

-- the same of definitions with where they begin in place of their lines; want of memory is at no place
abbrev pub IsSecondFrom : Option ℕ → ℕ → Option Reason → Type 0
IsSecondFrom second start None = Unit {0}
IsSecondFrom second start (Some reason) = second ≡ Some start

abbrev pub IsSecondBegun : List Definition → Result (Unit {0}) held.Refusal → Type 0
IsSecondBegun ds (Ok u) = Unit {0}
IsSecondBegun ds (Err r) = IsSecondFrom (second_in ds) r.start (reason_of r.kind)

-- none of the definitions is a second one
abbrev pub IsOnce : List Definition → Result (Unit {0}) held.Refusal → Type 0
IsOnce ds (Ok u) = second_in ds ≡ None
IsOnce ds (Err r) = IsSecondAt (second_in ds) r.line (reason_of r.kind)

-- a file, and the set before and after
abbrev pub IsAdded : List Template → List ℕ → List ℕ → List Template → Result (Unit {0}) held.Refusal → Type 0
IsAdded old file bytes new (Ok u) = parsed old file bytes ≡ Ok new
IsAdded old file bytes new (Err r) = (new ≡ old) × IsRefusal (parsed old file bytes) r.line (reason_of r.kind)

-- what comes of a file, where it is not named
abbrev pub IsReadingOf : List Template → List ℕ → List ℕ → List Template → Result (Unit {0}) held.Refusal → Type 0
IsReadingOf old file bytes new (Ok u) = Parses old file bytes (Ok new)
IsReadingOf old file bytes new (Err r) = (new ≡ old) × ParsesUnless old file bytes r.line (reason_of r.kind)
