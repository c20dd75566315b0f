-- Lines without a fault have a match.
use Rattle.std.proofs.Common.{◌≡◌, ◌≤◌, ◌+◌, ◌==◌, ℕ, Bool, true, false, cond, List, [], ◌∷◌, ◌++◌, length, Option, Some, None, refl, ap, arith, append_assoc, length-append}
use Rattle.std.proofs.lemmas.Grind.{common_steps}
use Rattle.std.proofs.lemmas.Str.{utf8_valid_len_le}
use Rattle.std.specs.Prelude.{not, ◌&&◌}
use Rattle.std.specs.List.{list_all}
use Rattle.std.specs.Str.{chars, is_utf8}
use Rattle.std.specs.Str.Lossy.{utf8_valid_len}
use Rattle.tmpl_formats.proofs.PatternPlaces.{append_nil}
use Rattle.tmpl_formats.proofs.PatternSearchLemmas.{finds_so}
use Rattle.tmpl_formats.specs.Pattern.{Finds}
use Rattle.tmpl_formats.specs.PatternLines.{is_inside, HaveMatch, no_line, last_line, more_lines}
use Rattle.tmpl_formats.specs.computed.Lines.{line_fault, or_later, last_fault, faults, lines_mistake}
use Rattle.tmpl_formats.specs.computed.PatternMarks.{begun, finds}
use Rattle.tmpl_formats.specs.PatternView.{Marks, plain}

fine_cases : (u f : Bool) (n : ℕ) → cond u (cond {A = Option ℕ} f None (Some 0)) (Some n) ≡ None → f ≡ true
fine_cases true true n h = refl
fine_cases _ _ n h = cc

fine : (t : Marks) (line : List ℕ) → line_fault t line ≡ None → Finds (plain t) (chars line)
fine t line h = finds_so t (chars line) (fine_cases (is_utf8 line) (finds (begun t) (chars line)) (utf8_valid_len line) h)

no_fault : (m : Option ℕ) (n : ℕ) (r : Option ℕ) → or_later m n r ≡ None → (m ≡ None) × (r ≡ None)
no_fault None n None h = (refl, refl)
no_fault _ n _ h = cc

all_split : (a b c : Bool) → (a && b) ≡ true → (b ≡ true → c ≡ true) → (a && c) ≡ true
all_split true b c h f = f h
all_split false b c h f = h

all_push : (p : ℕ → Bool) (xs : List ℕ) (x : ℕ) → list_all p xs ≡ true → p x ≡ true → list_all p (xs ++ x ∷ []) ≡ true
all_push p [] x h e = rw e refl
all_push p (y ∷ xs) x h e = all_split (p y) (list_all p xs) (list_all p (xs ++ x ∷ [])) h (λ k. all_push p xs x k e)

where_last : (t : Marks) (line : List ℕ) → list_all is_inside line ≡ true → last_fault t line ≡ None → HaveMatch (plain t) line
where_last t [] inside h = no_line
where_last t (b ∷ line) inside h = last_line inside (fine t (b ∷ line) h)

equal_of : (m n : ℕ) → (m == n) ≡ true → m ≡ n
equal_of m n = grind (arith, common_steps)

newline_match : (t : Marks) (line text : List ℕ) → list_all is_inside line ≡ true → Finds (plain t) (chars line) → HaveMatch (plain t) text → HaveMatch (plain t) (line ++ 10 ∷ text)
newline_match t line text inside found rest = rw (← append_assoc line (10 ∷ []) text) (more_lines line text inside found rest)

at_byte : (e : Bool) (t : Marks) (b : ℕ) (text line : List ℕ) → ((line : List ℕ) → list_all is_inside line ≡ true → faults t line text ≡ None → HaveMatch (plain t) (line ++ text))
    → (b == 10) ≡ e → list_all is_inside line ≡ true
    → cond e (or_later (line_fault t line) (length line) (faults t [] text)) (faults t (line ++ b ∷ []) text) ≡ None → HaveMatch (plain t) (line ++ b ∷ text)
at_byte true t b text line known e inside h =
    let both = no_fault (line_fault t line) (length line) (faults t [] text) h in
    rw (equal_of b 10 e) (newline_match t line text inside (fine t line both.0) (known [] refl both.1))
at_byte false t b text line known e inside h = rw (← append_assoc line (b ∷ []) text) (known (line ++ b ∷ []) (all_push is_inside line b inside (ap not e)) h)

lines_fine : (t : Marks) (text line : List ℕ) → list_all is_inside line ≡ true → faults t line text ≡ None → HaveMatch (plain t) (line ++ text)
unfolding faults
lines_fine t [] line inside h = rw (append_nil line) (where_last t line inside h)
lines_fine t (b ∷ text) line inside h = at_byte (b == 10) t b text line (lines_fine t text) refl inside h

-- what is not refused has lines with a match
pub lines_within : (t : Marks) (text : List ℕ) → lines_mistake t text ≡ None → HaveMatch (plain t) text
lines_within t text h = lines_fine t text [] refl h

-- ---- a fault is in the text

fault_cases : (u f : Bool) (m n most : ℕ) → m ≤ most → cond u (cond {A = Option ℕ} f None (Some 0)) (Some m) ≡ Some n → n ≤ most
fault_cases true true m n most le h = cc
fault_cases true false m n most le h = let is : 0 ≡ n = cc in omega arith
fault_cases false f m n most le h = let is : m ≡ n = cc in omega arith

pub line_within : (t : Marks) (line : List ℕ) (n : ℕ) → line_fault t line ≡ Some n → n ≤ length line
line_within t line n h = fault_cases (is_utf8 line) (finds (begun t) (chars line)) (utf8_valid_len line) n (length line) (utf8_valid_len_le line) h

last_within : (t : Marks) (line : List ℕ) (n : ℕ) → last_fault t line ≡ Some n → n ≤ length line
last_within t [] n h = cc
last_within t (b ∷ line) n h = line_within t (b ∷ line) n h

later_within : (m : Option ℕ) (k : ℕ) (r : Option ℕ) (more n : ℕ) → ((n : ℕ) → m ≡ Some n → n ≤ k) → ((n : ℕ) → r ≡ Some n → n ≤ more) → or_later m k r ≡ Some n → n ≤ k + (more + 1)
later_within (Some m) k r more n f g h = let e : m ≡ n = cc in let le = f m refl in omega arith
later_within None k None more n f g h = cc
later_within None k (Some r) more n f g h = let e : k + 1 + r ≡ n = cc in let le = g r refl in omega arith

byte_within : (e : Bool) (t : Marks) (b : ℕ) (text line : List ℕ) (n : ℕ) → ((line : List ℕ) (n : ℕ) → faults t line text ≡ Some n → n ≤ length line + length text)
    → cond e (or_later (line_fault t line) (length line) (faults t [] text)) (faults t (line ++ b ∷ []) text) ≡ Some n → n ≤ length line + (length text + 1)
byte_within true t b text line n known h =
    later_within (line_fault t line) (length line) (faults t [] text) (length text) n (line_within t line) (λ n k. let le = known [] n k in omega arith) h
byte_within false t b text line n known h = let le = known (line ++ b ∷ []) n h in omega (arith, length-append line (b ∷ []))

faults_within : (t : Marks) (text line : List ℕ) (n : ℕ) → faults t line text ≡ Some n → n ≤ length line + length text
unfolding faults
faults_within t [] line n h = let le = last_within t line n h in omega arith
faults_within t (b ∷ text) line n h = let le = byte_within (b == 10) t b text line n (faults_within t text) h in omega arith

pub lines_mistake_within : (t : Marks) (text : List ℕ) (n : ℕ) → lines_mistake t text ≡ Some n → n ≤ length text
lines_mistake_within t text n h = let le = faults_within t text [] n h in omega arith
