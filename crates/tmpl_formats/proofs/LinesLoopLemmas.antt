-- Lines are gone over byte by byte.
use Rattle.std.proofs.Common.{◌≡◌, ◌≢◌, ◌≤◌, ◌<◌, ◌+◌, ◌-◌, ◌==◌, ℕ, Bool, true, false, cond, List, [], ◌∷◌, ◌++◌, length, take, drop, get_or, Option, Some, None, refl, ap, sym, ◌∙◌, arith, length-drop}
use Rattle.std.proofs.lemmas.Grind.{common_steps}
use Rattle.std.proofs.lemmas.List.{at_drop_more, at_drop_all, take_more, get_or-drop, take_all, length-take-le}
use Rattle.std.proofs.lemmas.Str.{IsUtf8-from_is_utf8, is_utf8-from_IsUtf8}
use Rattle.std.specs.Prelude.{◌↔◌, IsTrue, option_map}
use Rattle.std.specs.Str.{IsUtf8, chars, is_utf8}
use Rattle.tmpl_formats.proofs.PatternLinesLemmas.{line_within}
use Rattle.tmpl_formats.proofs.PatternSearchLemmas.{finds_so, finds_back}
use Rattle.tmpl_formats.specs.Pattern.{Finds}
use Rattle.tmpl_formats.specs.computed.Format.{utf8_mistake}
use Rattle.tmpl_formats.specs.computed.Lines.{line_fault, or_later, last_fault, faults, lines_mistake}
use Rattle.tmpl_formats.specs.computed.PatternMarks.{begun, finds}
use Rattle.tmpl_formats.specs.PatternView.{Marks, plain}

-- ---- one line

not_true : (a : Bool) → (a ≡ true → ⊥) → a ≡ false
not_true true h = absurd (h refl)
not_true false h = refl

pub bad_line : (t : Marks) (line : List ℕ) → (IsUtf8 line → ⊥) → utf8_mistake line ≡ line_fault t line
bad_line t line bad = let e = not_true (is_utf8 line) (λ h. bad (IsUtf8-from_is_utf8 line h)) in rw e refl

fault_of : (t : Marks) (line : List ℕ) (found : Bool) → is_utf8 line ≡ true → finds (begun t) (chars line) ≡ found → cond {A = Option ℕ} found None (Some 0) ≡ line_fault t line
fault_of t line found u e = rw (u, e) refl

pub good_line : (t : Marks) (line text : List ℕ) (r : Bool) → text ≡ line → IsUtf8 line → r ≡ true → IsTrue r ↔ Finds (plain t) (chars text) → None ≡ line_fault t line
good_line t line text r same u e both = fault_of t line true (is_utf8-from_IsUtf8 line u) (finds_back t (chars line) (rw same at (both.0 e)))

pub no_match : (t : Marks) (line text : List ℕ) (r : Bool) → text ≡ line → IsUtf8 line → r ≡ false → IsTrue r ↔ Finds (plain t) (chars text) → Some 0 ≡ line_fault t line
no_match t line text r same u e both =
    fault_of t line false (is_utf8-from_IsUtf8 line u)
    (not_true (finds (begun t) (chars line)) (λ h. let yes = both.1 (rw (← same) at (finds_so t (chars line) h)) in let no : r ≡ false = e in absurd (cc)))

-- ---- all lines

-- what is found from a place on, which is within a line that begins at `start`, is what is found in the whole text
pub record IsAtLine (t : Marks) (text : List ℕ) (start offset : ℕ) : Type 0 where
  pub before : start ≤ offset
  pub same : option_map (λ n. start + n) (faults t (take (offset - start) (drop start text)) (drop offset text)) ≡ lines_mistake t text

not_newline : (b : ℕ) → b ≢ 10 → (b == 10) ≡ false
not_newline b h = grind (arith, common_steps)

is_newline : (b : ℕ) → b ≡ 10 → (b == 10) ≡ true
is_newline b h = grind (arith, common_steps)

faults_other : (t : Marks) (line rest : List ℕ) (b : ℕ) → b ≢ 10 → faults t line (b ∷ rest) ≡ faults t (line ++ b ∷ []) rest
unfolding faults
faults_other t line rest b h = rw (not_newline b h) refl

faults_newline : (t : Marks) (line rest : List ℕ) (b : ℕ) → b ≡ 10 → faults t line (b ∷ rest) ≡ or_later (line_fault t line) (length line) (faults t [] rest)
unfolding faults
faults_newline t line rest b h = rw (is_newline b h) refl

longer : (text : List ℕ) (start offset : ℕ) → start ≤ offset → offset < length text
    → take (offset + 1 - start) (drop start text) ≡ take (offset - start) (drop start text) ++ get_or text offset 0 ∷ []
longer text start offset le lt =
    let k : offset + 1 - start ≡ offset - start + 1 = omega arith in
    let inside : offset - start < length (drop start text) = omega (arith, length-drop start text) in
    let at : start + (offset - start) ≡ offset = omega arith in
    let line = take (offset - start) (drop start text) in
    let byte = get_or-drop start text (offset - start) 0 ∙ ap (λ i. get_or text i 0) at in
    ap (λ n. take n (drop start text)) k ∙ (take_more (drop start text) (offset - start) 0 inside ∙ ap (λ b. line ++ b ∷ []) byte)

pub line-goes_on : (t : Marks) (text : List ℕ) (start offset : ℕ) → offset < length text → IsAtLine t text start offset → get_or text offset 0 ≢ 10 → IsAtLine t text start (offset + 1)
line-goes_on t text start offset lt at other =
    let line = take (offset - start) (drop start text) in
    let b = get_or text offset 0 in
    let rest = drop (offset + 1) text in
    let step = at_drop_more (faults t line) text offset 0 lt ∙ faults_other t line rest b other in
    let here = ap (λ l. faults t l rest) (longer text start offset at.before lt) ∙ sym step in
    record { before = (let le = at.before in omega arith); same = ap (λ r. option_map (λ n. start + n) r) here ∙ at.same }

-- a newline
at_newline : (t : Marks) (text : List ℕ) (start offset : ℕ) → offset < length text → IsAtLine t text start offset → get_or text offset 0 ≡ 10
    → option_map (λ n. start + n) (or_later (line_fault t (take (offset - start) (drop start text))) (length (take (offset - start) (drop start text))) (faults t [] (drop (offset + 1) text)))
    ≡ lines_mistake t text
at_newline t text start offset lt at newline =
    let line = take (offset - start) (drop start text) in
    let step = at_drop_more (faults t line) text offset 0 lt ∙ faults_newline t line (drop (offset + 1) text) (get_or text offset 0) newline in
    ap (λ r. option_map (λ n. start + n) r) (sym step) ∙ at.same

pub line-refused : (t : Marks) (text : List ℕ) (start offset n : ℕ) → offset < length text → IsAtLine t text start offset → get_or text offset 0 ≡ 10
    → Some n ≡ line_fault t (take (offset - start) (drop start text)) → Some (start + n) ≡ lines_mistake t text
line-refused t text start offset n lt at newline e = rw (← e) at (at_newline t text start offset lt at newline)

from_next : (r : Option ℕ) (start k next : ℕ) → start + k + 1 ≡ next → option_map (λ n. next + n) r ≡ option_map (λ n. start + n) (option_map (λ n. k + 1 + n) r)
from_next None start k next e = refl
from_next (Some n) start k next e = let f : next + n ≡ start + (k + 1 + n) = omega arith in ap Some f

no_line_yet : (n : ℕ) (xs : List ℕ) → take (n - n) xs ≡ []
no_line_yet n xs = let e : n - n ≡ 0 = omega arith in ap (λ k. take k xs) e

pub line-next : (t : Marks) (text : List ℕ) (start offset : ℕ) → offset < length text → IsAtLine t text start offset → get_or text offset 0 ≡ 10
    → None ≡ line_fault t (take (offset - start) (drop start text)) → IsAtLine t text (offset + 1) (offset + 1)
line-next t text start offset lt at newline e =
    let line = take (offset - start) (drop start text) in
    let rest = drop (offset + 1) text in
    let le = at.before in
    let long : length line ≡ offset - start = length-take-le (offset - start) (drop start text) (omega (arith, length-drop start text)) in
    let next : start + length line + 1 ≡ offset + 1 = omega arith in
    let h = rw (← e) at (at_newline t text start offset lt at newline) in
    record { before = omega arith; same = ap (λ l. option_map (λ n. offset + 1 + n) (faults t l rest)) (no_line_yet (offset + 1) (drop (offset + 1) text)) ∙ (from_next (faults t [] rest) start (length line) (offset + 1) next ∙ h) }

-- the end of the text
faults_end : (t : Marks) (line : List ℕ) → faults t line [] ≡ last_fault t line
unfolding faults
faults_end t line = refl

at_end : (t : Marks) (text : List ℕ) (start offset : ℕ) → offset ≡ length text → IsAtLine t text start offset
    → option_map (λ n. start + n) (last_fault t (drop start text)) ≡ lines_mistake t text
at_end t text start offset is at =
    let le = at.before in
    let whole : take (offset - start) (drop start text) ≡ drop start text = take_all (offset - start) (drop start text) (omega (arith, length-drop start text)) in
    let line = take (offset - start) (drop start text) in
    ap (λ l. option_map (λ n. start + n) (last_fault t l)) (sym whole)
    ∙ (ap (λ r. option_map (λ n. start + n) r) (sym (at_drop_all (faults t line) text offset (omega arith) ∙ faults_end t line)) ∙ at.same)

no_bytes : (xs : List ℕ) → length xs ≡ 0 → xs ≡ []
no_bytes [] e = refl
no_bytes (x ∷ xs) e = absurd (omega arith)

pub text-ends : (t : Marks) (text : List ℕ) (start offset : ℕ) → offset ≡ length text → IsAtLine t text start offset → start ≡ length text → None ≡ lines_mistake t text
text-ends t text start offset is at e =
    let empty = no_bytes (drop start text) (omega (arith, length-drop start text)) in rw empty at (at_end t text start offset is at)

all_left : (text : List ℕ) (start : ℕ) → take (length text - start) (drop start text) ≡ drop start text
all_left text start = take_all (length text - start) (drop start text) (omega (arith, length-drop start text))

last_is : (t : Marks) (line : List ℕ) → 0 < length line → last_fault t line ≡ line_fault t line
last_is t [] h = absurd (omega arith)
last_is t (b ∷ line) h = refl

pub last-line : (t : Marks) (text : List ℕ) (start offset : ℕ) (m : Option ℕ) → offset ≡ length text → IsAtLine t text start offset → start ≢ length text
    → m ≡ line_fault t (take (length text - start) (drop start text)) → option_map (λ n. start + n) m ≡ lines_mistake t text
last-line t text start offset m is at some f =
    let le = at.before in
    let e = f ∙ ap (line_fault t) (all_left text start) in
    let long : 0 < length (drop start text) = omega (arith, length-drop start text) in
    ap (λ r. option_map (λ n. start + n) r) (e ∙ sym (last_is t (drop start text) long)) ∙ at_end t text start offset is at

-- a place in a line is a place in the text
pub place-fits : (t : Marks) (line : List ℕ) (n : ℕ) → Some n ≡ line_fault t line → n ≤ length line
place-fits t line n e = line_within t line n (sym e)

pub last-fits : (t : Marks) (text : List ℕ) (start n : ℕ) → start ≤ length text → Some n ≡ line_fault t (take (length text - start) (drop start text)) → start + n ≤ length text
last-fits t text start n le e =
    let fits = place-fits t (drop start text) n (e ∙ ap (line_fault t) (all_left text start)) in omega (arith, length-drop start text)
