-- For `cut` and the law `one_cut`: the pieces of a whole file, from part to part.
use Rattle.std.proofs.Common.{arith, ◌≡◌, ℕ, zero, suc, ◌+◌, ◌-◌, ◌<◌, ◌≤◌, Bool, true, false, ◌&&◌, List, [], ◌∷◌, ◌++◌, Option, Some, None, refl, sym, ap}
use Rattle.std.proofs.Common.{subst, ◌∙◌, length, drop, option_map, append_assoc, length-append, nat_eq}
use Rattle.std.proofs.lemmas.Bool.{eqb-true, and_parts, both_ways, false_from_ne_true}
use Rattle.std.proofs.Math.Seq.{take-append_seam}
use Rattle.tmpl_lex.specs.Bytes.{is_space, Absent, BeginsNone}
use Rattle.tmpl_lex.specs.Cut.{TextBefore, Cuts, last, closed, unclosed}
use Rattle.tmpl_lex.specs.Delimiter.{IsLeftMarker, left_marker, Opens, opens, opens_marked}
use Rattle.tmpl_lex.specs.Piece.{Piece, action, unreadable}
use Rattle.tmpl_lex.specs.Text.{newlines}
use Rattle.tmpl_lex.specs.computed.Action.{Opened, comment, tokens, neither, opened}
use Rattle.tmpl_lex.specs.computed.Cut.{with_rest, cut_within, cut_of}
use Rattle.tmpl_lex.specs.computed.Part.{Rest, stretch, split_open, rest_past, part_from, part_of, pieces_of, ends_at}
use Rattle.tmpl_lex.specs.computed.Text.{texts}
use Rattle.tmpl_lex.specs.computed.Trim.{End, left_marked, past_left, after_marker}
use Rattle.tmpl_lex.proofs.PartLemmas.{absent-none, none-absent, absent-split, split-is}
use Rattle.tmpl_lex.proofs.SpellsLemmas.{HasClosed, AtOpened, opened-closed, closed-opened, neither-closed, closed-neither}
use Rattle.tmpl_lex.proofs.TextLemmas.{texts-made, texts-only}

-- ---- what opens

-- the bytes after a `{{`: its marker, and what stands after that
pub record HasMarker (after : List ℕ) (left : Bool) (rest : List ℕ) : Type 0 where
  pub marker : List ℕ
  pub opens : Opens left (123 ∷ 123 ∷ marker) rest
  pub is : after ≡ marker ++ rest

marker-marked : {marker : List ℕ} (rest : List ℕ) → IsLeftMarker marker → left_marked (marker ++ rest) ≡ true
marker-marked rest (left_marker e) = e

marker-is : (after : List ℕ) → left_marked after ≡ true → HasMarker after true (drop 2 after)
marker-is [] e = cc
marker-is (a ∷ []) e = cc
marker-is (a ∷ w ∷ after) e =
    let both = and_parts (nat_eq a 45) (is_space w) e in record {
      marker = 45 ∷ w ∷ [];
      opens = opens_marked (left_marker both.1);
      is = ap (λ k. k ∷ w ∷ after) (eqb-true a 45 both.0);
    }

pub has-marker : (after : List ℕ) → HasMarker after (left_marked after) (past_left after)
has-marker after = go (left_marked after) refl
  where
    go : (t : Bool) → left_marked after ≡ t → HasMarker after t (after_marker t after)
    go true e = marker-is after e
    go false e = record {
      marker = [];
      opens = opens (λ xs ys m is. both_ways (left_marked after) e (ap left_marked is ∙ marker-marked ys m));
      is = refl;
    }

unmarked-bare : (rest : List ℕ) → BeginsNone IsLeftMarker rest → left_marked rest ≡ false
unmarked-bare [] h = refl
unmarked-bare (a ∷ []) h = refl
unmarked-bare (a ∷ w ∷ rest) h = false_from_ne_true (nat_eq a 45 && is_space w) (λ e.
    let both = and_parts (nat_eq a 45) (is_space w) e in
    h (45 ∷ w ∷ []) rest (left_marker both.1) (ap (λ k. k ∷ w ∷ rest) (eqb-true a 45 both.0)))

-- what is computed of the text before an action or comment, and of what opens there
record IsLed (right : Bool) (line : ℕ) (before opening rest : List ℕ) (pieces : List Piece) : Type 0 where
  after : List ℕ
  opens : split_open (before ++ (opening ++ rest)) ≡ Some (before, after)
  past : past_left after ≡ rest
  pieces_are : pieces ≡ texts right (left_marked after) line before

is-led : {right left : Bool} {line : ℕ} {before opening rest : List ℕ} {pieces : List Piece} → Absent (123 ∷ 123 ∷ []) (before ++ 123 ∷ [])
    → Opens left opening rest → pieces ≡ texts right left line before → IsLed right line before opening rest pieces
is-led {before = before} first (opens {rest = rest} h) t =
    let bare = unmarked-bare rest h in
    record { after = rest; opens = absent-split 123 123 before rest first; past = simp bare; pieces_are = simp (t, bare) }
is-led {before = before} first (opens_marked {rest = rest} (left_marker {w = w} e)) t = record {
  after = 45 ∷ w ∷ rest;
  opens = absent-split 123 123 before (45 ∷ w ∷ rest) first;
  past = simp e;
  pieces_are = simp (t, e);
}

-- ---- a part is cut off

abbrev CutsRest : Rest → List Piece → Type 0
CutsRest r ps = Cuts r.trims r.line r.bytes ps

-- these pieces come before whatever the rest after them is cut into
pub record IsBefore (r : Rest) (ps : List Piece) (beyond : Rest) : Type 0 where
  pub front : List ℕ
  pub is : r.bytes ≡ front ++ beyond.bytes
  pub some : 2 ≤ length front
  pub line : beyond.line ≡ r.line + newlines front
  pub cuts : (more : List Piece) → CutsRest beyond more → CutsRest r (ps ++ more)

-- .. or they are all there is
abbrev pub IsPart : Rest → List Piece → Option Rest → Type 0
IsPart r ps None = CutsRest r ps
IsPart r ps (Some beyond) = IsBefore r ps beyond

pub stretch-is : (bs front rest : List ℕ) → bs ≡ front ++ rest → stretch bs rest ≡ front
stretch-is bs front rest e =
    let count : length (front ++ rest) - length rest ≡ length front = omega (arith, length-append front rest) in
    simp (e, count, take-append_seam)

pub part-is : (r : Rest) → IsPart r (part_of r).0 (part_of r).1
part-is r = go (split_open r.bytes) refl
  where
    leads : (before after : List ℕ) (m : HasMarker after (left_marked after) (past_left after)) → Absent (123 ∷ 123 ∷ []) (before ++ 123 ∷ [])
        → TextBefore r.trims r.line before (123 ∷ 123 ∷ m.marker) (past_left after) (texts r.trims (left_marked after) r.line before)
    leads before after m first =
        record { left = left_marked after; first = first; opens = m.opens; texts = texts-made r.trims (left_marked after) r.line before }

    before-rest : (before after : List ℕ) → split_open r.bytes ≡ Some (before, after) → (e : End) (ps : List Piece)
        → HasClosed (r.line + newlines before) (past_left after) e ps
        → IsBefore r (texts r.trims (left_marked after) r.line before ++ ps) (rest_past r.bytes r.line e)
    before-rest before after split e ps c =
        let s = split-is 123 123 r.bytes (before, after) split in
        let m = has-marker after in
        let front : List ℕ = before ++ 123 ∷ 123 ∷ m.marker ++ c.body in
        let whole : r.bytes ≡ front ++ e.rest =
        s.is ∙ ap (λ l. before ++ 123 ∷ 123 ∷ l) (m.is ∙ ap (λ l. m.marker ++ l) c.is) ∙ simp append_assoc in
        let count = stretch-is r.bytes front e.rest whole in record {
          front = front;
          is = whole;
          some = omega (arith, length-append (before ++ 123 ∷ 123 ∷ m.marker) c.body, length-append before (123 ∷ 123 ∷ m.marker));
          line = simp count;
          cuts = λ more cuts.
              subst (λ (xs : List ℕ). Cuts r.trims r.line xs (texts r.trims (left_marked after) r.line before ++ ps ++ more)) (sym whole)
              (closed (rw c.is at (leads before after m s.first)) c.closed (rw count at cuts));
        }

    at : (before after : List ℕ) → split_open r.bytes ≡ Some (before, after) → (o : Opened) → opened (past_left after) ≡ o
        → AtOpened (r.line + newlines before) (past_left after) o
        → IsPart r (texts r.trims (left_marked after) r.line before ++ pieces_of (r.line + newlines before) o)
        (option_map (rest_past r.bytes r.line) (ends_at o))
    at before after split (comment end) e c = before-rest before after split end [] c
    at before after split (tokens ts end) e c = before-rest before after split end (action (r.line + newlines before) ts ∷ []) c
    at before after split neither e c =
        let s = split-is 123 123 r.bytes (before, after) split in
        let m = has-marker after in
        let whole : r.bytes ≡ before ++ 123 ∷ 123 ∷ m.marker ++ past_left after =
        s.is ∙ ap (λ l. before ++ 123 ∷ 123 ∷ l) m.is ∙ simp append_assoc in
        subst (λ (xs : List ℕ). Cuts r.trims r.line xs (texts r.trims (left_marked after) r.line before ++ unreadable (r.line + newlines before) ∷ []))
        (sym whole) (unclosed (leads before after m s.first) (neither-closed (past_left after) e))

    go : (o : Option (List ℕ × List ℕ)) → split_open r.bytes ≡ o → IsPart r (part_from r o).0 (part_from r o).1
    go None e = last (none-absent 123 123 r.bytes e) (texts-made r.trims false r.line r.bytes)
    go (Some p) e = at p.0 p.1 e (opened (past_left p.1)) refl (opened-closed (r.line + newlines p.0) (past_left p.1))

-- whatever bytes are cut into begins with the pieces of the part, and what its rest is cut into comes after them
abbrev IsOnly : List Piece → List Piece → Option Rest → Type 0
IsOnly qs ps None = qs ≡ ps
IsOnly qs ps (Some beyond) = (more : List Piece) × CutsRest beyond more × (qs ≡ ps ++ more)

part-only : {right : Bool} {line : ℕ} {bs : List ℕ} {qs : List Piece} → Cuts right line bs qs
    → let p = part_of (record { trims = right; line = line; bytes = bs }) in IsOnly qs p.0 p.1
part-only (last {bs = bs} none t) = rw (absent-none 123 123 bs none) (texts-only t)
part-only (unclosed {line = line} {before = before} {opening = opening} {rest = rest} leads none) =
    let led = is-led leads.first leads.opens (texts-only leads.texts) in
    rw (append_assoc before opening rest, led.opens, led.past, closed-neither rest none)
    (ap (λ ts. ts ++ unreadable (line + newlines before) ∷ []) led.pieces_are)
part-only (closed {trims = trims} {line = line} {before = before} {opening = opening} {body = body} {rest = rest} {here = here} {ps = ps} leads c cuts) =
    let led = is-led leads.first leads.opens (texts-only leads.texts) in
    let o = closed-opened c in
    let whole = append_assoc (before ++ opening) body rest ∙ append_assoc before opening (body ++ rest) in
    let count = stretch-is (before ++ (opening ++ (body ++ rest))) (before ++ opening ++ body) rest (sym whole) in
    rw (whole, led.opens, led.past, o.ends, o.pieces) (ps, rw (sym count) at cuts, ap (λ ts. ts ++ here ++ ps) led.pieces_are)

-- ---- one list of pieces

-- a rest is cut into the pieces of `cut_within`
cut_within-Cuts : (n : ℕ) (r : Rest) → length r.bytes < n → CutsRest r (cut_within n r)
unfolding cut_within
cut_within-Cuts zero r h = absurd (omega arith)
cut_within-Cuts (suc n) r h = go (part_of r).0 (part_of r).1 (part-is r) (λ s less. cut_within-Cuts n s less)
  where
    go : (ps : List Piece) (o : Option Rest) → IsPart r ps o → ((s : Rest) → length s.bytes < n → CutsRest s (cut_within n s))
        → CutsRest r (with_rest ps o (cut_within n))
    go ps None cuts ih = cuts
    go ps (Some s) b ih = b.cuts (cut_within n s) (ih s (omega (arith, b.some, ap length b.is, length-append b.front s.bytes)))

-- and into no others
Cuts-cut_within : (n : ℕ) (r : Rest) (qs : List Piece) → CutsRest r qs → length r.bytes < n → qs ≡ cut_within n r
unfolding cut_within
Cuts-cut_within zero r qs cuts h = absurd (omega arith)
Cuts-cut_within (suc n) r qs cuts h = go (part_of r).0 (part_of r).1 (part-is r) (part-only cuts) (λ s ps cuts less. Cuts-cut_within n s ps cuts less)
  where
    go : (ps : List Piece) (o : Option Rest) → IsPart r ps o → IsOnly qs ps o
        → ((s : Rest) (more : List Piece) → CutsRest s more → length s.bytes < n → more ≡ cut_within n s) → qs ≡ with_rest ps o (cut_within n)
    go ps None b only ih = only
    go ps (Some s) b only ih =
        only.2 ∙ ap (λ more. ps ++ more) (ih s only.0 only.1 (omega (arith, b.some, ap length b.is, length-append b.front s.bytes)))

-- each file is cut into the pieces of `cut_of`
pub cut_of-Cuts : (bs : List ℕ) → Cuts false 1 bs (cut_of bs)
unfolding cut_of
cut_of-Cuts bs = cut_within-Cuts (length bs + 1) (record { trims = false; line = 1; bytes = bs }) (omega arith)

-- and into no others
pub Cuts-cut_of : (bs : List ℕ) (ps : List Piece) → Cuts false 1 bs ps → ps ≡ cut_of bs
unfolding cut_of
Cuts-cut_of bs ps cuts = Cuts-cut_within (length bs + 1) (record { trims = false; line = 1; bytes = bs }) ps cuts (omega arith)

pub ruleset laws = (cut_of-Cuts, Cuts-cut_of)
