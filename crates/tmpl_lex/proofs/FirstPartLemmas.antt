-- For `first_part`: a part, and the rest after it, are those that are computed. For `cut`: part by part all of a file is cut.
use Rattle.std.proofs.Common.{arith, ◌≡◌, ◌∙◌, ℕ, ◌+◌, ◌-◌, ◌<◌, ◌^◌, Bool, false, List, [], ◌∷◌, ◌++◌, Option, Some, None, IfSome, refl, sym, ap}
use Rattle.std.proofs.Common.{length, take, append-nil, append_assoc, length-append, nat_eq, cond, option_map}
use Rattle.std.proofs.lemmas.List.{take_all}
use Rattle.std.proofs.lemmas.List.Sums.{count_by-le-length, sum_by-append, sum_by-cons}
use Rattle.tmpl_lex.specs.declared.action.Opened as held_opened
use Rattle.tmpl_lex.specs.declared.part.Rest as held
use Rattle.tmpl_lex.specs.declared.piece.Token as held_token
use Rattle.tmpl_lex.specs.Cut.{Cuts, last}
use Rattle.tmpl_lex.specs.Part.{IsCutBy, IsLeft, IsLeftAfter}
use Rattle.tmpl_lex.specs.Piece.{Piece, action}
use Rattle.tmpl_lex.specs.Place.{EndsWith}
use Rattle.tmpl_lex.specs.Text.{text_piece, newlines}
use Rattle.tmpl_lex.specs.computed.Action.{Opened, comment, tokens, neither, opened}
use Rattle.tmpl_lex.specs.computed.Cut.{cut_of}
use Rattle.tmpl_lex.specs.computed.Part.{split_open, pieces_of, ends_at, rest_past, IsEndWithin}
use Rattle.tmpl_lex.specs.computed.Text.{leading, without_leading, without_trailing, texts}
use Rattle.tmpl_lex.specs.computed.Trim.{End, left_marked, past_left}
use Rattle.tmpl_lex.specs.computed.View.{opened_of, rest_of}
use Rattle.tmpl_lex.proofs.CutLemmas.{has-marker, stretch-is, IsPart, part-is, Cuts-cut_of}
use Rattle.tmpl_lex.proofs.PartLemmas.{none-absent, split-is}
use Rattle.tmpl_lex.proofs.SpellsLemmas.{HasClosed, AtOpened, opened-closed}
use Rattle.tmpl_lex.proofs.TextLemmas.{texts-made}

-- ---- a text, by what a right trim marker takes of it

pub texts-put : (right left : Bool) (line count : ℕ) (before taken kept text : List ℕ) → taken ≡ take (leading right before) before
    → kept ≡ without_leading right before → count ≡ newlines taken → text ≡ without_trailing left kept
    → text_piece (line + count) text ≡ texts right left line before
texts-put right left line count before taken kept text e f n t = simp (n, t, e, f)

-- with no marker after it all is kept
pub without_trailing-unmarked : (bs : List ℕ) → bs ≡ without_trailing false bs
without_trailing-unmarked bs = sym (take_all (length bs - 0) bs (omega arith))

-- the last part
pub last-cuts : (right : Bool) (line count : ℕ) (bs taken kept : List ℕ) → None ≡ split_open bs → taken ≡ take (leading right bs) bs
    → kept ≡ without_leading right bs → count ≡ newlines taken → Cuts right line bs (text_piece (line + count) kept ++ [])
last-cuts right line count bs taken kept none t k n =
    rw (append-nil (text_piece (line + count) kept), texts-put right false line count bs taken kept kept t k n (without_trailing-unmarked kept))
    (last (none-absent 123 123 bs (sym none)) (texts-made right false line bs))

-- ---- where what begins with a `{{` ends

-- where something ends does not depend on its tokens
pub ends-same : (ts us : List held_token.Token) (o : held_opened.Opened) → ends_at (opened_of ts o) ≡ ends_at (opened_of us o)
ends-same ts us o = grind arith

-- the bytes end with what stands after the end, if there is one
pub at-ends : (after : List ℕ) → IfSome (ends_at (opened (past_left after))) (λ e. EndsWith after e.rest)
at-ends after = go (opened (past_left after)) (opened-closed 0 (past_left after))
  where
    beyond : (e : End) (ps : List Piece) → HasClosed 0 (past_left after) e ps → EndsWith after e.rest
    beyond e ps c =
        let m = has-marker after in
        record { front = m.marker ++ c.body; is = m.is ∙ ap (λ l. m.marker ++ l) c.is ∙ sym (append_assoc m.marker c.body e.rest) }

    go : (o : Opened) → AtOpened 0 (past_left after) o → IfSome (ends_at o) (λ e. EndsWith after e.rest)
    go (comment e) c = beyond e [] c
    go (tokens ts e) c = beyond e (action 0 ts ∷ []) c
    go neither c = tt

module _ (file : List ℕ) (rest : held.Rest) (left : IsLeft file rest) (before after : List ℕ) (split : Some (before, after) ≡ split_open rest.bytes.now) where
  abbrev here : ℕ
  here = rest.line + newlines before

  is : rest.bytes.now ≡ before ++ 123 ∷ 123 ∷ after
  is = (split-is 123 123 rest.bytes.now (before, after) (sym split)).is

  -- the lines up to the end can be counted
  pub end-within : length file + 1 < 2 ^ 64 → IsEndWithin after here (ends_at (opened (past_left after)))
  end-within fits = by (ends_at (opened (past_left after))) (at-ends after)
    where
      by : (e : Option End) → IfSome e (λ e. EndsWith after e.rest) → IsEndWithin after here e
      by None at = tt
      by (Some e) at =
          let a = count_by-le-length (λ b. nat_eq b 10) before in
          let b = count_by-le-length (λ b. nat_eq b 10) at.front in
          let parts : length after ≡ length at.front + length e.rest = omega (arith, ap length at.is, length-append at.front e.rest) in
          let whole = length-append before (123 ∷ 123 ∷ after) in
          (omega (arith, parts), simp (stretch-is after at.front e.rest at.is) (omega (arith, left.lines, ap length is, whole, parts, a, b, fits)))

  -- what is left after an end is so also of the whole rest
  pub rest-same : (e : Option End) → IfSome e (λ e. EndsWith after e.rest)
      → option_map (rest_past after here) e ≡ option_map (rest_past rest.bytes.now rest.line) e
  rest-same None at = refl
  rest-same (Some e) at =
      let front : List ℕ = before ++ 123 ∷ 123 ∷ at.front in
      let whole = is ∙ ap (λ l. before ++ 123 ∷ 123 ∷ l) at.is ∙ sym (append_assoc before (123 ∷ 123 ∷ at.front) e.rest) in
      let one : ℕ → ℕ = λ b. cond (nat_eq b 10) 1 0 in
      let lines : here + newlines at.front ≡ rest.line + newlines front =
      omega (arith, sum_by-append one before (123 ∷ 123 ∷ at.front), sum_by-cons one 123 (123 ∷ at.front), sum_by-cons one 123 at.front) in
      simp (stretch-is after at.front e.rest at.is, stretch-is rest.bytes.now front e.rest whole, lines)

  -- such a part, and the rest after it, are cut as the whole is
  pub part-before : (o : Opened) → o ≡ opened (past_left after) → (ps : List Piece)
      → ps ≡ texts rest.trims (left_marked after) rest.line before ++ pieces_of here o → (r : Option held.Rest)
      → option_map rest_of r ≡ option_map (rest_past after here) (ends_at o) → IsCutBy rest ps r × IsLeftAfter file rest r
  part-before o read ps pieces r beyond =
      let same = simp read at beyond ∙ rest-same (ends_at (opened (past_left after))) (at-ends after) in
      by r (rw (simp read at pieces, same) (rw (sym split) at (part-is (rest_of rest))))
    where
      by : (r : Option held.Rest) → IsPart (rest_of rest) ps (option_map rest_of r) → IsCutBy rest ps r × IsLeftAfter file rest r
      by None b = (b, tt)
      by (Some r) b =
          let ends = left.ends in
          let lines = count_by-le-length (λ b. nat_eq b 10) b.front in
          let parts = length-append b.front r.bytes.now in (
            b.cuts,
            (
              record {
                ends = record { front = ends.front ++ b.front; is = ends.is ∙ ap (λ l. ends.front ++ l) b.is ∙ simp append_assoc };
                lines = omega (arith, left.lines, lines, b.line, ap length b.is, parts);
              },
              omega (arith, b.some, ap length b.is, parts),
            ),
          )

-- ---- part by part

-- the file is cut into these pieces and those that the rest is cut into
abbrev pub IsSoFar : List ℕ → List Piece → held.Rest → Type 0
IsSoFar file ps rest = (more : List Piece) → Cuts rest.trims rest.line rest.bytes.now more → cut_of file ≡ ps ++ more

-- a cut of the whole file is the one cut
pub whole-cut : (file : List ℕ) (rest : held.Rest) (more : List Piece) → rest.bytes.now ≡ file → rest.line ≡ 1 → rest.trims ≡ false
    → Cuts rest.trims rest.line rest.bytes.now more → cut_of file ≡ more
whole-cut file rest more b l t cuts = sym (Cuts-cut_of file more (simp (b, l, t) at cuts))
