-- For `first_part`: what stands after a text begins at the first `{{`, and what the rest has after it.
use Rattle.std.proofs.Common.{arith, ◌≡◌, ◌∙◌, ℕ, ◌+◌, ◌-◌, List, [], ◌∷◌, ◌++◌, Option, Some, None, sym, ap, subst}
use Rattle.std.proofs.Common.{length, append_assoc, length-append, option_map}
use Rattle.std.proofs.lemmas.Option.{same_Some}
use Rattle.tmpl_lex.specs.declared.part.AfterText.{AfterText}
use Rattle.tmpl_lex.specs.declared.part.AfterText.TheVariants as variant
use Rattle.tmpl_lex.specs.declared.part.Rest as held
use Rattle.tmpl_lex.specs.declared.piece.Token as held_token
use Rattle.tmpl_lex.specs.Begin.{Begins, here, further, IsUncommented, BeginsIn, BeginsAfter, BeginsFurther}
use Rattle.tmpl_lex.specs.Cut.{TextBefore}
use Rattle.tmpl_lex.specs.Part.{IsLeft, pieces_after}
use Rattle.tmpl_lex.specs.Piece.{Piece, action, unreadable}
use Rattle.tmpl_lex.specs.Text.{newlines}
use Rattle.tmpl_lex.specs.computed.Action.{Opened, comment, tokens, neither, opened}
use Rattle.tmpl_lex.specs.computed.Part.{Rest, split_open, rest_past, pieces_of, ends_at}
use Rattle.tmpl_lex.specs.computed.Text.{texts}
use Rattle.tmpl_lex.specs.computed.Trim.{End, left_marked, past_left}
use Rattle.tmpl_lex.specs.computed.View.{rest_of}
use Rattle.tmpl_lex.proofs.CutLemmas.{HasMarker, has-marker, stretch-is}
use Rattle.tmpl_lex.proofs.FirstPartLemmas.{at-ends, rest-same}
use Rattle.tmpl_lex.proofs.PartLemmas.{IsSplit, split-is}
use Rattle.tmpl_lex.proofs.SpellsLemmas.{HasClosed, AtOpened, opened-closed, closed-opened}
use Rattle.tmpl_lex.proofs.TextLemmas.{texts-made}

-- what is a piece is no comment
uncommented : (bs : List ℕ) (o : Opened) → opened bs ≡ o → (line : ℕ) (p : Piece) → pieces_of line o ≡ p ∷ [] → IsUncommented bs
uncommented bs (comment e) is line p some = absurd (cc)
uncommented bs (tokens ts e) is line p some = λ l body trims after c same.
    let none = closed-opened c in
    let pieces : action l ts ∷ [] ≡ [] = ap (pieces_of l) (sym is ∙ ap opened same) ∙ none.pieces in cc
uncommented bs neither is line p some = λ l body trims after c same.
    let none = closed-opened c in
    let pieces : unreadable l ∷ [] ≡ [] = ap (pieces_of l) (sym is ∙ ap opened same) ∙ none.pieces in cc

module _ (file : List ℕ) (rest : held.Rest) (left : IsLeft file rest) (before after : List ℕ) (split : Some (before, after) ≡ split_open rest.bytes.now) where
  abbrev bs : List ℕ
  bs = rest.bytes.now

  abbrev line-here : ℕ
  line-here = rest.line + newlines before

  s : IsSplit 123 123 bs before after
  s = split-is 123 123 bs (before, after) (sym split)

  m : HasMarker after (left_marked after) (past_left after)
  m = has-marker after

  abbrev own : List Piece
  own = texts rest.trims (left_marked after) rest.line before

  leads : TextBefore rest.trims rest.line before (123 ∷ 123 ∷ m.marker) (past_left after) own
  leads = record { left = left_marked after; first = s.first; opens = m.opens; texts = texts-made rest.trims (left_marked after) rest.line before }

  whole : bs ≡ before ++ 123 ∷ 123 ∷ m.marker ++ past_left after
  whole = s.is ∙ ap (λ l. before ++ 123 ∷ 123 ∷ l) m.is ∙ simp append_assoc

  begins-here : IsUncommented (past_left after) → BeginsIn file rest (length own) (length file - length bs + length before)
  begins-here none = subst
      (λ (xs : List ℕ). Begins (length file - length bs) rest.trims rest.line xs (length own) (length file - length bs + length before)) (sym whole)
      (here leads none)

  begins-after : (o : Opened) → opened (past_left after) ≡ o → (a : AfterText) (ts : List held_token.Token) → pieces_after ts a ≡ pieces_of line-here o
      → BeginsAfter file rest a (length own) (length file - length bs + length before)
  begins-after o is variant.Nothing ts e = tt
  begins-after o is (variant.Action l) ts e = begins-here (uncommented (past_left after) o is line-here _ (sym e))
  begins-after o is (variant.Unreadable l) ts e = begins-here (uncommented (past_left after) o is line-here _ (sym e))

  -- what begins after an end
  begins-past : (e : End) (ps : List Piece) → HasClosed line-here (past_left after) e ps → (r : held.Rest)
      → rest_of r ≡ rest_past bs rest.line e → (n at : ℕ) → BeginsIn file r n at → BeginsIn file rest (length (own ++ ps) + n) at
  begins-past e ps c r is n at b =
      let front : List ℕ = before ++ 123 ∷ 123 ∷ m.marker ++ c.body in
      let ends : bs ≡ front ++ e.rest = whole ∙ ap (λ l. before ++ 123 ∷ 123 ∷ m.marker ++ l) c.is ∙ simp append_assoc in
      let past : Rest = record { trims = e.trims; line = rest.line + newlines front; bytes = e.rest } in
      let same : rest_of r ≡ past =
      is ∙ ap (λ l. record { trims = e.trims; line = rest.line + newlines l; bytes = e.rest }) (stretch-is bs front e.rest ends) in
      let there : Begins (length file - length e.rest) e.trims (rest.line + newlines front) e.rest n at =
      subst (λ (x : Rest). Begins (length file - length x.bytes) x.trims x.line x.bytes n at) same b in
      let start : length file - length e.rest ≡ length file - length bs + length front =
      omega (arith, ap length left.ends.is, length-append left.ends.front bs, ap length ends, length-append front e.rest) in
      subst (λ (xs : List ℕ). Begins (length file - length bs) rest.trims rest.line xs (length (own ++ ps) + n) at) (sym ends)
      (further (rw c.is at leads) c.closed (rw start at there))

  begins-further : (o : Opened) → AtOpened line-here (past_left after) o → (r : Option held.Rest)
      → option_map rest_of r ≡ option_map (rest_past bs rest.line) (ends_at o) → BeginsFurther file rest (length (own ++ pieces_of line-here o)) r
  begins-further o at None e = tt
  begins-further (comment end) at (Some r) e = begins-past end [] at r (same_Some (rest_of r) (rest_past bs rest.line end) e)
  begins-further (tokens ts end) at (Some r) e =
      begins-past end (action line-here ts ∷ []) at r (same_Some (rest_of r) (rest_past bs rest.line end) e)
  begins-further neither at (Some r) e = absurd (cc)

  pub begins-by : (o : Opened) → o ≡ opened (past_left after) → (ts : List held_token.Token) (a : AfterText)
      → pieces_after ts a ≡ pieces_of line-here o → (r : Option held.Rest)
      → option_map rest_of r ≡ option_map (rest_past after line-here) (ends_at o) → (t : List Piece) → t ≡ own
      → BeginsAfter file rest a (length t) (length file - length bs + length before)
      × BeginsFurther file rest (length (t ++ pieces_after ts a)) r
  begins-by o is ts a pieces r ends t e =
      let ends' = simp is at ends ∙ rest-same file rest left before after split (ends_at (opened (past_left after))) (at-ends after) in (
        rw e (begins-after o (sym is) a ts pieces),
        rw (e, pieces, is) (begins-further (opened (past_left after)) (opened-closed line-here (past_left after)) r ends'),
      )
