-- For `settle` and `hand_over`: what was gathered is what a call comes to, as far as no memory was refused.
use Rattle.std.proofs.Common.{◌≡◌, ◌≢◌, ◌∙◌, ◌+◌, ◌-◌, ◌++◌, ◌<◌, ◌≤◌, ◌⊎◌, ◌||◌, ℕ, Bool, true, false, [], ◌∷◌, Some, ap, arith, length, refl, subst, sym, inl, inr}
use Rattle.std.proofs.lemmas.Bool.{le-leb, leb-false, leb-true, lt-leb}
use Rattle.std.proofs.lemmas.List.{append-nil, length-append, take-append-le}
use Rattle.std.proofs.Common.{append_assoc}
use Rattle.std.proofs.Math.Seq.{take-append-add}
use Rattle.std.specs.Prelude.{codes, decimal, eqb, leb, take, if◌then◌else◌}
use Rattle.tmpl_meaning.specs.Sink.{Begun, Sunk, Told, sunk}
use Rattle.tmpl_tool.specs.Outcome.{Answer, Outcome, memory_line, write_line}
use Rattle.tmpl_tool.specs.Source.{Bytes}
use Rattle.tmpl_c.specs.Filled.{Fills, Rendered, Seen, fits, limit_line, limit_text}
use Rattle.tmpl_c.specs.Texts.{Holds}
use Rattle.tmpl_c.specs.computed.Gathering.{nothing_put}

abbrev pub holding : Bytes → ℕ → Told
holding bytes failures = record { bytes = Some bytes; failures = failures }

some_same : (xs ys : Bytes) → Some xs ≡ Some ys → xs ≡ ys
some_same xs ys e = cc

-- one failure is not none
one : (n : ℕ) → n ≡ 0 + 1 → n ≢ 0
one n e h = omega (arith, e, h)

-- what was put begins the text
outcome_prefix : (a : Answer) (all : Bytes) (f : ℕ) (err : Sunk) (code : ℕ) → Outcome a (sunk (holding [] 0) (holding all f)) err code
    → (rest : Bytes) × (a.text ≡ all ++ rest)
outcome_prefix a all f err code (inl exact) = ([], sym (append-nil all ∙ some_same all a.text exact.0.bytes))
outcome_prefix a all f err code (inr (inl cut)) =
    let begins = cut.0.bytes in
    (begins.1, begins.2 ∙ ap (λ (xs : Bytes). xs ++ begins.1) (sym (some_same all begins.0 begins.3)))
outcome_prefix a all f err code (inr (inr refused)) = from a.made_text refused.0
  where
    nothing : (front rest : Bytes) → ◌≡◌ {A = Bytes} [] (front ++ rest) → front ≡ []
    nothing [] rest e = refl
    nothing (b ∷ front) rest e = cc

    from : (made : Bool) → Begun (if made then a.text else []) (sunk (holding [] 0) (holding all f)) → (rest : Bytes) × (a.text ≡ all ++ rest)
    from true h = (h.1.1, h.1.2 ∙ ap (λ (xs : Bytes). xs ++ h.1.1) (sym (some_same all h.1.0 h.1.3)))
    from false h = (a.text, ap (λ (xs : Bytes). xs ++ a.text) (sym (some_same all h.1.0 h.1.3 ∙ nothing h.1.0 h.1.1 h.1.2)))

-- where no memory was refused it is all of it, and so is the line
outcome_exact : (a : Answer) (all line : Bytes) (f g code : ℕ) → Outcome a (sunk (holding [] 0) (holding all f)) (sunk (holding [] 0) (holding line g)) code
    → (code ≢ 7) × (f ≡ 0) × (g ≡ 0) → (all ≡ a.text) × (line ≡ a.line) × (code ≡ a.status)
outcome_exact a all line f g code (inl (out, is, inl err)) fine = (some_same all a.text out.bytes, some_same line a.line err.bytes, is)
outcome_exact a all line f g code (inl (out, is, inr err)) fine = absurd (one g err.count fine.2)
outcome_exact a all line f g code (inr (inl cut)) fine = absurd (one f cut.0.count fine.1)
outcome_exact a all line f g code (inr (inr refused)) fine = absurd (fine.0 refused.1)

-- ---- a limit of the text

-- its line, said part by part
pub limit_said : (most : ℕ) → (codes "tmpl: more than " ++ decimal most) ++ codes " bytes of output\n" ≡ limit_line most
limit_said most = simp (append_assoc)

abbrev pub within : ℕ → Bytes → Bool
within most text = eqb most 0 || leb (length text) most

module _ (a : Answer) (most : ℕ) where
  limited-within : within most a.text ≡ true → limit_text most a ≡ a
  limited-within is = rw is refl

  -- what begins the text and is within the limit begins what the limit leaves of it
  limited_prefix : (all rest : Bytes) → a.text ≡ all ++ rest → within most all ≡ true → (more : Bytes) × ((limit_text most a).text ≡ all ++ more)
  limited_prefix all rest is begins = by (eqb most 0) refl (leb (length a.text) most) refl
    where
      short : eqb most 0 ≡ false → length all ≤ most
      short any = let h : leb (length all) most ≡ true = rw any at begins in leb-true (length all) most h

      by : (none : Bool) → eqb most 0 ≡ none → (fit : Bool) → leb (length a.text) most ≡ fit → (more : Bytes) × ((limit_text most a).text ≡ all ++ more)
      by true e fit w = (rest, rw e is)
      by false e true w = (rest, rw (e, w) is)
      by false e false w =
          let size : most ≡ length all + (most - length all) = let h = short e in omega (arith, h) in (
            take (most - length all) rest,
            rw (e, w) (ap (λ (xs : Bytes). take most xs) is ∙ ap (λ n. take n (all ++ rest)) size
                ∙ take-append-add all rest (most - length all)),
          )

  -- a text that is past the limit is cut
  limited_past : (all rest : Bytes) → a.text ≡ all ++ rest → within most all ≡ false
      → (take most all ≡ (limit_text most a).text) × (limit_line most ≡ (limit_text most a).line) × (6 ≡ (limit_text most a).status)
  limited_past all rest is past = by (eqb most 0) refl (leb (length all) most) refl
    where
      by : (none : Bool) → eqb most 0 ≡ none → (fit : Bool) → leb (length all) most ≡ fit
          → (take most all ≡ (limit_text most a).text) × (limit_line most ≡ (limit_text most a).line) × (6 ≡ (limit_text most a).status)
      by true e fit w = let wrong : true ≡ false = rw e at past in cc
      by false e true w = let wrong : true ≡ false = rw (e, w) at past in cc
      by false e false w =
          let more : most < length all = leb-false (length all) most w in
          let size : length a.text ≡ length all + length rest = ap length is ∙ length-append all rest in
          let no : leb (length a.text) most ≡ false = lt-leb (length a.text) most (omega (arith, more, size)) in
          let least : most ≤ length all = omega (arith, more) in
          (rw (e, no) (sym (take-append-le most all rest least) ∙ ap (λ (xs : Bytes). take most xs) (sym is)), rw (e, no) refl, rw (e, no) refl)

module _ (a : Answer) (all line : Bytes) (f g code : ℕ) (o : Outcome a (sunk (holding [] 0) (holding all f)) (sunk (holding [] 0) (holding line g)) code)
    (most : ℕ) where
  -- memory was refused
  pub refused_holds : within most all ≡ true → (said : Bytes) → said ≡ [] → Holds (limit_text most a) all said 7
  refused_holds whole said none =
      let front = outcome_prefix a all f _ code o in
      let kept = limited_prefix a most all front.0 front.1 whole in inr (kept.0, kept.1, none, refl)

  -- it was not
  pub exact_holds : within most all ≡ true → (code ≢ 7) × (f ≡ 0) × (g ≡ 0) → Holds (limit_text most a) all line code
  exact_holds whole fine =
      let is = outcome_exact a all line f g code o fine in
      let same : limit_text most a ≡ a = limited-within a most (ap (λ (xs : Bytes). within most xs) (sym is.0) ∙ whole) in
      subst (λ (x : Answer). Holds x all line code) (sym same) (inl is)

  -- the text is past the limit, and is cut; of which the line may be refused memory
  pub cut_holds : within most all ≡ false → (text said : Bytes) (status : ℕ) → text ≡ take most all
      → ((said ≡ limit_line most) × (status ≡ 6)) ⊎ ((said ≡ []) × (status ≡ 7)) → Holds (limit_text most a) text said status
  cut_holds past text said status cut (inl h) =
      let front = outcome_prefix a all f _ code o in
      let is = limited_past a most all front.0 front.1 past in inl (cut ∙ is.0, h.0 ∙ is.1, h.1 ∙ is.2)
  cut_holds past text said status cut (inr h) =
      let front = outcome_prefix a all f _ code o in
      let is = limited_past a most all front.0 front.1 past in
      inr ([], sym is.0 ∙ sym cut ∙ sym (append-nil text), h.0, h.1)

-- ---- what is copied to the buffers of the caller
module _ (a : Answer) (all line : Bytes) (code : ℕ) (o : Holds a all line code) (room line_room : ℕ) (out err : Seen) (puts : Fills all room out) where
  -- memory was refused
  pub refused_rendered : (status : ℕ) → Fills memory_line line_room err × (status ≡ 7) → Rendered a room out line_room err status
  refused_rendered status said = let front = begins o in inr ((all, front.0, front.1, puts), said.0, said.1)
    where
      begins : Holds a all line code → (rest : Bytes) × (a.text ≡ all ++ rest)
      begins (inl h) = ([], sym (append-nil all ∙ h.0))
      begins (inr h) = (h.0, h.1)

  module _ (fine : code ≢ 7) where
    is : (all ≡ a.text) × (line ≡ a.line) × (code ≡ a.status)
    is = from o
      where
        from : Holds a all line code → (all ≡ a.text) × (line ≡ a.line) × (code ≡ a.status)
        from (inl h) = h
        from (inr h) = absurd (fine h.3)

    fills_text : Fills a.text room out
    fills_text = rw (sym is.0) puts

    -- the text does not fit
    pub full_rendered : room < length all → (status : ℕ) → Fills write_line line_room err × (status ≡ 6) → Rendered a room out line_room err status
    full_rendered more status said =
        let same : length all ≡ length a.text = ap length is.0 in
        let no : fits room a ≡ false = lt-leb (length a.text) room (omega (arith, same, more)) in
        inl (fills_text, rw no said.0, rw no said.1)

    -- it fits
    pub exact_rendered : length all ≤ room → Fills line line_room err → Rendered a room out line_room err code
    exact_rendered most says =
        let same : length all ≡ length a.text = ap length is.0 in
        let yes : fits room a ≡ true = le-leb (length a.text) room (omega (arith, same, most)) in
        inl (fills_text, rw (yes, sym is.1) says, rw yes is.2)

-- memory was refused before anything was put
pub nothing_holds : (a : Answer) (text line : Bytes) → text ≡ [] → line ≡ [] → Holds a text line 7
nothing_holds a text line t l = inr (a.text, ap (λ (xs : Bytes). xs ++ a.text) (sym t), l, refl)

-- an answer without a line leaves none
pub without_line : (a : Answer) (text line : Bytes) (code : ℕ) → a.line ≡ [] → Holds a text line code → Holds a text [] code
without_line a text line code none (inl h) = inl (h.0, sym none, h.2)
without_line a text line code none (inr h) = inr (h.0, h.1, refl, h.3)

-- what comes to sinks that hold nothing, told of the two
pub from_nothing : (a : Answer) (o e out err : Told) (code : ℕ) → o ≡ nothing_put → e ≡ nothing_put → Outcome a (sunk o out) (sunk e err) code
    → Outcome a (sunk nothing_put out) (sunk nothing_put err) code
from_nothing a o e out err code empty none comes =
    subst (λ (t : Told). Outcome a (sunk t out) (sunk nothing_put err) code) empty
    (subst (λ (t : Told). Outcome a (sunk o out) (sunk t err) code) none comes)
