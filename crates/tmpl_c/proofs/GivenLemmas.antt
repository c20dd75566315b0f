-- For `give`: what is given of an answer whose text has to be of a format.
use Rattle.std.proofs.Common.{◌≡◌, ◌≢◌, ◌∙◌, ◌++◌, ◌≤◌, Bool, true, false, ℕ, [], ◌∷◌, ap, arith, length, refl, subst, sym, inl, inr}
use Rattle.std.specs.Prelude.{eqb}
use Rattle.std.proofs.lemmas.Bool.{eqb-false, eqb-true}
use Rattle.tmpl_tool.specs.Outcome.{Answer}
use Rattle.tmpl_tool.specs.Source.{Bytes}
use Rattle.tmpl_c.specs.Given.{GivesBy, HoldsBy, IsGivenBy, IsOfNamed, held_back}
use Rattle.tmpl_c.specs.Laws.{RendersOfFormat, TextOfFormat}
use Rattle.tmpl_c.specs.Texts.{Holds}
use Rattle.tmpl_c.proofs.GatherLemmas.{nothing_holds}
use Rattle.tmpl_c.proofs.SeenLemmas.{holds_whole, text_whole}

-- something is given of each answer
some_given : (word : Bytes) (a : Answer) → (given : Answer) × IsGivenBy word a given
some_given word a = by (eqb a.status 0) refl
  where
    by : (b : Bool) → eqb a.status 0 ≡ b → (given : Answer) × IsGivenBy word a given
    by true is = (held_back [], inr (inr (eqb-true a.status 0 is, ([], refl))))
    by false is = (record a { text = [] }, inr (inl (eqb-false a.status 0 is, refl)))

-- memory ran out, and nothing is given
pub given_refused : (word : Bytes) (a : Answer) (text line : Bytes) → text ≡ [] → line ≡ [] → GivesBy word a text line 7
given_refused word a text line none quiet =
    let it = some_given word a in (it.0, it.1, inr (it.0.text, ap (λ (xs : Bytes). xs ++ it.0.text) (sym none), quiet, refl))

-- .. whether or not a format is asked for
pub nothing_given : (word : Bytes) (a : Answer) (text line : Bytes) → text ≡ [] → line ≡ [] → HoldsBy word a text line 7
nothing_given [] a text line none quiet = (a, refl, nothing_holds a text line none quiet)
nothing_given (b ∷ bs) a text line none quiet = given_refused (b ∷ bs) a text line none quiet

module _ (word : Bytes) (a : Answer) (old line : Bytes) where
  -- not all went well
  pub given_without : (status : ℕ) → status ≢ 0 → Holds a old line status → (text : Bytes) → text ≡ [] → GivesBy word a text line status
  given_without status fails (inl h) text none =
      (record a { text = [] }, inr (inl (λ zero. fails (h.2 ∙ zero), refl)), inl (none, h.1, h.2))
  given_without status fails (inr h) text none = subst (λ code. GivesBy word a text line code) (sym h.3) (given_refused word a text line none h.2)

  -- the text is of the format
  pub given_whole : Holds a old line 0 → IsOfNamed word old → GivesBy word a old line 0
  given_whole (inl h) of = (a, inl (refl, sym h.2, subst (λ (xs : Bytes). IsOfNamed word xs) h.0 of), inl h)
  given_whole (inr h) of = let wrong = h.3 in cc

  -- it is not
  pub given_not : Holds a old line 0 → (text said : Bytes) → text ≡ [] → GivesBy word a text said 8
  given_not (inl h) text said none = (held_back said, inr (inr (sym h.2, (said, refl))), inl (none, refl, refl))
  given_not (inr h) text said none = let wrong = h.3 in cc

-- where one is, what is given of it
pub given_named : (word : Bytes) (a : Answer) (text line : Bytes) (code : ℕ) → 1 ≤ length word → GivesBy word a text line code
    → HoldsBy word a text line code
given_named [] a text line code some h = absurd (omega (arith, some))
given_named (b ∷ bs) a text line code some h = h

-- ---- what a caller sees

-- with status 0 what is given is the answer, and its text is of the format
of_given : (word : Bytes) (a given : Answer) → IsGivenBy word a given → given.status ≡ 0 → IsOfNamed word given.text
of_given word a given (inl h) zero = subst (λ (x : Answer). IsOfNamed word x.text) (sym h.0) h.2
of_given word a given (inr (inl h)) zero = absurd (h.0 (ap (λ (x : Answer). x.status) (sym h.1) ∙ zero))
of_given word a given (inr (inr h)) zero = let status : given.status ≡ 8 = ap (λ (x : Answer). x.status) h.1.1 in absurd (omega (arith, status, zero))

pub text_of_format : TextOfFormat
text_of_format b bs a text line (given, is, holds) =
    let whole = text_whole given text line holds in subst (λ (xs : Bytes). IsOfNamed (b ∷ bs) xs) (sym whole.0) (of_given (b ∷ bs) a given is whole.2)

pub renders_of_format : RendersOfFormat
renders_of_format b bs a room line_room out err (given, is, rendered) =
    let whole = holds_whole given room line_room out err rendered in
    subst (λ (xs : Bytes). IsOfNamed (b ∷ bs) xs) (sym whole.0) (of_given (b ∷ bs) a given is whole.1)

pub ruleset of_format = (text_of_format, renders_of_format)
