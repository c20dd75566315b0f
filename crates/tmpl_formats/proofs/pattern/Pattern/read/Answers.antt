use Rattle.std.proofs.Common.{◌≡◌, List, [], ◌∷◌, length, arith, refl, ◌∙◌}
use Rattle.tmpl_formats.proofs.pattern.Pattern.read.Goals as goal

none_left : {A : Type 0} (xs : List A) → length xs ≡ 0 → xs ≡ []
none_left [] e = refl
none_left (x ∷ xs) e = absurd (omega arith)

pub returns : goal.returns
returns c =
    let read = rw c.in-Some.is at c.in_ok-root.ensures in
    rw (← (c.as_slice.ensures.value ∙ c.in_ok-characters.ensures), ← none_left c.alternatives.new.self.rest.now (omega arith)) read
