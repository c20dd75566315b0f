-- For `cut`: where the texts of a file stand in it.
use Rattle.std.proofs.Common.{arith, ◌≡◌, ◌∙◌, ℕ, ◌+◌, ◌-◌, Bool, List, ◌++◌, sym, ap, length, take, drop, append_assoc, length-append}
use Rattle.std.proofs.lemmas.List.{take-append-drop}
use Rattle.tmpl_lex.specs.Place.{EndsWith, StandsAt}
use Rattle.tmpl_lex.specs.computed.Text.{leading, without_leading, trailing, without_trailing}

-- a text stands after what a right trim marker takes of the bytes between two actions or comments
pub StandsAt-trimmed : (file bs before after taken kept text : List ℕ) (right left : Bool) (start : ℕ) → EndsWith file bs → bs ≡ before ++ after
    → taken ≡ take (leading right before) before → kept ≡ without_leading right before → text ≡ without_trailing left kept
    → start ≡ length file - length bs + length taken → StandsAt file start text
StandsAt-trimmed file bs before after taken kept text right left start h split t k e n =
    let end : List ℕ = drop (length kept - trailing left kept) kept in
    let halves : before ≡ taken ++ kept =
    sym (simp (t, k, take-append-drop)) in
    let parts : kept ≡ text ++ end = sym (simp (e, take-append-drop)) in
    record {
      before = h.front ++ taken;
      after = end ++ after;
      parts =
          h.is ∙ ap (λ l. h.front ++ l) (split ∙ ap (λ l. l ++ after) (halves ∙ ap (λ l. taken ++ l) parts)) ∙ simp append_assoc;
      count = omega (arith, n, length-append h.front taken, length-append h.front bs, ap length h.is);
    }
