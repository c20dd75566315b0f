use Rattle.std.proofs.Common.{◌≡◌, ℕ, List, [], ◌∷◌, map, refl, ap, sym, ◌∙◌}
use Rattle.std.proofs.lemmas.Iterator.{YieldsList-from_chars}
use Rattle.std.proofs.lemmas.Iterator.Consumers.{map_from_collect}
use Rattle.std.proofs.lemmas.Result.{IfOk-weaker}
use Rattle.tmpl_formats.proofs.pattern_tree.characters_of.Goals as goal

same : (xs : List ℕ) → map (λ c. c) xs ≡ xs
same [] = refl
same (x ∷ xs) = ap (λ ys. x ∷ ys) (same xs)

pub returns : goal.returns
returns c =
    IfOk-weaker c.collect.result _ _ (λ characters e. sym (same characters.items) ∙ e)
    (map_from_collect c.collect.result c.collect.ensures.ran (YieldsList-from_chars c.args.text.now c.utf8.text cc))
