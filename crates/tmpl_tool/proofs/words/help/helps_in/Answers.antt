use Rattle.std.proofs.Common.{◌≡◌, ◌∙◌, ◌+◌, ℕ, false, List, ◌∷◌, map, drop, ap, refl, sym, codes}
use Rattle.std.specs.String.{string_bytes}
use Rattle.std.proofs.lemmas.List.{at_drop_more}
use Rattle.std.proofs.lemmas.Bool.{false_from_ne_true}
use Rattle.std.proofs.lemmas.Slice.Eq.{bytes_eq-Decides}
use Rattle.std.specs.Str.{bytes_eq}
use Rattle.tmpl_tool.specs.Help.{helps_in}
use Rattle.tmpl_tool.proofs.words.help.helps_in.Goals as goal

differs : (a b : List ℕ) → (a ≡ b → ⊥) → bytes_eq a b ≡ false
differs a b h = false_from_ne_true (bytes_eq a b) (λ e. h ((bytes_eq-Decides a b).0 e))

-- a word that neither asks nor ends is passed over
passed : (word : List ℕ) (rest : List (List ℕ)) → (word ≡ codes "--" → ⊥) → (word ≡ codes "-h" → ⊥) → (word ≡ codes "--help" → ⊥)
    → helps_in (word ∷ rest) ≡ helps_in rest
passed word rest a b d = rw (differs word (codes "--") a, differs word (codes "-h") b, differs word (codes "--help") d) refl

pub loop-word-preserved : goal.loop-word-preserved
loop-word-preserved c =
    let word = c.word-item.result in
    let is = c.as_str.ensures.value in
    c.loop-word.invariant
    ∙ at_drop_more (λ ws. helps_in (map (λ w. string_bytes w) ws)) c.args.words.now c.loop-word.word-index word c.loop-word-test.true
    ∙ ap (λ w. helps_in (string_bytes w ∷ map (λ w. string_bytes w) (drop (c.loop-word.word-index + 1) c.args.words.now))) (sym c.word-item.is)
    ∙ passed (string_bytes word) (map (λ w. string_bytes w) (drop (c.loop-word.word-index + 1) c.args.words.now)) (λ e. c.in_default.not-text (is ∙ e))
    (λ e. c.in_default.not-text-2 (is ∙ e)) (λ e. c.in_default.not-text-3 (is ∙ e))
