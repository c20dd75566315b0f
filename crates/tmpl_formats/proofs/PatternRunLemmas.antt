-- A search goes over the characters of a text.
use Rattle.std.proofs.Common.{◌≡◌, ◌+◌, ◌<◌, ℕ, Bool, List, [], ◌∷◌, ◌++◌, length, drop, get_or, ap, sym, ◌∙◌, arith}
use Rattle.std.proofs.lemmas.List.{at_drop_more, at_drop_all, length_push}
use Rattle.std.specs.Prelude.{◌↔◌, IsTrue}
use Rattle.tmpl_formats.proofs.PatternSearchLemmas.{finds_so, finds_back}
use Rattle.tmpl_formats.specs.Pattern.{Finds}
use Rattle.tmpl_formats.specs.PatternView.{Marks, plain}
use Rattle.tmpl_formats.specs.computed.PatternMarks.{Search, begun, read, has_found, finds}

pub finds-step : (search next : Search) (cs ys : List ℕ) (c : ℕ) (whole : Bool) → finds search (drop (length ys) cs) ≡ whole → (length ys < length cs) × (c ≡ get_or cs (length ys) c)
    → next ≡ read search c → finds next (drop (length (ys ++ c ∷ [])) cs) ≡ whole
finds-step search next cs ys c whole h t is = rw (length_push ys c, is)
    (ap (λ x. finds (read search x) (drop (length ys + 1) cs)) t.1 ∙ sym (at_drop_more (finds search) cs (length ys) c t.0) ∙ h)

pub finds-end : (search : Search) (cs ys : List ℕ) (whole : Bool) → finds search (drop (length ys) cs) ≡ whole → length ys ≡ length cs → has_found search ≡ whole
finds-end search cs ys whole h e = sym (at_drop_all (finds search) cs (length ys) (omega arith)) ∙ h

pub decides : (t : Marks) (text : List ℕ) (r : Bool) → r ≡ finds (begun t) text → IsTrue r ↔ Finds (plain t) text
decides t text r e = (λ h. finds_so t text (sym e ∙ h), λ h. e ∙ finds_back t text h)
