-- For the reader of the law `set_accepted`: one set, and what the law says of two files that it may be printed to.
use Rattle.std.proofs.Common.{arith, ◌≡◌, List, [], ◌∷◌, refl, codes, map}
use Rattle.tmpl_lex.proofs.PartLemmas.{absent-cons, absent-nil}
use Rattle.tmpl_syntax.specs.Tree.{Nodes, none, then, text}
use Rattle.tmpl_syntax.specs.Set.{Template}
use Rattle.tmpl_syntax.specs.Kept.{IsSet}
use Rattle.tmpl_syntax.specs.Print.Laws.{IsSameSet, unlined_template}

abbrev one_text : Nodes
one_text = then 3 (text (codes "A")) none

-- the template t, of the text A on the line 3 of a file
abbrev set : List Template
set = (codes "t", record { file = codes "f"; nodes = one_text }) ∷ []

is-set : IsSet set
is-set = (
  (
    (omega arith, tt),
    record {
      formed = refl;
      printable = (record { some = omega arith; clear = absent-cons 123 123 65 [] refl (absent-nil 123 123) }, tt);
      need = omega arith;
    },
    tt,
  ),
  (refl, tt),
)

-- in a file of the template's name the set is the same but for lines; in another there is the file's own template too, a newline
under-its-name : (new : List Template) → IsSameSet (codes "d/t") set new → map unlined_template new ≡ (codes "t", then 0 (text (codes "A")) none) ∷ []
under-its-name new same = same

under-another : (new : List Template) → IsSameSet (codes "d/u") set new
    → map unlined_template new ≡ (codes "t", then 0 (text (codes "A")) none) ∷ (codes "u", then 0 (text (codes "\n")) none) ∷ []
under-another new same = same
