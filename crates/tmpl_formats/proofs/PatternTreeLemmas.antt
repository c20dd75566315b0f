-- Atoms and terms of regular expressions.
use Rattle.std.proofs.Common.{◌≡◌, ℕ, Bool, false, List, [], ◌∷◌, ◌++◌, length, arith, ap, ◌∙◌, Option, Some, None, Result, Ok, Err, refl}
use Rattle.std.specs.Prelude.{IfOk, IfSome}
use Rattle.tmpl_formats.specs.Pattern as tree
use Rattle.tmpl_formats.specs.Pattern.{Tree}
use Rattle.tmpl_formats.proofs.PatternPartsLemmas.{trees-push, row-push}
use Rattle.tmpl_formats.specs.PatternText.{HasAtom, HasTerm, HasSequence, HasAlternatives, HasQuantifier, IsRepeated, repeated, nothing}
use Rattle.tmpl_formats.specs.computed.PatternRows.{HasRow, HasPiece, no_piece, separator, trees_of}
use Rattle.tmpl_formats.specs.PatternView.{tree_of}
use Rattle.tmpl_formats.specs.declared.pattern.Node.{Node}

-- a leaf that was made of what was read
pub atom-of : {E : Type 0} (text now read : List ℕ) (t : Tree) (r : Result (Option Node) E) → IfOk r (λ o. IfSome o (λ node. tree_of node ≡ t)) → now ≡ read → HasAtom text t read
    → IfOk r (λ o. IfSome o (λ node. HasAtom text (tree_of node) now))
atom-of text now read t (Err e) h same atom = tt
atom-of text now read t (Ok None) h same atom = tt
atom-of text now read t (Ok (Some node)) h same atom = rw (h, same) atom

-- an atom and its repetition
pub term-of : {E : Type 0} (text left now : List ℕ) (turn : Tree) (r : Result (Option Node) E) → HasAtom text turn left
    → IfOk r (λ o. IfSome o (λ node. (least : ℕ) × (most : Option ℕ) × HasQuantifier left least most now × IsRepeated turn least most (tree_of node)))
    → IfOk r (λ o. IfSome o (λ node. HasTerm text (tree_of node) now))
term-of text left now turn (Err e) atom h = tt
term-of text left now turn (Ok None) atom h = tt
term-of text left now turn (Ok (Some node)) atom h = repeated atom h.2 h.3

-- what is in parentheses, as an atom
pub group-of : {E : Type 0} (text inner now : List ℕ) (r : Result (Option Node) E) → ((t : Tree) → HasAlternatives inner t (41 ∷ now) → HasAtom text t now)
    → IfOk r (λ o. IfSome o (λ node. HasAlternatives inner (tree_of node) (41 ∷ now))) → IfOk r (λ o. IfSome o (λ node. HasAtom text (tree_of node) now))
group-of text inner now (Err e) f h = tt
group-of text inner now (Ok None) f h = tt
group-of text inner now (Ok (Some node)) f h = f (tree_of node) h

-- a row with one part more
pub row-add : (e : Bool) (text left next : List ℕ) (old new : List Node) (node : Node) → new ≡ old ++ node ∷ [] → HasRow e text (trees_of old) (separator e ++ left)
    → HasPiece e left (tree_of node) next → HasRow e text (trees_of new) next
row-add e text left next old new node is row p = rw (ap trees_of is ∙ trees-push old node) (row-push e text left next (trees_of old) (tree_of node) row p)

pub row-start : (e : Bool) (text : List ℕ) (nodes : List Node) → nodes ≡ [] → HasRow e text (trees_of nodes) text
row-start e text nodes is = rw is no_piece

none_there : {A : Type 0} (xs : List A) → length xs ≡ 0 → xs ≡ []
none_there [] e = refl
none_there (x ∷ xs) e = absurd (omega arith)

nothing_in : (text rest : List ℕ) → HasRow false text [] rest → HasSequence text tree.Empty rest
nothing_in text _ no_piece = nothing

-- a row of no part
pub row-none : (text rest next : List ℕ) (nodes : List Node) → length nodes ≡ 0 → next ≡ rest → HasRow false text (trees_of nodes) rest → HasSequence text tree.Empty next
row-none text rest next nodes is same row = rw same (nothing_in text rest (rw (none_there nodes is) at row))
