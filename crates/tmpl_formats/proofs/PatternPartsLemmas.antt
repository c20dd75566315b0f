-- Repetitions and rows of parts of regular expressions.
use Rattle.std.proofs.Common.{◌≡◌, ◌≤◌, ◌+◌, ◌-◌, ℕ, Bool, true, false, List, [], ◌∷◌, ◌++◌, length, Option, Some, None, refl, ap, ◌∙◌, arith}
use Rattle.std.specs.Prelude.{IfSome}
use Rattle.tmpl_formats.specs.Pattern as tree
use Rattle.tmpl_formats.specs.Pattern.{Tree}
use Rattle.tmpl_formats.specs.PatternText.{HasTimes, HasQuantifier, IsRepeated, none, once, maybe, any, sum, both, either, star, plus, question, exactly, at_least, between, no_quantifier, greedy, lazy}
use Rattle.tmpl_formats.specs.PatternView.{tree_of}
use Rattle.tmpl_formats.specs.computed.PatternRows.{trees_of, joint, separator, HasPiece, HasRow, no_piece, piece, further}
use Rattle.tmpl_formats.specs.declared.pattern.Node.{Node}

-- ---- repetitions

pub no_turn : (turn : Tree) (n : ℕ) → n ≡ 0 → IsRepeated turn n (Some n) tree.Empty
no_turn turn n e = rw e none

pub one_turn : (turn copy : Tree) (n : ℕ) → n ≡ 1 → copy ≡ turn → IsRepeated turn n (Some n) copy
one_turn turn copy n e same = rw (same, e) once

pub more_turns : (turn some others all : Tree) (m n count : ℕ) → m + n ≡ count → all ≡ tree.Both some others → IsRepeated turn m (Some m) some → IsRepeated turn n (Some n) others
    → IsRepeated turn count (Some count) all
more_turns turn some others all m n count e same h k = rw (same, ← e) (sum h k)

pub no_maybe : (turn : Tree) (n : ℕ) → n ≡ 0 → IsRepeated turn 0 (Some n) tree.Empty
no_maybe turn n e = rw e none

pub one_maybe : (turn copy all : Tree) → all ≡ tree.Either copy tree.Empty → copy ≡ turn → IsRepeated turn 0 (Some 1) all
one_maybe turn copy all e same = rw (e ∙ ap (λ t. tree.Either t tree.Empty) same) maybe

pub more_maybes : (turn some others all : Tree) (m n count : ℕ) → m + n ≡ count → all ≡ tree.Both some others → IsRepeated turn 0 (Some m) some → IsRepeated turn 0 (Some n) others
    → IsRepeated turn 0 (Some count) all
more_maybes turn some others all m n count e same h k = rw (same, ← e) (sum h k)

pub any_turns : (turn copy : Tree) → copy ≡ turn → IsRepeated turn 0 None (tree.Many copy)
any_turns turn copy same = rw same any

pub all_turns : (turn some others all : Tree) (least : ℕ) (most : Option ℕ) → IfSome most (λ m. least ≤ m) → all ≡ tree.Both some others → IsRepeated turn least (Some least) some
    → IsRepeated turn 0 (further least most) others → IsRepeated turn least most all
all_turns turn some others all least None le same h k =
    let e : least + 0 ≡ least = omega arith in rw same (rw e at (sum h k))
all_turns turn some others all least (Some most) le same h k =
    let e : least + 0 ≡ least = omega arith in
    let f : least + (most - least) ≡ most = omega arith in
    rw same (rw f at (rw e at (sum h k)))

-- ---- their bounds are in order

times_ordered : (text rest : List ℕ) (least : ℕ) (most : Option ℕ) → HasTimes text least most rest → IfSome most (λ m. least ≤ m)
times_ordered _ rest _ _ star = tt
times_ordered _ rest _ _ plus = tt
times_ordered _ rest _ _ question = omega arith
times_ordered _ rest n _ (exactly some h) = omega arith
times_ordered _ rest n _ (at_least some h) = tt
times_ordered _ rest n _ (between some h others k le) = le

pub ordered : (text rest : List ℕ) (least : ℕ) (most : Option ℕ) → HasQuantifier text least most rest → IfSome most (λ m. least ≤ m)
ordered text _ _ _ no_quantifier = omega arith
ordered text rest least most (greedy h) = times_ordered text rest least most h
ordered text rest least most (lazy h) = times_ordered text _ least most h

-- ---- rows

pub trees-push : (nodes : List Node) (node : Node) → trees_of (nodes ++ node ∷ []) ≡ trees_of nodes ++ tree_of node ∷ []
trees-push [] node = refl
trees-push (n ∷ nodes) node = ap (λ ts. tree_of n ∷ ts) (trees-push nodes node)

abbrev pub Ended : Bool → List ℕ → List Tree → Tree → List ℕ → Type 0
Ended e text trees tree rest = (more : List ℕ) × HasRow e text trees (separator e ++ more) × HasPiece e more tree rest

-- the last piece of a row
last_piece : (e : Bool) (text rest : List ℕ) (trees : List Tree) (t : Tree) → HasRow e text (trees ++ t ∷ []) rest → Ended e text trees t rest
last_piece e _ rest [] t (piece text p no_piece) = (text, no_piece, p)
last_piece e _ rest (x ∷ trees) t (piece text {more = more} p row) =
    let l = last_piece e more rest trees t row in (l.0, piece text p l.1, l.2)

pub last-part : (e : Bool) (text rest : List ℕ) (old new : List Node) (node : Node) → old ≡ new ++ node ∷ [] → HasRow e text (trees_of old) rest → Ended e text (trees_of new) (tree_of node) rest
last-part e text rest old new node is h = last_piece e text rest (trees_of new) (tree_of node) (rw (ap trees_of is ∙ trees-push new node) at h)

joins : (e : Bool) (text mid rest : List ℕ) (a b : Tree) → HasPiece e text a (separator e ++ mid) → HasPiece e mid b rest → HasPiece e text (joint e a b) rest
joins true text mid rest a b h k = either h k
joins false text mid rest a b h k = both h k

pub two-parts : (e : Bool) (text rest : List ℕ) (old mid new : List Tree) (a b all : Tree) → all ≡ joint e a b
    → ((text rest : List ℕ) → HasRow e text old rest → Ended e text mid b rest)
    → ((text rest : List ℕ) → HasRow e text mid rest → Ended e text new a rest) → HasRow e text old rest → Ended e text new all rest
two-parts e text rest old mid new a b all same second first h =
    let s = second text rest h in
    let f = first text (separator e ++ s.0) s.1 in
    (f.0, f.1, (rw (← same) at (joins e f.0 s.0 rest a b f.2 s.2)))

same_after : (e : Bool) (text more : List ℕ) → separator e ++ text ≡ separator e ++ more → text ≡ more
same_after true text more e = cc
same_after false text more e = e

row_end : (e : Bool) (text rest : List ℕ) → HasRow e text [] rest → text ≡ rest
row_end e text _ no_piece = refl

no_items : {A : Type 0} (xs : List A) → length xs ≡ 0 → xs ≡ []
no_items [] e = refl
no_items (x ∷ xs) e = absurd (omega arith)

pub whole-row : (e : Bool) (text rest : List ℕ) (new : List Node) (t : Tree) → length new ≡ 0 → Ended e (separator e ++ text) (trees_of new) t rest → HasPiece e text t rest
whole-row e text rest new t empty h = rw (same_after e text h.0 (row_end e (separator e ++ text) (separator e ++ h.0) (rw (no_items new empty) at h.1))) h.2

push : (e : Bool) (text next end rest : List ℕ) (trees : List Tree) (t : Tree) → end ≡ separator e ++ next → HasRow e text trees end → HasPiece e next t rest → HasRow e text (trees ++ t ∷ []) rest
push e _ next end rest _ t is no_piece p = rw is (piece next p no_piece)
push e _ next end rest _ t is (piece text {trees = trees} {more = more} q row) p = piece text q (push e more next end rest trees t is row p)

-- one piece more
pub row-push : (e : Bool) (text next rest : List ℕ) (trees : List Tree) (t : Tree) → HasRow e text trees (separator e ++ next) → HasPiece e next t rest → HasRow e text (trees ++ t ∷ []) rest
row-push e text next rest trees t row p = push e text next (separator e ++ next) rest trees t refl row p
