-- For `Set`: its entries as a list of names and trees.
use Rattle.std.proofs.Common.{◌≡◌, ℕ, ◌+◌, nat_lt, not, length, Bool, true, false, List, [], ◌∷◌, Option, Some, None, refl, sym, ap}
use Rattle.std.proofs.Common.{◌∙◌, ◌&&◌, cond, map, Vec, Global}
use Rattle.std.specs.Option.{option_map, is_some}
use Rattle.std.specs.List.{find, list_all, position, position_or_len}
use Rattle.std.specs.Str.{bytes_eq}
use Rattle.std.specs.Map.{lookup, keys_of}
use Rattle.std.proofs.lemmas.Bool.{and_parts}
use Rattle.std.proofs.lemmas.List.{length-map}
use Rattle.tmpl_syntax.specs.View.{tree_of, node_of, nodes_in, template_of}
use Rattle.tmpl_syntax.specs.Tree.{NodeKind, text, Nodes, then, Tree}
use Rattle.tmpl_syntax.specs.declared.tree.Tree as held
use Rattle.tmpl_syntax.specs.Set.{Template, tree_named, number_of, is_blank, add_definition}
use Rattle.tmpl_syntax.specs.computed.Set.{has_name, is_blank_node, choose}
use Rattle.tmpl_syntax.specs.declared.tree.Node as held_node
use Rattle.indexmap.specs.IndexMap.{insert_entry}

abbrev pub Entry : Type 0
Entry = Vec ℕ Global × held.Tree

pub names-view : (es : List Entry) → map (λ (k : Vec ℕ Global). k.items) (keys_of es) ≡ map (λ (t : Template). t.0) (map template_of es)
names-view [] = refl
names-view (e ∷ es) = ap (λ ns. e.0.items ∷ ns) (names-view es)

pub lookup-view : (name : List ℕ) (es : List Entry)
    → option_map tree_of (lookup (λ (k : Vec ℕ Global). bytes_eq name k.items) es) ≡ tree_named name (map template_of es)
lookup-view name [] = refl
lookup-view name (e ∷ es) = go (bytes_eq name e.0.items) (lookup-view name es)
  where
    go : (same : Bool) → option_map tree_of (lookup (λ (k : Vec ℕ Global). bytes_eq name k.items) es) ≡ tree_named name (map template_of es)
        → option_map tree_of (cond same (Some e.1) (lookup (λ (k : Vec ℕ Global). bytes_eq name k.items) es))
        ≡ option_map (λ (t : Template). t.1) (cond same (Some (template_of e)) (find (has_name name) (map template_of es)))
    go true ih = refl
    go false ih = ih

blank-next : (line : ℕ) (k : NodeKind) (ns : Nodes) → is_blank (then line k ns) ≡ (is_blank_node k && is_blank ns)
blank-next line (text bytes) ns = refl
blank-next line _ ns = refl

pub blank-list : (ns : List held_node.Node) → list_all (λ n. is_blank_node (node_of n).what) ns ≡ is_blank (nodes_in ns)
blank-list [] = refl
blank-list (n ∷ ns) = ap (λ b. is_blank_node (node_of n).what && b) (blank-list ns) ∙ sym (blank-next (node_of n).line (node_of n).what (nodes_in ns))

-- the tree of this template or of another one
abbrev named : Bool → Template → Option Template → Option Tree
named same t other = option_map (λ (u : Template). u.1) (cond same (Some t) other)

-- a blank definition of a name that is there leaves the set as it is
pub kept-as-is : (ts : List Template) (name : List ℕ) (tree : Tree) → (is_blank tree.nodes && is_some (tree_named name ts)) ≡ true → ts ≡ add_definition ts name tree
kept-as-is [] name tree e = let parts = and_parts (is_blank tree.nodes) false e in cc
kept-as-is (t ∷ ts) name tree e = go (bytes_eq name t.0) (kept-as-is ts name tree) e
  where
    go : (same : Bool) → ((is_blank tree.nodes && is_some (tree_named name ts)) ≡ true → ts ≡ add_definition ts name tree)
        → (is_blank tree.nodes && is_some (named same t (find (has_name name) ts))) ≡ true
        → t ∷ ts ≡ cond same ((t.0, choose t.1 tree) ∷ ts) (t ∷ add_definition ts name tree)
    go true ih h = ap (λ b. (t.0, cond b t.1 tree) ∷ ts) (sym (and_parts (is_blank tree.nodes) true h).0)
    go false ih h = ap (λ us. t ∷ us) (ih h)

-- any other is inserted
pub add_definition-insert : (es : List Entry) (k : Vec ℕ Global) (tree : held.Tree)
    → (is_blank (tree_of tree).nodes && is_some (tree_named k.items (map template_of es))) ≡ false
    → map template_of (insert_entry (λ (x y : Vec ℕ Global). bytes_eq x.items y.items) es k tree) ≡ add_definition (map template_of es) k.items (tree_of tree)
add_definition-insert [] k tree e = refl
add_definition-insert (d ∷ es) k tree e = go (bytes_eq k.items d.0.items) (is_blank (tree_of tree).nodes) refl (add_definition-insert es k tree) e
  where
    go : (same blank : Bool) → is_blank (tree_of tree).nodes ≡ blank → ((is_blank (tree_of tree).nodes && is_some (tree_named k.items (map template_of es)))
        ≡ false → map template_of (insert_entry (λ (x y : Vec ℕ Global). bytes_eq x.items y.items) es k tree)
        ≡ add_definition (map template_of es) k.items (tree_of tree)) → (is_blank (tree_of tree).nodes && is_some
        (named same (template_of d) (find (has_name k.items) (map template_of es)))) ≡ false
        → map template_of (cond same ((d.0, tree) ∷ es) (d ∷ insert_entry (λ (x y : Vec ℕ Global). bytes_eq x.items y.items) es k tree))
        ≡ cond same ((d.0.items, choose (tree_of d.1) (tree_of tree)) ∷ map template_of es)
        (template_of d ∷ add_definition (map template_of es) k.items (tree_of tree))
    go true true is ih h = cc
    go true false is ih h = ap (λ b. (d.0.items, cond b (tree_of d.1) (tree_of tree)) ∷ map template_of es) (sym is)
    go false blank is ih h = ap (λ ts. template_of d ∷ ts) (ih h)

pub ruleset blanks = blank-list

-- ---- by number

place-view : (name : List ℕ) (es : List Entry)
    → position_or_len (λ (k : Vec ℕ Global). bytes_eq name k.items) (keys_of es) ≡ position_or_len (has_name name) (map template_of es)
place-view name [] = refl
place-view name (e ∷ es) = ap (λ n. cond (not (bytes_eq name e.0.items)) (1 + n) 0) (place-view name es)

abbrev within : ℕ → ℕ → Option ℕ
within place count = cond (nat_lt place count) (Some place) None

pub number-view : (name : List ℕ) (es : List Entry) → position (λ (k : Vec ℕ Global). bytes_eq name k.items) (keys_of es) ≡ number_of name (map template_of es)
number-view name es =
    ap (λ place. within place (length (keys_of es))) (place-view name es)
    ∙ ap (λ count. within (position_or_len (has_name name) (map template_of es)) count) (length-map es (λ (e : Entry). e.0) ∙ sym (length-map es template_of))

pub ruleset views = (names-view, kept-as-is)
