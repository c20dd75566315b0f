-- For the invariant of `Set`: each tree of a set is kept as files are added.
use Rattle.std.proofs.Common.{◌≡◌, ◌≤◌, length, ℕ, zero, suc, slice_get, Bool, true, false, List, [], ◌∷◌, Option, Some, None, Ok, refl}
use Rattle.std.proofs.Common.{◌∙◌, sym, subst, cond, if◌then◌else◌, Bor, map}
use Rattle.std.specs.Prelude.{IfSome, find}
use Rattle.std.specs.Option.{option_map}
use Rattle.std.specs.Str.{bytes_eq}
use Rattle.core.specs.Bool.{Decides, one_answer}
use Rattle.std.proofs.lemmas.Slice.Eq.{bytes_eq-Decides}
use Rattle.tmpl_values.specs.Bytes.{AreBytes}
use Rattle.tmpl_syntax.specs.Tree.{Nodes, Tree, Definition}
use Rattle.tmpl_syntax.specs.View.{tree_of}
use Rattle.tmpl_syntax.specs.declared.tree.Tree as held
use Rattle.tmpl_syntax.specs.Language.{every_action}
use Rattle.tmpl_syntax.specs.Item.{Item}
use Rattle.tmpl_syntax.specs.Place.Role.{roles_of}
use Rattle.tmpl_syntax.specs.computed.Frames.{Verdict, fine, Judged}
use Rattle.tmpl_syntax.specs.Set.{Template, tree_named, is_blank, add_definition, defined_each}
use Rattle.tmpl_syntax.specs.computed.Set.{has_name, choose}
use Rattle.tmpl_syntax.specs.Kept.{AreKept, HaveOwnNames, IsKept}
use Rattle.tmpl_syntax.specs.Parse.{base_name, most_bytes, all_defined, template_in}
use Rattle.tmpl_syntax.specs.computed.Parse.{last_line}
use Rattle.tmpl_syntax.specs.Formed.{IsFormed, AreFormed}
use Rattle.tmpl_syntax.specs.Need.{NeedAtMost, most_need}
use Rattle.tmpl_syntax.specs.Print.Printable.{IsPrintable, ArePrintable}
use Rattle.tmpl_syntax.specs.computed.Frames.{verdict_of}
use Rattle.tmpl_syntax.specs.computed.Build.{nodes_from, definitions_from}
use Rattle.tmpl_syntax.specs.computed.Parse.{by_verdict, checked, all_from, items_of}
use Rattle.tmpl_syntax.proofs.ItemLemmas.{has-items}
use Rattle.tmpl_syntax.proofs.SpellingLemmas.{spells-fine}
use Rattle.tmpl_syntax.proofs.AcceptedLemmas.{spells_formed}
use Rattle.tmpl_syntax.proofs.VerdictLemmas.{judged-all}
use Rattle.tmpl_syntax.proofs.NeedLemmas.{need-most}
use Rattle.tmpl_syntax.proofs.PrintableNodeLemmas.{keeps-printable}

-- ---- by number

pub at-kept : (ts : List Template) (number : ℕ) (t : Template) → AreKept ts → Some t ≡ slice_get ts number → IsKept t.1
at-kept [] number t h at = cc
at-kept (u ∷ ts) zero t h at = let same : t ≡ u = cc in rw same h.1
at-kept (u ∷ ts) (suc number) t h at = at-kept ts number t h.2 at

-- ---- a definition

choose-kept : (b : Bool) (old new : Tree) → IsKept old → IsKept new → IsKept (if b then old else new)
choose-kept true old new h k = h
choose-kept false old new h k = k

pub add_definition-kept : (ts : List Template) (name : List ℕ) (tree : Tree) → AreKept ts → AreBytes name → IsKept tree → AreKept (add_definition ts name tree)
add_definition-kept [] name tree h b k = (b, k, tt)
add_definition-kept (t ∷ ts) name tree h b k = go (bytes_eq name t.0) (add_definition-kept ts name tree h.2 b k)
  where
    go : (b : Bool) → AreKept (add_definition ts name tree) → AreKept (if b then (t.0, choose t.1 tree) ∷ ts else t ∷ add_definition ts name tree)
    go true more = (h.0, choose-kept (is_blank tree.nodes) t.1 tree h.1 k, h.2)
    go false more = (h.0, h.1, more)

-- ---- a look-up

named-kept : (name : List ℕ) (ts : List Template) → AreKept ts → IfSome (tree_named name ts) IsKept
named-kept name [] h = tt
named-kept name (t ∷ ts) h = go (bytes_eq name t.0) (named-kept name ts h.2)
  where
    go : (b : Bool) → IfSome (tree_named name ts) IsKept → IfSome (option_map (λ (u : Template). u.1) (cond b (Some t) (find (has_name name) ts))) IsKept
    go true more = h.1
    go false more = more

pub found-kept : (name : List ℕ) (ts : List Template) (o : Option (Bor held.Tree)) → AreKept ts
    → option_map (λ (t : Bor held.Tree). tree_of t.now) o ≡ tree_named name ts → IfSome o (λ (t : Bor held.Tree). IsKept (tree_of t.now))
found-kept name ts None h e = tt
found-kept name ts (Some t) h e = subst (λ o. IfSome o IsKept) (sym e) (named-kept name ts h)

-- ---- the tree of a file

verdict-fine : (last : ℕ) (items : List Item) (v : Verdict) → by_verdict last items v ≡ Ok tt → v ≡ fine
verdict-fine last items fine e = refl
verdict-fine last items _ e = absurd (cc)

pub checked-verdict : (bytes : List ℕ) (items : List Item) → checked bytes items ≡ Ok tt → verdict_of (roles_of items) ≡ fine
unfolding checked
checked-verdict bytes items e = verdict-fine (last_line bytes) items (verdict_of (roles_of items)) e

-- templates that are kept can be printed
pub kept-printable : (ts : List Template) → AreKept ts → ArePrintable ts
kept-printable [] h = tt
kept-printable (t ∷ ts) h = (h.0, h.1.printable, kept-printable ts h.2)

-- the templates of a file that are formed, can be printed and are bounded
all-kept : (file : List ℕ) (ds : List Definition) (own : Nodes) → AreBytes (base_name file) → AreFormed ds × IsFormed own
    → ArePrintable (map (template_in file) ds) → IsPrintable own → NeedAtMost most_need (map (template_in file) (all_defined file ds own))
    → AreKept (map (template_in file) (all_defined file ds own))
all-kept file [] own name f p o n = (name, record { formed = f.1; printable = o; need = n.0 }, tt)
all-kept file (d ∷ ds) own name f p o n =
    (p.0, record { formed = f.0.0; printable = p.1; need = n.0 }, all-kept file ds own name (f.0.1, f.1) p.2 o n.1)

-- the templates of a file are kept; these are those that were built
pub file-kept : (file bytes : List ℕ) (ts : List Template) → AreBytes (base_name file) → AreBytes bytes → length bytes ≤ most_bytes
    → checked bytes (items_of bytes) ≡ Ok tt → ts ≡ map (template_in file) (all_from (base_name file) (items_of bytes)) → AreKept ts
file-kept file bytes ts name h within passed built =
    let items = items_of bytes in
    let ds = definitions_from items in
    let own = nodes_from items in
    let accepted = checked-verdict bytes items passed in
    let spelled = spells-fine items accepted in
    let formed = spells_formed items ds own (subst (Judged (roles_of items)) accepted (judged-all (roles_of items))) spelled in
    let printable = keeps-printable every_action bytes items ds own h (has-items bytes) spelled in
    subst AreKept (sym built) (all-kept file ds own name formed (printable.0 file) printable.1
    (need-most every_action file bytes items ds own within (has-items bytes) spelled))

-- ---- definitions one by one

pub each-kept : (set ts : List Template) → AreKept set → AreKept ts → AreKept (defined_each set ts)
each-kept set [] h k = h
each-kept set (t ∷ ts) h k = each-kept (add_definition set t.0 t.1) ts (add_definition-kept set t.0 t.1 h k.0 k.1) k.2

-- ---- names

-- two names are the same whichever is looked at first
pub same-both : (a b : List ℕ) → bytes_eq a b ≡ false → bytes_eq b a ≡ false
same-both a b differ = one_answer (bytes_eq b a) (bytes_eq a b) (bytes_eq-Decides b a) flipped ∙ differ
  where
    flipped : Decides (bytes_eq a b) (b ≡ a)
    flipped = (λ e. sym ((bytes_eq-Decides a b).0 e), λ e. (bytes_eq-Decides a b).1 (sym e))

-- a name that no template has, and that is not the new one's, is none after a definition either
unnamed : (n : List ℕ) (ts : List Template) (name : List ℕ) (tree : Tree) → bytes_eq n name ≡ false → tree_named n ts ≡ None
    → tree_named n (add_definition ts name tree) ≡ None
unnamed n [] name tree other none = rw other refl
unnamed n (t ∷ ts) name tree other none = by (bytes_eq n t.0) refl none (unnamed n ts name tree other)
  where
    split : (c : Bool) → bytes_eq n t.0 ≡ false → tree_named n ts ≡ None → tree_named n (add_definition ts name tree) ≡ None
        → tree_named n (if c then (t.0, choose t.1 tree) ∷ ts else t ∷ add_definition ts name tree) ≡ None
    split true is none more = rw is none
    split false is none more = rw is more

    by : (b : Bool) → bytes_eq n t.0 ≡ b → option_map (λ (u : Template). u.1) (cond b (Some t) (find (has_name n) ts)) ≡ None
        → (tree_named n ts ≡ None → tree_named n (add_definition ts name tree) ≡ None) → tree_named n (add_definition (t ∷ ts) name tree) ≡ None
    by true is h more = cc
    by false is h more = split (bytes_eq name t.0) is h (more h)

add_definition-own : (ts : List Template) (name : List ℕ) (tree : Tree) → HaveOwnNames ts → HaveOwnNames (add_definition ts name tree)
add_definition-own [] name tree h = (refl, tt)
add_definition-own (t ∷ ts) name tree h = go (bytes_eq name t.0) refl (add_definition-own ts name tree h.1)
  where
    go : (b : Bool) → bytes_eq name t.0 ≡ b → HaveOwnNames (add_definition ts name tree)
        → HaveOwnNames (if b then (t.0, choose t.1 tree) ∷ ts else t ∷ add_definition ts name tree)
    go true is more = h
    go false is more = (unnamed t.0 ts name tree (same-both name t.0 is) h.0, more)

pub each-own : (set ts : List Template) → HaveOwnNames set → HaveOwnNames (defined_each set ts)
each-own set [] h = h
each-own set (t ∷ ts) h = each-own (add_definition set t.0 t.1) ts (add_definition-own set t.0 t.1 h)

pub ruleset kept = (file-kept)
