-- For `is_known`: what holds of each member and each item.
use Rattle.std.proofs.Common.{◌≡◌, ◌||◌, Bool, List, [], ◌∷◌, None, ap, map, refl}
use Rattle.std.specs.List.{AllByRecursion, list_any}
use Rattle.serde_json.specs.Data as json
use Rattle.serde_json.specs.Data.{Data, Members, no_members, member}
use Rattle.serde_json.specs.Find.{as_object}
use Rattle.serde_json.specs.View.{items_view, view}
use Rattle.serde_json.specs.declared.value.Value as tree
use Rattle.tmpl_json_schema.specs.Keywords.{AreKnown, EachListed, EachNamed, IsKnown}
use Rattle.tmpl_json_schema.specs.computed.Conformed.{EachMember}
use Rattle.tmpl_json_schema.specs.computed.Known.{IsRule}

pub all-known : (ms : Members) → EachMember IsRule ms → AreKnown ms
all-known no_members h = tt
all-known (member k d ms) h = (h.0, all-known ms h.1)

pub all-named : (ms : Members) → EachMember (λ k d. IsKnown d) ms → EachNamed ms
all-named no_members h = tt
all-named (member k d ms) h = (h.0, all-named ms h.1)

pub all-listed : (ds : List tree.Value) → AllByRecursion (λ d. IsKnown (view d)) ds → EachListed (items_view ds)
all-listed [] h = tt
all-listed (d ∷ ds) h = (h.0, all-listed ds h.1)

pub list_any-map : {A B : Type 0} (f : A → B) (P : B → Bool) (xs : List A) → list_any P (map f xs) ≡ list_any (λ x. P (f x)) xs
list_any-map f P [] = refl
list_any-map f P (x ∷ xs) = ap (λ b. P (f x) || b) (list_any-map f P xs)

-- what is no object has no keywords
pub no-object : (d : Data) → as_object d ≡ None → IsKnown d
no-object (json.object ms) e = cc
no-object d e = tt
