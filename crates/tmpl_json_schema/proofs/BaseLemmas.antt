-- For `is_one_base`: what holds of each member and each item.
use Rattle.std.proofs.Common.{◌≡◌, ◌||◌, ◌&&◌, Bool, true, false, List, ℕ, [], ◌∷◌, refl}
use Rattle.std.specs.List.{AllByRecursion}
use Rattle.std.specs.Str.{bytes_eq}
use Rattle.serde_json.specs.Data.{Members, no_members, member}
use Rattle.serde_json.specs.View.{items_view, view}
use Rattle.serde_json.specs.declared.value.Value as tree
use Rattle.tmpl_json_schema.specs.Document.{below_has_base, has_base, is_base, item_has_base, member_has_base}
use Rattle.tmpl_json_schema.specs.computed.Conformed.{EachMember}
use Rattle.tmpl_json_schema.specs.computed.Defined.{IsUnbased}

neither : (a b : Bool) → a ≡ false → b ≡ false → (a || b) ≡ false
neither true b e f = e
neither false b e f = f

none-of-three : (a b c : Bool) → (a || b) ≡ false → c ≡ false → (a || (b || c)) ≡ false
none-of-three true b c e f = e
none-of-three false true c e f = e
none-of-three false false c e f = f

pub items-unbased : (key : List ℕ) (ds : List tree.Value) → AllByRecursion (λ d. has_base key (view d) ≡ false) ds → item_has_base key (items_view ds) ≡ false
items-unbased key [] h = refl
items-unbased key (d ∷ ds) h = neither (has_base key (view d)) (item_has_base key (items_view ds)) h.0 (items-unbased key ds h.1)

pub members-unbased : (key : List ℕ) (ms : Members) → EachMember (IsUnbased key) ms → member_has_base key ms ≡ false
members-unbased key no_members h = refl
members-unbased key (member k d ms) h = none-of-three (bytes_eq k key && is_base d) (has_base key d) (member_has_base key ms) h.0 (members-unbased key ms h.1)

pub below-unbased : (key : List ℕ) (ms : Members) → EachMember (λ k d. has_base key d ≡ false) ms → below_has_base key ms ≡ false
below-unbased key no_members h = refl
below-unbased key (member k d ms) h = neither (has_base key d) (below_has_base key ms) h.0 (below-unbased key ms h.1)
