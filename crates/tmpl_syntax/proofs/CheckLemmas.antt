-- For `check`: the verdict, from item to item and at the end.
use Rattle.std.proofs.Common.{arith, ◌≡◌, ◌≢◌, ℕ, ◌+◌, ◌<◌, ◌≤◌, List, [], ◌∷◌, refl, sym, ap, ◌∙◌, length, map, drop, get_or, reverse}
use Rattle.std.proofs.Common.{Option, Some, None, Ok, Err}
use Rattle.std.specs.Prelude.{slice_get}
use Rattle.std.specs.Option.{option_map}
use Rattle.std.proofs.lemmas.List.{drop_all, length-map, length-reverse}
use Rattle.std.proofs.lemmas.Option.{slice_get_read, slice_get-map}
use Rattle.tmpl_syntax.specs.computed.Frames.{Frame, top, names_at, fault_at, frames_after, at_end, Known, with_inner, known_after, none_known, unless_fault}
use Rattle.tmpl_syntax.specs.declared.item.Item as held
use Rattle.tmpl_syntax.specs.declared.place.frame.Frame as held_frame
use Rattle.tmpl_syntax.specs.Fault.{Reason, open_at_end}
use Rattle.tmpl_syntax.specs.Item.{Item}
use Rattle.tmpl_syntax.specs.computed.View.{item_of, frame_of, frames_in}
use Rattle.tmpl_syntax.specs.Place.Role.{Name, Role, role_of, roles_of}
use Rattle.tmpl_syntax.specs.computed.Frames.{fine, refused, left_open}
use Rattle.tmpl_syntax.specs.computed.Frames.{verdict_from, verdict_of}
use Rattle.tmpl_syntax.specs.computed.Parse.{IsRefusal, line_in, by_verdict, checked}
use Rattle.tmpl_syntax.specs.computed.Parse.{last_line}
use Rattle.tmpl_syntax.proofs.SecondLemmas.{drop-next}

-- from the place i on, where these frames and names stand, the verdict is that of all items
abbrev pub IsChecking : List Role → ℕ → Known → List Frame → Type 0
IsChecking xs i known fs = verdict_of xs ≡ verdict_from i fs known (drop i xs)

pub checking-start : (xs : List Role) (known : Known) (fs : List Frame) → known ≡ none_known → fs ≡ [] → IsChecking xs 0 known fs
unfolding verdict_of
checking-start xs known fs e f = rw (e, f)

module _ (xs : List Role) (i : ℕ) (known : Known) (fs : List Frame) (x : Role) (at : slice_get xs i ≡ Some x) (c : IsChecking xs i known fs)
    (t : Option Frame) (ms : List Name) (same : t ≡ top fs) (sees : ms ≡ names_at x t known.inner) where
  -- by the fault of the item
  goes : (o : Option Reason) → fault_at x t ms ≡ o → verdict_of xs
      ≡ unless_fault o i (verdict_from (i + 1) (frames_after x fs ms) (known_after x (top fs) (with_inner known ms)) (drop (i + 1) xs))
  goes o e = c ∙ rw (drop-next xs i x at) (rw (← e, sees, same) refl)

  pub checking-past : (k : Known) (gs : List Frame) → k ≡ known_after x (top fs) (with_inner known ms) → gs ≡ frames_after x fs ms
      → fault_at x t ms ≡ None → IsChecking xs (i + 1) k gs
  checking-past k gs e f none = rw (e, f) (goes None none)

  pub checking-refused : (f : Reason) → fault_at x t ms ≡ Some f → verdict_of xs ≡ refused i f
  checking-refused f e = goes (Some f) e

-- the item at a place, as it is held and by its role
pub item-at : (items : List held.Item) (i : ℕ) (x : held.Item) → i < length items → x ≡ get_or items i x → slice_get (map item_of items) i ≡ Some (item_of x)
item-at items i x lt is = slice_get-map item_of items i ∙ ap (option_map item_of) (slice_get_read items (length items) i x refl lt is)

pub role-here : (items : List held.Item) (i : ℕ) (x : held.Item) → i < length items → x ≡ get_or items i x
    → slice_get (roles_of (map item_of items)) i ≡ Some (role_of (item_of x))
role-here items i x lt is = slice_get-map role_of (map item_of items) i ∙ ap (option_map role_of) (item-at items i x lt is)

pub checked-refused : (bytes : List ℕ) (items : List Item) (i : ℕ) (x : Item) (f : Reason) (line : ℕ) (o : Option Reason) → slice_get items i ≡ Some x
    → verdict_of (roles_of items) ≡ refused i f → line ≡ line_in (Some x) → o ≡ Some f → IsRefusal (checked bytes items) line o
unfolding checked
checked-refused bytes items i x f line o at e is named = rw (named, is, e, at)

fine-at : (fs : List Frame) → length fs ≡ 0 → at_end fs ≡ fine
fine-at [] n = refl
fine-at (f ∷ fs) n = absurd (omega arith)

open-at : (fs : List Frame) → length fs ≢ 0 → at_end fs ≡ left_open
open-at [] n = absurd (n refl)
open-at (f ∷ fs) n = refl

-- at the end
module _ (bytes : List ℕ) (items : List held.Item) (i : ℕ) (known : Known) (stack : List held_frame.Frame) (le : length items ≤ i)
    (c : IsChecking (roles_of (map item_of items)) i known (frames_in stack)) where
  count : length (frames_in stack) ≡ length stack
  count = length-map (reverse stack) frame_of ∙ length-reverse stack

  ended : checked bytes (map item_of items) ≡ by_verdict (last_line bytes) (map item_of items) (at_end (frames_in stack))
  unfolding checked
  ended = ap (by_verdict (last_line bytes) (map item_of items)) (c ∙ ap (verdict_from i (frames_in stack) known)
      (drop_all i (roles_of (map item_of items)) (omega (arith, length-map (map item_of items) role_of, length-map items item_of))))

  pub checked-fine : length stack ≡ 0 → checked bytes (map item_of items) ≡ Ok tt
  checked-fine n = ended ∙ ap (by_verdict (last_line bytes) (map item_of items)) (fine-at (frames_in stack) (count ∙ n))

  pub checked-open : length stack ≢ 0 → checked bytes (map item_of items) ≡ Err (last_line bytes, open_at_end)
  checked-open n = ended ∙ ap (by_verdict (last_line bytes) (map item_of items)) (open-at (frames_in stack) (λ e. n (sym count ∙ e)))
