-- For `more_branches`, `parse_file` and `parse_owned`: what a language accepts, one with more else branches accepts, and what
-- was added of a file, with its path at a refusal, is what each clause says.
use Rattle.std.proofs.Common.{◌≡◌, ◌∙◌, ℕ, suc, List, [], ◌∷◌, Option, Some, None, Result, Ok, Err, refl, ap, sym, length}
use Rattle.std.specs.Prelude.{slice_get}
use Rattle.tmpl_lex.specs.Piece.{Piece}
use Rattle.tmpl_syntax.specs.Fault as reason
use Rattle.tmpl_syntax.specs.Language.{Language, every_action, go_1_22}
use Rattle.tmpl_syntax.specs.Item.{Item, IsItem, a_text, an_unreadable, unread, too_deep, read}
use Rattle.std.specs.List.{AllZip}
use Rattle.tmpl_syntax.specs.Place.Role.{Role, flawed, role_of, roles_of}
use Rattle.tmpl_syntax.specs.Place.Body.{NoneRefused, flawed as flawed_applies}
use Rattle.tmpl_syntax.specs.Laws.{IsLarger, AcceptsInLarger}
use Rattle.tmpl_syntax.proofs.VerdictLemmas.{within}
use Rattle.tmpl_syntax.proofs.ReadingLemmas.{parsed-accepted, accepted, refusal-for}
use Rattle.tmpl_syntax.specs.Fault.{Reason, reason_of}
use Rattle.tmpl_syntax.specs.Set.{Template}
use Rattle.tmpl_syntax.specs.Parse.{IsAccepted, IsReading, IsAsBefore}
use Rattle.tmpl_syntax.specs.computed.Parse.{Refusal, IsRefusal, parsed, IsAdded, IsParse, with_file}
use Rattle.std.specs.Borrow.{Bor}
use Rattle.tmpl_syntax.specs.declared.fault.Refusal as held

-- no item of these is unread
abbrev AllRead : List Role → Type 0
AllRead xs = (k : ℕ) → slice_get xs k ≡ Some (flawed reason.not_an_action) → ⊥

all-read : (xs : List Role) → NoneRefused xs (length xs) → AllRead xs
all-read xs none k at = none k reason.not_an_action (within xs k reason.not_an_action (flawed_applies at)) (flawed_applies at)

module _ (large small : Language) (more : IsLarger large small) where
  same-item : {p : Piece} {x : Item} → IsItem small p x → (role_of x ≡ flawed reason.not_an_action → ⊥) → IsItem large p x
  same-item a_text h = a_text
  same-item an_unreadable h = an_unreadable
  same-item (unread none) h = absurd (h refl)
  same-item (too_deep a s t lt) h = too_deep a s (more a t) lt
  same-item (read {a = a} s t le) h = read s (more a t) le

  same-items : (ps : List Piece) (xs : List Item) → AllZip (IsItem small) ps xs → AllRead (roles_of xs) → AllZip (IsItem large) ps xs
  same-items [] [] is h = tt
  same-items (p ∷ ps) (x ∷ xs) is h = (same-item is.0 (λ e. h 0 (ap (λ r. Some r) e)), same-items ps xs is.1 (λ k e. h (suc k) e))
  same-items _ _ is h = absurd is

pub accepts_in_larger : AcceptsInLarger
accepts_in_larger large small more old file bytes new h = record {
  short = h.short;
  items = h.items;
  has = (h.has.0, h.has.1, same-items large small more h.has.0 h.items h.has.2 (all-read (roles_of h.items) h.judged.0));
  judged = h.judged;
  definitions = h.definitions;
  own = h.own;
  spells = h.spells;
  once = h.once;
  set = h.set;
}

-- what Go 1.22 makes of a file is what is parsed
module _ (old : List Template) (file bytes : List ℕ) (set : List Template) (accepted : IsAccepted go_1_22 old file bytes set) where
  parsed-before : parsed old file bytes ≡ Ok set
  parsed-before = parsed-accepted old file bytes set (accepts_in_larger every_action go_1_22 (λ a t. refl) old file bytes set accepted)

  pub same-before : (new : List Template) → parsed old file bytes ≡ Ok new → new ≡ set
  same-before new e = let same : ◌≡◌ {A = Result (List Template) Refusal} (Ok new) (Ok set) = sym e ∙ parsed-before in cc

  pub only-memory : (line : ℕ) (o : Option Reason) → IsRefusal (parsed old file bytes) line o → o ≡ None
  only-memory line None r = refl
  only-memory line (Some reason) r = let same : ◌≡◌ {A = Result (List Template) Refusal} (Ok set) (Err (line, reason)) = sym parsed-before ∙ r in absurd (cc)

module _ (old : List Template) (file : Bor (List ℕ)) (bytes : List ℕ) (new : List Template) where
  pub reading-with : (r : Result (Unit {0}) held.Refusal) → IsAdded old file.now bytes new r → IsReading old file bytes new (with_file file r)
  reading-with (Ok u) is = accepted old file.now bytes new is
  reading-with (Err r) (same, is) = (refl, same, refusal-for old file.now bytes r.line (reason_of r.kind) is)

  pub parse-with : (r : Result (Unit {0}) held.Refusal) → IsAdded old file.now bytes new r → IsParse old file bytes new (with_file file r)
  parse-with (Ok u) is = is
  parse-with (Err r) (same, is) = (refl, same, is)

  pub before-with : (r : Result (Unit {0}) held.Refusal) → IsAdded old file.now bytes new r → IsAsBefore old file bytes new (with_file file r)
  before-with (Ok u) is = λ set go. same-before old file.now bytes set go new is
  before-with (Err r) (same, is) = λ set go. only-memory old file.now bytes set go r.line (reason_of r.kind) is

pub ruleset with_files = (reading-with, parse-with, before-with)
