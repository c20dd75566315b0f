-- For `one_list_of_items` and `read_all`: the pieces of a file are read as the items that are computed, also part by part.
use Rattle.std.proofs.Common.{◌≡◌, ◌∙◌, ◌≤◌, ◌<◌, ℕ, Bool, true, false, List, [], ◌∷◌, map, Option, Some, None, refl, ap, sym, subst, ⊎_elim, ◌++◌}
use Rattle.std.proofs.Math.Path.{fun_ext}
use Rattle.std.proofs.lemmas.Bool.{le-leb, cases_lt}
use Rattle.std.proofs.lemmas.Option.{same_Some}
use Rattle.tmpl_lex.specs.computed.Cut.{cut_of}
use Rattle.tmpl_lex.specs.Piece.{Token, Piece, text, action, unreadable}
use Rattle.tmpl_lex.proofs.CutLemmas.{cut_of-Cuts, Cuts-cut_of}
use Rattle.tmpl_grammar.specs.Action.{Action, branch_in, SpellsAction}
use Rattle.tmpl_grammar.specs.Depth.{depth_of, most_deep}
use Rattle.tmpl_grammar.specs.computed.Depth.{unread as unread_within, too_deep as deep_within, read as read_within, reading_by, reading_of}
use Rattle.tmpl_grammar.specs.computed.Reading.{action_in}
use Rattle.tmpl_syntax.specs.Item.{Item, item, HasItems, IsItem, a_text, an_unreadable, unread, too_deep, read}
use Rattle.std.specs.List.{AllZip}
use Rattle.tmpl_syntax.specs.computed.Item.{read_item, item_in, items_in}
use Rattle.tmpl_syntax.specs.Language.{Language, every_action}
use Rattle.tmpl_syntax.specs.Laws.{HasItemsOf, HasOneList, HasSomeItems}
use Rattle.tmpl_syntax.specs.computed.Parse.{items_of}
use Rattle.tmpl_grammar.proofs.LimitLemmas.{nat_le-false}
use Rattle.tmpl_grammar.proofs.ActionLemmas.{reads-action, spells-action, none-spelled}
use Rattle.tmpl_lex.specs.declared.part.Rest as held
use Rattle.tmpl_lex.specs.Cut.{Cuts}
use Rattle.tmpl_lex.proofs.FirstPartLemmas.{whole-cut}

-- ---- the limit

within-read : (a : Action) → depth_of a ≤ most_deep → reading_of (Some a) ≡ read_within a
within-read a le = ap (λ b. reading_by b a) (le-leb (depth_of a) most_deep le)

deep-read : (a : Action) → most_deep < depth_of a → reading_of (Some a) ≡ deep_within (branch_in a)
deep-read a lt = ap (λ b. reading_by b a) (nat_le-false (depth_of a) most_deep lt)

-- ---- the actions of a language

abbrev pub if_there : Bool → Action → Option Action
if_there true a = Some a
if_there false a = None

-- an action, if it is one of the language
abbrev pub kept : Language → Option Action → Option Action
kept language None = None
kept language (Some a) = if_there (language a) a

kept-every : (o : Option Action) → kept every_action o ≡ o
kept-every None = refl
kept-every (Some a) = refl

-- the item that a piece is read as
abbrev pub item_for : Language → Piece → Item
item_for language (text line bytes) = item_in (text line bytes)
item_for language (action line ts) = item line (read_item (reading_of (kept language (action_in ts))))
item_for language (unreadable line) = item_in (unreadable line)

pub for-every : (p : Piece) → item_for every_action p ≡ item_in p
for-every (action line ts) = ap (λ o. item line (read_item (reading_of o))) (kept-every (action_in ts))
for-every _ = refl

-- ---- one item

module _ (language : Language) where
  read-item : (line : ℕ) (ts : List Token) (a : Action) → SpellsAction a ts → language a ≡ true
      → IsItem language (action line ts) (item line (read_item (reading_of (Some a))))
  read-item line ts a s t = ⊎_elim
      (λ lt. subst (λ r. IsItem language (action line ts) (item line (read_item r))) (sym (deep-read a lt)) (too_deep a s t lt))
      (λ le. subst (λ r. IsItem language (action line ts) (item line (read_item r))) (sym (within-read a le)) (read s t le))
      (cases_lt most_deep (depth_of a))

  action-item : (line : ℕ) (ts : List Token) → IsItem language (action line ts) (item_for language (action line ts))
  action-item line ts = by (action_in ts) refl
    where
      there : (a : Action) → action_in ts ≡ Some a → (b : Bool) → language a ≡ b
          → IsItem language (action line ts) (item line (read_item (reading_of (if_there b a))))
      there a e true t = read-item line ts a (spells-action ts a e) t
      there a e false t = unread (λ b s h. let same : b ≡ a = same_Some b a (sym (reads-action ts b s) ∙ e) in
          absurd (cc))

      by : (o : Option Action) → action_in ts ≡ o → IsItem language (action line ts) (item line (read_item (reading_of (kept language o))))
      by None e = unread (λ a s h. none-spelled ts e a s)
      by (Some a) e = there a e (language a) refl

  pub piece-item : (p : Piece) → IsItem language p (item_for language p)
  piece-item (text line bytes) = a_text
  piece-item (action line ts) = action-item line ts
  piece-item (unreadable line) = an_unreadable

  unread-only : (line : ℕ) (ts : List Token) → ((a : Action) → SpellsAction a ts → language a ≡ true → ⊥) → (o : Option Action)
      → action_in ts ≡ o → item line (read_item unread_within) ≡ item line (read_item (reading_of (kept language o)))
  unread-only line ts none None e = refl
  unread-only line ts none (Some a) e = by (language a) refl
    where
      by : (b : Bool) → language a ≡ b → item line (read_item unread_within) ≡ item line (read_item (reading_of (if_there b a)))
      by true t = absurd (none a (spells-action ts a e) t)
      by false t = refl

  pub only-item : {p : Piece} {x : Item} → IsItem language p x → x ≡ item_for language p
  only-item (unread {line = line} {ts = ts} none) = unread-only line ts none (action_in ts) refl
  only-item (too_deep {ts = ts} a spells t lt) = rw (reads-action ts a spells) (rw t (rw (deep-read a lt) refl))
  only-item (read {ts = ts} {a = a} spells t le) = rw (reads-action ts a spells) (rw t (rw (within-read a le) refl))
  only-item _ = refl

  -- ---- the items of a file

  are-items : (ps : List Piece) → AllZip (IsItem language) ps (map (item_for language) ps)
  are-items [] = tt
  are-items (p ∷ ps) = (piece-item p, are-items ps)

  only-items : (ps : List Piece) (xs : List Item) → AllZip (IsItem language) ps xs → xs ≡ map (item_for language) ps
  only-items [] [] is = refl
  only-items (p ∷ ps) (x ∷ xs) is = ap (λ y. y ∷ xs) (only-item is.0) ∙ ap (λ ys. item_for language p ∷ ys) (only-items ps xs is.1)
  only-items _ _ is = absurd is

  has-those : (bytes : List ℕ) → HasItems language bytes (map (item_for language) (cut_of bytes))
  has-those bytes = (cut_of bytes, cut_of-Cuts bytes, are-items (cut_of bytes))

  only-those : (bytes : List ℕ) (items : List Item) → HasItems language bytes items → items ≡ map (item_for language) (cut_of bytes)
  only-those bytes items h = only-items h.0 items h.2 ∙ ap (map (item_for language)) (Cuts-cut_of bytes h.0 h.1)

pub has-some : HasSomeItems
has-some language bytes = (map (item_for language) (cut_of bytes), has-those language bytes)

pub one-list : HasOneList
one-list language bytes xs ys h k = only-those language bytes xs h ∙ sym (only-those language bytes ys k)

pub has-items : HasItemsOf
has-items bytes = subst (HasItems every_action bytes) (ap (λ f. map f (cut_of bytes)) (fun_ext for-every)) (has-those every_action bytes)

pub no-others : (bytes : List ℕ) (items : List Item) → HasItems every_action bytes items → items ≡ items_of bytes
no-others bytes items h = one-list every_action bytes items (items_of bytes) h (has-items bytes)

-- the file's items are these, and those of what the rest is cut into
abbrev pub AreSoFar : List ℕ → List Item → held.Rest → Type 0
AreSoFar file xs rest = (more : List Piece) → Cuts rest.trims rest.line rest.bytes.now more → items_of file ≡ xs ++ items_in more

pub none_so_far : (file : List ℕ) (rest : held.Rest) (xs : List Item) → rest.bytes.now ≡ file → rest.line ≡ 1 → rest.trims ≡ false → xs ≡ []
    → AreSoFar file xs rest
none_so_far file rest xs b l t e = λ more cuts.
    ap items_in (whole-cut file rest more b l t cuts) ∙ ap (λ (ys : List Item). ys ++ items_in more) (sym e)
