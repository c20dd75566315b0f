-- For `one_outcome`: a file is accepted or refused just as the function says.
use Rattle.std.proofs.Common.{arith, ◌≡◌, ◌⊎◌, inl, inr, ◌<◌, ◌≤◌, ℕ, zero, suc, List, [], ◌∷◌, Option, Some, None, Result, Ok, Err, refl, sym, ap, subst, ◌∙◌}
use Rattle.std.proofs.Common.{length, ⊎_elim}
use Rattle.std.specs.Prelude.{slice_get, map}
use Rattle.std.specs.List.{fold}
use Rattle.std.proofs.lemmas.Bool.{cases_lt}
use Rattle.std.proofs.lemmas.List.{length-map}
use Rattle.tmpl_lex.specs.Piece as piece
use Rattle.tmpl_lex.specs.computed.Cut.{cut_of}
use Rattle.tmpl_grammar.specs.computed.Depth.{Reading, unread, too_deep, read}
use Rattle.tmpl_grammar.specs.computed.Reading.{reading_in}
use Rattle.tmpl_syntax.specs.computed.Item.{read_item, items_in}
use Rattle.tmpl_syntax.specs.Language.{every_action}
use Rattle.tmpl_syntax.specs.Fault.{Reason, unreadable, not_an_action, open_at_end, too_long, second_definition}
use Rattle.tmpl_syntax.specs.Item.{ItemKind, Item, item, HasItems}
use Rattle.tmpl_syntax.specs.Place.Role.{flawed, role_of, roles_of}
use Rattle.tmpl_syntax.specs.Place.Body.{Applies, flawed as flawed_applies}
use Rattle.tmpl_syntax.specs.computed.Frames.{Verdict, fine, refused, left_open, Judged}
use Rattle.tmpl_syntax.specs.computed.Frames.{verdict_of}
use Rattle.tmpl_syntax.specs.Tree.{Nodes, Definition}
use Rattle.tmpl_syntax.specs.Spelling.{Spells}
use Rattle.tmpl_syntax.specs.computed.Build.{nodes_from, definitions_from}
use Rattle.tmpl_syntax.specs.Set.{Template, add_definition, defined_each}
use Rattle.tmpl_syntax.specs.Laws.{HasOutcome, HasOneOutcome, AcceptsAsParsed, RefusesAsParsed}
use Rattle.tmpl_syntax.specs.computed.Parse.{Refusal, IsRefusal, line_in, line_at, by_verdict, checked, second_in, unless_second, definitions_or}
use Rattle.tmpl_syntax.specs.computed.Parse.{all_from, items_of, add_definitions, parsed}
use Rattle.tmpl_syntax.specs.Parse.{base_name, most_bytes, all_defined, template_in, IsAccepted, IsRefusedBy, Parses, ParsesUnless}
use Rattle.tmpl_syntax.specs.computed.Parse.{last_line}
use Rattle.tmpl_syntax.proofs.ItemLemmas.{has-items, no-others}
use Rattle.tmpl_syntax.proofs.VerdictLemmas.{within, one-verdict, judged-all}
use Rattle.tmpl_syntax.proofs.SecondLemmas.{none-second, has-second, second-none, second-some}
use Rattle.tmpl_syntax.proofs.SpellingLemmas.{spells-fine, spells-built}
use Rattle.tmpl_syntax.proofs.FileLemmas.{parsed-long, parsed-short}

-- the item at a place, at its line
item-there : (xs : List Item) (i : ℕ) → i < length xs → (what : ItemKind) × (slice_get xs i ≡ Some (item (line_at xs i) what))
item-there [] i h = absurd (omega arith)
item-there (item line what ∷ xs) zero h = (what, refl)
item-there (x ∷ xs) (suc i) h = item-there xs i (omega arith)

-- the item at a place is the first that is refused, and this is its line
abbrev IsRefusedAt : List Item → ℕ → Reason → Type 0
IsRefusedAt items line why =
    (i : ℕ) × (what : ItemKind) × Judged (roles_of items) (refused i why) × (slice_get items i ≡ Some (item line what))

-- a file's templates are added one by one
pub fold-add_definition : (file : List ℕ) (ds : List Definition) (set : List Template) → defined_each set (map (template_in file) ds)
    ≡ fold (λ (ts : List Template) (d : Definition). add_definition ts d.name (record { file = file; nodes = d.nodes })) set ds
fold-add_definition file [] set = refl
fold-add_definition file (d ∷ ds) set = fold-add_definition file ds (add_definition set d.name (record { file = file; nodes = d.nodes }))

module _ (set : List Template) (file bytes : List ℕ) where
  short-by : (v : Verdict) → length bytes ≤ most_bytes → verdict_of (roles_of (items_of bytes)) ≡ v
      → parsed set file bytes ≡ add_definitions set file (definitions_or (by_verdict (last_line bytes) (items_of bytes) v) (all_from (base_name file) (items_of bytes)))
  unfolding checked
  short-by v h e = rw (← e) (parsed-short set file bytes h)

  judged-by : (v : Verdict) → verdict_of (roles_of (items_of bytes)) ≡ v → Judged (roles_of (items_of bytes)) v
  judged-by v e = subst (Judged (roles_of (items_of bytes))) e (judged-all (roles_of (items_of bytes)))

  -- the definitions of the file
  abbrev ds : List Definition
  ds = all_from (base_name file) (items_of bytes)

  -- ---- from the function

  -- what is flawed in a file has no other reason than these
  flawed-read : (ps : List piece.Piece) (i : ℕ) (why : Reason) → slice_get (roles_of (items_in ps)) i ≡ Some (flawed why)
      → (why ≡ unreadable) ⊎ (why ≡ not_an_action)
  flawed-read [] i why e = cc
  flawed-read (p ∷ ps) (suc i) why e = flawed-read ps i why e
  flawed-read (piece.text line bs ∷ ps) zero why e = cc
  flawed-read (piece.unreadable line ∷ ps) zero why e = inl (cc)
  flawed-read (piece.action line ts ∷ ps) zero why e = by (reading_in ts) e
    where
      by : (r : Reading) → Some (role_of (item line (read_item r))) ≡ Some (flawed why) → (why ≡ unreadable) ⊎ (why ≡ not_an_action)
      by unread e = inr (cc)
      by (too_deep b) e = cc
      by (read a) e = grind arith

  -- what applies to an item is no reason that is asked for at the front or at the end of a file
  refused-as : (line : ℕ) (why : Reason) → {i : ℕ} → Applies (roles_of (items_of bytes)) i why → length bytes ≤ most_bytes
      → IsRefusedAt (items_of bytes) line why → IsRefusedBy every_action file bytes line why
  refused-as line why {i} (flawed_applies a) h r = ⊎_elim
      (λ e. subst Becomes (sym e) (λ r. (h, items_of bytes, has-items bytes, r)) r)
      (λ e. subst Becomes (sym e) (λ r. (h, items_of bytes, has-items bytes, r)) r)
      (flawed-read (cut_of bytes) i why a)
    where
      Becomes : Reason → Type 0
      Becomes w = IsRefusedAt (items_of bytes) line w → IsRefusedBy every_action file bytes line w
  refused-as line _ _ h r = (h, items_of bytes, has-items bytes, r)

  pub outcome : Parses set file bytes (parsed set file bytes)
  outcome = ⊎_elim
      (λ long. subst (Parses set file bytes) (sym (parsed-long set file bytes long)) (long, refl))
      (λ short. subst (Parses set file bytes) (sym (short-by _ short refl)) (by short (verdict_of (roles_of (items_of bytes))) refl))
      (cases_lt most_bytes (length bytes))
    where
      once : length bytes ≤ most_bytes → verdict_of (roles_of (items_of bytes)) ≡ fine → (o : Option ℕ) → second_in ds ≡ o
          → Parses set file bytes (add_definitions set file (unless_second o ds))
      once short v None o = record {
        short = short;
        items = items_of bytes;
        has = has-items bytes;
        judged = judged-by fine v;
        definitions = definitions_from (items_of bytes);
        own = nodes_from (items_of bytes);
        spells = spells-fine (items_of bytes) v;
        once = none-second ds o;
        set = fold-add_definition file ds set;
      }
      once short v (Some line) o = (
        short,
        items_of bytes,
        has-items bytes,
        (judged-by fine v, definitions_from (items_of bytes), nodes_from (items_of bytes), spells-fine (items_of bytes) v, has-second ds line o),
      )

      by : length bytes ≤ most_bytes → (v : Verdict) → verdict_of (roles_of (items_of bytes)) ≡ v
          → Parses set file bytes (add_definitions set file (definitions_or (by_verdict (last_line bytes) (items_of bytes) v) ds))
      by short fine v = once short v (second_in ds) refl
      by short (refused i f) v =
          let j = judged-by (refused i f) v in
          let it = item-there (items_of bytes) i (omega (arith, within (roles_of (items_of bytes)) i f j.0, length-map (items_of bytes) role_of)) in
          refused-as (line_at (items_of bytes) i) f j.0 short (i, it.0, j, it.1)
      by short left_open v = (short, items_of bytes, has-items bytes, (judged-by left_open v, refl))

  pub accepted : (new : List Template) → parsed set file bytes ≡ Ok new → IsAccepted every_action set file bytes new
  accepted new e = subst (Parses set file bytes) e outcome

  pub refusal : (line : ℕ) (reason : Reason) → parsed set file bytes ≡ Err (line, reason) → IsRefusedBy every_action file bytes line reason
  refusal line reason e = subst (Parses set file bytes) e outcome

  -- .. where memory may run out
  pub refusal-for : (line : ℕ) (o : Option Reason) → IsRefusal (parsed set file bytes) line o → ParsesUnless set file bytes line o
  refusal-for line None e = e
  refusal-for line (Some reason) e = refusal line reason e

  -- ---- to the function

  -- a file of items on which this is the verdict
  verdict-as : (items : List Item) → HasItems every_action bytes items → (v : Verdict) → Judged (roles_of items) v
      → length bytes ≤ most_bytes
      → parsed set file bytes ≡ add_definitions set file (definitions_or (by_verdict (last_line bytes) items v) (all_from (base_name file) items))
  verdict-as items has v j short = rw (no-others bytes items has) (short-by v short (one-verdict _ _ v (judged-all (roles_of (items_of bytes)))
      (subst (λ xs. Judged (roles_of xs) v) (no-others bytes items has) j)))

  -- .. which spell these definitions
  fine-as : (items : List Item) → HasItems every_action bytes items → (es : List Definition) (own : Nodes) → Judged (roles_of items) fine
      → Spells items es own → length bytes ≤ most_bytes → (o : Option ℕ) → second_in (all_defined file es own) ≡ o
      → parsed set file bytes ≡ add_definitions set file (unless_second o (all_defined file es own))
  fine-as items has es own j s short o second =
      let same = spells-built items es own s in
      verdict-as items has fine j short ∙ rw (same.0, same.1, second) refl

  pub parsed-accepted : (new : List Template) → IsAccepted every_action set file bytes new → parsed set file bytes ≡ Ok new
  parsed-accepted new h =
      fine-as h.items h.has h.definitions h.own h.judged h.spells h.short None (second-none (all_defined file h.definitions h.own) h.once)
      ∙ ap (λ ts. Ok ts) (fold-add_definition file (all_defined file h.definitions h.own) set ∙ sym h.set)

  refused-there-as : (line : ℕ) (why : Reason) → length bytes ≤ most_bytes → (items : List Item) → HasItems every_action bytes items
      → IsRefusedAt items line why → parsed set file bytes ≡ Err (line, why)
  refused-there-as line why short items has r =
      verdict-as items has (refused r.0 why) r.2 short ∙ ap (λ o. Err (line_in o, why)) r.3

  pub parsed-refused : (line : ℕ) (reason : Reason) → IsRefusedBy every_action file bytes line reason → parsed set file bytes ≡ Err (line, reason)
  parsed-refused line too_long (long, at) = parsed-long set file bytes long ∙ ap (λ n. Err (n, too_long)) (sym at)
  parsed-refused line open_at_end (short, items, has, (j, at)) = verdict-as items has left_open j short ∙ ap (λ n. Err (n, open_at_end)) (sym at)
  parsed-refused line second_definition (short, items, has, (j, es, own, s, second)) =
      fine-as items has es own j s short (Some line) (second-some (all_defined file es own) line second)
  parsed-refused line reason h = refused-there-as line reason h.0 h.1 h.2 h.3

pub accepts-as-parsed : AcceptsAsParsed
accepts-as-parsed old file bytes new = (accepted old file bytes new, parsed-accepted old file bytes new)

pub refuses-as-parsed : RefusesAsParsed
refuses-as-parsed old file bytes line reason = (refusal old file bytes line reason, parsed-refused old file bytes line reason)

-- what comes of a file is what is parsed
parsed-by : (old : List Template) (file bytes : List ℕ) (r : Result (List Template) Refusal) → Parses old file bytes r → parsed old file bytes ≡ r
parsed-by old file bytes (Ok new) p = parsed-accepted old file bytes new p
parsed-by old file bytes (Err r) p = parsed-refused old file bytes r.0 r.1 p

pub has-outcome : HasOutcome
has-outcome old file bytes = outcome old file bytes

pub has-one-outcome : HasOneOutcome
has-one-outcome old file bytes r s p q = sym (parsed-by old file bytes r p) ∙ parsed-by old file bytes s q
