-- For `add_copy`, `add_file` and `add_items`: a file and the set before and after it, by where the file is refused.
use Rattle.std.proofs.Common.{◌≡◌, ◌<◌, ◌≤◌, ℕ, List, Option, Some, None, Result, Ok, Err, refl, ap, ◌∙◌, length, cond, map}
use Rattle.std.proofs.lemmas.Bool.{lt-ltb, le-ltb}
use Rattle.tmpl_syntax.specs.Fault.{Reason, too_long}
use Rattle.tmpl_syntax.specs.Tree.{Definition}
use Rattle.tmpl_syntax.specs.Set.{Template, defined_each}
use Rattle.tmpl_syntax.specs.computed.Parse.{Refusal, IsRefusal, checked, second_in, IsSecondAt, definitions_or, bodies_of, all_from, items_of, add_definitions, parsed}
use Rattle.tmpl_syntax.specs.Parse.{base_name, most_bytes, template_in}

module _ (set : List Template) (file bytes : List ℕ) where
  pub parsed-long : most_bytes < length bytes → parsed set file bytes ≡ Err (1, too_long)
  unfolding parsed
  parsed-long h = ap (λ b. cond b (Err (1, too_long)) (add_definitions set file (bodies_of file bytes (items_of bytes)))) (lt-ltb most_bytes (length bytes) h)

  pub parsed-short : length bytes ≤ most_bytes → parsed set file bytes ≡ add_definitions set file (bodies_of file bytes (items_of bytes))
  unfolding parsed
  parsed-short h = ap (λ b. cond b (Err (1, too_long)) (add_definitions set file (bodies_of file bytes (items_of bytes)))) (le-ltb most_bytes (length bytes) h)

  abbrev ds : List Definition
  ds = all_from (base_name file) (items_of bytes)

  checked-as : (c : Result (Unit {0}) Refusal) → length bytes ≤ most_bytes → checked bytes (items_of bytes) ≡ c
      → parsed set file bytes ≡ add_definitions set file (definitions_or c ds)
  checked-as c h e = rw (← e) (parsed-short h)

  -- the refusal of the items is that of their file
  pub refusal-placed : (line : ℕ) (o : Option Reason) → length bytes ≤ most_bytes → IsRefusal (checked bytes (items_of bytes)) line o
      → IsRefusal (parsed set file bytes) line o
  refusal-placed line None h e = e
  refusal-placed line (Some reason) h e = checked-as (Err (line, reason)) h e

  pub fine-placed : length bytes ≤ most_bytes → checked bytes (items_of bytes) ≡ Ok tt → second_in ds ≡ None
      → parsed set file bytes ≡ Ok (defined_each set (map (template_in file) ds))
  fine-placed h e none = checked-as (Ok tt) h e ∙ rw none refl

  -- the refusal of a second definition is that of its file
  pub second-placed : (line : ℕ) (o : Option Reason) → length bytes ≤ most_bytes → checked bytes (items_of bytes) ≡ Ok tt
      → IsSecondAt (second_in ds) line o → IsRefusal (parsed set file bytes) line o
  second-placed line None h e s = s
  second-placed line (Some reason) h e s = checked-as (Ok tt) h e ∙ rw (s.0, s.1) refl

pub ruleset long = parsed-long

pub ruleset added_items = (refusal-placed, second-placed, fine-placed)
