use Rattle.std.proofs.Common.{rules, tests, ◌∙◌, sym, List, ℕ}
use Rattle.std.proofs.lemmas.Iterator.{YieldsList-from_slice}
use Rattle.std.proofs.lemmas.Iterator.Search.{any_from_yields_List}
use Rattle.tmpl_json_schema.specs.Keywords.{is_near}
use Rattle.tmpl_json_schema.proofs.KnownLemmas.{list_any-map}
use Rattle.tmpl_json_schema.proofs.known.is_near_one.Goals as goal

pub returns : goal.returns
returns c =
    any_from_yields_List (λ keyword. is_near keyword.now c.args.name.now) _ _ _ c.any.ensures.ran (YieldsList-from_slice c.args.keywords.now cc) (λ x b q k. search (rules, tests))
    ∙ sym (list_any-map (λ keyword. keyword.now) (λ (keyword : List ℕ). is_near keyword c.args.name.now) c.args.keywords.now)
