use Rattle.std.proofs.Common.{rules, tests, ◌∙◌, sym, List, ℕ}
use Rattle.std.specs.Str.{bytes_eq}
use Rattle.std.proofs.lemmas.Iterator.{YieldsList-from_slice}
use Rattle.std.proofs.lemmas.Iterator.Search.{any_from_yields_List}
use Rattle.tmpl_json_schema.proofs.KnownLemmas.{list_any-map}
use Rattle.tmpl_json_schema.proofs.known.is_among.Goals as goal

pub returns : goal.returns
returns c =
    any_from_yields_List (λ other. bytes_eq other.now c.args.name.now) _ _ _ c.any.ensures.ran (YieldsList-from_slice c.args.names.now cc) (λ x b q k. search (rules, tests))
    ∙ sym (list_any-map (λ other. other.now) (λ (other : List ℕ). bytes_eq other c.args.name.now) c.args.names.now)
