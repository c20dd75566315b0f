use Rattle.std.proofs.Common.{◌≡◌, subst}
use Rattle.std.specs.Option.{option_map}
use Rattle.std.specs.Prelude.{Option}
use Rattle.serde_json.specs.View.{view}
use Rattle.tmpl_problems.specs.declared.source.Source.{Source}
use Rattle.tmpl_report.specs.computed.Added.{document_for}
use Rattle.tmpl_report.proofs.values.add_values.Goals as goal

pub add_held-requires : goal.add_held-requires
add_held-requires c = subst (λ (o : Option Source). option_map (λ d. view d.now) c.args.document ≡ document_for o) c.in-Some-schema.is c.requires

pub returns-in-Some-schema-clause-held : goal.returns-in-Some-schema-clause-held
returns-in-Some-schema-clause-held c = let given = c.in-Some.is in let schema = c.in-Some-schema.is in rw (given, schema) c.add_held.ensures.held

pub returns-in-Some-schema-clause-matches_spec : goal.returns-in-Some-schema-clause-matches_spec
returns-in-Some-schema-clause-matches_spec c = let given = c.in-Some.is in let schema = c.in-Some-schema.is in rw (given, schema) c.add_held.ensures.told

pub returns-in-Some-first-clause-matches_spec : goal.returns-in-Some-first-clause-matches_spec
returns-in-Some-first-clause-matches_spec c =
    let given = c.in-Some.is in let none = c.in-None.is in let first = c.in-Some-first.is in rw (given, none, first) c.add_rendered.ensures.told
