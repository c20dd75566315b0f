use Rattle.std.proofs.Common.{◌≡◌, ◌∙◌, ◌++◌, [], ap, subst}
use Rattle.tmpl_syntax.specs.View.{set_view}
use Rattle.tmpl_problems.specs.Errors.{AreOfFiles, errors_in}
use Rattle.tmpl_problems.proofs.ErrorLemmas.{none-after, none-before}
use Rattle.tmpl_report.proofs.ErrorLemmas.{data-valued, files-accepted, may-be}
use Rattle.tmpl_report.proofs.findings.findings_in.Goals as goal

pub returns : goal.returns
returns c =
    let files = c.in_ok-add_files.ensures in
    let schema = c.in_ok-add_schema.ensures.matches_spec in
    let given = c.in_ok-add_given.ensures in
    let values = c.in_ok-add_values.ensures.matches_spec in
    let new = set_view c.add_files.new.set in
    let first : errors_in c.add_files.new.self ≡ files.0 = files.2 ∙ ap (λ xs. errors_in xs ++ files.0) c.new-findings.ensures in
    let listed = subst (λ fs. AreOfFiles (set_view c.with_hash-set.result) fs new files.0) c.as_slice-files.ensures.value files.1 in
    let are_of = subst (λ old. AreOfFiles old c.args.sources.now.templates.items new files.0) c.with_hash-set.ensures.empty listed in (
      (
        new,
        files.0,
        schema.0,
        given.0,
        values.0,
        values.2 ∙ ap (λ xs. xs ++ values.0) (given.2 ∙ ap (λ xs. xs ++ given.0) (schema.2 ∙ ap (λ xs. xs ++ schema.0) first)),
        are_of,
        may-be c.args.sources.now.schema c.add_files.new.self files.0 schema.0 first schema.1,
        given.1,
        values.1,
      ),
      λ no_error.
          let none = none-before c.add_given.new.findings c.add_values.new.findings values.0 values.2 no_error in
          let none_of_files = none-before c.add_schema.new.findings c.add_given.new.findings given.0 given.2 none in
          let none_at_first = none-before c.add_files.new.self c.add_schema.new.findings schema.0 schema.2 none_of_files in
          let accepted = files-accepted [] c.args.sources.now.templates.items new files.0 are_of (none-after [] c.add_files.new.self files.0 first none_at_first) in (
            (
              new,
              accepted,
              data-valued c.args.sources.now.«data» given.0 given.1 (none-after c.add_schema.new.findings c.add_given.new.findings given.0 given.2 none),
              c.in_ok-add_schema.ensures.safe none_of_files,
            ),
            (c.in_ok-add_values.ensures.held no_error, (new, accepted, c.in_ok-add_values.ensures.rendered no_error)),
          ),
    )
