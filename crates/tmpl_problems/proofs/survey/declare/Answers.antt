use Rattle.std.proofs.Common.{◌∙◌, ap, arith}
use Rattle.std.proofs.lemmas.List.{take_all}
use Rattle.tmpl_problems.specs.computed.Adds.{note_each}
use Rattle.tmpl_problems.proofs.VariableLemmas.{notes-then}
use Rattle.tmpl_problems.proofs.survey.declare.Goals as goal

pub returns : goal.returns
returns c =
    let es = c.args.variables.now.entries in
    let items = c.as_slice-name-items.ensures.value in
    let all = take_all c.loop-index.index c.as_slice-name-items.result.now c.loop-index-test.false in
    record {
      notes = record {
        names = c.in_ok-names.names.items;
        names_are = c.in_ok-names.ensures;
        place = c.place_in-here.result;
        is_place = c.place_in-here.ensures.place;
        start = c.place_in-here.ensures.start;
        entries = c.loop-index.invariant ∙ ap (λ names. note_each c.place_in-here.result c.len-count.result names es) (all ∙ items)
            ∙ ap (λ n. note_each c.place_in-here.result n c.in_ok-names.names.items es) (omega (arith, c.len-count.ensures, c.in_ok-names.names.ok.0));
      };
      place = c.place_in-here.ensures.place;
    }

pub loop-index-preserved : goal.loop-index-preserved
loop-index-preserved c =
    notes-then c.place_in-here.result c.len-count.result c.as_slice-name-items.result.now c.loop-index.index _ c.args.variables.now.entries
    c.loop-index.variables.entries c.declare_name.new.variables.entries _ c.in_ok-declare_name.ensures c.is_first_of_two.ensures c.loop-index.invariant c.loop-index-test.true
