use Rattle.std.proofs.Common.{option_map, subst}
use Rattle.tmpl_values.specs.View.{value_of}
use Rattle.tmpl_meaning.specs.View.{rules_of}
use Rattle.tmpl_engine.specs.Prepared.{IsPrepared}
use Rattle.tmpl_engine.specs.Render.{Renders, ran_named}
use Rattle.tmpl_tool.proofs.render.render_prepared.Goals as goal

pub returns-in-Ok : goal.returns-in-Ok
returns-in-Ok g c = λ ts prepared.
    let before = g.O.Sink.so_far c.args.out.now in
    let after = g.O.Sink.so_far c.render_through-end.new.out in
    let ran = ran_named (rules_of c.args.options.now) ts c.args.name.now (option_map (λ d. value_of d.now) c.args.data) in
    let held = subst (IsPrepared ts c.args.name.now) c.in-Ok.is prepared in
    let end = subst (λ ts. Renders c.args.options.now ts c.args.name.now c.args.data before after c.render_through-end.result) held
    c.render_through-end.ensures in
    record {
      output_fails_once = c.tell_end.ensures.output_fails_once ran before after end;
      error_sink_fails_once = c.tell_end.ensures.error_sink_fails_once;
      outcome = c.tell_end.ensures.outcome ran before after end;
    }

pub returns-in-Err : goal.returns-in-Err
returns-in-Err g c = λ ts prepared.
    let before = g.O.Sink.so_far c.args.out.now in
    let ran = ran_named (rules_of c.args.options.now) ts c.args.name.now (option_map (λ d. value_of d.now) c.args.data) in
    let end = subst (IsPrepared ts c.args.name.now) c.in-Err.is prepared c.args.options.now c.args.data before in
    record {
      output_fails_once = c.tell_end-in-Err.ensures.output_fails_once ran before before end;
      error_sink_fails_once = c.tell_end-in-Err.ensures.error_sink_fails_once;
      outcome = c.tell_end-in-Err.ensures.outcome ran before before end;
    }
