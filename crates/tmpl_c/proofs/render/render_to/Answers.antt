use Rattle.std.proofs.Common.{◌≡◌, List, ap, eqb, rules, subst, ℕ}
use Rattle.std.specs.Option.{option_map}
use Rattle.std.proofs.lemmas.Bool.{ne_eqb}
use Rattle.tmpl_values.specs.View.{value_of}
use Rattle.tmpl_engine.specs.View.{templates_of}
use Rattle.tmpl_meaning.specs.Sink.{sunk}
use Rattle.tmpl_syntax.specs.Print.Printed.{printed_set}
use Rattle.tmpl_syntax.specs.Set.{Template}
use Rattle.tmpl_tool.specs.Outcome.{Outcome}
use Rattle.tmpl_tool.specs.Tool.{only_text}
use Rattle.tmpl_c.specs.computed.Gathering.{told_of}
use Rattle.tmpl_c.proofs.PassedLemmas.{data_stops, file_stops, goes_on, printed_out}
use Rattle.tmpl_c.proofs.render.render_to.Goals as goal

pub returns-in-Err : goal.returns-in-Err
returns-in-Err c = record {
  outcome = file_stops _ _ _ _ _ (told_of c.args.out.now) _ _ _ c.with_hash-engine.ensures.empty _ c.in-Err.ensures c.tell.ensures.code c.tell.ensures.line;
}

pub returns-then-settings-eq1 : goal.returns-then-settings-eq1
returns-then-settings-eq1 c =
    let out = sunk (told_of c.args.out.now) (told_of c.print.new.out) in
    let err = sunk (told_of c.args.err.now) (told_of c.print.new.err) in
    let printed = subst (λ (ts : List Template). Outcome (only_text (printed_set ts)) out err c.print.result.code) c.templates.ensures
    c.print.ensures.outcome in
    record {
      outcome = printed_out _ _ _ _ _ _ _ c.with_hash-engine.ensures.empty c.in-Ok.ensures _ _ _ (ap (λ (n : ℕ). eqb n 1) c.if-settings-eq1.true) printed;
    }

pub returns-in-Err-read_data : goal.returns-in-Err-read_data
returns-in-Err-read_data c = record {
  outcome = data_stops _ _ _ _ _ _ _ c.with_hash-engine.ensures.empty c.in-Ok.ensures (ne_eqb _ _ c.if-settings-eq1.false) (told_of c.args.out.now) _ _ _
      c.in-Err-read_data.ensures c.tell-in-Err-read_data.ensures.code c.tell-in-Err-read_data.ensures.line;
}

pub returns : goal.returns
returns c =
    let found = option_map (λ d. value_of d.now) c.as_ref.result in
    let same : found ≡ option_map value_of c.in-Ok-read_data.data = search rules in
    record {
      outcome = goes_on _ _ _ _ _ _ _ c.with_hash-engine.ensures.empty c.in-Ok.ensures (ne_eqb _ _ c.if-settings-eq1.false) _ _ _ _ _ c.in-Ok-read_data.ensures same
          (c.run_prepared.ensures (templates_of c.add_files.new.engine) c.renderer_for-prepared.ensures.prepared);
    }
