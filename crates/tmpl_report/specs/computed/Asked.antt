-- For the functions of `failing.rt`: what a question asks.
use Rattle.serde_json.specs.View.{view}
use Rattle.tmpl_engine.specs.View.{templates_in}
use Rattle.tmpl_report.specs.Failing.{Asked, rules_by}
use Rattle.tmpl_report.specs.declared.samples.failing.Suspect.{Suspect}

abbrev pub asked_in : Suspect → Asked
asked_in q = record {
  rules = rules_by q.mode;
  stops = q.stops.now;
  set = templates_in q.renderer.now;
  name = q.name.now;
  schema = view q.root.now;
}
