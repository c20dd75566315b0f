-- What a run of a program goes by.
use Rattle.tmpl_syntax.specs.View.{set_view}
use Rattle.tmpl_meaning.specs.View.{rules_of}
use Rattle.tmpl_meaning.specs.declared.options.Options.{Options}
use Rattle.tmpl_code.specs.View.{instructions_of}
use Rattle.tmpl_code.specs.declared.program.Parts.{Parts}
use Rattle.tmpl_engine.specs.State.{Plan}

abbrev pub plan_of : Options → Parts → Plan
plan_of options parts = record {
  rules = rules_of options;
  templates = set_view parts.set.value;
  starts = parts.starts.items;
  code = instructions_of parts.tables parts.instructions.items;
}
