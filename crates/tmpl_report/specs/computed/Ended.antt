-- For `Render::over`: how a run ends.
use Rattle.std.specs.Prelude.{◌≡◌, ℕ, false, List, Some, None}
use Rattle.tmpl_values.specs.Value.{Value}
use Rattle.tmpl_syntax.specs.Set.{Template}
use Rattle.tmpl_meaning.specs.Meaning.{Rules}
use Rattle.tmpl_meaning.specs.View.{fault_seen}
use Rattle.tmpl_report.specs.Failing.{fault_over}
use Rattle.tmpl_report.specs.Rendered.{is_limit}
use Rattle.tmpl_report.specs.declared.rendered.End.{End}
use Rattle.tmpl_report.specs.declared.rendered.End.TheVariants as ended

-- the run of the template of this name over a value ends so; at a limit nothing is stated of what comes after it
abbrev pub IsEnd : Rules → List Template → List ℕ → Value → End → Type 0
IsEnd rules set name value ended.Whole = fault_over rules set name value ≡ None
IsEnd rules set name value (ended.Fault fault) =
    (fault_over rules set name value ≡ Some (fault_seen fault)) × (is_limit (fault_seen fault).cause ≡ false)
IsEnd rules set name value ended.Limit = Unit {0}
