-- The stages of the command after a stage.
use Rattle.std.specs.Prelude.{List, [], Option, Result, length}
use Rattle.tmpl_values.specs.Stage.{and_then}
use Rattle.tmpl_values.specs.Value.{Value}
use Rattle.tmpl_syntax.specs.Set.{Template}
use Rattle.tmpl_meaning.specs.Meaning.{Ran}
use Rattle.tmpl_tool.specs.Source.{Files}
use Rattle.tmpl_tool.specs.Tool.{Failing, Parse, Early, asked_name, data_found, load_each, named_run, printed}
use Rattle.tmpl_tool.specs.Tool.{stop_if}
use Rattle.tmpl_tool.specs.Words.{Wanted}

-- the name that is asked for looked up, and the run
abbrev pub render_wanted : Wanted → List Template → Option Value → Result Ran Early
render_wanted w set input = named_run w.rules (asked_name w) set input

-- the set printed, or the name looked up and the run
abbrev pub finish_wanted : Wanted → List Template → Option Value → Result Ran Early
finish_wanted w set input = and_then (stop_if w.print (printed set)) (λ u. render_wanted w set input)

-- the data, and then the run
abbrev pub after_print : Files → Failing → Wanted → List Template → Result Ran Early
after_print files fails w set =
    and_then (data_found files (fails (length w.files)) w.data_file) (render_wanted w set)

-- the set printed, or the data and so on
abbrev pub after_set : Files → Failing → Wanted → List Template → Result Ran Early
after_set files fails w set = and_then (stop_if w.print (printed set)) (λ u. after_print files fails w set)

-- each FILE, and so on
abbrev pub after_words : Parse → Files → Wanted → Failing → Result Ran Early
after_words parse files w fails = and_then (load_each parse files fails 0 [] w.files) (after_set files fails w)
