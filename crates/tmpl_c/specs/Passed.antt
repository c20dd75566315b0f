-- The engine as one function of what the caller passes.
use Rattle.std.specs.Prelude.{ℕ, Bool, not, List, [], ◌∷◌, Option, None, Result, Ok, codes, eqb, ltb, map}
use Rattle.std.specs.Prelude.{if◌then◌else◌}
use Rattle.std.specs.Str.{is_utf8}
use Rattle.tmpl_values.specs.Value.{Value}
use Rattle.tmpl_syntax.specs.Set.{Template}
use Rattle.tmpl_meaning.specs.Meaning.{Rules}
use Rattle.tmpl_meaning.specs.declared.missing_key.MissingKey.{MissingKey}
use Rattle.tmpl_meaning.specs.declared.missing_key.MissingKey.TheVariants.{Default, Invalid, Zero, Error}
use Rattle.tmpl_tool.specs.Outcome.{Answer}
use Rattle.tmpl_tool.specs.Source.{Bytes}
use Rattle.tmpl_tool.specs.Tool.{Parse, Early, add_file, answer_of, bad_words, data_in, named_run, printed}
use Rattle.tmpl_values.specs.Stage.{and_then}
use Rattle.tmpl_tool.specs.Tool.{stop_if}
use Rattle.tmpl_c.specs.declared.passed.File.{File}
use Rattle.tmpl_c.specs.declared.settings.Settings.{Settings}

-- ---- what is passed

-- a file as its name and its bytes
abbrev pub pair_of : File → Bytes × Bytes
pair_of f = (f.name.now, f.bytes.now)

abbrev pub pairs_of : List File → List (Bytes × Bytes)
pairs_of files = map pair_of files

-- ---- the settings

abbrev pub mode_numbered : ℕ → MissingKey
mode_numbered n = if eqb n 1 then Invalid else (if eqb n 2 then Zero else (if eqb n 3 then Error else Default))

-- the number, or the default for 0, or the most
abbrev pub limit : ℕ → ℕ → ℕ → ℕ
limit default most n = if eqb n 0 then default else (if ltb most n then most else n)

abbrev pub rules_in : Settings → Rules
rules_in s = record {
  missing_key = mode_numbered s.missing_key;
  step_limit = limit 1000000000 4611686018427387904 s.steps;
  depth_limit = limit 1000 100000 s.depth;
}

-- ---- the stages

-- the set with the templates of one more file, whose name has to be a text
abbrev pub with_passed : Parse → List Template → Bytes × Bytes → Result (List Template) Early
with_passed parse set f = and_then (stop_if (not (is_utf8 f.0)) bad_words) (λ u. add_file parse set f.0 f.1)

-- each file in turn
abbrev pub each_added : Parse → List Template → List (Bytes × Bytes) → Result (List Template) Early
each_added parse set [] = Ok set
each_added parse set (f ∷ fs) = and_then (with_passed parse set f) (λ s. each_added parse s fs)

-- the data, which lines call so; none where there are no bytes
abbrev pub data_passed : Bytes → Bytes → Result (Option Value) Early
data_passed called [] = Ok None
data_passed called (b ∷ bs) = data_in called (b ∷ bs)

-- ---- the function

-- the answer of a call: each file, the printed set or else the data, the name, and the run
abbrev pub passed_answer : Bytes → Parse → Rules → Bool → List (Bytes × Bytes) → Bytes → Bytes → Answer
passed_answer called parse rules print files name input = answer_of
    (and_then (each_added parse [] files) (λ set.
    and_then (stop_if print (printed set)) (λ u.
    and_then (data_passed called input) (λ v.
    named_run rules name set v))))

-- lines call the data so
abbrev pub render_answer : Parse → Rules → Bool → List (Bytes × Bytes) → Bytes → Bytes → Answer
render_answer = passed_answer (codes "data")
