-- Where a run of flat code stands, and what it goes by.
use Rattle.std.specs.Prelude.{ℕ, Bool, false, List, [], ◌∷◌, Option}
use Rattle.std.specs.Option.{option_map_or}
use Rattle.tmpl_values.specs.Value.{Value, nothing}
use Rattle.tmpl_syntax.specs.Set.{Template}
use Rattle.tmpl_meaning.specs.Meaning.{Rules}
use Rattle.tmpl_meaning.specs.Pipeline.{without_null}
use Rattle.tmpl_code.specs.Code.{Code}
use Rattle.tmpl_engine.specs.Cell.{Cell, fresh}

-- the rules of a run, the templates by their numbers, where the code of each of them starts, and all the code
pub record Plan : Type 0 where
  pub rules : Rules
  pub templates : List Template
  pub starts : List ℕ
  pub code : Code

pub record State : Type 0 where
  -- the newest first
  pub cells : List Cell
  pub dot : Value
  -- what was put out so far
  pub text : List ℕ
  -- steps
  pub left : ℕ
  -- whether a function that makes a text was called with all its arguments
  pub made_text : Bool
  -- that of the last step, which a fault bears
  pub line : ℕ
  -- the number of the template that runs, and how many are inside one another, the first one counted
  pub template : ℕ
  pub depth : ℕ
  -- that of the next instruction
  pub place : ℕ

-- the dot at the start: the data, of which null is nothing; nothing where there is no data
abbrev pub starting_dot : Option Value → Value
starting_dot input = option_map_or without_null input nothing

-- before the first instruction of the template of this number, which starts here, over a value: `$` lies above two
-- cells that tell of no caller
abbrev pub starting : Plan → ℕ → ℕ → Value → State
starting plan number start v = record {
  cells = fresh v ∷ fresh nothing ∷ fresh nothing ∷ [];
  dot = v;
  text = [];
  left = plan.rules.step_limit;
  made_text = false;
  line = 0;
  template = number;
  depth = 1;
  place = start;
}
