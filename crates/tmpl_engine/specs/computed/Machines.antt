-- What a machine stands for. It holds neither what was put out before nor which template runs under what name, and what
-- an instruction does hangs on neither, so here there is none.
use Rattle.std.specs.Prelude.{ℕ, Bool, List, [], false}
use Rattle.tmpl_values.specs.View.{val_of}
use Rattle.tmpl_syntax.specs.Set.{Template}
use Rattle.tmpl_syntax.specs.Tree.{none}
use Rattle.tmpl_meaning.specs.declared.missing_key.MissingKey.{MissingKey}
use Rattle.tmpl_meaning.specs.declared.missing_key.MissingKey.TheVariants.{Default}
use Rattle.tmpl_engine.specs.State.{Plan, State}
use Rattle.tmpl_engine.specs.computed.View.{cells_of}
use Rattle.tmpl_engine.specs.declared.machine.Machine.{Machine}

-- a template that stands for none
abbrev pub no_template : Template
no_template = ([], record { file = []; nodes = none })

abbrev pub state_of : Machine → State
state_of m = record {
  cells = cells_of m.stack;
  dot = val_of m.dot;
  text = [];
  left = m.left;
  made_text = false;
  line = m.line;
  template = m.template;
  depth = m.depth;
  place = m.place;
}

-- a state of which this text and this mark are told
abbrev pub with_told : List ℕ → Bool → State → State
with_told x m s = record s { text = x; made_text = m }

-- a plan of which no more is told than the mode for missing keys
abbrev pub by_mode : MissingKey → Plan
by_mode mode = record {
  rules = record { missing_key = mode; step_limit = 0; depth_limit = 0 };
  templates = [];
  starts = [];
  code = [];
}

-- .. or nothing
abbrev pub without_bytes : Plan
without_bytes = by_mode Default
