-- What a run stands for that waits for more cells.
use Rattle.std.specs.Prelude.{◌≡◌, List, [], false, take}
use Rattle.tmpl_values.specs.View.{is_made, val_of}
use Rattle.tmpl_values.specs.declared.value.Cell as held
use Rattle.tmpl_funcs.specs.Answer.{AreBorrowed}
use Rattle.tmpl_engine.specs.State.{State}
use Rattle.tmpl_engine.specs.computed.Held.{cells_in}
use Rattle.tmpl_engine.specs.declared.reserved.Paused.{Paused}

-- over these cells
abbrev pub paused_state : Paused → List held.Cell → State
paused_state p cells = record {
  cells = cells_in p.top cells;
  dot = val_of p.dot;
  text = [];
  left = p.left;
  made_text = false;
  line = p.line;
  template = p.template;
  depth = p.depth;
  place = p.place;
}

-- neither a live cell nor dot holds a made text
abbrev pub IsPausedPlain : Paused → List held.Cell → Type 0
IsPausedPlain p cells = AreBorrowed (take p.top cells) × (is_made p.dot ≡ false)
