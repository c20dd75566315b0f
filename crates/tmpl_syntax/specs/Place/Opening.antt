-- What opens a part that an `end` closes.
use Rattle.tmpl_grammar.specs.declared.tree.Control.{Control}

pub data Opening : Type 0 where
  control : Control → Opening
  define block : Opening
