-- What the code that looks for copy loops holds.
use Rattle.tmpl_syntax.specs.View.{nodes_in}
use Rattle.tmpl_loops.specs.computed.Find.{Parts, Start, Wanted, the_dot, the_no, the_variable, the_zero}
use Rattle.tmpl_loops.specs.declared.find.Parts as held_parts
use Rattle.tmpl_loops.specs.declared.find.Start as held_start
use Rattle.tmpl_loops.specs.declared.find.Wanted as held_wanted
use Rattle.tmpl_loops.specs.declared.find.Wanted.TheVariants as wanted

abbrev pub wanted_of : held_wanted.Wanted → Wanted
wanted_of wanted.Dot = the_dot
wanted_of wanted.Zero = the_zero
wanted_of wanted.No = the_no
wanted_of (wanted.Variable name) = the_variable name.now

abbrev pub start_seen : held_start.Start → Start
start_seen s = (s.text.now, s.from.now, s.new.now, nodes_in s.rest.now)

abbrev pub parts_seen : held_parts.Parts → Parts
parts_seen p = record {
  text = p.text.now;
  from = p.from.now;
  new = p.new.now;
  index = p.index.now;
  byte = p.byte.now;
  steps = nodes_in p.steps.now;
  tail = nodes_in p.tail.now;
}
