-- What counts of an item for the place in which it stands: which kind of action it is, and the names in it. Names
-- are without their `$`.
use Rattle.std.specs.Prelude.{ℕ, List, [], ◌∷◌, ◌++◌, map, Option, Some, None}
use Rattle.std.specs.Option.{option_map_or}
use Rattle.tmpl_grammar.specs.Tree.{Operand, variable}
use Rattle.tmpl_grammar.specs.Tree.{group, Operands, no_operand, operand, Pipeline, no_command, command}
use Rattle.tmpl_grammar.specs.Tree.{Binding, declare, assign, declare_pair, Header}
use Rattle.tmpl_grammar.specs.Action as action
use Rattle.tmpl_grammar.specs.Action.{Action, pipeline_action, plain_else}
use Rattle.tmpl_grammar.specs.Action.{else_branch, end_action, define_action}
use Rattle.tmpl_grammar.specs.Action.{template_action, block_action}
use Rattle.tmpl_syntax.specs.Item.{Item, item, text_item, flawed_item, deep_item, action_item}
use Rattle.tmpl_grammar.specs.declared.action.Branch.{Branch}
use Rattle.tmpl_syntax.specs.Fault.{Reason}
use Rattle.tmpl_syntax.specs.Place.Opening.{Opening}
use Rattle.tmpl_syntax.specs.Place.Opening as opening

abbrev pub Name : Type 0
Name = List ℕ

-- the names that an action declares, and those that it uses or assigns
pub record Names : Type 0 where
  pub declares : List Name
  pub uses : List Name

-- plain is a text, or an action that puts out or binds a value or runs a template; an opener opens a control or a
-- template, an else_part is an else, which may begin with a control of its own, a closer is an `end`, and a jump a
-- break or continue; nested are actions whose parentheses nest too deep, of which an else branch alone may be out of
-- place; and what is flawed is refused for this reason wherever it stands
pub data Role : Type 0 where
  plain : Names → Role
  opener : Opening → Names → Role
  else_part : Option (Branch × Names) → Role
  closer jump : Role
  nested : Option Branch → Role
  flawed : Reason → Role

-- `$` alone is the dot with which the template started, and no name that is declared
abbrev pub names_of_name : Name → List Name
names_of_name [] = []
names_of_name (b ∷ bs) = (b ∷ bs) ∷ []

abbrev mutual
  pub used_by_operand : Operand → List Name
  used_by_operand (variable name names) = names_of_name name
  used_by_operand (group commands names) = used_by commands
  used_by_operand o = []

  pub used_by_operands : Operands → List Name
  used_by_operands no_operand = []
  used_by_operands (operand o os) = used_by_operand o ++ used_by_operands os

  pub used_by : Pipeline → List Name
  used_by no_command = []
  used_by (command os cs) = used_by_operands os ++ used_by cs

abbrev pub assigned_by : Binding → List Name
assigned_by (assign name) = names_of_name name
assigned_by b = []

abbrev pub declared_by : Binding → List Name
declared_by (declare name) = name ∷ []
declared_by (declare_pair key name) = key ∷ name ∷ []
declared_by b = []

-- the names in a header
abbrev pub names_of : Header → Names
names_of h = record { declares = declared_by h.binding; uses = assigned_by h.binding ++ used_by h.pipeline }

-- the names in what a template is run with, and none where it is run with nothing
abbrev pub names_given : Option Pipeline → Names
names_given given = record { declares = []; uses = option_map_or used_by given [] }

abbrev pub act_of : Action → Role
act_of (pipeline_action h) = plain (names_of h)
act_of (action.opening c h) = opener (opening.control c) (names_of h)
act_of plain_else = else_part None
act_of (else_branch branch h) = else_part (Some (branch, names_of h))
act_of end_action = closer
act_of (define_action name) = opener opening.define (names_given None)
act_of (template_action name given) = plain (names_given given)
act_of (block_action name p) = opener opening.block (names_given (Some p))
act_of a = jump

abbrev pub role_of : Item → Role
role_of (item line (text_item bytes)) = plain (names_given None)
role_of (item line (flawed_item reason)) = flawed reason
role_of (item line (deep_item branch)) = nested branch
role_of (item line (action_item a)) = act_of a

abbrev pub roles_of : List Item → List Role
roles_of items = map role_of items
