-- Why a file is refused, and the kinds by which the parser says so.
use Rattle.std.specs.Prelude.{List, [], ◌∷◌, Option, Some, None}
use Rattle.tmpl_syntax.specs.declared.fault.ParseKind.{ParseKind}
use Rattle.tmpl_syntax.specs.declared.fault.ParseKind.TheVariants as kind

-- it is too long, or its first refused action is so, or it ends inside a control or a template, or it defines a
-- template twice
pub data Reason : Type 0 where
  too_long unreadable not_an_action out_of_place nested_too_deeply undeclared_variable : Reason
  open_at_end second_definition : Reason

-- the reasons of an action that is read, in the order in which they are asked for
abbrev pub in_turn : List Reason
in_turn = out_of_place ∷ nested_too_deeply ∷ undeclared_variable ∷ []

-- the reason that a kind names; want of memory is none
abbrev pub reason_of : ParseKind → Option Reason
reason_of kind.TooLong = Some too_long
reason_of kind.Unreadable = Some unreadable
reason_of kind.NotAnAction = Some not_an_action
reason_of kind.OutOfPlace = Some out_of_place
reason_of kind.NestedTooDeeply = Some nested_too_deeply
reason_of kind.UndeclaredVariable = Some undeclared_variable
reason_of kind.OpenAtEnd = Some open_at_end
reason_of kind.SecondDefinition = Some second_definition
reason_of kind.OutOfMemory = None
