-- For all that put code: what the compiler holds stands for the code and the layout that the relation speaks of.
use Rattle.std.proofs.Common.{◌≡◌, ◌∙◌, List, [], ◌∷◌, ◌++◌, length, map, reverse, ap}
use Rattle.std.proofs.lemmas.List.{length-map, length-reverse, reverse-append}
use Rattle.tmpl_code.specs.View.{instruction_of}
use Rattle.tmpl_code.specs.declared.instruction.Instruction as held
use Rattle.tmpl_code.specs.declared.tables.Tables.{Tables}
use Rattle.tmpl_code.specs.computed.Held.{code_in}

pub code_push : (t : Tables) (is : List held.Instruction) (i : held.Instruction) → code_in t (is ++ i ∷ []) ≡ instruction_of t i ∷ code_in t is
code_push t is i = ap (map (instruction_of t)) (reverse-append is (i ∷ []))

pub code_length : (t : Tables) (is : List held.Instruction) → length (code_in t is) ≡ length is
code_length t is = length-map (reverse is) (instruction_of t) ∙ length-reverse is
