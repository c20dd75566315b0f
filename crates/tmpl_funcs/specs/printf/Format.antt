-- `printf` ("Functions", at `printf`, which is `fmt.Sprintf`). That a form takes one argument, in
-- order, and that too few and too many arguments are refused, is this project's own rule.
use Rattle.std.specs.Prelude.{ℕ, List, [], ◌∷◌, ◌++◌, Option, Some, None, Result}
use Rattle.std.specs.Prelude.{ok_or, option_and_then, option_map}
use Rattle.std.specs.Str.{byte}
use Rattle.tmpl_values.specs.Value.{Value, string}
use Rattle.tmpl_values.specs.Item.{bytes_of}
use Rattle.tmpl_values.specs.Stage.{and_then}
use Rattle.tmpl_funcs.specs.printf.Form.{Segment, literal, percent, form}
use Rattle.tmpl_funcs.specs.printf.Reading.{reading}
use Rattle.tmpl_funcs.specs.printf.Form.{form_of}
use Rattle.tmpl_funcs.specs.printf.Directive.{printed_by}
use Rattle.tmpl_funcs.specs.declared.fault.CallFault.{CallFault}
use Rattle.tmpl_funcs.specs.declared.fault.CallFault.TheVariants.{WrongKind, FormatRefused}

-- the texts of the segments one after another, where the forms take the arguments in order, one each
abbrev pub texts : List Segment → List Value → Option (List ℕ)
texts [] [] = Some []
texts (literal run ∷ ps) vs = option_map (λ t. run ++ t) (texts ps vs)
texts (percent ∷ ps) vs = option_map (λ t. byte "%" ∷ t) (texts ps vs)
texts (form f ∷ ps) (v ∷ vs) = option_and_then (λ s. option_map (λ t. s ++ t) (texts ps vs)) (printed_by (form_of f) v)
texts _ _ = None

-- the text of a format and arguments
unfoldable pub formatted : List ℕ → List Value → Option (List ℕ)
formatted format vs = option_and_then (λ ps. texts ps vs) (reading format)

-- the first argument as a format of the others; it has to be a string
abbrev pub printf_of : Value → List Value → Result Value CallFault
printf_of v vs = and_then (ok_or (bytes_of v) WrongKind) (λ s. ok_or (option_map string (formatted s vs)) FormatRefused)
