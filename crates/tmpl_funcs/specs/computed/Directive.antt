-- What a form prints, kept whole, and a flag of a form.
use Rattle.std.specs.Prelude.{ℕ, Bool, not, ◌||◌, List, Option}
use Rattle.tmpl_values.specs.Value.{Value}
use Rattle.tmpl_funcs.specs.printf.Directive.{printed_by}
use Rattle.tmpl_funcs.specs.printf.Form.{Form}

-- the form has no flag but `-`
abbrev pub has_minus_alone : Form → Bool
has_minus_alone f = not (f.plus || (f.zero || f.space))

-- what it prints of a value
unfoldable pub printed : Form → Value → Option (List ℕ)
printed f v = printed_by f v
