-- The two ways in which a text is escaped.
use Rattle.std.specs.Prelude.{ℕ, List, [], ◌∷◌, map, Option, Some, None, Result, Ok}
use Rattle.std.specs.List.{flat_map}
use Rattle.tmpl_values.specs.Value.{Value, string}
use Rattle.tmpl_funcs.specs.Escape.{html_byte, query_byte}
use Rattle.tmpl_funcs.specs.Join.{join_operands, as_text}
use Rattle.tmpl_funcs.specs.declared.fault.CallFault.{CallFault}
use Rattle.tmpl_funcs.specs.declared.escape.Escape.{Escape}
use Rattle.tmpl_funcs.specs.declared.escape.Escape.TheVariants.{Html, Query}

-- a byte as it is escaped
abbrev pub escaped_byte : Escape → ℕ → List ℕ
escaped_byte Html b = html_byte b
escaped_byte Query b = query_byte b

-- what replaces a byte; with nothing it stays
abbrev pub or_itself : ℕ → Option (List ℕ) → List ℕ
or_itself b None = b ∷ []
or_itself b (Some text) = text

-- the operands joined and escaped
abbrev pub escaped_of : Escape → List Value → Result Value CallFault
escaped_of escape vs = Ok (string (flat_map (escaped_byte escape) (join_operands (map as_text vs))))
