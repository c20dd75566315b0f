-- What is found of data: that it is taken, or why it is not.
use Rattle.std.specs.Prelude.{◌≡◌, ℕ, List, Option, Some, None, Ok, Err, codes}
use Rattle.tmpl_values.specs.Json.{data_of, not_json, not_whole}
use Rattle.tmpl_values.specs.Value.{Value}
use Rattle.tmpl_problems.specs.declared.data_check.DataReason.{DataReason}
use Rattle.tmpl_problems.specs.declared.data_check.DataReason.TheVariants as reason

-- there is no reason exactly where the bytes have a value
abbrev pub IsJudgedData : List ℕ → Option DataReason → Type 0
IsJudgedData bytes None = (value : Value) × (data_of bytes ≡ Ok value)
IsJudgedData bytes (Some reason.NotJson) = data_of bytes ≡ Err not_json
IsJudgedData bytes (Some reason.NotWhole) = data_of bytes ≡ Err not_whole

-- the words of `tmpl` for it
abbrev pub words_for : DataReason → List ℕ
words_for reason.NotJson = codes "not JSON"
words_for reason.NotWhole = codes "number not whole or out of range"
