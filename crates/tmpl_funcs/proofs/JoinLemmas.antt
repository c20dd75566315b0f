-- For `add_joined`, `add_parted` and `print`: operands are joined one by one.
use Rattle.std.proofs.Common.{◌≡◌, ℕ, Bool, true, false, ◌||◌, List, [], ◌∷◌, ◌++◌, map, refl, sym, ap, append-nil}
use Rattle.std.specs.List.{join_with_byte}
use Rattle.std.proofs.lemmas.List.{map-id}
use Rattle.tmpl_values.specs.Value.{Value}
use Rattle.tmpl_values.specs.Text.{inner_text}
use Rattle.tmpl_values.specs.declared.value.Cell.{Cell}
use Rattle.tmpl_funcs.specs.View.{values_of}
use Rattle.tmpl_funcs.specs.Join.{is_string, join_operands}
use Rattle.tmpl_funcs.specs.computed.Join.{operand_shown, space_unless}
use Rattle.tmpl_funcs.specs.declared.join.NothingText.{NothingText}
use Rattle.tmpl_funcs.specs.declared.join.NothingText.TheVariants.{Nil}

-- the operands after one that is a string or not
abbrev pub joined_by : Bool → List Value → List ℕ
joined_by t [] = []
joined_by t (v ∷ vs) = space_unless (t || is_string v) ++ (inner_text v ++ joined_by (is_string v) vs)

after-by : (v : Value) (vs : List Value) → join_operands (v ∷ vs) ≡ inner_text v ++ joined_by (is_string v) vs
after-by v [] = sym (append-nil (inner_text v))
after-by v (w ∷ ws) = ap (λ t. inner_text v ++ (space_unless (is_string v || is_string w) ++ t)) (after-by w ws)

pub join_operands-by : (vs : List Value) → join_operands vs ≡ joined_by true vs
join_operands-by [] = refl
join_operands-by (v ∷ vs) = after-by v vs

-- the operands in cells, with a space before each but perhaps the first
abbrev pub parted_by : Bool → List Value → List ℕ
parted_by t [] = []
parted_by t (v ∷ vs) = space_unless t ++ (inner_text v ++ parted_by false vs)

spaced-by : (v : Value) (vs : List Value) → join_with_byte 32 (map inner_text (v ∷ vs)) ≡ inner_text v ++ parted_by false vs
spaced-by v [] = sym (append-nil (inner_text v))
spaced-by v (w ∷ ws) = ap (λ t. inner_text v ++ 32 ∷ t) (spaced-by w ws)

pub parted-by : (vs : List Value) → join_with_byte 32 (map inner_text vs) ≡ parted_by true vs
parted-by [] = refl
parted-by (v ∷ vs) = spaced-by v vs

-- the values that are joined
abbrev pub operands_of : NothingText → List Cell → List Value
operands_of m cells = map (operand_shown m) (values_of cells)

pub map-operand_shown : (vs : List Value) → map (operand_shown Nil) vs ≡ vs
map-operand_shown vs = map-id vs
