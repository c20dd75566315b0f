-- What is open at a place of a YAML text, innermost first.
use Rattle.std.specs.Bool.{then_some}
use Rattle.std.specs.Prelude.{ℕ, Bool, true, false, not, ◌||◌, ◌&&◌, ◌==◌, nat_lt, nat_le, List, [], ◌∷◌, Option, Some, None, is_some, option_map, option_and_then, if◌then◌else◌}
use Rattle.tmpl_formats.specs.declared.yaml_nest.Bracket.{Bracket}
use Rattle.tmpl_formats.specs.declared.yaml_nest.Bracket.TheVariants as bracket
use Rattle.tmpl_formats.specs.declared.yaml_nest.Change.{Change}
use Rattle.tmpl_formats.specs.declared.yaml_nest.Change.TheVariants as change
use Rattle.tmpl_formats.specs.declared.yaml_nest.Event.{Event}
use Rattle.tmpl_formats.specs.declared.yaml_nest.Event.TheVariants as event
use Rattle.tmpl_formats.specs.declared.yaml_nest.Expects.{Expects}
use Rattle.tmpl_formats.specs.declared.yaml_nest.Expects.TheVariants as expects
use Rattle.tmpl_formats.specs.declared.yaml_nest.Level.{Level}
use Rattle.tmpl_formats.specs.declared.yaml_nest.Level.TheVariants as level
use Rattle.tmpl_formats.specs.declared.yaml_nest.Token.{Token}
use Rattle.tmpl_formats.specs.declared.yaml_nest.Token.TheVariants as token

pub record Nest : Type 0 where
  pub awaited : Expects
  pub levels : List Level
  pub brackets : List Bracket

abbrev pub nest_at : Expects → List Level → List Bracket → Nest
nest_at e ls bs = record { awaited = e; levels = ls; brackets = bs }

abbrev pub head_of : {A : Type 0} → List A → Option A
head_of [] = None
head_of (x ∷ xs) = Some x

abbrev pub tail_of : {A : Type 0} → List A → List A
tail_of [] = []
tail_of (x ∷ xs) = xs

abbrev pub is_value : Expects → Bool
is_value expects.Value = true
is_value _ = false

abbrev pub is_entry : Expects → Bool
is_entry expects.Entry = true
is_entry _ = false

abbrev pub is_nothing : Expects → Bool
is_nothing expects.Nothing = true
is_nothing _ = false

-- whether a value may come
abbrev pub holds : ℕ → Expects → Option Level → Bool
holds c e None = is_value e
holds c e (Some (level.Map d)) = is_value e && nat_lt d c
holds c e (Some (level.Sequence d)) = is_value e && nat_lt d c

abbrev pub holds_in : Expects → Bracket → Bool
holds_in e bracket.List = is_entry e
holds_in e bracket.Map = is_value e

abbrev pub holds_at : ℕ → Expects → Option Level → Option Bracket → Bool
holds_at c e top None = holds c e top
holds_at c e top (Some k) = holds_in e k

abbrev pub item : ℕ → Expects → Option Level → Option Change
item c e None = then_some (is_value e) (change.Push (level.Sequence c))
item c e (Some (level.Map d)) = then_some (is_value e && nat_le d c) (change.Push (level.Sequence c))
item c e (Some (level.Sequence d)) = if d == c then Some (change.Expect expects.Value) else then_some (is_value e && nat_lt d c) (change.Push (level.Sequence c))

abbrev pub key : ℕ → Expects → Option Level → Option Change
key c e None = then_some (is_value e) (change.Push (level.Map c))
key c e (Some (level.Map d)) = if d == c then Some (change.Expect expects.Value) else then_some (is_value e && nat_lt d c) (change.Push (level.Map c))
key c e (Some (level.Sequence d)) = then_some (is_value e && nat_lt d c) (change.Push (level.Map c))

-- what a token does
abbrev pub change_of : Token → Expects → Option Level → Option Bracket → Option Change
change_of (token.Item c) e top None = item c e top
change_of (token.Key c) e top None = key c e top
change_of (token.Key c) e top (Some bracket.Map) = then_some (is_entry e) (change.Expect expects.Value)
change_of (token.Scalar c) e top k = then_some (holds_at c e top k) (change.Expect expects.Nothing)
change_of (token.Open own c) e top k = then_some (holds_at c e top k) (change.Open own)
change_of (token.Close bracket.List) e top (Some bracket.List) = then_some (not (is_value e)) change.Close
change_of (token.Close bracket.Map) e top (Some bracket.Map) = then_some (not (is_value e)) change.Close
change_of token.Comma e top (Some k) = then_some (is_nothing e) (change.Expect expects.Entry)
change_of token.Marker e top None = Some change.Reset
change_of _ e top k = None

abbrev pub applied : Change → Nest → Nest
applied (change.Expect e) n = nest_at e n.levels n.brackets
applied (change.Push l) n = nest_at expects.Value (l ∷ n.levels) n.brackets
applied (change.Open k) n = nest_at expects.Entry n.levels (k ∷ n.brackets)
applied change.Close n = nest_at expects.Nothing n.levels (tail_of n.brackets)
applied change.Reset n = nest_at expects.Value [] n.brackets

abbrev pub taken : Token → Nest → Option Nest
taken t n = option_map (λ x. applied x n) (change_of t n.awaited (head_of n.levels) (head_of n.brackets))

-- a level ends before an item or something else at a column
abbrev pub is_over : Level → ℕ → Bool → Bool
is_over (level.Map d) c is_item = nat_lt c d
is_over (level.Sequence d) c is_item = if is_item then nat_lt c d else nat_le c d

abbrev pub is_top_over : Option Level → ℕ → Bool → Bool
is_top_over None c is_item = false
is_top_over (Some l) c is_item = is_over l c is_item

unfoldable pub unwound_from : ℕ → Bool → Expects → List Level → List Bracket → Nest
unwound_from c is_item e [] bs = nest_at e [] bs
unwound_from c is_item e (l ∷ ls) bs = if is_over l c is_item then unwound_from c is_item expects.Nothing ls bs else nest_at e (l ∷ ls) bs

abbrev pub unwound : ℕ → Bool → Nest → Nest
unwound c is_item n = unwound_from c is_item n.awaited n.levels n.brackets

abbrev pub settled : ℕ → Bool → Nest → Nest
settled c is_item n = if holds c n.awaited (head_of n.levels) then n else unwound c is_item n

abbrev pub may_begin : ℕ → Bool → Expects → Option Level → Bool
may_begin c is_item e (Some (level.Map d)) = (d == c) || holds c e (Some (level.Map d))
may_begin c is_item e (Some (level.Sequence d)) = (is_item && (d == c)) || holds c e (Some (level.Sequence d))
may_begin c is_item e None = holds c e None

abbrev pub if_begins : ℕ → Bool → Nest → Option Nest
if_begins c is_item n = if may_begin c is_item n.awaited (head_of n.levels) then Some n else None

abbrev pub begun_in : ℕ → Bool → Nest → Option Bracket → Option Nest
begun_in c is_item n None = if_begins c is_item (settled c is_item n)
begun_in c is_item n (Some k) = None

abbrev pub begun : ℕ → Bool → Nest → Option Nest
begun c is_item n = begun_in c is_item n (head_of n.brackets)

abbrev pub taken_item_in : ℕ → Nest → Option Bracket → Option Nest
taken_item_in c n None = taken (token.Item c) (settled c true n)
taken_item_in c n (Some k) = None

abbrev pub taken_item : ℕ → Nest → Option Nest
taken_item c n = taken_item_in c n (head_of n.brackets)

abbrev pub taken_two : Token → Token → Nest → Option Nest
taken_two t u n = option_and_then (λ m. taken u m) (taken t n)

abbrev pub happened : Event → Nest → Option Nest
happened event.Nothing n = Some n
happened (event.Begin c) n = begun c false n
happened (event.Dash c) n = begun c true n
happened event.Enter n = if is_nothing n.awaited then None else Some n
happened (event.Item c) n = taken_item c n
happened (event.One t) n = taken t n
happened (event.Two t u) n = taken_two t u n

abbrev pub is_in_brackets : Nest → Bool
is_in_brackets n = is_some (head_of n.brackets)

abbrev pub start : Nest
start = nest_at expects.Value [] []
