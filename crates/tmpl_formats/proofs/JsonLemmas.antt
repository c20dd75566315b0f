-- What the machine for JSON accepts is JSON.
use Rattle.std.proofs.Common.{◌≡◌, ◌≢◌, ◌<◌, ◌≤◌, ◌⊎◌, inl, inr, ℕ, ◌==◌, Bool, true, false, cond, ◌&&◌, List, [], ◌∷◌, ◌++◌, Option, Some, None, arith, refl, sym, ◌∙◌, ap}
use Rattle.std.proofs.lemmas.Grind.{common_steps}
use Rattle.std.specs.Char.{is_ascii_digit}
use Rattle.std.specs.Prelude.{not, nat_le, nat_lt, option_map}
use Rattle.tmpl_formats.proofs.MachineLemmas.{went, Then, both, then_map}
use Rattle.tmpl_formats.proofs.JsonGrammar.{HasHex, no_digit, a_digit, other, below, high, HasLow, low, HasString, close, plain, short, unit, pair, HasDigits, no_more, digit, HasSome, some, HasExponent, no_exponent, unsigned, signed, HasFraction, no_fraction, fraction, HasUnsigned, zero, whole, positive, negative, HasSpace, no_space, space, HasValue, a_true, a_false, a_null, number, string, empty_array, array, empty_object, object, HasElement, element, HasItems, last_item, more_items, HasMember, member, HasMembers, last_member, more_members, IsElement}
use Rattle.tmpl_formats.specs.computed.JsonBytes.{is_white, is_plain, is_short_escape, hex_value}
use Rattle.tmpl_formats.specs.computed.Json.{sign_of, after, at_value, at_item, at_key, at_member, at_colon, at_end, closed, at_text, next, at_escape, at_literal, after_zero, first_digit, at_number, Config, head_of, tail_of, applied, step, ends, ends_value, is_empty, json_mistake}
use Rattle.tmpl_formats.specs.computed.Machine.{mistake, after_step}
use Rattle.tmpl_formats.specs.declared.json_text.Action.{Action}
use Rattle.tmpl_formats.specs.declared.json_text.Action.TheVariants as action
use Rattle.tmpl_formats.specs.declared.json_text.Control.{Control}
use Rattle.tmpl_formats.specs.declared.json_text.Control.TheVariants as at
use Rattle.tmpl_formats.specs.declared.json_text.Escape.{Escape}
use Rattle.tmpl_formats.specs.declared.json_text.Escape.TheVariants as escape
use Rattle.tmpl_formats.specs.declared.json_text.Literal.{Literal}
use Rattle.tmpl_formats.specs.declared.json_text.Literal.TheVariants as literal
use Rattle.tmpl_formats.specs.declared.json_text.Number.{Number}
use Rattle.tmpl_formats.specs.declared.json_text.Number.TheVariants as num
use Rattle.tmpl_formats.specs.declared.json_text.Open.{Open}
use Rattle.tmpl_formats.specs.declared.json_text.Open.TheVariants as open_
use Rattle.tmpl_formats.specs.declared.json_text.Role.{Role}
use Rattle.tmpl_formats.specs.declared.json_text.Role.TheVariants as role
use Rattle.tmpl_formats.specs.declared.json_text.Sign.{Sign}
use Rattle.tmpl_formats.specs.declared.json_text.Sign.TheVariants as sign

-- ---- which kinds pass a test

abbrev code_of : Sign → ℕ
code_of sign.Comma = 44
code_of sign.Colon = 58
code_of sign.OpenArray = 91
code_of sign.CloseArray = 93
code_of sign.OpenObject = 123
code_of sign.CloseObject = 125
code_of sign.Quote = 34
code_of sign.Backslash = 92
code_of sign.Minus = 45
code_of sign.Plus = 43
code_of sign.Dot = 46
code_of sign.Zero = 48
code_of sign.True = 116
code_of sign.False = 102
code_of sign.Null = 110
code_of _ = 0

abbrev is_code : Sign → Bool
is_code s = not (code_of s == 0)

codes_of : (b : ℕ) → is_code (sign_of b) ≡ true → b ≡ code_of (sign_of b)
codes_of b = grind (arith, common_steps)

-- the byte of a kind that has one
byte_of : (s : Sign) (b : ℕ) → sign_of b ≡ s → is_code s ≡ true → b ≡ code_of s
byte_of s b e i = codes_of b (ap is_code e ∙ i) ∙ ap code_of e

abbrev white_sign : Sign → Bool
white_sign sign.Space = true
white_sign sign.White = true
white_sign _ = false

abbrev plain_sign : Sign → Bool
plain_sign sign.White = false
plain_sign sign.Control = false
plain_sign sign.Quote = false
plain_sign sign.Backslash = false
plain_sign _ = true

abbrev digit_sign : Sign → Bool
digit_sign sign.Zero = true
digit_sign sign.Digit = true
digit_sign _ = false

abbrev nonzero_sign : Sign → Bool
nonzero_sign sign.Digit = true
nonzero_sign _ = false

abbrev exponent_sign : Sign → Bool
exponent_sign sign.Exponent = true
exponent_sign _ = false

whites : (b : ℕ) → white_sign (sign_of b) ≡ true → is_white b ≡ true
whites b = grind (arith, common_steps)

plains : (b : ℕ) → plain_sign (sign_of b) ≡ true → is_plain b ≡ true
plains b = grind (arith, common_steps)

digits : (b : ℕ) → digit_sign (sign_of b) ≡ true → is_ascii_digit b ≡ true
digits b = grind (arith, common_steps)

nonzeros : (b : ℕ) → nonzero_sign (sign_of b) ≡ true → b ≢ 48
nonzeros b = grind (arith, common_steps)

exponents : (b : ℕ) → exponent_sign (sign_of b) ≡ true → (b ≡ 101) ⊎ (b ≡ 69)
exponents b = grind (arith, common_steps)

-- ---- what is left, by what is open, the innermost first

-- after a value
data AfterValue : List Open → List ℕ → Type 0 where
  done : {text : List ℕ} → HasSpace text [] → AfterValue [] text
  array_ends : {s : List Open} {text rest : List ℕ} → HasSpace text (93 ∷ rest) → AfterValue s rest → AfterValue (open_.Array ∷ s) text
  array_goes : {s : List Open} {text more rest : List ℕ} → HasSpace text (44 ∷ more) → HasItems more (93 ∷ rest) → AfterValue s rest → AfterValue (open_.Array ∷ s) text
  object_ends : {s : List Open} {text rest : List ℕ} → HasSpace text (125 ∷ rest) → AfterValue s rest → AfterValue (open_.Object ∷ s) text
  object_goes : {s : List Open} {text more rest : List ℕ} → HasSpace text (44 ∷ more) → HasMembers more (125 ∷ rest) → AfterValue s rest → AfterValue (open_.Object ∷ s) text

-- before a value
data ValueThen (s : List Open) : List ℕ → Type 0 where
  value_then : {text value rest : List ℕ} → HasSpace text value → HasValue value rest → AfterValue s rest → ValueThen s text

data ItemsThen (s : List Open) : List ℕ → Type 0 where
  items_then : {text rest : List ℕ} → HasItems text (93 ∷ rest) → AfterValue s rest → ItemsThen s text

data ItemThen (s : List Open) : List ℕ → Type 0 where
  no_items : {text rest : List ℕ} → HasSpace text (93 ∷ rest) → AfterValue s rest → ItemThen s text
  some_items : {text : List ℕ} → ItemsThen s text → ItemThen s text

data MembersThen (s : List Open) : List ℕ → Type 0 where
  members_then : {text rest : List ℕ} → HasMembers text (125 ∷ rest) → AfterValue s rest → MembersThen s text

data MemberThen (s : List Open) : List ℕ → Type 0 where
  no_members : {text rest : List ℕ} → HasSpace text (125 ∷ rest) → AfterValue s rest → MemberThen s text
  some_members : {text : List ℕ} → MembersThen s text → MemberThen s text

-- after a key
data ColonThen (s : List Open) : List ℕ → Type 0 where
  colon_then : {text value : List ℕ} → HasSpace text (58 ∷ value) → ValueThen s value → ColonThen s text

abbrev After : Role → List Open → List ℕ → Type 0
After role.Value s text = AfterValue s text
After role.Key s text = ColonThen s text

abbrev TextThen : Role → List Open → List ℕ → Type 0
TextThen r s text = Then HasString (After r s) text

-- before the backslash of a low surrogate
data PairThen (r : Role) (s : List Open) : List ℕ → Type 0 where
  pair_then : {more most : List ℕ} → HasLow more most → TextThen r s most → PairThen r s (92 ∷ 117 ∷ more)

abbrev EscapeThen : Role → Escape → List Open → List ℕ → Type 0
EscapeThen r escape.Backslash s text = TextThen r s (92 ∷ text)
EscapeThen r escape.Unit s text = TextThen r s (92 ∷ 117 ∷ text)
EscapeThen r escape.Surrogate s text = (b : ℕ) → hex_value b ≡ 13 → TextThen r s (92 ∷ 117 ∷ b ∷ text)
EscapeThen r escape.Hex3 s text = Then (HasHex 3) (TextThen r s) text
EscapeThen r escape.Hex2 s text = Then (HasHex 2) (TextThen r s) text
EscapeThen r escape.Hex1 s text = Then (HasHex 1) (TextThen r s) text
EscapeThen r escape.High2 s text = Then (HasHex 2) (PairThen r s) text
EscapeThen r escape.High1 s text = Then (HasHex 1) (PairThen r s) text
EscapeThen r escape.Pair s text = PairThen r s text
EscapeThen r escape.PairUnit s text = PairThen r s (92 ∷ text)
EscapeThen r escape.Low s text = PairThen r s (92 ∷ 117 ∷ text)
EscapeThen r escape.LowSecond s text = (b : ℕ) → hex_value b ≡ 13 → PairThen r s (92 ∷ 117 ∷ b ∷ text)

-- the letters of a literal that are left
abbrev letters : Literal → List ℕ
letters literal.Rue = 114 ∷ 117 ∷ 101 ∷ []
letters literal.Ue = 117 ∷ 101 ∷ []
letters literal.E = 101 ∷ []
letters literal.Alse = 97 ∷ 108 ∷ 115 ∷ 101 ∷ []
letters literal.Lse = 108 ∷ 115 ∷ 101 ∷ []
letters literal.Se = 115 ∷ 101 ∷ []
letters literal.Ull = 117 ∷ 108 ∷ 108 ∷ []
letters literal.Ll = 108 ∷ 108 ∷ []
letters literal.L = 108 ∷ []

data LettersThen (s : List Open) (word : List ℕ) : List ℕ → Type 0 where
  letters_then : {rest : List ℕ} → AfterValue s rest → LettersThen s word (word ++ rest)

abbrev NumberThen : Number → List Open → List ℕ → Type 0
NumberThen num.Minus s text = Then HasUnsigned (AfterValue s) text
NumberThen num.Zero s text = Then HasFraction (AfterValue s) text
NumberThen num.Whole s text = Then HasDigits (Then HasFraction (AfterValue s)) text
NumberThen num.Point s text = Then HasSome (Then HasExponent (AfterValue s)) text
NumberThen num.Fraction s text = Then HasDigits (Then HasExponent (AfterValue s)) text
NumberThen num.Exponent s text = (b : ℕ) → (b ≡ 101) ⊎ (b ≡ 69) → Then HasExponent (AfterValue s) (b ∷ text)
NumberThen num.Sign s text = Then HasSome (AfterValue s) text
NumberThen num.Power s text = Then HasDigits (AfterValue s) text

-- the machine is at a bracket of an array, and of an object
abbrev InArray : (List Open → List ℕ → Type 0) → List Open → List ℕ → Type 0
InArray P (open_.Array ∷ s) text = P s text
InArray P _ text = Unit {0}

abbrev InObject : (List Open → List ℕ → Type 0) → List Open → List ℕ → Type 0
InObject P (open_.Object ∷ s) text = P s text
InObject P _ text = Unit {0}

abbrev Goes : Control → List Open → List ℕ → Type 0
Goes at.Value s text = ValueThen s text
Goes at.Item s text = InArray ItemThen s text
Goes at.Member s text = InObject MemberThen s text
Goes at.Key s text = InObject MembersThen s text
Goes at.Colon s text = ColonThen s text
Goes at.End s text = AfterValue s text
Goes (at.Text r) s text = TextThen r s text
Goes (at.Escape r x) s text = EscapeThen r x s text
Goes (at.Literal l) s text = LettersThen s (letters l) text
Goes (at.Number n) s text = NumberThen n s text

-- ---- space before what is left

end_space : (s : List Open) (b : ℕ) (text : List ℕ) → is_white b ≡ true → AfterValue s text → AfterValue s (b ∷ text)
end_space _ b text w (done p) = done (space w p)
end_space _ b text w (array_ends p q) = array_ends (space w p) q
end_space _ b text w (array_goes p i q) = array_goes (space w p) i q
end_space _ b text w (object_ends p q) = object_ends (space w p) q
end_space _ b text w (object_goes p m q) = object_goes (space w p) m q

value_space : (s : List Open) (b : ℕ) (text : List ℕ) → is_white b ≡ true → ValueThen s text → ValueThen s (b ∷ text)
value_space s b text w (value_then p v q) = value_then (space w p) v q

colon_space : (s : List Open) (b : ℕ) (text : List ℕ) → is_white b ≡ true → ColonThen s text → ColonThen s (b ∷ text)
colon_space s b text w (colon_then p v) = colon_then (space w p) v

element_space : (b : ℕ) (text rest : List ℕ) → is_white b ≡ true → HasElement text rest → HasElement (b ∷ text) rest
element_space b text rest w (element p v q) = element (space w p) v q

items_space : (s : List Open) (b : ℕ) (text : List ℕ) → is_white b ≡ true → ItemsThen s text → ItemsThen s (b ∷ text)
items_space s b text w (items_then (last_item x) q) = items_then (last_item (element_space b text _ w x)) q
items_space s b text w (items_then (more_items x m) q) = items_then (more_items (element_space b text _ w x) m) q

item_space : (s : List Open) (b : ℕ) (text : List ℕ) → is_white b ≡ true → ItemThen s text → ItemThen s (b ∷ text)
item_space s b text w (no_items p q) = no_items (space w p) q
item_space s b text w (some_items i) = some_items (items_space s b text w i)

one_member_space : (b : ℕ) (text rest : List ℕ) → is_white b ≡ true → HasMember text rest → HasMember (b ∷ text) rest
one_member_space b text rest w (member p k c x) = member (space w p) k c x

members_space : (s : List Open) (b : ℕ) (text : List ℕ) → is_white b ≡ true → MembersThen s text → MembersThen s (b ∷ text)
members_space s b text w (members_then (last_member x) q) = members_then (last_member (one_member_space b text _ w x)) q
members_space s b text w (members_then (more_members x m) q) = members_then (more_members (one_member_space b text _ w x) m) q

member_space : (s : List Open) (b : ℕ) (text : List ℕ) → is_white b ≡ true → MemberThen s text → MemberThen s (b ∷ text)
member_space s b text w (no_members p q) = no_members (space w p) q
member_space s b text w (some_members m) = some_members (members_space s b text w m)

-- ---- values in what is open

items_of : (s : List Open) (text : List ℕ) → ValueThen (open_.Array ∷ s) text → ItemsThen s text
items_of s text (value_then p v (array_ends q b)) = items_then (last_item (element p v q)) b
items_of s text (value_then p v (array_goes q i b)) = items_then (more_items (element p v q) i) b

members_of : (s : List Open) (key : List ℕ) → TextThen role.Key (open_.Object ∷ s) key → MembersThen s (34 ∷ key)
members_of s key (both k (colon_then c (value_then p v (object_ends q b)))) = members_then (last_member (member no_space k c (element p v q))) b
members_of s key (both k (colon_then c (value_then p v (object_goes q m b)))) = members_then (more_members (member no_space k c (element p v q)) m) b

-- ---- one byte more

abbrev config_at : Control → List Open → Config
config_at q s = record { control = q; top = head_of s; below = tail_of s }

-- the rest is accepted after what a byte does
abbrev Accepts : List Open → Option Action → List ℕ → Type 0
Accepts s act text = after_step (λ d. mistake step ends d text) (option_map (applied (head_of s) (tail_of s)) act) ≡ None

-- the rest is what is left at each configuration from which it is accepted
abbrev Known : List ℕ → Type 0
Known text = (q : Control) (s : List Open) → mistake step ends (config_at q s) text ≡ None → Goes q s text

on : (q : Control) (s : List Open) (text : List ℕ) → Known text → Accepts s (Some (action.To q)) text → Goes q s text
on q s text known h = known q s (went (λ x. mistake step ends x text) (config_at q s) h)

on_if : (q : Control) (s : List Open) (t : Bool) (text : List ℕ) → Known text → Accepts s (next t q) text → (t ≡ true) × Goes q s text
on_if q s true text known h = (refl, on q s text known h)
on_if q s false text known h = cc

pushed : (q : Control) (o : Open) (s : List Open) (text : List ℕ) → Known text → Accepts s (Some (action.Push o q)) text → Goes q (o ∷ s) text
pushed q o [] text known h = known q (o ∷ []) (went (λ x. mistake step ends x text) (config_at q (o ∷ [])) h)
pushed q o (x ∷ s) text known h = known q (o ∷ x ∷ s) (went (λ x. mistake step ends x text) (config_at q (o ∷ x ∷ s)) h)

popped : (q : Control) (o : Open) (s : List Open) (text : List ℕ) → Known text → Accepts (o ∷ s) (Some (action.Pop q)) text → Goes q s text
popped q o s text known h = known q s (went (λ x. mistake step ends x text) (config_at q s) h)

-- after a value

comma_array : (s : List Open) (text : List ℕ) → ItemsThen s text → AfterValue (open_.Array ∷ s) (44 ∷ text)
comma_array s text (items_then i b) = array_goes no_space i b

comma_object : (s : List Open) (text : List ℕ) → MembersThen s text → AfterValue (open_.Object ∷ s) (44 ∷ text)
comma_object s text (members_then m b) = object_goes no_space m b

end_goes : (x : Sign) (s : List Open) (b : ℕ) (text : List ℕ) → sign_of b ≡ x → Accepts s (at_end (head_of s) x) text → Known text → AfterValue s (b ∷ text)
end_goes sign.White s b text e h known = end_space s b text (whites b (ap white_sign e)) (on at.End s text known h)
end_goes sign.Space s b text e h known = end_space s b text (whites b (ap white_sign e)) (on at.End s text known h)
end_goes sign.Comma (open_.Array ∷ s) b text e h known = rw (byte_of sign.Comma b e refl) (comma_array s text (items_of s text (on at.Value (open_.Array ∷ s) text known h)))
end_goes sign.Comma (open_.Object ∷ s) b text e h known = rw (byte_of sign.Comma b e refl) (comma_object s text (on at.Key (open_.Object ∷ s) text known h))
end_goes sign.CloseArray (open_.Array ∷ s) b text e h known = rw (byte_of sign.CloseArray b e refl) (array_ends no_space (popped at.End open_.Array s text known h))
end_goes sign.CloseObject (open_.Array ∷ s) b text e h known = cc
end_goes sign.CloseObject (open_.Object ∷ s) b text e h known = rw (byte_of sign.CloseObject b e refl) (object_ends no_space (popped at.End open_.Object s text known h))
end_goes _ s b text e h known = cc

-- where a value begins

string_value : (s : List Open) (text : List ℕ) → TextThen role.Value s text → ValueThen s (34 ∷ text)
string_value s text (both t b) = value_then no_space (string t) b

array_value : (s : List Open) (text : List ℕ) → ItemThen s text → ValueThen s (91 ∷ text)
array_value s text (no_items p b) = value_then no_space (empty_array p) b
array_value s text (some_items (items_then i b)) = value_then no_space (array i) b

object_value : (s : List Open) (text : List ℕ) → MemberThen s text → ValueThen s (123 ∷ text)
object_value s text (no_members p b) = value_then no_space (empty_object p) b
object_value s text (some_members (members_then m b)) = value_then no_space (object m) b

minus_value : (s : List Open) (text : List ℕ) → NumberThen num.Minus s text → ValueThen s (45 ∷ text)
minus_value s text (both n b) = value_then no_space (number (negative n)) b

zero_value : (s : List Open) (text : List ℕ) → NumberThen num.Zero s text → ValueThen s (48 ∷ text)
zero_value s text (both n b) = value_then no_space (number (positive (zero n))) b

whole_value : (s : List Open) (b : ℕ) (text : List ℕ) → is_ascii_digit b ≡ true → b ≢ 48 → NumberThen num.Whole s text → ValueThen s (b ∷ text)
whole_value s b text d n (both m (both f q)) = value_then no_space (number (positive (whole d n m f))) q

true_value : (s : List Open) (text : List ℕ) → LettersThen s (letters literal.Rue) text → ValueThen s (116 ∷ text)
true_value s _ (letters_then q) = value_then no_space a_true q

false_value : (s : List Open) (text : List ℕ) → LettersThen s (letters literal.Alse) text → ValueThen s (102 ∷ text)
false_value s _ (letters_then q) = value_then no_space a_false q

null_value : (s : List Open) (text : List ℕ) → LettersThen s (letters literal.Ull) text → ValueThen s (110 ∷ text)
null_value s _ (letters_then q) = value_then no_space a_null q

value_goes : (x : Sign) (s : List Open) (b : ℕ) (text : List ℕ) → sign_of b ≡ x → Accepts s (at_value x) text → Known text → ValueThen s (b ∷ text)
value_goes sign.White s b text e h known = value_space s b text (whites b (ap white_sign e)) (on at.Value s text known h)
value_goes sign.Space s b text e h known = value_space s b text (whites b (ap white_sign e)) (on at.Value s text known h)
value_goes sign.Quote s b text e h known = rw (byte_of sign.Quote b e refl) (string_value s text (on (at.Text role.Value) s text known h))
value_goes sign.OpenArray s b text e h known = rw (byte_of sign.OpenArray b e refl) (array_value s text (pushed at.Item open_.Array s text known h))
value_goes sign.OpenObject s b text e h known = rw (byte_of sign.OpenObject b e refl) (object_value s text (pushed at.Member open_.Object s text known h))
value_goes sign.Minus s b text e h known = rw (byte_of sign.Minus b e refl) (minus_value s text (on (at.Number num.Minus) s text known h))
value_goes sign.Zero s b text e h known = rw (byte_of sign.Zero b e refl) (zero_value s text (on (at.Number num.Zero) s text known h))
value_goes sign.Digit s b text e h known =
    whole_value s b text (digits b (ap digit_sign e)) (nonzeros b (ap nonzero_sign e)) (on (at.Number num.Whole) s text known h)
value_goes sign.True s b text e h known = rw (byte_of sign.True b e refl) (true_value s text (on (at.Literal literal.Rue) s text known h))
value_goes sign.False s b text e h known = rw (byte_of sign.False b e refl) (false_value s text (on (at.Literal literal.Alse) s text known h))
value_goes sign.Null s b text e h known = rw (byte_of sign.Null b e refl) (null_value s text (on (at.Literal literal.Ull) s text known h))
value_goes _ s b text e h known = cc

-- in an array and in an object

item_goes : (x : Sign) (s : List Open) (b : ℕ) (text : List ℕ) → sign_of b ≡ x → Accepts (open_.Array ∷ s) (at_item x) text → Known text → ItemThen s (b ∷ text)
item_goes sign.White s b text e h known = item_space s b text (whites b (ap white_sign e)) (on at.Item (open_.Array ∷ s) text known h)
item_goes sign.Space s b text e h known = item_space s b text (whites b (ap white_sign e)) (on at.Item (open_.Array ∷ s) text known h)
item_goes sign.CloseArray s b text e h known = rw (byte_of sign.CloseArray b e refl) (no_items no_space (popped at.End open_.Array s text known h))
item_goes x s b text e h known = some_items (items_of s (b ∷ text) (value_goes x (open_.Array ∷ s) b text e h known))

key_goes : (x : Sign) (s : List Open) (b : ℕ) (text : List ℕ) → sign_of b ≡ x → Accepts (open_.Object ∷ s) (at_key x) text → Known text → MembersThen s (b ∷ text)
key_goes sign.White s b text e h known = members_space s b text (whites b (ap white_sign e)) (on at.Key (open_.Object ∷ s) text known h)
key_goes sign.Space s b text e h known = members_space s b text (whites b (ap white_sign e)) (on at.Key (open_.Object ∷ s) text known h)
key_goes sign.Quote s b text e h known = rw (byte_of sign.Quote b e refl) (members_of s text (on (at.Text role.Key) (open_.Object ∷ s) text known h))
key_goes _ s b text e h known = cc

member_goes : (x : Sign) (s : List Open) (b : ℕ) (text : List ℕ) → sign_of b ≡ x → Accepts (open_.Object ∷ s) (at_member x) text → Known text → MemberThen s (b ∷ text)
member_goes sign.White s b text e h known = member_space s b text (whites b (ap white_sign e)) (on at.Member (open_.Object ∷ s) text known h)
member_goes sign.Space s b text e h known = member_space s b text (whites b (ap white_sign e)) (on at.Member (open_.Object ∷ s) text known h)
member_goes sign.Quote s b text e h known = rw (byte_of sign.Quote b e refl) (some_members (members_of s text (on (at.Text role.Key) (open_.Object ∷ s) text known h)))
member_goes sign.CloseObject s b text e h known = rw (byte_of sign.CloseObject b e refl) (no_members no_space (popped at.End open_.Object s text known h))
member_goes _ s b text e h known = cc

colon_goes : (x : Sign) (s : List Open) (b : ℕ) (text : List ℕ) → sign_of b ≡ x → Accepts s (at_colon x) text → Known text → ColonThen s (b ∷ text)
colon_goes sign.White s b text e h known = colon_space s b text (whites b (ap white_sign e)) (on at.Colon s text known h)
colon_goes sign.Space s b text e h known = colon_space s b text (whites b (ap white_sign e)) (on at.Colon s text known h)
colon_goes sign.Colon s b text e h known = rw (byte_of sign.Colon b e refl) (colon_then no_space (on at.Value s text known h))
colon_goes _ s b text e h known = cc

-- ---- strings

closed_text : (r : Role) (s : List Open) (text : List ℕ) → Goes (closed r) s text → TextThen r s (34 ∷ text)
closed_text role.Value s text a = both close a
closed_text role.Key s text a = both close a

text_goes : (x : Sign) (r : Role) (s : List Open) (b : ℕ) (text : List ℕ) → sign_of b ≡ x → Accepts s (at_text r x) text → Known text → TextThen r s (b ∷ text)
text_goes sign.Control r s b text e h known = cc
text_goes sign.White r s b text e h known = cc
text_goes sign.Quote r s b text e h known = rw (byte_of sign.Quote b e refl) (closed_text r s text (on (closed r) s text known h))
text_goes sign.Backslash r s b text e h known = rw (byte_of sign.Backslash b e refl) (on (at.Escape r escape.Backslash) s text known h)
text_goes _ r s b text e h known = then_map (on (at.Text r) s text known h) (λ rest t. plain (plains b (ap plain_sign e)) t)

equal_of : (m n : ℕ) → (m == n) ≡ true → m ≡ n
equal_of m n = grind (arith, common_steps)

unequal_of : (m n : ℕ) → (m == n) ≡ false → m ≢ n
unequal_of m n = grind (arith, common_steps)

below_of : (m n : ℕ) → nat_lt m n ≡ true → m < n
below_of m n = grind (arith, common_steps)

from_of : (m n : ℕ) → nat_lt m n ≡ false → n ≤ m
from_of m n = grind (arith, common_steps)

low_of : (m : ℕ) → (nat_le 12 m && nat_lt m 16) ≡ true → (12 ≤ m) × (m < 16)
low_of m = grind (arith, common_steps)

hex_last : (Q : List ℕ → Type 0) (b : ℕ) (text : List ℕ) → hex_value b < 16 → Q text → Then (HasHex 1) Q (b ∷ text)
hex_last Q b text v q = both (a_digit v no_digit) q

unit_other : (r : Role) (s : List Open) (b : ℕ) (text : List ℕ) → hex_value b < 16 → hex_value b ≢ 13 → Then (HasHex 3) (TextThen r s) text → TextThen r s (92 ∷ 117 ∷ b ∷ text)
unit_other r s b text v n (both d (both t a)) = both (unit (other v n d) t) a

unit_below : (r : Role) (s : List Open) (b c : ℕ) (text : List ℕ) → hex_value b ≡ 13 → hex_value c < 8 → Then (HasHex 2) (TextThen r s) text
    → TextThen r s (92 ∷ 117 ∷ b ∷ c ∷ text)
unit_below r s b c text v n (both d (both t a)) = both (unit (below v n d) t) a

unit_high : (r : Role) (s : List Open) (b c : ℕ) (text : List ℕ) → hex_value b ≡ 13 → 8 ≤ hex_value c → hex_value c < 12 → Then (HasHex 2) (PairThen r s) text
    → TextThen r s (92 ∷ 117 ∷ b ∷ c ∷ text)
unit_high r s b c text v m n (both d (pair_then l (both t a))) = both (pair (high v m n d) l t) a

pair_low : (r : Role) (s : List Open) (b c : ℕ) (text : List ℕ) → hex_value b ≡ 13 → 12 ≤ hex_value c → hex_value c < 16 → Then (HasHex 2) (TextThen r s) text
    → PairThen r s (92 ∷ 117 ∷ b ∷ c ∷ text)
pair_low r s b c text v m n (both d t) = pair_then (low v m n d) t

-- the first digit of a code unit
unit_goes : (t : Bool) (r : Role) (s : List Open) (b : ℕ) (text : List ℕ) → (hex_value b == 13) ≡ t
    → Accepts s (cond t (Some (action.To (at.Escape r escape.Surrogate))) (next (nat_lt (hex_value b) 16) (at.Escape r escape.Hex3))) text
    → Known text → TextThen r s (92 ∷ 117 ∷ b ∷ text)
unit_goes true r s b text e h known = on (at.Escape r escape.Surrogate) s text known h b (equal_of (hex_value b) 13 e)
unit_goes false r s b text e h known =
    let found = on_if (at.Escape r escape.Hex3) s (nat_lt (hex_value b) 16) text known h in
    unit_other r s b text (below_of (hex_value b) 16 found.0) (unequal_of (hex_value b) 13 e) found.1

surrogate_goes : (t : Bool) (r : Role) (s : List Open) (b c : ℕ) (text : List ℕ) → hex_value b ≡ 13 → nat_lt (hex_value c) 8 ≡ t
    → Accepts s (cond t (Some (action.To (at.Escape r escape.Hex2))) (next (nat_lt (hex_value c) 12) (at.Escape r escape.High2))) text
    → Known text → TextThen r s (92 ∷ 117 ∷ b ∷ c ∷ text)
surrogate_goes true r s b c text d e h known = unit_below r s b c text d (below_of (hex_value c) 8 e) (on (at.Escape r escape.Hex2) s text known h)
surrogate_goes false r s b c text d e h known =
    let found = on_if (at.Escape r escape.High2) s (nat_lt (hex_value c) 12) text known h in
    unit_high r s b c text d (from_of (hex_value c) 8 e) (below_of (hex_value c) 12 found.0) found.1

backslash_goes : (t : Bool) (r : Role) (s : List Open) (b : ℕ) (text : List ℕ) → (b == 117) ≡ t
    → Accepts s (cond t (Some (action.To (at.Escape r escape.Unit))) (next (is_short_escape b) (at.Text r))) text → Known text → TextThen r s (92 ∷ b ∷ text)
backslash_goes true r s b text e h known = rw (equal_of b 117 e) (on (at.Escape r escape.Unit) s text known h)
backslash_goes false r s b text e h known =
    let found = on_if (at.Text r) s (is_short_escape b) text known h in then_map found.1 (λ rest t. short found.0 t)

hex_goes : (q : Control) (s : List Open) (b : ℕ) (text : List ℕ) → Accepts s (next (nat_lt (hex_value b) 16) q) text → Known text → (hex_value b < 16) × Goes q s text
hex_goes q s b text h known = let found = on_if q s (nat_lt (hex_value b) 16) text known h in (below_of (hex_value b) 16 found.0, found.1)

-- this byte, and what is left after it
given_goes : (q : Control) (s : List Open) (b n : ℕ) (text : List ℕ) → Accepts s (next (b == n) q) text → Known text → (n ≡ b) × Goes q s text
given_goes q s b n text h known = let found = on_if q s (b == n) text known h in (sym (equal_of b n found.0), found.1)

escape_goes : (x : Escape) (r : Role) (s : List Open) (b : ℕ) (text : List ℕ) → Accepts s (at_escape r x b) text → Known text → EscapeThen r x s (b ∷ text)
escape_goes escape.Backslash r s b text h known = backslash_goes (b == 117) r s b text refl h known
escape_goes escape.Unit r s b text h known = unit_goes (hex_value b == 13) r s b text refl h known
escape_goes escape.Surrogate r s b text h known = λ a d. surrogate_goes (nat_lt (hex_value b) 8) r s a b text d refl h known
escape_goes escape.Hex3 r s b text h known = let found = hex_goes (at.Escape r escape.Hex2) s b text h known in then_map found.1 (λ rest d. a_digit found.0 d)
escape_goes escape.Hex2 r s b text h known = let found = hex_goes (at.Escape r escape.Hex1) s b text h known in then_map found.1 (λ rest d. a_digit found.0 d)
escape_goes escape.Hex1 r s b text h known = let found = hex_goes (at.Text r) s b text h known in hex_last (TextThen r s) b text found.0 found.1
escape_goes escape.High2 r s b text h known = let found = hex_goes (at.Escape r escape.High1) s b text h known in then_map found.1 (λ rest d. a_digit found.0 d)
escape_goes escape.High1 r s b text h known = let found = hex_goes (at.Escape r escape.Pair) s b text h known in hex_last (PairThen r s) b text found.0 found.1
escape_goes escape.Pair r s b text h known = let found = given_goes (at.Escape r escape.PairUnit) s b 92 text h known in rw (← found.0) found.1
escape_goes escape.PairUnit r s b text h known = let found = given_goes (at.Escape r escape.Low) s b 117 text h known in rw (← found.0) found.1
escape_goes escape.Low r s b text h known =
    let found = on_if (at.Escape r escape.LowSecond) s (hex_value b == 13) text known h in found.1 b (equal_of (hex_value b) 13 found.0)
escape_goes escape.LowSecond r s b text h known =
    λ a d.
    let found = on_if (at.Escape r escape.Hex2) s (nat_le 12 (hex_value b) && nat_lt (hex_value b) 16) text known h in
    let bounds = low_of (hex_value b) found.0 in pair_low r s a b text d bounds.0 bounds.1 found.1

-- ---- literals

letter : (s : List Open) (b n : ℕ) (word text : List ℕ) → n ≡ b → LettersThen s word text → LettersThen s (n ∷ word) (b ∷ text)
letter s b n word _ e (letters_then q) = rw (← e) (letters_then q)

letter_goes : (x : Literal) (s : List Open) (b n : ℕ) (text : List ℕ) → Accepts s (next (b == n) (at.Literal x)) text → Known text → LettersThen s (n ∷ letters x) (b ∷ text)
letter_goes x s b n text h known = let found = given_goes (at.Literal x) s b n text h known in letter s b n (letters x) text found.0 found.1

last_letter : (s : List Open) (b n : ℕ) (text : List ℕ) → Accepts s (next (b == n) at.End) text → Known text → LettersThen s (n ∷ []) (b ∷ text)
last_letter s b n text h known = let found = given_goes at.End s b n text h known in rw (← found.0) (letters_then found.1)

literal_goes : (x : Literal) (s : List Open) (b : ℕ) (text : List ℕ) → Accepts s (at_literal x b) text → Known text → LettersThen s (letters x) (b ∷ text)
literal_goes literal.Rue s b text h known = letter_goes literal.Ue s b 114 text h known
literal_goes literal.Ue s b text h known = letter_goes literal.E s b 117 text h known
literal_goes literal.Alse s b text h known = letter_goes literal.Lse s b 97 text h known
literal_goes literal.Lse s b text h known = letter_goes literal.Se s b 108 text h known
literal_goes literal.Se s b text h known = letter_goes literal.E s b 115 text h known
literal_goes literal.Ull s b text h known = letter_goes literal.Ll s b 117 text h known
literal_goes literal.Ll s b text h known = letter_goes literal.L s b 108 text h known
literal_goes literal.E s b text h known = last_letter s b 101 text h known
literal_goes literal.L s b text h known = last_letter s b 108 text h known

-- ---- numbers

fraction_of : (s : List Open) (text : List ℕ) → NumberThen num.Point s text → Then HasFraction (AfterValue s) (46 ∷ text)
fraction_of s text (both m (both x q)) = both (fraction m x) q

-- a zero or another digit
more_digits : (x : Sign) (Q : List ℕ → Type 0) (b : ℕ) (text : List ℕ) → digit_sign x ≡ true → sign_of b ≡ x → Then HasDigits Q text → Then HasDigits Q (b ∷ text)
more_digits x Q b text i e q = then_map q (λ rest m. digit (digits b (ap digit_sign e ∙ i)) m)

some_digits : (x : Sign) (Q : List ℕ → Type 0) (b : ℕ) (text : List ℕ) → digit_sign x ≡ true → sign_of b ≡ x → Then HasDigits Q text → Then HasSome Q (b ∷ text)
some_digits x Q b text i e q = then_map q (λ rest m. some (digits b (ap digit_sign e ∙ i)) m)

power_goes : (x : Sign) (s : List Open) (b : ℕ) (text : List ℕ) → sign_of b ≡ x → Accepts s (at_number num.Power (head_of s) x) text → Known text → NumberThen num.Power s (b ∷ text)
power_goes sign.Zero s b text e h known = more_digits sign.Zero (AfterValue s) b text refl e (on (at.Number num.Power) s text known h)
power_goes sign.Digit s b text e h known = more_digits sign.Digit (AfterValue s) b text refl e (on (at.Number num.Power) s text known h)
power_goes x s b text e h known = both no_more (end_goes x s b text e h known)

fraction_goes : (x : Sign) (s : List Open) (b : ℕ) (text : List ℕ) → sign_of b ≡ x → Accepts s (at_number num.Fraction (head_of s) x) text → Known text
    → NumberThen num.Fraction s (b ∷ text)
fraction_goes sign.Zero s b text e h known = more_digits sign.Zero (Then HasExponent (AfterValue s)) b text refl e (on (at.Number num.Fraction) s text known h)
fraction_goes sign.Digit s b text e h known = more_digits sign.Digit (Then HasExponent (AfterValue s)) b text refl e (on (at.Number num.Fraction) s text known h)
fraction_goes sign.Exponent s b text e h known = both no_more (on (at.Number num.Exponent) s text known h b (exponents b (ap exponent_sign e)))
fraction_goes x s b text e h known = both no_more (both no_exponent (end_goes x s b text e h known))

zero_goes : (x : Sign) (s : List Open) (b : ℕ) (text : List ℕ) → sign_of b ≡ x → Accepts s (after_zero (head_of s) x) text → Known text → NumberThen num.Zero s (b ∷ text)
zero_goes sign.Dot s b text e h known = rw (byte_of sign.Dot b e refl) (fraction_of s text (on (at.Number num.Point) s text known h))
zero_goes sign.Exponent s b text e h known = then_map (on (at.Number num.Exponent) s text known h b (exponents b (ap exponent_sign e))) (λ rest x. no_fraction x)
zero_goes x s b text e h known = both (no_fraction no_exponent) (end_goes x s b text e h known)

whole_goes : (x : Sign) (s : List Open) (b : ℕ) (text : List ℕ) → sign_of b ≡ x → Accepts s (at_number num.Whole (head_of s) x) text → Known text → NumberThen num.Whole s (b ∷ text)
whole_goes sign.Zero s b text e h known = more_digits sign.Zero (Then HasFraction (AfterValue s)) b text refl e (on (at.Number num.Whole) s text known h)
whole_goes sign.Digit s b text e h known = more_digits sign.Digit (Then HasFraction (AfterValue s)) b text refl e (on (at.Number num.Whole) s text known h)
whole_goes x s b text e h known = both no_more (zero_goes x s b text e h known)

minus_whole : (s : List Open) (b : ℕ) (text : List ℕ) → is_ascii_digit b ≡ true → b ≢ 48 → NumberThen num.Whole s text → NumberThen num.Minus s (b ∷ text)
minus_whole s b text d n (both m (both f q)) = both (whole d n m f) q

minus_goes : (x : Sign) (s : List Open) (b : ℕ) (text : List ℕ) → sign_of b ≡ x → Accepts s (at_number num.Minus (head_of s) x) text → Known text → NumberThen num.Minus s (b ∷ text)
minus_goes sign.Zero s b text e h known = rw (byte_of sign.Zero b e refl) (then_map (on (at.Number num.Zero) s text known h) (λ rest f. zero f))
minus_goes sign.Digit s b text e h known =
    minus_whole s b text (digits b (ap digit_sign e)) (nonzeros b (ap nonzero_sign e)) (on (at.Number num.Whole) s text known h)
minus_goes _ s b text e h known = cc

first_goes : (n : Number) (Q : List ℕ → Type 0) (x : Sign) (s : List Open) (b : ℕ) (text : List ℕ) → sign_of b ≡ x → (NumberThen n s text → Then HasDigits Q text)
    → Accepts s (first_digit n x) text → Known text → Then HasSome Q (b ∷ text)
first_goes n Q sign.Zero s b text e f h known = some_digits sign.Zero Q b text refl e (f (on (at.Number n) s text known h))
first_goes n Q sign.Digit s b text e f h known = some_digits sign.Digit Q b text refl e (f (on (at.Number n) s text known h))
first_goes n Q _ s b text e f h known = cc

exponent_goes : (x : Sign) (s : List Open) (b : ℕ) (text : List ℕ) → sign_of b ≡ x → Accepts s (at_number num.Exponent (head_of s) x) text → Known text → NumberThen num.Exponent s (b ∷ text)
exponent_goes sign.Plus s b text e h known = λ a i. then_map (on (at.Number num.Sign) s text known h) (λ rest m. signed i (inl (byte_of sign.Plus b e refl)) m)
exponent_goes sign.Minus s b text e h known = λ a i. then_map (on (at.Number num.Sign) s text known h) (λ rest m. signed i (inr (byte_of sign.Minus b e refl)) m)
exponent_goes x s b text e h known = λ a i. then_map (first_goes num.Power (AfterValue s) x s b text e (λ q. q) h known) (λ rest m. unsigned i m)

number_goes : (n : Number) (s : List Open) (b : ℕ) (text : List ℕ) → Accepts s (at_number n (head_of s) (sign_of b)) text → Known text → NumberThen n s (b ∷ text)
number_goes num.Minus s b text h known = minus_goes (sign_of b) s b text refl h known
number_goes num.Zero s b text h known = zero_goes (sign_of b) s b text refl h known
number_goes num.Whole s b text h known = whole_goes (sign_of b) s b text refl h known
number_goes num.Point s b text h known = first_goes num.Fraction (Then HasExponent (AfterValue s)) (sign_of b) s b text refl (λ q. q) h known
number_goes num.Fraction s b text h known = fraction_goes (sign_of b) s b text refl h known
number_goes num.Exponent s b text h known = exponent_goes (sign_of b) s b text refl h known
number_goes num.Sign s b text h known = first_goes num.Power (AfterValue s) (sign_of b) s b text refl (λ q. q) h known
number_goes num.Power s b text h known = power_goes (sign_of b) s b text refl h known

-- ---- the whole text

byte_goes : (q : Control) (s : List Open) (b : ℕ) (text : List ℕ) → Accepts s (after q (head_of s) b) text → Known text → Goes q s (b ∷ text)
byte_goes at.Value s b text h known = value_goes (sign_of b) s b text refl h known
byte_goes at.Item (open_.Array ∷ s) b text h known = item_goes (sign_of b) s b text refl h known
byte_goes at.Member (open_.Object ∷ s) b text h known = member_goes (sign_of b) s b text refl h known
byte_goes at.Key (open_.Object ∷ s) b text h known = key_goes (sign_of b) s b text refl h known
byte_goes at.Colon s b text h known = colon_goes (sign_of b) s b text refl h known
byte_goes at.End s b text h known = end_goes (sign_of b) s b text refl h known
byte_goes (at.Text r) s b text h known = text_goes (sign_of b) r s b text refl h known
byte_goes (at.Escape r x) s b text h known = escape_goes x r s b text h known
byte_goes (at.Literal x) s b text h known = literal_goes x s b text h known
byte_goes (at.Number n) s b text h known = number_goes n s b text h known
byte_goes _ _ b text h known = tt

-- a text ends where a value may end and nothing is open
ended_so : (o : Option Open) (q : Control) → cond {A = Option ℕ} (is_empty o && ends_value q) None (Some 0) ≡ None → (o ≡ None) × (ends_value q ≡ true)
ended_so None q h = (refl, true_so (ends_value q) h)
  where
    true_so : (t : Bool) → cond {A = Option ℕ} t None (Some 0) ≡ None → t ≡ true
    true_so true h = refl
    true_so false h = cc
ended_so (Some o) q h = cc

number_ends : (n : Number) → ends_value (at.Number n) ≡ true → NumberThen n [] []
number_ends num.Zero h = both (no_fraction no_exponent) (done no_space)
number_ends num.Whole h = both no_more (both (no_fraction no_exponent) (done no_space))
number_ends num.Fraction h = both no_more (both no_exponent (done no_space))
number_ends num.Power h = both no_more (done no_space)
number_ends _ h = cc

control_ends : (q : Control) → ends_value q ≡ true → Goes q [] []
control_ends at.End h = done no_space
control_ends (at.Number n) h = number_ends n h
control_ends _ h = cc

end_of_text : (q : Control) (s : List Open) → mistake step ends (config_at q s) [] ≡ None → Goes q s []
unfolding mistake
end_of_text q [] h = control_ends q (ended_so None q h).1
end_of_text q (o ∷ s) h = cc

all_goes : (text : List ℕ) (q : Control) (s : List Open) → mistake step ends (config_at q s) text ≡ None → Goes q s text
unfolding mistake
all_goes [] q s h = end_of_text q s h
all_goes (b ∷ text) q s h = byte_goes q s b text h (all_goes text)

whole_text : (text : List ℕ) → ValueThen [] text → IsElement text
whole_text text (value_then p v (done q)) = element p v q

-- what the machine accepts is JSON
pub json_within : (text : List ℕ) → json_mistake text ≡ None → IsElement text
json_within text h = whole_text text (all_goes text at.Value [] h)
