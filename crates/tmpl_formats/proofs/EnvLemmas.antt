-- What the machine for environment files accepts is one.
use Rattle.std.proofs.Common.{◌≡◌, ℕ, ◌==◌, Bool, true, false, List, [], ◌∷◌, ◌++◌, Some, None, arith, refl, ◌∙◌, ap}
use Rattle.std.proofs.lemmas.Grind.{common_steps}
use Rattle.std.specs.List.{list_all}
use Rattle.std.specs.Prelude.{not, codes}
use Rattle.tmpl_formats.proofs.LineLemmas.{Left, at_last, before_more, left-cons, lines-left, left-newline}
use Rattle.tmpl_formats.proofs.MachineLemmas.{went, passes-cons}
use Rattle.tmpl_formats.specs.Env.{is_comment, is_single, is_double, is_special, is_bare, is_name_start, is_name_byte, IsDouble, nothing, plain, escape, IsValue, bare, single, double, IsLine, empty, comment, assignment, IsEnv}
use Rattle.tmpl_formats.specs.computed.Env.{sign_of, after_sign, step, ends, env_mistake}
use Rattle.tmpl_formats.specs.computed.Machine.{mistake, after_step}
use Rattle.tmpl_formats.specs.declared.env.Control.{Control}
use Rattle.tmpl_formats.specs.declared.env.Control.TheVariants as at
use Rattle.tmpl_formats.specs.declared.env.Sign.{Sign}
use Rattle.tmpl_formats.specs.declared.env.Sign.TheVariants as sign

-- ---- which kinds pass a test

abbrev code_of : Sign → ℕ
code_of sign.Newline = 10
code_of sign.Hash = 35
code_of sign.Equals = 61
code_of sign.Single = 39
code_of sign.Double = 34
code_of sign.Backslash = 92
code_of _ = 0

abbrev is_code : Sign → Bool
is_code s = not (code_of s == 0)

codes_of : (b : ℕ) → is_code (sign_of b) ≡ true → b ≡ code_of (sign_of b)
codes_of b = grind (arith, common_steps)

-- the byte of a kind that has one
byte_of : (s : Sign) (b : ℕ) → sign_of b ≡ s → is_code s ≡ true → b ≡ code_of s
byte_of s b e i = codes_of b (ap is_code e ∙ i) ∙ ap code_of e

abbrev comment_sign : Sign → Bool
comment_sign sign.Newline = false
comment_sign sign.Null = false
comment_sign sign.Backslash = false
comment_sign _ = true

abbrev single_sign : Sign → Bool
single_sign sign.Null = false
single_sign sign.Single = false
single_sign _ = true

abbrev special_sign : Sign → Bool
special_sign sign.Double = true
special_sign sign.Backslash = true
special_sign sign.Expanding = true
special_sign _ = false

abbrev double_sign : Sign → Bool
double_sign sign.Null = false
double_sign sign.Double = false
double_sign sign.Backslash = false
double_sign sign.Expanding = false
double_sign _ = true

abbrev name_start_sign : Sign → Bool
name_start_sign sign.Letter = true
name_start_sign _ = false

abbrev name_sign : Sign → Bool
name_sign sign.Letter = true
name_sign sign.Digit = true
name_sign _ = false

abbrev bare_sign : Sign → Bool
bare_sign sign.Equals = true
bare_sign sign.Plain = true
bare_sign sign.Letter = true
bare_sign sign.Digit = true
bare_sign _ = false

comments : (b : ℕ) → is_comment b ≡ comment_sign (sign_of b)
comments b = grind (arith, common_steps)

singles : (b : ℕ) → is_single b ≡ single_sign (sign_of b)
singles b = grind (arith, common_steps)

specials : (b : ℕ) → is_special b ≡ special_sign (sign_of b)
specials b = grind (arith, common_steps)

doubles : (b : ℕ) → is_double b ≡ double_sign (sign_of b)
doubles b = grind (arith, common_steps)

name_starts : (b : ℕ) → name_start_sign (sign_of b) ≡ true → is_name_start b ≡ true
name_starts b = grind (arith, common_steps)

names : (b : ℕ) → name_sign (sign_of b) ≡ true → is_name_byte b ≡ true
names b = grind (arith, common_steps)

bares : (b : ℕ) → bare_sign (sign_of b) ≡ true → is_bare b ≡ true
bares b = grind (arith, common_steps)

-- ---- what is left at each control

data NameLeft : List ℕ → Type 0 where
  name_left : (name value : List ℕ) → list_all is_name_byte name ≡ true → IsValue value → NameLeft (name ++ codes "=" ++ value)

data SingleLeft : List ℕ → Type 0 where
  single_left : (bs : List ℕ) → list_all is_single bs ≡ true → SingleLeft (bs ++ codes "'")

data DoubleLeft : List ℕ → Type 0 where
  double_left : (bs : List ℕ) → IsDouble bs → DoubleLeft (bs ++ codes "\"")

data EscapeLeft : List ℕ → Type 0 where
  escape_left : (b : ℕ) (bs : List ℕ) → is_special b ≡ true → IsDouble bs → EscapeLeft (b ∷ bs ++ codes "\"")

-- what is left of the line
abbrev LeftAt : Control → List ℕ → Type 0
LeftAt at.Start text = IsLine text
LeftAt at.Comment text = list_all is_comment text ≡ true
LeftAt at.Name text = NameLeft text
LeftAt at.Equals text = IsValue text
LeftAt at.Bare text = list_all is_bare text ≡ true
LeftAt at.Single text = SingleLeft text
LeftAt at.Double text = DoubleLeft text
LeftAt at.Escape text = EscapeLeft text
LeftAt at.Closed text = text ≡ []

abbrev Goes : Control → List ℕ → Type 0
Goes c text = Left IsLine (LeftAt c) text

-- ---- one byte more

line_ends : (c : Control) (b : ℕ) (text : List ℕ) → sign_of b ≡ sign.Newline → LeftAt c [] → Goes at.Start text → Goes c (b ∷ text)
line_ends c b text e p rest = rw (byte_of sign.Newline b e refl) (left-newline text p rest)

name_more : (b : ℕ) (text : List ℕ) → is_name_byte b ≡ true → NameLeft text → NameLeft (b ∷ text)
name_more b _ e (name_left name value n v) = name_left (b ∷ name) value (passes-cons is_name_byte b name e n) v

name_ends : (b : ℕ) (text : List ℕ) → b ≡ 61 → IsValue text → NameLeft (b ∷ text)
name_ends b text e v = rw e (name_left [] text refl v)

name_starts_line : (b : ℕ) (text : List ℕ) → is_name_start b ≡ true → NameLeft text → IsLine (b ∷ text)
name_starts_line b _ e (name_left name value n v) = assignment name value e n v

comment_line : (b : ℕ) (text : List ℕ) → b ≡ 35 → list_all is_comment text ≡ true → IsLine (b ∷ text)
comment_line b text e p = rw e (comment p)

single_value : (b : ℕ) (text : List ℕ) → b ≡ 39 → SingleLeft text → IsValue (b ∷ text)
single_value b _ e (single_left bs p) = rw e (single bs p)

single_more : (b : ℕ) (text : List ℕ) → is_single b ≡ true → SingleLeft text → SingleLeft (b ∷ text)
single_more b _ e (single_left bs p) = single_left (b ∷ bs) (passes-cons is_single b bs e p)

single_ends : (b : ℕ) (text : List ℕ) → b ≡ 39 → text ≡ [] → SingleLeft (b ∷ text)
single_ends b text e p = rw (e, p) (single_left [] refl)

double_value : (b : ℕ) (text : List ℕ) → b ≡ 34 → DoubleLeft text → IsValue (b ∷ text)
double_value b _ e (double_left bs p) = rw e (double bs p)

double_more : (b : ℕ) (text : List ℕ) → is_double b ≡ true → DoubleLeft text → DoubleLeft (b ∷ text)
double_more b _ e (double_left bs p) = double_left (b ∷ bs) (plain e p)

double_ends : (b : ℕ) (text : List ℕ) → b ≡ 34 → text ≡ [] → DoubleLeft (b ∷ text)
double_ends b text e p = rw (e, p) (double_left [] nothing)

double_escape : (b : ℕ) (text : List ℕ) → b ≡ 92 → EscapeLeft text → DoubleLeft (b ∷ text)
double_escape b _ e (escape_left c bs s p) = rw e (double_left (92 ∷ c ∷ bs) (escape s p))

escape_more : (b : ℕ) (text : List ℕ) → is_special b ≡ true → DoubleLeft text → EscapeLeft (b ∷ text)
escape_more b _ e (double_left bs p) = escape_left b bs e p

-- the rest is accepted after a step
abbrev Accepts : Control → Sign → List ℕ → Type 0
Accepts c s text = after_step (λ d. mistake step ends d text) (after_sign c s) ≡ None

-- the rest is what is left at each control from which it is accepted
abbrev Known : List ℕ → Type 0
Known text = (d : Control) → mistake step ends d text ≡ None → Goes d text

on : (d : Control) (text : List ℕ) → Known text → after_step (λ d. mistake step ends d text) (Some d) ≡ None → Goes d text
on d text known h = known d (went (λ x. mistake step ends x text) d h)

at_start : (s : Sign) (b : ℕ) (text : List ℕ) → sign_of b ≡ s → Accepts at.Start s text → Known text → Goes at.Start (b ∷ text)
at_start sign.Newline b text e h known = line_ends at.Start b text e empty (on at.Start text known h)
at_start sign.Hash b text e h known = left-cons b text (λ t p. comment_line b t (byte_of sign.Hash b e refl) p) (on at.Comment text known h)
at_start sign.Letter b text e h known = left-cons b text (λ t p. name_starts_line b t (name_starts b (ap name_start_sign e)) p) (on at.Name text known h)
at_start _ b text e h known = cc

at_comment : (s : Sign) (b : ℕ) (text : List ℕ) → sign_of b ≡ s → Accepts at.Comment s text → Known text → Goes at.Comment (b ∷ text)
at_comment sign.Newline b text e h known = line_ends at.Comment b text e refl (on at.Start text known h)
at_comment sign.Null b text e h known = cc
at_comment sign.Backslash b text e h known = cc
at_comment _ b text e h known = left-cons b text (λ t p. passes-cons is_comment b t (comments b ∙ ap comment_sign e) p) (on at.Comment text known h)

at_name : (s : Sign) (b : ℕ) (text : List ℕ) → sign_of b ≡ s → Accepts at.Name s text → Known text → Goes at.Name (b ∷ text)
at_name sign.Equals b text e h known = left-cons b text (λ t p. name_ends b t (byte_of sign.Equals b e refl) p) (on at.Equals text known h)
at_name sign.Letter b text e h known = left-cons b text (λ t p. name_more b t (names b (ap name_sign e)) p) (on at.Name text known h)
at_name sign.Digit b text e h known = left-cons b text (λ t p. name_more b t (names b (ap name_sign e)) p) (on at.Name text known h)
at_name _ b text e h known = cc

bare_more : (s : Sign) (b : ℕ) (text : List ℕ) → bare_sign s ≡ true → sign_of b ≡ s → Goes at.Bare text → Goes at.Bare (b ∷ text)
bare_more s b text i e rest = left-cons b text (λ t p. passes-cons is_bare b t (bares b (ap bare_sign e ∙ i)) p) rest

at_bare : (s : Sign) (b : ℕ) (text : List ℕ) → sign_of b ≡ s → Accepts at.Bare s text → Known text → Goes at.Bare (b ∷ text)
at_bare sign.Newline b text e h known = line_ends at.Bare b text e refl (on at.Start text known h)
at_bare sign.Equals b text e h known = bare_more sign.Equals b text refl e (on at.Bare text known h)
at_bare sign.Plain b text e h known = bare_more sign.Plain b text refl e (on at.Bare text known h)
at_bare sign.Letter b text e h known = bare_more sign.Letter b text refl e (on at.Bare text known h)
at_bare sign.Digit b text e h known = bare_more sign.Digit b text refl e (on at.Bare text known h)
at_bare _ b text e h known = cc

-- a value without quotes is a value
bare_value : (text : List ℕ) → Goes at.Bare text → Goes at.Equals text
bare_value _ (at_last p) = at_last (bare p)
bare_value _ (before_more rest others p ls) = before_more rest others (bare p) ls

at_equals : (s : Sign) (b : ℕ) (text : List ℕ) → sign_of b ≡ s → Accepts at.Equals s text → Known text → Goes at.Equals (b ∷ text)
at_equals sign.Single b text e h known = left-cons b text (λ t p. single_value b t (byte_of sign.Single b e refl) p) (on at.Single text known h)
at_equals sign.Double b text e h known = left-cons b text (λ t p. double_value b t (byte_of sign.Double b e refl) p) (on at.Double text known h)
at_equals s b text e h known = bare_value (b ∷ text) (at_bare s b text e h known)

at_single : (s : Sign) (b : ℕ) (text : List ℕ) → sign_of b ≡ s → Accepts at.Single s text → Known text → Goes at.Single (b ∷ text)
at_single sign.Null b text e h known = cc
at_single sign.Single b text e h known = left-cons b text (λ t p. single_ends b t (byte_of sign.Single b e refl) p) (on at.Closed text known h)
at_single _ b text e h known = left-cons b text (λ t p. single_more b t (singles b ∙ ap single_sign e) p) (on at.Single text known h)

at_double : (s : Sign) (b : ℕ) (text : List ℕ) → sign_of b ≡ s → Accepts at.Double s text → Known text → Goes at.Double (b ∷ text)
at_double sign.Null b text e h known = cc
at_double sign.Expanding b text e h known = cc
at_double sign.Double b text e h known = left-cons b text (λ t p. double_ends b t (byte_of sign.Double b e refl) p) (on at.Closed text known h)
at_double sign.Backslash b text e h known = left-cons b text (λ t p. double_escape b t (byte_of sign.Backslash b e refl) p) (on at.Escape text known h)
at_double _ b text e h known = left-cons b text (λ t p. double_more b t (doubles b ∙ ap double_sign e) p) (on at.Double text known h)

at_escape : (s : Sign) (b : ℕ) (text : List ℕ) → sign_of b ≡ s → Accepts at.Escape s text → Known text → Goes at.Escape (b ∷ text)
at_escape sign.Double b text e h known = left-cons b text (λ t p. escape_more b t (specials b ∙ ap special_sign e) p) (on at.Double text known h)
at_escape sign.Backslash b text e h known = left-cons b text (λ t p. escape_more b t (specials b ∙ ap special_sign e) p) (on at.Double text known h)
at_escape sign.Expanding b text e h known = left-cons b text (λ t p. escape_more b t (specials b ∙ ap special_sign e) p) (on at.Double text known h)
at_escape _ b text e h known = cc

at_closed : (s : Sign) (b : ℕ) (text : List ℕ) → sign_of b ≡ s → Accepts at.Closed s text → Known text → Goes at.Closed (b ∷ text)
at_closed sign.Newline b text e h known = line_ends at.Closed b text e refl (on at.Start text known h)
at_closed _ b text e h known = cc

at_byte : (c : Control) (b : ℕ) (text : List ℕ) → Accepts c (sign_of b) text → Known text → Goes c (b ∷ text)
at_byte at.Start b text h known = at_start (sign_of b) b text refl h known
at_byte at.Comment b text h known = at_comment (sign_of b) b text refl h known
at_byte at.Name b text h known = at_name (sign_of b) b text refl h known
at_byte at.Equals b text h known = at_equals (sign_of b) b text refl h known
at_byte at.Bare b text h known = at_bare (sign_of b) b text refl h known
at_byte at.Single b text h known = at_single (sign_of b) b text refl h known
at_byte at.Double b text h known = at_double (sign_of b) b text refl h known
at_byte at.Escape b text h known = at_escape (sign_of b) b text refl h known
at_byte at.Closed b text h known = at_closed (sign_of b) b text refl h known

at_end : (c : Control) → mistake step ends c [] ≡ None → Goes c []
unfolding mistake
at_end at.Start h = at_last empty
at_end at.Comment h = at_last refl
at_end at.Equals h = at_last (bare refl)
at_end at.Bare h = at_last refl
at_end at.Closed h = at_last refl
at_end _ h = cc

left_at : (text : List ℕ) (c : Control) → mistake step ends c text ≡ None → Goes c text
unfolding mistake
left_at [] c h = at_end c h
left_at (b ∷ text) c h = at_byte c b text h (left_at text)

-- what the machine accepts is an environment file
pub env_within : (text : List ℕ) → env_mistake text ≡ None → IsEnv text
env_within text h = lines-left text (left_at text at.Start h)
