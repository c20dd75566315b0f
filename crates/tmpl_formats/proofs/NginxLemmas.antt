-- What the machine for configuration files of nginx accepts is one.
use Rattle.std.proofs.Common.{◌≡◌, ◌≢◌, inl, inr, ℕ, suc, ◌+◌, ◌-◌, ◌^◌, ◌==◌, Bool, true, false, cond, ◌&&◌, List, [], ◌∷◌, Option, Some, None, arith, refl, ◌∙◌, ap, add-one}
use Rattle.std.proofs.lemmas.Grind.{common_steps}
use Rattle.std.specs.List.{list_all}
use Rattle.std.specs.Prelude.{nat_lt, not}
use Rattle.tmpl_formats.proofs.MachineLemmas.{went, passes-cons, Then, both, then_map}
use Rattle.tmpl_formats.specs.Nginx.{is_gap, is_inner, is_first, is_comment, HasComment, newline, plain, HasBraces, no_brace, a_brace, HasInner, no_more, inner, escaped, dollar, HasQuoted, close, inside, inside_escaped, IsQuote, HasWord, bare, bare_escaped, bare_dollar, quoted, parenthesis, HasTail, ends as tail_ends, gap, HasMore, no_word, space, comment, word, HasBody, body_end, body_space, body_comment, last_comment, simple, block, IsNginx}
use Rattle.tmpl_formats.specs.computed.Nginx.{sign_of, config_at, to, opened, at_word, at_tail, in_word, unless_null, after_sign, step, ends, ends_at, nginx_mistake}
use Rattle.tmpl_formats.specs.computed.Machine.{mistake, after_step}
use Rattle.tmpl_formats.specs.declared.nginx.Control.{Control}
use Rattle.tmpl_formats.specs.declared.nginx.Control.TheVariants as at
use Rattle.tmpl_formats.specs.declared.nginx.Nginx.{Nginx}
use Rattle.tmpl_formats.specs.declared.nginx.Sign.{Sign}
use Rattle.tmpl_formats.specs.declared.nginx.Sign.TheVariants as sign

-- ---- which kinds pass a test

abbrev code_of : Sign → ℕ
code_of sign.Newline = 10
code_of sign.Semicolon = 59
code_of sign.Open = 123
code_of sign.Close = 125
code_of sign.Hash = 35
code_of sign.Double = 34
code_of sign.Single = 39
code_of sign.Backslash = 92
code_of sign.Dollar = 36
code_of sign.Parenthesis = 41
code_of _ = 0

abbrev is_code : Sign → Bool
is_code s = not (code_of s == 0)

codes_of : (b : ℕ) → is_code (sign_of b) ≡ true → b ≡ code_of (sign_of b)
codes_of b = grind (arith, common_steps)

-- the byte of a kind that has one
byte_of : (s : Sign) (b : ℕ) → sign_of b ≡ s → is_code s ≡ true → b ≡ code_of s
byte_of s b e i = codes_of b (ap is_code e ∙ i) ∙ ap code_of e

abbrev gap_sign : Sign → Bool
gap_sign sign.Newline = true
gap_sign sign.Gap = true
gap_sign _ = false

abbrev inner_sign : Sign → Bool
inner_sign sign.Null = false
inner_sign sign.Newline = false
inner_sign sign.Gap = false
inner_sign sign.Semicolon = false
inner_sign sign.Open = false
inner_sign sign.Backslash = false
inner_sign sign.Dollar = false
inner_sign _ = true

abbrev first_sign : Sign → Bool
first_sign sign.Parenthesis = true
first_sign sign.Other = true
first_sign _ = false

abbrev comment_sign : Sign → Bool
comment_sign sign.Null = false
comment_sign sign.Newline = false
comment_sign _ = true

abbrev some_sign : Sign → Bool
some_sign sign.Null = false
some_sign _ = true

abbrev double_sign : Sign → Bool
double_sign sign.Null = false
double_sign sign.Double = false
double_sign sign.Backslash = false
double_sign _ = true

abbrev single_sign : Sign → Bool
single_sign sign.Null = false
single_sign sign.Single = false
single_sign sign.Backslash = false
single_sign _ = true

gaps : (b : ℕ) → gap_sign (sign_of b) ≡ true → is_gap b ≡ true
gaps b = grind (arith, common_steps)

inners : (b : ℕ) → inner_sign (sign_of b) ≡ true → is_inner b ≡ true
inners b = grind (arith, common_steps)

firsts : (b : ℕ) → first_sign (sign_of b) ≡ true → is_first b ≡ true
firsts b = grind (arith, common_steps)

comments : (b : ℕ) → comment_sign (sign_of b) ≡ true → is_comment b ≡ true
comments b = grind (arith, common_steps)

somes : (b : ℕ) → some_sign (sign_of b) ≡ true → not (b == 0) ≡ true
somes b = grind (arith, common_steps)

doubles : (b : ℕ) → double_sign (sign_of b) ≡ true → (not (b == 0) && not (b == 92) && not (b == 34)) ≡ true
doubles b = grind (arith, common_steps)

singles : (b : ℕ) → single_sign (sign_of b) ≡ true → (not (b == 0) && not (b == 92) && not (b == 39)) ≡ true
singles b = grind (arith, common_steps)

-- ---- what is left, with this many blocks open

data BodyThen : ℕ → List ℕ → Type 0 where
  whole : {text : List ℕ} → HasBody text [] → BodyThen 0 text
  within : {depth : ℕ} {text more : List ℕ} → HasBody text (125 ∷ more) → BodyThen depth more → BodyThen (suc depth) text

-- at the end of a directive's words
data Stop (depth : ℕ) : List ℕ → Type 0 where
  semicolon : {more : List ℕ} → BodyThen depth more → Stop depth (59 ∷ more)
  brace : {more : List ℕ} → BodyThen (suc depth) more → Stop depth (123 ∷ more)

abbrev TailThen : ℕ → List ℕ → Type 0
TailThen depth text = Then HasTail (Stop depth) text

abbrev MoreThen : ℕ → List ℕ → Type 0
MoreThen depth text = Then HasMore (Stop depth) text

abbrev InnerThen : ℕ → List ℕ → Type 0
InnerThen depth text = Then HasInner (TailThen depth) text

data EscapedThen (Q : List ℕ → Type 0) : List ℕ → Type 0 where
  escaped_then : {b : ℕ} {text : List ℕ} → not (b == 0) ≡ true → Q text → EscapedThen Q (b ∷ text)

-- after a closing quote
data QuoteThen (depth : ℕ) : List ℕ → Type 0 where
  tail_then : {text : List ℕ} → TailThen depth text → QuoteThen depth text
  parenthesis_then : {text : List ℕ} → InnerThen depth text → QuoteThen depth (41 ∷ text)

abbrev QuotedThen : ℕ → ℕ → List ℕ → Type 0
QuotedThen quote depth text = Then (HasQuoted quote) (QuoteThen depth) text

-- before a directive, in a comment
data CommentThen (depth : ℕ) : List ℕ → Type 0 where
  comment_then : {text more : List ℕ} → HasComment text more → BodyThen depth more → CommentThen depth text
  comment_ends : {text : List ℕ} → list_all is_comment text ≡ true → depth ≡ 0 → CommentThen depth text

abbrev Goes : Control → ℕ → List ℕ → Type 0
Goes at.Start depth text = BodyThen depth text
Goes at.Gap depth text = MoreThen depth text
Goes at.Word depth text = InnerThen depth text
Goes at.Dollar depth text = Then HasBraces (InnerThen depth) text
Goes at.Escape depth text = EscapedThen (InnerThen depth) text
Goes at.Double depth text = QuotedThen 34 depth text
Goes at.DoubleEscape depth text = EscapedThen (QuotedThen 34 depth) text
Goes at.Single depth text = QuotedThen 39 depth text
Goes at.SingleEscape depth text = EscapedThen (QuotedThen 39 depth) text
Goes at.Closed depth text = QuoteThen depth text
Goes at.StartComment depth text = CommentThen depth text
Goes at.GapComment depth text = Then HasComment (MoreThen depth) text

-- ---- something before what is left

body_map : (depth : ℕ) (text more : List ℕ) → ((rest : List ℕ) → HasBody text rest → HasBody more rest) → BodyThen depth text → BodyThen depth more
body_map _ text more f (whole p) = whole (f [] p)
body_map _ text more f (within p q) = within (f _ p) q

-- what has a word, and what follows it, before a directive and after a gap
abbrev HasWordThen : ℕ → List ℕ → Type 0
HasWordThen depth text = Then HasWord (TailThen depth) text

to_body : (depth : ℕ) (text : List ℕ) → HasWordThen depth text → BodyThen depth text
to_body depth text (both w (both t (semicolon {more} q))) = body_map depth more text (λ rest p. simple w t p) q
to_body depth text (both w (both t (brace (within p q)))) = body_map depth _ text (λ rest r. block w t p r) q

to_more : (depth : ℕ) (text : List ℕ) → HasWordThen depth text → MoreThen depth text
to_more depth text (both w (both t q)) = both (word w t) q

escaped_word : (depth : ℕ) (text : List ℕ) → EscapedThen (InnerThen depth) text → HasWordThen depth (92 ∷ text)
escaped_word depth _ (escaped_then s (both i t)) = both (bare_escaped s i) t

dollar_word : (depth : ℕ) (text : List ℕ) → Then HasBraces (InnerThen depth) text → HasWordThen depth (36 ∷ text)
dollar_word depth text (both d (both i t)) = both (bare_dollar d i) t

quoted_word : (depth quote : ℕ) (text : List ℕ) → IsQuote quote → QuotedThen quote depth text → HasWordThen depth (quote ∷ text)
quoted_word depth quote text i (both q (tail_then t)) = both (quoted i q) t
quoted_word depth quote text i (both q (parenthesis_then (both n t))) = both (parenthesis i q n) t

more_comment : (depth : ℕ) (text : List ℕ) → Then HasComment (MoreThen depth) text → MoreThen depth (35 ∷ text)
more_comment depth text (both c (both m q)) = both (comment c m) q

body_hash : (depth : ℕ) (text : List ℕ) → CommentThen depth text → BodyThen depth (35 ∷ text)
body_hash depth text (comment_then {more} c q) = body_map depth more (35 ∷ text) (λ rest p. body_comment c p) q
body_hash depth text (comment_ends p e) = rw e (whole (last_comment p))

inner_escaped : (depth : ℕ) (text : List ℕ) → EscapedThen (InnerThen depth) text → InnerThen depth (92 ∷ text)
inner_escaped depth _ (escaped_then s (both n t)) = both (escaped s n) t

inner_dollar : (depth : ℕ) (text : List ℕ) → Then HasBraces (InnerThen depth) text → InnerThen depth (36 ∷ text)
inner_dollar depth text (both d (both n t)) = both (dollar d n) t

quoted_escaped : (quote depth : ℕ) (text : List ℕ) → EscapedThen (QuotedThen quote depth) text → QuotedThen quote depth (92 ∷ text)
quoted_escaped quote depth _ (escaped_then s (both q t)) = both (inside_escaped s q) t

start_comment_more : (depth b : ℕ) (text : List ℕ) → is_comment b ≡ true → CommentThen depth text → CommentThen depth (b ∷ text)
start_comment_more depth b text c (comment_then p q) = comment_then (plain c p) q
start_comment_more depth b text c (comment_ends p e) = comment_ends (passes-cons is_comment b text c p) e

-- ---- one byte more

-- the rest is accepted after a step
abbrev Accepts : Option Nginx → List ℕ → Type 0
Accepts next text = after_step (λ d. mistake step ends d text) next ≡ None

-- the rest is what is left at each place from which it is accepted
abbrev Known : List ℕ → Type 0
Known text = (q : Control) (depth : ℕ) → mistake step ends (config_at q depth) text ≡ None → Goes q depth text

on : (q : Control) (depth : ℕ) (text : List ℕ) → Known text → Accepts (Some (config_at q depth)) text → Goes q depth text
on q depth text known h = known q depth (went (λ x. mistake step ends x text) (config_at q depth) h)

on_open : (t : Bool) (depth : ℕ) (text : List ℕ) → Known text → Accepts (cond t (Some (config_at at.Start (depth + 1))) None) text → BodyThen (suc depth) text
on_open true depth text known h = rw (← add-one depth) (on at.Start (depth + 1) text known h)
on_open false depth text known h = cc

unequal_of : (m n : ℕ) → (m == n) ≡ false → m ≢ n
unequal_of m n = grind (arith, common_steps)

on_close : (t : Bool) (depth : ℕ) (text : List ℕ) → (depth == 0) ≡ t → Known text → Accepts (cond t None (Some (config_at at.Start (depth - 1)))) text
    → BodyThen depth (125 ∷ text)
on_close true depth text e known h = cc
on_close false depth text e known h =
    let some : depth ≢ 0 = unequal_of depth 0 e in
    let same : suc (depth - 1) ≡ depth = omega arith in
    rw (← same) (within body_end (on at.Start (depth - 1) text known h))

-- where a word begins
word_goes : (x : Sign) (depth b : ℕ) (text : List ℕ) → sign_of b ≡ x → Accepts (at_word depth x) text → Known text → HasWordThen depth (b ∷ text)
word_goes sign.Double depth b text e h known = rw (byte_of sign.Double b e refl) (quoted_word depth 34 text (inl refl) (on at.Double depth text known h))
word_goes sign.Single depth b text e h known = rw (byte_of sign.Single b e refl) (quoted_word depth 39 text (inr refl) (on at.Single depth text known h))
word_goes sign.Backslash depth b text e h known = rw (byte_of sign.Backslash b e refl) (escaped_word depth text (on at.Escape depth text known h))
word_goes sign.Dollar depth b text e h known = rw (byte_of sign.Dollar b e refl) (dollar_word depth text (on at.Dollar depth text known h))
word_goes sign.Parenthesis depth b text e h known = then_map (on at.Word depth text known h) (λ rest i. bare (firsts b (ap first_sign e)) i)
word_goes sign.Other depth b text e h known = then_map (on at.Word depth text known h) (λ rest i. bare (firsts b (ap first_sign e)) i)
word_goes _ depth b text e h known = cc

start_space : (x : Sign) (depth b : ℕ) (text : List ℕ) → sign_of b ≡ x → gap_sign x ≡ true → BodyThen depth text → BodyThen depth (b ∷ text)
start_space x depth b text e i q = body_map depth text (b ∷ text) (λ rest p. body_space (gaps b (ap gap_sign e ∙ i)) p) q

start_goes : (x : Sign) (depth b : ℕ) (text : List ℕ) → sign_of b ≡ x → Accepts (after_sign at.Start depth x) text → Known text → BodyThen depth (b ∷ text)
start_goes sign.Newline depth b text e h known = start_space sign.Newline depth b text e refl (on at.Start depth text known h)
start_goes sign.Gap depth b text e h known = start_space sign.Gap depth b text e refl (on at.Start depth text known h)
start_goes sign.Close depth b text e h known = rw (byte_of sign.Close b e refl) (on_close (depth == 0) depth text refl known h)
start_goes sign.Hash depth b text e h known = rw (byte_of sign.Hash b e refl) (body_hash depth text (on at.StartComment depth text known h))
start_goes x depth b text e h known = to_body depth (b ∷ text) (word_goes x depth b text e h known)

-- the end of a directive's words
semicolon_stops : (depth b : ℕ) (text : List ℕ) → sign_of b ≡ sign.Semicolon → Accepts (to at.Start depth) text → Known text → Stop depth (b ∷ text)
semicolon_stops depth b text e h known = rw (byte_of sign.Semicolon b e refl) (semicolon (on at.Start depth text known h))

brace_stops : (depth b : ℕ) (text : List ℕ) → sign_of b ≡ sign.Open → Accepts (opened depth) text → Known text → Stop depth (b ∷ text)
brace_stops depth b text e h known = rw (byte_of sign.Open b e refl) (brace (on_open (nat_lt (depth + 1) (2 ^ 64)) depth text known h))

tail_goes : (x : Sign) (depth b : ℕ) (text : List ℕ) → sign_of b ≡ x → Accepts (at_tail depth x) text → Known text → TailThen depth (b ∷ text)
tail_goes sign.Newline depth b text e h known = then_map (on at.Gap depth text known h) (λ rest m. gap (gaps b (ap gap_sign e)) m)
tail_goes sign.Gap depth b text e h known = then_map (on at.Gap depth text known h) (λ rest m. gap (gaps b (ap gap_sign e)) m)
tail_goes sign.Semicolon depth b text e h known = both tail_ends (semicolon_stops depth b text e h known)
tail_goes sign.Open depth b text e h known = both tail_ends (brace_stops depth b text e h known)
tail_goes _ depth b text e h known = cc

gap_goes : (x : Sign) (depth b : ℕ) (text : List ℕ) → sign_of b ≡ x → Accepts (after_sign at.Gap depth x) text → Known text → MoreThen depth (b ∷ text)
gap_goes sign.Newline depth b text e h known = then_map (on at.Gap depth text known h) (λ rest m. space (gaps b (ap gap_sign e)) m)
gap_goes sign.Gap depth b text e h known = then_map (on at.Gap depth text known h) (λ rest m. space (gaps b (ap gap_sign e)) m)
gap_goes sign.Semicolon depth b text e h known = both no_word (semicolon_stops depth b text e h known)
gap_goes sign.Open depth b text e h known = both no_word (brace_stops depth b text e h known)
gap_goes sign.Hash depth b text e h known = rw (byte_of sign.Hash b e refl) (more_comment depth text (on at.GapComment depth text known h))
gap_goes x depth b text e h known = to_more depth (b ∷ text) (word_goes x depth b text e h known)

inner_goes : (x : Sign) (depth b : ℕ) (text : List ℕ) → sign_of b ≡ x → Accepts (in_word depth x) text → Known text → InnerThen depth (b ∷ text)
inner_goes sign.Null depth b text e h known = cc
inner_goes sign.Newline depth b text e h known = both no_more (tail_goes sign.Newline depth b text e h known)
inner_goes sign.Gap depth b text e h known = both no_more (tail_goes sign.Gap depth b text e h known)
inner_goes sign.Semicolon depth b text e h known = both no_more (tail_goes sign.Semicolon depth b text e h known)
inner_goes sign.Open depth b text e h known = both no_more (tail_goes sign.Open depth b text e h known)
inner_goes sign.Backslash depth b text e h known = rw (byte_of sign.Backslash b e refl) (inner_escaped depth text (on at.Escape depth text known h))
inner_goes sign.Dollar depth b text e h known = rw (byte_of sign.Dollar b e refl) (inner_dollar depth text (on at.Dollar depth text known h))
inner_goes _ depth b text e h known = then_map (on at.Word depth text known h) (λ rest m. inner (inners b (ap inner_sign e)) m)

dollar_goes : (x : Sign) (depth b : ℕ) (text : List ℕ) → sign_of b ≡ x → Accepts (after_sign at.Dollar depth x) text → Known text → Then HasBraces (InnerThen depth) (b ∷ text)
dollar_goes sign.Open depth b text e h known = rw (byte_of sign.Open b e refl) (then_map (on at.Dollar depth text known h) (λ rest d. a_brace d))
dollar_goes x depth b text e h known = both no_brace (inner_goes x depth b text e h known)

escape_goes : (x : Sign) (q : Control) (depth b : ℕ) (text : List ℕ) → sign_of b ≡ x → Accepts (unless_null q depth x) text → Known text
    → EscapedThen (Goes q depth) (b ∷ text)
escape_goes sign.Null q depth b text e h known = cc
escape_goes _ q depth b text e h known = escaped_then (somes b (ap some_sign e)) (on q depth text known h)

double_goes : (x : Sign) (depth b : ℕ) (text : List ℕ) → sign_of b ≡ x → Accepts (after_sign at.Double depth x) text → Known text → QuotedThen 34 depth (b ∷ text)
double_goes sign.Null depth b text e h known = cc
double_goes sign.Double depth b text e h known = rw (byte_of sign.Double b e refl) (both close (on at.Closed depth text known h))
double_goes sign.Backslash depth b text e h known = rw (byte_of sign.Backslash b e refl) (quoted_escaped 34 depth text (on at.DoubleEscape depth text known h))
double_goes _ depth b text e h known = then_map (on at.Double depth text known h) (λ rest q. inside (doubles b (ap double_sign e)) q)

single_goes : (x : Sign) (depth b : ℕ) (text : List ℕ) → sign_of b ≡ x → Accepts (after_sign at.Single depth x) text → Known text → QuotedThen 39 depth (b ∷ text)
single_goes sign.Null depth b text e h known = cc
single_goes sign.Single depth b text e h known = rw (byte_of sign.Single b e refl) (both close (on at.Closed depth text known h))
single_goes sign.Backslash depth b text e h known = rw (byte_of sign.Backslash b e refl) (quoted_escaped 39 depth text (on at.SingleEscape depth text known h))
single_goes _ depth b text e h known = then_map (on at.Single depth text known h) (λ rest q. inside (singles b (ap single_sign e)) q)

quote_goes : (x : Sign) (depth b : ℕ) (text : List ℕ) → sign_of b ≡ x → Accepts (after_sign at.Closed depth x) text → Known text → QuoteThen depth (b ∷ text)
quote_goes sign.Parenthesis depth b text e h known = rw (byte_of sign.Parenthesis b e refl) (parenthesis_then (on at.Word depth text known h))
quote_goes x depth b text e h known = tail_then (tail_goes x depth b text e h known)

start_comment_goes : (x : Sign) (depth b : ℕ) (text : List ℕ) → sign_of b ≡ x → Accepts (after_sign at.StartComment depth x) text → Known text
    → CommentThen depth (b ∷ text)
start_comment_goes sign.Null depth b text e h known = cc
start_comment_goes sign.Newline depth b text e h known = rw (byte_of sign.Newline b e refl) (comment_then newline (on at.Start depth text known h))
start_comment_goes _ depth b text e h known = start_comment_more depth b text (comments b (ap comment_sign e)) (on at.StartComment depth text known h)

gap_comment_goes : (x : Sign) (depth b : ℕ) (text : List ℕ) → sign_of b ≡ x → Accepts (after_sign at.GapComment depth x) text → Known text
    → Then HasComment (MoreThen depth) (b ∷ text)
gap_comment_goes sign.Null depth b text e h known = cc
gap_comment_goes sign.Newline depth b text e h known = rw (byte_of sign.Newline b e refl) (both newline (on at.Gap depth text known h))
gap_comment_goes _ depth b text e h known = then_map (on at.GapComment depth text known h) (λ rest p. plain (comments b (ap comment_sign e)) p)

byte_goes : (q : Control) (depth b : ℕ) (text : List ℕ) → Accepts (after_sign q depth (sign_of b)) text → Known text → Goes q depth (b ∷ text)
byte_goes at.Start depth b text h known = start_goes (sign_of b) depth b text refl h known
byte_goes at.Gap depth b text h known = gap_goes (sign_of b) depth b text refl h known
byte_goes at.Word depth b text h known = inner_goes (sign_of b) depth b text refl h known
byte_goes at.Dollar depth b text h known = dollar_goes (sign_of b) depth b text refl h known
byte_goes at.Escape depth b text h known = escape_goes (sign_of b) at.Word depth b text refl h known
byte_goes at.Double depth b text h known = double_goes (sign_of b) depth b text refl h known
byte_goes at.DoubleEscape depth b text h known = escape_goes (sign_of b) at.Double depth b text refl h known
byte_goes at.Single depth b text h known = single_goes (sign_of b) depth b text refl h known
byte_goes at.SingleEscape depth b text h known = escape_goes (sign_of b) at.Single depth b text refl h known
byte_goes at.Closed depth b text h known = quote_goes (sign_of b) depth b text refl h known
byte_goes at.StartComment depth b text h known = start_comment_goes (sign_of b) depth b text refl h known
byte_goes at.GapComment depth b text h known = gap_comment_goes (sign_of b) depth b text refl h known

-- ---- the end

equal_of : (m n : ℕ) → (m == n) ≡ true → m ≡ n
equal_of m n = grind (arith, common_steps)

ended_so : (t u : Bool) → cond {A = Option ℕ} (t && u) None (Some 0) ≡ None → (t ≡ true) × (u ≡ true)
ended_so true true h = (refl, refl)
ended_so _ _ h = cc

control_ends : (q : Control) (depth : ℕ) → depth ≡ 0 → ends_at q ≡ true → Goes q depth []
control_ends at.Start depth d h = rw d (whole body_end)
control_ends at.StartComment depth d h = comment_ends refl d
control_ends _ depth d h = cc

all_goes : (text : List ℕ) (q : Control) (depth : ℕ) → mistake step ends (config_at q depth) text ≡ None → Goes q depth text
unfolding mistake
all_goes [] q depth h = let found = ended_so (depth == 0) (ends_at q) h in control_ends q depth (equal_of depth 0 found.0) found.1
all_goes (b ∷ text) q depth h = byte_goes q depth b text h (all_goes text)

whole_text : (text : List ℕ) → BodyThen 0 text → IsNginx text
whole_text text (whole p) = p

-- what the machine accepts is a configuration file
pub nginx_within : (text : List ℕ) → nginx_mistake text ≡ None → IsNginx text
nginx_within text h = whole_text text (all_goes text at.Start 0 h)
