-- What is left of a text at each control of the machine for YAML.
use Rattle.std.proofs.Common.{◌≡◌, ◌≤◌, ◌<◌, ℕ, zero, suc, ◌+◌, ◌-◌, ◌*◌, ◌^◌, ◌==◌, Bool, true, false, cond, ◌&&◌, ◌||◌, List, [], ◌∷◌, ◌++◌, length, take, drop, Option, Some, None, slice_get, bytes_eq, arith, refl, sym, ◌∙◌, ap, add-one, nat_lt, nat_le, append_assoc, take-append-drop, take_all, le_refl}
use Rattle.std.proofs.lemmas.Grind.{common_steps}
use Rattle.std.proofs.lemmas.Slice.Eq.{bytes_eq-Decides}
use Rattle.std.specs.List.{list_all}
use Rattle.std.specs.Prelude.{not, option_and_then}
use Rattle.tmpl_formats.proofs.MachineLemmas.{Then, both, then_map}
use Rattle.tmpl_formats.proofs.YamlNestLemmas.{Left, Fits, happened_fits, tokens_of}
use Rattle.tmpl_formats.specs.Yaml.{HasLine, line_end, a_byte, HasBlank, blank_end, a_space, HasHeader, clipped, chomped, spaces, HasLines, no_line, blank, line, HasBlock, empty, first_blank, first_line, IsGap, gap_end, gap_space, is_flow, takes_values, takes_keys, parent_of, after_key, after_value, MayFollow, opening, closing, HasTokens, newline, space, comment, marker, item, key, quoted_key, scalar, block, open_, comma, close, close_last}
use Rattle.tmpl_formats.specs.YamlScalar.{is_start, passes, may_follow, is_sign, is_plain, is_escape, digits_after, is_character, HasDigits, complete, digit, HasDouble, close_double, plain_double, escape, coded, HasSingle, close_single, plain_single, doubled, HasQuoted, double, single, HasScalar, plain, quoted}
use Rattle.tmpl_formats.specs.Hex.{hex_value}
use Rattle.tmpl_formats.specs.computed.YamlScalar.{starts_well, is_scalar, is_spaced_scalar, is_name}
use Rattle.tmpl_formats.specs.computed.Yaml.{written}
use Rattle.tmpl_formats.specs.computed.YamlLine.{sign_of, spot_at, to, move_to, next_column, next_spot, at_gap, at_next_gap, begin, lead, at_node, at_flow, on_line, at_place, after_flow_scalar, after_scalar, key_if, is_margin, after_dash, after_dashes, after_closed, in_comment, more_plain, ends_entry, value_if, after_plain, after_colon, after_space, after_digit, in_single, at_quoted_colon, after_quoted, after_quote, at_header_end, in_block, before_indent, in_indent, in_text, move_of}
use Rattle.tmpl_formats.specs.computed.YamlNest.{Nest, nest_at, happened, is_in_brackets}
use Rattle.tmpl_formats.specs.declared.yaml_nest.Bracket.{Bracket}
use Rattle.tmpl_formats.specs.declared.yaml_nest.Bracket.TheVariants as bracket
use Rattle.tmpl_formats.specs.declared.yaml_nest.Event.{Event}
use Rattle.tmpl_formats.specs.declared.yaml_nest.Event.TheVariants as event
use Rattle.tmpl_formats.specs.declared.yaml_nest.Expects.TheVariants as expects
use Rattle.tmpl_formats.specs.declared.yaml_nest.Token.{Token}
use Rattle.tmpl_formats.specs.declared.yaml_nest.Token.TheVariants as token
use Rattle.tmpl_formats.specs.declared.yaml_line.Control.{Control}
use Rattle.tmpl_formats.specs.declared.yaml_line.Control.TheVariants as at
use Rattle.tmpl_formats.specs.declared.yaml_line.Move.{Move}
use Rattle.tmpl_formats.specs.declared.yaml_line.Place.{Place}
use Rattle.tmpl_formats.specs.declared.yaml_line.Place.TheVariants as place
use Rattle.tmpl_formats.specs.declared.yaml_line.Sign.{Sign}
use Rattle.tmpl_formats.specs.declared.yaml_line.Sign.TheVariants as sign
use Rattle.tmpl_formats.specs.declared.yaml_line.Spot.{Spot}
use Rattle.tmpl_formats.specs.declared.yaml_line.Write.TheVariants as writes

-- ---- bytes of a kind

abbrev code_of : Sign → ℕ
code_of sign.Newline = 10
code_of sign.Space = 32
code_of sign.Hash = 35
code_of sign.Dash = 45
code_of sign.Colon = 58
code_of sign.Comma = 44
code_of sign.Double = 34
code_of sign.Single = 39
code_of (sign.Open k) = opening k
code_of (sign.Close k) = closing k
code_of _ = 0

abbrev is_code : Sign → Bool
is_code (sign.Open k) = true
is_code (sign.Close k) = true
is_code s = not (code_of s == 0)

same_of : (a b : ℕ) → (a == b) ≡ true → a ≡ b
same_of a b = grind (arith, common_steps)

no_code : (b : ℕ) {n : ℕ} → false ≡ true → b ≡ n
no_code b e = cc

pick : (t : Bool) (b : ℕ) (x y : Sign) → (t ≡ true → is_code x ≡ true → b ≡ code_of x) → (is_code y ≡ true → b ≡ code_of y) → is_code (cond t x y) ≡ true
    → b ≡ code_of (cond t x y)
pick true b x y f g i = f refl i
pick false b x y f g i = g i

codes_of : (b : ℕ) → is_code (sign_of b) ≡ true → b ≡ code_of (sign_of b)
codes_of b =
    pick (b == 10) b sign.Newline _ (λ e i. same_of b 10 e)
    (pick (b == 32) b sign.Space _ (λ e i. same_of b 32 e)
    (pick (b == 35) b sign.Hash _ (λ e i. same_of b 35 e)
    (pick (b == 45) b sign.Dash _ (λ e i. same_of b 45 e)
    (pick (b == 58) b sign.Colon _ (λ e i. same_of b 58 e)
    (pick (b == 44) b sign.Comma _ (λ e i. same_of b 44 e)
    (pick (b == 34) b sign.Double _ (λ e i. same_of b 34 e)
    (pick (b == 39) b sign.Single _ (λ e i. same_of b 39 e)
    (pick (b == 124 || b == 62) b sign.Mark _ (λ e i. no_code b i)
    (pick (b == 91) b (sign.Open bracket.List) _ (λ e i. same_of b 91 e)
    (pick (b == 123) b (sign.Open bracket.Map) _ (λ e i. same_of b 123 e)
    (pick (b == 93) b (sign.Close bracket.List) _ (λ e i. same_of b 93 e)
    (pick (b == 125) b (sign.Close bracket.Map) _ (λ e i. same_of b 125 e)
    (pick (b == 43 || b == 46) b sign.Lead _ (λ e i. no_code b i)
    (pick (is_start b) b sign.Start sign.Other (λ e i. no_code b i) (λ i. no_code b i)))))))))))))))

-- the byte of a kind that has one
byte_of : (s : Sign) (b : ℕ) → sign_of b ≡ s → is_code s ≡ true → b ≡ code_of s
byte_of s b e i = codes_of b (ap is_code e ∙ i) ∙ ap code_of e

abbrev mark_sign : Sign → Bool
mark_sign sign.Mark = true
mark_sign _ = false

marks : (b : ℕ) → mark_sign (sign_of b) ≡ true → (b == 124 || b == 62) ≡ true
marks b = grind (arith, common_steps)

abbrev line_sign : Sign → Bool
line_sign sign.Newline = false
line_sign _ = true

no_newlines : (b : ℕ) → line_sign (sign_of b) ≡ true → not (b == 10) ≡ true
no_newlines b = grind (arith, common_steps)

abbrev single_sign : Sign → Bool
single_sign sign.Newline = false
single_sign sign.Single = false
single_sign _ = true

singles : (b : ℕ) → single_sign (sign_of b) ≡ true → (not (b == 39) && not (b == 10)) ≡ true
singles b = grind (arith, common_steps)

abbrev text_sign : Sign → Bool
text_sign sign.Newline = false
text_sign sign.Space = false
text_sign _ = true

texts : (b : ℕ) → text_sign (sign_of b) ≡ true → (b == 9) ≡ false → (not (b == 32) && not (b == 9) && not (b == 10)) ≡ true
texts b = grind (arith, common_steps)

-- ---- what is left

-- from a place on the tokens of the text pass a test
pub data Rest (p : Place) (c : ℕ) (L : List Token → Type 0) (text : List ℕ) : Type 0 where
  rest_of : {ts : List Token} → HasTokens p c text ts → L ts → Rest p c L text

-- after a closing bracket
abbrev ClosedAt : List Bracket → (List Token → Type 0) → List ℕ → Type 0
ClosedAt [] L text = IsGap text × Rest place.End 0 L text
ClosedAt (k ∷ bs) L text = Rest place.Flow 0 L text

-- in quoted scalars: whatever the whole scalar is
abbrev QuotedRest : Spot → (List Token → Type 0) → List ℕ → Type 0
QuotedRest x L text = (whole : List ℕ) → HasQuoted whole text → Rest x.place x.column L whole

abbrev DoubleRest : Spot → (List Token → Type 0) → List ℕ → Type 0
DoubleRest x L text = (whole : List ℕ) → ((rest : List ℕ) → HasDouble text rest → HasQuoted whole rest) → Rest x.place x.column L whole

abbrev CodeRest : Spot → ℕ → ℕ → (List Token → Type 0) → List ℕ → Type 0
CodeRest x left code L text =
    (whole : List ℕ) → ((more rest : List ℕ) → HasDigits left code text more → HasDouble more rest → HasQuoted whole rest) → Rest x.place x.column L whole

abbrev SingleRest : Spot → (List Token → Type 0) → List ℕ → Type 0
SingleRest x L text = (whole : List ℕ) → ((rest : List ℕ) → HasSingle text rest → HasQuoted whole rest) → Rest x.place x.column L whole

abbrev LineRest : (List Token → Type 0) → List ℕ → Type 0
LineRest L text = Rest place.Line 0 L text

abbrev BlockRest : ℕ → (List Token → Type 0) → List ℕ → Type 0
BlockRest parent L text = Then (HasBlock parent) (LineRest L) text

abbrev LinesRest : ℕ → (List Token → Type 0) → List ℕ → Type 0
LinesRest own L text = Then (HasLines own) (LineRest L) text

-- a plain scalar is written out before the text; the brackets matter after one
abbrev pub Goes : Control → List ℕ → (List Token → Type 0) → List Bracket → List ℕ → Type 0
Goes (at.At x) s L bs text = Rest x.place x.column L text
Goes (at.Dash x) s L bs text = Rest x.place x.column L (45 ∷ text)
Goes at.Dashes s L bs text = Rest place.Line 0 L (45 ∷ 45 ∷ text)
Goes at.Closed s L bs text = ClosedAt bs L text
Goes at.Comment s L bs text = Then HasLine (LineRest L) text
Goes (at.Plain x) s L bs text = Rest x.place x.column L (s ++ text)
Goes (at.PlainColon x end) s L bs text = Rest x.place x.column L (s ++ text)
Goes (at.PlainSpace x end) s L bs text = Rest x.place x.column L (s ++ text)
Goes (at.Double x) s L bs text = DoubleRest x L text
Goes (at.Escape x) s L bs text = DoubleRest x L (92 ∷ text)
Goes (at.Code x left code) s L bs text = CodeRest x left code L text
Goes (at.Single x) s L bs text = SingleRest x L text
Goes (at.Quote x) s L bs text = SingleRest x L (39 ∷ text)
Goes (at.Quoted x) s L bs text = QuotedRest x L text
Goes (at.QuotedColon x) s L bs text = QuotedRest x L (58 ∷ text)
Goes (at.Header parent) s L bs text = Then HasHeader (BlockRest parent L) text
Goes (at.HeaderEnd parent) s L bs text = Then HasBlank (BlockRest parent L) text
Goes (at.Block parent c) s L bs text = BlockRest parent L (spaces c ++ text)
Goes (at.Indent parent own c) s L bs text = LinesRest own L (spaces c ++ text)
Goes (at.Text parent own) s L bs text = Then HasLine (LinesRest own L) text

-- ---- a test for another

rest_map : (p : Place) (c : ℕ) (L M : List Token → Type 0) (text : List ℕ) → ((ts : List Token) → L ts → M ts) → Rest p c L text → Rest p c M text
rest_map p c L M text f (rest_of {ts} h l) = rest_of h (f ts l)

after_map : {P : List ℕ → List ℕ → Type 0} (Q R : List ℕ → Type 0) (text : List ℕ) → ((rest : List ℕ) → Q rest → R rest) → Then P Q text → Then P R text
after_map Q R text f (both {rest} p q) = both p (f rest q)

closed_map : (bs : List Bracket) (L M : List Token → Type 0) (text : List ℕ) → ((ts : List Token) → L ts → M ts) → ClosedAt bs L text → ClosedAt bs M text
closed_map [] L M text f h = (h.0, rest_map place.End 0 L M text f h.1)
closed_map (k ∷ bs) L M text f h = rest_map place.Flow 0 L M text f h

block_map : (parent : ℕ) (L M : List Token → Type 0) (text : List ℕ) → ((ts : List Token) → L ts → M ts) → BlockRest parent L text → BlockRest parent M text
block_map parent L M text f h = after_map (LineRest L) (LineRest M) text (λ rest q. rest_map place.Line 0 L M rest f q) h

lines_map : (own : ℕ) (L M : List Token → Type 0) (text : List ℕ) → ((ts : List Token) → L ts → M ts) → LinesRest own L text → LinesRest own M text
lines_map own L M text f h = after_map (LineRest L) (LineRest M) text (λ rest q. rest_map place.Line 0 L M rest f q) h

goes_map : (q : Control) (s : List ℕ) (L M : List Token → Type 0) (bs : List Bracket) (text : List ℕ) → ((ts : List Token) → L ts → M ts) → Goes q s L bs text → Goes q s M bs text
goes_map (at.At x) s L M bs text f h = rest_map x.place x.column L M text f h
goes_map (at.Dash x) s L M bs text f h = rest_map x.place x.column L M (45 ∷ text) f h
goes_map at.Dashes s L M bs text f h = rest_map place.Line 0 L M (45 ∷ 45 ∷ text) f h
goes_map at.Closed s L M bs text f h = closed_map bs L M text f h
goes_map at.Comment s L M bs text f h = after_map (LineRest L) (LineRest M) text (λ rest q. rest_map place.Line 0 L M rest f q) h
goes_map (at.Plain x) s L M bs text f h = rest_map x.place x.column L M (s ++ text) f h
goes_map (at.PlainColon x end) s L M bs text f h = rest_map x.place x.column L M (s ++ text) f h
goes_map (at.PlainSpace x end) s L M bs text f h = rest_map x.place x.column L M (s ++ text) f h
goes_map (at.Double x) s L M bs text f h = λ whole g. rest_map x.place x.column L M whole f (h whole g)
goes_map (at.Escape x) s L M bs text f h = λ whole g. rest_map x.place x.column L M whole f (h whole g)
goes_map (at.Code x left code) s L M bs text f h = λ whole g. rest_map x.place x.column L M whole f (h whole g)
goes_map (at.Single x) s L M bs text f h = λ whole g. rest_map x.place x.column L M whole f (h whole g)
goes_map (at.Quote x) s L M bs text f h = λ whole g. rest_map x.place x.column L M whole f (h whole g)
goes_map (at.Quoted x) s L M bs text f h = λ whole g. rest_map x.place x.column L M whole f (h whole g)
goes_map (at.QuotedColon x) s L M bs text f h = λ whole g. rest_map x.place x.column L M whole f (h whole g)
goes_map (at.Header parent) s L M bs text f h = after_map (BlockRest parent L) (BlockRest parent M) text (λ rest q. block_map parent L M rest f q) h
goes_map (at.HeaderEnd parent) s L M bs text f h = after_map (BlockRest parent L) (BlockRest parent M) text (λ rest q. block_map parent L M rest f q) h
goes_map (at.Block parent c) s L M bs text f h = block_map parent L M (spaces c ++ text) f h
goes_map (at.Indent parent own c) s L M bs text f h = lines_map own L M (spaces c ++ text) f h
goes_map (at.Text parent own) s L M bs text f h = after_map (LinesRest own L) (LinesRest own M) text (λ rest q. lines_map own L M rest f q) h

-- ---- after a move

abbrev pub Moved : Control → List ℕ → Option Nest → List ℕ → Type 0
Moved q s None text = ⊥
Moved q s (Some n) text = Goes q s (Left n) n.brackets text

abbrev pub Went : Option Move → List ℕ → Nest → List ℕ → Type 0
Went None s n text = ⊥
Went (Some m) s n text = Moved m.control (written m.write s) (happened m.event n) text

abbrev Reaches : Control → List ℕ → (List Token → Type 0) → List ℕ → Type 0
Reaches q s L text = (bs : List Bracket) × Goes q s L bs text

moved_reaches : (q : Control) (s : List ℕ) (r : Option Nest) (text : List ℕ) → Moved q s r text → Reaches q s (Fits r) text
moved_reaches q s None text h = absurd h
moved_reaches q s (Some n) text h = (n.brackets, h)

reaches_map : (q : Control) (s : List ℕ) (L M : List Token → Type 0) (text : List ℕ) → ((ts : List Token) → L ts → M ts) → Reaches q s L text → Reaches q s M text
reaches_map q s L M text f (bs, h) = (bs, goes_map q s L M bs text f h)

-- what is left before the tokens of an event
abbrev Before : Event → Nest → List Token → Type 0
Before e n ts = Left n (tokens_of e ++ ts)

reach : (q : Control) (s : List ℕ) (e : Event) (n : Nest) (text : List ℕ) → Moved q s (happened e n) text → Reaches q s (Before e n) text
reach q s e n text h = reaches_map q s (Fits (happened e n)) (Before e n) text (λ ts p. happened_fits e n ts p) (moved_reaches q s (happened e n) text h)

at_reach : (p : Place) (c : ℕ) (s : List ℕ) (e : Event) (n : Nest) (text : List ℕ) → Moved (at.At (spot_at p c)) s (happened e n) text → Rest p c (Before e n) text
at_reach p c s e n text h = (reach (at.At (spot_at p c)) s e n text h).1

-- ---- a space, and the end of a line

-- what follows a test that passed, and the next column
guarded : (t : Bool) (r : Option Move) (s : List ℕ) (n : Nest) (text : List ℕ) → Went (cond t r None) s n text → (t ≡ true) × Went r s n text
guarded true r s n text h = (refl, h)
guarded false r s n text h = absurd h

counted : (t : Bool) (c : ℕ) (f : ℕ → Option Move) (s : List ℕ) (n : Nest) (text : List ℕ) → Went (option_and_then f (cond t (Some (c + 1)) None)) s n text → Went (f (c + 1)) s n text
counted true c f s n text h = h
counted false c f s n text h = absurd h

next_goes : (c : ℕ) (f : ℕ → Option Move) (s : List ℕ) (n : Nest) (text : List ℕ) → Went (option_and_then f (next_column c)) s n text → Went (f (suc c)) s n text
next_goes c f s n text h = rw (← add-one c) (counted (nat_lt (c + 1) (2 ^ 64)) c f s n text h)

spot_space : (p : Place) (c : ℕ) (e : Event) (s : List ℕ) (n : Nest) (text : List ℕ) → Went (next_spot p c e) s n text → Rest p c (Before e n) (32 ∷ text)
spot_space p c e s n text h = spaced (at_reach p (suc c) s e n text (next_goes c (λ d. to (at.At (spot_at p d)) e) s n text h))
  where
    spaced : Rest p (suc c) (Before e n) text → Rest p c (Before e n) (32 ∷ text)
    spaced (rest_of h l) = rest_of (space h) l

line_newline : (t : Bool) (p : Place) (c : ℕ) (e : Event) (s : List ℕ) (n : Nest) (text : List ℕ) → is_flow p ≡ t
    → Went (cond t None (to (at.At (spot_at place.Line 0)) e)) s n text → Rest p c (Before e n) (10 ∷ text)
line_newline true p c e s n text f h = absurd h
line_newline false p c e s n text f h = lined (at_reach place.Line 0 s e n text h)
  where
    lined : Rest place.Line 0 (Before e n) text → Rest p c (Before e n) (10 ∷ text)
    lined (rest_of h l) = rest_of (newline f h) l

gap_goes : (x : Sign) (p : Place) (c : ℕ) (e : Event) (b : ℕ) (s : List ℕ) (n : Nest) (text : List ℕ) → sign_of b ≡ x → Went (at_gap p c x e) s n text
    → IsGap (b ∷ text) × Rest p c (Before e n) (b ∷ text)
gap_goes sign.Space p c e b s n text i h = rw (byte_of sign.Space b i refl) (gap_space, spot_space p c e s n text h)
gap_goes sign.Newline p c e b s n text i h = rw (byte_of sign.Newline b i refl) (gap_end, line_newline (is_flow p) p c e s n text refl h)
gap_goes _ p c e b s n text i h = absurd h

next_gap_goes : (x : Sign) (p : Place) (c : ℕ) (e : Event) (b : ℕ) (s : List ℕ) (n : Nest) (text : List ℕ) → sign_of b ≡ x
    → Went (at_next_gap p c x e) s n text → IsGap (b ∷ text) × Rest p (suc c) (Before e n) (b ∷ text)
next_gap_goes x p c e b s n text i h = gap_goes x p (suc c) e b s n text i (next_goes c (λ d. at_gap p d x e) s n text h)

-- ---- where a key or a value begins

begin_reach : (p : Place) (c : ℕ) (q : Control) (s : List ℕ) (n : Nest) (text : List ℕ) → Moved q s (happened (begin p c) n) text → Reaches q s (Left n) text
begin_reach place.Flow c q s n text h = reach q s event.Enter n text h
begin_reach _ c q s n text h = reach q s (event.Begin c) n text h

line_lead : (t : Bool) (c : ℕ) (q : Control) (s : List ℕ) (n : Nest) (text : List ℕ) → Moved q s (happened (cond t event.Nothing (event.Dash c)) n) text → Reaches q s (Left n) text
line_lead true c q s n text h = reach q s event.Nothing n text h
line_lead false c q s n text h = reach q s (event.Dash c) n text h

lead_reach : (p : Place) (c : ℕ) (q : Control) (s : List ℕ) (n : Nest) (text : List ℕ) → Moved q s (happened (lead p c) n) text → Reaches q s (Left n) text
lead_reach place.Line c q s n text h = line_lead (c == 0) c q s n text h
lead_reach place.Flow c q s n text h = reach q s event.Enter n text h
lead_reach _ c q s n text h = reach q s (event.Dash c) n text h

double_reached : (p : Place) (c : ℕ) (s : List ℕ) (L : List Token → Type 0) (text : List ℕ) → Reaches (at.Double (spot_at p c)) s L text → Rest p c L (34 ∷ text)
double_reached p c s L text (bs, h) = h (34 ∷ text) (λ rest d. double d)

single_reached : (p : Place) (c : ℕ) (s : List ℕ) (L : List Token → Type 0) (text : List ℕ) → Reaches (at.Single (spot_at p c)) s L text → Rest p c L (39 ∷ text)
single_reached p c s L text (bs, h) = h (39 ∷ text) (λ rest d. single d)

header_reached : (p : Place) (c parent b : ℕ) (s : List ℕ) (n : Nest) (text : List ℕ) → parent_of p ≡ Some parent → (b == 124 || b == 62) ≡ true
    → Reaches (at.Header parent) s (Before (event.One (token.Scalar c)) n) text → Rest p c (Left n) (b ∷ text)
header_reached p c parent b s n text e m (bs, both h (both l (rest_of t left))) = rest_of (block e m h l t) left

mark_goes : (r : Option ℕ) (p : Place) (c b : ℕ) (s : List ℕ) (n : Nest) (text : List ℕ) → parent_of p ≡ r → (b == 124 || b == 62) ≡ true → Went (option_and_then (λ parent. to (at.Header parent) (event.One (token.Scalar c))) r) s n text
    → Rest p c (Left n) (b ∷ text)
mark_goes None p c b s n text e m h = absurd h
mark_goes (Some parent) p c b s n text e m h = header_reached p c parent b s n text e m (reach (at.Header parent) s (event.One (token.Scalar c)) n text h)

opened_rest : (p : Place) (c : ℕ) (k : Bracket) (n : Nest) (text : List ℕ) → takes_values p ≡ true → Rest place.Flow 0 (Before (event.One (token.Open k c)) n) text
    → Rest p c (Left n) (opening k ∷ text)
opened_rest p c k n text v (rest_of h l) = rest_of (open_ k v h) l

node_goes : (x : Sign) (p : Place) (c b : ℕ) (s : List ℕ) (n : Nest) (text : List ℕ) → sign_of b ≡ x → takes_values p ≡ true → Went (at_node (spot_at p c) x b) s n text
    → Rest p c (Left n) (b ∷ text)
node_goes sign.Dash p c b s n text i v h = rw (byte_of sign.Dash b i refl) ((lead_reach p c (at.Dash (spot_at p c)) s n text h).1)
node_goes sign.Start p c b s n text i v h = (begin_reach p c (at.Plain (spot_at p c)) (b ∷ []) n text h).1
node_goes sign.Lead p c b s n text i v h = (begin_reach p c (at.Plain (spot_at p c)) (b ∷ []) n text h).1
node_goes sign.Double p c b s n text i v h = rw (byte_of sign.Double b i refl) (double_reached p c s (Left n) text (begin_reach p c (at.Double (spot_at p c)) s n text h))
node_goes sign.Single p c b s n text i v h = rw (byte_of sign.Single b i refl) (single_reached p c s (Left n) text (begin_reach p c (at.Single (spot_at p c)) s n text h))
node_goes sign.Mark p c b s n text i v h = mark_goes (parent_of p) p c b s n text refl (marks b (ap mark_sign i)) h
node_goes (sign.Open k) p c b s n text i v h = rw (byte_of (sign.Open k) b i refl) (opened_rest p c k n text v (at_reach place.Flow 0 s (event.One (token.Open k c)) n text h))
node_goes _ p c b s n text i v h = absurd h

-- ---- in brackets

comma_rest : (c : ℕ) (e : Event) (n : Nest) (text : List ℕ) (M : List Token → Type 0) → ((ts : List Token) → Before e n ts → M (token.Comma ∷ ts))
    → Rest place.Flow 0 (Before e n) text → Rest place.Flow c M (44 ∷ text)
comma_rest c e n text M f (rest_of {ts} h l) = rest_of (comma h) (f ts l)

closed_rest : (bs : List Bracket) (c : ℕ) (k : Bracket) (L M : List Token → Type 0) (text : List ℕ) → ((ts : List Token) → L ts → M (token.Close k ∷ ts)) → ClosedAt bs L text
    → Rest place.Flow c M (closing k ∷ text)
closed_rest [] c k L M text f (g, rest_of {ts} h l) = rest_of (close_last k g h) (f ts l)
closed_rest (own ∷ bs) c k L M text f (rest_of {ts} h l) = rest_of (close k h) (f ts l)

close_reached : (c : ℕ) (k : Bracket) (s : List ℕ) (L M : List Token → Type 0) (text : List ℕ) → ((ts : List Token) → L ts → M (token.Close k ∷ ts)) → Reaches at.Closed s L text
    → Rest place.Flow c M (closing k ∷ text)
close_reached c k s L M text f (bs, h) = closed_rest bs c k L M text f h

flow_goes : (x : Sign) (c b : ℕ) (s : List ℕ) (n : Nest) (text : List ℕ) → sign_of b ≡ x → Went (at_flow c x b) s n text → Rest place.Flow c (Left n) (b ∷ text)
flow_goes sign.Space c b s n text i h = (gap_goes sign.Space place.Flow c event.Nothing b s n text i h).1
flow_goes sign.Comma c b s n text i h = rw (byte_of sign.Comma b i refl) (comma_rest c (event.One token.Comma) n text (Left n) (λ ts l. l) (at_reach place.Flow 0 s (event.One token.Comma) n text h))
flow_goes (sign.Close k) c b s n text i h = rw (byte_of (sign.Close k) b i refl)
    (close_reached c k s (Before (event.One (token.Close k)) n) (Left n) text (λ ts l. l) (reach at.Closed s (event.One (token.Close k)) n text h))
flow_goes x c b s n text i h = node_goes x place.Flow c b s n text i refl h

-- ---- on a line

comment_rest : (p : Place) (c : ℕ) (L : List Token → Type 0) (text : List ℕ) → is_flow p ≡ false → Then HasLine (LineRest L) text → Rest p c L (35 ∷ text)
comment_rest p c L text f (both l (rest_of h left)) = rest_of (comment f l h) left

line_goes : (x : Sign) (p : Place) (c b : ℕ) (s : List ℕ) (n : Nest) (text : List ℕ) → sign_of b ≡ x → is_flow p ≡ false → Went (on_line (spot_at p c) x b) s n text
    → Rest p c (Left n) (b ∷ text)
line_goes sign.Space p c b s n text i f h = (gap_goes sign.Space p c event.Nothing b s n text i h).1
line_goes sign.Newline p c b s n text i f h = (gap_goes sign.Newline p c event.Nothing b s n text i h).1
line_goes sign.Hash p c b s n text i f h = rw (byte_of sign.Hash b i refl) (comment_rest p c (Left n) text f h)
line_goes x p c b s n text i f h = let g = guarded (takes_values p) (at_node (spot_at p c) x b) s n text h in node_goes x p c b s n text i g.0 g.1

place_goes : (p : Place) (x : Sign) (c b : ℕ) (s : List ℕ) (n : Nest) (text : List ℕ) → sign_of b ≡ x → Went (at_place (spot_at p c) x b) s n text → Rest p c (Left n) (b ∷ text)
place_goes place.Flow x c b s n text i h = flow_goes x c b s n text i h
place_goes p x c b s n text i h = line_goes x p c b s n text i refl h

-- ---- the end of a value

-- the same at each column
data AnyRest (p : Place) (L : List Token → Type 0) (text : List ℕ) : Type 0 where
  any_of : {ts : List Token} → ((c : ℕ) → HasTokens p c text ts) → L ts → AnyRest p L text

abbrev AfterScalar : ℕ → Nest → List Token → Type 0
AfterScalar c n ts = Left n (token.Scalar c ∷ ts)

abbrev is_ending : Sign → Bool
is_ending sign.Newline = true
is_ending s = ends_entry s

comma_ending : (c : ℕ) (n : Nest) (text : List ℕ) → Rest place.Flow 0 (Before (event.Two (token.Scalar c) token.Comma) n) text → AnyRest place.Flow (AfterScalar c n) (44 ∷ text)
comma_ending c n text (rest_of h l) = any_of (λ j. comma h) l

close_ending : (bs : List Bracket) (c : ℕ) (k : Bracket) (n : Nest) (text : List ℕ) → ClosedAt bs (Before (event.Two (token.Scalar c) (token.Close k)) n) text
    → AnyRest place.Flow (AfterScalar c n) (closing k ∷ text)
close_ending [] c k n text (g, rest_of h l) = any_of (λ j. close_last k g h) l
close_ending (own ∷ bs) c k n text (rest_of h l) = any_of (λ j. close k h) l

close_ending_reached : (c : ℕ) (k : Bracket) (s : List ℕ) (n : Nest) (text : List ℕ) → Reaches at.Closed s (Before (event.Two (token.Scalar c) (token.Close k)) n) text
    → AnyRest place.Flow (AfterScalar c n) (closing k ∷ text)
close_ending_reached c k s n text (bs, h) = close_ending bs c k n text h

flow_ending : (x : Sign) (c b : ℕ) (s : List ℕ) (n : Nest) (text : List ℕ) → sign_of b ≡ x → is_ending x ≡ true → Went (after_flow_scalar (token.Scalar c) x) s n text
    → AnyRest place.Flow (AfterScalar c n) (b ∷ text)
flow_ending sign.Comma c b s n text i e h = rw (byte_of sign.Comma b i refl) (comma_ending c n text (at_reach place.Flow 0 s (event.Two (token.Scalar c) token.Comma) n text h))
flow_ending (sign.Close k) c b s n text i e h = rw (byte_of (sign.Close k) b i refl) (close_ending_reached c k s n text (reach at.Closed s (event.Two (token.Scalar c) (token.Close k)) n text h))
flow_ending sign.Newline c b s n text i e h = absurd h
flow_ending _ c b s n text i e h = cc

newline_ending : (c : ℕ) (n : Nest) (text : List ℕ) → Rest place.Line 0 (Before (event.One (token.Scalar c)) n) text → AnyRest place.End (AfterScalar c n) (10 ∷ text)
newline_ending c n text (rest_of h l) = any_of (λ j. newline refl h) l

line_ending : (x : Sign) (c b : ℕ) (s : List ℕ) (n : Nest) (text : List ℕ) → sign_of b ≡ x → is_ending x ≡ true
    → Went (at_gap place.End 0 x (event.One (token.Scalar c))) s n text → AnyRest place.End (AfterScalar c n) (b ∷ text)
line_ending sign.Newline c b s n text i e h = rw (byte_of sign.Newline b i refl) (newline_ending c n text (at_reach place.Line 0 s (event.One (token.Scalar c)) n text h))
line_ending sign.Comma c b s n text i e h = absurd h
line_ending (sign.Close k) c b s n text i e h = absurd h
line_ending _ c b s n text i e h = cc

ending_goes : (p : Place) (x : Sign) (c b : ℕ) (s : List ℕ) (n : Nest) (text : List ℕ) → sign_of b ≡ x → is_ending x ≡ true → Went (after_scalar p c x) s n text
    → AnyRest (after_value p) (AfterScalar c n) (b ∷ text)
ending_goes place.Flow x c b s n text i e h = flow_ending x c b s n text i e h
ending_goes _ x c b s n text i e h = line_ending x c b s n text i e h

-- a value, and what is after it
a_value : (p : Place) (c : ℕ) (n : Nest) (whole more : List ℕ) → takes_values p ≡ true → HasScalar (is_flow p) whole more → MayFollow p more
    → Rest (after_value p) 0 (AfterScalar c n) more → Rest p c (Left n) whole
a_value p c n whole more v q m (rest_of h l) = rest_of (scalar v q m h) l

an_end : (p : Place) (c : ℕ) (n : Nest) (more : List ℕ) → AnyRest (after_value p) (AfterScalar c n) more → Rest (after_value p) 0 (AfterScalar c n) more
an_end p c n more (any_of h l) = rest_of (h 0) l

flow_scalar_goes : (x : Sign) (c b : ℕ) (s : List ℕ) (n : Nest) (text : List ℕ) → sign_of b ≡ x → Went (after_flow_scalar (token.Scalar c) x) s n text
    → Rest place.Flow 0 (AfterScalar c n) (b ∷ text)
flow_scalar_goes sign.Space c b s n text i h = (gap_goes sign.Space place.Flow 0 (event.One (token.Scalar c)) b s n text i h).1
flow_scalar_goes sign.Comma c b s n text i h = an_end place.Flow c n (b ∷ text) (flow_ending sign.Comma c b s n text i refl h)
flow_scalar_goes (sign.Close k) c b s n text i h = an_end place.Flow c n (b ∷ text) (flow_ending (sign.Close k) c b s n text i refl h)
flow_scalar_goes _ c b s n text i h = absurd h

scalar_goes : (p : Place) (x : Sign) (c b : ℕ) (s : List ℕ) (n : Nest) (text whole : List ℕ) → sign_of b ≡ x → takes_values p ≡ true
    → HasScalar (is_flow p) whole (b ∷ text) → Went (after_scalar p c x) s n text → Rest p c (Left n) whole
scalar_goes place.Flow x c b s n text whole i v q h = a_value place.Flow c n whole (b ∷ text) v q tt (flow_scalar_goes x c b s n text i h)
scalar_goes place.End x c b s n text whole i v q h = cc
scalar_goes p x c b s n text whole i v q h = let g = gap_goes x place.End 0 (event.One (token.Scalar c)) b s n text i h in a_value p c n whole (b ∷ text) v q g.0 g.1

value_if_goes : (t u : Bool) (p : Place) (x : Sign) (c b : ℕ) (s : List ℕ) (n : Nest) (text whole : List ℕ) → sign_of b ≡ x → takes_values p ≡ u
    → (t ≡ true → HasScalar (is_flow p) whole (b ∷ text)) → Went (cond (t && u) (after_scalar p c x) None) s n text → Rest p c (Left n) whole
value_if_goes true true p x c b s n text whole i v q h = scalar_goes p x c b s n text whole i v (q refl) h
value_if_goes _ _ p x c b s n text whole i v q h = absurd h

-- ---- keys and items

key_rest : (p : Place) (c : ℕ) (n : Nest) (whole more : List ℕ) → takes_keys p ≡ true → HasScalar (is_flow p) whole (58 ∷ more)
    → IsGap more × Rest (after_key p c) (suc c) (Before (event.One (token.Key c)) n) more → Rest p c (Left n) whole
key_rest p c n whole more v q (g, rest_of h l) = rest_of (key v q g h) l

key_if_goes : (t u : Bool) (p : Place) (x : Sign) (c b : ℕ) (s : List ℕ) (n : Nest) (text whole : List ℕ) → sign_of b ≡ x → takes_keys p ≡ u
    → (t ≡ true → HasScalar (is_flow p) whole (58 ∷ b ∷ text))
    → Went (cond (t && u) (at_next_gap (after_key p c) c x (event.One (token.Key c))) None) s n text → Rest p c (Left n) whole
key_if_goes true true p x c b s n text whole i v q h =
    key_rest p c n whole (b ∷ text) v (q refl) (next_gap_goes x (after_key p c) c (event.One (token.Key c)) b s n text i h)
key_if_goes _ _ p x c b s n text whole i v q h = absurd h

item_rest : (p : Place) (c : ℕ) (n : Nest) (text : List ℕ) → takes_keys p ≡ true → is_flow p ≡ false
    → IsGap text × Rest (place.Item c) (suc c) (Before (event.Item c) n) text → Rest p c (Left n) (45 ∷ text)
item_rest p c n text v f (g, rest_of h l) = rest_of (item v f g h) l

item_if_goes : (t u : Bool) (p : Place) (x : Sign) (c b : ℕ) (s : List ℕ) (n : Nest) (text : List ℕ) → sign_of b ≡ x → takes_keys p ≡ t → is_flow p ≡ u
    → Went (cond (t && not u) (at_next_gap (place.Item c) c x (event.Item c)) None) s n text → Rest p c (Left n) (45 ∷ b ∷ text)
item_if_goes true false p x c b s n text i v f h = item_rest p c n (b ∷ text) v f (next_gap_goes x (place.Item c) c (event.Item c) b s n text i h)
item_if_goes _ _ p x c b s n text i v f h = absurd h

-- ---- dashes

margin_of : (p : Place) (c : ℕ) (L : List Token → Type 0) (text : List ℕ) → is_margin p c ≡ true → Rest place.Line 0 L text → Rest p c L text
margin_of place.Line c L text e h = rw (same_of c 0 e) h
margin_of _ c L text e h = cc

dashed_goes : (p : Place) (c b : ℕ) (s : List ℕ) (n : Nest) (text : List ℕ) → Went (move_to (at.Plain (spot_at p c)) (writes.Dash b) (begin p c)) s n text
    → Rest p c (Left n) (45 ∷ b ∷ text)
dashed_goes p c b s n text h = (begin_reach p c (at.Plain (spot_at p c)) (45 ∷ b ∷ []) n text h).1

second_dash_goes : (t : Bool) (p : Place) (c b : ℕ) (s : List ℕ) (n : Nest) (text : List ℕ) → is_margin p c ≡ t → b ≡ 45
    → Went (cond t (to at.Dashes event.Nothing) (move_to (at.Plain (spot_at p c)) (writes.Dash b) (begin p c))) s n text → Rest p c (Left n) (45 ∷ b ∷ text)
second_dash_goes true p c b s n text m e h = rw e (margin_of p c (Left n) (45 ∷ 45 ∷ text) m h)
second_dash_goes false p c b s n text m e h = dashed_goes p c b s n text h

dash_goes : (x : Sign) (p : Place) (c b : ℕ) (s : List ℕ) (n : Nest) (text : List ℕ) → sign_of b ≡ x → Went (after_dash (spot_at p c) x b) s n text
    → Rest p c (Left n) (45 ∷ b ∷ text)
dash_goes sign.Space p c b s n text i h = item_if_goes (takes_keys p) (is_flow p) p sign.Space c b s n text i refl refl h
dash_goes sign.Newline p c b s n text i h = item_if_goes (takes_keys p) (is_flow p) p sign.Newline c b s n text i refl refl h
dash_goes sign.Dash p c b s n text i h = second_dash_goes (is_margin p c) p c b s n text refl (byte_of sign.Dash b i refl) h
dash_goes sign.Start p c b s n text i h = dashed_goes p c b s n text h
dash_goes _ p c b s n text i h = absurd h

marker_rest : (n : Nest) (L : List Token → Type 0) (text : List ℕ) → ((ts : List Token) → L ts → Left n (token.Marker ∷ ts)) → IsGap text × Rest place.End 0 L text
    → Rest place.Line 0 (Left n) (45 ∷ 45 ∷ 45 ∷ text)
marker_rest n L text f (g, rest_of {ts} h l) = rest_of (marker g h) (f ts l)

marker_goes : (n : Nest) (bs : List Bracket) (s : List ℕ) (text : List ℕ) → n.brackets ≡ bs → Went (to at.Closed (event.One token.Marker)) s (nest_at n.awaited n.levels bs) text
    → Rest place.Line 0 (Left (nest_at n.awaited n.levels bs)) (45 ∷ 45 ∷ 45 ∷ text)
marker_goes n [] s text e h =
    let m = nest_at n.awaited n.levels [] in
    marker_rest m (Left (nest_at expects.Value [] [])) text (λ ts l. happened_fits (event.One token.Marker) m ts l) h
marker_goes n (k ∷ bs) s text e h = absurd h

dashes_goes : (x : Sign) (b : ℕ) (s : List ℕ) (n : Nest) (text : List ℕ) → sign_of b ≡ x → Went (after_dashes x b) s n text → Rest place.Line 0 (Left n) (45 ∷ 45 ∷ b ∷ text)
dashes_goes sign.Dash b s n text i h = rw (byte_of sign.Dash b i refl) (marker_goes n n.brackets s text refl h)
dashes_goes sign.Start b s n text i h = (reach (at.Plain (spot_at place.Line 0)) (45 ∷ 45 ∷ b ∷ []) (event.Begin 0) n text h).1
dashes_goes _ b s n text i h = absurd h

-- ---- after brackets, and comments

closed_goes : (x : Sign) (bs : List Bracket) (n : Nest) (b : ℕ) (s : List ℕ) (text : List ℕ) → sign_of b ≡ x → n.brackets ≡ bs
    → Went (after_closed (is_in_brackets (nest_at n.awaited n.levels bs)) x b) s n text → ClosedAt bs (Left n) (b ∷ text)
closed_goes x [] n b s text i e h = gap_goes x place.End 0 event.Nothing b s n text i h
closed_goes x (k ∷ bs) n b s text i e h = flow_goes x 0 b s n text i h

comment_goes : (x : Sign) (b : ℕ) (s : List ℕ) (n : Nest) (text : List ℕ) → sign_of b ≡ x → Went (in_comment x) s n text → Then HasLine (LineRest (Left n)) (b ∷ text)
comment_goes sign.Newline b s n text i h = rw (byte_of sign.Newline b i refl) (both line_end h)
comment_goes x b s n text i h = then_map h (λ rest l. a_byte (no_newlines b (ap line_sign i)) l)

-- ---- plain scalars

and_left : (t u : Bool) → (t && u) ≡ true → t ≡ true
and_left true u h = refl
and_left false u h = cc

and_right : (t u : Bool) → (t && u) ≡ true → u ≡ true
and_right true u h = h
and_right false u h = cc

three_of : (t u v : Bool) → (t && u && v) ≡ true → (t ≡ true) × (u ≡ true) × (v ≡ true)
three_of true true v h = (refl, refl, h)
three_of _ _ v h = cc

-- one byte more of a scalar
plain_more : (p : Place) (c b : ℕ) (s : List ℕ) (L : List Token → Type 0) (text : List ℕ) → Rest p c L ((s ++ b ∷ []) ++ text) → Rest p c L (s ++ b ∷ text)
plain_more p c b s L text h = rw (← append_assoc s (b ∷ []) text) h

more_plain_goes : (p : Place) (c b : ℕ) (s : List ℕ) (n : Nest) (text : List ℕ) → Went (more_plain (spot_at p c) b) s n text → Rest p c (Left n) (s ++ b ∷ text)
more_plain_goes p c b s n text h =
    plain_more p c b s (Left n) text (guarded (may_follow (is_flow p) 0 b) (move_to (at.Plain (spot_at p c)) (writes.Add b) event.Nothing) s n text h).1

whole_scalar : (f : Bool) (s more : List ℕ) → is_scalar f s (length s) ≡ true → HasScalar f (s ++ more) more
whole_scalar f s more h =
    plain s more (rw (take_all (length s) s (le_refl (length s))) at (and_left (is_plain f (take (length s) s)) (list_all (λ b. b == 32) (drop (length s) s)) h))

whole_goes : (x : Sign) (p : Place) (c b : ℕ) (s : List ℕ) (n : Nest) (text : List ℕ) → sign_of b ≡ x → Went (value_if (is_scalar (is_flow p) s (length s)) (spot_at p c) x) s n text
    → Rest p c (Left n) (s ++ b ∷ text)
whole_goes x p c b s n text i h =
    value_if_goes (is_scalar (is_flow p) s (length s)) (takes_values p) p x c b s n text (s ++ b ∷ text) i refl (λ e. whole_scalar (is_flow p) s (b ∷ text) e) h

either_plain : (t : Bool) (x : Sign) (p : Place) (c b : ℕ) (s : List ℕ) (n : Nest) (text : List ℕ) → sign_of b ≡ x
    → Went (cond t (value_if (is_scalar (is_flow p) s (length s)) (spot_at p c) x) (more_plain (spot_at p c) b)) s n text → Rest p c (Left n) (s ++ b ∷ text)
either_plain true x p c b s n text i h = whole_goes x p c b s n text i h
either_plain false x p c b s n text i h = more_plain_goes p c b s n text h

plain_goes : (x : Sign) (p : Place) (c b : ℕ) (s : List ℕ) (n : Nest) (text : List ℕ) → sign_of b ≡ x → Went (after_plain (spot_at p c) s x b) s n text
    → Rest p c (Left n) (s ++ b ∷ text)
plain_goes sign.Newline p c b s n text i h = whole_goes sign.Newline p c b s n text i h
plain_goes sign.Colon p c b s n text i h = plain_more p c b s (Left n) text h
plain_goes sign.Space p c b s n text i h = plain_more p c b s (Left n) text h
plain_goes x p c b s n text i h = either_plain (is_flow p && ends_entry x) x p c b s n text i h

-- a key, and its colon
named_scalar : (f : Bool) (end : ℕ) (s more : List ℕ) → is_name f s end ≡ true → HasScalar f (s ++ more) (58 ∷ more)
named_scalar f end s more h =
    let is : drop end s ≡ 58 ∷ [] = (bytes_eq-Decides (drop end s) (58 ∷ [])).0 (and_right (is_plain f (take end s)) (bytes_eq (drop end s) (58 ∷ [])) h) in
    let same : take end s ++ 58 ∷ more ≡ s ++ more =
    sym (ap (λ d. take end s ++ (d ++ more)) is) ∙ (sym (append_assoc (take end s) (drop end s) more) ∙ ap (λ t. t ++ more) (take-append-drop end s)) in
    rw (← same) (plain (take end s) (58 ∷ more) (and_left (is_plain f (take end s)) (bytes_eq (drop end s) (58 ∷ [])) h))

named_goes : (x : Sign) (p : Place) (c end b : ℕ) (s : List ℕ) (n : Nest) (text : List ℕ) → sign_of b ≡ x → Went (key_if (is_name (is_flow p) s end) (spot_at p c) x) s n text
    → Rest p c (Left n) (s ++ b ∷ text)
named_goes x p c end b s n text i h =
    key_if_goes (is_name (is_flow p) s end) (takes_keys p) p x c b s n text (s ++ b ∷ text) i refl (λ e. named_scalar (is_flow p) end s (b ∷ text) e) h

colon_goes : (x : Sign) (p : Place) (c end b : ℕ) (s : List ℕ) (n : Nest) (text : List ℕ) → sign_of b ≡ x → Went (after_colon (spot_at p c) s end x b) s n text
    → Rest p c (Left n) (s ++ b ∷ text)
colon_goes sign.Space p c end b s n text i h = named_goes sign.Space p c end b s n text i h
colon_goes sign.Newline p c end b s n text i h = named_goes sign.Newline p c end b s n text i h
colon_goes sign.Colon p c end b s n text i h = plain_more p c b s (Left n) text h
colon_goes x p c end b s n text i h = more_plain_goes p c b s n text h

-- spaces after a scalar
more_space : (p : Place) (L : List Token → Type 0) (text : List ℕ) → AnyRest p L text → AnyRest p L (32 ∷ text)
more_space p L text (any_of h l) = any_of (λ j. space (h (suc j))) l

all_spaces : (p : Place) (L : List Token → Type 0) (xs text : List ℕ) → list_all (λ b. b == 32) xs ≡ true → AnyRest p L text → AnyRest p L (xs ++ text)
all_spaces p L [] text e h = h
all_spaces p L (y ∷ ys) text e h = rw (same_of y 32 (and_left (y == 32) (list_all (λ b. b == 32) ys) e))
    (more_space p L (ys ++ text) (all_spaces p L ys text (and_right (y == 32) (list_all (λ b. b == 32) ys) e) h))

gap_of : (xs text : List ℕ) → passes (λ b. b == 32) (slice_get xs 0) ≡ true → IsGap (xs ++ text)
gap_of [] text e = cc
gap_of (y ∷ ys) text e = rw (same_of y 32 e) gap_space

may_come : (p : Place) (text : List ℕ) → IsGap text → MayFollow p text
may_come place.Flow text g = tt
may_come _ text g = g

spaced_scalar : (p : Place) (c end : ℕ) (s more : List ℕ) (n : Nest) → takes_values p ≡ true → is_spaced_scalar (is_flow p) s end ≡ true
    → AnyRest (after_value p) (AfterScalar c n) more → Rest p c (Left n) (s ++ more)
spaced_scalar p c end s more n v e h =
    let q = three_of (is_plain (is_flow p) (take end s)) (passes (λ b. b == 32) (slice_get (drop end s) 0)) (list_all (λ b. b == 32) (drop end s)) e in
    let same : take end s ++ (drop end s ++ more) ≡ s ++ more = sym (append_assoc (take end s) (drop end s) more) ∙ ap (λ t. t ++ more) (take-append-drop end s) in
    rw (← same) (a_value p c n (take end s ++ (drop end s ++ more)) (drop end s ++ more) v (plain (take end s) (drop end s ++ more) q.0)
    (may_come p (drop end s ++ more) (gap_of (drop end s) more q.1))
    (an_end p c n (drop end s ++ more) (all_spaces (after_value p) (AfterScalar c n) (drop end s) more q.2 h)))

spaced_if : (t u : Bool) (x : Sign) (p : Place) (c end b : ℕ) (s : List ℕ) (n : Nest) (text : List ℕ) → sign_of b ≡ x → is_ending x ≡ true
    → is_spaced_scalar (is_flow p) s end ≡ t → takes_values p ≡ u → Went (cond (t && u) (after_scalar p c x) None) s n text → Rest p c (Left n) (s ++ b ∷ text)
spaced_if true true x p c end b s n text i e d v h = spaced_scalar p c end s (b ∷ text) n v d (ending_goes p x c b s n text i e h)
spaced_if _ _ x p c end b s n text i e d v h = absurd h

spaced_goes : (x : Sign) (p : Place) (c end b : ℕ) (s : List ℕ) (n : Nest) (text : List ℕ) → sign_of b ≡ x → is_ending x ≡ true
    → Went (value_if (is_spaced_scalar (is_flow p) s end) (spot_at p c) x) s n text → Rest p c (Left n) (s ++ b ∷ text)
spaced_goes x p c end b s n text i e h = spaced_if (is_spaced_scalar (is_flow p) s end) (takes_values p) x p c end b s n text i e refl refl h

either_spaced : (t : Bool) (x : Sign) (p : Place) (c end b : ℕ) (s : List ℕ) (n : Nest) (text : List ℕ) → sign_of b ≡ x → ends_entry x ≡ t
    → (u : Bool) → Went (cond (u && t) (value_if (is_spaced_scalar (is_flow p) s end) (spot_at p c) x) (more_plain (spot_at p c) b)) s n text → is_ending x ≡ ends_entry x → Rest p c (Left n) (s ++ b ∷ text)
either_spaced true x p c end b s n text i e true h j = spaced_goes x p c end b s n text i (j ∙ e) h
either_spaced true x p c end b s n text i e false h j = more_plain_goes p c b s n text h
either_spaced false x p c end b s n text i e true h j = more_plain_goes p c b s n text h
either_spaced false x p c end b s n text i e false h j = more_plain_goes p c b s n text h

no_flow_after : (p : Place) → is_flow p ≡ false → is_flow (after_value p) ≡ false
no_flow_after place.Flow e = cc
no_flow_after _ e = refl

comment_any : (p : Place) (L : List Token → Type 0) (text : List ℕ) → is_flow p ≡ false → Then HasLine (LineRest L) text → AnyRest p L (35 ∷ text)
comment_any p L text f (both l (rest_of h left)) = any_of (λ j. comment f l h) left

spaced_comment : (t u v : Bool) (p : Place) (c end b : ℕ) (s : List ℕ) (n : Nest) (text : List ℕ) → b ≡ 35 → is_spaced_scalar (is_flow p) s end ≡ t → takes_values p ≡ u
    → is_flow p ≡ v → Went (cond (t && u && not v) (to at.Comment (event.One (token.Scalar c))) None) s n text → Rest p c (Left n) (s ++ b ∷ text)
spaced_comment true true false p c end b s n text i d v f h = rw i
    (spaced_scalar p c end s (35 ∷ text) n v d
    (comment_any (after_value p) (AfterScalar c n) text (no_flow_after p f)
    ((reach at.Comment s (event.One (token.Scalar c)) n text h).1)))
spaced_comment _ _ _ p c end b s n text i d v f h = absurd h

space_goes : (x : Sign) (p : Place) (c end b : ℕ) (s : List ℕ) (n : Nest) (text : List ℕ) → sign_of b ≡ x → Went (after_space (spot_at p c) s end x b) s n text
    → Rest p c (Left n) (s ++ b ∷ text)
space_goes sign.Space p c end b s n text i h = plain_more p c b s (Left n) text h
space_goes sign.Newline p c end b s n text i h = spaced_goes sign.Newline p c end b s n text i refl h
space_goes sign.Hash p c end b s n text i h =
    spaced_comment (is_spaced_scalar (is_flow p) s end) (takes_values p) (is_flow p) p c end b s n text (byte_of sign.Hash b i refl) refl refl refl h
space_goes sign.Colon p c end b s n text i h = absurd h
space_goes x p c end b s n text i h = either_spaced (ends_entry x) x p c end b s n text i refl (is_flow p) h refl

-- ---- quoted scalars

double_goes : (t u v : Bool) (x : Spot) (b : ℕ) (s : List ℕ) (n : Nest) (text : List ℕ) → (b == 34) ≡ t → (b == 92) ≡ u → (b == 10) ≡ v
    → Went (cond t (to (at.Quoted x) event.Nothing) (cond u (to (at.Escape x) event.Nothing) (cond v None (to (at.Double x) event.Nothing)))) s n text
    → DoubleRest x (Left n) (b ∷ text)
double_goes true u v x b s n text e f g h = rw (same_of b 34 e) (λ whole q. h whole (q text close_double))
double_goes false true v x b s n text e f g h = rw (same_of b 92 f) h
double_goes false false true x b s n text e f g h = absurd h
double_goes false false false x b s n text e f g h =
    let i : (not (b == 34) && not (b == 92) && not (b == 10)) ≡ true = rw (e, f, g) refl in λ whole q. h whole (λ rest d. q rest (plain_double i d))

positive : (a : ℕ) → nat_lt 0 a ≡ true → 0 < a
positive a = grind (arith, common_steps)

escape_goes : (t u : Bool) (x : Spot) (b : ℕ) (s : List ℕ) (n : Nest) (text : List ℕ) → is_escape b ≡ t → nat_lt 0 (digits_after b) ≡ u
    → Went (cond t (to (at.Double x) event.Nothing) (cond u (to (at.Code x (digits_after b) 0) event.Nothing) None)) s n text → DoubleRest x (Left n) (92 ∷ b ∷ text)
escape_goes true u x b s n text e f h = λ whole q. h whole (λ rest d. q rest (escape e d))
escape_goes false true x b s n text e f h = λ whole q. h whole (λ more rest hd d. q rest (coded (positive (digits_after b) f) hd d))
escape_goes false false x b s n text e f h = absurd h

less_of : (a b : ℕ) → nat_lt a b ≡ true → a < b
less_of a b = grind (arith, common_steps)

one_less : (left : ℕ) → nat_lt 1 left ≡ true → suc (left - 1) ≡ left
one_less left h = let lt : 1 < left = less_of 1 left h in omega arith

digit_goes : (t u : Bool) (x : Spot) (left code b : ℕ) (s : List ℕ) (n : Nest) (text : List ℕ) → hex_value b < 16 → nat_lt 1 left ≡ t
    → ((left == 1) && is_character (code * 16 + hex_value b)) ≡ u
    → Went (cond t (to (at.Code x (left - 1) (code * 16 + hex_value b)) event.Nothing) (cond u (to (at.Double x) event.Nothing) None)) s n text
    → CodeRest x left code (Left n) (b ∷ text)
digit_goes true u x left code b s n text lt e f h = rw (← one_less left e) (λ whole q. h whole (λ more rest hd d. q more rest (digit lt hd) d))
digit_goes false true x left code b s n text lt e f h = rw (same_of left 1 (and_left (left == 1) (is_character (code * 16 + hex_value b)) f))
    (λ whole q. h whole (λ rest d. q text rest (digit lt (complete (and_right (left == 1) (is_character (code * 16 + hex_value b)) f))) d))
digit_goes false false x left code b s n text lt e f h = absurd h

code_goes : (t u : Bool) (x : Spot) (left code b : ℕ) (s : List ℕ) (n : Nest) (text : List ℕ) → nat_lt (hex_value b) 16 ≡ t
    → Went (cond (t && u) (after_digit x left (code * 16 + hex_value b)) None) s n text → CodeRest x left code (Left n) (b ∷ text)
code_goes true true x left code b s n text e h =
    digit_goes (nat_lt 1 left) ((left == 1) && is_character (code * 16 + hex_value b)) x left code b s n text (less_of (hex_value b) 16 e) refl refl h
code_goes _ _ x left code b s n text e h = absurd h

single_goes : (z : Sign) (x : Spot) (b : ℕ) (s : List ℕ) (n : Nest) (text : List ℕ) → sign_of b ≡ z → Went (in_single x z) s n text → SingleRest x (Left n) (b ∷ text)
single_goes sign.Single x b s n text i h = rw (byte_of sign.Single b i refl) h
single_goes sign.Newline x b s n text i h = absurd h
single_goes z x b s n text i h = λ whole q. h whole (λ rest d. q rest (plain_single (singles b (ap single_sign i)) d))

flow_key_rest : (c : ℕ) (n : Nest) (text whole : List ℕ) → HasQuoted whole (58 ∷ text) → Rest place.Flow (suc c) (Before (event.One (token.Key c)) n) text
    → Rest place.Flow c (Left n) whole
flow_key_rest c n text whole q (rest_of h l) = rest_of (quoted_key q h) l

quoted_colon_goes : (p : Place) (c : ℕ) (s : List ℕ) (n : Nest) (text : List ℕ) → Went (at_quoted_colon (spot_at p c)) s n text → QuotedRest (spot_at p c) (Left n) (58 ∷ text)
quoted_colon_goes place.Flow c s n text h =
    let e = event.One (token.Key c) in
    λ whole q. flow_key_rest c n text whole q (at_reach place.Flow (suc c) s e n text (next_goes c (λ d. to (at.At (spot_at place.Flow d)) e) s n text h))
quoted_colon_goes p c s n text h = (guarded (takes_keys p) (to (at.QuotedColon (spot_at p c)) event.Nothing) s n text h).1

quoted_goes : (z : Sign) (x : Spot) (b : ℕ) (s : List ℕ) (n : Nest) (text : List ℕ) → sign_of b ≡ z → Went (after_quoted x z) s n text → QuotedRest x (Left n) (b ∷ text)
quoted_goes sign.Colon x b s n text i h = rw (byte_of sign.Colon b i refl) (quoted_colon_goes x.place x.column s n text h)
quoted_goes z x b s n text i h = λ whole q. value_if_goes true (takes_values x.place) x.place z x.column b s n text whole i refl (λ e. quoted q) h

quote_goes : (z : Sign) (x : Spot) (b : ℕ) (s : List ℕ) (n : Nest) (text : List ℕ) → sign_of b ≡ z → Went (after_quote x z) s n text → SingleRest x (Left n) (39 ∷ b ∷ text)
quote_goes sign.Single x b s n text i h = rw (byte_of sign.Single b i refl) (λ whole q. h whole (λ rest d. q rest (doubled d)))
quote_goes z x b s n text i h = λ whole q. quoted_goes z x b s n text i h whole (q (b ∷ text) close_single)

quoted_key_goes : (z : Sign) (x : Spot) (b : ℕ) (s : List ℕ) (n : Nest) (text : List ℕ) → sign_of b ≡ z → Went (key_if true x z) s n text → QuotedRest x (Left n) (58 ∷ b ∷ text)
quoted_key_goes z x b s n text i h = λ whole q. key_if_goes true (takes_keys x.place) x.place z x.column b s n text whole i refl (λ e. quoted q) h

-- ---- block scalars

header_end_goes : (x : Sign) (parent b : ℕ) (s : List ℕ) (n : Nest) (text : List ℕ) → sign_of b ≡ x → Went (at_header_end parent x) s n text
    → Then HasBlank (BlockRest parent (Left n)) (b ∷ text)
header_end_goes sign.Space parent b s n text i h = rw (byte_of sign.Space b i refl) (then_map h (λ rest l. a_space l))
header_end_goes sign.Newline parent b s n text i h = rw (byte_of sign.Newline b i refl) (both blank_end h)
header_end_goes _ parent b s n text i h = absurd h

header_goes : (t : Bool) (parent b : ℕ) (s : List ℕ) (n : Nest) (text : List ℕ) → is_sign b ≡ t
    → Went (cond t (to (at.HeaderEnd parent) event.Nothing) (at_header_end parent (sign_of b))) s n text → Then HasHeader (BlockRest parent (Left n)) (b ∷ text)
header_goes true parent b s n text e h = then_map h (λ rest l. chomped e l)
header_goes false parent b s n text e h = then_map (header_end_goes (sign_of b) parent b s n text refl h) (λ rest l. clipped l)

more_spaces : (c : ℕ) (text : List ℕ) → spaces (suc c) ++ text ≡ spaces c ++ 32 ∷ text
more_spaces zero text = refl
more_spaces (suc c) text = ap (λ t. 32 ∷ t) (more_spaces c text)

spaced_line : (c : ℕ) (L : List Token → Type 0) (text : List ℕ) → Rest place.Line c L text → Rest place.Line 0 L (spaces c ++ text)
spaced_line zero L text h = h
spaced_line (suc c) L text (rest_of h l) = rw (more_spaces c text) (spaced_line c L (32 ∷ text) (rest_of (space h) l))

few_spaces : (c parent : ℕ) → ((c == 0) || nat_le (c - 1) parent) ≡ true → c ≤ suc parent
few_spaces c parent = grind (arith, common_steps)

blank_first : (t : Bool) (parent c : ℕ) (s : List ℕ) (n : Nest) (text : List ℕ) → ((c == 0) || nat_le (c - 1) parent) ≡ t
    → Went (cond t (to (at.Block parent 0) event.Nothing) None) s n text → BlockRest parent (Left n) (spaces c ++ 10 ∷ text)
blank_first true parent c s n text e (both h q) = both (first_blank c (few_spaces c parent e) h) q
blank_first false parent c s n text e h = absurd h

block_space : (parent c : ℕ) (s : List ℕ) (n : Nest) (text : List ℕ) → Went (in_block parent c sign.Space 32) s n text → BlockRest parent (Left n) (spaces c ++ 32 ∷ text)
block_space parent c s n text h = rw (← more_spaces c text) (next_goes c (λ d. to (at.Block parent d) event.Nothing) s n text h)

greater : (a b : ℕ) → nat_le a b ≡ false → b < a
greater a b = grind (arith, common_steps)

begun_block : (parent c b : ℕ) (L : List Token → Type 0) (text : List ℕ) → parent < c → (not (b == 32) && not (b == 9) && not (b == 10)) ≡ true
    → Then HasLine (LinesRest c L) text → BlockRest parent L (spaces c ++ b ∷ text)
begun_block parent c b L text lt e (both h (both hs q)) = both (first_line c b lt e h hs) q

first_text_goes : (t u : Bool) (x : Sign) (parent c b : ℕ) (s : List ℕ) (n : Nest) (text : List ℕ) → sign_of b ≡ x → text_sign x ≡ true → nat_le c parent ≡ t
    → (b == 9) ≡ u → Went (cond t (at_place (spot_at place.Line c) x b) (cond u None (to (at.Text parent c) event.Nothing))) s n text
    → BlockRest parent (Left n) (spaces c ++ b ∷ text)
first_text_goes true u x parent c b s n text i j e f h = both empty (spaced_line c (Left n) (b ∷ text) (place_goes place.Line x c b s n text i h))
first_text_goes false true x parent c b s n text i j e f h = absurd h
first_text_goes false false x parent c b s n text i j e f h = begun_block parent c b (Left n) text (greater c parent e) (texts b (ap text_sign i ∙ j) f) h

block_goes : (x : Sign) (parent c b : ℕ) (s : List ℕ) (n : Nest) (text : List ℕ) → sign_of b ≡ x → Went (in_block parent c x b) s n text
    → BlockRest parent (Left n) (spaces c ++ b ∷ text)
block_goes sign.Newline parent c b s n text i h = rw (byte_of sign.Newline b i refl) (blank_first ((c == 0) || nat_le (c - 1) parent) parent c s n text refl h)
block_goes sign.Space parent c b s n text i h = rw (byte_of sign.Space b i refl) (block_space parent c s n text h)
block_goes x parent c b s n text i h = first_text_goes (nat_le c parent) (b == 9) x parent c b s n text i refl refl refl h

line_rest : (own b : ℕ) (L : List Token → Type 0) (text : List ℕ) → not (b == 10) ≡ true → Then HasLine (LinesRest own L) text → LinesRest own L (spaces own ++ b ∷ text)
line_rest own b L text e (both h (both hs q)) = both (line (a_byte e h) hs) q

indent_space : (parent own c : ℕ) (s : List ℕ) (n : Nest) (text : List ℕ) → Went (before_indent parent own c sign.Space 32) s n text → LinesRest own (Left n) (spaces c ++ 32 ∷ text)
indent_space parent own c s n text h = rw (← more_spaces c text) (next_goes c (λ d. to (at.Indent parent own d) event.Nothing) s n text h)

before_goes : (x : Sign) (parent own c b : ℕ) (s : List ℕ) (n : Nest) (text : List ℕ) → sign_of b ≡ x → Went (before_indent parent own c x b) s n text
    → LinesRest own (Left n) (spaces c ++ b ∷ text)
before_goes sign.Space parent own c b s n text i h = rw (byte_of sign.Space b i refl) (indent_space parent own c s n text h)
before_goes x parent own c b s n text i h =
    let g = guarded (nat_le c parent) (at_place (spot_at place.Line c) x b) s n text h in
    both no_line (spaced_line c (Left n) (b ∷ text) (place_goes place.Line x c b s n text i g.1))

text_or_goes : (t : Bool) (x : Sign) (parent own c b : ℕ) (s : List ℕ) (n : Nest) (text : List ℕ) → sign_of b ≡ x → line_sign x ≡ true → (c == own) ≡ t
    → Went (cond t (to (at.Text parent own) event.Nothing) (before_indent parent own c x b)) s n text → LinesRest own (Left n) (spaces c ++ b ∷ text)
text_or_goes true x parent own c b s n text i j e h = rw (same_of c own e) (line_rest own b (Left n) text (no_newlines b (ap line_sign i ∙ j)) h)
text_or_goes false x parent own c b s n text i j e h = before_goes x parent own c b s n text i h

indent_goes : (x : Sign) (parent own c b : ℕ) (s : List ℕ) (n : Nest) (text : List ℕ) → sign_of b ≡ x → Went (in_indent parent own c x b) s n text
    → LinesRest own (Left n) (spaces c ++ b ∷ text)
indent_goes sign.Newline parent own c b s n text i h = rw (byte_of sign.Newline b i refl) (then_map h (λ rest ls. blank c ls))
indent_goes x parent own c b s n text i h = text_or_goes (c == own) x parent own c b s n text i refl refl h

text_goes : (x : Sign) (parent own b : ℕ) (s : List ℕ) (n : Nest) (text : List ℕ) → sign_of b ≡ x → Went (in_text parent own x) s n text
    → Then HasLine (LinesRest own (Left n)) (b ∷ text)
text_goes sign.Newline parent own b s n text i h = rw (byte_of sign.Newline b i refl) (both line_end h)
text_goes x parent own b s n text i h = then_map h (λ rest l. a_byte (no_newlines b (ap line_sign i)) l)

-- ---- each control

pub byte_goes : (q : Control) (s : List ℕ) (n : Nest) (b : ℕ) (text : List ℕ) → Went (move_of q s (is_in_brackets n) b) s n text → Goes q s (Left n) n.brackets (b ∷ text)
byte_goes (at.At x) s n b text h = place_goes x.place (sign_of b) x.column b s n text refl h
byte_goes (at.Dash x) s n b text h = dash_goes (sign_of b) x.place x.column b s n text refl h
byte_goes at.Dashes s n b text h = dashes_goes (sign_of b) b s n text refl h
byte_goes at.Closed s n b text h = closed_goes (sign_of b) n.brackets n b s text refl refl h
byte_goes at.Comment s n b text h = comment_goes (sign_of b) b s n text refl h
byte_goes (at.Plain x) s n b text h =
    plain_goes (sign_of b) x.place x.column b s n text refl (guarded (starts_well s b) (after_plain x s (sign_of b) b) s n text h).1
byte_goes (at.PlainColon x end) s n b text h = colon_goes (sign_of b) x.place x.column end b s n text refl h
byte_goes (at.PlainSpace x end) s n b text h = space_goes (sign_of b) x.place x.column end b s n text refl h
byte_goes (at.Double x) s n b text h = double_goes (b == 34) (b == 92) (b == 10) x b s n text refl refl refl h
byte_goes (at.Escape x) s n b text h = escape_goes (is_escape b) (nat_lt 0 (digits_after b)) x b s n text refl refl h
byte_goes (at.Code x left code) s n b text h = code_goes (nat_lt (hex_value b) 16) (nat_lt (code * 16 + hex_value b) 0x110000) x left code b s n text refl h
byte_goes (at.Single x) s n b text h = single_goes (sign_of b) x b s n text refl h
byte_goes (at.Quote x) s n b text h = quote_goes (sign_of b) x b s n text refl h
byte_goes (at.Quoted x) s n b text h = quoted_goes (sign_of b) x b s n text refl h
byte_goes (at.QuotedColon x) s n b text h = quoted_key_goes (sign_of b) x b s n text refl h
byte_goes (at.Header parent) s n b text h = header_goes (is_sign b) parent b s n text refl h
byte_goes (at.HeaderEnd parent) s n b text h = header_end_goes (sign_of b) parent b s n text refl h
byte_goes (at.Block parent c) s n b text h = block_goes (sign_of b) parent c b s n text refl h
byte_goes (at.Indent parent own c) s n b text h = indent_goes (sign_of b) parent own c b s n text refl h
byte_goes (at.Text parent own) s n b text h = text_goes (sign_of b) parent own b s n text refl h
