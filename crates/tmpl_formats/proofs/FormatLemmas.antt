-- A text without a mistake is of the format, and a mistake is in the text or at its end.
use Rattle.std.proofs.Common.{◌≡◌, ◌≤◌, ℕ, Bool, true, false, cond, List, length, Option, Some, None, refl, sym, arith}
use Rattle.std.proofs.lemmas.Str.{IsUtf8-from_is_utf8, is_utf8-from_IsUtf8, utf8_valid_len_le}
use Rattle.std.specs.Prelude.{option_map, IfNone, IfSome, nat_lt}
use Rattle.std.specs.Str.{IsUtf8, is_utf8}
use Rattle.std.specs.Str.Lossy.{utf8_valid_len}
use Rattle.tmpl_formats.proofs.CsvLemmas.{csv_within}
use Rattle.tmpl_formats.proofs.EnvLemmas.{env_within}
use Rattle.tmpl_formats.proofs.JsonLemmas.{json_within}
use Rattle.tmpl_formats.proofs.KitValueLemmas.{json_read}
use Rattle.tmpl_formats.proofs.JsonLinesLemmas.{json_lines_within}
use Rattle.tmpl_formats.proofs.NginxLemmas.{nginx_within}
use Rattle.tmpl_formats.proofs.YamlLemmas.{yaml_within}
use Rattle.tmpl_formats.proofs.PatternLinesLemmas.{lines_within, lines_mistake_within}
use Rattle.tmpl_formats.proofs.MachineLemmas.{mistake_within, mistake-same}
use Rattle.tmpl_formats.specs.Format.{IsOf, HasForm}
use Rattle.tmpl_formats.specs.computed.Format.{machine_mistake, utf8_mistake, earlier, mistake_of}
use Rattle.tmpl_formats.specs.computed.Laws.{RefusesPrefix}
use Rattle.tmpl_formats.specs.computed.Csv as csv
use Rattle.tmpl_formats.specs.computed.Env as env
use Rattle.tmpl_formats.specs.computed.Json as json
use Rattle.tmpl_formats.specs.computed.JsonLines as lines
use Rattle.tmpl_formats.specs.computed.Nginx as nginx
use Rattle.tmpl_formats.specs.computed.Yaml as yaml
use Rattle.tmpl_formats.specs.PatternView.{marks_of}
use Rattle.tmpl_formats.specs.declared.format.Format.{Format}
use Rattle.tmpl_formats.specs.declared.format.Format.TheVariants as format
use Rattle.tmpl_formats.specs.declared.mistake.Mistake.{Mistake}

-- ---- UTF-8

utf8_place : (t : Bool) (n : ℕ) → cond {A = Option ℕ} t None (Some n) ≡ None → t ≡ true
utf8_place true n h = refl
utf8_place false n h = cc

pub utf8_none : (text : List ℕ) → IsUtf8 text → None ≡ utf8_mistake text
utf8_none text u = rw (is_utf8-from_IsUtf8 text u) refl

not_true : (t : Bool) → (t ≡ true → ⊥) → t ≡ false
not_true true h = absurd (h refl)
not_true false h = refl

pub utf8_some : (text : List ℕ) → (IsUtf8 text → ⊥) → Some (utf8_valid_len text) ≡ utf8_mistake text
utf8_some text is_not = rw (not_true (is_utf8 text) (λ e. is_not (IsUtf8-from_is_utf8 text e))) refl

utf8_within : (t : Bool) (m n most : ℕ) → m ≤ most → cond {A = Option ℕ} t None (Some m) ≡ Some n → n ≤ most
utf8_within true m n most le e = cc
utf8_within false m n most le e = let is : m ≡ n = cc in omega arith

-- ---- two mistakes

neither : (a b : Option ℕ) → earlier a b ≡ None → (a ≡ None) × (b ≡ None)
neither None None h = (refl, refl)
neither None (Some b) h = cc
neither (Some a) None h = cc
neither (Some a) (Some b) h = cc

lower : (t : Bool) (a b n most : ℕ) → a ≤ most → b ≤ most → cond t a b ≡ n → n ≤ most
lower true a b n most la lb e = omega arith
lower false a b n most la lb e = omega arith

both_within : (a b : Option ℕ) (most : ℕ) → ((n : ℕ) → a ≡ Some n → n ≤ most) → ((n : ℕ) → b ≡ Some n → n ≤ most) → (n : ℕ) → earlier a b ≡ Some n → n ≤ most
both_within None b most la lb n e = lb n e
both_within (Some a) None most la lb n e = la n e
both_within (Some a) (Some b) most la lb n e = let is : cond (nat_lt a b) a b ≡ n = cc in lower (nat_lt a b) a b n most (la a refl) (lb b refl) is

-- ---- formats

has_form : (asked : Format) (text : List ℕ) → machine_mistake asked text ≡ None → HasForm asked text
has_form format.Json text h = json_read text (json_within text h)
has_form format.JsonLines text h = json_lines_within text h
has_form format.Env text h = env_within text h
has_form (format.Csv columns) text h = csv_within columns text h
has_form format.Nginx text h = nginx_within text h
has_form format.Yaml text h = yaml_within text h
has_form (format.Lines pattern) text h = lines_within (marks_of pattern.root) text h

machine_within : (asked : Format) (text : List ℕ) (n : ℕ) → machine_mistake asked text ≡ Some n → n ≤ length text
machine_within format.Json text n e = mistake_within json.step json.ends text json.start n e
machine_within format.JsonLines text n e = mistake_within lines.step lines.ends text lines.start n e
machine_within format.Env text n e = mistake_within env.step env.ends text (env.start) n e
machine_within (format.Csv columns) text n e = mistake_within csv.step csv.ends text (csv.start columns) n e
machine_within format.Nginx text n e = mistake_within nginx.step nginx.ends text nginx.start n e
machine_within format.Yaml text n e = mistake_within yaml.step yaml.ends text yaml.start n e
machine_within (format.Lines pattern) text n e = lines_mistake_within (marks_of pattern.root) text n e

is_of : (asked : Format) (text : List ℕ) → mistake_of asked text ≡ None → IsOf asked text
is_of asked text h =
    let both = neither (utf8_mistake text) (machine_mistake asked text) h in
    record { utf8 = IsUtf8-from_is_utf8 text (utf8_place (is_utf8 text) (utf8_valid_len text) both.0); form = has_form asked text both.1 }

within : (asked : Format) (text : List ℕ) (n : ℕ) → mistake_of asked text ≡ Some n → n ≤ length text
within asked text n e =
    both_within (utf8_mistake text) (machine_mistake asked text) (length text)
    (λ m h. utf8_within (is_utf8 text) (utf8_valid_len text) m (length text) (utf8_valid_len_le text) h)
    (machine_within asked text) n e

pub joined : (r a b : Option ℕ) (asked : Format) (text : List ℕ) → r ≡ earlier a b → a ≡ utf8_mistake text → b ≡ machine_mistake asked text → r ≡ mistake_of asked text
joined r a b asked text e first second = rw (first, second) at e

pub none_is_of : (m : Option Mistake) (asked : Format) (text : List ℕ) → option_map (λ m. m.offset) m ≡ mistake_of asked text → IfNone m (IsOf asked text)
none_is_of None asked text e = is_of asked text (sym e)
none_is_of (Some m) asked text e = tt

pub some_within : (m : Option Mistake) (asked : Format) (text : List ℕ) → option_map (λ m. m.offset) m ≡ mistake_of asked text → IfSome m (λ m. m.offset ≤ length text)
some_within None asked text e = tt
some_within (Some m) asked text e = within asked text m.offset (sym e)

pub refuses-prefix : RefusesPrefix
refuses-prefix format.Json text more place e lt = mistake-same json.step json.ends text more json.start place e lt
refuses-prefix format.JsonLines text more place e lt = mistake-same lines.step lines.ends text more lines.start place e lt
refuses-prefix format.Env text more place e lt = mistake-same env.step env.ends text more env.start place e lt
refuses-prefix (format.Csv columns) text more place e lt = mistake-same csv.step csv.ends text more (csv.start columns) place e lt
refuses-prefix format.Nginx text more place e lt = mistake-same nginx.step nginx.ends text more nginx.start place e lt
refuses-prefix format.Yaml text more place e lt = mistake-same yaml.step yaml.ends text more yaml.start place e lt
refuses-prefix (format.Lines pattern) text more place e lt = tt
