-- What the machine for YAML accepts is YAML.
use Rattle.std.proofs.Common.{◌≡◌, ℕ, ◌==◌, Bool, true, false, cond, ◌&&◌, List, [], ◌∷◌, ◌++◌, Option, Some, None, refl, ap, arith}
use Rattle.std.proofs.lemmas.Grind.{common_steps}
use Rattle.std.specs.Prelude.{option_and_then, option_map, not}
use Rattle.tmpl_formats.proofs.MachineLemmas.{both, went}
use Rattle.tmpl_formats.proofs.YamlNestLemmas.{Left, left_end, documents_of}
use Rattle.tmpl_formats.proofs.YamlLineLemmas.{Rest, rest_of, Goes, Moved, Went, byte_goes}
use Rattle.tmpl_formats.specs.Yaml.{ends as tokens_end, no_line, empty, IsYaml}
use Rattle.tmpl_formats.specs.YamlScalar.{is_unprintable, is_printable}
use Rattle.tmpl_formats.specs.computed.Machine.{mistake, after_step}
use Rattle.tmpl_formats.specs.computed.Yaml.{Config, with_nest, written, went as went_by, moved, kept, step, begins_line, is_done, done_if, ends, start, yaml_mistake}
use Rattle.tmpl_formats.specs.computed.YamlLine.{is_margin, move_of}
use Rattle.tmpl_formats.specs.computed.YamlNest.{Nest, nest_at, head_of, happened, is_in_brackets}
use Rattle.tmpl_formats.specs.declared.yaml_line.Control.{Control}
use Rattle.tmpl_formats.specs.declared.yaml_line.Control.TheVariants as at
use Rattle.tmpl_formats.specs.declared.yaml_line.Move.{Move}
use Rattle.tmpl_formats.specs.declared.yaml_line.Place.{Place}
use Rattle.tmpl_formats.specs.declared.yaml_line.Place.TheVariants as place
use Rattle.tmpl_formats.specs.declared.yaml_nest.Bracket.{Bracket}

-- ---- a text with a newline at its end

-- the machine accepts the text, if a line begins at its end
abbrev Accepts : Config → List ℕ → Type 0
Accepts c text = mistake step is_done c text ≡ None

true_of : (t : Bool) → cond {A = Option ℕ} t None (Some 0) ≡ None → t ≡ true
true_of true h = refl
true_of false h = cc

last_step : (r : Option Config) → done_if r ≡ true → after_step (λ d. mistake step is_done d []) r ≡ None
unfolding mistake
last_step None h = cc
last_step (Some d) h = rw h refl

one_step : (r : Option Config) (text : List ℕ) → ((d : Config) → mistake step ends d text ≡ None → Accepts d (text ++ 10 ∷ []))
    → after_step (λ d. mistake step ends d text) r ≡ None → after_step (λ d. mistake step is_done d (text ++ 10 ∷ [])) r ≡ None
one_step None text f h = cc
one_step (Some d) text f h = rw (f d (went (λ d. mistake step ends d text) d h)) refl

with_newline : (text : List ℕ) (c : Config) → mistake step ends c text ≡ None → Accepts c (text ++ 10 ∷ [])
unfolding mistake
with_newline [] c h = last_step (step c 10) (true_of (ends c) h)
with_newline (b ∷ text) c h = one_step (step c b) text (λ d. with_newline text d) h

-- ---- from one byte to the next

abbrev Known : List ℕ → Type 0
Known text = (c : Config) → Accepts c text → Goes c.control c.scalar (Left c.nest) c.nest.brackets text

abbrev Goes_on : Option Config → List ℕ → Type 0
Goes_on r text = after_step (λ d. mistake step is_done d text) r ≡ None

nest_moved : (r : Option Nest) (a b : ℕ) (q : Control) (s : List ℕ) (text : List ℕ) → Known text → Goes_on (option_map (λ n. with_nest a b q s n) r) text → Moved q s r text
nest_moved None a b q s text known h = cc
nest_moved (Some n) a b q s text known h = known (with_nest a b q s n) (went (λ d. mistake step is_done d text) (with_nest a b q s n) h)

move_went : (r : Option Move) (c : Config) (text : List ℕ) → Known text → Goes_on (option_and_then (λ m. went_by m c) r) text → Went r c.scalar c.nest text
move_went None c text known h = cc
move_went (Some m) c text known h = nest_moved (happened m.event c.nest) c.before c.last m.control (written m.write c.scalar) text known h

printable_went : (t : Bool) (c : Config) (b : ℕ) (text : List ℕ) → Known text → Goes_on (cond t None (moved (kept b c) b)) text
    → Went (move_of c.control c.scalar (is_in_brackets c.nest) b) c.scalar c.nest text
printable_went true c b text known h = cc
printable_went false c b text known h = move_went (move_of c.control c.scalar (is_in_brackets c.nest) b) (kept b c) text known h

-- ---- the end of the text

same_of : (a b : ℕ) → (a == b) ≡ true → a ≡ b
same_of a b = grind (arith, common_steps)

line_ends : (n : Nest) → head_of n.brackets ≡ None → Rest place.Line 0 (Left n) []
line_ends n e = rest_of tokens_end (left_end n e)

margin_ends : (p : Place) (c : ℕ) (n : Nest) → is_margin p c ≡ true → head_of n.brackets ≡ None → Rest p c (Left n) []
margin_ends place.Line c n e f = rw (same_of c 0 e) (line_ends n f)
margin_ends _ c n e f = cc

control_ends : (q : Control) (s : List ℕ) (n : Nest) → begins_line q ≡ true → head_of n.brackets ≡ None → Goes q s (Left n) n.brackets []
control_ends (at.At x) s n e f = margin_ends x.place x.column n e f
control_ends (at.Block parent c) s n e f = rw (same_of c 0 e) (both empty (line_ends n f))
control_ends (at.Indent parent own c) s n e f = rw (same_of c 0 e) (both no_line (line_ends n f))
control_ends _ s n e f = cc

no_bracket_of : (bs : List Bracket) (n : Nest) → (n.brackets ≡ bs) → not (is_in_brackets (nest_at n.awaited n.levels bs)) ≡ true → head_of n.brackets ≡ None
no_bracket_of [] n e h = ap head_of e
no_bracket_of (k ∷ bs) n e h = cc

done_goes : (t : Bool) (c : Config) → begins_line c.control ≡ t → (t && not (is_in_brackets c.nest)) ≡ true → Goes c.control c.scalar (Left c.nest) c.nest.brackets []
done_goes true c e h = control_ends c.control c.scalar c.nest e (no_bracket_of c.nest.brackets c.nest refl h)
done_goes false c e h = cc

all_goes : (text : List ℕ) (c : Config) → Accepts c text → Goes c.control c.scalar (Left c.nest) c.nest.brackets text
unfolding mistake
all_goes [] c h = done_goes (begins_line c.control) c refl (true_of (is_done c) h)
all_goes (b ∷ text) c h = byte_goes c.control c.scalar c.nest b text (printable_went (is_unprintable c.before c.last b) c b text (all_goes text) h)

-- ---- characters

abbrev Printable : List ℕ → Type 0
Printable text = (c : Config) → mistake step ends c text ≡ None → is_printable c.before c.last text ≡ true

nest_printable : (r : Option Nest) (a b : ℕ) (q : Control) (s : List ℕ) (text : List ℕ) → Printable text
    → after_step (λ d. mistake step ends d text) (option_map (λ n. with_nest a b q s n) r) ≡ None → is_printable a b text ≡ true
nest_printable None a b q s text known h = cc
nest_printable (Some n) a b q s text known h = known (with_nest a b q s n) (went (λ d. mistake step ends d text) (with_nest a b q s n) h)

move_printable : (r : Option Move) (c : Config) (text : List ℕ) → Printable text → after_step (λ d. mistake step ends d text) (option_and_then (λ m. went_by m c) r) ≡ None
    → is_printable c.before c.last text ≡ true
move_printable None c text known h = cc
move_printable (Some m) c text known h = nest_printable (happened m.event c.nest) c.before c.last m.control (written m.write c.scalar) text known h

byte_printable : (t : Bool) (c : Config) (b : ℕ) (text : List ℕ) → Printable text → after_step (λ d. mistake step ends d text) (cond t None (moved (kept b c) b)) ≡ None
    → (not t && is_printable c.last b text) ≡ true
byte_printable true c b text known h = cc
byte_printable false c b text known h = move_printable (move_of c.control c.scalar (is_in_brackets c.nest) b) (kept b c) text known h

all_printable : (text : List ℕ) → Printable text
unfolding mistake is_printable
all_printable [] c h = refl
all_printable (b ∷ text) c h = byte_printable (is_unprintable c.before c.last b) c b text (all_printable text) h

-- ---- the whole text

yaml_of : (text : List ℕ) → is_printable 0 0 text ≡ true → Rest place.Line 0 (Left start.nest) (text ++ 10 ∷ []) → IsYaml text
yaml_of text e (rest_of {ts} h l) = record { characters = e; tokens = ts; spelled = h; documents = documents_of ts l }

-- what the machine accepts is YAML
pub yaml_within : (text : List ℕ) → yaml_mistake text ≡ None → IsYaml text
yaml_within text h = yaml_of text (all_printable text start h) (all_goes (text ++ 10 ∷ []) start (with_newline text start h))
