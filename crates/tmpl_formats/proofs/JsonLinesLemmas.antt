-- What the machine for JSON lines accepts is JSON lines.
use Rattle.std.proofs.Common.{◌≡◌, ℕ, ◌==◌, Bool, true, false, cond, List, [], ◌∷◌, Option, Some, None, arith, refl}
use Rattle.std.proofs.lemmas.Grind.{common_steps}
use Rattle.std.specs.Prelude.{option_map}
use Rattle.tmpl_formats.proofs.JsonLemmas.{json_within}
use Rattle.tmpl_formats.proofs.LineLemmas.{Left, at_last, before_more, left-cons, lines-left, left-newline}
use Rattle.tmpl_formats.proofs.MachineLemmas.{went}
use Rattle.tmpl_formats.proofs.JsonGrammar.{HasSpace, no_space, space, IsElement, element}
use Rattle.tmpl_formats.specs.computed.JsonBytes.{is_white}
use Rattle.tmpl_formats.specs.JsonLines as lines
use Rattle.tmpl_formats.specs.JsonLines.{IsJsonLine, IsJsonLines}
use Rattle.tmpl_formats.specs.Lines.{Lines, last, more}
use Rattle.tmpl_formats.proofs.KitValueLemmas.{json_read}
use Rattle.std.specs.List.{list_all}
use Rattle.json.specs.Word.{is_space}
use Rattle.tmpl_formats.specs.computed.Json as json
use Rattle.tmpl_formats.specs.computed.JsonLines.{ends, in_value, within, step, json_lines_mistake}
use Rattle.tmpl_formats.specs.computed.Machine.{mistake, after_step}

-- a line by the grammar
data OwnLine : List ℕ → Type 0 where
  blank : {line : List ℕ} → HasSpace line [] → OwnLine line
  value : {line : List ℕ} → IsElement line → OwnLine line

-- what is left of a line
abbrev LineAt : Option json.Config → List ℕ → Type 0
LineAt None line = OwnLine line
LineAt (Some c) line = mistake json.step json.ends c line ≡ None

abbrev Goes : Option json.Config → List ℕ → Type 0
Goes x text = Left OwnLine (LineAt x) text

abbrev Known : List ℕ → Type 0
Known text = (x : Option json.Config) → mistake step ends x text ≡ None → Goes x text

on : (x : Option json.Config) (text : List ℕ) → Known text → after_step (λ d. mistake step ends d text) (Some x) ≡ None → Goes x text
on x text known h = known x (went (λ d. mistake step ends d text) x h)

-- a byte of a value, and the rest of its line
value_more : (c d : json.Config) (b : ℕ) (line : List ℕ) → json.step c b ≡ Some d → mistake json.step json.ends d line ≡ None → mistake json.step json.ends c (b ∷ line) ≡ None
unfolding mistake
value_more c d b line e h = rw e (rw h refl)

value_goes : (n : Option json.Config) (c : json.Config) (b : ℕ) (text : List ℕ) → json.step c b ≡ n
    → after_step (λ d. mistake step ends d text) (option_map (λ d. Some d) n) ≡ None → Known text → Goes (Some c) (b ∷ text)
value_goes None c b text e h known = cc
value_goes (Some d) c b text e h known = left-cons b text (λ line p. value_more c d b line e p) (on (Some d) text known h)

space_line : (b : ℕ) (line : List ℕ) → is_white b ≡ true → OwnLine line → OwnLine (b ∷ line)
space_line b line w (blank p) = blank (space w p)
space_line b line w (value (element p v q)) = value (element (space w p) v q)

-- a line that begins with a value
value_line : (line : List ℕ) → mistake json.step json.ends json.start line ≡ None → OwnLine line
value_line line h = value (json_within line h)

left_map : {P Q : List ℕ → Type 0} (text : List ℕ) → ((line : List ℕ) → P line → Q line) → Left OwnLine P text → Left OwnLine Q text
left_map _ f (at_last {rest} p) = at_last (f rest p)
left_map _ f (before_more rest others p ls) = before_more rest others (f rest p) ls

start_goes : (t : Bool) (b : ℕ) (text : List ℕ) → is_white b ≡ t
    → after_step (λ d. mistake step ends d text) (cond t (Some None) (in_value json.start b)) ≡ None → Known text → Goes None (b ∷ text)
start_goes true b text w h known = left-cons b text (λ line p. space_line b line w p) (on None text known h)
start_goes false b text w h known = left_map (b ∷ text) value_line (value_goes (json.step json.start b) json.start b text refl h known)

within_goes : (x : Option json.Config) (b : ℕ) (text : List ℕ) → after_step (λ d. mistake step ends d text) (within x b) ≡ None → Known text → Goes x (b ∷ text)
within_goes None b text h known = start_goes (is_white b) b text refl h known
within_goes (Some c) b text h known = value_goes (json.step c b) c b text refl h known

ends_line : (x : Option json.Config) → ends x ≡ true → LineAt x []
unfolding mistake
ends_line None h = blank no_space
ends_line (Some c) h = rw h refl

newline_goes : (t : Bool) (x : Option json.Config) (text : List ℕ) → ends x ≡ t → after_step (λ d. mistake step ends d text) (cond t (Some None) None) ≡ None → Known text
    → Goes x (10 ∷ text)
newline_goes true x text e h known = left-newline text (ends_line x e) (on None text known h)
newline_goes false x text e h known = cc

equal_of : (m n : ℕ) → (m == n) ≡ true → m ≡ n
equal_of m n = grind (arith, common_steps)

byte_goes : (t : Bool) (x : Option json.Config) (b : ℕ) (text : List ℕ) → (b == 10) ≡ t
    → after_step (λ d. mistake step ends d text) (cond t (cond (ends x) (Some None) None) (within x b)) ≡ None → Known text → Goes x (b ∷ text)
byte_goes true x b text e h known = rw (equal_of b 10 e) (newline_goes (ends x) x text refl h known)
byte_goes false x b text e h known = within_goes x b text h known

end_goes : (t : Bool) (x : Option json.Config) → ends x ≡ t → cond {A = Option ℕ} t None (Some 0) ≡ None → Goes x []
end_goes true x e h = at_last (ends_line x e)
end_goes false x e h = cc

all_goes : (text : List ℕ) (x : Option json.Config) → mistake step ends x text ≡ None → Goes x text
unfolding mistake
all_goes [] x h = end_goes (ends x) x refl h
all_goes (b ∷ text) x h = byte_goes (b == 10) x b text refl h (all_goes text)

is_space_of : (b : ℕ) → is_white b ≡ true → is_space b ≡ true
is_space_of b h = grind (arith, common_steps)

all_space : (line rest : List ℕ) → rest ≡ [] → HasSpace line rest → list_all is_space line ≡ true
all_space line _ e no_space = rw e refl
all_space _ rest e (space {b} {text} w h) = rw (is_space_of b w) (all_space text rest e h)

json_line : (line : List ℕ) → OwnLine line → IsJsonLine line
json_line line (blank h) = lines.blank (all_space line [] refl h)
json_line line (value h) = lines.value (json_read line h)

json_lines : (text : List ℕ) → Lines OwnLine text → IsJsonLines text
json_lines text (last h) = last (json_line text h)
json_lines _ (more line rest h ls) = more line rest (json_line line h) (json_lines rest ls)

-- what the machine accepts is JSON lines
pub json_lines_within : (text : List ℕ) → json_lines_mistake text ≡ None → IsJsonLines text
json_lines_within text h = json_lines text (lines-left text (all_goes text None h))
