-- The verdict in one pass: what stands at a place is a stack of frames, the newest first, and the names that were
-- declared so far, each once.
use Rattle.std.specs.Prelude.{ℕ, ◌+◌, Bool, true, false, not, ◌&&◌, ◌||◌, leb, List}
use Rattle.std.specs.Prelude.{[], ◌∷◌, ◌++◌, length, take, Option, Some, None, if◌then◌else◌}
use Rattle.std.specs.List.{list_any, list_all}
use Rattle.std.specs.Str.{bytes_eq}
use Rattle.tmpl_grammar.specs.declared.action.Branch.{Branch}
use Rattle.tmpl_grammar.specs.declared.tree.Control.{Control}
use Rattle.tmpl_syntax.specs.Place.Opening.{Opening}
use Rattle.tmpl_syntax.specs.Place.Opening as opened
use Rattle.tmpl_grammar.specs.declared.tree.Control.TheVariants.{Range}
use Rattle.tmpl_syntax.specs.Fault as reason
use Rattle.tmpl_syntax.specs.Fault.{Reason}
use Rattle.tmpl_syntax.specs.Place.Role as role
use Rattle.tmpl_syntax.specs.Place.Role.{Name, Names, Role, plain, opener, else_part, closer, jump, nested}
use Rattle.tmpl_syntax.specs.Place.Open.{is_template}
use Rattle.tmpl_syntax.specs.Place.Body.{joins, names_in, opens_level, most_levels, IsFine, IsFirstRefused, IsLeftOpen}

-- what is open, and what stands inside it: whether an else came, whether a break may stand where it was opened, the
-- levels, how many names there were where it was opened, and how many an else part of it sees
pub record Frame : Type 0 where
  pub opening : Opening
  pub has_else : Bool
  pub around : Bool
  pub levels : ℕ
  pub start : ℕ
  pub part : ℕ

abbrev pub top : List Frame → Option Frame
top [] = None
top (f ∷ fs) = Some f

-- inside an opening: may a break stand there
abbrev pub loops : Opening → Bool → Bool → Bool
loops (opened.control Range) has_else around = not has_else || around
loops (opened.control c) has_else around = around
loops c has_else around = false

abbrev pub in_loop : Option Frame → Bool
in_loop None = false
in_loop (Some f) = loops f.opening f.has_else f.around

abbrev pub levels : Option Frame → ℕ
levels None = 0
levels (Some f) = f.levels

abbrev pub takes_else : Option Branch → Option Frame → Bool
takes_else b None = false
takes_else b (Some f) = joins b f.opening && not f.has_else

abbrev pub is_inside : Option Frame → Bool
is_inside None = false
is_inside (Some f) = true

abbrev pub may_open : Opening → Option Frame → Bool
may_open opened.define t = not (is_inside t)
may_open c t = true

-- not out of place
abbrev pub is_placed : Role → Option Frame → Bool
is_placed (plain p) t = true
is_placed (opener c p) t = may_open c t
is_placed (else_part None) t = takes_else None t
is_placed (else_part (Some (b, p))) t = takes_else (Some b) t
is_placed closer t = is_inside t
is_placed jump t = in_loop t
is_placed (nested None) t = true
is_placed (nested (Some b)) t = takes_else (Some b) t
is_placed (role.flawed why) t = true

abbrev pub is_nested : Role → Bool
is_nested (nested b) = true
is_nested a = false

abbrev pub is_too_deep : Role → Option Frame → Bool
is_too_deep a t = is_nested a || (opens_level a && leb most_levels (levels t))

-- of the names before an item, those that it sees: an else ends the part before it, and an `end` the control
abbrev pub names_at : Role → Option Frame → List Name → List Name
names_at (else_part b) (Some f) names = take f.part names
names_at closer (Some f) names = take f.start names
names_at a t names = names

abbrev pub is_known : List Name → Name → Bool
is_known names name = list_any (λ n. bytes_eq name n) names

abbrev pub knows : List Name → List Name → Bool
knows names uses = list_all (is_known names) uses

-- names with one more, which goes last unless it is there
abbrev pub with_name : List Name → Name → List Name
with_name names name = if is_known names name then names else names ++ name ∷ []

-- .. with more, one by one
abbrev pub with_names : List Name → List Name → List Name
with_names names [] = names
with_names names (d ∷ ds) = with_names (with_name names d) ds

-- the first fault, of an action that is placed, is too deep and knows its names, or not
abbrev pub first_fault : Bool → Bool → Bool → Option Reason
first_fault false deep known = Some reason.out_of_place
first_fault true true known = Some reason.nested_too_deeply
first_fault true false false = Some reason.undeclared_variable
first_fault true false true = None

-- the fault of an action that sees these names, if it has one
abbrev pub fault_in : Role → Option Frame → List Name → Option Reason
fault_in a t names = first_fault (is_placed a t) (is_too_deep a t) (knows names (names_in a).uses)

-- the openings that are a level while they are open
abbrev pub is_level : Opening → Bool
is_level opened.define = false
is_level c = true

-- how many levels an opening adds
abbrev pub level_of : Opening → ℕ
level_of opened.define = 0
level_of c = 1

-- how many names an else part sees, of those before the header and those with it: a range's own are not seen there
abbrev pub part_of : Control → ℕ → ℕ → ℕ
part_of Range before after = before
part_of c before after = after

-- the names at the start of what is opened, and at the start of its else part: a template sees none from outside
abbrev pub start_of : Opening → ℕ → ℕ
start_of (opened.control c) before = before
start_of c before = 0

abbrev pub else_start : Opening → ℕ → ℕ → ℕ
else_start (opened.control c) before after = part_of c before after
else_start c before after = 0

-- an opening in whose outside this frame is the newest and these names are known
abbrev pub enter_opening : Opening → Names → Option Frame → List Name → Frame
enter_opening c p t names = record {
  opening = c;
  has_else = false;
  around = in_loop t;
  levels = levels t + level_of c;
  start = start_of c (length names);
  part = else_start c (length names) (length (with_names names p.declares));
}

-- whether a plain else came, after an else that begins with a control or does not
abbrev pub else_came : Bool → Bool → Bool
else_came false came = true
else_came true came = came

-- .. and the levels there
abbrev pub else_levels : Bool → ℕ → ℕ
else_levels false n = n
else_levels true n = n + 1

-- .. with this many names at the beginning of its part
abbrev pub with_part : Bool → ℕ → Frame → Frame
with_part b part f = record f { has_else = else_came b f.has_else; levels = else_levels b f.levels; part = part }

abbrev pub parted_all : Bool → ℕ → List Frame → List Frame
parted_all b part [] = []
parted_all b part (f ∷ fs) = with_part b part f ∷ fs

abbrev pub ended_all : List Frame → List Frame
ended_all [] = []
ended_all (f ∷ fs) = fs

-- the frames after an action that is in place, and sees these names
abbrev pub frames_after : Role → List Frame → List Name → List Frame
frames_after (plain p) fs names = fs
frames_after (opener c p) fs names = enter_opening c p (top fs) names ∷ fs
frames_after (else_part None) fs names = parted_all false (length names) fs
frames_after (else_part (Some (b, p))) fs names = parted_all true (length (with_names names p.declares)) fs
frames_after closer fs names = ended_all fs
frames_after jump fs names = fs
frames_after (nested b) fs names = fs
frames_after (role.flawed why) fs names = fs

-- the names of the template in which a place stands, and those of the templates around it, the nearest first
pub record Known : Type 0 where
  pub inner : List Name
  pub around : List (List Name)

abbrev pub with_inner : Known → List Name → Known
with_inner k names = record { inner = names; around = k.around }

abbrev pub first_names : List (List Name) → List Name
first_names [] = []
first_names (ns ∷ nss) = ns

abbrev pub rest_names : List (List Name) → List (List Name)
rest_names [] = []
rest_names (ns ∷ nss) = nss

-- after an opening: a control adds what its header declares, and in a template nothing is known yet
abbrev pub opened_names : Opening → List Name → Known → Known
opened_names (opened.control c) declares k = with_inner k (with_names k.inner declares)
opened_names c declares k = record { inner = []; around = k.inner ∷ k.around }

abbrev pub closed_if : Bool → Known → Known
closed_if true k = record { inner = first_names k.around; around = rest_names k.around }
closed_if false k = k

-- after the `end` of an opening: the names around a template are known again
abbrev pub closed_names : Option Frame → Known → Known
closed_names None k = k
closed_names (Some f) k = closed_if (is_template f.opening) k

-- the names after an action that is in place and sees these
abbrev pub known_after : Role → Option Frame → Known → Known
known_after (plain p) t k = with_inner k (with_names k.inner p.declares)
known_after (opener c p) t k = opened_names c p.declares k
known_after (else_part None) t k = k
known_after (else_part (Some (b, p))) t k = with_inner k (with_names k.inner p.declares)
known_after closer t k = closed_names t k
known_after jump t k = k
known_after (nested b) t k = k
known_after (role.flawed why) t k = k

-- .. and of an item
abbrev pub fault_at : Role → Option Frame → List Name → Option Reason
fault_at (role.flawed why) t names = Some why
fault_at x t names = fault_in x t names

-- what is found of a list: it is fine, or the item at a place is refused for a reason, or something is left open
pub data Verdict : Type 0 where
  fine : Verdict
  refused : ℕ → Reason → Verdict
  left_open : Verdict

abbrev pub Judged : List Role → Verdict → Type 0
Judged xs fine = IsFine xs
Judged xs (refused i why) = IsFirstRefused xs i why
Judged xs left_open = IsLeftOpen xs

abbrev pub at_end : List Frame → Verdict
at_end [] = fine
at_end (f ∷ fs) = left_open

abbrev pub unless_fault : Option Reason → ℕ → Verdict → Verdict
unless_fault None i v = v
unless_fault (Some f) i v = refused i f

-- the verdict of the items from the place i on, where these frames and names stand
abbrev pub verdict_from : ℕ → List Frame → Known → List Role → Verdict
verdict_from i fs known [] = at_end fs
verdict_from i fs known (x ∷ xs) =
    let seen = names_at x (top fs) known.inner in
    unless_fault (fault_at x (top fs) seen) i
    (verdict_from (i + 1) (frames_after x fs seen) (known_after x (top fs) (with_inner known seen)) xs)

abbrev pub none_known : Known
none_known = record { inner = []; around = [] }

unfoldable pub verdict_of : List Role → Verdict
verdict_of xs = verdict_from 0 [] none_known xs
