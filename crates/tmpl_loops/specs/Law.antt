-- The law of copy loops.
use Rattle.std.specs.Prelude.{◌≡◌, ℕ, suc, true, false, List, [], ◌∷◌, ◌++◌, flat_map, Some, None, Ok, Contains, MatchOption}
use Rattle.tmpl_values.specs.Value.{Value, string}
use Rattle.tmpl_syntax.specs.Set.{Template, tree_named}
use Rattle.tmpl_syntax.specs.Tree.{Tree}
use Rattle.tmpl_meaning.specs.Fault.{Cause, steps_spent, no_template}
use Rattle.tmpl_meaning.specs.Laws.{within}
use Rattle.tmpl_meaning.specs.Meaning.{End, Next, Rules, Run, calls_within, done, faulted, meanings, ran}
use Rattle.tmpl_meaning.specs.Pipeline.{Environment}
use Rattle.tmpl_loops.specs.Form.{AreApart, Loop, Turn, constants_after, copy_loop, going, joined, put_for, stopped, text_before, turn_of}

-- a turn keeps its byte, or writes others for it and begins anew, or stops: it calls one of these names, of which there is no
-- template in the set
abbrev pub IsTurn : List Template → List (List ℕ) → Turn → Type 0
IsTurn set stops (going None false) = Unit {0}
IsTurn set stops (going (Some t) true) = Unit {0}
IsTurn set stops (stopped name) = (tree_named name set ≡ None) × Contains stops name
IsTurn set stops turn = ⊥

-- it holds of each
abbrev pub Each : (ℕ → Type 0) → List ℕ → Type 0
Each P [] = Unit {0}
Each P (b ∷ bs) = P b × Each P bs

-- it holds of one
abbrev pub SomeOne : (ℕ → Type 0) → List ℕ → Type 0
SomeOne P bs = (front : List ℕ) × (b : ℕ) × (back : List ℕ) × (bs ≡ front ++ b ∷ back) × P b

-- no step is left, or the turn of one of the bytes is at this stop
abbrev pub MayFault : Loop → Environment → List ℕ → Cause → Type 0
MayFault c constants bytes (steps_spent n) = Unit {0}
MayFault c constants bytes (no_template name) = SomeOne (λ b. turn_of c constants b ≡ stopped name) bytes
MayFault c constants bytes cause = ⊥

-- done, with this text, or at such a fault
abbrev pub EndsWith : Loop → Environment → List ℕ → List ℕ → Run → End → Type 0
EndsWith c constants bytes text r done = r.text ≡ text
EndsWith c constants bytes text r (faulted f) = MayFault c constants bytes f.cause
EndsWith c constants bytes text r end = ⊥

-- what a copy loop writes of a text: what stands before the loop, what it writes for each byte, and what stands after it
abbrev pub copied_by : Loop → Environment → List ℕ → List ℕ
copied_by c constants bytes = text_before c.before ++ (flat_map (put_for c constants) bytes ++ joined c.after)

-- over a text, a copy loop each of whose bytes has a turn writes that, or ends at such a fault
abbrev pub LoopsCopy : Type 0
LoopsCopy = (c : Loop) (constants : Environment) (rules : Rules) (set : List Template) (stops : List (List ℕ)) (depth : ℕ) (name : List ℕ)
    (t : Tree) (bytes : List ℕ) (given : Value) (r : Run)
    → constants_after c.before [] ≡ Some constants → AreApart c constants
    → Each (λ b. IsTurn set stops (turn_of c constants b)) bytes → r.env ≡ ([], given) ∷ []
    → let x = meanings (within rules set depth name t) (copy_loop c) (string bytes) r in
    EndsWith c constants bytes (r.text ++ copied_by c constants bytes) x.0 x.1

-- ---- calls and whole templates

-- a tree in this set is this copy loop, with these constants: names that have to differ do, and each byte has a turn, and each
-- number, since a text may hold any here
pub record IsLoop (set : List Template) (stops : List (List ℕ)) (c : Loop) (constants : Environment) (t : Tree) : Type 0 where
  pub tree : t.nodes ≡ copy_loop c
  pub known : constants_after c.before [] ≡ Some constants
  pub apart : AreApart c constants
  pub turns : (b : ℕ) → IsTurn set stops (turn_of c constants b)

-- a call of it over a text leaves the variables as they are, and writes what the loop does, or ends at such a fault
abbrev pub CallsCopy : Type 0
CallsCopy = (c : Loop) (constants : Environment) (rules : Rules) (set : List Template) (stops : List (List ℕ)) (depth : ℕ) (name : List ℕ)
    (t : Tree) → tree_named name set ≡ Some t → IsLoop set stops c constants t
    → (go : Value → Next) × (calls_within rules set (suc depth) name ≡ Ok go)
    × ((bytes : List ℕ) (r : Run) → ((go (string bytes) r).0.env ≡ r.env)
    × EndsWith c constants bytes (r.text ++ copied_by c constants bytes) (go (string bytes) r).0 (go (string bytes) r).1)

-- a run of it over a text that has no fault writes what the loop does, and else its fault is such a one
abbrev pub RunsCopy : Type 0
RunsCopy = (c : Loop) (constants : Environment) (rules : Rules) (set : List Template) (stops : List (List ℕ)) (name : List ℕ) (t : Tree)
    (bytes : List ℕ) → IsLoop set stops c constants t
    → let x = ran rules set name t (Some (string bytes)) in
    MatchOption x.fault (x.text ≡ copied_by c constants bytes) (λ f. MayFault c constants bytes f.cause)

-- a tree in this set is a copy loop, which stops at no other names
abbrev pub IsCopyLoop : List Template → List (List ℕ) → Tree → Type 0
IsCopyLoop set stops t = (c : Loop) × (constants : Environment) × IsLoop set stops c constants t
