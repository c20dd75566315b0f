-- The law that `and` and `or` are those of the function table, the law that a run only adds to its text, what never
-- comes in a run of a formed tree, and what limits, files and lines do to a run.
use Rattle.std.specs.Prelude.{◌≡◌, ◌≤◌, ℕ, Bool, true, false, List, [], ◌∷◌, ◌++◌, length, map, Option}
use Rattle.std.specs.Prelude.{Some, Ok, MatchOption, option_map, option_to_list}
use Rattle.tmpl_values.specs.Value.{Value, nothing}
use Rattle.tmpl_funcs.specs.Func.{takes}
use Rattle.tmpl_funcs.specs.declared.func.Func.{Func}
use Rattle.tmpl_funcs.specs.declared.func.Func.TheVariants.{And, Or}
use Rattle.tmpl_grammar.specs.Tree.{Operands}
use Rattle.tmpl_syntax.specs.Set.{Template, tree_named}
use Rattle.tmpl_syntax.specs.Kept.{IsSet}
use Rattle.tmpl_syntax.specs.Parse.{Parses, base_name}
use Rattle.tmpl_syntax.specs.Tree as tree
use Rattle.tmpl_syntax.specs.Tree.{NodeKind, Nodes, Tree}
use Rattle.tmpl_syntax.specs.Place.Role.{Name}
use Rattle.tmpl_syntax.specs.Formed.{are_formed, scope_after}
use Rattle.tmpl_syntax.specs.Print.Printed.{printed_set, unlined}
use Rattle.tmpl_syntax.specs.Print.Laws.{unlined_template}
use Rattle.tmpl_meaning.specs.Fault.{Cause, Fault, calls_too_deep, steps_spent}
use Rattle.tmpl_meaning.specs.Meaning.{End, Next, Ran, Rules, Run, Setting, broke, calls_within, continued, done}
use Rattle.tmpl_meaning.specs.Meaning.{meaning, meanings, ran, setting_of}
use Rattle.tmpl_meaning.specs.Pipeline.{Environment, Place, apply_function, junction, operand_values}

-- `or`, or else `and`
abbrev pub joining : Bool → Func
joining true = Or
joining false = And

-- where all the operands of an `and` or an `or` have values, it gives what the function table says of these
abbrev pub JoinsByTable : Type 0
JoinsByTable = (is_or : Bool) (s : Place) (os : Operands) (piped : Option Value) (vs : List Value)
    → (operand_values s os).result ≡ Ok vs
    → takes (joining is_or) (length (vs ++ option_to_list piped)) ≡ true
    → (junction is_or s nothing os piped).result ≡ (apply_function (joining is_or) (vs ++ option_to_list piped)).result

-- however far a run has come, the text after this part of it begins with the text before
abbrev pub OnlyAdds : Next → Type 0
OnlyAdds part = (r : Run) → (more : List ℕ) × ((part r).0.text ≡ r.text ++ more)

-- a template of this name, in a set where this many calls may be made inside one another
abbrev pub within : Rules → List Template → ℕ → List ℕ → Tree → Setting
within rules set depth name t = setting_of rules (calls_within rules set depth) name t

-- a node of a template only adds to the text
abbrev pub NodeAdds : Type 0
NodeAdds = (rules : Rules) (set : List Template) (depth : ℕ) (name : List ℕ) (t : Tree)
    (line : ℕ) (n : NodeKind) (d : Value) → OnlyAdds (meaning (within rules set depth name t) line n d)

-- and so do nodes one after the other
abbrev pub NodesAdd : Type 0
NodesAdd = (rules : Rules) (set : List Template) (depth : ℕ) (name : List ℕ) (t : Tree)
    (ns : Nodes) (d : Value) → OnlyAdds (meanings (within rules set depth name t) ns d)

-- ---- what never comes

-- the variables have the names that are in scope, and the oldest is `$`
abbrev pub HasScope : List Name → Run → Type 0
HasScope scope r = map (λ v. v.0) r.env ≡ scope ++ [] ∷ []

-- the scope after nodes
abbrev pub scope_past : Nodes → List Name → List Name
scope_past tree.none scope = scope
scope_past (tree.then line n ns) scope = scope_past ns (scope_after n scope)

-- where formed nodes are done, the variables have the names in scope, if they had them before
abbrev pub StaysInScope : Type 0
StaysInScope = (rules : Rules) (set : List Template) (depth : ℕ) (name : List ℕ) (t : Tree)
    (ns : Nodes) (scope : List Name) (loop : Bool) (levels : ℕ) (d : Value) (r : Run)
    → are_formed ns scope loop levels ≡ true → HasScope scope r
    → (meanings (within rules set depth name t) ns d r).1 ≡ done
    → HasScope (scope_past ns scope) (meanings (within rules set depth name t) ns d r).0

-- a run with older variables after its own
abbrev pub with_older : Environment → Run → Run
with_older older r = record r { env = r.env ++ older }

-- from where a run stands, a part of it does the same whatever older variables there are, and leaves them as they are:
-- what `lookup` and `assigned` say of a name that is none of its own plays no part
abbrev pub FindsItsOwn : Next → Run → Type 0
FindsItsOwn part r = (older : Environment) → part (with_older older r) ≡ (with_older older (part r).0, (part r).1)

-- so it is of formed nodes, from where the variables have the names in scope
abbrev pub FindsNames : Type 0
FindsNames = (rules : Rules) (set : List Template) (depth : ℕ) (name : List ℕ) (t : Tree)
    (ns : Nodes) (scope : List Name) (loop : Bool) (levels : ℕ) (d : Value) (r : Run)
    → are_formed ns scope loop levels ≡ true → HasScope scope r
    → FindsItsOwn (meanings (within rules set depth name t) ns d) r

-- done, or at a fault
abbrev pub IsOver : End → Type 0
IsOver broke = ⊥
IsOver continued = ⊥
IsOver end = Unit {0}

-- formed nodes that stand in no body of a range end neither at a `break` nor at a `continue`
abbrev pub EndsInRange : Type 0
EndsInRange = (rules : Rules) (set : List Template) (depth : ℕ) (name : List ℕ) (t : Tree)
    (ns : Nodes) (scope : List Name) (levels : ℕ) (d : Value) (r : Run)
    → are_formed ns scope false levels ≡ true → HasScope scope r
    → IsOver (meanings (within rules set depth name t) ns d r).1

-- ---- limits

-- a text begins another
abbrev pub Begins : List ℕ → List ℕ → Type 0
Begins front text = (rest : List ℕ) × (text ≡ front ++ rest)

-- the cause is no limit that was met
abbrev pub IsNoLimit : Cause → Type 0
IsNoLimit (steps_spent limit) = ⊥
IsNoLimit (calls_too_deep limit) = ⊥
IsNoLimit cause = Unit {0}

-- a run reaches its end, or a fault that is no limit's
abbrev pub IsWithinLimits : Ran → Type 0
IsWithinLimits r = MatchOption r.fault (Unit {0}) (λ f. IsNoLimit f.cause)

-- a run is another one, or that one as far as a limit let it come: its text begins the other text, and if no limit ends
-- it, it is the same in all
pub record IsCutOf (short long : Ran) : Type 0 where
  pub begins : Begins short.text long.text
  pub same : IsWithinLimits short → short ≡ long

-- so is a run of any template to one with more steps and a greater depth, or as many and as great
abbrev pub LimitsOnlyCut : Type 0
LimitsOnlyCut =
    (rules : Rules) (steps depth : ℕ) (set : List Template) (name : List ℕ) (t : Tree) (input : Option Value)
    → rules.step_limit ≤ steps → rules.depth_limit ≤ depth
    → IsCutOf (ran rules set name t input)
    (ran (record rules { step_limit = steps; depth_limit = depth }) set name t input)

-- ---- files and lines

-- a fault without its file and line: the name of the template, and the cause
abbrev pub unplaced_fault : Fault → List ℕ × Cause
unplaced_fault f = (f.template, f.cause)

-- the result of a run, without the file and the line of its fault
pub record Unplaced : Type 0 where
  pub text : List ℕ
  pub fault : Option (List ℕ × Cause)
  pub made_text : Bool

abbrev pub without_place : Ran → Unplaced
without_place r = record {
  text = r.text;
  fault = option_map unplaced_fault r.fault;
  made_text = r.made_text;
}

-- trees that are alike apart from files and lines, in sets that are so, come to the same but for the file and the line
-- of a fault, over all data and by all rules
abbrev pub AlikeRunAlike : Type 0
AlikeRunAlike =
    (rules : Rules) (set other : List Template) (name : List ℕ) (t u : Tree) (input : Option Value)
    → map unlined_template set ≡ map unlined_template other → unlined t.nodes ≡ unlined u.nodes
    → without_place (ran rules set name t input) ≡ without_place (ran rules other name u input)

-- where what is printed of a set is accepted, with no set there, as a file that has the base name of one of its
-- templates, each of them has the same result but for the file and the line of a fault
abbrev pub PrintedRunsAlike : Type 0
PrintedRunsAlike =
    (rules : Rules) (ts new : List Template) (file name : List ℕ) (own t : Tree) (input : Option Value)
    → IsSet ts → tree_named (base_name file) ts ≡ Some own → Parses [] file (printed_set ts) (Ok new)
    → tree_named name ts ≡ Some t
    → (u : Tree) × (tree_named name new ≡ Some u)
    × (without_place (ran rules new name u input) ≡ without_place (ran rules ts name t input))
