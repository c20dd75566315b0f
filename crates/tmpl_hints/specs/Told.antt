-- The messages about an action that is empty or out of place, a name that is not declared, and what is left open.
use Rattle.std.specs.Prelude.{◌-◌, ℕ, nat_lt, List, [], ◌++◌, codes, decimal}
use Rattle.std.specs.Prelude.{Option, Some, None, if◌then◌else◌}
use Rattle.tmpl_grammar.specs.declared.action.Branch.{Branch}
use Rattle.tmpl_grammar.specs.declared.action.Branch.TheVariants as branch
use Rattle.tmpl_hints.specs.declared.action.Open.{Open}
use Rattle.tmpl_hints.specs.declared.action.Opening.{Opening}
use Rattle.tmpl_hints.specs.declared.action.Opening.TheVariants as opening
use Rattle.tmpl_hints.specs.declared.action.Role.{Role}
use Rattle.tmpl_hints.specs.declared.action.Role.TheVariants as role
use Rattle.tmpl_hints.specs.Action.{own_word}
use Rattle.tmpl_hints.specs.Sentence.{shown}

-- an action that has no tokens, and a comment that does not end
abbrev pub empty_words : List ℕ
empty_words = codes "the action is empty"

abbrev pub comment_words : List ℕ
comment_words = codes "a comment ends with \"*/}}\", or with \"*/\", a space and \"-}}\""

abbrev pub undeclared : List ℕ → List ℕ
undeclared name = codes "variable \"$" ++ shown name ++ codes "\" is not declared: write {{$" ++ shown name
    ++ codes " := VALUE}} before it, in the same part or around it"

-- what is open, by its own word, and where
abbrev pub open_at : Open → List ℕ
open_at part =
    codes "\"" ++ own_word part.opening ++ codes "\" of line " ++ decimal part.line ++ codes " is open"

-- and at the end of a file, in which this many parts are open
abbrev pub more_open : ℕ → List ℕ
more_open depth = if nat_lt 1 depth then codes ", inside " ++ decimal (depth - 1) ++ codes " more" else []

abbrev pub left_open : Open → ℕ → List ℕ
left_open part depth = open_at part ++ codes " at the end of the file" ++ more_open depth

-- what is open where an action stands, after the message about the action
abbrev pub inside : Option Open → List ℕ
inside None = []
inside (Some part) = codes ": " ++ open_at part

abbrev pub lacks_else : List ℕ
lacks_else = codes "\"else\" belongs to no if, with or range"

-- an `else` where this is open: it has none, or goes on with another control, or had one before
abbrev pub else_in : Option Branch → Opening → List ℕ
else_in br opening.Define = lacks_else
else_in br opening.Block = lacks_else
else_in (Some branch.If) opening.With = codes "\"else if\" stands in an if alone: write {{else}}{{if P}}..{{end}}"
else_in (Some branch.If) opening.Range = codes "\"else if\" stands in an if alone: write {{else}}{{if P}}..{{end}}"
else_in (Some branch.With) opening.If = codes "\"else with\" stands in a with alone: write {{else}}{{with P}}..{{end}}"
else_in (Some branch.With) opening.Range = codes "\"else with\" stands in a with alone: write {{else}}{{with P}}..{{end}}"
else_in br other = codes "a second \"else\": a part has one, which comes last"

abbrev pub misplaced_else : Option Branch → Option Open → List ℕ
misplaced_else br None = lacks_else
misplaced_else br (Some part) = else_in br part.opening

-- an action that is out of place where this is open
abbrev pub misplaced : Role → Option Open → List ℕ
misplaced role.End outside = codes "\"end\" closes nothing: no if, with, range, define or block is open"
misplaced role.Jump outside = codes "break and continue stand in the body of a range"
misplaced (role.Open opening.Define) outside = codes "a define stands in no other part" ++ inside outside
misplaced (role.Else br) outside = misplaced_else br outside ++ inside outside
misplaced other outside = []
