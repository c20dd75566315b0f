-- What instructions stand for, apart from how they are held.
use Rattle.std.specs.Prelude.{List, ℕ, [], ◌∷◌, drop, get_or, map, take}
use Rattle.tmpl_code.specs.Instruction.{CommandError, not_a_function, nil_command, wrong_count, no_template}
use Rattle.tmpl_code.specs.Instruction.{push_nothing, push_bool, push_number, push_text, push_dot, push_fields}
use Rattle.tmpl_code.specs.Instruction.{push_slot, chained, call_with, decide, settle, refuse, Instruction, spend, put}
use Rattle.tmpl_code.specs.Instruction.{act, show, show_fields, show_slot, hold, set, set_dot, unless, enter_with, end_with, forget, enter}
use Rattle.tmpl_code.specs.Instruction.{turn, next, leave, deepen, invoke, return_from}
use Rattle.tmpl_code.specs.declared.instruction.CommandError as held_refusal
use Rattle.tmpl_code.specs.declared.instruction.CommandError.TheVariants as r
use Rattle.tmpl_code.specs.declared.instruction.Instruction as held_instruction
use Rattle.tmpl_code.specs.declared.instruction.Instruction.TheVariants as i
use Rattle.tmpl_code.specs.declared.tables.Names.{Names}
use Rattle.tmpl_code.specs.declared.tables.Span.{Span}
use Rattle.tmpl_code.specs.declared.tables.Tables.{Tables}

abbrev pub refusal_of : held_refusal.CommandError → CommandError
refusal_of r.NotAFunction = not_a_function
refusal_of r.NilCommand = nil_command
refusal_of (r.WrongCount f) = wrong_count f

-- what is at a place of the tables: nothing, where that is none of them
abbrev pub text_at : Tables → ℕ → List ℕ
text_at t place = get_or t.texts.items place []

-- a stretch of letters
abbrev pub letters_at : List ℕ → Span → List ℕ
letters_at letters s = take s.count (drop s.start letters)

-- the names in the tables
abbrev pub names_of : Tables → List (List ℕ)
names_of t = map (letters_at t.letters.items) t.spans.items

abbrev pub name_at : Tables → ℕ → List ℕ
name_at t place = get_or (names_of t) place []

abbrev pub names_in : Tables → Span → List (List ℕ)
names_in t s = take s.count (drop s.start (names_of t))

-- names that lie in a block of letters
abbrev pub names_seen : Names → List (List ℕ)
names_seen n = map (letters_at n.letters.now) n.spans.now

-- an instruction over these tables
abbrev pub instruction_of : Tables → held_instruction.Instruction → Instruction
instruction_of t (i.Spend line) = spend line
instruction_of t (i.Put place line) = put line (text_at t place)
instruction_of t i.PushNothing = act push_nothing
instruction_of t (i.PushBool b) = act (push_bool b)
instruction_of t (i.PushNumber n) = act (push_number n)
instruction_of t (i.PushText place) = act (push_text (name_at t place))
instruction_of t i.PushDot = act push_dot
instruction_of t (i.PushFields span) = act (push_fields (names_in t span))
instruction_of t (i.PushSlot slot) = act (push_slot slot)
instruction_of t (i.Chain span) = act (chained (names_in t span))
instruction_of t (i.Call f count piped) = act (call_with f count piped)
instruction_of t (i.Decide is_or piped skip) = act (decide is_or piped skip)
instruction_of t i.Settle = act settle
instruction_of t (i.Refuse why) = act (refuse (refusal_of why))
instruction_of t (i.RefuseTemplate place) = act (refuse (no_template (name_at t place)))
instruction_of t i.Show = show
instruction_of t (i.ShowDot line) = show_fields line []
instruction_of t (i.ShowFields names line) = show_fields line (names_in t names)
instruction_of t (i.ShowSlot slot line) = show_slot line slot []
instruction_of t (i.ShowSlotField slot name line) = show_slot line slot (name_at t name ∷ [])
instruction_of t (i.Hold key) = hold key
instruction_of t (i.Set slot) = set slot
instruction_of t (i.SetDot slot) = set_dot slot
instruction_of t (i.Unless kept skip) = unless kept skip
instruction_of t (i.EnterWith kept skip) = enter_with kept skip
instruction_of t (i.EndWith count variables skip) = end_with count variables skip
instruction_of t (i.Forget count skip) = forget count skip
instruction_of t (i.Enter key skip) = enter key skip
instruction_of t (i.Turn count) = turn count
instruction_of t (i.Next count skip line) = next count skip line
instruction_of t (i.Leave count skip) = leave count skip
instruction_of t (i.Deepen line) = deepen line
instruction_of t (i.Invoke number) = invoke number
instruction_of t (i.Return count) = return_from count

abbrev pub instructions_of : Tables → List held_instruction.Instruction → List Instruction
instructions_of t is = map (instruction_of t) is
