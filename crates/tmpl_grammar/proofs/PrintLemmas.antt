-- For what adds bytes to a vector: what the vector held stays; and what is printed of a list, one by one.
use Rattle.std.proofs.Common.{◌≡◌, ◌∙◌, ℕ, ◌+◌, ◌<◌, Bool, true, false, List, ◌∷◌, ◌++◌, Result, Ok, Err, sym, ap, arith, drop, get_or, append_assoc, take-take}
use Rattle.std.specs.Prelude.{OnErr, codes, length, take}
use Rattle.std.proofs.Math.Seq.{take-append_seam}
use Rattle.std.proofs.lemmas.List.{drop_more, length-take}
use Rattle.std.proofs.lemmas.List.Concat.{flat_map-append}
use Rattle.tmpl_lex.specs.Piece.{Token}
use Rattle.tmpl_grammar.specs.Print.{bytes_of, chain_tokens, command_tokens, later_tokens, more_tokens, operand_tokens}
use Rattle.tmpl_grammar.specs.Tree as tree
use Rattle.tmpl_grammar.specs.Tree.{Operand, Operands, Pipeline}
use Rattle.tmpl_grammar.specs.View.{commands_in, operand_of, operands_in}
use Rattle.tmpl_grammar.specs.computed.Print.{commands_by, operands_by, unless}
use Rattle.tmpl_grammar.specs.declared.tree.Command as held_command
use Rattle.tmpl_grammar.specs.declared.tree.Operand as held_operand

-- what was there before some bytes were added is there after it
pub begins_added : (old more new : List ℕ) → new ≡ old ++ more → take (length old) new ≡ old
begins_added old more new is = ap (take (length old)) is ∙ take-append_seam old more

-- what was there at first is there too, where what still has it stays
pub begins_on : (old mid new : List ℕ) → take (length old) mid ≡ old → take (length mid) new ≡ mid → take (length old) new ≡ old
begins_on old mid new first kept =
    let same : length (take (length old) mid) ≡ length old = ap length first in
    sym (take-take (length old) (length mid) new (omega (arith, length-take (length old) mid))) ∙ ap (take (length old)) kept ∙ first

pub still_begins : (old more mid new : List ℕ) → mid ≡ old ++ more → take (length mid) new ≡ mid → take (length old) new ≡ old
still_begins old more mid new is kept = begins_on old mid new (begins_added old more mid is) kept

-- the same, where what was added last may have failed
pub still_begins_on_err : {F : Type 0} (r : Result (Unit {0}) F) (old more mid new : List ℕ) → mid ≡ old ++ more → OnErr r (take (length mid) new ≡ mid)
    → OnErr r (take (length old) new ≡ old)
still_begins_on_err (Ok u) old more mid new is kept = tt
still_begins_on_err (Err e) old more mid new is kept = still_begins old more mid new is kept

-- what holds in any case holds where a call failed
pub on_err : {A F P : Type 0} (r : Result A F) → P → OnErr r P
on_err (Ok x) p = tt
on_err (Err e) p = p

-- one more of a list is printed, after what parts it from the one before
pub printed_next : (old sep mid more new rest all : List ℕ) → mid ≡ old ++ sep → new ≡ mid ++ more → old ++ (sep ++ (more ++ rest)) ≡ all
    → new ++ rest ≡ all
printed_next old sep mid more new rest all first second is =
    ap (λ bytes. bytes ++ rest) (second ∙ ap (λ bytes. bytes ++ more) first) ∙ append_assoc (old ++ sep) more rest
    ∙ append_assoc old sep (more ++ rest) ∙ is

commands_next : (first : Bool) (os : Operands) (cs : Pipeline)
    → bytes_of (commands_by first (tree.command os cs)) ≡ unless first (codes " | ") ++ (bytes_of (command_tokens os) ++ bytes_of (commands_by false cs))
commands_next true os cs = flat_map-append (λ (t : Token). t.bytes) (command_tokens os) (later_tokens cs)
commands_next false os cs = ap (λ bytes. codes " | " ++ bytes) (flat_map-append (λ (t : Token). t.bytes) (command_tokens os) (later_tokens cs))

operands_next : (first : Bool) (o : Operand) (os : Operands)
    → bytes_of (operands_by first (tree.operand o os)) ≡ unless first (codes " ") ++ (bytes_of (operand_tokens o) ++ bytes_of (operands_by false os))
operands_next true o os = flat_map-append (λ (t : Token). t.bytes) (operand_tokens o) (more_tokens os)
operands_next false o os = ap (λ bytes. codes " " ++ bytes) (flat_map-append (λ (t : Token). t.bytes) (operand_tokens o) (more_tokens os))

-- the rest of the commands or operands is the one at a place and those after it
pub commands_at : (first : Bool) (cs : List held_command.Command) (i : ℕ) (c : held_command.Command) → i < length cs → c ≡ get_or cs i c
    → bytes_of (commands_by first (commands_in (drop i cs)))
    ≡ unless first (codes " | ") ++ (bytes_of (command_tokens (operands_in c.operands.items)) ++ bytes_of (commands_by false (commands_in (drop (i + 1) cs))))
commands_at first cs i c lt is =
    ap (λ ds. bytes_of (commands_by first (commands_in ds))) (drop_more cs i c lt ∙ ap (λ d. d ∷ drop (i + 1) cs) (sym is))
    ∙ commands_next first (operands_in c.operands.items) (commands_in (drop (i + 1) cs))

pub operands_at : (first : Bool) (os : List held_operand.Operand) (i : ℕ) (o : held_operand.Operand) → i < length os → o ≡ get_or os i o
    → bytes_of (operands_by first (operands_in (drop i os)))
    ≡ unless first (codes " ") ++ (bytes_of (operand_tokens (operand_of o)) ++ bytes_of (operands_by false (operands_in (drop (i + 1) os))))
operands_at first os i o lt is =
    ap (λ ps. bytes_of (operands_by first (operands_in ps))) (drop_more os i o lt ∙ ap (λ p. p ∷ drop (i + 1) os) (sym is))
    ∙ operands_next first (operand_of o) (operands_in (drop (i + 1) os))

-- .. and so the rest of a chain
pub chain_at : (names : List (List ℕ)) (i : ℕ) (name : List ℕ) → i < length names → name ≡ get_or names i name
    → bytes_of (chain_tokens (drop i names)) ≡ codes "." ++ (name ++ bytes_of (chain_tokens (drop (i + 1) names)))
chain_at names i name lt is =
    ap (λ ns. bytes_of (chain_tokens ns)) (drop_more names i name lt ∙ ap (λ n. n ∷ drop (i + 1) names) (sym is))
