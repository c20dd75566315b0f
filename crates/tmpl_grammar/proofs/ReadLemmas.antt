-- For `one_reading`: what is read is what the grammar spells, by induction on the tokens.
use Rattle.std.proofs.Common.{arith, ◌≡◌, ◌∙◌, ℕ, true, List, [], ◌∷◌, ◌++◌, Option, Some, None, IfSome, refl, ap, sym, append_assoc}
use Rattle.std.proofs.lemmas.List.{append-nil}
use Rattle.std.specs.Option.{option_map, option_and_then}
use Rattle.std.proofs.lemmas.Option.{IfSome_then}
use Rattle.std.proofs.lemmas.Bool.{cond_both}
use Rattle.tmpl_lex.specs.declared.piece.TokenKind.{TokenKind}
use Rattle.tmpl_lex.specs.declared.piece.TokenKind.TheVariants as kind
use Rattle.tmpl_lex.specs.Piece.{Token}
use Rattle.tmpl_grammar.specs.Token.{begins_name, name_in}
use Rattle.tmpl_grammar.specs.Tree as tree
use Rattle.tmpl_grammar.specs.Tree.{Operand, Operands, Pipeline, operands_from, commands_from}
use Rattle.tmpl_grammar.specs.Operand as operand
use Rattle.tmpl_grammar.specs.Operand.{IsOperand}
use Rattle.tmpl_grammar.specs.computed.Operand.{begins_later}
use Rattle.tmpl_grammar.specs.computed.Operand.{operand_at}
use Rattle.tmpl_grammar.specs.computed.Parser as parser
use Rattle.tmpl_grammar.specs.computed.Parser.{Parser, Partial, with_last_operand, more_commands, may_stand, with_field, step, step_by}
use Rattle.tmpl_grammar.specs.computed.Parser.{steps, finished, finished_with, commands_after}
use Rattle.tmpl_grammar.specs.Pipeline.{IsBlank, may_be_later, SpellsPipeline}
use Rattle.tmpl_grammar.proofs.PartsLemmas.{is-one, pipeline-whole, ChainParts, ChainedParts, OperandParts, MoreParts, CommandParts, LaterParts, PipelineParts}
use Rattle.tmpl_grammar.proofs.IsOperandLemmas.{operand-admitted}
use Rattle.tmpl_grammar.proofs.SpelledLemmas.{parser_at, operand_list, command_list, operands-back, commands-back, more-whole, later-is, stands-anywhere}

-- ---- what is read so far

-- perhaps white space, and perhaps more operands
abbrev SpellsApart : Operands → List Token → Type 0
SpellsApart tree.no_operand ts = IsBlank ts
SpellsApart (tree.operand o os) ts = CommandParts (tree.operand o os) ts

-- these operands may stand after those of the command, of which there is one at least then
abbrev MayFollow : List Operands → List Operand → Operands → Type 0
MayFollow cs os (tree.operand o ms) = may_stand cs os o ≡ true
MayFollow cs [] tree.no_operand = ⊥
MayFollow cs (o ∷ os) tree.no_operand = Unit {0}

-- with any such operands and any later commands after them, the tokens are a pipeline
abbrev Begins : List Operands → List Operand → List Token → Type 0
Begins cs os ts =
    (ms : Operands) (later : Pipeline) (us vs : List Token) → SpellsApart ms us → MayFollow cs os ms → LaterParts later vs
    → PipelineParts (commands_from (cs ++ operands_from (os ++ operand_list ms) ∷ command_list later)) (ts ++ (us ++ vs))

-- so they are, and perhaps an operand that has nothing after it
abbrev Reads : List Operands → List Operand → Option Operand → List Token → Type 0
Reads cs os None ts = Begins cs os ts
Reads cs os (Some o) ts =
    (a : List Token) × (b : List Token) × (ts ≡ a ++ b) × Begins cs os a × OperandParts o b × (may_stand cs os o ≡ true)

-- with any later commands after them, the tokens are a pipeline
abbrev Ends : List Operands → List Token → Type 0
Ends cs ts = (later : Pipeline) (vs : List Token) → LaterParts later vs → PipelineParts (commands_from (cs ++ command_list later)) (ts ++ vs)

whole-command : (cs : List Operands) (ms : Operands) (us : List Token) → SpellsApart ms us → MayFollow cs [] ms → CommandParts ms us
whole-command cs ms us h k = grind arith

begins-start : Begins [] [] []
begins-start ms later us vs s may l = rw (operands-back ms, commands-back later) (us, vs, refl, whole-command [] ms us s may, l)

-- white space
module _ (t : Token) (is : t.kind ≡ kind.Space) (cs : List Operands) (os : List Operand) where
  begins-spaced : (ts : List Token) → Begins cs os ts → Begins cs os (ts ++ t ∷ [])
  begins-spaced ts f ms later us vs s may l = rw (append_assoc ts (t ∷ []) (us ++ vs)) (f ms later (t ∷ us) vs (spaced ms s) may l)
    where
      spaced : (ms : Operands) → SpellsApart ms us → SpellsApart ms (t ∷ us)
      spaced tree.no_operand s = (is, s)
      spaced (tree.operand p ps) (ws, a, b, at, blank, spells, rest) = (t ∷ ws, a, b, ap (λ us. t ∷ us) at, (is, blank), spells, rest)

  begins-operand : (o : Operand) (a b : List Token) → Begins cs os a → OperandParts o b → may_stand cs os o ≡ true
      → Begins cs (os ++ o ∷ []) ((a ++ b) ++ t ∷ [])
  begins-operand o a b f spells stands ms later us vs s may l =
      simp append_assoc (simp append_assoc at (f (tree.operand o ms) later (b ++ t ∷ us) vs ([], b, t ∷ us, refl, tt, spells, apart ms s) stands l))
    where
      apart : (ms : Operands) → SpellsApart ms us → MoreParts ms (t ∷ us)
      apart tree.no_operand s = (is, s)
      apart (tree.operand p ps) (ws, a, b, at, blank, spells, rest) = (t, ws, a, b, ap (λ us. t ∷ us) at, (is, blank), spells, rest)

-- ---- ends of commands

-- after a whole command stands a later one
begins-later : (cs : List Operands) (c ms : Operands) → MayFollow (cs ++ c ∷ []) [] ms → may_be_later ms ≡ true
begins-later cs c tree.no_operand may = absurd may
begins-later [] c (tree.operand p ps) may = later-is p ps ∙ may
begins-later (d ∷ cs) c (tree.operand p ps) may = later-is p ps ∙ may

-- these are the whole commands, with the one that ends
record Completes (cs : List Operands) (os : List Operand) (last : Option Operand) (done : List Operands) : Type 0 where
  ends : (ts : List Token) → Reads cs os last ts → Ends done ts
  later : (ms : Operands) → MayFollow done [] ms → may_be_later ms ≡ true

completes : (cs : List Operands) (os : List Operand) (last : Option Operand) → IfSome (more_commands cs (with_last_operand last os)) (Completes cs os last)
completes cs [] None = tt
completes cs (o ∷ os) None = record {
  ends = λ ts f later vs l.
      rw (append_assoc cs (operands_from (o ∷ os) ∷ []) (command_list later)) (rw (append-nil os) at (f tree.no_operand later [] vs tt tt l));
  later = begins-later cs (operands_from (o ∷ os));
}
completes cs os (Some o) = rw (more-whole cs os o) (record {
  ends = λ ts r later vs l.
      rw (r.2, append_assoc r.0 r.1 vs, append_assoc cs (operands_from (os ++ o ∷ []) ∷ []) (command_list later))
      (r.3 (tree.operand o tree.no_operand) later r.1 vs ([], r.1, [], sym (append-nil r.1), tt, r.4, tt) r.5 l);
  later = begins-later cs (operands_from (os ++ o ∷ []));
})

ends-whole : (cs : List Operands) (ts : List Token) → Ends cs ts → PipelineParts (commands_from cs) ts
ends-whole cs ts f = simp append-nil at (f tree.no_command [] refl)

begins-barred : (t : Token) (cs : List Operands) (ts : List Token) → t.kind ≡ kind.Pipe → ((ms : Operands) → MayFollow cs [] ms → may_be_later ms ≡ true)
    → Ends cs ts → Begins cs [] (ts ++ t ∷ [])
begins-barred t cs ts is later_may f ms later us vs s may l =
    rw (operands-back ms, append_assoc ts (t ∷ []) (us ++ vs))
    (f (tree.command ms later) (t ∷ us ++ vs) (t, us, vs, refl, is, later_may ms may, whole-command cs ms us s may, l))

-- ---- operands

module _ (t : Token) (is : t.kind ≡ kind.Field) (begins : begins_name (name_in t) ≡ true) where
  chain-more : (ns : List (List ℕ)) (ts : List Token) → ChainParts ns ts → ChainParts (ns ++ name_in t ∷ []) (ts ++ t ∷ [])
  chain-more [] ts c = (t, [], ap (λ us. us ++ t ∷ []) c, is, begins, refl, refl)
  chain-more (n ∷ ns) ts (s, us, at, field, first, name, rest) =
      (s, us ++ t ∷ [], ap (λ xs. xs ++ t ∷ []) at, field, first, name, chain-more ns us rest)

  chained-more : (o : Operand) (ns : List (List ℕ)) (ts : List Token) → ChainedParts o ns ts → ChainedParts o (ns ++ name_in t ∷ []) (ts ++ t ∷ [])
  chained-more o ns ts (s, us, at, one, rest) = (s, us ++ t ∷ [], ap (λ xs. xs ++ t ∷ []) at, one, chain-more ns us rest)

  -- with one field more it may stand anywhere
  linked-spells : (o : Operand) (ts : List Token) → OperandParts o ts
      → IfSome (with_field o (name_in t)) (λ p. OperandParts p (ts ++ t ∷ []) × (begins_later p ≡ true))
  linked-spells (tree.fields []) ts s = absurd (is-one s.0 (tree.fields []) s.3).0
  linked-spells (tree.fields (n ∷ ns)) ts s = (chained-more (tree.fields (n ∷ [])) ns ts s, refl)
  linked-spells (tree.variable x ns) ts s = (chained-more (tree.variable x []) ns ts s, refl)
  linked-spells (tree.group cs ns) ts (l, inner, r, us, at, left, right, whole, chain) =
      let is = ap (λ xs. xs ++ t ∷ []) at ∙ ap (λ xs. l ∷ xs) (append_assoc inner (r ∷ us) (t ∷ [])) in
      ((l, inner, r, us ++ t ∷ [], is, left, right, whole, chain-more ns us chain), refl)
  linked-spells _ ts s = tt

-- ---- one token

-- the tokens of a pipeline, and of those around it
abbrev HasRead : List Partial → List Operands → List Operand → Option Operand → List Token → Type 0
HasRead [] cs os last ts = Reads cs os last ts
HasRead (l ∷ ls) cs os last ts =
    (a : List Token) × (t : Token) × (b : List Token) × (ts ≡ a ++ t ∷ b) × (t.kind ≡ kind.LeftParenthesis)
    × HasRead ls l.commands l.operands None a × Reads cs os last b

abbrev Read : Option Parser → List Token → Type 0
Read None ts = Unit {0}
Read (Some h) ts = HasRead h.outer h.inner.commands h.inner.operands h.last ts

-- where tokens only change the innermost pipeline
within : (ls : List Partial) (cs ds : List Operands) (os qs : List Operand) (last next : Option Operand) (us : List Token)
    → ((ts : List Token) → Reads cs os last ts → Reads ds qs next (ts ++ us)) → (ts : List Token) → HasRead ls cs os last ts
    → HasRead ls ds qs next (ts ++ us)
within [] cs ds os qs last next us f ts r = f ts r
within (l ∷ ls) cs ds os qs last next us f ts (a, t, b, is, left, outer, r) =
    (a, t, b ++ us, ap (λ xs. xs ++ us) is ∙ append_assoc a (t ∷ b) us, left, outer, f b r)

module _ (t : Token) (ls : List Partial) (cs : List Operands) (os : List Operand) (ts : List Token) where
  space-read : (last : Option Operand) → t.kind ≡ kind.Space → HasRead ls cs os last ts
      → Read (Some (parser.apart (parser_at ls cs os last))) (ts ++ t ∷ [])
  space-read None is r = within ls cs cs os os None None (t ∷ []) (λ us f. begins-spaced t is cs os us f) ts r
  space-read (Some o) is r =
      within ls cs cs os (os ++ o ∷ []) (Some o) None (t ∷ [])
      (λ us r. rw r.2 (begins-operand t is cs os o r.0 r.1 r.3 r.4 r.5)) ts r

  bar-read : (last : Option Operand) → t.kind ≡ kind.Pipe → (done : Option (List Operands)) → IfSome done (Completes cs os last)
      → HasRead ls cs os last ts → Read (option_map (parser.after_bar (parser_at ls cs os last)) done) (ts ++ t ∷ [])
  bar-read last is None d r = tt
  bar-read last is (Some done) d r = within ls cs done os [] last None (t ∷ []) (λ us r. begins-barred t done us is d.later (d.ends us r)) ts r

  open-read : (last : Option Operand) → t.kind ≡ kind.LeftParenthesis → HasRead ls cs os last ts
      → Read (parser.open_parenthesis last (parser_at ls cs os last)) (ts ++ t ∷ [])
  open-read None is r = (ts, t, [], refl, is, r, begins-start)
  open-read (Some o) is r = tt

  placed-read : (last o : Option Operand) → IfSome o (IsOperand t) → HasRead ls cs os last ts
      → Read (parser.place_operand last o (parser_at ls cs os last)) (ts ++ t ∷ [])
  placed-read None None is r = tt
  placed-read None (Some o) is r = cond_both _ _ _ (λ h. Read h (ts ++ t ∷ [])) (λ may.
      within ls cs cs os os None (Some o) (t ∷ []) (λ us f. (us, t ∷ [], refl, f, (is-one t o is).1 (t ∷ []) (t, [], refl, is, refl), may)) ts r) (λ may. tt)
  placed-read (Some p) o is r = tt

  link-read : (o : Operand) → HasRead ls cs os (Some o) ts
      → (p : Option Operand) → ((us : List Token) → OperandParts o us → IfSome p (λ p. OperandParts p (us ++ t ∷ []) × (begins_later p ≡ true)))
      → Read (option_map (parser.ending_with (parser_at ls cs os (Some o))) p) (ts ++ t ∷ [])
  link-read o r None with_field = tt
  link-read o r (Some p) with_field = within ls cs cs os os (Some o) (Some p) (t ∷ []) (λ us r.
      let l = with_field r.1 r.4 in
      let whole = ap (λ xs. xs ++ t ∷ []) r.2 ∙ append_assoc r.0 r.1 (t ∷ []) in
      (r.0, r.1 ++ t ∷ [], whole, r.3, l.0, stands-anywhere cs os p l.1)) ts r

  field-read : (last : Option Operand) → t.kind ≡ kind.Field → HasRead ls cs os last ts
      → Read (parser.after_field last t (parser_at ls cs os last)) (ts ++ t ∷ [])
  field-read None is r = placed-read None (operand_at t) (operand-admitted t) r
  field-read (Some o) is r =
      cond_both _ _ _ (λ p. Read (option_map (parser.ending_with (parser_at ls cs os (Some o))) p) (ts ++ t ∷ []))
      (λ begins. link-read o r (with_field o (name_in t)) (linked-spells t is begins o)) (λ begins. tt)

close-read : (t : Token) (ls : List Partial) (cs : List Operands) (os : List Operand) (ts : List Token) (last : Option Operand)
    → t.kind ≡ kind.RightParenthesis → (done : Option (List Operands)) → IfSome done (Completes cs os last) → HasRead ls cs os last ts
    → Read (parser.left_with ls done) (ts ++ t ∷ [])
close-read t [] cs os ts last is o d r = tt
close-read t (l ∷ ls) cs os ts last is None d r = tt
close-read t (l ∷ ls) cs os ts last is (Some done) d (a, u, b, at, left, outer, r) =
    let group : Operand = tree.group (commands_from done) [] in
    let spells : OperandParts group (u ∷ b ++ t ∷ []) = (u, b, t, [], refl, left, is, ends-whole done b (d.ends b r), refl) in
    rw (at, append_assoc a (u ∷ b) (t ∷ []))
    (within ls l.commands l.commands l.operands l.operands None (Some group) (u ∷ b ++ t ∷ [])
    (λ us f. (us, u ∷ b ++ t ∷ [], refl, f, spells, stands-anywhere l.commands l.operands group refl)) a outer)

step-read : (t : Token) (k : TokenKind) → t.kind ≡ k → (ls : List Partial) (cs : List Operands) (os : List Operand) (last : Option Operand) (ts : List Token)
    → HasRead ls cs os last ts → Read (step_by k t (parser_at ls cs os last)) (ts ++ t ∷ [])
step-read t kind.Space is ls cs os last ts r = space-read t ls cs os ts last is r
step-read t kind.Pipe is ls cs os last ts r = bar-read t ls cs os ts last is _ (completes cs os last) r
step-read t kind.LeftParenthesis is ls cs os last ts r = open-read t ls cs os ts last is r
step-read t kind.RightParenthesis is ls cs os last ts r = close-read t ls cs os ts last is _ (completes cs os last) r
step-read t kind.Field is ls cs os last ts r = field-read t ls cs os ts last is r
step-read t _ is ls cs os last ts r = placed-read t ls cs os ts last (operand_at t) (operand-admitted t) r

-- ---- all of them

finished-read : (ls : List Partial) (cs : List Operands) (os : List Operand) (last : Option Operand) (ts : List Token)
    → HasRead ls cs os last ts → IfSome (finished_with ls (more_commands cs (with_last_operand last os))) (λ all. PipelineParts (commands_from all) ts)
finished-read [] cs os last ts r =
    IfSome_then (more_commands cs (with_last_operand last os)) (completes cs os last) (λ all c. ends-whole all ts (c.ends ts r))
finished-read (l ∷ ls) cs os last ts r = tt

one-read : (o : Option Parser) (t : Token) (ts : List Token) → Read o ts → Read (option_and_then (step t) o) (ts ++ t ∷ [])
unfolding step
one-read None t ts r = tt
one-read (Some h) t ts r = step-read t t.kind refl h.outer h.inner.commands h.inner.operands h.last ts r

steps-read : (o : Option Parser) (ts rest : List Token) → Read o ts
    → IfSome (option_and_then finished (steps o rest)) (λ all. PipelineParts (commands_from all) (ts ++ rest))
unfolding finished
steps-read None ts [] r = tt
steps-read (Some h) ts [] r = rw (append-nil ts) (finished-read h.outer h.inner.commands h.inner.operands h.last ts r)
steps-read o ts (t ∷ rest) r =
    rw (sym (append_assoc ts (t ∷ []) rest)) (steps-read (option_and_then (step t) o) (ts ++ t ∷ []) rest (one-read o t ts r))

-- what is read is spelled
pub read-spells : (ts : List Token) → IfSome (commands_after parser.start ts) (λ all. SpellsPipeline (commands_from all) ts)
read-spells ts = IfSome_then (commands_after parser.start ts) (steps-read (Some parser.start) [] ts begins-start) (λ all s. pipeline-whole (commands_from all) ts s)
