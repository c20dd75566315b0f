-- For `one_reading`: what the grammar spells is read, by induction on the tree.
use Rattle.std.proofs.Common.{arith, ◌≡◌, ◌∙◌, ℕ, true, List, [], ◌∷◌, ◌++◌, Option, Some, None, refl, ap, sym, append_assoc, option_and_then}
use Rattle.std.proofs.lemmas.List.{append-nil}
use Rattle.tmpl_lex.specs.declared.piece.TokenKind.{TokenKind}
use Rattle.tmpl_lex.specs.declared.piece.TokenKind.TheVariants as kind
use Rattle.tmpl_lex.specs.Piece.{Token}
use Rattle.tmpl_grammar.specs.Token.{begins_name, name_in}
use Rattle.tmpl_grammar.specs.Tree as tree
use Rattle.tmpl_grammar.specs.Tree.{Operand, Operands, Pipeline, operands_from, commands_from}
use Rattle.tmpl_grammar.specs.Operand.{IsOperand}
use Rattle.tmpl_grammar.specs.computed.Operand.{begins_later}
use Rattle.tmpl_grammar.specs.computed.Operand.{operand_at}
use Rattle.tmpl_grammar.specs.computed.Parser as parser
use Rattle.tmpl_grammar.specs.computed.Parser.{Parser, Partial, more_commands, close_pipeline, may_stand, with_field, step, step_by, steps}
use Rattle.tmpl_grammar.specs.Pipeline.{IsBlank, may_be_later, SpellsPipeline}
use Rattle.tmpl_grammar.proofs.PartsLemmas.{pipeline-parts, ChainParts, ChainedParts, OperandParts, MoreParts, CommandParts, LaterParts, PipelineParts}
use Rattle.tmpl_grammar.proofs.IsOperandLemmas.{computes-operand}

abbrev pub parser_at : List Partial → List Operands → List Operand → Option Operand → Parser
parser_at ls cs os last = record { outer = ls; inner = record { commands = cs; operands = os }; last = last }

-- ---- trees as lists

abbrev pub operand_list : Operands → List Operand
operand_list tree.no_operand = []
operand_list (tree.operand o os) = o ∷ operand_list os

abbrev pub command_list : Pipeline → List Operands
command_list tree.no_command = []
command_list (tree.command os cs) = os ∷ command_list cs

pub operands-back : (os : Operands) → operands_from (operand_list os) ≡ os
operands-back tree.no_operand = refl
operands-back (tree.operand o os) = ap (tree.operand o) (operands-back os)

pub commands-back : (cs : Pipeline) → commands_from (command_list cs) ≡ cs
commands-back tree.no_command = refl
commands-back (tree.command os cs) = ap (tree.command os) (commands-back cs)

-- ---- steps

pub steps-append : (o : Option Parser) (ts us : List Token) → steps o (ts ++ us) ≡ steps (steps o ts) us
steps-append o [] us = refl
steps-append o (t ∷ ts) us = steps-append (option_and_then (step t) o) ts us

pub step-at : (k : TokenKind) (t : Token) (h : Parser) → t.kind ≡ k → step t h ≡ step_by k t h
unfolding step
step-at k t h e = simp e

pub blank-steps : (ls : List Partial) (cs : List Operands) (os : List Operand) (ts : List Token) → IsBlank ts
    → steps (Some (parser_at ls cs os None)) ts ≡ Some (parser_at ls cs os None)
blank-steps ls cs os [] b = refl
blank-steps ls cs os (t ∷ ts) b = simp (step-at kind.Space t (parser_at ls cs os None) b.0, blank-steps ls cs os ts b.1)

white-steps : (ls : List Partial) (cs : List Operands) (os : List Operand) (o : Operand) (t : Token) (ts : List Token) → IsBlank (t ∷ ts)
    → steps (Some (parser_at ls cs os (Some o))) (t ∷ ts) ≡ Some (parser_at ls cs (os ++ o ∷ []) None)
white-steps ls cs os o t ts b = simp (step-at kind.Space t (parser_at ls cs os (Some o)) b.0, blank-steps ls cs (os ++ o ∷ []) ts b.1)

-- a token that is an operand of its own, of whatever kind it is
operand-step : (t : Token) (o : Operand) → IsOperand t o → (ls : List Partial) (cs : List Operands) (os : List Operand)
    → step t (parser_at ls cs os None) ≡ parser.place_operand None (operand_at t) (parser_at ls cs os None)
unfolding step
operand-step t o is ls cs os = grind arith

placed-step : (t : Token) (o : Operand) (ls : List Partial) (cs : List Operands) (os : List Operand) → IsOperand t o
    → may_stand cs os o ≡ true → step t (parser_at ls cs os None) ≡ Some (parser_at ls cs os (Some o))
placed-step t o ls cs os is may = operand-step t o is ls cs os ∙ simp (computes-operand t o is, may)

-- an operand that chains may be added to
abbrev Chains : (List (List ℕ) → Operand) → Type 0
Chains f = (ns : List (List ℕ)) (n : List ℕ) → with_field (f ns) n ≡ Some (f (ns ++ n ∷ []))

link-step : (f : List (List ℕ) → Operand) → Chains f
    → (ls : List Partial) (cs : List Operands) (os : List Operand) (ns : List (List ℕ)) (t : Token) → t.kind ≡ kind.Field
    → begins_name (name_in t) ≡ true
    → step t (parser_at ls cs os (Some (f ns))) ≡ Some (parser_at ls cs os (Some (f (ns ++ name_in t ∷ []))))
link-step f can ls cs os ns t is begins = simp (step-at kind.Field t (parser_at ls cs os (Some (f ns))) is, begins, can ns (name_in t))

chain-steps : (f : List (List ℕ) → Operand) → Chains f
    → (ls : List Partial) (cs : List Operands) (os : List Operand) (names ns : List (List ℕ)) (ts : List Token) → ChainParts names ts
    → steps (Some (parser_at ls cs os (Some (f ns)))) ts ≡ Some (parser_at ls cs os (Some (f (ns ++ names))))
chain-steps f can ls cs os [] ns ts c = simp (c, append-nil)
chain-steps f can ls cs os (n ∷ names) ns ts (t, us, is, field, begins, name, rest) =
    simp (is, link-step f can ls cs os ns t field begins, chain-steps f can ls cs os names (ns ++ name_in t ∷ []) us rest, append_assoc) (simp name)

one-steps : (o : Operand) (ls : List Partial) (cs : List Operands) (os : List Operand) (ts : List Token) → ChainedParts o [] ts
    → may_stand cs os o ≡ true → steps (Some (parser_at ls cs os None)) ts ≡ Some (parser_at ls cs os (Some o))
one-steps o ls cs os ts (t, us, is, at, rest) may = simp (is, rest, placed-step t o ls cs os at may)

chained-steps : (f : List (List ℕ) → Operand) → Chains f
    → (ns names : List (List ℕ)) (ls : List Partial) (cs : List Operands) (os : List Operand) (ts : List Token) → ChainedParts (f ns) names ts
    → may_stand cs os (f ns) ≡ true → steps (Some (parser_at ls cs os None)) ts ≡ Some (parser_at ls cs os (Some (f (ns ++ names))))
chained-steps f can ns names ls cs os ts (t, us, is, at, rest) may =
    simp (is, placed-step t (f ns) ls cs os at may, chain-steps f can ls cs os names ns us rest)

stands-after : (cs : List Operands) (os : List Operand) (p o : Operand) → may_stand cs (os ++ p ∷ []) o ≡ true
stands-after cs [] p o = grind arith
stands-after cs (q ∷ os) p o = grind arith

-- what begins a later command
pub later-is : (o : Operand) (os : Operands) → may_be_later (tree.operand o os) ≡ begins_later o
later-is (tree.fields names) os = refl
later-is _ os = refl

-- an operand that may begin a later command may stand anywhere
pub stands-anywhere : (cs : List Operands) (os : List Operand) (o : Operand) → begins_later o ≡ true → may_stand cs os o ≡ true
stands-anywhere cs os o e = grind arith

-- ---- what is reached

-- tokens lead to the end of a pipeline of these commands
pub record Ended (h : Parser) (ts : List Token) (ls : List Partial) (cs : List Operands) : Type 0 where
  pub end : Parser
  pub to : steps (Some h) ts ≡ Some end
  pub outer_is : end.outer ≡ ls
  pub closed_is : close_pipeline end ≡ Some cs

ended-along : {h n : Parser} (us : List Token) {vs : List Token} {ls : List Partial} {cs : List Operands} → steps (Some h) us ≡ Some n
    → Ended n vs ls cs → Ended h (us ++ vs) ls cs
ended-along us to e = record { end = e.end; to = simp (steps-append, to, e.to); outer_is = e.outer_is; closed_is = e.closed_is }

pub more-whole : (cs : List Operands) (os : List Operand) (o : Operand) → more_commands cs (os ++ o ∷ []) ≡ Some (cs ++ operands_from (os ++ o ∷ []) ∷ [])
more-whole cs [] o = refl
more-whole cs (p ∷ os) o = refl

blank-ended : (ls : List Partial) (cs : List Operands) (os : List Operand) (o : Operand) (ts : List Token) → IsBlank ts
    → Ended (parser_at ls cs os (Some o)) ts ls (cs ++ operands_from (os ++ o ∷ []) ∷ [])
blank-ended ls cs os o [] b = record { end = parser_at ls cs os (Some o); to = refl; outer_is = refl; closed_is = more-whole cs os o }
blank-ended ls cs os o (t ∷ ts) b =
    record { end = parser_at ls cs (os ++ o ∷ []) None; to = white-steps ls cs os o t ts b; outer_is = refl; closed_is = more-whole cs os o }

bar-step : (h : Parser) (ls : List Partial) (cs : List Operands) (t : Token) → t.kind ≡ kind.Pipe → h.outer ≡ ls → close_pipeline h ≡ Some cs
    → step t h ≡ Some (parser_at ls cs [] None)
bar-step h ls cs t is outer whole = simp (step-at kind.Pipe t h is, whole, outer)

close-step : (h : Parser) (l : Partial) (ls : List Partial) (cs : List Operands) (t : Token) → t.kind ≡ kind.RightParenthesis
    → h.outer ≡ l ∷ ls → close_pipeline h ≡ Some cs → step t h ≡ Some (parser_at ls l.commands l.operands (Some (tree.group (commands_from cs) [])))
close-step h l ls cs t is outer whole = simp (step-at kind.RightParenthesis t h is, whole, outer)

mutual
  operand-read : (o : Operand) (ts : List Token) → OperandParts o ts → (ls : List Partial) (cs : List Operands) (os : List Operand)
      → may_stand cs os o ≡ true → steps (Some (parser_at ls cs os None)) ts ≡ Some (parser_at ls cs os (Some o))
  operand-read (tree.fields (n ∷ ns)) ts s ls cs os may =
      chained-steps tree.fields (λ ns n. refl) (n ∷ []) ns ls cs os ts s (stands-anywhere cs os (tree.fields (n ∷ [])) refl)
  operand-read (tree.variable x names) ts s ls cs os may =
      chained-steps (tree.variable x) (λ ns n. refl) [] names ls cs os ts s (stands-anywhere cs os (tree.variable x []) refl)
  operand-read (tree.group commands names) ts (l, inner, r, us, is, left, right, p, chain) ls cs os may =
      let partial : Partial = record { commands = cs; operands = os } in
      let e = parts-read commands inner p (partial ∷ ls) in
      simp (
        is,
        step-at kind.LeftParenthesis l (parser_at ls cs os None) left,
        steps-append,
        e.to,
        commands-back,
        close-step e.end partial ls (command_list commands) r right e.outer_is e.closed_is,
        chain-steps (tree.group commands) (λ ns n. refl) ls cs os names [] us chain,
      )
  operand-read o ts s ls cs os may = one-steps o ls cs os ts s may

  more-read : (ms : Operands) (ts : List Token) → MoreParts ms ts
      → (ls : List Partial) (cs : List Operands) (os : List Operand) (o : Operand)
      → Ended (parser_at ls cs os (Some o)) ts ls (cs ++ operands_from (os ++ o ∷ operand_list ms) ∷ [])
  more-read tree.no_operand ts s ls cs os o = blank-ended ls cs os o ts s
  more-read (tree.operand p ps) ts (w, ws, a, b, is, blank, spells, rest) ls cs os o =
      rw (is, sym (append_assoc os (o ∷ []) (p ∷ operand_list ps))) (ended-along (w ∷ ws) (white-steps ls cs os o w ws blank)
      (ended-along a (operand-read p a spells ls cs (os ++ o ∷ []) (stands-after cs os o p)) (more-read ps b rest ls cs (os ++ o ∷ []) p)))

  -- .. where its first operand may stand
  command-read : (os : Operands) (ts : List Token) → CommandParts os ts → (ls : List Partial) (cs : List Operands)
      → ((o : Operand) (ms : Operands) → os ≡ tree.operand o ms → may_stand cs [] o ≡ true) → Ended (parser_at ls cs [] None) ts ls (cs ++ os ∷ [])
  command-read tree.no_operand ts s ls cs may = absurd s
  command-read (tree.operand o ms) ts (ws, a, b, is, blank, spells, rest) ls cs may =
      let first = may o ms refl in
      rw (is, sym (operands-back ms)) (ended-along ws (blank-steps ls cs [] ws blank)
      (ended-along a (operand-read o a spells ls cs [] first) (more-read ms b rest ls cs [] o)))

  later-read : (later : Pipeline) (ts : List Token) → LaterParts later ts → (h : Parser) (ls : List Partial) (cs : List Operands)
      → h.outer ≡ ls → close_pipeline h ≡ Some cs → Ended h ts ls (cs ++ command_list later)
  later-read tree.no_command ts s h ls cs outer whole =
      rw (s, append-nil cs) (record { end = h; to = refl; outer_is = outer; closed_is = whole })
  later-read (tree.command os later) ts (bar, a, b, is, bars, may, spells, rest) h ls cs outer whole =
      let r = command-read os a spells ls cs (λ o ms e. stands-anywhere cs [] o (sym (later-is o ms) ∙ ap may_be_later (sym e) ∙ may)) in
      rw (is, sym (append_assoc cs (os ∷ []) (command_list later))) (ended-along (bar ∷ []) (bar-step h ls cs bar bars outer whole)
      (ended-along a r.to (later-read later b rest r.end ls _ r.outer_is r.closed_is)))

  parts-read : (cs : Pipeline) (ts : List Token) → PipelineParts cs ts → (ls : List Partial) → Ended (parser_at ls [] [] None) ts ls (command_list cs)
  parts-read tree.no_command ts s ls = absurd s
  parts-read (tree.command os later) ts (a, b, is, spells, rest) ls =
      let r = command-read os a spells ls [] (λ o ms e. refl) in
      rw is (ended-along a r.to (later-read later b rest r.end ls _ r.outer_is r.closed_is))

pub pipeline-read : (cs : Pipeline) (ts : List Token) → SpellsPipeline cs ts → (ls : List Partial) → Ended (parser_at ls [] [] None) ts ls (command_list cs)
pipeline-read cs ts s ls = parts-read cs ts (pipeline-parts cs ts s) ls
