-- For `put_junction`, `Compiler::put_nodes` and what they call: code ends with what stands after it, so a jump is as long as what was put, and one
-- out of a range still leads after it; controls from their parts, and nodes one by one.
use Rattle.std.proofs.Common.{arith, ◌≡◌, ◌∙◌, ◌+◌, ◌-◌, ◌≤◌, ℕ, Bool, List, [], ◌∷◌, ◌++◌, length, drop, refl, ap, sym, Option, Some, None}
use Rattle.std.proofs.Common.{append_assoc, length-append, ◌<◌, zero, take, get_or, subst}
use Rattle.std.proofs.Math.Seq.{drop-append-add}
use Rattle.std.proofs.Common.{Result, OnOk}
use Rattle.std.proofs.lemmas.Result.{on_ok_weaker}
use Rattle.std.proofs.lemmas.List.Prefix.{end_rest}
use Rattle.tmpl_grammar.specs.Tree.{Binding, Header}
use Rattle.tmpl_grammar.specs.Need.{declared_count}
use Rattle.tmpl_grammar.specs.declared.tree.Control.TheVariants as control
use Rattle.tmpl_syntax.specs.Tree.{control_node, Nodes}
use Rattle.tmpl_syntax.specs.Set.{Template}
use Rattle.tmpl_syntax.specs.View.{node_of, nodes_in}
use Rattle.tmpl_syntax.specs.declared.tree.Node as held_node
use Rattle.tmpl_code.specs.Instruction.{Instruction, unless, enter_with, end_with, forget, enter, next}
use Rattle.tmpl_code.specs.Layout.{Layout, declares, declares_key, declared_in}
use Rattle.tmpl_code.specs.Code.{Code, Stretch, NodesPart, Exit, PipelineAt, HeaderAt, EndAt, NodeAt, NodesAt, StepAt}
use Rattle.tmpl_code.specs.computed.Held.{Ends, BoundPart, DottedPart, EndedPart, IsOpen, Placed, Put, TurnsPart, all_grown, code_of, exit_seen, last_of}
use Rattle.tmpl_code.specs.computed.Held.{layout_of, shrunk}
use Rattle.tmpl_code.specs.declared.code.Code as held_code
use Rattle.tmpl_code.specs.declared.node.Around as held_around
use Rattle.tmpl_code.specs.declared.node.Compiler as held_compiler
use Rattle.tmpl_code.proofs.NodeLemmas.{all_grown-longer, grows, nodes_more, shrinks}

pub ends_same : {code rest : Code} → code ≡ rest → Ends rest code
ends_same e = record { front = []; is = e }

pub ends_on : {i : Instruction} {code mid rest : Code} → code ≡ i ∷ mid → Ends rest mid → Ends rest code
ends_on {i} e t = record { front = i ∷ t.front; is = e ∙ ap (λ c. i ∷ c) t.is }

pub ends_one : {i : Instruction} {code rest : Code} → code ≡ i ∷ rest → Ends rest code
ends_one e = ends_on e (ends_same refl)

pub ends_both : {code mid rest : Code} → Ends mid code → Ends rest mid → Ends rest code
ends_both {code} {mid} {rest} a b = record {
  front = a.front ++ b.front;
  is = a.is ∙ ap (λ c. a.front ++ c) b.is ∙ sym (append_assoc a.front b.front rest);
}

pub ruleset ends = (ends_same, ends_on, ends_both)

-- a last part that is put after code which ends with the code before
pub placed_on : {T E : Type 0} (r : Result T E) (P Q : Stretch) (before mid after : held_code.Code) → OnOk r (Placed Q mid after)
    → Ends (code_of before) (code_of mid) → (Q (code_of after) (code_of mid) → P (code_of after) (code_of before)) → OnOk r (Placed P before after)
placed_on r P Q before mid after put on so = on_ok_weaker r (λ p. record { code = so p.code; ends = ends_both p.ends on }) put

-- what lies between is passed over
pub passes : {n : ℕ} {rest code : Code} → Ends rest code → n ≡ length code - length rest → drop n code ≡ rest
passes {n} {rest} {code} t e = ap (λ n. drop n code) e ∙ end_rest code rest t.front t.is

pub longer : {rest code : Code} → Ends rest code → length rest ≤ length code
longer {rest} t = let more = ap length t.is ∙ length-append t.front rest in omega arith

-- what forgets cells or passes over instructions ends a part
pub end_at : (n to : ℕ) (code rest : Code) → (n ≡ 0 → to ≡ 0 → ⊥) → code ≡ forget n to ∷ rest → EndAt n to code rest
end_at zero zero code rest some is = absurd (some refl refl)
end_at _ _ code rest some is = is

-- ---- the range around

pub last-on : (front old : Code) (n : ℕ) → n ≤ length old → last_of n (front ++ old) ≡ last_of n old
last-on front old n h =
    let past : length (front ++ old) - n ≡ length front + (length old - n) = omega (arith, length-append front old) in
    ap (λ k. drop k (front ++ old)) past ∙ drop-append-add front old (length old - n)

exit_on : {old new : Code} (e : Option held_around.Around) (lay : Layout) → IsOpen e old lay → Ends old new → exit_seen e new ≡ exit_seen e old
exit_on None lay h t = refl
exit_on {old} (Some a) lay h t =
    ap (λ (c : Code). exit_seen (Some a) c) t.is
    ∙ ap (λ (out : Code). Some (record { out = out; line = a.line; below = a.below })) (last-on t.front old a.after h.0)

pub open_on : {old new : Code} (e : Option held_around.Around) (lay more : Layout) → Ends old new → length lay ≤ length more → IsOpen e old lay
    → IsOpen e new more
open_on None lay more t g h = tt
open_on (Some a) lay more t g h = let l = longer t in let after = h.0 in let below = h.1 in (omega arith, omega arith)

-- ---- what was put, and what stands after it

abbrev Compiler : Type 0
Compiler = held_compiler.Compiler

-- a part that is put after code which ends with the old one
put_on : {P : NodesPart} {e : Option held_around.Around} (old : Compiler) {mid new : Compiler} → IsOpen e (code_of old.code) (layout_of old.scope)
    → Ends (code_of old.code) (code_of mid.code)
    → layout_of mid.scope ≡ layout_of old.scope → Put P e mid new
    → P (layout_of old.scope) (exit_seen e (code_of old.code)) (code_of new.code) (code_of mid.code)
put_on {P} {e} old {mid} {new} h t same p = rw (← same, ← exit_on e (layout_of old.scope) h t) p.code

-- ---- a part with its end, and controls

module _ (ts : List Template) {e : Option held_around.Around} {old : Compiler} (h : IsOpen e (code_of old.code) (layout_of old.scope)) where
  pub put_ended : (b : Binding) (ns : Nodes) (skip n : ℕ) {mid new : Compiler} → layout_of mid.scope ≡ layout_of old.scope
      → n ≡ declared_count b + declared_in ns → Placed (EndAt n skip) old.code mid.code → Put (BoundPart ts b ns) e mid new
      → Put (EndedPart ts b ns skip) e old new
  put_ended b ns skip n {mid} {new} same count end p = record {
    code = (code_of mid.code, put_on {P = BoundPart ts b ns} old h end.ends same p, rw (← count) end.code);
    ends = ends_both p.ends end.ends;
    scope = p.scope ∙ same;
  }

  module _ (head : Header) (body others : Nodes) where
    pub put_if : {second first new : Compiler} {start : held_code.Code} (to skip : ℕ) (kept : Bool) → Put (EndedPart ts head.binding others 0) e old second
        → Put (EndedPart ts head.binding body to) e second first
        → to ≡ length (code_of second.code) - length (code_of old.code) → skip ≡ length (code_of first.code) - length (code_of second.code)
        → kept ≡ declares head.binding → code_of start ≡ unless kept skip ∷ code_of first.code → layout_of new.scope ≡ layout_of first.scope
        → Placed (HeaderAt head (layout_of first.scope)) start new.code
        → Put (NodeAt ts 0 (control_node control.If head body others)) e old new
    put_if {second} {first} {new} {start} to skip kept p q tos skipped keeps is same headed =
        let scope = q.scope ∙ p.scope in
        let begins : code_of start ≡ unless (declares head.binding) skip ∷ code_of first.code = rw (← keeps) is in
        let part = put_on {P = EndedPart ts head.binding body to} old h p.ends p.scope q in
        record {
          code = (
            code_of start,
            rw (← scope) headed.code,
            (code_of first.code, code_of second.code, skip, to, begins, part, p.code, passes q.ends skipped, passes p.ends tos),
          );
          ends = ends_both headed.ends (ends_on is (ends_both q.ends p.ends));
          scope = same ∙ scope;
        }

    pub put_with : {second mid first new : Compiler} {start : held_code.Code} (to skip n v : ℕ) (kept : Bool)
        → Put (EndedPart ts head.binding others 0) e old second
        → layout_of mid.scope ≡ layout_of second.scope → code_of mid.code ≡ end_with n v to ∷ code_of second.code
        → Put (DottedPart ts head.binding body) e mid first
        → n ≡ declared_in body → v ≡ declared_count head.binding → to ≡ length (code_of second.code) - length (code_of old.code)
        → skip ≡ length (code_of first.code) - length (code_of second.code)
        → kept ≡ declares head.binding → code_of start ≡ enter_with kept skip ∷ code_of first.code → layout_of new.scope ≡ layout_of first.scope
        → Placed (HeaderAt head (layout_of first.scope)) start new.code
        → Put (NodeAt ts 0 (control_node control.With head body others)) e old new
    put_with {second} {mid} {first} {new} {start} to skip n v kept p saved goes q ns vs tos skipped keeps is same headed =
        let scope = q.scope ∙ saved ∙ p.scope in
        let one = ends_one goes in
        let begins : code_of start ≡ enter_with (declares head.binding) skip ∷ code_of first.code = rw (← keeps) is in
        let part = put_on {P = DottedPart ts head.binding body} old h (ends_both one p.ends) (saved ∙ p.scope) q in
        let body_put : DottedPart ts head.binding body (layout_of old.scope) (exit_seen e (code_of old.code)) (code_of first.code)
        (end_with (declared_in body) (declared_count head.binding) to ∷ code_of second.code) = rw (← ns, ← vs, ← goes) part in
        record {
          code = (
            code_of start,
            rw (← scope) headed.code,
            (
              code_of first.code,
              code_of second.code,
              skip,
              to,
              begins,
              body_put,
              p.code,
              passes (ends_both q.ends one) skipped,
              passes p.ends tos,
            ),
          );
          ends = ends_both headed.ends (ends_on is (ends_both q.ends (ends_both one p.ends)));
          scope = same ∙ scope;
        }

    pub put_range : {end second mid first new : Compiler} {start : held_code.Code} (line to skip n m : ℕ) (key : Bool) (a : held_around.Around)
        → layout_of end.scope ≡ layout_of old.scope → m ≡ declared_in others → Placed (EndAt m 0) old.code end.code
        → Put (NodesAt ts others) e end second
        → layout_of mid.scope ≡ layout_of second.scope → code_of mid.code ≡ next n to line ∷ code_of second.code
        → a.after ≡ length (code_of old.code) → a.line ≡ line → a.below ≡ length (layout_of mid.scope) → Put (TurnsPart ts head.binding body) (Some a) mid first
        → n ≡ declared_count head.binding + declared_in body → to ≡ length (code_of second.code) - length (code_of old.code)
        → skip ≡ length (code_of first.code) - length (code_of second.code)
        → key ≡ declares_key head.binding → code_of start ≡ enter key skip ∷ code_of first.code → layout_of new.scope ≡ layout_of first.scope
        → Placed (PipelineAt head.pipeline (layout_of first.scope)) start new.code
        → Put (NodeAt ts line (control_node control.Range head body others)) e old new
    put_range {end} {second} {mid} {first} {new} {start} line to skip n m key a ended ms close p saved goes after lines below q ns tos skipped keys is same
        piped =
        let lay = saved ∙ p.scope ∙ ended in
        let one = ends_one goes in
        let before = ends_both p.ends close.ends in
        let out : last_of a.after (code_of mid.code) ≡ code_of old.code = passes (ends_both one before) (ap (λ n. length (code_of mid.code) - n) after) in
        let inner : Exit = Some (record { out = code_of old.code; line = line; below = length (layout_of old.scope) }) in
        let around : exit_seen (Some a) (code_of mid.code) ≡ inner = rw (out, lines, below, lay) refl in
        let turns : TurnsPart ts head.binding body (layout_of old.scope) inner (code_of first.code) (code_of mid.code) = rw (← around, ← lay) q.code in
        let begins : code_of start ≡ enter (declares_key head.binding) skip ∷ code_of first.code = rw (← keys) is in
        record {
          code = (
            code_of start,
            rw (← (q.scope ∙ lay)) piped.code,
            (
              code_of first.code,
              turns.0,
              code_of second.code,
              skip,
              to,
              begins,
              turns.1,
              rw (← ns, ← goes) turns.2,
              (code_of end.code, put_on {P = NodesAt ts others} old h close.ends ended p, rw (← ms) close.code),
              passes (ends_both q.ends one) skipped,
              passes before tos,
            ),
          );
          ends = ends_both piped.ends (ends_on is (ends_both q.ends (ends_both one before)));
          scope = same ∙ q.scope ∙ lay;
        }

-- ---- nodes, from the last to the first

-- those from a place on are put, and the variables that those before it leave are in scope
pub record Putting (ts : List Template) (e : Option held_around.Around) (ns : List held_node.Node) (i : ℕ) (old now : Compiler) : Type 0 where
  pub within : i ≤ length ns
  pub layout : layout_of now.scope ≡ all_grown (nodes_in (take i ns)) (layout_of old.scope)
  pub put : NodesAt ts (nodes_in (drop i ns)) (layout_of now.scope) (exit_seen e (code_of old.code)) (code_of now.code) (code_of old.code)
  pub ends : Ends (code_of old.code) (code_of now.code)

pub put_all : {ts : List Template} {e : Option held_around.Around} {ns : List held_node.Node} {i : ℕ} {old now : Compiler} → i ≡ 0 → Putting ts e ns i old now
    → Put (NodesAt ts (nodes_in ns)) e old now
put_all {ts} {e} {ns} {i} {old} {now} none l =
    let scope : layout_of now.scope ≡ layout_of old.scope = l.layout ∙ ap (λ k. all_grown (nodes_in (take k ns)) (layout_of old.scope)) none in
    record { code = rw (← scope) (rw none at l.put); ends = l.ends; scope = scope }

-- a node more, whose variables went out of scope
module _ {ts : List Template} {e : Option held_around.Around} {ns : List held_node.Node} {i : ℕ} {old now : Compiler} (start : Compiler)
    (h : IsOpen e (code_of old.code) (layout_of old.scope)) (l : Putting ts e ns i old now) (j : ℕ) (n : held_node.Node) (here : j < length ns)
    (next : i ≡ j + 1) (is : n ≡ get_or ns j n)
    (same : code_of start.code ≡ code_of now.code) (fewer : layout_of start.scope ≡ shrunk (node_of n).what (layout_of now.scope)) where
  layout : layout_of start.scope ≡ all_grown (nodes_in (take j ns)) (layout_of old.scope)
  layout = fewer ∙ shrinks ns i j n (layout_of old.scope) (layout_of now.scope) here next is l.layout

  beyond : Ends (code_of old.code) (code_of start.code)
  beyond = subst (Ends (code_of old.code)) (sym same) l.ends

  pub node_open : IsOpen e (code_of start.code) (layout_of start.scope)
  node_open =
      let more = all_grown-longer (nodes_in (take j ns)) (layout_of old.scope) in
      let long = ap (λ (x : Layout). length x) layout in
      open_on e (layout_of old.scope) (layout_of start.scope) beyond (omega (arith, more, long)) h

  pub put_more : {mid new : Compiler} → Put (NodeAt ts (node_of n).line (node_of n).what) e start mid
      → StepAt ts (node_of n).line (node_of n).what (code_of new.code) (code_of mid.code) → Ends (code_of mid.code) (code_of new.code)
      → layout_of new.scope ≡ layout_of mid.scope
      → Putting ts e ns j old new
  put_more {mid} {new} p step on kept =
      let line = (node_of n).line in
      let what = (node_of n).what in
      let x = exit_seen e (code_of old.code) in
      let before = all_grown (nodes_in (take j ns)) (layout_of old.scope) in
      let one : NodeAt ts line what before x (code_of mid.code) (code_of now.code) =
      rw (← layout, ← same, ← exit_on e (layout_of old.scope) h beyond) p.code in
      let put = nodes_more ts ns i j n x before (layout_of now.scope) (code_of new.code) (code_of mid.code) (code_of now.code) (code_of old.code) here next is
      (grows ns i j n (layout_of old.scope) (layout_of now.scope) here next is l.layout) step one l.put in
      let scope = kept ∙ p.scope ∙ layout in
      record {
        within = omega arith;
        layout = scope;
        put = rw scope put;
        ends = ends_both on (ends_both p.ends beyond);
      }
