use Rattle.std.proofs.Common.{◌≡◌, ◌∙◌, ◌+◌, ◌-◌, ℕ, ◌||◌, List, [], ◌∷◌, max, drop, length, map, reverse, ap, sym, subst, arith, IfSome, Option, Vec, Global}
use Rattle.std.specs.Vec.{with_items}
use Rattle.std.proofs.lemmas.List.{reverse-append, with_items_is}
use Rattle.tmpl_syntax.specs.Need.{need, need_of_nodes}
use Rattle.tmpl_syntax.specs.Set.{Template}
use Rattle.tmpl_syntax.specs.Tree.{Nodes}
use Rattle.tmpl_syntax.specs.View.{nodes_in, set_view, tree_of}
use Rattle.tmpl_code.specs.computed.Weights.{AreEnough, IsBound, nodes_call, set_calls}
use Rattle.tmpl_code.specs.Code.{Code, Starts, TreeAt}
use Rattle.tmpl_code.specs.MakesText.{nodes_make_text, set_makes_text}
use Rattle.tmpl_code.specs.Room.{largest_need}
use Rattle.tmpl_code.specs.View.{instructions_of}
use Rattle.tmpl_code.specs.declared.claims.Claims.{Claims}
use Rattle.tmpl_code.specs.computed.Held.{LastStarts, code_of, places}
use Rattle.tmpl_code.proofs.BackwardLemmas.{at-first}
use Rattle.tmpl_code.proofs.ProgramLemmas.{starts as starts_of, starts_more}
use Rattle.tmpl_syntax.proofs.SecondLemmas.{drop-next}
use Rattle.tmpl_code.proofs.compiler.compile.Goals as goal

pub loop-i-preserved : goal.loop-i-preserved
loop-i-preserved c =
    let l = c.loop-i in
    let ts = set_view c.args.set.now in
    let i = l.i - 1 in
    let next : l.i ≡ i + 1 = omega arith in
    let t : Template = (c.template.result.0.now, tree_of c.template.result.1.now) in
    let old = code_of l.compiler.code in
    let new = code_of c.put_tree.new.self.code in
    let nodes : nodes_in c.as_slice-nodes.result.now ≡ t.1.nodes = ap nodes_in c.as_slice-nodes.ensures.value in
    let here : t ∷ drop (i + 1) ts ≡ drop i ts = sym (drop-next ts i t c.template.ensures.value) in
    let starts = subst (λ n. LastStarts ts (drop n ts) (reverse l.lengths.items) old) next l.invariant.starts in
    let lies = subst (λ (ns : Nodes). TreeAt ts ns new old) nodes c.in_ok-own.ensures.put.code in
    let found = c.in_ok-own in
    let needs : found.own.need ≡ need t.1 = found.ensures.survey.need ∙ ap (λ (ns : Nodes). 3 + need_of_nodes ns) nodes in
    let makes : found.own.makes_text ≡ nodes_make_text t.1.nodes = found.ensures.survey.text ∙ ap nodes_make_text nodes in
    let calling : found.own.calls ≡ nodes_call t.1.nodes = found.ensures.survey.calls ∙ ap nodes_call nodes in
    let most : l.survey.need ≡ largest_need (drop (i + 1) ts) = l.invariant.most ∙ ap (λ n. largest_need (drop n ts)) next in
    let made : l.survey.makes_text ≡ set_makes_text (drop (i + 1) ts) = l.invariant.makes ∙ ap (λ n. set_makes_text (drop n ts)) next in
    let called : l.survey.calls ≡ set_calls (drop (i + 1) ts) = l.invariant.calling ∙ ap (λ n. set_calls (drop n ts)) next in
    let within : length ts ≡ length ts = λ j. length ts in
    let bound = c.template.ensures.kept.need in
    let joined = c.with-survey.ensures in
    record {
      within = omega arith;
      starts = starts_more ts i t l.lengths.items c.push.new.self.items c.len.result old new c.template.ensures.value c.in_ok-push.ensures.items c.len.ensures
          lies c.in_ok-own.ensures.put.ends starts;
      needs =
          ap reverse c.in_ok-push-2.ensures.items ∙ reverse-append l.needs.items (found.own.need ∷ [])
          ∙ (λ j. needs j ∷ (l.invariant.needs ∙ ap (λ n. map (λ (t : Template). need t.1) (drop n ts)) next) j)
          ∙ ap (map (λ (t : Template). need t.1)) here;
      most = joined.need ∙ (λ j. max (needs j) (most j)) ∙ ap largest_need here;
      bounded = omega (arith, joined.need, needs, bound);
      makes = joined.text ∙ (λ j. makes j || made j) ∙ ap set_makes_text here;
      calling = joined.calls ∙ (λ j. calling j || called j) ∙ ap set_calls here;
    }

-- the loop ends at the first template, and its counts are made places
linked-so : (ts : List Template) (i size : ℕ) (lengths : List ℕ) (turned : Vec ℕ Global) (counts starts : List ℕ) (code is : Code) → i ≡ 0
    → LastStarts ts (drop i ts) (reverse lengths) code → length starts ≡ length counts → counts ≡ turned.items
    → starts ≡ places size counts → size ≡ length code → turned.items ≡ reverse lengths → is ≡ code → Starts ts ts (with_items turned starts).items is
linked-so ts i size lengths turned counts starts code is none last many same placed sized reversed put =
    let kept = with_items_is turned starts (omega (arith, many, ap length same)) in
    rw (put, kept, placed, sized, same, reversed) (starts_of ts ts (reverse lengths) code (rw none at last))

pub parts_of-requires : goal.parts_of-requires
parts_of-requires c =
    let l = c.loop-i in
    linked-so (set_view c.args.set.now) l.i c.len-2.result l.lengths.items c.reverse.new.self c.as_mut_slice.result.now c.to_places.new.counts
    (code_of l.compiler.code) (instructions_of c.into_parts-tables.result.0 c.into_parts-tables.result.1.items) (omega arith) l.invariant.starts
    c.to_places.auto.counts c.as_mut_slice.ensures.value c.to_places.ensures c.len-2.ensures c.reverse.ensures.items c.into_parts-tables.ensures

-- what the templates of a set claim, told of the set that the program keeps
claims-of : (o : Option Claims) (ts us : List Template) → ts ≡ us → IfSome o (λ c. AreEnough ts c.weights.items c.allowances.items)
    → IfSome o (λ c. AreEnough us c.weights.items c.allowances.items)
claims-of o ts us same h = subst (λ (vs : List Template). IfSome o (λ c. AreEnough vs c.weights.items c.allowances.items)) same h

pub invariant_of-result : goal.invariant_of-result
invariant_of-result c =
    let l = c.loop-i in
    let ts = set_view c.args.set.now in
    let parts = c.in_ok-parts.ensures in
    let bound = c.in_ok-bound in
    record {
      linked = parts.linked;
      outline = parts.outline;
      need = at-first largest_need ts l.invariant.most (omega arith) ∙ ap largest_need (sym parts.set);
      enough = subst (λ (us : List Template). IsBound us bound.bound.fixed bound.bound.each) (sym parts.set) bound.ensures.bound;
      claimed = claims-of bound.bound.claims ts (set_view c.in_ok-parts.parts.set.value) (sym parts.set) bound.ensures.claims;
      makes = at-first set_makes_text ts l.invariant.makes (omega arith) ∙ ap set_makes_text (sym parts.set);
    }
