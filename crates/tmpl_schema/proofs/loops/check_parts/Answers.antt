use Rattle.std.proofs.Common.{rules, ◌≡◌, true, false, subst}
use Rattle.std.proofs.lemmas.Result.{on_ok_weaker}
use Rattle.tmpl_syntax.specs.View.{set_view}
use Rattle.tmpl_loops.specs.computed.Find.{after_texts, are_apart, is_end, names_of}
use Rattle.tmpl_loops.specs.computed.View.{parts_seen}
use Rattle.tmpl_shape.specs.computed.View.{base_of}
use Rattle.tmpl_schema.specs.computed.Check.{State}
use Rattle.tmpl_schema.specs.computed.Loops.{EndsWell}
use Rattle.tmpl_schema.proofs.loops.check_parts.Goals as goal

pub returns : goal.returns
returns c =
    let p = parts_seen c.args.parts.now in
    let base = base_of c.args.base.now in
    let set = set_view c.args.set.now in
    let closed : is_end (after_texts p.tail) ≡ true = search rules in
    let apart : are_apart p ≡ true = search rules in
    on_ok_weaker c.ends_well.result (λ h. record {
      closed = closed;
      apart = apart;
      turns = subst (λ (k : State). EndsWell base set c.args.stops.now (names_of p) p.byte k p.steps false false) c.in_ok-state.ensures h;
    }) c.ends_well.ensures
