use Rattle.std.proofs.Common.{◌∙◌, ◌-◌, ℕ, get_or, set, arith, ap, refl, append-nil}
use Rattle.std.proofs.lemmas.List.{get_or_default, take_all, drop_all}
use Rattle.std.proofs.lemmas.List.Edits.{map_over_more}
use Rattle.tmpl_code.proofs.compiler.to_places.Goals as goal

pub loop-count-preserved : goal.loop-count-preserved
loop-count-preserved c =
    let l = c.loop-count in
    let f : ℕ → ℕ = λ n. c.args.size - n in
    ap (λ n. set l.counts l.count-index n) c.saturating_sub.ensures
    ∙ map_over_more f c.args.counts.now l.counts l.count-index (get_or l.counts l.count-index 0) (omega arith) l.invariant
    (get_or_default l.counts l.count-index 0 (get_or l.counts l.count-index 0) (omega arith))

pub returns : goal.returns
returns c =
    let l = c.loop-count in
    let done = c.args.counts.now in
    l.invariant ∙ rw (take_all l.count-index done (omega arith), drop_all l.count-index done (omega arith), append-nil) refl
