use Rattle.std.proofs.Common.{◌∙◌, ◌+◌, ◌-◌, ◌≤◌, Bool, ap, sym, subst, arith, length, slice_range, drop, List, ℕ}
use Rattle.std.proofs.lemmas.List.{length-take}
use Rattle.tmpl_values.specs.computed.OwnedBytes.{owned_bytes, is_counted}
use Rattle.tmpl_values.proofs.BytesLemmas.{range-range}
use Rattle.tmpl_values.proofs.made.Made.part.Goals as goal

pub returns : goal.returns
returns c =
    let inside = c.self.inside in
    let bytes : List ℕ = owned_bytes inside.buffer in
    let within : inside.start + c.args.j ≤ inside.end =
    let long_enough = length-take (inside.end - inside.start) (drop inside.start bytes) in
    let long : c.args.j ≤ length (slice_range bytes inside.start inside.end) =
    subst (λ (p : List ℕ × Bool). c.args.j ≤ length p.0) (sym c.self.view_is) c.requires.1 in
    omega (arith, long_enough, long, c.self.invariant) in
    ap (λ s. (s, is_counted inside.buffer)) (range-range bytes inside.start inside.end c.args.i c.args.j c.requires.0 within)
    ∙ ap (λ (p : List ℕ × Bool). (slice_range p.0 c.args.i c.args.j, p.1)) c.self.view_is
