use Rattle.std.proofs.Common.{◌≡◌, ◌∙◌, ◌+◌, ◌++◌, ℕ, List, ap, arith, slice_range, drop}
use Rattle.std.specs.List.{flat_map}
use Rattle.tmpl_funcs.specs.computed.Escape.{escaped_byte}
use Rattle.tmpl_funcs.proofs.EscapeLemmas.{flat_map-plain, flat_map-escaped}
use Rattle.tmpl_funcs.proofs.escape.add_escaped.Goals as goal
use Rattle.tmpl_funcs.proofs.escape.add_escaped.Goals.{in-Some+in_ok-extend_from_slice+in_ok-extend_from_slice-2, in_default}

pub loop-i-preserved : goal.loop-i-preserved
loop-i-preserved c =
    let l = c.loop-i in
    let text = c.args.text.now in
    let f : ℕ → List ℕ = escaped_byte c.args.escape in
    let rest : List ℕ = flat_map f (drop (l.i + 1) text) in
    elim c.match-of.branch [
      | in-Some+in_ok-extend_from_slice+in_ok-extend_from_slice-2 w ↦
          let bytes : c.match-of.bytes.items ≡ (l.bytes.items ++ slice_range text l.start l.i) ++ w.in-Some.escaped.now =
          ap (λ v. v.items) w.bytes-is ∙ w.in_ok-extend_from_slice-2.ensures.items
          ∙ ap (λ s. s ++ w.in-Some.escaped.now) w.in_ok-extend_from_slice.ensures.items in record {
            within = omega (arith, w.start-is);
            so_far =
                ap (λ s. s ++ (slice_range text c.match-of.start (l.i + 1) ++ rest)) bytes ∙
                ap (λ k. ((l.bytes.items ++ slice_range text l.start l.i) ++ w.in-Some.escaped.now) ++ (slice_range text k (l.i + 1) ++ rest)) w.start-is ∙
                flat_map-escaped f text l.start l.i l.bytes.items _ l.invariant.so_far (omega arith) w.in-Some.escaped.now w.in-Some.ensures;
          }
      | in_default w ↦ record {
        within = omega (arith, w.start-is);
        so_far =
            ap (λ v. v.items ++ (slice_range text c.match-of.start (l.i + 1) ++ rest)) w.bytes-is ∙
            ap (λ k. l.bytes.items ++ (slice_range text k (l.i + 1) ++ rest)) w.start-is ∙
            flat_map-plain f text l.start l.i l.bytes.items _ l.invariant.so_far l.invariant.within (omega arith) w.in_default.ensures;
      }
    ]
