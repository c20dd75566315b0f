use Rattle.std.proofs.Common.{◌≡◌, ◌≤◌, ◌++◌, length, take, drop, subst, arith, List, ℕ}
use Rattle.std.specs.Char.{len_utf8}
use Rattle.std.proofs.lemmas.List.{length-drop}
use Rattle.tmpl_values.specs.computed.Quote.{inside}
use Rattle.tmpl_values.specs.Printable.{printable}
use Rattle.tmpl_values.proofs.QuoteLemmas.{inside-plain_run}
use Rattle.tmpl_values.proofs.quote.plain_len.Goals as goal

pub loop-c-preserved : goal.loop-c-preserved
loop-c-preserved c =
    let bytes : List ℕ = c.args.bytes.now in
    let so_far = c.loop-c.invariant in
    let here = subst (λ (s : List ℕ). (len_utf8 c.in-Some.c ≤ length s) ×
    (inside printable s ≡ take (len_utf8 c.in-Some.c) s ++ inside printable (drop (len_utf8 c.in-Some.c) s))) c.after.ensures c.in-Some.ensures in
    rw c.len_utf8-len.ensures.value (
      omega (arith, here.0, so_far.0, length-drop c.loop-c.len bytes),
      inside-plain_run printable bytes c.loop-c.len (len_utf8 c.in-Some.c) so_far.1 here.1,
    )
