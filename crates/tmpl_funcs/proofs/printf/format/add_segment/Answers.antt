use Rattle.std.proofs.Common.{◌≡◌, ◌-◌, ℕ, List, length, take, drop, get_or, arith, rules}
use Rattle.tmpl_funcs.specs.View.{values_of}
use Rattle.tmpl_funcs.proofs.AddedLemmas.{cons-take, percent-take, formatted-run_added, formatted-percent_added, formatted-percent_lone}
use Rattle.tmpl_funcs.proofs.printf.format.add_segment.Goals as goal

pub returns-then-run-gt0 : goal.returns-then-run-gt0
returns-then-run-gt0 c =
    let run = c.front_len-run in
    formatted-run_added c.args.format.now run.result
    (values_of c.args.operands.now) c.args.bytes.now.items c.extend_from_slice.new.self.items run.ensures.longest c.if-run-gt0.true run.ensures.within
    c.in_ok-extend_from_slice.ensures.items

pub returns-in-empty : goal.returns-in-empty
returns-in-empty c =
    let format : List ℕ = c.args.format.now in
    let rest : List ℕ = take (length format - 1) (drop 1 format) in
    formatted-percent_lone format rest (values_of c.args.operands.now)
    (percent-take format c.front_len-run.result c.requires c.front_len-run.ensures.longest c.if-run-gt0.false) (omega (arith, c.in-empty.len_below))

pub returns-in_ok-push-in-37 : goal.returns-in_ok-push-in-37
returns-in_ok-push-in-37 c =
    let format : List ℕ = c.args.format.now in
    let rest : List ℕ = take (length format - 1) (drop 1 format) in
    let point : get_or rest 0 0 ≡ 37 = search rules in
    formatted-percent_added format rest (take (length rest - 1) (drop 1 rest)) (values_of c.args.operands.now) c.args.bytes.now.items c.push.new.self.items
    (percent-take format c.front_len-run.result c.requires c.front_len-run.ensures.longest c.if-run-gt0.false)
    (cons-take rest 37 c.in-37.len_at_least point)
    c.in_ok-push-in-37.ensures.items
