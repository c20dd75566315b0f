use Rattle.std.proofs.Common.{◌≡◌, ◌++◌, ap, subst, sym, rules, string_bytes}
use Rattle.std.proofs.lemmas.List.{nil_from_length}
use Rattle.std.specs.Str.{IsUtf8}
use Rattle.std.specs.Str.Iter.{chars_rest}
use Rattle.tmpl_problems.specs.Line.{shown_in_line}
use Rattle.tmpl_problems.proofs.LineLemmas.{shown_step, shown_end}
use Rattle.tmpl_problems.proofs.line.push_shown.Goals as goal

pub loop-c-init : goal.loop-c-init
loop-c-init c =
    let whole : chars_rest c.into_iter-c-iterator.result ≡ c.args.text.now = search rules in
    (subst IsUtf8 (sym whole) c.utf8.text, ap (λ t. string_bytes c.args.out.now ++ shown_in_line t) whole)

pub loop-c-preserved : goal.loop-c-preserved
loop-c-preserved c =
    shown_step _ _ _ _ _ _ c.loop-c.invariant.0 c.in-Some.ensures.steps.0 c.loop-c.invariant.1 c.in_ok-push_char.ensures

pub returns : goal.returns
returns c = shown_end _ _ _ (nil_from_length _ c.in-None.ensures.steps.0.0) c.loop-c.invariant.1
