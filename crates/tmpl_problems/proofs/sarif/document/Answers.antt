use Rattle.std.proofs.Common.{List, ℕ, string_bytes, subst}
use Rattle.std.proofs.lemmas.Result.{IfOk-weaker}
use Rattle.tmpl_hints.specs.Sentence.{Adds, Said}
use Rattle.tmpl_hints.proofs.SentenceLemmas.{adds_then}
use Rattle.tmpl_problems.specs.Sarif.{log_of}
use Rattle.tmpl_problems.proofs.LogLemmas.{log_parted}
use Rattle.tmpl_problems.proofs.SaidLemmas.{said_whole}
use Rattle.tmpl_problems.proofs.sarif.document.Goals as goal

pub returns : goal.returns
returns c =
    let parts = adds_then _ _ _ _ _ c.say.ensures (adds_then _ _ _ _ _ c.in_ok-said.ensures
    (adds_then _ _ _ _ _ c.say-2.ensures (adds_then _ _ _ _ _ c.in_ok-say_results.ensures c.say-3.ensures))) in
    let all = subst (λ (t : List ℕ). Adds c.new.result c.say-3.result t) (log_parted c.all_rules.result c.args.findings.now c.all_rules.ensures) parts in
    let whole = subst (λ (a : Said). Adds a c.say-3.result (log_of c.args.findings.now)) c.new.ensures all in
    IfOk-weaker c.finish.result _ _ (λ t e. said_whole c.say-3.result (string_bytes t) (log_of c.args.findings.now) whole e) c.finish.ensures.text
