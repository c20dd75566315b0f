use Rattle.std.proofs.Common.{string_bytes, subst}
use Rattle.std.proofs.lemmas.Result.{IfOk-weaker}
use Rattle.tmpl_hints.specs.Sentence.{Adds, Said}
use Rattle.tmpl_hints.proofs.SentenceLemmas.{adds_then}
use Rattle.tmpl_problems.specs.Json.{json_of}
use Rattle.tmpl_problems.proofs.SaidLemmas.{said_whole}
use Rattle.tmpl_problems.proofs.json.document.Goals as goal

pub returns : goal.returns
returns c =
    let all : Adds c.new.result c.say.result (json_of c.args.findings.now) =
    adds_then _ _ _ _ _ c.say-said.ensures (adds_then _ _ _ _ _ c.in_ok-say_items.ensures c.say.ensures) in
    let whole = subst (λ (a : Said). Adds a c.say.result (json_of c.args.findings.now)) c.new.ensures all in
    IfOk-weaker c.finish.result _ _ (λ t e. said_whole c.say.result (string_bytes t) (json_of c.args.findings.now) whole e) c.finish.ensures.text
