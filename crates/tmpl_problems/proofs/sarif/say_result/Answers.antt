use Rattle.std.proofs.Common.{List, ℕ, ◌∙◌, ap, subst}
use Rattle.serde_json.specs.Data.{string}
use Rattle.serde_json.specs.Written.{compact_text}
use Rattle.tmpl_hints.specs.Sentence.{Adds}
use Rattle.tmpl_hints.proofs.SentenceLemmas.{adds_then}
use Rattle.tmpl_problems.specs.Finding.{Finding}
use Rattle.tmpl_problems.specs.Level.{word_of}
use Rattle.tmpl_problems.specs.Sarif.{message_of}
use Rattle.tmpl_problems.proofs.ItemLemmas.{result_parted}
use Rattle.tmpl_problems.proofs.sarif.say_result.Goals as goal

pub returns : goal.returns
returns c =
    let f = c.args.finding.now in
    let rule = subst (λ (x : Finding). Adds c.say.result c.in_ok-say_quoted.field-0 (compact_text (string x.rule))) c.finding.view_is
    c.in_ok-say_quoted.ensures in
    let word = subst (λ (t : List ℕ). Adds c.say-2.result c.say-3.result t) (c.word.ensures ∙ ap (λ (x : Finding). word_of x.level) c.finding.view_is)
    c.say-3.ensures in
    let message = subst (λ (t : List ℕ). Adds c.say-said.result c.in_ok-say_message.field-0 (compact_text (message_of t)))
    (c.as_str.ensures.value ∙ ap (λ (x : Finding). x.text) c.finding.view_is) c.in_ok-say_message.ensures in
    let more = adds_then _ _ _ _ _ message (adds_then _ _ _ _ _ c.say-said-2.ensures
    (adds_then _ _ _ _ _ c.in_ok-said.ensures (adds_then _ _ _ _ _ c.in_ok-say_note.ensures c.say-4.ensures))) in
    let level = adds_then _ _ _ _ _ c.say-2.ensures (adds_then _ _ _ _ _ word (adds_then _ _ _ _ _ c.say-said.ensures more)) in
    subst (λ (t : List ℕ). Adds c.args.said c.say-4.result t) (result_parted f)
    (adds_then _ _ _ _ _ c.say.ensures (adds_then _ _ _ _ _ rule level))
