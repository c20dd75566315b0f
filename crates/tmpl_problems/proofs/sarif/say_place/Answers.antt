use Rattle.std.proofs.Common.{List, ℕ, ◌∙◌, subst}
use Rattle.serde_json.specs.Data.{string}
use Rattle.serde_json.specs.Written.{compact_text}
use Rattle.tmpl_hints.specs.Sentence.{Adds}
use Rattle.tmpl_hints.proofs.SentenceLemmas.{adds_then}
use Rattle.tmpl_problems.specs.Finding.{Finding}
use Rattle.tmpl_problems.specs.Sarif.{place_of, uri_of}
use Rattle.tmpl_problems.proofs.ItemLemmas.{place_parted}
use Rattle.tmpl_problems.proofs.sarif.say_place.Goals as goal

pub returns : goal.returns
returns c =
    let f = c.finding.inside in
    let uri = subst (λ (t : List ℕ). Adds c.say.result c.in_ok-say_quoted.field-0 (compact_text (string t))) (c.as_str.ensures.value ∙ c.in_ok-uri.ensures)
    c.in_ok-say_quoted.ensures in
    let region = adds_then _ _ _ _ _ c.say-2.ensures (adds_then _ _ _ _ _ c.count.ensures (adds_then _ _ _ _ _ c.say-3.ensures
    (adds_then _ _ _ _ _ c.count-2.ensures c.say-said.ensures))) in
    subst (λ (x : Finding). Adds c.args.said c.say-said.result (compact_text (place_of x))) c.finding.view_is
    (subst (λ (t : List ℕ). Adds c.args.said c.say-said.result t) (place_parted (uri_of f.file.now) f.line f.column)
    (adds_then _ _ _ _ _ c.say.ensures (adds_then _ _ _ _ _ uri region)))
