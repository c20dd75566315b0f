use Rattle.std.proofs.Common.{◌∙◌, ◌++◌, Option, List, ℕ, [], ◌∷◌, ap, codes, string_bytes, subst, sym}
use Rattle.std.specs.Option.{option_map, option_map_or}
use Rattle.std.proofs.lemmas.Result.{IfOk-weaker}
use Rattle.serde_json.specs.Written.{compact_text}
use Rattle.tmpl_hints.specs.Sentence.{Adds}
use Rattle.tmpl_hints.proofs.SentenceLemmas.{adds_then}
use Rattle.tmpl_problems.specs.Finding.{Finding}
use Rattle.tmpl_problems.specs.Sarif.{locations_of, message_of}
use Rattle.tmpl_problems.proofs.sarif.say_note.Goals as goal

pub returns-in-Some : goal.returns-in-Some
returns-in-Some c =
    let related = λ (t : List ℕ). compact_text (locations_of c.args.finding.now ((codes "message", message_of t) ∷ [])) in
    let same = sym (ap (λ (x : Finding). x.note) c.finding.view_is) ∙ ap (option_map string_bytes) c.in-Some.is in
    IfOk-weaker c.say_related.result _ _
    (λ s a. subst (λ (o : Option (List ℕ)). Adds c.args.said s (option_map_or (λ t. codes ",\"relatedLocations\":" ++ related t) o [])) (sym same)
    (adds_then _ _ _ _ _ c.say.ensures (subst (λ (t : List ℕ). Adds c.say.result s (related t)) c.as_str.ensures.value a)))
    c.say_related.ensures
