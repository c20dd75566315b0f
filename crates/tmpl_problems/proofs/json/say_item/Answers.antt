use Rattle.std.proofs.Common.{List, ℕ, [], ◌++◌, codes, subst, sym}
use Rattle.std.specs.Option.{option_map_or}
use Rattle.serde_json.specs.Data.{string}
use Rattle.serde_json.specs.Written.{compact_text}
use Rattle.tmpl_hints.specs.Sentence.{Adds}
use Rattle.tmpl_hints.proofs.SentenceLemmas.{adds_then}
use Rattle.tmpl_problems.specs.Finding.{Finding}
use Rattle.tmpl_problems.specs.Json.{item_of}
use Rattle.tmpl_problems.proofs.ItemLemmas.{item_parts, item_parted}
use Rattle.tmpl_problems.proofs.json.say_item.Goals as goal

pub returns : goal.returns
returns c =
    let word = subst (λ (t : List ℕ). Adds c.say-4.result c.say-5.result t) c.word.ensures c.say-5.ensures in
    let text = subst (λ (t : List ℕ). Adds c.say-said-2.result c.in_ok-said.said (compact_text (string t))) c.as_str.ensures.value c.in_ok-said.ensures in
    let note = subst (λ (x : Finding). Adds c.in_ok-said.said c.in_ok-say_note.field-0
    (option_map_or (λ t. codes ",\"note\":" ++ compact_text (string t)) x.note [])) (sym c.finding.view_is) c.in_ok-say_note.ensures in
    let level = adds_then _ _ _ _ _ word (adds_then _ _ _ _ _ c.say-said.ensures (adds_then _ _ _ _ _ c.in_ok-say_quoted-2.ensures
    (adds_then _ _ _ _ _ c.say-said-2.ensures (adds_then _ _ _ _ _ text (adds_then _ _ _ _ _ note c.say-6.ensures))))) in
    let place = adds_then _ _ _ _ _ c.say-2.ensures (adds_then _ _ _ _ _ c.count.ensures (adds_then _ _ _ _ _ c.say-3.ensures
    (adds_then _ _ _ _ _ c.count-2.ensures (adds_then _ _ _ _ _ c.say-4.ensures level)))) in
    let parts : Adds c.args.said c.say-6.result (item_parts _) = adds_then _ _ _ _ _ c.say.ensures (adds_then _ _ _ _ _ c.in_ok-say_quoted.ensures place) in
    subst (λ (x : Finding). Adds c.args.said c.say-6.result (compact_text (item_of x))) c.finding.view_is
    (subst (λ (t : List ℕ). Adds c.args.said c.say-6.result t) (item_parted _) parts)
