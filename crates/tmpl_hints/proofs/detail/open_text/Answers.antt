use Rattle.std.proofs.Common.{◌++◌, codes, subst}
use Rattle.std.specs.Fmt.{decimal}
use Rattle.tmpl_hints.specs.Sentence.{Adds}
use Rattle.tmpl_hints.proofs.SentenceLemmas.{adds_then}
use Rattle.tmpl_hints.proofs.detail.open_text.Goals as goal

pub returns : goal.returns
returns c =
    let name = adds_then _ _ _ _ _ c.say.ensures c.say-2.ensures in
    let place = adds_then _ _ _ _ _ (adds_then _ _ _ _ _ name c.say-3.ensures) c.count.ensures in
    subst (λ word. Adds c.args.said c.say-4.result (codes "\"" ++ word ++ codes "\" of line " ++ decimal c.args.part.line ++ codes " is open"))
    c.word.ensures (adds_then _ _ _ _ _ place c.say-4.ensures)
