use Rattle.std.proofs.Common.{true, false, sym}
use Rattle.tmpl_formats.specs.Pattern as tree
use Rattle.tmpl_formats.specs.PatternText.{HasAtom, single, dot, character}
use Rattle.tmpl_formats.proofs.PatternTextLemmas.{at_letter}
use Rattle.tmpl_formats.proofs.PatternTreeLemmas.{atom-of}
use Rattle.tmpl_formats.proofs.pattern_text.Reader.plain_atom.Goals as goal

pub returns-in-46 : goal.returns-in-46
returns-in-46 c =
    let t = tree.One true c.ends_of_lines.result.now in
    atom-of c.args.self.now.rest.now c.set.new.self.rest.now c.next.new.self.rest.now t c.set.result c.set.ensures.tree c.set.ensures.rest
    (at_letter (λ s. HasAtom s t c.next.new.self.rest.now) _ _ _ _ c.in-Some.ensures c.in-46.is (rw c.ends_of_lines.ensures dot))

pub returns-else-has_meaning : goal.returns-else-has_meaning
returns-else-has_meaning c =
    let t = tree.One false (single c.from.result) in
    let now = c.next.new.self.rest.now in
    atom-of c.args.self.now.rest.now c.single.new.self.rest.now now t c.single.result c.single.ensures.tree c.single.ensures.rest
    (rw (c.in-Some.ensures, c.from.ensures) (character (sym c.if-has_meaning.ensures)))
