use Rattle.std.proofs.Common.{◌∷◌, false}
use Rattle.tmpl_formats.specs.Pattern as tree
use Rattle.tmpl_formats.specs.PatternText.{single, set, escape}
use Rattle.tmpl_formats.proofs.PatternTreeLemmas.{atom-of}
use Rattle.tmpl_formats.proofs.pattern_text.Reader.escaped_atom.Goals as goal

pub returns-in-Some : goal.returns-in-Some
returns-in-Some c =
    let k = c.in-Some.ensures in
    let t = tree.One false c.in-Some.spans.now in
    atom-of (92 ∷ c.args.self.now.rest.now) c.set.new.self.rest.now c.kind.new.self.rest.now t c.set.result c.set.ensures.tree c.set.ensures.rest (rw k.1 (set k.2))

pub returns : goal.returns
returns c =
    let t = tree.One false (single c.in-Some-escape.code) in
    atom-of (92 ∷ c.args.self.now.rest.now) c.single.new.self.rest.now c.escape.new.self.rest.now t c.single.result c.single.ensures.tree c.single.ensures.rest
    (rw c.in_default.ensures at (escape c.in-Some-escape.ensures))
