use Rattle.tmpl_formats.proofs.PatternTextLemmas.{with_some}
use Rattle.tmpl_formats.proofs.PatternClassLemmas.{class_of}
use Rattle.tmpl_formats.proofs.pattern_text.Reader.class.Goals as goal

pub returns : goal.returns
returns c =
    let now = c.one.new.self.rest.now in
    let text = c.args.self.now.rest.now in
    let items = rw c.in-Some.is at c.in_ok-spans.ensures in
    let atom = class_of c.takes-is_negated.result text c.takes-is_negated.new.self.rest.now c.items.new.self.rest.now c.in-Some.spans.items
    c.takes-is_negated.ensures.taken c.takes-is_negated.ensures.kept c.takes-is_negated.ensures.begins items in
    with_some _ _ (λ node e. (rw (← c.one.ensures.rest, ← e) at atom)) c.one.result c.one.ensures.tree
