use Rattle.std.proofs.Common.{sym}
use Rattle.tmpl_formats.specs.PatternText.{kind}
use Rattle.tmpl_formats.proofs.pattern_text.Reader.kind_in_class.Goals as goal

pub returns : goal.returns
returns c = λ _.
    (let k = c.in-Some.ensures in
    (c.in-Some.kind.now, c.in_ok-extend_from_slice.ensures.items, (rw k.1 (kind k.2 (sym c.if-begins_range.ensures)))))
