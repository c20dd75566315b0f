use Rattle.std.proofs.Common.{Some, refl}
use Rattle.tmpl_formats.specs.PatternText.{once}
use Rattle.tmpl_formats.proofs.pattern_text.Reader.repeated.Goals as goal

pub returns-then-is_once : goal.returns-then-is_once
returns-then-is_once c =
    let e = c.if-is_once.ensures refl in (1, Some 1, (rw (e.0, e.1) at c.in-Some.ensures), once)
