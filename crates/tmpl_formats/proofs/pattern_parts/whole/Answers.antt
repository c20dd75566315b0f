use Rattle.std.proofs.Common.{◌++◌, arith}
use Rattle.tmpl_formats.specs.computed.PatternRows.{separator}
use Rattle.tmpl_formats.specs.PatternView.{tree_of}
use Rattle.tmpl_formats.proofs.PatternPartsLemmas.{whole-row}
use Rattle.tmpl_formats.proofs.pattern_parts.whole.Goals as goal

pub returns : goal.returns
returns c = λ text rest row.
    whole-row c.args.is_either text rest c.join.new.parts.items (tree_of c.in_ok-root.root) (omega (arith, c.in_ok-root.ensures.count, c.args.parts.ok.0))
    (c.in_ok-root.ensures.written (separator c.args.is_either ++ text) rest row)
