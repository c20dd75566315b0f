use Rattle.std.proofs.Common.{◌≡◌, drop}
use Rattle.tmpl_formats.specs.Name.{columns_from, columns_of}
use Rattle.tmpl_formats.proofs.name.columns_of.Given as goal

abbrev pub invariant-loop-byte : goal.invariant-loop-byte
invariant-loop-byte l = columns_from l.columns (drop l.byte-index l.digits) ≡ columns_of l.digits
