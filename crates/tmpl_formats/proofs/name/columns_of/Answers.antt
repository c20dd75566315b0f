use Rattle.std.proofs.Common.{arith, sym}
use Rattle.tmpl_formats.proofs.NameLemmas.{digit-some, digit-none, digits-end, digits-some}
use Rattle.tmpl_formats.specs.Name.{columns_of}
use Rattle.tmpl_formats.proofs.name.columns_of.Goals as goal

pub returns-in-None : goal.returns-in-None
returns-in-None c = digit-none c.args.digits.now c.loop-byte.byte-index c.loop-byte.columns (columns_of c.args.digits.now) (omega arith) c.loop-byte.invariant (sym c.in-None.ensures)

pub loop-byte-preserved : goal.loop-byte-preserved
loop-byte-preserved c = digit-some c.args.digits.now c.loop-byte.byte-index c.loop-byte.columns c.in-Some.next (columns_of c.args.digits.now) (omega arith) c.loop-byte.invariant (sym c.in-Some.ensures)

pub returns-then-columns-eq0 : goal.returns-then-columns-eq0
returns-then-columns-eq0 c = rw c.if-columns-eq0.true at (digits-end c.args.digits.now c.loop-byte.byte-index c.loop-byte.columns (columns_of c.args.digits.now) (omega arith) c.loop-byte.invariant)

pub returns-else-columns-eq0 : goal.returns-else-columns-eq0
returns-else-columns-eq0 c = digits-some c.args.digits.now c.loop-byte.byte-index c.loop-byte.columns (columns_of c.args.digits.now) (omega arith) c.loop-byte.invariant c.if-columns-eq0.false
