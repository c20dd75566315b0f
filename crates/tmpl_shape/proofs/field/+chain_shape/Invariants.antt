use Rattle.std.proofs.Common.{length}
use Rattle.tmpl_shape.proofs.field.+chain_shape.Given as goal

abbrev pub decreases-chain_shape : goal.decreases-chain_shape
decreases-chain_shape l = length l.names.now
