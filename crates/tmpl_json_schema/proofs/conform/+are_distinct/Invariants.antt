use Rattle.std.proofs.Common.{length}
use Rattle.tmpl_json_schema.proofs.conform.+are_distinct.Given as goal

abbrev pub decreases-are_distinct : goal.decreases-are_distinct
decreases-are_distinct l = length l.items.now
