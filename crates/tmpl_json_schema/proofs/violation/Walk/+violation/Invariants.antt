use Rattle.std.proofs.Common.{◌+◌, ◌*◌}
use Rattle.tmpl_json_schema.proofs.violation.Walk.+violation.Given as goal

abbrev pub decreases-visit : goal.decreases-visit
decreases-visit l = 10 * l.levels + 0

abbrev pub decreases-visit_rules : goal.decreases-visit_rules
decreases-visit_rules l = 10 * l.levels + 9

abbrev pub decreases-visit_rule : goal.decreases-visit_rule
decreases-visit_rule l = 10 * l.levels + 8

abbrev pub decreases-visit_reference : goal.decreases-visit_reference
decreases-visit_reference l = 10 * l.levels + 5

abbrev pub decreases-visit_each : goal.decreases-visit_each
decreases-visit_each l = 10 * l.levels + 5

abbrev pub decreases-visit_properties : goal.decreases-visit_properties
decreases-visit_properties l = 10 * l.levels + 5

abbrev pub decreases-visit_others : goal.decreases-visit_others
decreases-visit_others l = 10 * l.levels + 5

abbrev pub decreases-visit_items : goal.decreases-visit_items
decreases-visit_items l = 10 * l.levels + 5
