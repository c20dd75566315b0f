use Rattle.std.proofs.Common.{◌+◌, ◌*◌}
use Rattle.tmpl_json_schema.proofs.draw.Draw.+draw.Given as goal

abbrev pub decreases-of_schema : goal.decreases-of_schema
decreases-of_schema l = 20 * l.levels + 0

abbrev pub decreases-of_object : goal.decreases-of_object
decreases-of_object l = 20 * l.levels + 16

abbrev pub decreases-of_keywords : goal.decreases-of_keywords
decreases-of_keywords l = 20 * l.levels + 15

abbrev pub decreases-with_parts : goal.decreases-with_parts
decreases-with_parts l = 20 * l.levels + 3

abbrev pub decreases-of_reference : goal.decreases-of_reference
decreases-of_reference l = 20 * l.levels + 2

abbrev pub decreases-of_types : goal.decreases-of_types
decreases-of_types l = 20 * l.levels + 14

abbrev pub decreases-of_type : goal.decreases-of_type
decreases-of_type l = 20 * l.levels + 13

abbrev pub decreases-of_list : goal.decreases-of_list
decreases-of_list l = 20 * l.levels + 12

abbrev pub decreases-of_map : goal.decreases-of_map
decreases-of_map l = 20 * l.levels + 12

abbrev pub decreases-add_other : goal.decreases-add_other
decreases-add_other l = 20 * l.levels + 5

abbrev pub decreases-add_of_patterns : goal.decreases-add_of_patterns
decreases-add_of_patterns l = 20 * l.levels + 5
