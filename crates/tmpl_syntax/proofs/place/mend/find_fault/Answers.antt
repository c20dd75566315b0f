use Rattle.std.proofs.Common.{◌∙◌, sym}
use Rattle.std.specs.Option.{option_map}
use Rattle.tmpl_syntax.specs.Place.Role.{role_of}
use Rattle.tmpl_syntax.specs.computed.Fault.{of_action}
use Rattle.tmpl_syntax.specs.computed.View.{frame_of, item_of, known_names}
use Rattle.tmpl_syntax.proofs.RefusalLemmas.{names_decided}
use Rattle.tmpl_syntax.proofs.place.mend.find_fault.Goals as goal

pub returns-clause-names : goal.returns-clause-names
returns-clause-names c = c.forget.ensures ∙ names_decided (role_of (item_of c.args.item.now)) (option_map frame_of c.args.outside)
    (known_names c.args.names.now) (known_names c.forget.new.names) (known_names c.args.names.now)
    (option_map of_action c.fault_of-fault.result) (option_map of_action c.fault_of.result) c.fault_of-fault.ensures
    (sym c.place_decides.ensures ∙ c.if-place_decides.false) c.fault_of.ensures
