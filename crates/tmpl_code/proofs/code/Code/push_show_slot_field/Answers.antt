use Rattle.std.proofs.Common.{◌∙◌, ◌++◌, ◌∷◌, [], ap, refl, sym}
use Rattle.tmpl_code.specs.View.{names_of}
use Rattle.tmpl_code.specs.Instruction.{show_slot}
use Rattle.tmpl_code.specs.declared.instruction.Instruction.TheVariants as i
use Rattle.tmpl_code.proofs.TableLemmas.{all-fit, at_end, counted, put_over}
use Rattle.tmpl_code.proofs.code.Code.push_show_slot_field.Goals as goal

pub invariant_of-self : goal.invariant_of-self
invariant_of-self c =
    record { fitting = all-fit c.add_name.ensures.grows c.args.self.now.instructions.items c.args.self.now.fitting }

pub returns : goal.returns
returns c =
    let there = at_end (names_of c.args.self.now.tables) (names_of c.add_name.new.self) c.args.name.now [] c.in_ok-place.place (c.in_ok-place.ensures.name ∙ ap (λ n. names_of c.args.self.now.tables ++ n ∷ []) c.as_slice.ensures) (c.in_ok-place.ensures.place ∙ sym (counted c.args.self.now.tables)) in
    put_over c.push.result c.args.self.now _ c.push.new.self (i.ShowSlotField c.args.slot c.in_ok-place.place c.args.line) (show_slot c.args.line c.args.slot (c.args.name.now ∷ [])) c.add_name.ensures.grows refl (ap (λ n. show_slot c.args.line c.args.slot (n ∷ [])) there) c.push.ensures
