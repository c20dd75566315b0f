use Rattle.tmpl_engine.proofs.machine.Machine.execute.Goals as goal

pub returns-in-ShowFields-clause-step : goal.returns-in-ShowFields-clause-step
returns-in-ShowFields-clause-step g c = rw (c.in-ShowFields.is, ← c.names-in-ShowFields.ensures) (c.show_fields.ensures.step _ _ _)

pub returns-in-ShowSlotField-clause-step : goal.returns-in-ShowSlotField-clause-step
returns-in-ShowSlotField-clause-step g c = rw (c.in-ShowSlotField.is, ← c.name-in-ShowSlotField.ensures) (c.show_slot_field.ensures.step _ _ _)
