use Rattle.std.proofs.Common.{◌∙◌, ap, refl, sym}
use Rattle.tmpl_code.specs.View.{names_of}
use Rattle.tmpl_code.specs.Instruction.{show_fields}
use Rattle.tmpl_code.specs.declared.instruction.Instruction.TheVariants as i
use Rattle.tmpl_code.proofs.TableLemmas.{all-fit, counted, span_at_end, put_over}
use Rattle.tmpl_code.proofs.code.Code.push_show_fields.Goals as goal

pub invariant_of-self : goal.invariant_of-self
invariant_of-self c =
    record { fitting = all-fit c.add_names.ensures.grows c.args.self.now.instructions.items c.args.self.now.fitting }

pub returns : goal.returns
returns c =
    let there = span_at_end (names_of c.args.self.now.tables) (names_of c.add_names.new.self) c.args.names.now c.in_ok-span.span.start c.in_ok-span.span.count c.in_ok-span.ensures.names (c.in_ok-span.ensures.place.0 ∙ sym (counted c.args.self.now.tables)) c.in_ok-span.ensures.place.1 in
    put_over c.push.result c.args.self.now _ c.push.new.self (i.ShowFields c.in_ok-span.span c.args.line) (show_fields c.args.line c.args.names.now) c.add_names.ensures.grows refl (ap (show_fields c.args.line) there) c.push.ensures
