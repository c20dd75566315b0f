use Rattle.std.proofs.Common.{[], ap, refl}
use Rattle.tmpl_code.specs.Instruction.{put}
use Rattle.tmpl_code.specs.declared.instruction.Instruction.TheVariants as i
use Rattle.tmpl_code.proofs.TableLemmas.{all-fit, at_end, put_over}
use Rattle.tmpl_code.proofs.code.Code.push_put.Goals as goal

pub invariant_of-self : goal.invariant_of-self
invariant_of-self c =
    record { fitting = all-fit c.add_text.ensures.grows c.args.self.now.instructions.items c.args.self.now.fitting }

pub returns : goal.returns
returns c =
    let there = at_end c.args.self.now.tables.texts.items c.add_text.new.self.texts.items c.args.text.now [] c.in_ok-place.place c.in_ok-place.ensures.text c.in_ok-place.ensures.place in
    put_over c.push.result c.args.self.now _ c.push.new.self (i.Put c.in_ok-place.place c.args.line) (put c.args.line c.args.text.now) c.add_text.ensures.grows refl (ap (put c.args.line) there) c.push.ensures
