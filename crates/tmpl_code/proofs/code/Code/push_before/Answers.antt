use Rattle.std.proofs.Common.{ap, ◌∙◌}
use Rattle.tmpl_code.specs.computed.Held.{code_in, code_of}
use Rattle.tmpl_code.proofs.HeldLemmas.{code_push}
use Rattle.tmpl_code.proofs.TailLemmas.{ends_one}
use Rattle.tmpl_code.proofs.code.Code.push_before.Goals as goal

pub returns : goal.returns
unfolding code_of
returns c =
    let a = c.args in
    let t = a.self.now.tables in
    let is = ap (code_in t) c.in_ok-add_before.ensures.added ∙ code_push t a.self.now.instructions.items a.instruction in
    record { code = is; ends = ends_one is }
