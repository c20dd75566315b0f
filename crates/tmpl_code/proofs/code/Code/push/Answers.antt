use Rattle.std.proofs.Common.{◌≡◌, ◌∙◌, ◌∷◌, ap}
use Rattle.tmpl_code.specs.View.{instruction_of}
use Rattle.tmpl_code.specs.computed.Held.{code_in, code_of}
use Rattle.tmpl_code.proofs.HeldLemmas.{code_push}
use Rattle.tmpl_code.proofs.TailLemmas.{ends_one}
use Rattle.tmpl_code.proofs.code.Code.push.Goals as goal

pub returns : goal.returns
unfolding code_of
returns c =
    let t = c.args.self.now.tables in
    let is = c.args.self.now.instructions.items in
    let put : code_in t c.push.new.self.items ≡ instruction_of t c.args.instruction ∷ code_in t is =
    ap (code_in t) c.in_ok-push.ensures.items ∙ code_push t is c.args.instruction in
    record { code = put; ends = ends_one put }
