use Rattle.tmpl_tool.specs.Tool.{Parse}
use Rattle.tmpl_tool.proofs.ParseLemmas.{for_each}
use Rattle.tmpl_c.specs.Checked.{Checks}
use Rattle.tmpl_c.specs.Passed.{pairs_of}
use Rattle.tmpl_c.specs.Texts.{bytes_in}
use Rattle.tmpl_c.proofs.keyed_check.Goals as goal

pub returns : goal.returns
returns c parse is =
    for_each (λ (p : Parse). Checks p (pairs_of c.args.files.now) (bytes_in c.check_files.new.text.held) c.check_files.result)
    (c.check_files.ensures.status, c.check_files.ensures.quiet) parse is
