use Rattle.std.proofs.Common.{◌∙◌, codes}
use Rattle.clap.specs.Words.{found_of}
use Rattle.clap.proofs.WalkLemmas.{first_value-rows}
use Rattle.tmpl_tool.proofs.words.request_in.Goals as goal

pub returns : goal.returns
returns c =
    let data_file = c.get_str.ensures ∙ first_value-rows (found_of c.args.matches.now) (codes "data") in
    let name = c.get_str-2.ensures ∙ first_value-rows (found_of c.args.matches.now) (codes "name") in
    λ i. record {
      data_file = data_file i;
      name = name i;
      rules = c.options_in.ensures i;
      print = c.print_of.ensures i;
      files = c.in_ok-files_of.ensures i;
    }
