use Rattle.std.proofs.Common.{◌∙◌, sym, ap, rules, List, ◌++◌, map}
use Rattle.tmpl_lex.specs.Piece.{Piece}
use Rattle.tmpl_lex.specs.View.{piece_of}
use Rattle.tmpl_lex.proofs.FirstPartLemmas.{whole-cut}
use Rattle.tmpl_lex.proofs.cutter.cut.Goals as goal

pub loop-tokens-init : goal.loop-tokens-init
loop-tokens-init c = record {
  so_far = λ more cuts.
      whole-cut c.args.bytes.now c.of-rest.result more c.of-rest.ensures.bytes c.of-rest.ensures.line c.of-rest.ensures.trims cuts
      ∙ ap (λ (ps : List Piece). ps ++ more) (sym (ap (map piece_of) c.new-pieces.ensures.items));
  left = c.of-rest.ensures.left;
  placed = search rules;
}
