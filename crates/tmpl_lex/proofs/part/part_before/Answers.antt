use Rattle.std.proofs.Common.{arith, refl, sym, ap, ◌∙◌, [], ◌∷◌}
use Rattle.tmpl_lex.specs.computed.Action.{opened}
use Rattle.tmpl_lex.specs.computed.Text.{without_trailing}
use Rattle.tmpl_lex.specs.computed.Trim.{left_marked}
use Rattle.tmpl_lex.specs.computed.View.{opened_of}
use Rattle.tmpl_lex.proofs.FirstPartLemmas.{texts-put, ends-same, end-within, part-before}
use Rattle.tmpl_lex.proofs.PartLemmas.{split-is}
use Rattle.tmpl_lex.proofs.BeginLemmas.{begins-by}
use Rattle.tmpl_lex.proofs.PlaceLemmas.{StandsAt-trimmed}
use Rattle.tmpl_lex.proofs.part.part_before.Goals as goal

pub rest_after-requires : goal.rest_after-requires
rest_after-requires c =
    let within = end-within c.args.file.now c.args.rest c.requires.left c.args.before.now c.args.after.now c.requires.first (omega arith) in
    let ends = ends-same c.read_opened.new.tokens.items [] c.in_ok-opened.opened in
    rw (c.newlines-2.ensures.value, sym ends, c.in_ok-opened.ensures, c.skip_left_marker.ensures) within

pub returns : goal.returns
returns c =
    let file = c.args.file.now in
    let rest = c.args.rest in
    let before = c.args.before.now in
    let after = c.args.after.now in
    let kept = c.split_leading.result.1.now in
    let o = opened_of c.read_opened.new.tokens.items c.in_ok-opened.opened in
    let trimmed = c.trim_end-text.ensures ∙ ap (λ t. without_trailing t kept) c.has_left_marker.ensures in
    let put = texts-put rest.trims (left_marked after) rest.line c.newlines.result before c.split_leading.result.0.now kept c.trim_end-text.result.now
    c.split_leading.ensures.taken c.split_leading.ensures.kept c.newlines.ensures.value trimmed in
    let part = part-before file rest c.requires.left before after c.requires.first o (c.in_ok-opened.ensures ∙ ap opened c.skip_left_marker.ensures)
    _ (simp (put, c.after_of.ensures c.read_opened.new.tokens.items, c.newlines-2.ensures.value)) c.rest_after.result
    (simp c.newlines-2.ensures.value at c.rest_after.ensures c.read_opened.new.tokens.items) in record {
      cuts = part.0;
      placed = StandsAt-trimmed file rest.bytes.now before (123 ∷ 123 ∷ after) c.split_leading.result.0.now kept c.trim_end-text.result.now rest.trims
          (left_marked after) _ c.requires.left.ends (split-is 123 123 rest.bytes.now (before, after) (sym c.requires.first)).is
          c.split_leading.ensures.taken c.split_leading.ensures.kept trimmed refl;
      begins = begins-by file rest c.requires.left before after c.requires.first o (c.in_ok-opened.ensures ∙ ap opened c.skip_left_marker.ensures)
          c.read_opened.new.tokens.items c.after_of.result (simp c.newlines-2.ensures.value at c.after_of.ensures c.read_opened.new.tokens.items)
          c.rest_after.result (simp c.newlines-2.ensures.value at c.rest_after.ensures c.read_opened.new.tokens.items) _ put;
      left = part.1;
    }
