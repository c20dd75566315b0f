use Rattle.std.proofs.Common.{arith, ◌∙◌, sym, ap, map}
use Rattle.std.proofs.lemmas.List.{drop_more}
use Rattle.tmpl_lex.specs.View.{token_of}
use Rattle.tmpl_grammar.specs.computed.Parser.{kept_if}
use Rattle.tmpl_grammar.specs.computed.View.{parser_of}
use Rattle.tmpl_grammar.proofs.LimitLemmas.{none-read}
use Rattle.tmpl_grammar.proofs.pipeline.commands_in.Goals as goal

pub returns-then-not-stands : goal.returns-then-not-stands
returns-then-not-stands c =
    let one = ap (map token_of) (drop_more c.args.tokens.now c.loop-token.token-index _ (omega arith)) in
    sym (sym c.loop-token.invariant
    ∙ none-read c.args.keeps (parser_of c.loop-token.parser) _ _ _ one
    (sym c.in_ok-stands.ensures ∙ ap (λ b. kept_if b (parser_of c.pass.new.self)) c.if-not-stands.true))
