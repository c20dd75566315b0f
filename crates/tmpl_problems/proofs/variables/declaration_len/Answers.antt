use Rattle.std.proofs.Common.{rules, tests, ◌∙◌, ap, sym}
use Rattle.std.specs.Option.{unwrap_or}
use Rattle.std.proofs.lemmas.Iterator.{YieldsList-from_slice}
use Rattle.std.proofs.lemmas.Iterator.Search.{position_from_yields_List}
use Rattle.tmpl_lex.specs.View.{token_of}
use Rattle.tmpl_lex.specs.Piece.{Token}
use Rattle.tmpl_problems.specs.Tokens.{is_declare}
use Rattle.tmpl_problems.proofs.TokenLemmas.{position-map}
use Rattle.tmpl_problems.proofs.variables.declaration_len.Goals as goal

pub returns-in-Some-clause-value : goal.returns-in-Some-clause-value
returns-in-Some-clause-value c =
    let found = position_from_yields_List (λ t. is_declare t.kind) _ _ _ c.in-Some.ensures.ran (YieldsList-from_slice c.args.tokens.now cc) (λ x b q k. search (rules, tests)) in
    ap (λ o. unwrap_or o 0) (found ∙ sym (position-map token_of (λ (t : Token). is_declare t.kind) c.args.tokens.now))

pub returns-in-None-clause-value : goal.returns-in-None-clause-value
returns-in-None-clause-value c =
    let found = position_from_yields_List (λ t. is_declare t.kind) _ _ _ c.in-None.ensures.ran (YieldsList-from_slice c.args.tokens.now cc) (λ x b q k. search (rules, tests)) in
    ap (λ o. unwrap_or o 0) (found ∙ sym (position-map token_of (λ (t : Token). is_declare t.kind) c.args.tokens.now))
