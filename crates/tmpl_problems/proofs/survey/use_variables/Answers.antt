use Rattle.std.proofs.Common.{◌∙◌, ap, map, sym}
use Rattle.std.proofs.lemmas.List.{take_all}
use Rattle.tmpl_lex.specs.View.{token_of}
use Rattle.tmpl_problems.specs.Tokens.{names_of}
use Rattle.tmpl_problems.specs.computed.Adds.{mark, mark_each}
use Rattle.tmpl_problems.proofs.VariableLemmas.{marks-more, marks-same, tokens-after}
use Rattle.tmpl_problems.proofs.survey.use_variables.Goals as goal
use Rattle.tmpl_problems.proofs.survey.use_variables.Goals.{in-Some, in_default}

pub returns : goal.returns
returns c =
    let es = c.args.variables.now.entries in
    c.loop-token.invariant
    ∙ ap (λ ts. mark_each (names_of (map token_of ts)) es) (take_all c.loop-token.token-index c.split_at.result.1.now c.loop-token-test.false ∙ c.split_at.ensures.back)
    ∙ ap (λ ts. mark_each (names_of ts) es) (tokens-after c.args.tokens.now c.declaration_len.result c.declaration_len.ensures.value)

pub loop-token-preserved : goal.loop-token-preserved
loop-token-preserved c =
    let rest = c.split_at.result.1.now in
    let i = c.loop-token.token-index in
    let es = c.args.variables.now.entries in
    elim c.match-name_in.branch [
      | in-Some w ↦
          ap (λ m. m.entries) w.variables-is ∙ w.use_variable.ensures ∙ ap (mark w.in-Some.name.now) c.loop-token.invariant
          ∙ sym (marks-more rest i _ es w.in-Some.name.now c.loop-token-test.true w.in-Some.ensures)
      | in_default w ↦
          ap (λ m. m.entries) w.variables-is ∙ c.loop-token.invariant ∙ sym (marks-same rest i _ es c.loop-token-test.true w.in_default.ensures)
    ]
