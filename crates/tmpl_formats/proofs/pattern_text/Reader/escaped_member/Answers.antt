use Rattle.std.proofs.Common.{◌∷◌, refl, sym, ◌∙◌}
use Rattle.tmpl_formats.specs.PatternText.{HasEscape, HasMember, escaped, hyphen, backspace}
use Rattle.tmpl_formats.proofs.PatternTextLemmas.{with_some}
use Rattle.tmpl_formats.proofs.pattern_text.Reader.escaped_member.Goals as goal

pub returns-then-takes : goal.returns-then-takes
returns-then-takes c = rw (c.if-takes.ensures.taken refl) hyphen

pub returns-then-takes-2 : goal.returns-then-takes-2
returns-then-takes-2 c = rw (sym (c.if-takes.ensures.kept refl) ∙ c.if-takes-2.ensures.taken refl) backspace

pub returns-else-takes-2 : goal.returns-else-takes-2
returns-else-takes-2 c =
    let now = c.escape.new.self.rest.now in
    let same = c.if-takes-2.ensures.kept refl ∙ c.if-takes.ensures.kept refl in
    with_some (λ n. HasEscape c.takes-else-takes.new.self.rest.now n now) (λ n. HasMember (92 ∷ c.args.self.now.rest.now) n now)
    (λ n h. rw (← same) (escaped h)) c.escape.result c.escape.ensures
