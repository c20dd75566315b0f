use Rattle.std.proofs.Common.{◌≡◌, ◌∙◌, ℕ, List, Option, ap, map}
use Rattle.tmpl_syntax.proofs.OutlineLemmas.{outline_number}
use Rattle.tmpl_syntax.specs.Set.{Template, number_of, without_nodes}
use Rattle.tmpl_syntax.specs.View.{set_view}
use Rattle.tmpl_code.specs.declared.program.Parts.{Parts}
use Rattle.tmpl_code.proofs.program.Program.entry.Goals as goal

-- the number that an outline has for a name is that of the set
same-number : (name : List ℕ) (outline ts : List Template) (found : Option ℕ) → found ≡ number_of name outline → outline ≡ map without_nodes ts
    → found ≡ number_of name ts
same-number name outline ts found is so = is ∙ ap (number_of name) so ∙ outline_number name ts

pub returns-in-Some : goal.returns-in-Some
returns-in-Some c =
    same-number c.args.name.now _ _ _ c.in-Some.ensures c.self.invariant.outline
    ∙ ap (λ (p : Parts). number_of c.args.name.now (set_view p.set.value)) c.self.view_is

pub returns-in-None : goal.returns-in-None
returns-in-None c =
    same-number c.args.name.now _ _ _ c.in-None.ensures c.self.invariant.outline
    ∙ ap (λ (p : Parts). number_of c.args.name.now (set_view p.set.value)) c.self.view_is
