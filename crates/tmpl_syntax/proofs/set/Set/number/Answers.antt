use Rattle.std.proofs.Common.{ap, ◌∙◌, map}
use Rattle.tmpl_syntax.specs.Set.{number_of}
use Rattle.tmpl_syntax.specs.View.{entries_view, set_view, template_of}
use Rattle.tmpl_syntax.proofs.SetLemmas.{number-view}
use Rattle.tmpl_syntax.specs.declared.set.Set.{Set}
use Rattle.tmpl_syntax.proofs.set.Set.number.Goals as goal

pub returns : goal.returns
unfolding entries_view set_view
returns c =
    c.get_index_of.ensures.index ∙ number-view c.args.name.now c.self.inside.templates.entries
    ∙ ap (λ (s : Set). number_of c.args.name.now (map template_of s.0)) c.self.view_is
