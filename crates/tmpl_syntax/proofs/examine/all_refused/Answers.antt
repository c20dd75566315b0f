use Rattle.std.proofs.Common.{◌≡◌, map, ap, refl, subst, ◌∙◌}
use Rattle.std.specs.Prelude.{IfOk}
use Rattle.tmpl_lex.specs.computed.Cut.{cut_of}
use Rattle.tmpl_syntax.specs.Examine.{firsts}
use Rattle.tmpl_syntax.specs.Refusals.{refused_seen}
use Rattle.tmpl_syntax.specs.computed.Parse.{last_line}
use Rattle.tmpl_syntax.specs.computed.Refusals.{found_seen, site_of, sites_in}
use Rattle.tmpl_syntax.proofs.SiteLemmas.{all_refused}
use Rattle.tmpl_syntax.proofs.examine.all_refused.Goals as goal

pub returns-clause-refused : goal.returns-clause-refused
returns-clause-refused c =
    let found = ap (map found_seen) c.as_slice-2.ensures.value ∙ c.in_ok-all.ensures.refused in
    all_refused c.args.bytes.now (last_line c.args.bytes.now) (map site_of c.as_slice.result.now) c.firsts.result
    (ap (map site_of) c.as_slice.ensures.value ∙ c.in_ok-sites.ensures.sites
    ∙ ap (λ b. sites_in (cut_of b)) (c.in_ok-contents.ensures ∙ c.in_ok-copy_of.ensures))
    refl (subst (λ ss. IfOk c.firsts.result (λ v. map refused_seen v.items ≡ firsts ss)) found c.firsts.ensures.refused)
