use Rattle.std.proofs.Common.{length, subst, sym}
use Rattle.tmpl_syntax.specs.computed.Begun.{IsBegun, IsSited}
use Rattle.tmpl_syntax.proofs.BegunLemmas.{one-more}
use Rattle.tmpl_syntax.proofs.site.push_text.Goals as goal

pub returns-in_ok-push-clause-begins : goal.returns-in_ok-push-clause-begins
returns-in_ok-push-clause-begins c = λ file all.
    let old = c.args.sites.now.items in
    one-more (IsSited file) old c.push.new.self.items _ c.in_ok-push.ensures.items all (subst (IsBegun file (length old)) (sym c.text_site.ensures.item) tt)
