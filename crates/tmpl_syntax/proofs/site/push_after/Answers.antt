use Rattle.std.proofs.Common.{length, subst, sym}
use Rattle.tmpl_syntax.specs.computed.Begun.{BeginsThere, IsBegun, IsSited}
use Rattle.tmpl_syntax.proofs.BegunLemmas.{one-more}
use Rattle.tmpl_syntax.proofs.site.push_after.Goals as goal

pub returns-in_ok-push-in-Action-clause-begins : goal.returns-in_ok-push-in-Action-clause-begins
returns-in_ok-push-in-Action-clause-begins c = λ file there all.
    let old = c.args.sites.now.items in
    let begins = subst (λ a. BeginsThere file a (length old) c.args.start) c.in-Action.is there in
    one-more (IsSited file) old c.push.new.self.items _ c.in_ok-push-in-Action.ensures.items all (c.in_ok-action_site-in-Action.ensures.begins file (length old) begins)

pub returns-in_ok-push-in-Unreadable-clause-begins : goal.returns-in_ok-push-in-Unreadable-clause-begins
returns-in_ok-push-in-Unreadable-clause-begins c = λ file there all.
    let old = c.args.sites.now.items in
    let begins = subst (λ a. BeginsThere file a (length old) c.args.start) c.in-Unreadable.is there in
    one-more (IsSited file) old c.push-in-Unreadable.new.self.items _ c.in_ok-push-in-Unreadable.ensures.items all
    (subst (IsBegun file (length old)) (sym c.text_site.ensures.item) begins)
