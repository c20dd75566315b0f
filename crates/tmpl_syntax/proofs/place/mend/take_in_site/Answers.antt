use Rattle.std.proofs.Common.{◌∙◌, ap, option_map, sym}
use Rattle.tmpl_syntax.specs.computed.Begun.{IsStarted}
use Rattle.tmpl_syntax.specs.computed.Fault.{of_action}
use Rattle.tmpl_syntax.proofs.BegunLemmas.{each-more, refused-begins}
use Rattle.tmpl_syntax.proofs.place.mend.take_in_site.Goals as goal

pub returns-in_ok-push-in-Some-clause-started : goal.returns-in_ok-push-in-Some-clause-started
returns-in_ok-push-in-Some-clause-started c = λ file sited all.
    let e = sym c.find_fault.ensures.value ∙ ap (option_map of_action) c.in-Some.is in
    let begins = refused-begins file c.args.place c.args.site.now.item _ _ _ e sited in
    c.take_in_mended.ensures.started file begins
    (each-more (IsStarted file) c.args.found.now.items c.push.new.self.items _ c.in_ok-push-in-Some.ensures.items all (c.refused.ensures.starts file begins))
