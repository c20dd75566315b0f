use Rattle.tmpl_syntax.specs.computed.Begun.{IsBegun}
use Rattle.tmpl_syntax.proofs.BegunLemmas.{one-more}
use Rattle.tmpl_syntax.proofs.item.push_text.Goals as goal

pub returns-in_ok-push-clause-begins : goal.returns-in_ok-push-clause-begins
returns-in_ok-push-clause-begins c = λ file all. one-more (IsBegun file) c.args.items.now.items c.push.new.self.items _ c.in_ok-push.ensures.items all tt
