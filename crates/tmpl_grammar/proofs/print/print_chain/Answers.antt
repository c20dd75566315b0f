use Rattle.std.proofs.Common.{◌∙◌, ◌++◌, ap, sym}
use Rattle.tmpl_grammar.proofs.PrintLemmas.{begins_added, begins_on, chain_at, printed_next}
use Rattle.tmpl_grammar.proofs.print.print_chain.Goals as goal

pub loop-name-preserved : goal.loop-name-preserved
loop-name-preserved c =
    let l = c.loop-name in record {
      printed = printed_next _ _ _ _ _ _ _ c.in_ok-extend_from_slice.ensures.items
          (c.in_ok-extend_from_slice-2.ensures.items ∙ ap (λ name. c.extend_from_slice.new.self.items ++ name) c.as_slice.ensures)
          (ap (λ bytes. l.bytes.items ++ bytes)
          (sym (chain_at c.args.names.now l.name-index c.name-item.result c.loop-name-test.true c.name-item.is)) ∙ l.invariant.printed);
      kept = begins_on _ _ _ (begins_on _ _ _ l.invariant.kept (begins_added _ _ _ c.in_ok-extend_from_slice.ensures.items))
          (begins_added _ _ _ c.in_ok-extend_from_slice-2.ensures.items);
    }
