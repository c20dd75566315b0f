use Rattle.std.proofs.Common.{rules, ◌≡◌, ◌∙◌, ◌++◌, ◌∷◌, [], ap, sym}
use Rattle.tmpl_syntax.specs.computed.View.{parts_of}
use Rattle.tmpl_syntax.proofs.SecondStartLemmas.{starts-step, parts-step}
use Rattle.tmpl_syntax.proofs.build.parts_before.Goals as goal

pub loop-item-preserved : goal.loop-item-preserved
loop-item-preserved c =
    let last : c.loop-item.items.items ≡ c.pop.new.self.items ++ c.in-Some.item ∷ [] = search rules in
    let old : c.loop-item.items.items ≡ c.free_room.new.items.items ++ c.in-Some.item ∷ [] = last ∙ ap (λ xs. xs ++ c.in-Some.item ∷ []) (sym c.free_room.ensures) in record {
      parts = parts-step c.free_room.new.items.items c.loop-item.items.items c.in-Some.item (parts_of c.loop-item.parts) (parts_of c.put.new.parts) _ old
          c.in_ok-put.ensures.parts c.loop-item.invariant.parts;
      starts = starts-step c.free_room.new.items.items c.loop-item.items.items c.in-Some.item _ _ _ old c.in_ok-put.ensures.starts c.loop-item.invariant.starts;
    }
