use Rattle.std.proofs.Common.{◌∙◌, ◌++◌, [], ◌∷◌, ap}
use Rattle.std.specs.Option.{is_some}
use Rattle.tmpl_code.specs.declared.scope.ScopeCell as held
use Rattle.tmpl_code.specs.declared.scope.ScopeCell.TheVariants.{Variable}
use Rattle.tmpl_code.specs.computed.Cells.{layout_in, place_named, place_of}
use Rattle.tmpl_code.proofs.ScopeLemmas.{is-placed, link-is, placed-less, rest-linked, top-is}
use Rattle.tmpl_code.proofs.scope.Scope.forget.Goals as goal

pub take_place-requires : goal.take_place-requires
take_place-requires c =
    let old = c.args.self.now in
    let rest = c.pop.new.self.items in
    let v = c.in-Some-Variable in
    let name = v.name.now in
    ap is_some (old.placed name ∙ ap (place_named name) (top-is old.cells.items rest (Variable v.name v.hidden)
    (v.ensures.items ∙ ap (λ (c : held.ScopeCell). rest ++ c ∷ []) v.field-0-is)))
    ∙ is-placed name (layout_in rest)

pub invariant_of-self : goal.invariant_of-self
invariant_of-self c =
    let old = c.args.self.now in
    let rest = c.pop.new.self.items in
    let v = c.in-Some-Variable in
    let top = Variable v.name v.hidden in
    let is = v.ensures.items ∙ ap (λ (c : held.ScopeCell). rest ++ c ∷ []) v.field-0-is in
    record {
      placed = λ q. c.take_place.ensures q
          ∙ placed-less v.name.now q (layout_in rest) v.hidden (place_of old.newest q) (link-is old.cells.items rest top is old.linked)
          (old.placed q ∙ ap (place_named q) (top-is old.cells.items rest top is));
      linked = rest-linked old.cells.items rest top is old.linked;
    }
