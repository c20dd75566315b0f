use Rattle.std.proofs.Common.{◌≡◌, ◌≤◌, ◌∙◌, arith, length, map, string_bytes, sym, ap, subst}
use Rattle.std.proofs.lemmas.Bool.{ltb-false}
use Rattle.std.proofs.lemmas.List.{length-map}
use Rattle.tmpl_json_schema.specs.Provenance.{places_of, with_places}
use Rattle.tmpl_json_schema.proofs.ProvenanceLemmas.{same-places}
use Rattle.tmpl_json_schema.proofs.provenance.Provenance.widen.Goals as goal

pub returns-else-is_less_known-clause-same : goal.returns-else-is_less_known-clause-same
returns-else-is_less_known-clause-same c = λ h.
    let old = places_of c.args.self.now in
    let more = map string_bytes c.args.other.now.places.items in
    let known = c.doubt-is_less_known.ensures.same c.if-is_less_known.false in
    let joined : places_of c.add_all.new.self ≡ with_places old more =
    subst (λ xs. places_of c.add_all.new.self ≡ with_places (places_of c.doubt-is_less_known.new.self) (map string_bytes xs)) c.as_slice.ensures.value
    c.in_ok-add_all.ensures.places
    ∙ ap (λ ps. with_places ps more) c.doubt-is_less_known.ensures.places in
    let before = length-map c.args.self.now.places.items string_bytes in
    let after = length-map c.add_all.new.self.places.items string_bytes in
    let no_longer : length (with_places old more) ≤ length old =
    subst (λ ps. length ps ≤ length old) joined (omega (arith, ltb-false _ _ h, before, after, c.len.ensures, c.len-before.ensures)) in
    (sym (joined ∙ same-places old more no_longer), sym (c.add_all.ensures.known.0 ∙ known.0), sym (c.add_all.ensures.known.1 ∙ known.1))
