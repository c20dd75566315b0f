use Rattle.std.proofs.Common.{arith, ◌∙◌, ◌∷◌, [], ap, map, refl}
use Rattle.std.specs.Result.{is_ok}
use Rattle.tmpl_code.specs.View.{letters_at}
use Rattle.tmpl_code.proofs.TableLemmas.{grows-names, grows-same, inside_if, names_more, names_on}
use Rattle.tmpl_code.proofs.tables.Tables.add_name.Goals as goal

pub returns-in_err-place-clause-grows : goal.returns-in_err-place-clause-grows
returns-in_err-place-clause-grows c = grows-same refl refl

pub returns-in_err-to_u32-clause-grows : goal.returns-in_err-to_u32-clause-grows
returns-in_err-to_u32-clause-grows c = grows-same refl refl

pub returns-in_err-to_u32-2-clause-grows : goal.returns-in_err-to_u32-2-clause-grows
returns-in_err-to_u32-2-clause-grows c = grows-same refl refl

pub returns-in_err-extend_from_slice-clause-grows : goal.returns-in_err-extend_from_slice-clause-grows
returns-in_err-extend_from_slice-clause-grows c =
    grows-same refl (ap (λ letters. map (letters_at letters) c.args.self.now.spans.items) c.in_err-extend_from_slice.ensures.items)

pub invariant_of-self-2 : goal.invariant_of-self-2
invariant_of-self-2 c = record {
  inside =
      inside_if c.args.self.now.letters.items c.args.name.now c.extend_from_slice.new.self.items c.in_ok-extend_from_slice.ensures.items (is_ok c.push.result)
      c.args.self.now.spans.items c.push.new.self.items _ c.push.ensures.items (c.in_ok-to_u32.ensures.value ∙ omega (arith, c.len-2.ensures)) c.in_ok-to_u32-2.ensures.value c.args.self.now.inside;
}

pub returns-in_err-push-clause-grows : goal.returns-in_err-push-clause-grows
returns-in_err-push-clause-grows c =
    grows-same refl (names_on c.args.self.now.letters.items c.args.name.now c.extend_from_slice.new.self.items c.in_ok-extend_from_slice.ensures.items
    c.args.self.now.spans.items c.push.new.self.items c.in_err-push.ensures.items c.args.self.now.inside)

pub returns-clause-name : goal.returns-clause-name
returns-clause-name c =
    names_more c.args.self.now.letters.items c.args.name.now c.extend_from_slice.new.self.items c.in_ok-extend_from_slice.ensures.items
    c.args.self.now.spans.items c.push.new.self.items _ c.in_ok-push.ensures.items (c.in_ok-to_u32.ensures.value ∙ omega (arith, c.len-2.ensures)) c.in_ok-to_u32-2.ensures.value c.args.self.now.inside

pub returns-clause-grows : goal.returns-clause-grows
returns-clause-grows c =
    grows-names (c.args.name.now ∷ []) refl (names_more c.args.self.now.letters.items c.args.name.now c.extend_from_slice.new.self.items c.in_ok-extend_from_slice.ensures.items
    c.args.self.now.spans.items c.push.new.self.items _ c.in_ok-push.ensures.items (c.in_ok-to_u32.ensures.value ∙ omega (arith, c.len-2.ensures)) c.in_ok-to_u32-2.ensures.value c.args.self.now.inside)
