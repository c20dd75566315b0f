use Rattle.std.proofs.Common.{◌≡◌, ◌<◌, ◌≤◌, ◌+◌, List, length, take, true, false, sym, subst, ap, ◌∙◌, arith}
use Rattle.std.specs.List.{list_any}
use Rattle.serde_json.specs.Data.{items_depth}
use Rattle.serde_json.specs.View.{view, items_view}
use Rattle.serde_json.specs.declared.value.Value.{Value}
use Rattle.std.proofs.lemmas.List.{take_all}
use Rattle.tmpl_json_schema.specs.Inferred.{AreDistinct, AreTexts}
use Rattle.tmpl_json_schema.specs.computed.Inferred.{is_text, seen}
use Rattle.tmpl_json_schema.proofs.StepLemmas.{AreNamed, seen-more, type-known, type-added, flat-more, texts-more, distinct-more, text-there, text-absent, types-told, types-flat, types-named}
use Rattle.tmpl_json_schema.proofs.infer.types_of.Goals as goal
use Rattle.tmpl_json_schema.proofs.infer.types_of.Goals.{then-not-has_text+in_ok-try_from_str+in_ok-push, else-not-has_text}

pub loop-sample-preserved : goal.loop-sample-preserved
loop-sample-preserved c =
    let within : c.loop-sample.sample-index < length c.args.samples.now = omega arith in
    let more = seen-more c.args.samples.now c.loop-sample.sample-index c.sample-item.result within c.sample-item.is in
    let before = seen (take c.loop-sample.sample-index c.args.samples.now) in
    let d = view c.sample-item.result.now in
    let types = c.loop-sample.types.items in
    let said = c.loop-sample.invariant in
    let P : List Value → Type 0 = λ ts. AreNamed ts (seen (take (c.loop-sample.sample-index + 1) c.args.samples.now)) × (items_depth (items_view ts) ≤ 0)
    × AreTexts (items_view ts) × AreDistinct (items_view ts) in
    let name = c.type_of-name.result.now in
    elim c.if-not-has_text.branch [
      | then-not-has_text+in_ok-try_from_str+in_ok-push w ↦
          subst P (sym (ap (λ m. m.items) w.types-is ∙ w.in_ok-push.ensures.items)) (
            subst (AreNamed _) (sym more) (type-added types before d c.type_of-name.result.now w.in_ok-try_from_str.field-0 said.0 c.type_of-name.ensures w.in_ok-try_from_str.ensures),
            flat-more types w.in_ok-try_from_str.field-0 c.type_of-name.result.now said.1 w.in_ok-try_from_str.ensures,
            texts-more types w.in_ok-try_from_str.field-0 name said.2 w.in_ok-try_from_str.ensures,
            distinct-more types w.in_ok-try_from_str.field-0 name said.3 w.in_ok-try_from_str.ensures
                (text-absent name types (subst (λ vs. list_any (λ v. is_text name (view v)) vs ≡ false) c.as_slice.ensures.value (sym c.has_text.ensures ∙ w.if-not-has_text.true))),
          )
      | else-not-has_text w ↦
          subst P (sym (ap (λ m. m.items) w.types-is)) (
            subst (AreNamed types) (sym more) (type-known types before d c.type_of-name.result.now said.0 c.type_of-name.ensures
                (text-there name types (subst (λ vs. list_any (λ v. is_text name (view v)) vs ≡ true) c.as_slice.ensures.value (sym c.has_text.ensures ∙ w.if-not-has_text.false)))),
            said.1,
            said.2,
            said.3,
          )
    ]

pub returns-clause-conform : goal.returns-clause-conform
returns-clause-conform c =
    let all : take c.loop-sample.sample-index c.args.samples.now ≡ c.args.samples.now = take_all c.loop-sample.sample-index c.args.samples.now c.loop-sample-test.false in
    types-told c.loop-sample.types.items (view c.one_or_list.result) (seen c.args.samples.now) c.one_or_list.ensures
    (subst (λ l. AreNamed c.loop-sample.types.items (seen l)) all c.loop-sample.invariant.0)

pub returns-clause-nests : goal.returns-clause-nests
returns-clause-nests c = types-flat (items_view c.loop-sample.types.items) (view c.one_or_list.result) c.one_or_list.ensures c.loop-sample.invariant.1

pub returns-clause-plain : goal.returns-clause-plain
returns-clause-plain c = types-named (items_view c.loop-sample.types.items) (view c.one_or_list.result) c.one_or_list.ensures c.loop-sample.invariant.2 c.loop-sample.invariant.3
