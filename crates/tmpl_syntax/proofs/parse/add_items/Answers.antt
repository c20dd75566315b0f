use Rattle.std.proofs.Common.{◌≡◌, arith, Ok, sym, ap, ◌∙◌, map}
use Rattle.tmpl_values.proofs.RuneLemmas.{are_bytes}
use Rattle.tmpl_syntax.specs.View.{template_of}
use Rattle.tmpl_syntax.specs.computed.View.{definition_of, item_of}
use Rattle.tmpl_syntax.specs.Parse.{base_name, template_in}
use Rattle.tmpl_syntax.specs.computed.Begun.{StartsRight, definition_at}
use Rattle.tmpl_syntax.specs.computed.Parse.{checked, all_from, items_of, second_in}
use Rattle.tmpl_syntax.proofs.SecondStartLemmas.{err-along, second-right, starts_second}
use Rattle.tmpl_grammar.proofs.PrintableTokenLemmas.{bytes-drop}
use Rattle.tmpl_syntax.proofs.SetInvariantLemmas.{file-kept}
use Rattle.tmpl_syntax.proofs.parse.add_items.Goals as goal

pub define_all-requires : goal.define_all-requires
define_all-requires c =
    let bytes = c.args.bytes.now in
    let file = c.args.file.now in
    let read : map item_of c.args.items.items ≡ items_of bytes = c.requires.read in
    let passed : checked bytes (items_of bytes) ≡ Ok tt = ap (checked bytes) (sym (ap (map item_of) c.as_slice.ensures.value ∙ read)) ∙ c.in_ok-check.ensures.checked in
    let name : c.new-name.result ≡ base_name file = c.new-name.ensures ∙ c.in_ok-copy_of.ensures ∙ c.base_name.ensures in
    let built : map definition_of c.in_ok-definitions.definitions.items ≡ all_from (base_name file) (items_of bytes) =
    c.in_ok-definitions.ensures.definitions ∙ ap (λ n. all_from n (map item_of c.args.items.items)) name ∙ ap (all_from (base_name file)) read in
    file-kept file bytes (map template_of c.in_ok-templates_of.field-0.items) (bytes-drop _ file (are_bytes file c.type_inv.file))
    (are_bytes bytes c.type_inv.bytes)
    (omega (arith, c.requires.within)) passed
    (c.in_ok-templates_of.ensures ∙ ap (map (template_in file)) built)

pub returns-in_err-refuse_second-clause-starts : goal.returns-in_err-refuse_second-clause-starts
returns-in_err-refuse_second-clause-starts c =
    let bytes = c.args.bytes.now in
    let file = c.args.file.now in
    let read : map item_of c.args.items.items ≡ items_of bytes = c.requires.read in
    let passed : checked bytes (items_of bytes) ≡ Ok tt = ap (checked bytes) (sym (ap (map item_of) c.as_slice.ensures.value ∙ read)) ∙ c.in_ok-check.ensures.checked in
    let built : map definition_of c.in_ok-definitions.definitions.items ≡ all_from c.new-name.result (items_of bytes) =
    c.in_ok-definitions.ensures.definitions ∙ ap (all_from c.new-name.result) read in
    err-along (StartsRight bytes) c.from_residual-in_err-refuse_second.result _ c.from_residual-in_err-refuse_second.ensures.1
    (second-right bytes _ _ _ c.in_err-refuse_second.ensures.begun (λ e.
    starts_second bytes c.new-name.result c.args.items.items c.in_ok-definitions.definitions.items _ read passed built c.in_ok-definitions.ensures.starts
    c.requires.begun (ap (λ ds. second_in (map definition_at ds)) (sym c.as_slice-2.ensures.value) ∙ e)))
