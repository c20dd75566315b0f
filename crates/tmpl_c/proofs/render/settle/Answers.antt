use Rattle.std.proofs.Common.{◌≡◌, ◌∙◌, ◌||◌, ap, eqb, false, leb, sym, true}
use Rattle.tmpl_c.proofs.GatherLemmas.{cut_holds, exact_holds, refused_holds, within}
use Rattle.tmpl_c.proofs.render.settle.Goals as goal

pub returns-then-not-fits : goal.returns-then-not-fits
returns-then-not-fits c a comes =
    let past : within c.args.limit c.args.text.now.bytes.items ≡ false =
    ap (λ n. eqb c.args.limit 0 || leb n c.args.limit) (sym c.args.text.now.bytes.ok.0 ∙ sym c.len.ensures) ∙ sym c.fits.ensures ∙ c.if-not-fits.true in
    cut_holds a _ _ _ _ c.args.code comes c.args.limit past _ _ _ c.truncate.ensures.items c.say_limit.ensures

pub returns-then-is_refused : goal.returns-then-is_refused
returns-then-is_refused c a comes =
    let whole : within c.args.limit c.args.text.now.bytes.items ≡ true =
    ap (λ n. eqb c.args.limit 0 || leb n c.args.limit) (sym c.args.text.now.bytes.ok.0 ∙ sym c.len.ensures) ∙ sym c.fits.ensures ∙ c.if-not-fits.false in
    refused_holds a _ _ _ _ c.args.code comes c.args.limit whole _ c.clear.ensures.items

pub returns : goal.returns
returns c a comes =
    let whole : within c.args.limit c.args.text.now.bytes.items ≡ true =
    ap (λ n. eqb c.args.limit 0 || leb n c.args.limit) (sym c.args.text.now.bytes.ok.0 ∙ sym c.len.ensures) ∙ sym c.fits.ensures ∙ c.if-not-fits.false in
    exact_holds a _ _ _ _ c.args.code comes c.args.limit whole (c.is_refused.ensures c.if-is_refused.false)
