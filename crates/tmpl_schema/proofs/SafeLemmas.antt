-- For the law `runs_safely`.
use Rattle.std.proofs.Common.{◌-◌, None, refl}
use Rattle.std.specs.Option.{option_map_or}
use Rattle.tmpl_values.specs.Value.{nothing}
use Rattle.tmpl_meaning.specs.Meaning.{Setting, calls_within, meanings, setting_of}
use Rattle.tmpl_meaning.specs.Pipeline.{without_null}
use Rattle.tmpl_meaning.proofs.PartLemmas.{started}
use Rattle.tmpl_shape.specs.Shape.{stands_for}
use Rattle.tmpl_schema.specs.computed.Check.{at_start}
use Rattle.tmpl_schema.specs.computed.Safe.{RunsSafely}
use Rattle.tmpl_shape.proofs.NameLemmas.{meant}
use Rattle.tmpl_schema.proofs.OriginLemmas.{at-root}
use Rattle.tmpl_schema.proofs.RunLemmas.{safe-some, quiet-fault, nodes-end, calls-have}

pub runs-safely : RunsSafely
runs-safely base stops rules set table name t sh input checked safe has =
    let N = stands_for base.defs in
    let d = option_map_or without_null input nothing in
    let calls = calls_within rules set (rules.depth_limit - 1) in
    let s : Setting = setting_of rules calls name t in
    let p = safe-some base N (meant base.defs) stops rules.missing_key table sh t.nodes safe in
    let x = meanings s t.nodes d (started rules.step_limit d) in
    quiet-fault base N (meant base.defs) stops d p.0 x.1 x.0.env
    (nodes-end base N (meant base.defs) stops d s table (calls-have base N (meant base.defs) stops rules set table checked (rules.depth_limit - 1)) t.nodes None None (at_start sh) p.0 p.1 d
    (started rules.step_limit d) (has, (refl, has, tt, at-root d), at-root d))
