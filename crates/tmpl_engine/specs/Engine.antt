-- When the renderer that an engine keeps is one of its templates.
use Rattle.std.specs.Prelude.{◌≡◌, IfSome}
use Rattle.tmpl_syntax.specs.View.{set_view}
use Rattle.tmpl_engine.specs.declared.engine.Engine.TheInside.{Inside}

abbrev pub IsCurrent : Inside → Type 0
IsCurrent e = IfSome e.renderer (λ r. set_view r.program.value.set.value ≡ set_view e.set)
