-- What a render of a template by its name is prepared with.
use Rattle.std.specs.Prelude.{◌≡◌, ℕ, List, Result, Ok, Err}
use Rattle.tmpl_syntax.specs.Set.{Template}
use Rattle.tmpl_engine.specs.Render.{EndsBefore}
use Rattle.tmpl_engine.specs.View.{templates_in}
use Rattle.tmpl_engine.specs.declared.error.RenderError.{RenderError}
use Rattle.tmpl_engine.specs.declared.rendering.Renderer.{Renderer}

-- a renderer of these templates, or the error with which a render of this name ends before anything is put out
abbrev pub IsPrepared : List Template → List ℕ → Result Renderer RenderError → Type 0
IsPrepared ts name (Ok r) = templates_in r ≡ ts
IsPrepared ts name (Err e) = EndsBefore ts name e
