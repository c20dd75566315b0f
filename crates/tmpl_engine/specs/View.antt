-- What an engine and a renderer hold.
use Rattle.std.specs.Prelude.{List}
use Rattle.tmpl_syntax.specs.Set.{Template}
use Rattle.tmpl_syntax.specs.View.{hash_view, set_view}
use Rattle.tmpl_syntax.specs.declared.name_hash.NameHash.{NameHash}
use Rattle.tmpl_engine.specs.declared.engine.Engine.{Engine}
use Rattle.tmpl_engine.specs.declared.rendering.Renderer.{Renderer}

-- its templates, in the order in which they were first defined
abbrev pub templates_of : Engine → List Template
templates_of e = set_view e

-- how their names are hashed
abbrev pub hash_of : Engine → NameHash
hash_of e = hash_view e

-- the templates that it renders, in the same order
abbrev pub templates_in : Renderer → List Template
templates_in r = set_view r.program.value.set.value
