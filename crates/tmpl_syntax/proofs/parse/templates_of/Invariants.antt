use Rattle.std.proofs.Common.{◌≡◌, ◌++◌, map}
use Rattle.tmpl_syntax.specs.View.{template_of}
use Rattle.tmpl_syntax.specs.computed.View.{definition_of}
use Rattle.tmpl_syntax.specs.Parse.{template_in}
use Rattle.tmpl_syntax.proofs.parse.templates_of.Given as goal

abbrev pub invariant-loop-definition : goal.invariant-loop-definition
invariant-loop-definition l =
    map template_of l.templates.items ++ map (template_in l.path.value) (map definition_of l.definition-iterator.rest.items)
    ≡ map (template_in l.path.value) (map definition_of l.fn.definitions.items)
