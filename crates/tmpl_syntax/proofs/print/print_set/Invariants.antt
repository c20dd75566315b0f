use Rattle.std.proofs.Common.{◌≡◌, map}
use Rattle.tmpl_syntax.specs.View.{set_view, template_of}
use Rattle.tmpl_syntax.specs.computed.View.{page_of}
use Rattle.std.specs.List.{flat_map}
use Rattle.tmpl_syntax.specs.Print.Printed.{template_said}
use Rattle.tmpl_syntax.specs.computed.Print.{page_with}
use Rattle.tmpl_syntax.proofs.print.print_set.Given as goal

-- with what the templates that are left say, the page is what the set says
abbrev pub invariant-loop-name : goal.invariant-loop-name
invariant-loop-name l =
    page_with (page_of l.page) (flat_map template_said (map template_of l.name-iterator))
    ≡ page_with (page_of l.initial.page) (flat_map template_said (set_view l.set))
