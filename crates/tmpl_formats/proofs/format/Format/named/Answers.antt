use Rattle.std.proofs.Common.{◌≡◌, ℕ, List, Option, Some, None, sym}
use Rattle.std.specs.Prelude.{IfSome}
use Rattle.tmpl_formats.specs.Name.{IsNamed, format_named, simply}
use Rattle.tmpl_formats.specs.declared.format.Format.{Format}
use Rattle.tmpl_formats.proofs.format.Format.named.Goals as goal

simply_so : (name : List ℕ) (r : Option Format) → r ≡ format_named name → IfSome r (λ asked. IsNamed name asked)
simply_so name None e = tt
simply_so name (Some asked) e = simply (sym e)

pub returns-clause-named : goal.returns-clause-named
returns-clause-named c = simply_so c.args.name.now c.simply_named.result c.simply_named.ensures
