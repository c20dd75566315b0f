use Rattle.std.proofs.Common.{◌≡◌, ◌∙◌, ℕ, ◌<◌, get_or, refl, ap, arith}
use Rattle.tmpl_funcs.specs.Func.{name_of}
use Rattle.tmpl_funcs.specs.declared.func.Func.{Func}
use Rattle.tmpl_funcs.specs.declared.func.Func.TheVariants.{And, Or, Not, Len, Index, Slice, Print, Println, Printf, Html, Urlquery, Eq, Ne, Lt, Le, Gt, Ge}
use Rattle.tmpl_funcs.specs.declared.func.TheConstants.{FUNCS}
use Rattle.tmpl_funcs.proofs.func.Func.named.Goals as goal

-- where a function stands in the list of all
place : (f : Func) → (k : ℕ) × (k < 17) × (get_or FUNCS k And ≡ f)
place And = (0, omega arith, refl)
place Or = (1, omega arith, refl)
place Not = (2, omega arith, refl)
place Len = (3, omega arith, refl)
place Index = (4, omega arith, refl)
place Slice = (5, omega arith, refl)
place Print = (6, omega arith, refl)
place Println = (7, omega arith, refl)
place Printf = (8, omega arith, refl)
place Html = (9, omega arith, refl)
place Urlquery = (10, omega arith, refl)
place Eq = (11, omega arith, refl)
place Ne = (12, omega arith, refl)
place Lt = (13, omega arith, refl)
place Le = (14, omega arith, refl)
place Gt = (15, omega arith, refl)
place Ge = (16, omega arith, refl)

pub returns-clause-unknown : goal.returns-clause-unknown
returns-clause-unknown c f is =
    let p = place f in
    c.loop-func.invariant p.0 (omega (arith, p.1)) (ap name_of p.2 ∙ is)
