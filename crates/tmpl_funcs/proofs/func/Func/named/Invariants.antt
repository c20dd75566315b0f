use Rattle.std.proofs.Common.{◌≢◌, ℕ, ◌<◌, get_or}
use Rattle.tmpl_funcs.specs.Func.{name_of}
use Rattle.tmpl_funcs.specs.declared.func.Func.TheVariants.{And}
use Rattle.tmpl_funcs.proofs.func.Func.named.Given as goal

abbrev pub invariant-loop-func : goal.invariant-loop-func
invariant-loop-func l = (k : ℕ) → k < l.func-index → name_of (get_or l.func-items k And) ≢ l.name
