use Rattle.std.proofs.Common.{◌≡◌, ◌∙◌, ℕ, Bool, [], ap, arith, refl}
use Rattle.std.specs.Fmt.{digits_onto, digits}
use Rattle.std.proofs.lemmas.List.{drop_all}
use Rattle.tmpl_funcs.proofs.printf.digits.write_digits.Goals as goal

digits_onto-digits : (base : ℕ) (upper : Bool) (n : ℕ) → digits_onto 64 base upper n [] ≡ digits base upper n
unfolding digits
digits_onto-digits base upper n = refl

pub loop-i-init : goal.loop-i-init
loop-i-init c = (
  omega arith,
  omega (arith, c.told-out),
  ap (digits_onto 64 c.args.base c.args.upper c.args.n) (drop_all 64 c.args.out.now (omega (arith, c.told-out)))
      ∙ digits_onto-digits c.args.base c.args.upper c.args.n,
)
