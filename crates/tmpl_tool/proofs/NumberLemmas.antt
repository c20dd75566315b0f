-- For `parsed_in`: a number that `parse` reads is the text's own number.
use Rattle.clap.proofs.WalkLemmas.{first_value-rows}
use Rattle.std.proofs.Common.{◌≡◌, ◌<◌, ◌≤◌, ◌^◌, ℕ, true, false, refl, arith}
use Rattle.std.specs.Prelude.{Err, Some}
use Rattle.std.proofs.lemmas.Bool.{false_from_ne_true}
use Rattle.std.specs.Str.Parse.{IsNumeral, ParsesUnsigned, digits_value, without_leading_plus}
use Rattle.clap.specs.Words.{Text}
use Rattle.clap.specs.Values.{IsUnsignedIn}
use Rattle.clap.specs.ValueTests.{is_unsigned_in}
use Rattle.clap.specs.declared.builder.ValueParser.TheVariants as vp
use Rattle.clap.proofs.ValueTestLemmas.{accepts-Accepts, Accepts-accepts}
use Rattle.tmpl_tool.specs.Words.{number_in}

passes : (low high : ℕ) (t : Text) → is_unsigned_in low high t ≡ true → IsUnsignedIn low high t
passes low high t e = accepts-Accepts false (vp.Unsigned low high) t e

pub read-in : (default low high n : ℕ) (t : Text)
    → ((IsNumeral 10 (without_leading_plus t) × (digits_value 10 (without_leading_plus t) < 2 ^ 64)) × (n ≡ digits_value 10 (without_leading_plus t)))
    → low ≤ n → n ≤ high
    → n ≡ number_in default low high (Some t)
read-in default low high n t got least most =
    let is = got.1 in
    let in_range : IsUnsignedIn low high t = (got.0.0, got.0.1, omega arith, omega arith) in
    rw (Accepts-accepts false (vp.Unsigned low high) t in_range) is

pub read-none : (default low high : ℕ) (E : Type 0) (t : Text) (e : E) → ParsesUnsigned 64 10 t (Err e)
    → default ≡ number_in default low high (Some t)
read-none default low high E t e got =
    rw (false_from_ne_true (is_unsigned_in low high t) (λ e. let p = passes low high t e in got (p.0, p.1))) refl

pub ruleset rows = (first_value-rows)
