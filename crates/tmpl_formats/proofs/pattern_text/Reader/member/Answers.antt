use Rattle.std.proofs.Common.{◌≡◌, ◌≢◌, ◌==◌, ℕ, false, arith}
use Rattle.std.proofs.lemmas.Grind.{common_steps}
use Rattle.std.specs.Prelude.{◌||◌}
use Rattle.tmpl_formats.specs.PatternText.{plain}
use Rattle.tmpl_formats.proofs.pattern_text.Reader.member.Goals as goal

is_plain : (c : ℕ) → c ≢ 92 → c ≢ 93 → (c == 92 || c == 93) ≡ false
is_plain c a b = grind (arith, common_steps)

pub returns-else-c-eq93 : goal.returns-else-c-eq93
returns-else-c-eq93 c = rw (c.from.ensures, c.in_ok-c.ensures) (plain (is_plain c.in_ok-c.c c.if-c-eq92.false c.if-c-eq93.false))
