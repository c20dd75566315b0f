use Rattle.std.proofs.Common.{arith, ◌≡◌, ℕ, ◌<◌, List, [], ◌∷◌, length, get_or}
use Rattle.std.specs.Char.{IsScalar}
use Rattle.std.proofs.lemmas.Str.{encode_ascii, len_utf8_ascii}
use lib.Utf8.{low_scalar}
use Rattle.tmpl_values.specs.Rune.{char}
use Rattle.tmpl_values.specs.computed.Rune.{first_rune}
use Rattle.tmpl_values.specs.computed.Runes.{first_rune-encode}
use Rattle.tmpl_grammar.specs.computed.Quoted.{Spelled, rune_part}
use Rattle.tmpl_grammar.proofs.constant.quoted.rune_part.Goals as goal

-- a byte of ASCII is a character
ascii-first : (bs : List ℕ) (c : ℕ) → 0 < length bs → c ≡ get_or bs 0 0 → c < 128 → IsScalar c
    → ◌≡◌ {A = Spelled} (char c, 1) (rune_part (first_rune bs))
ascii-first [] c some is low s = absurd (omega (arith, some))
ascii-first (b ∷ bs) c some is low s = grind (arith, encode_ascii c low, first_rune-encode c bs s, len_utf8_ascii c low)

pub returns-then-first-lt128-clause-value : goal.returns-then-first-lt128-clause-value
returns-then-first-lt128-clause-value c =
    let low : c.from.result < 128 = omega (arith, c.from.ensures, c.if-first-lt128.true) in
    ascii-first c.args.bytes.now c.from.result c.requires c.from.ensures low (low_scalar c.from.result (omega (arith, low)))
