-- For the law `one_list_of_runes` and all that goes rune by rune: the runes of a text are those that are read.
use Rattle.std.proofs.Common.{◌≡◌, ℕ, suc, ◌<◌, List, [], ◌∷◌, length, drop, refl}
use Rattle.tmpl_values.specs.Bytes.{AreBytes}
use Rattle.tmpl_values.specs.Laws.{HasTheseRunes, HasNoOtherRunes, AreReadInOrder, JoinsBack}
use Rattle.tmpl_values.specs.Rune.{Rune}
use Rattle.tmpl_values.specs.Runes.{runes}
use Rattle.tmpl_values.specs.computed.Rune.{first_rune, tail_len}
use Rattle.tmpl_values.specs.computed.Runes.{one_list, read-first, read-nil}
use Rattle.tmpl_values.proofs.RuneLemmas.{AreRunes, text-read, are_read}

pub these-runes : HasTheseRunes
unfolding runes
these-runes bs = (one_list bs).holds

pub no-other-runes : HasNoOtherRunes
unfolding runes
no-other-runes bs = (one_list bs).only

pub read-in-order : AreReadInOrder
unfolding runes one_list
read-in-order bs = refl

-- the runes of a text, one after another, are the text
pub text-runes : JoinsBack
unfolding runes one_list
text-runes bs = text-read bs

pub are_runes : (bs : List ℕ) → AreBytes bs → AreRunes (runes bs)
unfolding runes one_list
are_runes bs h = are_read bs h

-- the first rune, and those after it
pub runes-first : (bs : List ℕ) (r : Rune) → 0 < length bs → first_rune bs ≡ r → runes bs ≡ r ∷ runes (drop (suc (tail_len r)) bs)
unfolding runes one_list
runes-first bs r h is = read-first bs r h is

pub runes-nil : runes [] ≡ []
unfolding runes one_list
runes-nil = read-nil

pub ruleset runes_of = (these-runes, no-other-runes, read-in-order, text-runes)
