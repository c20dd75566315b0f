-- For the law `one_format_reading`: a format has one reading, and it can be read from left to right.
use Rattle.std.proofs.Common.{◌∙◌, ℕ, List, refl, sym}
use Rattle.tmpl_funcs.specs.Laws.{ReadsSoundly, ReadsAll, HasOneReading, ReadsInOrder}
use Rattle.tmpl_funcs.specs.printf.Reading.{reading}
use Rattle.tmpl_funcs.specs.computed.OneReading.{one_reading, reading-sound, reading-complete}

pub in-order : (format : List ℕ) → ReadsInOrder format
unfolding reading one_reading
in-order format = refl

pub sound : (format : List ℕ) → ReadsSoundly format
unfolding reading one_reading
sound format = reading-sound format

pub complete : (format : List ℕ) → ReadsAll format
unfolding reading one_reading
complete format = reading-complete format

pub one : (format : List ℕ) → HasOneReading format
one format ps qs p q = let e = sym (complete format ps p) ∙ complete format qs q in cc
