-- The levels that end before an entry, one by one.
use Rattle.std.proofs.Common.{◌≡◌, ℕ, Bool, true, false, List, [], ◌∷◌, refl}
use Rattle.tmpl_formats.specs.computed.YamlNest.{nest_at, head_of, tail_of, is_top_over, unwound_from}
use Rattle.tmpl_formats.specs.declared.yaml_nest.Bracket.{Bracket}
use Rattle.tmpl_formats.specs.declared.yaml_nest.Expects.{Expects}
use Rattle.tmpl_formats.specs.declared.yaml_nest.Expects.TheVariants as expects
use Rattle.tmpl_formats.specs.declared.yaml_nest.Level.{Level}

pub unwind-step : (c : ℕ) (is_item : Bool) (e : Expects) (ls : List Level) (bs : List Bracket) → is_top_over (head_of ls) c is_item ≡ true
    → unwound_from c is_item expects.Nothing (tail_of ls) bs ≡ unwound_from c is_item e ls bs
unfolding unwound_from
unwind-step c is_item e [] bs h = cc
unwind-step c is_item e (l ∷ ls) bs h = rw h refl

pub unwind-stop : (c : ℕ) (is_item : Bool) (e : Expects) (ls : List Level) (bs : List Bracket) → is_top_over (head_of ls) c is_item ≡ false
    → nest_at e ls bs ≡ unwound_from c is_item e ls bs
unfolding unwound_from
unwind-stop c is_item e [] bs h = refl
unwind-stop c is_item e (l ∷ ls) bs h = rw h refl
