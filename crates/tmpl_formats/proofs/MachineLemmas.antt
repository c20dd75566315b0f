-- Runs of machines.
use Rattle.std.proofs.Common.{◌≡◌, ◌+◌, ◌<◌, ◌≤◌, ℕ, Bool, true, false, cond, List, [], ◌∷◌, length, drop, get_or, Option, Some, None, refl, ap, sym, ◌∙◌, arith, add-one, take, ◌++◌}
use Rattle.std.specs.Prelude.{option_map}
use Rattle.std.proofs.Math.Seq.{drop-cons, drop-length}
use Rattle.std.specs.List.{list_all}
use Rattle.tmpl_formats.specs.computed.Machine.{after_step, mistake}

-- one thing and then another
pub data Then (P : List ℕ → List ℕ → Type 0) (Q : List ℕ → Type 0) : List ℕ → Type 0 where
  both : {text rest : List ℕ} → P text rest → Q rest → Then P Q text

pub then_map : {P R : List ℕ → List ℕ → Type 0} {Q : List ℕ → Type 0} {text more : List ℕ} → Then P Q text → ((rest : List ℕ) → P text rest → R more rest) → Then R Q more
then_map (both {rest} p q) f = both (f rest p) q

-- a step that leads to an accepted rest
went_on : {C : Type 0} (r : Option ℕ) (c : C) → after_step (λ (x : C). r) (Some c) ≡ None → r ≡ None
went_on None c h = refl
went_on (Some n) c h = cc

pub went : {C : Type 0} (read : C → Option ℕ) (c : C) → after_step read (Some c) ≡ None → read c ≡ None
went read c h = went_on (read c) c h

-- a text of bytes that pass a test, with one more
pub passes-cons : (p : ℕ → Bool) (b : ℕ) (bs : List ℕ) → p b ≡ true → list_all p bs ≡ true → list_all p (b ∷ bs) ≡ true
passes-cons p b bs e h = rw e h

-- the machine has come to this configuration after this many bytes of the text
pub record IsAt {C : Type 0} (step : C → ℕ → Option C) (ends : C → Bool) (start : C) (text : List ℕ) (count : ℕ) (c : C) : Type 0 where
  pub same : option_map (λ n. count + n) (mistake step ends c (drop count text)) ≡ mistake step ends start text

shift : (r : Option ℕ) (count : ℕ) → option_map (λ n. count + 1 + n) r ≡ option_map (λ n. count + n) (option_map (λ n. n + 1) r)
shift None count = refl
shift (Some n) count = let e : count + 1 + n ≡ count + (n + 1) = omega arith in ap Some e

-- what the machine finds before a byte
before_byte : {C : Type 0} (step : C → ℕ → Option C) (ends : C → Bool) (text : List ℕ) (count : ℕ) (c : C) → count < length text
    → mistake step ends c (drop count text) ≡ after_step (λ d. mistake step ends d (drop (count + 1) text)) (step c (get_or text count 0))
unfolding mistake
before_byte step ends text count c lt = rw (add-one, drop-cons text count 0) refl

pub stepped : {C : Type 0} (step : C → ℕ → Option C) (ends : C → Bool) (start : C) (text : List ℕ) (count : ℕ) (c d : C) → count < length text
    → IsAt step ends start text count c → step c (get_or text count 0) ≡ Some d → IsAt step ends start text (count + 1) d
stepped step ends start text count c d lt at e =
    let first = before_byte step ends text count c lt in
    let then_ = rw e at first in
    record { same = shift (mistake step ends d (drop (count + 1) text)) count ∙ (sym (ap (λ r. option_map (λ n. count + n) r) then_) ∙ at.same) }

pub stopped : {C : Type 0} (step : C → ℕ → Option C) (ends : C → Bool) (start : C) (text : List ℕ) (count : ℕ) (c : C) → count < length text
    → IsAt step ends start text count c → step c (get_or text count 0) ≡ None → Some count ≡ mistake step ends start text
stopped step ends start text count c lt at e =
    let first = before_byte step ends text count c lt in
    let then_ = rw e at first in
    let here : Some count ≡ Some (count + 0) = ap Some (let e : count ≡ count + 0 = omega arith in e) in
    here ∙ (sym (ap (λ r. option_map (λ n. count + n) r) then_) ∙ at.same)

at_end : {C : Type 0} (step : C → ℕ → Option C) (ends : C → Bool) (start : C) (text : List ℕ) (c : C)
    → IsAt step ends start text (length text) c → option_map (λ n. length text + n) (cond (ends c) None (Some 0)) ≡ mistake step ends start text
unfolding mistake
at_end step ends start text c at = rw (drop-length text) at at.same

pub ended : {C : Type 0} (step : C → ℕ → Option C) (ends : C → Bool) (start : C) (text : List ℕ) (count : ℕ) (c : C) → count ≡ length text
    → IsAt step ends start text count c → ends c ≡ true → None ≡ mistake step ends start text
ended step ends start text count c is at e = rw e at (at_end step ends start text c (rw is at at))

pub cut_short : {C : Type 0} (step : C → ℕ → Option C) (ends : C → Bool) (start : C) (text : List ℕ) (count : ℕ) (c : C) → count ≡ length text
    → IsAt step ends start text count c → ends c ≡ false → Some (length text) ≡ mistake step ends start text
cut_short step ends start text count c is at e =
    let here : Some (length text) ≡ Some (length text + 0) = ap Some (let e : length text ≡ length text + 0 = omega arith in e) in
    here ∙ rw e at (at_end step ends start text c (rw is at at))

later_within : (r : Option ℕ) (most : ℕ) → ((n : ℕ) → r ≡ Some n → n ≤ most) → (n : ℕ) → option_map (λ n. n + 1) r ≡ Some n → n ≤ most + 1
later_within None most h n e = cc
later_within (Some m) most h n e = let le = h m refl in let same : Some (m + 1) ≡ Some n = e in let is : m + 1 ≡ n = cc in omega arith

step_within : {C : Type 0} (read : C → Option ℕ) (next : Option C) (most : ℕ) → ((c : C) (n : ℕ) → read c ≡ Some n → n ≤ most) → (n : ℕ) → after_step read next ≡ Some n → n ≤ most + 1
step_within read None most h n e = let same : Some 0 ≡ Some n = e in let is : 0 ≡ n = cc in omega arith
step_within read (Some c) most h n e = later_within (read c) most (h c) n e

end_within : (t : Bool) (n : ℕ) → cond {A = Option ℕ} t None (Some 0) ≡ Some n → n ≤ 0
end_within true n e = cc
end_within false n e = let is : 0 ≡ n = cc in omega arith

-- a mistake is in the text or at its end
pub mistake_within : {C : Type 0} (step : C → ℕ → Option C) (ends : C → Bool) (text : List ℕ) (c : C) (n : ℕ) → mistake step ends c text ≡ Some n → n ≤ length text
unfolding mistake
mistake_within step ends [] c n e = end_within (ends c) n e
mistake_within step ends (b ∷ text) c n e =
    let le = step_within (λ d. mistake step ends d text) (step c b) (length text) (λ d m. mistake_within step ends text d m) n e in omega arith

-- a step after which the machine refuses both texts at one place
later_same : (r s : Option ℕ) (n most : ℕ) → ((m : ℕ) → r ≡ Some m → m < most → m + 1 ≡ n → s ≡ Some m) → option_map (λ n. n + 1) r ≡ Some n → n < most + 1
    → option_map (λ n. n + 1) s ≡ Some n
later_same None s n most h e lt = cc
later_same (Some m) s n most h e lt =
    let same : Some (m + 1) ≡ Some n = e in
    let is : m + 1 ≡ n = cc in
    let below : m < most = omega arith in
    rw (h m refl below is) e

-- the same after a step
after_same : {C : Type 0} (read other : C → Option ℕ) (next : Option C) (n most : ℕ) → ((d : C) (m : ℕ) → read d ≡ Some m → m < most → m + 1 ≡ n → other d ≡ Some m)
    → after_step read next ≡ Some n → n < most + 1 → after_step other next ≡ Some n
after_same read other None n most h e lt = e
after_same read other (Some d) n most h e lt = later_same (read d) (other d) n most (h d) e lt

-- a text that the machine refuses at a byte is refused there whatever follows that byte
pub mistake-same : {C : Type 0} (step : C → ℕ → Option C) (ends : C → Bool) (text more : List ℕ) (c : C) (n : ℕ) → mistake step ends c text ≡ Some n → n < length text
    → mistake step ends c (take (n + 1) text ++ more) ≡ Some n
unfolding mistake
mistake-same step ends [] more c n e lt = absurd (omega arith)
mistake-same step ends (b ∷ text) more c n e lt = rw add-one
    (after_same (λ d. mistake step ends d text) (λ d. mistake step ends d (take n text ++ more)) (step c b) n (length text)
    (λ d m same below is.
    rw (← is) (mistake-same step ends text more d m same below))
    e (omega arith))
