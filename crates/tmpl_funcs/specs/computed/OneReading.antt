-- That a format is read as one thing: as it is from left to right.
use Rattle.std.proofs.Common.{◌≡◌, ◌∙◌, ℕ, zero, suc, ◌+◌, ◌-◌, ◌==◌, Bool, true, false, ◌&&◌, not, cond, List, [], ◌∷◌}
use Rattle.std.proofs.Common.{◌++◌, length, drop, get_or, IfSome, Option, Some, None, option_map, option_and_then, if◌then◌else◌, length-append, refl, sym, ap, subst, arith, append_assoc}
use Rattle.std.specs.Char.{is_ascii_digit}
use Rattle.std.specs.Option.{option_map_or}
use Rattle.std.specs.Prelude.{slice_get}
use Rattle.std.specs.List.{flat_map, prefix_len, take_while, list_all}
use Rattle.std.proofs.Math.Seq.{drop-append_seam}
use Rattle.std.proofs.lemmas.Bool.{false≢true, not-true}
use Rattle.std.proofs.lemmas.Bool.Decides.{nat_tests}
use Rattle.std.proofs.lemmas.List.{length-take}
use Rattle.std.proofs.lemmas.List.Sums.{prefix_len-le-length, take_while-cons}
use Rattle.std.proofs.lemmas.Option.{IfSome_then}
use Rattle.tmpl_values.specs.One.{One}
use Rattle.tmpl_funcs.specs.printf.Form.{WrittenForm, Segment, literal, percent, form, is_plain, is_flag}
use Rattle.tmpl_funcs.specs.printf.Spelling.{form_bytes}
use Rattle.tmpl_funcs.specs.printf.Spelling as spelling
use Rattle.tmpl_funcs.specs.printf.Spelling.{IsForm, IsReading, IsReadAs}
use Rattle.tmpl_funcs.specs.computed.Scan.{is_verb, takes_precision, verb_of, after, verb_after, form_at, first_segment, segment_bytes, segment_len, segments_after, segments_read}
use Rattle.tmpl_funcs.specs.computed.Reading.{is_precision, is_short, precision_text, form_if, form_by, precision_after, rest_len, with_segment}
use Rattle.tmpl_funcs.specs.computed.Front.{begins, take_while-append, after-append, list_all-take_while, begins-after}
use Rattle.tmpl_funcs.specs.computed.Front.{take_while-after, take_while-passing}
use Rattle.std.proofs.lemmas.Bool.{and_parts}

-- ---- the parts of a form

abbrev IsPrecision : Option (List ℕ) → ℕ → Type 0
IsPrecision precision verb = IfSome precision (λ digits. (list_all is_ascii_digit digits ≡ true)
    × (is_short digits ≡ true) × (takes_precision verb ≡ true))

-- the first digit, if there is one, is not 0
abbrev begins_above_0 : List ℕ → Bool
begins_above_0 [] = true
begins_above_0 (d ∷ ds) = not (d == 48)

above-told : (ds : List ℕ) → begins_above_0 ds ≡ true → IfSome (slice_get ds 0) (λ d. (d == 48) ≡ false)
above-told [] h = tt
above-told (d ∷ ds) h = not-true (d == 48) h

above-tested : (ds : List ℕ) → IfSome (slice_get ds 0) (λ d. (d == 48) ≡ false) → begins_above_0 ds ≡ true
above-tested [] h = refl
above-tested (d ∷ ds) h = rw h refl

-- ---- segments, and how they are spelled

-- a run has bytes, and none of them is `%`
abbrev IsRun : List ℕ → Type 0
IsRun [] = ⊥
IsRun (b ∷ bs) = list_all is_plain (b ∷ bs) ≡ true

-- the next segment, if there is one, is no run
abbrev IsNoRun : List Segment → Type 0
IsNoRun (literal run ∷ ps) = ⊥
IsNoRun _ = Unit {0}

-- the segments are well formed, and a run goes on as far as it can
abbrev AreSegments : List Segment → Type 0
AreSegments [] = Unit {0}
AreSegments (literal run ∷ ps) = IsRun run × IsNoRun ps × AreSegments ps
AreSegments (percent ∷ ps) = AreSegments ps
AreSegments (form f ∷ ps) = IsForm f × AreSegments ps

no_run : (rest : List ℕ) (ps : List Segment) → IfSome (slice_get rest 0) (λ c. c ≡ 37) → IsReading rest ps → IsNoRun ps
no_run _ _ stop spelling.at_end = tt
no_run _ _ stop (spelling.a_run {b = b} {run = run} plain next more) =
    let t : true ≡ false = sym (and_parts (is_plain b) (list_all is_plain run) plain).0 ∙ ap is_plain stop in cc
no_run _ _ stop (spelling.a_percent more) = tt
no_run _ _ stop (spelling.a_form is more) = tt

spelled : (format : List ℕ) (ps : List Segment) → IsReading format ps → (format ≡ flat_map segment_bytes ps) × AreSegments ps
spelled _ _ spelling.at_end = (refl, tt)
spelled _ _ (spelling.a_run {b = b} {run = run} {rest = rest} {ps = ps} plain stop more) =
    let k = spelled rest ps more in (ap (λ t. b ∷ run ++ t) k.0, (plain, no_run rest ps stop more, k.1))
spelled _ _ (spelling.a_percent {rest = rest} {ps = ps} more) = let k = spelled rest ps more in (ap (λ t. 37 ∷ 37 ∷ t) k.0, k.1)
spelled _ _ (spelling.a_form {f = f} {rest = rest} {ps = ps} is more) =
    let k = spelled rest ps more in (ap (λ t. 37 ∷ (form_bytes f ++ t)) k.0, (is, k.1))

stops : (ps : List Segment) → IsNoRun ps → IfSome (slice_get (flat_map segment_bytes ps) 0) (λ c. c ≡ 37)
stops [] never = tt
stops (literal run ∷ ps) never = absurd never
stops (percent ∷ ps) never = refl
stops (form f ∷ ps) never = refl

read : (ps : List Segment) → AreSegments ps → IsReading (flat_map segment_bytes ps) ps
read [] are = spelling.at_end
read (literal [] ∷ ps) are = absurd are.0
read (literal (b ∷ run) ∷ ps) are = spelling.a_run are.0 (stops ps are.1) (read ps are.2)
read (percent ∷ ps) are = spelling.a_percent (read ps are)
read (form f ∷ ps) are = spelling.a_form are.0 (read ps are.1)

-- ---- the first segment

pub segments-skip : (n : ℕ) (bs : List ℕ) → segments_after n bs ≡ segments_after 0 (drop n bs)
segments-skip zero bs = refl
segments-skip (suc n) [] = refl
segments-skip (suc n) (b ∷ bs) = segments-skip n bs

-- a segment has as many bytes as its spelling
precision_text-len : (p : Option (List ℕ)) (v : ℕ) → length (precision_text p ++ v ∷ []) ≡ 1 + option_map_or (λ digits. 1 + length digits) p 0
precision_text-len None v = refl
precision_text-len (Some ds) v = omega (arith, length-append ds (v ∷ []))

segment_len-is : (p : Segment) → segment_len p ≡ length (segment_bytes p)
segment_len-is (literal run) = refl
segment_len-is percent = refl
segment_len-is (form f) =
    let tail : List ℕ = precision_text f.precision ++ f.verb ∷ [] in
    omega (arith, length-append f.flags (f.width ++ tail), length-append f.width tail, precision_text-len f.precision f.verb)

-- the first segment before those after it, as one is read
pub segments-before : (o : Option Segment) (bs : List ℕ)
    → option_and_then (λ p. option_map (λ ps. p ∷ ps) (segments_after (segment_len p - 1) bs)) o ≡ with_segment o (segments_after (rest_len o) bs)
segments-before None bs = refl
segments-before (Some p) bs = ap (λ n. option_map (λ ps. p ∷ ps) (segments_after (n - 1) bs)) (segment_len-is p)

-- the first segment, and those after it
pub read-first : (b : ℕ) (bs : List ℕ) (p : Option Segment) → first_segment (b ∷ bs) ≡ p
    → segments_read (b ∷ bs) ≡ with_segment p (segments_read (drop (rest_len p) bs))
unfolding segments_read
read-first b bs p is =
    segments-before (first_segment (b ∷ bs)) bs ∙ ap (λ q. with_segment q (segments_after (rest_len q) bs)) is
    ∙ ap (with_segment p) (segments-skip (rest_len p) bs)

pub first_segment-plain : (b : ℕ) (bs : List ℕ) → is_plain b ≡ true → first_segment (b ∷ bs) ≡ Some (literal (take_while is_plain (b ∷ bs)))
first_segment-plain b bs h = rw h refl

pub first_segment-form : (b : ℕ) (bs : List ℕ) (f : Option WrittenForm) → is_plain b ≡ true → form_at (b ∷ bs) ≡ f
    → first_segment (37 ∷ b ∷ bs) ≡ option_map form f
first_segment-form b bs f h is = let e : (b == 37) ≡ false = not-true (b == 37) h in rw e (ap (option_map form) is)

-- the letter of a verb is that letter
pub letter-verb_of : (b v : ℕ) → verb_of b ≡ Some v → (v ≡ b) × (is_verb v ≡ true)
letter-verb_of b v is = by (is_verb b) refl is
  where
    by : (t : Bool) → is_verb b ≡ t → (if t then Some b else None) ≡ Some v → (v ≡ b) × (is_verb v ≡ true)
    by true t e = let same : b ≡ v = cc in (sym same, ap is_verb (sym same) ∙ t)
    by false t e = cc

-- ---- from the relation to the function

-- a letter is neither flag nor digit nor `%` nor point
record IsLetter (b : ℕ) : Type 0 where
  flag : is_flag b ≡ false
  digit : is_ascii_digit b ≡ false
  plain : is_plain b ≡ true
  point : (b == 46) ≡ false

letter-IsLetter : (v : ℕ) → is_verb v ≡ true → IsLetter v
letter-IsLetter v is = record {
  flag = grind (arith, nat_tests);
  digit = grind (arith, nat_tests);
  plain = grind (arith, nat_tests);
  point = grind (arith, nat_tests);
}

-- a digit above 0 is no flag
is_flag-decimal : (b : ℕ) → is_ascii_digit b ≡ true → not (b == 48) ≡ true → is_flag b ≡ false
is_flag-decimal b d h = grind (arith, nat_tests)

is_plain-decimal : (b : ℕ) → is_ascii_digit b ≡ true → is_plain b ≡ true
is_plain-decimal b d = grind (arith, nat_tests)

is_plain-flag : (b : ℕ) → is_flag b ≡ true → is_plain b ≡ true
is_plain-flag b d = grind (arith, nat_tests)

-- a part that passes a test with all its bytes, before others
begins-front : (p q : ℕ → Bool) (xs ys zs : List ℕ) → ((b : ℕ) → q b ≡ true → p b ≡ true) → list_all q xs ≡ true → begins p (ys ++ zs) ≡ true
    → begins p ((xs ++ ys) ++ zs) ≡ true
begins-front p q [] ys zs each all more = more
begins-front p q (x ∷ xs) ys zs each all more = each x (and_parts (q x) (list_all q xs) all).0

module _ (v : ℕ) (is_one : is_verb v ≡ true) (rest : List ℕ) where
  -- what begins at the precision begins with a point or the letter
  pointed-first : (q : ℕ → Bool) (t : Bool) (p : Option (List ℕ)) → q 46 ≡ t → q (v) ≡ t → begins q ((precision_text p ++ v ∷ []) ++ rest) ≡ t
  pointed-first q t None point is = is
  pointed-first q t (Some ds) point is = point

  width-no_flag : (width : List ℕ) (p : Option (List ℕ)) → list_all is_ascii_digit width ≡ true → begins_above_0 width ≡ true
      → begins is_flag ((width ++ (precision_text p ++ v ∷ [])) ++ rest) ≡ false
  width-no_flag [] p all above = pointed-first is_flag false p refl (letter-IsLetter v is_one).flag
  width-no_flag (d ∷ ds) p all above = is_flag-decimal d (and_parts (is_ascii_digit d) (list_all is_ascii_digit ds) all).0 above

  flags-plain : (flags width : List ℕ) (p : Option (List ℕ)) → list_all is_flag flags ≡ true → list_all is_ascii_digit width ≡ true
      → begins is_plain ((flags ++ (width ++ (precision_text p ++ v ∷ []))) ++ rest) ≡ true
  flags-plain flags width p flags_all all =
      begins-front is_plain is_flag flags _ rest is_plain-flag flags_all
      (begins-front is_plain is_ascii_digit width _ rest is_plain-decimal all (pointed-first is_plain true p refl (letter-IsLetter v is_one).plain))

  verb_after-letter : (flags width : List ℕ) (p : Option (List ℕ)) → is_short width ≡ true → is_precision p v ≡ true
      → verb_after flags width p (v ∷ rest) ≡ Some (record { flags = flags; width = width; precision = p; verb = v })
  verb_after-letter flags width p short fits = rw (is_one, short, fits) refl

  precision_after-pointed : (flags width : List ℕ) (p : Option (List ℕ)) → is_short width ≡ true → IsPrecision p v
      → precision_after flags width ((precision_text p ++ v ∷ []) ++ rest) ≡ Some (record { flags = flags; width = width; precision = p; verb = v })
  precision_after-pointed flags width None short fits = rw (letter-IsLetter v is_one).point (verb_after-letter flags width None short refl)
  precision_after-pointed flags width (Some ds) short fits =
      let stop : begins is_ascii_digit (v ∷ rest) ≡ false = (letter-IsLetter v is_one).digit in
      rw (
        append_assoc ds (v ∷ []) rest,
        take_while-append is_ascii_digit ds (v ∷ rest) fits.0 stop,
        after-append is_ascii_digit ds (v ∷ rest) fits.0 stop,
      ) (verb_after-letter flags width (Some ds) short (rw (fits.1, fits.2) refl))

-- a form is read as it is spelled
form_at-form_bytes : (f : WrittenForm) (rest : List ℕ) → IsForm f → form_at (form_bytes f ++ rest) ≡ Some f
unfolding form_at
form_at-form_bytes f rest is =
    let tail : List ℕ = precision_text f.precision ++ f.verb ∷ [] in
    let stop = width-no_flag f.verb is.verb rest f.width f.precision is.width (above-tested f.width is.above) in
    let digits = pointed-first f.verb is.verb rest is_ascii_digit false f.precision refl (letter-IsLetter f.verb is.verb).digit in
    rw (
      append_assoc f.flags (f.width ++ tail) rest,
      take_while-append is_flag f.flags ((f.width ++ tail) ++ rest) is.flags stop,
      after-append is_flag f.flags ((f.width ++ tail) ++ rest) is.flags stop,
      append_assoc f.width tail rest,
      take_while-append is_ascii_digit f.width (tail ++ rest) is.width digits,
      after-append is_ascii_digit f.width (tail ++ rest) is.width digits,
    )
    (precision_after-pointed f.verb is.verb rest f.flags f.width f.precision is.short is.precision)

first_segment-form_at : (bs : List ℕ) (f : WrittenForm) → begins is_plain bs ≡ true → form_at bs ≡ Some f → first_segment (37 ∷ bs) ≡ Some (form f)
first_segment-form_at [] f h is = cc
first_segment-form_at (b ∷ bs) f h is = first_segment-form b bs (Some f) h is

-- what stands after a run does not begin with a plain byte
begins-no_run : (ps : List Segment) → IsNoRun ps → begins is_plain (flat_map segment_bytes ps) ≡ false
begins-no_run [] h = refl
begins-no_run (literal run ∷ ps) h = absurd h
begins-no_run (percent ∷ ps) h = refl
begins-no_run (form f ∷ ps) h = refl

-- a segment that is found at the front, before what is read
reading-cons : (p : Segment) (b : ℕ) (run rest : List ℕ) (ps : List Segment) → b ∷ run ≡ segment_bytes p → first_segment (b ∷ (run ++ rest)) ≡ Some p
    → segments_read rest ≡ Some ps → segments_read (b ∷ (run ++ rest)) ≡ Some (p ∷ ps)
reading-cons p b run rest ps spells first more =
    let n : rest_len (Some p) ≡ length run = omega (arith, ap length spells) in
    rw (read-first b (run ++ rest) (Some p) first, n, drop-append_seam run rest, more) refl

-- a segments_read is what the function reads
reading-found : (ps : List Segment) → AreSegments ps → segments_read (flat_map segment_bytes ps) ≡ Some ps
unfolding segments_read
reading-found [] are = refl
reading-found (literal [] ∷ ps) are = absurd are.0
reading-found (literal (b ∷ run) ∷ ps) are =
    let rest : List ℕ = flat_map segment_bytes ps in
    let plain = and_parts (is_plain b) (list_all is_plain run) are.0 in
    reading-cons (literal (b ∷ run)) b run rest ps refl (first_segment-plain b (run ++ rest) plain.0
    ∙ ap (λ t. Some (literal t)) (take_while-append is_plain (b ∷ run) rest are.0 (begins-no_run ps are.1))) (reading-found ps are.2)
reading-found (percent ∷ ps) are = reading-cons percent 37 (37 ∷ []) (flat_map segment_bytes ps) ps refl refl (reading-found ps are)
reading-found (form f ∷ ps) are =
    let rest : List ℕ = flat_map segment_bytes ps in
    reading-cons (form f) 37 (form_bytes f) rest ps refl (first_segment-form_at (form_bytes f ++ rest) f
    (flags-plain f.verb are.0.verb rest f.flags f.width f.precision are.0.flags are.0.width) (form_at-form_bytes f rest are.0)) (reading-found ps are.1)

-- ---- from the function to the relation

-- a form that was read with these flags and this width, and what it left of the bytes that it stands before
record IsFound (flags width bytes : List ℕ) (f : WrittenForm) : Type 0 where
  rest : List ℕ
  spells : bytes ≡ form_bytes f ++ rest
  flags_is : f.flags ≡ flags
  width_is : f.width ≡ width
  short : is_short width ≡ true
  precision : IsPrecision f.precision f.verb
  verb : is_verb f.verb ≡ true

-- a precision is spelled by digits
abbrev AreDigits : Option (List ℕ) → Type 0
AreDigits None = Unit {0}
AreDigits (Some ds) = list_all is_ascii_digit ds ≡ true

IsPrecision-by : (p : Option (List ℕ)) (v : ℕ) → AreDigits p → is_precision p v ≡ true → IsPrecision p v
IsPrecision-by None v digits fits = tt
IsPrecision-by (Some ds) v digits fits = let both = and_parts (is_short ds) (takes_precision v) fits in (digits, both.0, both.1)

module _ (flags width : List ℕ) (p : Option (List ℕ)) (digits : AreDigits p) where
  form_by-sound : (b : ℕ) (bs : List ℕ) (o : Option ℕ) → verb_of b ≡ o
      → IfSome (form_by flags width p o) (IsFound flags width (flags ++ (width ++ (precision_text p ++ b ∷ bs))))
  form_by-sound b bs None is = tt
  form_by-sound b bs (Some v) is = go (is_short width && is_precision p v) refl
    where
      go : (t : Bool) → (is_short width && is_precision p v) ≡ t
          → IfSome (form_if t flags width p v) (IsFound flags width (flags ++ (width ++ (precision_text p ++ b ∷ bs))))
      go false test = tt
      go true test = let both = and_parts (is_short width) (is_precision p v) test in record {
        rest = bs;
        spells = sym (simp append_assoc (ap (λ c. flags ++ (width ++ (precision_text p ++ c ∷ bs))) (letter-verb_of b v is).0));
        flags_is = refl;
        width_is = refl;
        short = both.0;
        precision = IsPrecision-by p v digits both.1;
        verb = (letter-verb_of b v is).1;
      }

  verb_after-sound : (bs : List ℕ) → IfSome (verb_after flags width p bs) (IsFound flags width (flags ++ (width ++ (precision_text p ++ bs))))
  verb_after-sound [] = tt
  verb_after-sound (b ∷ bs) = form_by-sound b bs (verb_of b) refl

module _ (flags width : List ℕ) where
  precision_after-by : (b : ℕ) (bs : List ℕ) (t : Bool) → (b == 46) ≡ t
      → IfSome (cond t (verb_after flags width (Some (take_while is_ascii_digit bs)) (after is_ascii_digit bs)) (verb_after flags width None (b ∷ bs)))
      (IsFound flags width (flags ++ (width ++ b ∷ bs)))
  precision_after-by b bs true is =
      let point : 46 ≡ b = grind (arith, nat_tests) in
      subst (λ t. IfSome (verb_after flags width (Some (take_while is_ascii_digit bs)) (after is_ascii_digit bs))
      (IsFound flags width (flags ++ (width ++ t))))
      (λ i. point i ∷ take_while-after is_ascii_digit bs i)
      (verb_after-sound flags width (Some (take_while is_ascii_digit bs)) (list_all-take_while is_ascii_digit bs) (after is_ascii_digit bs))
  precision_after-by b bs false is = verb_after-sound flags width None tt (b ∷ bs)

  precision_after-sound : (bs : List ℕ) → IfSome (precision_after flags width bs) (IsFound flags width (flags ++ (width ++ bs)))
  precision_after-sound [] = tt
  precision_after-sound (b ∷ bs) = precision_after-by b bs (b == 46) refl

-- digits after what is no flag do not begin with 0
begins_above_0-digits : (bs : List ℕ) → begins is_flag bs ≡ false → begins_above_0 (take_while is_ascii_digit bs) ≡ true
begins_above_0-digits [] stop = refl
begins_above_0-digits (b ∷ bs) stop = rw (take_while-cons is_ascii_digit b bs) (grind (arith, nat_tests))

-- a form at the front of bytes
abbrev BeginsWith : List ℕ → WrittenForm → Type 0
BeginsWith bs f = IsForm f × (bs ≡ form_bytes f ++ drop (length (form_bytes f)) bs)

form_at-sound : (bs : List ℕ) → IfSome (form_at bs) (BeginsWith bs)
unfolding form_at
form_at-sound bs =
    let tail : List ℕ = after is_flag bs in
    let flags : List ℕ = take_while is_flag bs in
    let width : List ℕ = take_while is_ascii_digit tail in
    IfSome_then _ {Q = BeginsWith bs} (precision_after-sound flags width (after is_ascii_digit tail))
    (λ f (parts : IsFound flags width (flags ++ (width ++ after is_ascii_digit tail)) f).
    let spells : bs ≡ form_bytes f ++ parts.rest = sym (ap (λ t. flags ++ t) (take_while-after is_ascii_digit tail) ∙ take_while-after is_flag bs)
    ∙ parts.spells in
    let left : drop (length (form_bytes f)) bs ≡ parts.rest = ap (drop (length (form_bytes f))) spells ∙ drop-append_seam (form_bytes f) parts.rest in (
      record {
        flags = ap (list_all is_flag) parts.flags_is ∙ list_all-take_while is_flag bs;
        width = ap (list_all is_ascii_digit) parts.width_is ∙ list_all-take_while is_ascii_digit tail;
        short = ap is_short parts.width_is ∙ parts.short;
        above = above-told f.width (ap begins_above_0 parts.width_is ∙ begins_above_0-digits tail (begins-after is_flag bs));
        precision = parts.precision;
        verb = parts.verb;
      },
      spells ∙ ap (λ r. form_bytes f ++ r) (sym left),
    ))

-- the segment at the front of bytes
data FirstOf (b : ℕ) (bs : List ℕ) : Segment → Type 0 where
  a_run : is_plain b ≡ true → FirstOf b bs (literal (b ∷ take_while is_plain bs))
  a_percent : (cs : List ℕ) → b ≡ 37 → bs ≡ 37 ∷ cs → FirstOf b bs percent
  a_form : (f : WrittenForm) → b ≡ 37 → BeginsWith bs f → FirstOf b bs (form f)

segment_after-by : (b : ℕ) (bs : List ℕ) → b ≡ 37 → (t : Bool) → (get_or bs 0 0 == 37) ≡ t
    → IfSome (cond t (Some percent) (option_map form (form_at bs))) (FirstOf b bs)
segment_after-by b [] is true e = cc
segment_after-by b (c ∷ cs) is true e = let second : c ≡ 37 = grind (arith, nat_tests) in a_percent cs is (ap (λ d. d ∷ cs) second)
segment_after-by b bs is false e = go (form_at bs) (form_at-sound bs)
  where
    go : (o : Option WrittenForm) → IfSome o (BeginsWith bs) → IfSome (option_map form o) (FirstOf b bs)
    go None sound = tt
    go (Some f) sound = a_form f is sound

first_segment-by : (b : ℕ) (bs : List ℕ) (t : Bool) → (b == 37) ≡ t
    → IfSome (cond (not t) (Some (literal (take_while is_plain (b ∷ bs)))) (cond (get_or bs 0 0 == 37) (Some percent) (option_map form (form_at bs))))
    (FirstOf b bs)
first_segment-by b bs true e = segment_after-by b bs (grind (arith, nat_tests)) (get_or bs 0 0 == 37) refl
first_segment-by b bs false e =
    let plain : is_plain b ≡ true = rw e refl in rw (take_while-passing is_plain b bs plain) (a_run plain)

-- segments that are a reading, of which the first is no run where the first byte is not plain
record IsSound (bs : List ℕ) (ps : List Segment) : Type 0 where
  spells : bs ≡ flat_map segment_bytes ps
  segments : AreSegments ps
  apart : begins is_plain bs ≡ false → IsNoRun ps

IsSound-cons : (b : ℕ) (bs : List ℕ) (p : Segment) (ps : List Segment) → FirstOf b bs p → IsSound (drop (rest_len (Some p)) bs) ps → IsSound (b ∷ bs) (p ∷ ps)
IsSound-cons b bs _ ps (a_run plain) sound =
    let run : List ℕ = take_while is_plain bs in
    let n : suc (length run) - 1 ≡ prefix_len is_plain bs = omega (arith, length-take (prefix_len is_plain bs) bs, prefix_len-le-length is_plain bs) in
    let left : drop (suc (length run) - 1) bs ≡ after is_plain bs = ap (λ k. drop k bs) n in record {
      spells = ap (λ t. b ∷ t) (sym (take_while-after is_plain bs) ∙ ap (λ r. run ++ r) (sym left ∙ sound.spells));
      segments = (rw plain (list_all-take_while is_plain bs), sound.apart (ap (begins is_plain) left ∙ begins-after is_plain bs), sound.segments);
      apart = λ no. absurd (false≢true (sym no ∙ plain));
    }
IsSound-cons b bs _ ps (a_percent cs is second) sound = record {
  spells = ap (λ c. c ∷ bs) is ∙ ap (λ t. 37 ∷ t) (second ∙ ap (λ r. 37 ∷ r) (sym (ap (λ t. drop 1 t) second) ∙ sound.spells));
  segments = sound.segments;
  apart = λ no. tt;
}
IsSound-cons b bs _ ps (a_form f is good) sound =
    let n : suc (length (form_bytes f)) - 1 ≡ length (form_bytes f) = omega arith in record {
      spells = ap (λ c. c ∷ bs) is ∙ ap (λ t. 37 ∷ t) (good.1 ∙ ap (λ r. form_bytes f ++ r) (sym (ap (λ k. drop k bs) n) ∙ sound.spells));
      segments = (good.0, sound.segments);
      apart = λ no. tt;
    }

IsSound-front : (b : ℕ) (bs : List ℕ) (o : Option Segment) (q : Option (List Segment)) → IfSome o (FirstOf b bs)
    → IfSome q (IsSound (drop (rest_len o) bs)) → IfSome (with_segment o q) (IsSound (b ∷ bs))
IsSound-front b bs (Some p) (Some ps) first sound = IsSound-cons b bs p ps first sound
IsSound-front b bs _ _ first sound = tt

segments_after-sound : (bs : List ℕ) (n : ℕ) → IfSome (segments_after n bs) (IsSound (drop n bs))
segments_after-sound [] zero = record { spells = refl; segments = tt; apart = λ no. tt }
segments_after-sound [] (suc n) = record { spells = refl; segments = tt; apart = λ no. tt }
segments_after-sound (b ∷ bs) (suc n) = segments_after-sound bs n
segments_after-sound (b ∷ bs) zero =
    let first = first_segment (b ∷ bs) in
    subst (λ o. IfSome o (IsSound (b ∷ bs))) (sym (segments-before first bs))
    (IsSound-front b bs first (segments_after (rest_len first) bs) (first_segment-by b bs (b == 37) refl) (segments_after-sound bs (rest_len first)))

-- what the function reads is a reading
pub reading-sound : (format : List ℕ) (ps : List Segment) → segments_read format ≡ Some ps → IsReading format ps
unfolding segments_read
reading-sound format ps h =
    let sound = subst (λ o. IfSome o (IsSound format)) h (segments_after-sound format 0) in
    subst (λ t. IsReading t ps) (sym sound.spells) (read ps sound.segments)

-- it reads each reading
pub reading-complete : (format : List ℕ) (ps : List Segment) → IsReading format ps → segments_read format ≡ Some ps
reading-complete format ps is = let k = spelled format ps is in ap segments_read k.0 ∙ reading-found ps k.1

-- what is read is what the relation admits
pub read-holds : (format : List ℕ) (o : Option (List Segment)) → segments_read format ≡ o → IsReadAs format o
read-holds format None e = λ ps is. let both : None ≡ Some ps = sym e ∙ reading-complete format ps is in cc
read-holds format (Some ps) e = reading-sound format ps e

pub read-only : (format : List ℕ) (o other : Option (List Segment)) → segments_read format ≡ o → IsReadAs format other → other ≡ o
read-only format o (Some ps) e is = sym (reading-complete format ps is) ∙ e
read-only format None None e none = refl
read-only format (Some ps) None e none = absurd (none ps (reading-sound format ps e))

unfoldable pub one_reading : (format : List ℕ) → One (IsReadAs format)
one_reading format = record {
  it = segments_read format;
  holds = read-holds format (segments_read format) refl;
  only = λ other is. read-only format (segments_read format) other refl is;
}
