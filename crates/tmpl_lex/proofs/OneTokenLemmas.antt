-- For the law `one_token`: the token that is computed at the front of bytes is the one of the table, row by row.
use Rattle.std.proofs.Common.{arith, ◌≡◌, ◌∙◌, ℕ, zero, suc, ◌-◌, Bool, true, false, ◌&&◌, not, nat_eq, List, [], ◌∷◌, ◌++◌, Option, Some, None, IfSome, get_or}
use Rattle.std.proofs.Common.{◌<◌, ◌⊎◌, inl, inr, refl, sym, ap, subst, length, take, drop, length-append, append_assoc, if◌then◌else◌, codes, take_while}
use Rattle.std.specs.Char.{is_ascii_digit}
use Rattle.std.specs.List.{prefix_len, list_all}
use Rattle.std.proofs.lemmas.Bool.{eqb-true, eq-eqb, and_parts, both_ways, false_from_ne_true}
use Rattle.std.proofs.lemmas.Bool.Decides.{nat_tests}
use Rattle.std.proofs.Math.Bool.{and-false, and-true}
use Rattle.std.proofs.lemmas.List.{take-append-drop}
use Rattle.std.proofs.lemmas.List.Folds.{list_all-append}
use Rattle.std.proofs.lemmas.List.Sums.{prefix_len-le-length, prefix_len_passes}
use Rattle.std.proofs.Math.Seq.{take-suc, drop-cons, take-append_seam, drop-append_seam}
use Rattle.std.proofs.lemmas.Option.{same_Some}
use Rattle.tmpl_lex.specs.declared.piece.TokenKind.{TokenKind}
use Rattle.tmpl_lex.specs.declared.piece.TokenKind.TheVariants as kind
use Rattle.tmpl_lex.specs.Bytes.{is_space, is_name_byte, is_number_byte, Absent, BeginsNone, IsRun}
use Rattle.tmpl_lex.specs.Delimiter.{Closes, closes, closes_marked}
use Rattle.tmpl_lex.specs.Laws.{IsFound, BeginsWith}
use Rattle.tmpl_lex.specs.Piece.{Token}
use Rattle.tmpl_lex.specs.Token as table
use Rattle.tmpl_lex.specs.Token.{IsToken, IsQuoted, no_byte, a_byte, an_escape, EndsSpace, at_byte, at_marker}
use Rattle.tmpl_lex.specs.computed.Quoted.{up_to, unless, through, quoted_front}
use Rattle.tmpl_lex.specs.computed.Token.{Begun, sign_token, front_of_token, token_from, after_sign, after_dot, after_colon, of_kind, space_run, space_before_marker, name_run}
use Rattle.tmpl_lex.specs.computed.Trim.{End, ended_by, has_right_delimiter, has_dashed_delimiter, right_marked, right_delimiter}
use Rattle.tmpl_lex.proofs.PartLemmas.{run-length, run-taken, taken-run, taken-rest}

-- ---- where an action ends

pub closes-found : {trims : Bool} {closing : List ℕ} (rest : List ℕ) → Closes trims closing
    → right_delimiter (closing ++ rest) ≡ Some (record { trims = trims; rest = rest })
closes-found rest closes = refl
closes-found rest (closes_marked {w = w} h) = grind (arith, nat_tests)

-- a delimiter stands at the front
pub record Ends (bs : List ℕ) (e : End) : Type 0 where
  pub closing : List ℕ
  pub closes : Closes e.trims closing
  pub is : bs ≡ closing ++ e.rest

braces-is : (bs : List ℕ) → has_right_delimiter bs ≡ true → bs ≡ 125 ∷ 125 ∷ drop 2 bs
braces-is bs h = grind (arith, nat_tests)

dashed-is : (bs : List ℕ) → has_dashed_delimiter bs ≡ true → bs ≡ 45 ∷ 125 ∷ 125 ∷ drop 3 bs
dashed-is bs h = grind (arith, nat_tests)

sign_token-is : (bs : List ℕ) → right_marked bs ≡ true → (w : ℕ) × ((is_space w ≡ true) × (bs ≡ w ∷ 45 ∷ 125 ∷ 125 ∷ drop 4 bs))
sign_token-is [] h = cc
sign_token-is (a ∷ bs) h = grind (arith, nat_tests, and_parts, dashed-is)

pub found-ends : (bs : List ℕ) → IfSome (right_delimiter bs) (Ends bs)
found-ends bs = go (has_right_delimiter bs) refl (right_marked bs) refl
  where
    go : (c : Bool) → has_right_delimiter bs ≡ c → (m : Bool) → right_marked bs ≡ m → IfSome (ended_by c m bs) (Ends bs)
    go true c m d = record { closing = codes "}}"; closes = closes; is = braces-is bs c }
    go false c true d =
        let sign_token = sign_token-is bs d in
        record { closing = sign_token.0 ∷ 45 ∷ 125 ∷ 125 ∷ []; closes = closes_marked sign_token.1.0; is = sign_token.1.1 }
    go false c false d = tt

no-closes : (b : ℕ) (bs : List ℕ) → nat_eq b 125 ≡ false → has_right_delimiter (b ∷ bs) ≡ false
no-closes b bs e = grind (arith, nat_tests)

pub no-end : (b : ℕ) (bs : List ℕ) → nat_eq b 125 ≡ false → is_space b ≡ false → right_delimiter (b ∷ bs) ≡ None
no-end b bs e s = simp (no-closes b bs e, s)

-- ---- white space

ends-undashed : {rest : List ℕ} → EndsSpace rest → has_dashed_delimiter rest ≡ false
ends-undashed (at_byte {rest = rest} s n) = false_from_ne_true (has_dashed_delimiter rest) (λ e. n (45 ∷ 125 ∷ 125 ∷ []) (drop 3 rest) refl (dashed-is rest e))
ends-undashed (at_marker rest c) = marker-undashed c
  where
    marker-undashed : {t : Bool} {marker : List ℕ} → Closes t marker → has_dashed_delimiter (marker ++ rest) ≡ false
    marker-undashed closes = refl
    marker-undashed (closes_marked {w = w} h) = let other : nat_eq w 45 ≡ false = grind (arith, nat_tests) in simp other

spaces-undashed : (bs rest : List ℕ) → list_all is_space bs ≡ true → EndsSpace rest → has_dashed_delimiter (bs ++ rest) ≡ false
spaces-undashed [] rest h e = ends-undashed e
spaces-undashed (b ∷ bs) rest h e = grind (arith, nat_tests, and_parts)

-- the white space at the front, before this rest
run-space : (bs rest : List ℕ) → IsRun is_space bs rest
    → space_run (bs ++ rest) ≡ take (space_before_marker (has_dashed_delimiter rest) (length bs)) (bs ++ rest)
run-space bs rest run = simp (run-length is_space bs rest run, drop-append_seam)

spaces-run : (bs rest : List ℕ) → list_all is_space bs ≡ true → EndsSpace rest → space_run (bs ++ rest) ≡ bs
spaces-run bs _ h (at_byte {rest = rest} s n) =
    simp (run-space bs rest (record { passes = h; longest = s }), ends-undashed (at_byte s n), take-append_seam)
spaces-run bs _ h (at_marker rest c) = before c
  where
    before : {t : Bool} {marker : List ℕ} → Closes t marker → space_run (bs ++ (marker ++ rest)) ≡ bs
    before closes = simp (run-space bs (125 ∷ 125 ∷ rest) (record { passes = h; longest = refl }), take-append_seam)
    before (closes_marked {w = w} white) =
        let dashed : List ℕ = 45 ∷ 125 ∷ 125 ∷ rest in
        let run = run-space (bs ++ w ∷ []) dashed (record { passes = simp (list_all-append, h, white); longest = refl }) in
        let less : length (bs ++ w ∷ []) - 1 ≡ length bs = omega (arith, length-append bs (w ∷ [])) in
        simp append_assoc at (rw less at run) ∙ take-append_seam bs (w ∷ dashed)

-- white space at the front, up to where it ends
record Spaces (bs : List ℕ) : Type 0 where
  rest : List ℕ
  is : bs ≡ space_run bs ++ rest
  white : list_all is_space (space_run bs) ≡ true
  ends : EndsSpace rest

spaces-of : (bs : List ℕ) (n : ℕ) → space_run bs ≡ take n bs → list_all is_space (take n bs) ≡ true → EndsSpace (drop n bs) → Spaces bs
spaces-of bs n run white ends = grind (arith, nat_tests, take-append-drop)

undashed-begins : (bs : List ℕ) → has_dashed_delimiter bs ≡ false → BeginsNone (λ xs. xs ≡ codes "-}}") bs
undashed-begins bs h xs ys e f = both_ways (has_dashed_delimiter bs) h (ap has_dashed_delimiter (f ∙ ap (λ l. l ++ ys) e))

run-spaces : (bs : List ℕ) → has_dashed_delimiter bs ≡ false → Spaces bs
run-spaces bs h = go (has_dashed_delimiter (drop len bs)) refl len refl
  where
    len : ℕ
    len = prefix_len is_space bs

    go : (d : Bool) → has_dashed_delimiter (drop len bs) ≡ d → (n : ℕ) → len ≡ n → Spaces bs
    go false d n e =
        let run = taken-run is_space bs in
        spaces-of bs len (simp d) run.passes (at_byte run.longest (undashed-begins (drop len bs) d))
    go true d zero e = absurd (both_ways (has_dashed_delimiter bs) h (ap (λ n. has_dashed_delimiter (drop n bs)) (sym e) ∙ d))
    go true d (suc m) e =
        let w = get_or bs m 0 in
        let count : len - 1 ≡ m = omega (arith, e) in
        let within : m < prefix_len is_space bs = omega (arith, e) in
        let long : m < length bs = omega (arith, within, prefix_len-le-length is_space bs) in
        let run : list_all is_space (take (suc m) bs) ≡ true = rw (sym e) (let r = taken-run is_space bs in r.passes) in
        let both = and_parts (list_all is_space (take m bs)) (is_space w && true) (simp (take-suc bs m 0 long, list_all-append) at run) in
        let dashed = dashed-is (drop (suc m) bs) (ap (λ n. has_dashed_delimiter (drop n bs)) (sym e) ∙ d) in
        let marker : drop m bs ≡ w ∷ 45 ∷ 125 ∷ 125 ∷ drop 3 (drop (suc m) bs) = drop-cons bs m 0 long ∙ ap (λ l. w ∷ l) dashed in
        spaces-of bs m (simp (d, count)) both.0
        (rw marker (at_marker (drop 3 (drop (suc m) bs)) (closes_marked (prefix_len_passes is_space bs m 0 within))))

-- ---- quotes

quoted_front-found : (q : ℕ) (bs rest : List ℕ) → nat_eq 92 q ≡ false → nat_eq q 10 ≡ false → IsQuoted q bs
    → quoted_front q false (bs ++ q ∷ [] ++ rest) ≡ Some (bs ++ q ∷ [])
quoted_front-found q _ rest e n no_byte = simp (n, eq-eqb q q refl)
quoted_front-found q _ rest e n (a_byte {b = b} {bs = bs} l s c h) = simp (l, s, c, quoted_front-found q bs rest e n h)
quoted_front-found q _ rest e n (an_escape {b = b} {bs = bs} l h) = simp (e, l, and-false, quoted_front-found q bs rest e n h)

-- what was found: the bytes up to the quote, the quote, and what stands after it
data IsUpTo (Form : List ℕ → Type 0) (q : ℕ) : List ℕ → List ℕ → Type 0 where
  at_quote : (inside rest : List ℕ) → Form inside → IsUpTo Form q (inside ++ q ∷ [] ++ rest) (inside ++ q ∷ [])

-- one byte more: it is the quote, or what was found after it goes on
up-to-is : (F G : List ℕ → Type 0) (q b : ℕ) (bs : List ℕ) (t : Bool) → (t ≡ true → (b ≡ q) × G []) → (t ≡ false → (ys : List ℕ) → F ys → G (b ∷ ys))
    → (o : Option (List ℕ)) → IfSome o (IsUpTo F q bs) → IfSome (up_to t b o) (IsUpTo G q (b ∷ bs))
up-to-is F G q b bs true end step o at = let here = end refl in rw here.0 (at_quote [] bs here.1)
up-to-is F G q b bs false end step None at = tt
up-to-is F G q b _ false end step (Some _) (at_quote inside rest form) = at_quote (b ∷ inside) rest (step refl inside form)

-- a backslash stands before the bytes, or none
abbrev QuotedAfter : ℕ → Bool → List ℕ → Type 0
QuotedAfter q false bs = IsQuoted q bs
QuotedAfter q true [] = ⊥
QuotedAfter q true (b ∷ bs) = (nat_eq b 10 ≡ false) × IsQuoted q bs

escape-after : (q b : ℕ) (bs : List ℕ) → b ≡ 92 → QuotedAfter q true bs → IsQuoted q (b ∷ bs)
escape-after q b [] e h = absurd h
escape-after q b (c ∷ bs) e h = rw e (an_escape h.0 h.1)

quoted_front-is : (q : ℕ) (e : Bool) (bs : List ℕ) → IfSome (quoted_front q e bs) (IsUpTo (QuotedAfter q e) q bs)
quoted_front-is q e [] = tt
quoted_front-is q e (b ∷ bs) = go (nat_eq b 10) refl e (λ s. quoted_front-is q s bs)
  where
    step : nat_eq b 10 ≡ false → nat_eq b q ≡ false → (s : Bool) → nat_eq b 92 ≡ s → (ys : List ℕ) → QuotedAfter q s ys → IsQuoted q (b ∷ ys)
    step el t false es ys f = a_byte el es t f
    step el t true es ys f = escape-after q b ys (eqb-true b 92 es) f

    go : (l : Bool) → nat_eq b 10 ≡ l → (e : Bool) → ((s : Bool) → IfSome (quoted_front q s bs) (IsUpTo (QuotedAfter q s) q bs))
        → IfSome (unless l (up_to (nat_eq b q && not e) b (quoted_front q (nat_eq b 92 && not e) bs))) (IsUpTo (QuotedAfter q e) q (b ∷ bs))
    go true el e ih = tt
    go false el false ih =
        rw (and-true (nat_eq b q), and-true (nat_eq b 92)) (up-to-is (QuotedAfter q (nat_eq b 92)) (IsQuoted q) q b bs (nat_eq b q)
        (λ t. (eqb-true b q t, no_byte)) (λ t. step el t (nat_eq b 92) refl) (quoted_front q (nat_eq b 92) bs) (ih (nat_eq b 92)))
    go false el true ih =
        rw (and-false (nat_eq b q), and-false (nat_eq b 92))
        (up-to-is (IsQuoted q) (QuotedAfter q true) q b bs false (λ t. absurd (let k : ⊥ = cc in k)) (λ t ys f. (el, f)) (quoted_front q false bs) (ih false))

raw-found : (q : ℕ) (bs rest : List ℕ) → Absent (q ∷ []) bs → through q (bs ++ q ∷ [] ++ rest) ≡ Some (bs ++ q ∷ [])
raw-found q [] rest h = simp (eq-eqb q q refl)
raw-found q (b ∷ bs) rest h =
    let other = false_from_ne_true (nat_eq b q) (λ e. h [] bs (ap (λ k. k ∷ bs) (eqb-true b q e))) in
    simp (other, raw-found q bs rest (λ xs ys e. h (b ∷ xs) ys (ap (λ l. b ∷ l) e)))

absent-more : (q b : ℕ) (bs : List ℕ) → nat_eq b q ≡ false → Absent (q ∷ []) bs → Absent (q ∷ []) (b ∷ bs)
absent-more q b bs n h [] ys e = let same : b ≡ q = cc in both_ways (nat_eq b q) n (eq-eqb b q same)
absent-more q b bs n h (x ∷ xs) ys e = h xs ys (let rest : bs ≡ xs ++ q ∷ [] ++ ys = cc in rest)

raw-is : (q : ℕ) (bs : List ℕ) → IfSome (through q bs) (IsUpTo (Absent (q ∷ [])) q bs)
raw-is q [] = tt
raw-is q (b ∷ bs) = up-to-is (Absent (q ∷ [])) (Absent (q ∷ [])) q b bs (nat_eq b q)
    (λ e. (eqb-true b q e, λ us ys f. absurd (omega (arith, ap length f, length-append (us ++ q ∷ []) ys, length-append us (q ∷ [])))))
    (λ e ys f. absent-more q b ys e f) (through q bs) (raw-is q bs)

-- ---- the rows of the table

abbrev token : TokenKind → List ℕ → Token
token k bs = record { kind = k; bytes = bs }

-- a token whose first byte tells
by-first : (k : TokenKind) (b : ℕ) (bs rest : List ℕ) → nat_eq b 125 ≡ false → is_space b ≡ false → front_of_token b (bs ++ rest) ≡ Some (k, bs)
    → IsFound (b ∷ bs ++ rest) (token k (b ∷ bs))
by-first k b bs rest e s h = record { no_end = no-end b (bs ++ rest) e s; front = ap (token_from b) h }

space-found : (b : ℕ) (bs rest : List ℕ) → list_all is_space (b ∷ bs) ≡ true → EndsSpace rest → IsFound (b ∷ bs ++ rest) (token kind.Space (b ∷ bs))
space-found b bs rest h e = grind (arith, nat_tests, and_parts, no-closes, spaces-run, spaces-undashed)

word-found : (b : ℕ) (bs rest : List ℕ) → is_ascii_digit b ≡ false → IsRun is_name_byte (b ∷ bs) rest → IsFound (b ∷ bs ++ rest) (token kind.Word (b ∷ bs))
word-found b bs rest d run = grind (arith, nat_tests, and_parts, by-first, run-taken)

number-found : {sign : List ℕ} (b : ℕ) (bs rest : List ℕ) → (sign ≡ []) ⊎ (sign ≡ codes "+") ⊎ (sign ≡ codes "-") → is_ascii_digit b ≡ true
    → IsRun is_number_byte bs rest
    → IsFound (sign ++ b ∷ bs ++ rest) (token kind.Number (sign ++ b ∷ bs))
number-found b bs rest (inl e) d run = rw e (grind (arith, nat_tests, run-taken))
number-found b bs rest (inr (inl e)) d run = rw e (by-first kind.Number 43 (b ∷ bs) rest refl refl (simp (d, run-taken is_number_byte bs rest run)))
number-found b bs rest (inr (inr e)) d run = rw e (by-first kind.Number 45 (b ∷ bs) rest refl refl (simp (d, run-taken is_number_byte bs rest run)))

pub found : {k : TokenKind} {bs rest : List ℕ} → IsToken k bs rest → IsFound (bs ++ rest) (token k bs)
found (table.space {b = b} {bs = bs} {rest = rest} h e) = space-found b bs rest h e
found (table.word {b = b} {bs = bs} {rest = rest} d run) = word-found b bs rest d run
found (table.number {bs = bs} {rest = rest} b s d run) = number-found b bs rest s d run
found (table.field {b = b} {bs = bs} {rest = rest} run) =
    by-first kind.Field 46 (b ∷ bs) rest refl refl (ap (λ xs. Some (after_dot xs)) (run-taken is_name_byte (b ∷ bs) rest run))
found (table.dot {rest = rest} s) = grind (arith, nat_tests, by-first, run-taken)
found (table.variable {name = name} {rest = rest} run) = by-first kind.Variable 36 name rest refl refl (simp (run-taken is_name_byte name rest run))
found (table.string {bs = bs} {rest = rest} h) = by-first kind.String 34 (bs ++ 34 ∷ []) rest refl refl (simp (quoted_front-found 34 bs rest refl refl h))
found (table.raw_string {rest = rest} bs h) = by-first kind.RawString 96 (bs ++ 96 ∷ []) rest refl refl (simp (raw-found 96 bs rest h))
found (table.character {bs = bs} {rest = rest} h) = by-first kind.Character 39 (bs ++ 39 ∷ []) rest refl refl (simp (quoted_front-found 39 bs rest refl refl h))
found (table.declare {rest = rest}) = by-first kind.Declare 58 (61 ∷ []) rest refl refl refl
found (table.assign {rest = rest}) = by-first kind.Assign 61 [] rest refl refl refl
found (table.comma {rest = rest}) = by-first kind.Comma 44 [] rest refl refl refl
found (table.pipe {rest = rest}) = by-first kind.Pipe 124 [] rest refl refl refl
found (table.left_parenthesis {rest = rest}) = by-first kind.LeftParenthesis 40 [] rest refl refl refl
found (table.right_parenthesis {rest = rest}) = by-first kind.RightParenthesis 41 [] rest refl refl refl

-- ---- a token that is computed stands there

record StandsAt (b : ℕ) (bs : List ℕ) (p : Begun) : Type 0 where
  rest : List ℕ
  stands : IsToken p.0 (b ∷ p.1) rest
  is : bs ≡ p.1 ++ rest

-- either of two, by a test
by-test : (t : Bool) (b : ℕ) (bs : List ℕ) (o p : Option Begun) → (t ≡ true → IfSome o (StandsAt b bs))
    → (t ≡ false → IfSome p (StandsAt b bs)) → IfSome (if t then o else p) (StandsAt b bs)
by-test t b bs o p this that = grind (arith, nat_tests)

number-stands : (c : ℕ) → (c ∷ [] ≡ []) ⊎ (c ∷ [] ≡ codes "+") ⊎ (c ∷ [] ≡ codes "-") → (bs : List ℕ) → IfSome (after_sign bs) (StandsAt c bs)
number-stands c s [] = tt
number-stands c s (d ∷ bs) = by-test (is_ascii_digit d) c (d ∷ bs) _ None (λ h. record {
  rest = drop (prefix_len is_number_byte bs) bs;
  stands = table.number {sign = c ∷ []} d s h (taken-run is_number_byte bs);
  is = ap (λ l. d ∷ l) (sym (taken-rest is_number_byte bs));
}) (λ h. tt)

after_dot-stands : (name rest bs : List ℕ) → IsRun is_name_byte name rest → bs ≡ name ++ rest → StandsAt 46 bs (after_dot name)
after_dot-stands [] rest bs run is = record { rest = rest; stands = table.dot run.longest; is = is }
after_dot-stands (c ∷ name) rest bs run is = record { rest = rest; stands = table.field run; is = is }

quote-stands : (k : TokenKind) (q : ℕ) (Form : List ℕ → Type 0) → ((xs rest : List ℕ) → Form xs → IsToken k (q ∷ (xs ++ q ∷ [])) rest)
    → (bs : List ℕ) (o : Option (List ℕ)) → IfSome o (IsUpTo Form q bs) → IfSome (of_kind k o) (StandsAt q bs)
quote-stands k q Form row bs o at = grind (arith, nat_tests)

declare-stands : (bs : List ℕ) → IfSome (after_colon bs) (StandsAt 58 bs)
declare-stands [] = tt
declare-stands (c ∷ bs) = by-test (nat_eq c 61) 58 (c ∷ bs) _ None
    (λ h. record { rest = bs; stands = table.declare; is = ap (λ n. n ∷ bs) (eqb-true c 61 h) }) (λ h. tt)

space-stands : (b : ℕ) (bs : List ℕ) → is_space b ≡ true → right_marked (b ∷ bs) ≡ false → StandsAt b bs (kind.Space, space_run bs)
space-stands b bs h m =
    let spaces = run-spaces bs (simp h at m) in
    record { rest = spaces.rest; stands = table.space (simp (h, spaces.white)) spaces.ends; is = spaces.is }

run-stands : (k : TokenKind) (p : ℕ → Bool) (b : ℕ) (bs : List ℕ) → IsToken k (b ∷ take_while p bs) (drop (prefix_len p bs) bs)
    → StandsAt b bs (k, take_while p bs)
run-stands k p b bs h = record { rest = drop (prefix_len p bs) bs; stands = h; is = sym (taken-rest p bs) }

alone-stands : (k : TokenKind) (b : ℕ) (bs : List ℕ) → IsToken k (b ∷ []) bs → StandsAt b bs (k, [])
alone-stands k b bs h = record { rest = bs; stands = h; is = refl }

-- either of two, by whether the first byte is this one
by-byte : (b c : ℕ) (bs : List ℕ) (o p : Option Begun) → IfSome o (StandsAt c bs) → IfSome p (StandsAt b bs)
    → IfSome (if nat_eq b c then o else p) (StandsAt b bs)
by-byte b c bs o p this that = grind (arith, nat_tests)

sign_token-stands : (b : ℕ) (bs : List ℕ) → IfSome (sign_token b bs) (StandsAt b bs)
sign_token-stands b bs =
    let name = taken-run is_name_byte bs in
    by-byte b 43 bs _ _ (number-stands 43 (inr (inl refl)) bs)
    (by-byte b 45 bs _ _ (number-stands 45 (inr (inr refl)) bs)
    (by-byte b 46 bs _ _ (after_dot-stands (name_run bs) (drop (prefix_len is_name_byte bs) bs) bs name (sym (taken-rest is_name_byte bs)))
    (by-byte b 36 bs _ _ (run-stands kind.Variable is_name_byte 36 bs (table.variable name))
    (by-byte b 34 bs _ _ (quote-stands kind.String 34 (IsQuoted 34) (λ xs rest f. table.string f) bs (quoted_front 34 false bs) (quoted_front-is 34 false bs))
    (by-byte b 96 bs _ _ (quote-stands kind.RawString 96 (Absent (96 ∷ [])) (λ xs rest f. table.raw_string xs f) bs (through 96 bs) (raw-is 96 bs))
    (by-byte b 39 bs _ _ (quote-stands kind.Character 39 (IsQuoted 39) (λ xs rest f. table.character f) bs (quoted_front 39 false bs) (quoted_front-is 39 false bs))
    (by-byte b 58 bs _ _ (declare-stands bs)
    (by-byte b 61 bs _ _ (alone-stands kind.Assign 61 bs table.assign)
    (by-byte b 44 bs _ _ (alone-stands kind.Comma 44 bs table.comma)
    (by-byte b 124 bs _ _ (alone-stands kind.Pipe 124 bs table.pipe)
    (by-byte b 40 bs _ _ (alone-stands kind.LeftParenthesis 40 bs table.left_parenthesis)
    (by-byte b 41 bs _ _ (alone-stands kind.RightParenthesis 41 bs table.right_parenthesis) tt))))))))))))

front_of_token-stands : (b : ℕ) (bs : List ℕ) → right_marked (b ∷ bs) ≡ false → IfSome (front_of_token b bs) (StandsAt b bs)
front_of_token-stands b bs m =
    let name = taken-run is_name_byte bs in
    by-test (is_space b) b bs _ _ (λ h. space-stands b bs h m) (λ s.
    by-test (is_ascii_digit b) b bs _ _
    (λ h. run-stands kind.Number is_number_byte b bs (table.number {sign = []} b (inl refl) h (taken-run is_number_byte bs))) (λ d.
    by-test (is_name_byte b) b bs _ _
    (λ h. run-stands kind.Word is_name_byte b bs (table.word d (record { passes = simp (h, name.passes); longest = name.longest })))
    (λ n. sign_token-stands b bs)))

no-marker : (c m : Bool) (bs : List ℕ) → ended_by c m bs ≡ None → m ≡ false
no-marker c m bs h = grind (arith, nat_tests)

pub stands : (bs : List ℕ) (t : Token) → IsFound bs t → BeginsWith bs t
stands [] t h = cc
stands (b ∷ bs) t h = go (front_of_token b bs) (front_of_token-stands b bs (no-marker (has_right_delimiter (b ∷ bs)) (right_marked (b ∷ bs)) (b ∷ bs) h.no_end)) h.front
  where
    go : (o : Option Begun) → IfSome o (StandsAt b bs) → token_from b o ≡ Some t → BeginsWith (b ∷ bs) t
    go None at e = cc
    go (Some p) at e =
        let same : record { kind = p.0; bytes = b ∷ p.1 } ≡ t = cc in
        subst (BeginsWith (b ∷ bs)) same (record { rest = at.rest; stands = at.stands; is = ap (λ l. b ∷ l) at.is })

pub found-at : (bs : List ℕ) (t : Token) → BeginsWith bs t → IsFound bs t
found-at bs t h = rw h.is (found h.stands)

pub one : (bs : List ℕ) (t u : Token) → BeginsWith bs t → BeginsWith bs u → t ≡ u
one bs t u h k = same_Some t u (sym (found-at bs t h).front ∙ (found-at bs u k).front)
