-- For `one_constant`: the constants that are computed are those that the relation admits.
use Rattle.std.proofs.Common.{◌≡◌, ℕ, suc, pos, ◌-◌, List, [], ◌∷◌, ◌++◌, length, drop, Option, Some, IfSome, option_and_then}
use Rattle.std.proofs.Common.{subst, arith, length-append, drop-drop, drop-cons, flat_map}
use Rattle.std.proofs.Math.Seq.{take-append_seam, get_or-append_seam}
use Rattle.std.proofs.lemmas.List.{drop_all, take-append-drop}
use Rattle.std.proofs.lemmas.Bool.Decides.{nat_tests}
use Rattle.tmpl_lex.specs.declared.piece.TokenKind.{TokenKind}
use Rattle.tmpl_lex.specs.declared.piece.TokenKind.TheVariants as kind
use Rattle.tmpl_values.specs.Rune.{bytes_in}
use Rattle.tmpl_grammar.specs.Token.{token}
use Rattle.tmpl_grammar.specs.Tree.{Operand, number_constant, text_constant}
use Rattle.tmpl_grammar.specs.Constant as constant
use Rattle.tmpl_grammar.specs.Constant.{IsConstant}
use Rattle.tmpl_grammar.specs.computed.Integer.{integer}
use Rattle.tmpl_grammar.specs.Laws.{IsAdmitted, IsComputed}
use Rattle.tmpl_lex.specs.Piece.{Token}
use Rattle.tmpl_grammar.specs.computed.Constant.{constant_of, constant_by, string_in, raw_string_in, character_in}
use Rattle.tmpl_grammar.specs.computed.Quoted.{between, parts, unquoted_text, rune_code}
use Rattle.tmpl_grammar.proofs.EscapeLemmas.{double, single}
use Rattle.tmpl_grammar.proofs.HasPartsLemmas.{parts-computed, parts-admitted, rune-computed, rune-admitted}
use Rattle.tmpl_grammar.proofs.IsIntegerLemmas.{integer-computed, integer-admitted}
use Rattle.tmpl_grammar.proofs.OptionLemmas.{admitted, told, mapped}

-- ---- the quotes

between-quotes : (quote : ℕ) (xs : List ℕ) → between quote (quote ∷ (xs ++ quote ∷ [])) ≡ Some xs
between-quotes quote xs =
    let bs : List ℕ = quote ∷ (xs ++ quote ∷ []) in
    grind (arith, nat_tests, length-append xs (quote ∷ []), get_or-append_seam xs quote [] 0, take-append_seam xs (quote ∷ []))

between-is : (quote : ℕ) (bs xs : List ℕ) → between quote bs ≡ Some xs → quote ∷ (xs ++ quote ∷ []) ≡ bs
between-is quote bs xs e =
    let end : drop (suc (length bs - 1)) bs ≡ [] = drop_all (suc (length bs - 1)) bs (omega arith) in
    grind (arith, nat_tests, drop-cons bs 0 0, drop-cons bs (length bs - 1) 0, take-append-drop (length bs - 2) (drop 1 bs), drop-drop (length bs - 2) 1 bs)

-- ---- what the relation admits is computed

pub computes-constant : IsComputed IsConstant constant_of
unfolding constant_of
computes-constant _ _ (constant.number is) = simp (integer-computed is)
computes-constant _ _ (constant.string {bs = bs} {rs = ps} has) = simp (between-quotes 34 bs, parts-computed 34 bs ps double has)
computes-constant _ _ (constant.raw_string bs) = simp (between-quotes 96 bs)
computes-constant _ _ (constant.character {bs = bs} {r = p} has) = simp (between-quotes 39 bs, rune-computed 39 bs p single has)

-- ---- what is computed the relation admits

-- what stands between two quotes
quoted : (k : TokenKind) (q : ℕ) (bs : List ℕ) (f : List ℕ → Option Operand)
    → ((xs : List ℕ) → IfSome (f xs) (IsConstant (token k (q ∷ (xs ++ q ∷ []))))) → IfSome (option_and_then f (between q bs)) (IsConstant (token k bs))
quoted k q bs f h = grind (arith, nat_tests, between-is)

is-constant : (k : TokenKind) (bs : List ℕ) → IfSome (constant_by k bs) (IsConstant (token k bs))
is-constant kind.Number bs =
    mapped number_constant (IsConstant (token kind.Number bs)) (integer bs) (integer-admitted bs) (λ n is. constant.number is)
is-constant kind.String bs = quoted kind.String 34 bs string_in (λ xs.
    let Is = IsConstant (token kind.String (34 ∷ (xs ++ 34 ∷ []))) in
    mapped text_constant Is (unquoted_text 34 xs)
    (mapped (flat_map bytes_in) (λ t. Is (text_constant t)) (parts 34 xs) (parts-admitted 34 xs double) (λ rs has. constant.string has))
    (λ t is. is))
is-constant kind.RawString bs =
    mapped raw_string_in (IsConstant (token kind.RawString bs)) (between 96 bs) (told (λ xs. 96 ∷ (xs ++ 96 ∷ []) ≡ bs) (between 96 bs) (between-is 96 bs))
    (λ xs is. subst (λ ys. IsConstant (token kind.RawString ys) (raw_string_in xs)) is (constant.raw_string xs))
is-constant kind.Character bs = quoted kind.Character 39 bs character_in (λ xs.
    let Is = IsConstant (token kind.Character (39 ∷ (xs ++ 39 ∷ []))) in
    mapped (λ n. number_constant (pos n)) Is (rune_code 39 xs)
    (rune-admitted 39 xs (λ n. Is (number_constant (pos n))) single (λ r has. constant.character has)) (λ n is. is))
is-constant _ bs = tt

pub constant-admitted : (t : Token) → IfSome (constant_of t) (IsConstant t)
unfolding constant_of
constant-admitted t = is-constant t.kind t.bytes

pub admits-constant : IsAdmitted IsConstant constant_of
admits-constant = admitted IsConstant constant_of constant-admitted

pub ruleset constants = (computes-constant, admits-constant)
