-- For `front_token`: the token at the front is made of the first bytes.
use Rattle.std.proofs.Common.{arith, ◌≡◌, ℕ, suc, ◌+◌, ◌-◌, ◌≤◌, List, [], ◌∷◌, Some, ap, length, take, drop, get_or, length-drop}
use Rattle.std.proofs.lemmas.List.{take_all}
use Rattle.tmpl_lex.specs.declared.piece.TokenKind.{TokenKind}
use Rattle.tmpl_lex.specs.computed.Token.{front_token, front_of_token, token_from}

-- all but the first byte, as code borrows them
pub take-rest : (bs : List ℕ) → take (length bs - 1) (drop 1 bs) ≡ drop 1 bs
take-rest bs = take_all (length bs - 1) (drop 1 bs) (omega (arith, length-drop 1 bs))

-- the token that begins with the first byte
pub front_token-cons : (bs rest : List ℕ) (kind : TokenKind) (len : ℕ) → 1 ≤ length bs → rest ≡ drop 1 bs
    → Some (kind, take len rest) ≡ front_of_token (get_or bs 0 0) rest → Some (record { kind = kind; bytes = take (len + 1) bs }) ≡ front_token bs
front_token-cons [] rest kind len h same e = absurd (omega arith)
front_token-cons (b ∷ bs) rest kind len h same e =
    let next : len + 1 ≡ suc len = omega arith in
    rw next (ap (token_from b) (rw same at e))
