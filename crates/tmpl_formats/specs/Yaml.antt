-- YAML: a subset that readers of YAML 1.1 and of YAML 1.2 read the same. The bytes of a text spell tokens with their columns
-- (HasTokens), and the tokens are documents (IsDocuments). There are no tags, anchors, aliases, directives and `?`. Each scalar but one
-- after `|` or `>` ends on its line, and so does a collection in brackets. That no key comes twice is not stated.
use Rattle.std.specs.Prelude.{◌≡◌, ◌≤◌, ◌<◌, ℕ, suc, Bool, true, false, not, ◌||◌, ◌&&◌, ◌==◌, List, [], ◌∷◌, ◌++◌, codes, replicate, Option, Some, None}
use Rattle.std.specs.Str.{byte}
use Rattle.tmpl_formats.specs.YamlScalar.{is_printable, is_sign, HasQuoted, HasScalar}
use Rattle.tmpl_formats.specs.declared.yaml_nest.Bracket.{Bracket}
use Rattle.tmpl_formats.specs.declared.yaml_nest.Bracket.TheVariants as bracket
use Rattle.tmpl_formats.specs.declared.yaml_nest.Token.{Token}
use Rattle.tmpl_formats.specs.declared.yaml_nest.Token.TheVariants as token
use Rattle.tmpl_formats.specs.declared.yaml_line.Place.{Place}
use Rattle.tmpl_formats.specs.declared.yaml_line.Place.TheVariants as place

-- ---- the lines, as tokens with columns

-- the rest of a line
pub data HasLine : List ℕ → List ℕ → Type 0 where
  line_end : {rest : List ℕ} → HasLine (codes "\n" ++ rest) rest
  a_byte : {b : ℕ} {text rest : List ℕ} → not (b == byte "\n") ≡ true → HasLine text rest → HasLine (b ∷ text) rest

-- spaces up to the end of a line
pub data HasBlank : List ℕ → List ℕ → Type 0 where
  blank_end : {rest : List ℕ} → HasBlank (codes "\n" ++ rest) rest
  a_space : {text rest : List ℕ} → HasBlank text rest → HasBlank (codes " " ++ text) rest

-- what follows `|` or `>` on its line
pub data HasHeader : List ℕ → List ℕ → Type 0 where
  clipped : {text rest : List ℕ} → HasBlank text rest → HasHeader text rest
  chomped : {b : ℕ} {text rest : List ℕ} → is_sign b ≡ true → HasBlank text rest → HasHeader (b ∷ text) rest

abbrev pub spaces : ℕ → List ℕ
spaces count = replicate count (byte " ")

-- lines of a block scalar, blank ones and others that begin at this column
pub data HasLines (column : ℕ) : List ℕ → List ℕ → Type 0 where
  no_line : {rest : List ℕ} → HasLines column rest rest
  blank : (count : ℕ) {text rest : List ℕ} → HasLines column text rest → HasLines column (spaces count ++ (codes "\n" ++ text)) rest
  line : {text more rest : List ℕ} → HasLine text more → HasLines column more rest → HasLines column (spaces column ++ text) rest

-- a block scalar, whose first line that is not blank begins beyond a column
pub data HasBlock (column : ℕ) : List ℕ → List ℕ → Type 0 where
  empty : {rest : List ℕ} → HasBlock column rest rest
  first_blank : (count : ℕ) {text rest : List ℕ} → count ≤ suc column → HasBlock column text rest → HasBlock column (spaces count ++ (codes "\n" ++ text)) rest
  first_line : (own b : ℕ) {text more rest : List ℕ} → column < own → (not (b == byte " ") && not (b == byte "\t") && not (b == byte "\n")) ≡ true
      → HasLine text more → HasLines own more rest → HasBlock column (spaces own ++ b ∷ text) rest

-- a space or the end of the line comes
pub data IsGap : List ℕ → Type 0 where
  gap_end : {text : List ℕ} → IsGap (codes "\n" ++ text)
  gap_space : {text : List ℕ} → IsGap (codes " " ++ text)

-- which places are in brackets, and where values may come, and items and keys
abbrev pub is_flow : Place → Bool
is_flow place.Flow = true
is_flow _ = false

abbrev pub takes_values : Place → Bool
takes_values place.End = false
takes_values _ = true

abbrev pub takes_keys : Place → Bool
takes_keys (place.Value c) = false
takes_keys p = takes_values p

-- the column of the item or key before it on the line
abbrev pub parent_of : Place → Option ℕ
parent_of (place.Item c) = Some c
parent_of (place.Value c) = Some c
parent_of _ = None

abbrev pub after_key : Place → ℕ → Place
after_key place.Flow c = place.Flow
after_key _ c = place.Value c

abbrev pub after_value : Place → Place
after_value place.Flow = place.Flow
after_value _ = place.End

-- after a value comes a space or the end of the line; in brackets the tokens state what may come
abbrev pub MayFollow : Place → List ℕ → Type 0
MayFollow place.Flow text = Unit {0}
MayFollow _ text = IsGap text

abbrev pub opening : Bracket → ℕ
opening bracket.List = byte "["
opening bracket.Map = byte "{"

abbrev pub closing : Bracket → ℕ
closing bracket.List = byte "]"
closing bracket.Map = byte "}"

-- from a place and a column on, the text, of which each line has a newline, has these tokens. A value on the line of its key counts
-- as at the columns right after the start of the key, and in brackets columns do not matter
pub data HasTokens : Place → ℕ → List ℕ → List Token → Type 0 where
  ends : HasTokens place.Line 0 [] []
  newline : {p : Place} {c : ℕ} {text : List ℕ} {ts : List Token} → is_flow p ≡ false → HasTokens place.Line 0 text ts → HasTokens p c (codes "\n" ++ text) ts
  space : {p : Place} {c : ℕ} {text : List ℕ} {ts : List Token} → HasTokens p (suc c) text ts → HasTokens p c (codes " " ++ text) ts
  comment : {p : Place} {c : ℕ} {text rest : List ℕ} {ts : List Token} → is_flow p ≡ false → HasLine text rest → HasTokens place.Line 0 rest ts → HasTokens p c (codes "#" ++ text) ts
  marker : {text : List ℕ} {ts : List Token} → IsGap text → HasTokens place.End 0 text ts → HasTokens place.Line 0 (codes "---" ++ text) (token.Marker ∷ ts)
  item : {p : Place} {c : ℕ} {text : List ℕ} {ts : List Token} → takes_keys p ≡ true → is_flow p ≡ false → IsGap text → HasTokens (place.Item c) (suc c) text ts
      → HasTokens p c (codes "-" ++ text) (token.Item c ∷ ts)
  key : {p : Place} {c : ℕ} {text more : List ℕ} {ts : List Token} → takes_keys p ≡ true → HasScalar (is_flow p) text (codes ":" ++ more) → IsGap more
      → HasTokens (after_key p c) (suc c) more ts → HasTokens p c text (token.Key c ∷ ts)
  quoted_key : {c : ℕ} {text more : List ℕ} {ts : List Token} → HasQuoted text (codes ":" ++ more) → HasTokens place.Flow (suc c) more ts
      → HasTokens place.Flow c text (token.Key c ∷ ts)
  scalar : {p : Place} {c : ℕ} {text more : List ℕ} {ts : List Token} → takes_values p ≡ true → HasScalar (is_flow p) text more → MayFollow p more
      → HasTokens (after_value p) 0 more ts → HasTokens p c text (token.Scalar c ∷ ts)
  block : {p : Place} {c parent b : ℕ} {text lines rest : List ℕ} {ts : List Token} → parent_of p ≡ Some parent → (b == byte "|" || b == byte ">") ≡ true
      → HasHeader text lines → HasBlock parent lines rest → HasTokens place.Line 0 rest ts → HasTokens p c (b ∷ text) (token.Scalar c ∷ ts)
  open_ : {p : Place} {c : ℕ} {text : List ℕ} {ts : List Token} (k : Bracket) → takes_values p ≡ true → HasTokens place.Flow 0 text ts
      → HasTokens p c (opening k ∷ text) (token.Open k c ∷ ts)
  comma : {c : ℕ} {text : List ℕ} {ts : List Token} → HasTokens place.Flow 0 text ts → HasTokens place.Flow c (codes "," ++ text) (token.Comma ∷ ts)
  close : {c : ℕ} {text : List ℕ} {ts : List Token} (k : Bracket) → HasTokens place.Flow 0 text ts → HasTokens place.Flow c (closing k ∷ text) (token.Close k ∷ ts)
  close_last : {c : ℕ} {text : List ℕ} {ts : List Token} (k : Bracket) → IsGap text → HasTokens place.End 0 text ts
      → HasTokens place.Flow c (closing k ∷ text) (token.Close k ∷ ts)

-- ---- the tokens, as documents

mutual
  -- a value in brackets
  pub data HasFlow : List Token → List Token → Type 0 where
    flow_scalar : {c : ℕ} {rest : List Token} → HasFlow (token.Scalar c ∷ rest) rest
    flow_open : {k : Bracket} {c : ℕ} {ts rest : List Token} → HasInside k ts rest → HasFlow (token.Open k c ∷ ts) rest

  pub data HasEntry : Bracket → List Token → List Token → Type 0 where
    element : {ts rest : List Token} → HasFlow ts rest → HasEntry bracket.List ts rest
    member : {c : ℕ} {ts rest : List Token} → HasFlow ts rest → HasEntry bracket.Map (token.Key c ∷ ts) rest

  -- what follows an opening bracket, or a comma
  pub data HasInside : Bracket → List Token → List Token → Type 0 where
    closed : {k : Bracket} {rest : List Token} → HasInside k (token.Close k ∷ rest) rest
    last_entry : {k : Bracket} {ts rest : List Token} → HasEntry k ts (token.Close k ∷ rest) → HasInside k ts rest
    more_entries : {k : Bracket} {ts others rest : List Token} → HasEntry k ts (token.Comma ∷ others) → HasInside k others rest → HasInside k ts rest

mutual
  -- a value at this column or beyond; nothing stands for null
  pub data HasNode : ℕ → List Token → List Token → Type 0 where
    nothing : {least : ℕ} {rest : List Token} → HasNode least rest rest
    a_scalar : {least c : ℕ} {rest : List Token} → least ≤ c → HasNode least (token.Scalar c ∷ rest) rest
    brackets : {k : Bracket} {least c : ℕ} {ts rest : List Token} → least ≤ c → HasInside k ts rest → HasNode least (token.Open k c ∷ ts) rest
    a_map : {least c : ℕ} {ts rest : List Token} → least ≤ c → HasKeys c ts rest → HasNode least ts rest
    a_sequence : {least c : ℕ} {ts rest : List Token} → least ≤ c → HasItems c ts rest → HasNode least ts rest

  -- the keys of a map, all at this column. A sequence may stand at the column of its key
  pub data HasKeys : ℕ → List Token → List Token → Type 0 where
    no_key : {c : ℕ} {rest : List Token} → HasKeys c rest rest
    a_key : {c : ℕ} {ts more rest : List Token} → HasValue c ts more → HasKeys c more rest → HasKeys c (token.Key c ∷ ts) rest

  pub data HasValue : ℕ → List Token → List Token → Type 0 where
    beyond : {c : ℕ} {ts rest : List Token} → HasNode (suc c) ts rest → HasValue c ts rest
    level : {c : ℕ} {ts rest : List Token} → HasItems c ts rest → HasValue c ts rest

  pub data HasItems : ℕ → List Token → List Token → Type 0 where
    no_item : {c : ℕ} {rest : List Token} → HasItems c rest rest
    an_item : {c : ℕ} {ts more rest : List Token} → HasNode (suc c) ts more → HasItems c more rest → HasItems c (token.Item c ∷ ts) rest

-- documents with `---` between them
pub data IsDocuments : List Token → Type 0 where
  last_document : {ts : List Token} → HasNode 0 ts [] → IsDocuments ts
  more_documents : {ts more : List Token} → HasNode 0 ts (token.Marker ∷ more) → IsDocuments more → IsDocuments ts

-- the last line may have no newline
pub record IsYaml (text : List ℕ) : Type 0 where
  pub characters : is_printable 0 0 text ≡ true
  pub tokens : List Token
  pub spelled : HasTokens place.Line 0 (text ++ codes "\n") tokens
  pub documents : IsDocuments tokens
