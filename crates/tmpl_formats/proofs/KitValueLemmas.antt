-- What is JSON by the grammar is read by the definitions of `json`, where no bound of depth is too small.
use Rattle.std.proofs.Common.{◌≡◌, ◌<◌, ◌≤◌, ℕ, zero, suc, ◌+◌, Bool, true, false, ◌||◌, List, [], ◌∷◌, length, Some, None, arith, refl, ◌∙◌}
use Rattle.std.proofs.lemmas.Grind.{common_steps}
use Rattle.json.specs.Json as tree
use Rattle.json.specs.Json.{Json, Items, Members, after_end_array, items, members, value}
use Rattle.json.specs.Lex as lexer
use Rattle.json.specs.Lex.{lex, lex_byte, class, Lexeme, Place, punctuate, begins_colon, may_begin, place_token, tokens}
use Rattle.json.specs.Token as kit
use Rattle.json.specs.Token.{Token}
use Rattle.json.specs.Word.{is_operator, is_space}
use Rattle.tmpl_formats.proofs.KitNumberLemmas.{Ends, IsNumberToken, a_number, number_token, true_lexed, false_lexed, null_lexed}
use Rattle.tmpl_formats.proofs.KitStringLemmas.{Reads, string_reads}
use Rattle.tmpl_formats.specs.Json.{IsJson}
use Rattle.tmpl_formats.proofs.JsonGrammar as own
use Rattle.tmpl_formats.proofs.JsonGrammar.{HasSpace, HasValue, HasElement, HasItems, HasMembers, IsElement}
use Rattle.tmpl_formats.specs.computed.JsonBytes.{is_white}

-- ---- the grammar over tokens, with a bound of depth

data IsScalar : Token → Type 0 where
  a_string : (s : List ℕ) → IsScalar (kit.string s)
  number : (s : List ℕ) → IsScalar (kit.number s)
  boolean : (b : Bool) → IsScalar (kit.boolean b)
  null : IsScalar kit.null

mutual
  data Val : ℕ → List Token → List Token → Type 0 where
    scalar : {depth : ℕ} {t : Token} {ts : List Token} → IsScalar t → Val depth (t ∷ ts) ts
    an_array : {depth : ℕ} {ts rest : List Token} → Its depth ts rest → Val (suc depth) (kit.begin_array ∷ ts) rest
    an_object : {depth : ℕ} {ts rest : List Token} → Mems depth ts rest → Val (suc depth) (kit.begin_object ∷ ts) rest

  data Its : ℕ → List Token → List Token → Type 0 where
    its_end : {depth : ℕ} {ts : List Token} → Its depth (kit.end_array ∷ ts) ts
    its_more : {depth : ℕ} {ts mid rest : List Token} → Val depth ts mid → Its depth mid rest → Its depth ts rest

  data Mems : ℕ → List Token → List Token → Type 0 where
    mems_end : {depth : ℕ} {ts : List Token} → Mems depth (kit.end_object ∷ ts) ts
    mems_more : {depth : ℕ} {ts mid rest : List Token} (s : List ℕ) → Val depth ts mid → Mems depth mid rest → Mems depth (kit.key s ∷ ts) rest

mutual
  val_shorter : (depth : ℕ) (ts rest : List Token) → Val depth ts rest → length rest < length ts
  val_shorter depth _ rest (scalar s) = omega arith
  val_shorter _ _ rest (an_array {depth} {ts} i) = let h = its_shorter depth ts rest i in omega arith
  val_shorter _ _ rest (an_object {depth} {ts} m) = let h = mems_shorter depth ts rest m in omega arith

  its_shorter : (depth : ℕ) (ts rest : List Token) → Its depth ts rest → length rest < length ts
  its_shorter depth _ rest its_end = omega arith
  its_shorter depth ts rest (its_more {mid = mid} v i) = let h = val_shorter depth ts mid v in let k = its_shorter depth mid rest i in omega arith

  mems_shorter : (depth : ℕ) (ts rest : List Token) → Mems depth ts rest → length rest < length ts
  mems_shorter depth _ rest mems_end = omega arith
  mems_shorter depth _ rest (mems_more {ts = ts} {mid = mid} s v m) = let h = val_shorter depth ts mid v in let k = mems_shorter depth mid rest m in omega arith

not_end : (depth : ℕ) (ts rest : List Token) → Val depth ts rest → after_end_array ts ≡ None
not_end depth _ rest (scalar (a_string s)) = refl
not_end depth _ rest (scalar (number s)) = refl
not_end depth _ rest (scalar (boolean b)) = refl
not_end depth _ rest (scalar null) = refl
not_end _ _ rest (an_array i) = refl
not_end _ _ rest (an_object m) = refl

scalar_reads : (depth : ℕ) (t : Token) (ts : List Token) → IsScalar t → (j : Json) × (value depth (t ∷ ts) ≡ Some (j, ts))
unfolding value
scalar_reads zero _ ts (a_string s) = (tree.string s, refl)
scalar_reads zero _ ts (number s) = (tree.number s, refl)
scalar_reads zero _ ts (boolean b) = (tree.boolean b, refl)
scalar_reads zero _ ts null = (tree.null, refl)
scalar_reads (suc d) _ ts (a_string s) = (tree.string s, refl)
scalar_reads (suc d) _ ts (number s) = (tree.number s, refl)
scalar_reads (suc d) _ ts (boolean b) = (tree.boolean b, refl)
scalar_reads (suc d) _ ts null = (tree.null, refl)

array_reads : (depth : ℕ) (ts rest : List Token) (is : Items) → items (value depth) (length ts) ts ≡ Some (is, rest) → value (suc depth) (kit.begin_array ∷ ts) ≡ Some (tree.array is, rest)
unfolding value
array_reads depth ts rest is e = rw e refl

object_reads : (depth : ℕ) (ts rest : List Token) (ms : Members) → members (value depth) (length ts) ts ≡ Some (ms, rest) → value (suc depth) (kit.begin_object ∷ ts) ≡ Some (tree.object ms, rest)
unfolding value
object_reads depth ts rest ms e = rw e refl

items_more : (depth n : ℕ) (ts mid rest : List Token) (j : Json) (is : Items) → after_end_array ts ≡ None → value depth ts ≡ Some (j, mid)
    → items (value depth) n mid ≡ Some (is, rest) → items (value depth) (suc n) ts ≡ Some (tree.item j is, rest)
unfolding items
items_more depth n ts mid rest j is e f g = rw (e, f, g) refl

items_none : (depth n : ℕ) (ts : List Token) → items (value depth) (suc n) (kit.end_array ∷ ts) ≡ Some (tree.no_items, ts)
unfolding items
items_none depth n ts = refl

members_more : (depth n : ℕ) (s : List ℕ) (ts mid rest : List Token) (j : Json) (ms : Members) → value depth ts ≡ Some (j, mid)
    → members (value depth) n mid ≡ Some (ms, rest) → members (value depth) (suc n) (kit.key s ∷ ts) ≡ Some (tree.member s j ms, rest)
unfolding members
members_more depth n s ts mid rest j ms f g = rw (f, g) refl

members_none : (depth n : ℕ) (ts : List Token) → members (value depth) (suc n) (kit.end_object ∷ ts) ≡ Some (tree.no_members, ts)
unfolding members
members_none depth n ts = refl

mutual
  val_reads : (depth : ℕ) (ts rest : List Token) → Val depth ts rest → (j : Json) × (value depth ts ≡ Some (j, rest))
  val_reads depth _ rest (scalar {t = t} s) = scalar_reads depth t rest s
  val_reads _ _ rest (an_array {depth} {ts} i) =
      let found = its_reads (length ts) depth ts rest (omega arith) i in (tree.array found.0, array_reads depth ts rest found.0 found.1)
  val_reads _ _ rest (an_object {depth} {ts} m) =
      let found = mems_reads (length ts) depth ts rest (omega arith) m in (tree.object found.0, object_reads depth ts rest found.0 found.1)

  its_reads : (n depth : ℕ) (ts rest : List Token) → length ts ≤ n → Its depth ts rest → (is : Items) × (items (value depth) n ts ≡ Some (is, rest))
  its_reads zero depth _ rest le its_end = absurd (omega arith)
  its_reads (suc n) depth _ rest le its_end = (tree.no_items, items_none depth n rest)
  its_reads zero depth ts rest le (its_more {mid = mid} v i) = let h = val_shorter depth ts mid v in absurd (omega arith)
  its_reads (suc n) depth ts rest le (its_more {mid = mid} v i) =
      let h = val_shorter depth ts mid v in
      let first = val_reads depth ts mid v in
      let others = its_reads n depth mid rest (omega arith) i in
      (tree.item first.0 others.0, items_more depth n ts mid rest first.0 others.0 (not_end depth ts mid v) first.1 others.1)

  mems_reads : (n depth : ℕ) (ts rest : List Token) → length ts ≤ n → Mems depth ts rest → (ms : Members) × (members (value depth) n ts ≡ Some (ms, rest))
  mems_reads zero depth _ rest le mems_end = absurd (omega arith)
  mems_reads (suc n) depth _ rest le mems_end = (tree.no_members, members_none depth n rest)
  mems_reads zero depth _ rest le (mems_more s v m) = absurd (omega arith)
  mems_reads (suc n) depth _ rest le (mems_more {ts = ts} {mid = mid} s v m) =
      let h = val_shorter depth ts mid v in
      let first = val_reads depth ts mid v in
      let others = mems_reads n depth mid rest (omega arith) m in
      (tree.member s first.0 others.0, members_more depth n s ts mid rest first.0 others.0 first.1 others.1)

-- ---- from bytes to tokens

-- from some bound of depth on
abbrev Enough : (ℕ → Type 0) → Type 0
Enough P = (least : ℕ) × ((depth : ℕ) → least ≤ depth → P depth)

-- the tokens of a text, from a place on
abbrev Tokens : Place → List ℕ → List Token
Tokens p text = punctuate p (lex lexer.between text)

placed : (p : Place) (t : Token) (ls : List Lexeme) → punctuate p (lexer.token t ∷ ls) ≡ place_token p t (begins_colon ls) (λ next. punctuate next ls)
unfolding punctuate
placed _ t ls = refl

comma_placed : (ls : List Lexeme) → punctuate lexer.after_value (lexer.comma ∷ ls) ≡ punctuate lexer.after_comma ls
unfolding punctuate
comma_placed ls = refl

colon_placed : (ls : List Lexeme) → punctuate lexer.after_key (lexer.colon ∷ ls) ≡ punctuate lexer.fresh ls
unfolding punctuate
colon_placed ls = refl

end_placed : punctuate lexer.after_value [] ≡ []
unfolding punctuate
end_placed = refl

scalar_placed : (p : Place) (t : Token) (ls : List Lexeme) → IsScalar t → may_begin p ≡ true → begins_colon ls ≡ false
    → punctuate p (lexer.token t ∷ ls) ≡ t ∷ punctuate lexer.after_value ls
scalar_placed p _ ls (a_string s) m c = placed p (kit.string s) ls ∙ rw (c, m) refl
scalar_placed p _ ls (number s) m c = placed p (kit.number s) ls ∙ rw m refl
scalar_placed p _ ls (boolean b) m c = placed p (kit.boolean b) ls ∙ rw m refl
scalar_placed p _ ls null m c = placed p kit.null ls ∙ rw m refl

array_placed : (p : Place) (ls : List Lexeme) → may_begin p ≡ true → punctuate p (lexer.token kit.begin_array ∷ ls) ≡ kit.begin_array ∷ punctuate lexer.fresh ls
array_placed p ls m = placed p kit.begin_array ls ∙ rw m refl

object_placed : (p : Place) (ls : List Lexeme) → may_begin p ≡ true → punctuate p (lexer.token kit.begin_object ∷ ls) ≡ kit.begin_object ∷ punctuate lexer.fresh ls
object_placed p ls m = placed p kit.begin_object ls ∙ rw m refl

key_placed : (p : Place) (s : List ℕ) (ls : List Lexeme) → may_begin p ≡ true → punctuate p (lexer.token (kit.string s) ∷ lexer.colon ∷ ls) ≡ kit.key s ∷ punctuate lexer.fresh ls
key_placed p s ls m = placed p (kit.string s) (lexer.colon ∷ ls) ∙ rw (m, colon_placed ls) refl

-- a byte before a text
lex_sign : (b : ℕ) (t : List ℕ) → lex lexer.between (b ∷ t) ≡ lex_byte lexer.between (class b) b t (λ next. lex next t)
unfolding lex
lex_sign b t = refl

lex_nothing : lex lexer.between [] ≡ []
unfolding lex
lex_nothing = refl

white_class : (b : ℕ) → is_white b ≡ true → class b ≡ lexer.space
white_class b h = grind (arith, common_steps)

white_ends : (b : ℕ) → is_white b ≡ true → (is_operator b || is_space b) ≡ true
white_ends b h = grind (arith, common_steps)

lex_white : (b : ℕ) (t : List ℕ) → is_white b ≡ true → lex lexer.between (b ∷ t) ≡ lex lexer.between t
unfolding lex
lex_white b t h = rw (white_class b h) refl

lex_space : (text rest : List ℕ) → HasSpace text rest → lex lexer.between text ≡ lex lexer.between rest
lex_space _ rest own.no_space = refl
lex_space _ rest (own.space {b} {text} w h) = lex_white b text w ∙ lex_space text rest h

space_ends : (text rest : List ℕ) → HasSpace text rest → Ends rest → Ends text
space_ends _ rest own.no_space e = e
space_ends _ rest (own.space {b} {text} w h) e = white_ends b w

-- what follows a value and space
data Follow : List ℕ → Type 0 where
  nothing : Follow []
  a_comma : (t : List ℕ) → Follow (44 ∷ t)
  a_bracket : (t : List ℕ) → Follow (93 ∷ t)
  a_brace : (t : List ℕ) → Follow (125 ∷ t)

follow_ends : (t : List ℕ) → Follow t → Ends t
follow_ends _ nothing = refl
follow_ends _ (a_comma t) = refl
follow_ends _ (a_bracket t) = refl
follow_ends _ (a_brace t) = refl

no_colon : (t : List ℕ) → Follow t → begins_colon (lex lexer.between t) ≡ false
no_colon _ nothing = rw lex_nothing refl
no_colon _ (a_comma t) = rw (lex_sign 44 t) refl
no_colon _ (a_bracket t) = rw (lex_sign 93 t) refl
no_colon _ (a_brace t) = rw (lex_sign 125 t) refl

-- a string where a value or a key may begin
string_lexed : (text rest : List ℕ) (r : Reads text rest) → lex lexer.between (34 ∷ text) ≡ lexer.token (kit.string r.content_is) ∷ lex lexer.between rest
string_lexed text rest r = lex_sign 34 text ∙ rw (r.content_of, r.lexed) refl

-- a scalar whose token is read
scalar_value : (p : Place) (text rest : List ℕ) (t : Token) → IsScalar t → lex lexer.between text ≡ lexer.token t ∷ lex lexer.between rest → may_begin p ≡ true
    → begins_colon (lex lexer.between rest) ≡ false → Enough (λ depth. Val depth (Tokens p text) (Tokens lexer.after_value rest))
scalar_value p text rest t s e m c = (0, λ depth le. rw (e, scalar_placed p t (lex lexer.between rest) s m c) (scalar s))

number_scalar : (t : Token) → IsNumberToken t → IsScalar t
number_scalar _ (a_number s) = number s

at_depth : (P : ℕ → Type 0) (least : ℕ) → ((depth : ℕ) → least ≤ depth → P (suc depth)) → (depth : ℕ) → least + 1 ≤ depth → P depth
at_depth P least f zero le = absurd (omega arith)
at_depth P least f (suc depth) le = f depth (omega arith)

-- one level deeper
deeper : (P : ℕ → Type 0) (least : ℕ) → ((depth : ℕ) → least ≤ depth → P (suc depth)) → Enough P
deeper P least f = (least + 1, at_depth P least f)

end_array_tokens : (rest : List ℕ) → Tokens lexer.after_value (93 ∷ rest) ≡ kit.end_array ∷ Tokens lexer.after_value rest
end_array_tokens rest = rw (lex_sign 93 rest) (placed lexer.after_value kit.end_array (lex lexer.between rest))

end_object_tokens : (rest : List ℕ) → Tokens lexer.after_value (125 ∷ rest) ≡ kit.end_object ∷ Tokens lexer.after_value rest
end_object_tokens rest = rw (lex_sign 125 rest) (placed lexer.after_value kit.end_object (lex lexer.between rest))

comma_tokens : (more : List ℕ) → Tokens lexer.after_value (44 ∷ more) ≡ Tokens lexer.after_comma more
comma_tokens more = rw (lex_sign 44 more) (comma_placed (lex lexer.between more))

empty_array_tokens : (text rest : List ℕ) → HasSpace text (93 ∷ rest) → Tokens lexer.fresh text ≡ kit.end_array ∷ Tokens lexer.after_value rest
empty_array_tokens text rest h = rw (lex_space text (93 ∷ rest) h, lex_sign 93 rest) (placed lexer.fresh kit.end_array (lex lexer.between rest))

empty_object_tokens : (text rest : List ℕ) → HasSpace text (125 ∷ rest) → Tokens lexer.fresh text ≡ kit.end_object ∷ Tokens lexer.after_value rest
empty_object_tokens text rest h = rw (lex_space text (125 ∷ rest) h, lex_sign 125 rest) (placed lexer.fresh kit.end_object (lex lexer.between rest))

array_tokens : (p : Place) (text : List ℕ) → may_begin p ≡ true → Tokens p (91 ∷ text) ≡ kit.begin_array ∷ Tokens lexer.fresh text
array_tokens p text m = rw (lex_sign 91 text) (array_placed p (lex lexer.between text) m)

object_tokens : (p : Place) (text : List ℕ) → may_begin p ≡ true → Tokens p (123 ∷ text) ≡ kit.begin_object ∷ Tokens lexer.fresh text
object_tokens p text m = rw (lex_sign 123 text) (object_placed p (lex lexer.between text) m)

key_tokens : (p : Place) (text key after value : List ℕ) → HasSpace text (34 ∷ key) → (r : Reads key after) → HasSpace after (58 ∷ value) → may_begin p ≡ true
    → Tokens p text ≡ kit.key r.content_is ∷ Tokens lexer.fresh value
key_tokens p text key after value h r q m = rw (lex_space text (34 ∷ key) h, string_lexed key after r, lex_space after (58 ∷ value) q, lex_sign 58 value) (key_placed p r.content_is (lex lexer.between value) m)

array_val : (p : Place) (text rest : List ℕ) → may_begin p ≡ true → Enough (λ depth. Its depth (Tokens lexer.fresh text) (Tokens lexer.after_value rest))
    → Enough (λ depth. Val depth (Tokens p (91 ∷ text)) (Tokens lexer.after_value rest))
array_val p text rest m its =
    deeper (λ depth. Val depth (Tokens p (91 ∷ text)) (Tokens lexer.after_value rest)) its.0 (λ depth le. rw (array_tokens p text m) (an_array (its.1 depth le)))

object_val : (p : Place) (text rest : List ℕ) → may_begin p ≡ true → Enough (λ depth. Mems depth (Tokens lexer.fresh text) (Tokens lexer.after_value rest))
    → Enough (λ depth. Val depth (Tokens p (123 ∷ text)) (Tokens lexer.after_value rest))
object_val p text rest m mems =
    deeper (λ depth. Val depth (Tokens p (123 ∷ text)) (Tokens lexer.after_value rest)) mems.0 (λ depth le. rw (object_tokens p text m) (an_object (mems.1 depth le)))

spaced : (p : Place) (text value after rest : List ℕ) → HasSpace text value → HasSpace after rest → Enough (λ depth. Val depth (Tokens p value) (Tokens lexer.after_value after))
    → Enough (λ depth. Val depth (Tokens p text) (Tokens lexer.after_value rest))
spaced p text value after rest s q v = (
  v.0,
  λ depth le.
      rw (lex_space text value s, ← lex_space after rest q) (v.1 depth le),
)

last_of_items : (p : Place) (text rest : List ℕ) → Enough (λ depth. Val depth (Tokens p text) (Tokens lexer.after_value (93 ∷ rest)))
    → Enough (λ depth. Its depth (Tokens p text) (Tokens lexer.after_value rest))
last_of_items p text rest v = (v.0, λ depth le. its_more (v.1 depth le) (rw (end_array_tokens rest) its_end))

more_of_items : (p : Place) (text more rest : List ℕ) → Enough (λ depth. Val depth (Tokens p text) (Tokens lexer.after_value (44 ∷ more)))
    → Enough (λ depth. Its depth (Tokens lexer.after_comma more) (Tokens lexer.after_value rest)) → Enough (λ depth. Its depth (Tokens p text) (Tokens lexer.after_value rest))
more_of_items p text more rest v i = (v.0 + i.0, λ depth le. its_more (v.1 depth (omega arith)) (rw (comma_tokens more) (i.1 depth (omega arith))))

last_of_members : (p : Place) (text value rest : List ℕ) (s : List ℕ) → Tokens p text ≡ kit.key s ∷ Tokens lexer.fresh value
    → Enough (λ depth. Val depth (Tokens lexer.fresh value) (Tokens lexer.after_value (125 ∷ rest)))
    → Enough (λ depth. Mems depth (Tokens p text) (Tokens lexer.after_value rest))
last_of_members p text value rest s e v = (v.0, λ depth le. rw e (mems_more {mid = Tokens lexer.after_value (125 ∷ rest)} {rest = Tokens lexer.after_value rest} s (v.1 depth le) (rw (end_object_tokens rest) mems_end)))

more_of_members : (p : Place) (text value more rest : List ℕ) (s : List ℕ) → Tokens p text ≡ kit.key s ∷ Tokens lexer.fresh value
    → Enough (λ depth. Val depth (Tokens lexer.fresh value) (Tokens lexer.after_value (44 ∷ more)))
    → Enough (λ depth. Mems depth (Tokens lexer.after_comma more) (Tokens lexer.after_value rest)) → Enough (λ depth. Mems depth (Tokens p text) (Tokens lexer.after_value rest))
more_of_members p text value more rest s e v i =
    (v.0 + i.0, λ depth le. rw e (mems_more {mid = Tokens lexer.after_value (44 ∷ more)} {rest = Tokens lexer.after_value rest} s (v.1 depth (omega arith)) (rw (comma_tokens more) (i.1 depth (omega arith)))))

mutual
  value_tokens : (p : Place) (text rest : List ℕ) → HasValue text rest → Ends rest → begins_colon (lex lexer.between rest) ≡ false → may_begin p ≡ true
      → Enough (λ depth. Val depth (Tokens p text) (Tokens lexer.after_value rest))
  value_tokens p _ rest own.a_true e c m = scalar_value p _ rest (kit.boolean true) (boolean true) (true_lexed rest e) m c
  value_tokens p _ rest own.a_false e c m = scalar_value p _ rest (kit.boolean false) (boolean false) (false_lexed rest e) m c
  value_tokens p _ rest own.a_null e c m = scalar_value p _ rest kit.null null (null_lexed rest e) m c
  value_tokens p text rest (own.number n) e c m =
      let x = number_token text rest n e in scalar_value p text rest x.the_token (number_scalar x.the_token x.fits) x.lexed m c
  value_tokens p _ rest (own.string {text} h) e c m =
      let r = string_reads text rest h in scalar_value p _ rest (kit.string r.content_is) (a_string r.content_is) (string_lexed text rest r) m c
  value_tokens p _ rest (own.empty_array {text} h) e c m = array_val p text rest m (0, λ depth le. rw (empty_array_tokens text rest h) its_end)
  value_tokens p _ rest (own.array {text} h) e c m = array_val p text rest m (items_tokens lexer.fresh text (93 ∷ rest) rest refl h refl)
  value_tokens p _ rest (own.empty_object {text} h) e c m = object_val p text rest m (0, λ depth le. rw (empty_object_tokens text rest h) mems_end)
  value_tokens p _ rest (own.object {text} h) e c m = object_val p text rest m (members_tokens lexer.fresh text (125 ∷ rest) rest refl h refl)

  element_tokens : (p : Place) (text rest : List ℕ) → HasElement text rest → Follow rest → may_begin p ≡ true
      → Enough (λ depth. Val depth (Tokens p text) (Tokens lexer.after_value rest))
  element_tokens p text rest (own.element {value = value} {after = after} s v q) f m =
      spaced p text value after rest s q
      (value_tokens p value after v (space_ends after rest q (follow_ends rest f)) (rw (lex_space after rest q) (no_colon rest f)) m)

  items_tokens : (p : Place) (text end rest : List ℕ) → end ≡ 93 ∷ rest → HasItems text end → may_begin p ≡ true
      → Enough (λ depth. Its depth (Tokens p text) (Tokens lexer.after_value rest))
  items_tokens p text end rest e (own.last_item x) m =
      last_of_items p text rest (rw e at (element_tokens p text end x (rw (← e) at (a_bracket rest)) m))
  items_tokens p text end rest e (own.more_items {more = more} x i) m =
      more_of_items p text more rest (element_tokens p text (44 ∷ more) x (a_comma more) m) (items_tokens lexer.after_comma more end rest e i refl)

  members_tokens : (p : Place) (text end rest : List ℕ) → end ≡ 125 ∷ rest → HasMembers text end → may_begin p ≡ true
      → Enough (λ depth. Mems depth (Tokens p text) (Tokens lexer.after_value rest))
  members_tokens p text end rest e (own.last_member (own.member {key = key} {after = after} {value = value} s k q x)) m =
      let r = string_reads key after k in
      last_of_members p text value rest r.content_is (key_tokens p text key after value s r q m)
      (rw e at (element_tokens lexer.fresh value end x (rw (← e) at (a_brace rest)) refl))
  members_tokens p text end rest e (own.more_members {more = more} (own.member {key = key} {after = after} {value = value} s k q x) i) m =
      let r = string_reads key after k in
      more_of_members p text value more rest r.content_is (key_tokens p text key after value s r q m)
      (element_tokens lexer.fresh value (44 ∷ more) x (a_comma more) refl) (members_tokens lexer.after_comma more end rest e i refl)

-- the whole text is one value by the definitions of `json`
pub json_read : (text : List ℕ) → IsElement text → IsJson text
json_read text h =
    let v = element_tokens lexer.fresh text [] h nothing refl in
    let at_end : Tokens lexer.after_value [] ≡ [] = rw lex_nothing end_placed in
    let found = val_reads v.0 (tokens text) [] (rw at_end at (v.1 v.0 (omega arith))) in
    (found.0, (v.0, found.1))
