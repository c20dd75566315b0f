-- Tokens that the nest takes are documents.
use Rattle.std.proofs.Common.{◌≡◌, ◌⊎◌, inl, inr, ◌≤◌, ℕ, suc, ◌==◌, Bool, true, false, cond, ◌&&◌, List, [], ◌∷◌, ◌++◌, Option, Some, None, arith, refl, sym, subst, nat_lt, nat_le, zero-le}
use Rattle.std.proofs.lemmas.Grind.{common_steps}
use Rattle.std.specs.Bool.{then_some}
use Rattle.std.specs.Prelude.{not, option_map, option_and_then}
use Rattle.tmpl_formats.specs.Yaml.{HasFlow, flow_scalar, flow_open, HasEntry, element, member, HasInside, closed, last_entry, more_entries, HasNode, nothing, a_scalar, brackets, a_map, a_sequence, HasKeys, no_key, a_key, HasValue, beyond, level, HasItems, no_item, an_item, IsDocuments, last_document, more_documents}
use Rattle.tmpl_formats.specs.computed.YamlNest.{Nest, nest_at, head_of, is_value, is_nothing, holds, holds_in, item, key, change_of, applied, taken, is_over, unwound_from, settled, may_begin, begun, taken_item, happened}
use Rattle.tmpl_formats.specs.declared.yaml_nest.Bracket.{Bracket}
use Rattle.tmpl_formats.specs.declared.yaml_nest.Bracket.TheVariants as bracket
use Rattle.tmpl_formats.specs.declared.yaml_nest.Change.{Change}
use Rattle.tmpl_formats.specs.declared.yaml_nest.Change.TheVariants as change
use Rattle.tmpl_formats.specs.declared.yaml_nest.Event.{Event}
use Rattle.tmpl_formats.specs.declared.yaml_nest.Event.TheVariants as event
use Rattle.tmpl_formats.specs.declared.yaml_nest.Expects.{Expects}
use Rattle.tmpl_formats.specs.declared.yaml_nest.Expects.TheVariants as expects
use Rattle.tmpl_formats.specs.declared.yaml_nest.Level.{Level}
use Rattle.tmpl_formats.specs.declared.yaml_nest.Level.TheVariants as lev
use Rattle.tmpl_formats.specs.declared.yaml_nest.Token.{Token}
use Rattle.tmpl_formats.specs.declared.yaml_nest.Token.TheVariants as token

-- ---- what is left

-- one thing and then another
pub data Then (P : List Token → List Token → Type 0) (Q : List Token → Type 0) : List Token → Type 0 where
  both : {ts rest : List Token} → P ts rest → Q rest → Then P Q ts

-- after a value, outside brackets
pub data AfterBlock : List Level → List Token → Type 0 where
  all_closed : AfterBlock [] []
  before_marker : {ts : List Token} → IsDocuments ts → AfterBlock [] (token.Marker ∷ ts)
  in_map : {c : ℕ} {ls : List Level} {ts more : List Token} → HasKeys c ts more → AfterBlock ls more → AfterBlock (lev.Map c ∷ ls) ts
  in_sequence : {c : ℕ} {ls : List Level} {ts more : List Token} → HasItems c ts more → AfterBlock ls more → AfterBlock (lev.Sequence c ∷ ls) ts

-- after a value
pub data AfterValue (ls : List Level) : List Bracket → List Token → Type 0 where
  no_bracket : {ts : List Token} → AfterBlock ls ts → AfterValue ls [] ts
  closes : {k : Bracket} {bs : List Bracket} {ts : List Token} → AfterValue ls bs ts → AfterValue ls (k ∷ bs) (token.Close k ∷ ts)
  goes_on : {k : Bracket} {bs : List Bracket} {ts more : List Token} → HasInside k ts more → AfterValue ls bs more → AfterValue ls (k ∷ bs) (token.Comma ∷ ts)

abbrev pub Waiting : List Level → List Bracket → List Token → Type 0
Waiting [] [] ts = Then (HasNode 0) (AfterBlock []) ts
Waiting (lev.Map c ∷ ls) [] ts = Then (HasValue c) (AfterBlock (lev.Map c ∷ ls)) ts
Waiting (lev.Sequence c ∷ ls) [] ts = Then (HasNode (suc c)) (AfterBlock (lev.Sequence c ∷ ls)) ts
Waiting ls (k ∷ bs) ts = Then HasFlow (AfterValue ls (k ∷ bs)) ts

abbrev pub Inside : List Level → List Bracket → List Token → Type 0
Inside ls [] ts = Unit {0}
Inside ls (k ∷ bs) ts = Then (HasInside k) (AfterValue ls bs) ts

abbrev pub LeftAt : Expects → List Level → List Bracket → List Token → Type 0
LeftAt expects.Value ls bs ts = Waiting ls bs ts
LeftAt expects.Entry ls bs ts = Inside ls bs ts
LeftAt expects.Nothing ls bs ts = AfterValue ls bs ts

abbrev pub Left : Nest → List Token → Type 0
Left n ts = LeftAt n.awaited n.levels n.brackets ts

-- what is left after a step that is taken
abbrev pub Fits : Option Nest → List Token → Type 0
Fits None ts = ⊥
Fits (Some n) ts = Left n ts

-- ---- steps

abbrev Changed : Option Change → Nest → List Token → Type 0
Changed r n ts = Fits (option_map (λ x. applied x n) r) ts

changes : (t : Bool) (x : Change) (n : Nest) (ts : List Token) → Changed (then_some t x) n ts → (t ≡ true) × Left (applied x n) ts
changes true x n ts p = (refl, p)
changes false x n ts p = absurd p

-- nothing stands for a value that is wanted
null_value : (e : Expects) (ls : List Level) (ts : List Token) → AfterBlock ls ts → LeftAt e ls [] ts
null_value expects.Value (lev.Map c ∷ ls) ts b = both (beyond nothing) b
null_value expects.Entry ls ts b = tt
null_value expects.Nothing ls ts b = no_bracket b
null_value expects.Value _ ts b = both nothing b

-- the column is beyond that of the innermost level
abbrev IsDeeper : ℕ → List Level → Type 0
IsDeeper c [] = Unit {0}
IsDeeper c (lev.Map d ∷ ls) = suc d ≤ c
IsDeeper c (lev.Sequence d ∷ ls) = suc d ≤ c

less : (a b : ℕ) → nat_lt a b ≡ true → suc a ≤ b
less a b = grind (arith, common_steps)

at_most : (a b : ℕ) → nat_le a b ≡ true → a ≤ b
at_most a b = grind (arith, common_steps)

same_of : (a b : ℕ) → (a == b) ≡ true → a ≡ b
same_of a b = grind (arith, common_steps)

-- a node, where a value is wanted
a_node : (ls : List Level) (c : ℕ) (ts more : List Token) → IsDeeper c ls → ((least : ℕ) → least ≤ c → HasNode least ts more) → AfterBlock ls more → Waiting ls [] ts
a_node [] c ts more d f b = both (f 0 zero-le) b
a_node (lev.Map own ∷ ls) c ts more d f b = both (beyond (f (suc own) d)) b
a_node (lev.Sequence own ∷ ls) c ts more d f b = both (f (suc own) d) b

sequence_node : (ls : List Level) (c : ℕ) (ts : List Token) → IsDeeper c ls → Waiting (lev.Sequence c ∷ ls) [] ts → Waiting ls [] (token.Item c ∷ ts)
sequence_node ls c ts d (both n (in_sequence {more} is b)) = a_node ls c (token.Item c ∷ ts) more d (λ least le. a_sequence le (an_item n is)) b

map_node : (ls : List Level) (c : ℕ) (ts : List Token) → IsDeeper c ls → Waiting (lev.Map c ∷ ls) [] ts → Waiting ls [] (token.Key c ∷ ts)
map_node ls c ts d (both v (in_map {more} ks b)) = a_node ls c (token.Key c ∷ ts) more d (λ least le. a_map le (a_key v ks)) b

-- one item more, one key more
next_item : (ls : List Level) (c : ℕ) (ts : List Token) → Waiting (lev.Sequence c ∷ ls) [] ts → AfterBlock (lev.Sequence c ∷ ls) (token.Item c ∷ ts)
next_item ls c ts (both n (in_sequence is b)) = in_sequence (an_item n is) b

next_key : (ls : List Level) (c : ℕ) (ts : List Token) → Waiting (lev.Map c ∷ ls) [] ts → AfterBlock (lev.Map c ∷ ls) (token.Key c ∷ ts)
next_key ls c ts (both v (in_map ks b)) = in_map (a_key v ks) b

-- a sequence at the column of its key
level_items : (ls : List Level) (d c : ℕ) (ts : List Token) → d ≡ c → Waiting (lev.Sequence c ∷ lev.Map d ∷ ls) [] ts → Waiting (lev.Map d ∷ ls) [] (token.Item c ∷ ts)
level_items ls d c ts e (both n (in_sequence {more} is b)) =
    let P : ℕ → Type 0 = λ m. HasValue m (token.Item c ∷ ts) more in both (subst P (sym e) (level (an_item n is))) b

beyond_of : (d c : ℕ) → (d == c) ≡ false → d ≤ c → suc d ≤ c
beyond_of d c = grind (arith, common_steps)

order_of : (d c : ℕ) → d ≤ c → (d ≡ c) ⊎ (suc d ≤ c)
order_of d c le = by_test (d == c) refl
  where
    by_test : (t : Bool) → (d == c) ≡ t → (d ≡ c) ⊎ (suc d ≤ c)
    by_test true e = inl (same_of d c e)
    by_test false e = inr (beyond_of d c e le)

item_under_map : (ls : List Level) (d c : ℕ) (ts : List Token) → (d ≡ c) ⊎ (suc d ≤ c) → Waiting (lev.Sequence c ∷ lev.Map d ∷ ls) [] ts
    → Waiting (lev.Map d ∷ ls) [] (token.Item c ∷ ts)
item_under_map ls d c ts (inl e) p = level_items ls d c ts e p
item_under_map ls d c ts (inr lt) p = sequence_node (lev.Map d ∷ ls) c ts lt p

-- ---- items

item_fits : (c : ℕ) (e : Expects) (ls : List Level) (ts : List Token) → Changed (item c e (head_of ls)) (nest_at e ls []) ts → LeftAt e ls [] (token.Item c ∷ ts)
item_fits c expects.Value [] ts p = sequence_node [] c ts tt p
item_fits c expects.Entry [] ts p = absurd p
item_fits c expects.Nothing [] ts p = absurd p
item_fits c expects.Value (lev.Map d ∷ ls) ts p =
    let q = changes (nat_le d c) (change.Push (lev.Sequence c)) (nest_at expects.Value (lev.Map d ∷ ls) []) ts p in item_under_map ls d c ts (order_of d c (at_most d c q.0)) q.1
item_fits c expects.Entry (lev.Map d ∷ ls) ts p = absurd p
item_fits c expects.Nothing (lev.Map d ∷ ls) ts p = absurd p
item_fits c e (lev.Sequence d ∷ ls) ts p = in_sequence_at (d == c) refl p
  where
    push_at : (e : Expects) → Changed (then_some (is_value e && nat_lt d c) (change.Push (lev.Sequence c))) (nest_at e (lev.Sequence d ∷ ls) []) ts
        → LeftAt e (lev.Sequence d ∷ ls) [] (token.Item c ∷ ts)
    push_at expects.Value p =
        let q = changes (nat_lt d c) (change.Push (lev.Sequence c)) (nest_at expects.Value (lev.Sequence d ∷ ls) []) ts p in
        sequence_node (lev.Sequence d ∷ ls) c ts (less d c q.0) q.1
    push_at _ p = absurd p

    in_sequence_at : (t : Bool) → (d == c) ≡ t
        → Changed (cond t (Some (change.Expect expects.Value)) (then_some (is_value e && nat_lt d c) (change.Push (lev.Sequence c)))) (nest_at e (lev.Sequence d ∷ ls) []) ts
        → LeftAt e (lev.Sequence d ∷ ls) [] (token.Item c ∷ ts)
    in_sequence_at true same p = rw (← same_of d c same) (null_value e (lev.Sequence d ∷ ls) (token.Item d ∷ ts) (next_item ls d ts p))
    in_sequence_at false same p = push_at e p

-- ---- keys

key_fits : (c : ℕ) (e : Expects) (ls : List Level) (ts : List Token) → Changed (key c e (head_of ls)) (nest_at e ls []) ts → LeftAt e ls [] (token.Key c ∷ ts)
key_fits c expects.Value [] ts p = map_node [] c ts tt p
key_fits c expects.Entry [] ts p = absurd p
key_fits c expects.Nothing [] ts p = absurd p
key_fits c expects.Value (lev.Sequence d ∷ ls) ts p =
    let q = changes (nat_lt d c) (change.Push (lev.Map c)) (nest_at expects.Value (lev.Sequence d ∷ ls) []) ts p in map_node (lev.Sequence d ∷ ls) c ts (less d c q.0) q.1
key_fits c expects.Entry (lev.Sequence d ∷ ls) ts p = absurd p
key_fits c expects.Nothing (lev.Sequence d ∷ ls) ts p = absurd p
key_fits c e (lev.Map d ∷ ls) ts p = in_map_at (d == c) refl p
  where
    push_at : (e : Expects) → Changed (then_some (is_value e && nat_lt d c) (change.Push (lev.Map c))) (nest_at e (lev.Map d ∷ ls) []) ts → LeftAt e (lev.Map d ∷ ls) [] (token.Key c ∷ ts)
    push_at expects.Value p = let q = changes (nat_lt d c) (change.Push (lev.Map c)) (nest_at expects.Value (lev.Map d ∷ ls) []) ts p in map_node (lev.Map d ∷ ls) c ts (less d c q.0) q.1
    push_at _ p = absurd p

    in_map_at : (t : Bool) → (d == c) ≡ t
        → Changed (cond t (Some (change.Expect expects.Value)) (then_some (is_value e && nat_lt d c) (change.Push (lev.Map c)))) (nest_at e (lev.Map d ∷ ls) []) ts
        → LeftAt e (lev.Map d ∷ ls) [] (token.Key c ∷ ts)
    in_map_at true same p = rw (← same_of d c same) (null_value e (lev.Map d ∷ ls) (token.Key d ∷ ts) (next_key ls d ts p))
    in_map_at false same p = push_at e p

-- an entry in brackets, and what follows it
entry_inside : (ls : List Level) (k : Bracket) (bs : List Bracket) (ts more : List Token) → HasEntry k ts more → AfterValue ls (k ∷ bs) more → Inside ls (k ∷ bs) ts
entry_inside ls k bs ts _ f (closes b) = both (last_entry f) b
entry_inside ls k bs ts _ f (goes_on i b) = both (more_entries f i) b

member_inside : (ls : List Level) (bs : List Bracket) (c : ℕ) (ts : List Token) → Waiting ls (bracket.Map ∷ bs) ts → Inside ls (bracket.Map ∷ bs) (token.Key c ∷ ts)
member_inside ls bs c ts (both {rest} f b) = entry_inside ls bracket.Map bs (token.Key c ∷ ts) rest (member f) b

key_at_fits : (c : ℕ) (e : Expects) (ls : List Level) (bs : List Bracket) (ts : List Token) → Changed (change_of (token.Key c) e (head_of ls) (head_of bs)) (nest_at e ls bs) ts
    → LeftAt e ls bs (token.Key c ∷ ts)
key_at_fits c e ls [] ts p = key_fits c e ls ts p
key_at_fits c e ls (bracket.List ∷ bs) ts p = absurd p
key_at_fits c expects.Value ls (bracket.Map ∷ bs) ts p = absurd p
key_at_fits c expects.Nothing ls (bracket.Map ∷ bs) ts p = absurd p
key_at_fits c expects.Entry ls (bracket.Map ∷ bs) ts p = member_inside ls bs c ts p

item_at_fits : (c : ℕ) (e : Expects) (ls : List Level) (bs : List Bracket) (ts : List Token) → Changed (change_of (token.Item c) e (head_of ls) (head_of bs)) (nest_at e ls bs) ts
    → LeftAt e ls bs (token.Item c ∷ ts)
item_at_fits c e ls [] ts p = item_fits c e ls ts p
item_at_fits c e ls (k ∷ bs) ts p = absurd p

-- ---- values

-- a value that is one token or begins with one, at a column
holds_fits : (c : ℕ) (e : Expects) (ls : List Level) (t : Token) (ts more : List Token) → holds c e (head_of ls) ≡ true → ((least : ℕ) → least ≤ c → HasNode least (t ∷ ts) more)
    → AfterBlock ls more → LeftAt e ls [] (t ∷ ts)
holds_fits c expects.Value [] t ts more h f b = a_node [] c (t ∷ ts) more tt f b
holds_fits c expects.Value (lev.Map d ∷ ls) t ts more h f b = a_node (lev.Map d ∷ ls) c (t ∷ ts) more (less d c h) f b
holds_fits c expects.Value (lev.Sequence d ∷ ls) t ts more h f b = a_node (lev.Sequence d ∷ ls) c (t ∷ ts) more (less d c h) f b
holds_fits c expects.Entry [] t ts more h f b = tt
holds_fits c expects.Entry (l ∷ ls) t ts more h f b = tt
holds_fits c expects.Nothing [] t ts more h f b = cc
holds_fits c expects.Nothing (lev.Map d ∷ ls) t ts more h f b = cc
holds_fits c expects.Nothing (lev.Sequence d ∷ ls) t ts more h f b = cc

-- the same in brackets
holds_in_fits : (e : Expects) (ls : List Level) (k : Bracket) (bs : List Bracket) (ts more : List Token) → holds_in e k ≡ true → HasFlow ts more → AfterValue ls (k ∷ bs) more
    → LeftAt e ls (k ∷ bs) ts
holds_in_fits expects.Entry ls bracket.List bs ts more h f b = entry_inside ls bracket.List bs ts more (element f) b
holds_in_fits expects.Value ls bracket.Map bs ts more h f b = both f b
holds_in_fits expects.Value ls bracket.List bs ts more h f b = cc
holds_in_fits expects.Nothing ls bracket.List bs ts more h f b = cc
holds_in_fits expects.Entry ls bracket.Map bs ts more h f b = cc
holds_in_fits expects.Nothing ls bracket.Map bs ts more h f b = cc

block_of : (ls : List Level) (ts : List Token) → AfterValue ls [] ts → AfterBlock ls ts
block_of ls ts (no_bracket b) = b

scalar_fits : (c : ℕ) (e : Expects) (ls : List Level) (bs : List Bracket) (ts : List Token)
    → Changed (change_of (token.Scalar c) e (head_of ls) (head_of bs)) (nest_at e ls bs) ts → LeftAt e ls bs (token.Scalar c ∷ ts)
scalar_fits c e ls [] ts p =
    let q = changes (holds c e (head_of ls)) (change.Expect expects.Nothing) (nest_at e ls []) ts p in
    holds_fits c e ls (token.Scalar c) ts ts q.0 (λ least le. a_scalar le) (block_of ls ts q.1)
scalar_fits c e ls (k ∷ bs) ts p =
    let q = changes (holds_in e k) (change.Expect expects.Nothing) (nest_at e ls (k ∷ bs)) ts p in holds_in_fits e ls k bs (token.Scalar c ∷ ts) ts q.0 flow_scalar q.1

open_block : (c : ℕ) (e : Expects) (ls : List Level) (own : Bracket) (ts : List Token) → holds c e (head_of ls) ≡ true → Then (HasInside own) (AfterValue ls []) ts
    → LeftAt e ls [] (token.Open own c ∷ ts)
open_block c e ls own ts h (both {rest} i b) = holds_fits c e ls (token.Open own c) ts rest h (λ least le. brackets le i) (block_of ls rest b)

open_inside : (c : ℕ) (e : Expects) (ls : List Level) (k : Bracket) (bs : List Bracket) (own : Bracket) (ts : List Token) → holds_in e k ≡ true
    → Then (HasInside own) (AfterValue ls (k ∷ bs)) ts → LeftAt e ls (k ∷ bs) (token.Open own c ∷ ts)
open_inside c e ls k bs own ts h (both {rest} i b) = holds_in_fits e ls k bs (token.Open own c ∷ ts) rest h (flow_open i) b

opened_fits : (own : Bracket) (c : ℕ) (e : Expects) (ls : List Level) (bs : List Bracket) (ts : List Token)
    → Changed (change_of (token.Open own c) e (head_of ls) (head_of bs)) (nest_at e ls bs) ts → LeftAt e ls bs (token.Open own c ∷ ts)
opened_fits own c e ls [] ts p = let q = changes (holds c e (head_of ls)) (change.Open own) (nest_at e ls []) ts p in open_block c e ls own ts q.0 q.1
opened_fits own c e ls (k ∷ bs) ts p = let q = changes (holds_in e k) (change.Open own) (nest_at e ls (k ∷ bs)) ts p in open_inside c e ls k bs own ts q.0 q.1

-- ---- the end of brackets, a comma, and another document

close_if_fits : (k : Bracket) (e : Expects) (ls : List Level) (bs : List Bracket) (ts : List Token) → Changed (then_some (not (is_value e)) change.Close) (nest_at e ls (k ∷ bs)) ts
    → LeftAt e ls (k ∷ bs) (token.Close k ∷ ts)
close_if_fits k expects.Value ls bs ts p = absurd p
close_if_fits k expects.Entry ls bs ts p = both closed p
close_if_fits k expects.Nothing ls bs ts p = closes p

close_fits : (own : Bracket) (e : Expects) (ls : List Level) (bs : List Bracket) (ts : List Token) → Changed (change_of (token.Close own) e (head_of ls) (head_of bs)) (nest_at e ls bs) ts
    → LeftAt e ls bs (token.Close own ∷ ts)
close_fits bracket.List e ls (bracket.List ∷ bs) ts p = close_if_fits bracket.List e ls bs ts p
close_fits bracket.Map e ls (bracket.Map ∷ bs) ts p = close_if_fits bracket.Map e ls bs ts p
close_fits _ e ls _ ts p = absurd p

comma_fits : (e : Expects) (ls : List Level) (bs : List Bracket) (ts : List Token) → Changed (change_of token.Comma e (head_of ls) (head_of bs)) (nest_at e ls bs) ts
    → LeftAt e ls bs (token.Comma ∷ ts)
comma_fits e ls [] ts p = absurd p
comma_fits expects.Nothing ls (k ∷ bs) ts (both i b) = goes_on i b
comma_fits _ ls (k ∷ bs) ts p = absurd p

pub documents_of : (ts : List Token) → Waiting [] [] ts → IsDocuments ts
documents_of ts (both n all_closed) = last_document n
documents_of ts (both n (before_marker d)) = more_documents n d

all_end : (ls : List Level) (ts : List Token) → AfterBlock [] ts → AfterBlock ls ts
all_end [] ts b = b
all_end (lev.Map c ∷ ls) ts b = in_map no_key (all_end ls ts b)
all_end (lev.Sequence c ∷ ls) ts b = in_sequence no_item (all_end ls ts b)

marker_fits : (e : Expects) (ls : List Level) (bs : List Bracket) (ts : List Token) → Changed (change_of token.Marker e (head_of ls) (head_of bs)) (nest_at e ls bs) ts
    → LeftAt e ls bs (token.Marker ∷ ts)
marker_fits e ls [] ts p = null_value e ls (token.Marker ∷ ts) (all_end ls (token.Marker ∷ ts) (before_marker (documents_of ts p)))
marker_fits e ls (k ∷ bs) ts p = absurd p

-- ---- all of them

taken_at : (t : Token) (e : Expects) (ls : List Level) (bs : List Bracket) (ts : List Token) → Fits (taken t (nest_at e ls bs)) ts → LeftAt e ls bs (t ∷ ts)
taken_at (token.Item c) e ls bs ts p = item_at_fits c e ls bs ts p
taken_at (token.Key c) e ls bs ts p = key_at_fits c e ls bs ts p
taken_at (token.Scalar c) e ls bs ts p = scalar_fits c e ls bs ts p
taken_at (token.Open own c) e ls bs ts p = opened_fits own c e ls bs ts p
taken_at (token.Close own) e ls bs ts p = close_fits own e ls bs ts p
taken_at token.Comma e ls bs ts p = comma_fits e ls bs ts p
taken_at token.Marker e ls bs ts p = marker_fits e ls bs ts p

taken_fits : (t : Token) (n : Nest) (ts : List Token) → Fits (taken t n) ts → Left n (t ∷ ts)
taken_fits t n ts p = taken_at t n.awaited n.levels n.brackets ts p

-- one level less
one_ends : (l : Level) (ls : List Level) (ts : List Token) → AfterBlock ls ts → AfterBlock (l ∷ ls) ts
one_ends (lev.Map c) ls ts b = in_map no_key b
one_ends (lev.Sequence c) ls ts b = in_sequence no_item b

unwound_fits : (ls : List Level) (c : ℕ) (is_item : Bool) (e : Expects) (ts : List Token) → Left (unwound_from c is_item e ls []) ts → LeftAt e ls [] ts
unfolding unwound_from
unwound_fits [] c is_item e ts p = p
unwound_fits (l ∷ ls) c is_item e ts p = by_test (is_over l c is_item) (λ q. unwound_fits ls c is_item expects.Nothing ts q) p
  where
    by_test : (t : Bool) → (Left (unwound_from c is_item expects.Nothing ls []) ts → AfterValue ls [] ts)
        → Left (cond t (unwound_from c is_item expects.Nothing ls []) (nest_at e (l ∷ ls) [])) ts → LeftAt e (l ∷ ls) [] ts
    by_test true less_one p = null_value e (l ∷ ls) ts (one_ends l ls ts (block_of ls ts (less_one p)))
    by_test false less_one p = p

settled_fits : (t : Bool) (c : ℕ) (is_item : Bool) (e : Expects) (ls : List Level) (ts : List Token)
    → Left (cond t (nest_at e ls []) (unwound_from c is_item e ls [])) ts → LeftAt e ls [] ts
settled_fits true c is_item e ls ts p = p
settled_fits false c is_item e ls ts p = unwound_fits ls c is_item e ts p

if_fits : (t : Bool) (n : Nest) (ts : List Token) → Fits (cond t (Some n) None) ts → Left n ts
if_fits true n ts p = p
if_fits false n ts p = absurd p

begun_fits : (c : ℕ) (is_item : Bool) (e : Expects) (ls : List Level) (bs : List Bracket) (ts : List Token) → Fits (begun c is_item (nest_at e ls bs)) ts → LeftAt e ls bs ts
begun_fits c is_item e ls [] ts p =
    let n = settled c is_item (nest_at e ls []) in
    settled_fits (holds c e (head_of ls)) c is_item e ls ts (if_fits (may_begin c is_item n.awaited (head_of n.levels)) n ts p)
begun_fits c is_item e ls (k ∷ bs) ts p = absurd p

taken_item_fits : (c : ℕ) (e : Expects) (ls : List Level) (bs : List Bracket) (ts : List Token) → Fits (taken_item c (nest_at e ls bs)) ts → LeftAt e ls bs (token.Item c ∷ ts)
taken_item_fits c e ls [] ts p = settled_fits (holds c e (head_of ls)) c true e ls (token.Item c ∷ ts) (taken_fits (token.Item c) (settled c true (nest_at e ls [])) ts p)
taken_item_fits c e ls (k ∷ bs) ts p = absurd p

-- the tokens of what a byte says
abbrev pub tokens_of : Event → List Token
tokens_of (event.Item c) = token.Item c ∷ []
tokens_of (event.One t) = t ∷ []
tokens_of (event.Two t u) = t ∷ u ∷ []
tokens_of _ = []

two_fits : (t u : Token) (m : Option Nest) (ts : List Token) → Fits (option_and_then (λ n. taken u n) m) ts → Fits m (u ∷ ts)
two_fits t u None ts p = p
two_fits t u (Some n) ts p = taken_fits u n ts p

enter_fits : (t : Bool) (n : Nest) (ts : List Token) → Fits (cond t None (Some n)) ts → Left n ts
enter_fits true n ts p = absurd p
enter_fits false n ts p = p

pub happened_fits : (e : Event) (n : Nest) (ts : List Token) → Fits (happened e n) ts → Left n (tokens_of e ++ ts)
happened_fits event.Nothing n ts p = p
happened_fits (event.Begin c) n ts p = begun_fits c false n.awaited n.levels n.brackets ts p
happened_fits (event.Dash c) n ts p = begun_fits c true n.awaited n.levels n.brackets ts p
happened_fits event.Enter n ts p = enter_fits (is_nothing n.awaited) n ts p
happened_fits (event.Item c) n ts p = taken_item_fits c n.awaited n.levels n.brackets ts p
happened_fits (event.One t) n ts p = taken_fits t n ts p
happened_fits (event.Two t u) n ts p = taken_fits t n (u ∷ ts) (two_fits t u (taken t n) ts p)

-- at the end of a text
pub left_end : (n : Nest) → head_of n.brackets ≡ None → Left n []
left_end n h = by_brackets n.awaited n.levels n.brackets h
  where
    by_brackets : (e : Expects) (ls : List Level) (bs : List Bracket) → head_of bs ≡ None → LeftAt e ls bs []
    by_brackets e ls [] h = null_value e ls [] (all_end ls [] all_closed)
    by_brackets e ls (k ∷ bs) h = cc
