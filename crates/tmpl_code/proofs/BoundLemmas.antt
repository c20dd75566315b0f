-- For `bound_of` and `Program::cells`: how many cells are enough for every chain of calls.
use Rattle.std.proofs.Common.{arith, ◌≡◌, ◌∙◌, Bool, nat_lt, not, ◌||◌, ◌+◌, ◌*◌, ◌≤◌, ◌<◌, inl, inr, ℕ, zero, suc, true, false, List, [], ◌∷◌, length, get_or, map, refl, ap}
use Rattle.std.proofs.Common.{sym, subst, Option, Some, None}
use Rattle.std.specs.Prelude.{slice_get}
use Rattle.std.proofs.Math.Bool.{or-true}
use Rattle.std.proofs.lemmas.Bool.{ltb-false, ltb-true, or_parts}
use Rattle.std.proofs.Math.Nat.{mul-le-mul_left, mul-le-mul_right, suc-mul}
use Rattle.tmpl_syntax.specs.Tree as tree
use Rattle.tmpl_syntax.specs.Tree.{NodeKind, Nodes, control_node, template_node}
use Rattle.tmpl_syntax.specs.Need.{need}
use Rattle.tmpl_syntax.specs.Set.{Template, number_of}
use Rattle.tmpl_syntax.proofs.NamedLemmas.{Named, numbered}
use Rattle.tmpl_code.specs.Calls.{Calls, IsChain, NodeNames, NodesName}
use Rattle.tmpl_code.specs.Room.{Suffices, largest_need, need_at, need_found, needs_along, room}
use Rattle.tmpl_code.specs.computed.Weights.{AreEnough, Hold, IsBound, heaviest_of_node, heaviest_of_nodes, node_calls, nodes_call, set_calls, weight_found}

-- ---- a set in which none calls one

module _ (name : List ℕ) where
  mutual
    pub node-called : (n : NodeKind) → NodeNames name n → node_calls n ≡ true
    node-called (control_node c a body other) (inl h) = ap (λ b. b || nodes_call other) (nodes-called body h)
    node-called (control_node c a body other) (inr h) = ap (λ b. nodes_call body || b) (nodes-called other h) ∙ or-true (nodes_call body)
    node-called (template_node called given) h = refl
    node-called _ h = absurd h

    pub nodes-called : (ns : Nodes) → NodesName name ns → nodes_call ns ≡ true
    nodes-called tree.none h = absurd h
    nodes-called (tree.then line n ns) (inl h) = ap (λ b. b || nodes_call ns) (node-called n h)
    nodes-called (tree.then line n ns) (inr h) = ap (λ b. node_calls n || b) (nodes-called ns h) ∙ or-true (node_calls n)

no-call : (ts : List Template) (i : ℕ) (t : Template) (name : List ℕ) → set_calls ts ≡ false → slice_get ts i ≡ Some t → NodesName name t.1.nodes → ⊥
no-call [] i t name none at h = cc
no-call (u ∷ ts) zero t name none at h =
    let same : u ≡ t = cc in
    let called : nodes_call u.1.nodes ≡ true = ap (λ (v : Template). nodes_call v.1.nodes) same ∙ nodes-called name t.1.nodes h in
    let both : true ≡ false = sym (ap (λ b. b || set_calls ts) called) ∙ none in
    cc
no-call (u ∷ ts) (suc i) t name none at h = no-call ts i t name (or_parts (nodes_call u.1.nodes) (set_calls ts) none).1 at h

-- ---- the room of a set

need-below : (ts : List Template) (i : ℕ) → need_at ts i ≤ largest_need ts
need-below [] i = omega arith
need-below (u ∷ ts) zero = omega arith
need-below (u ∷ ts) (suc i) = let more = need-below ts i in omega arith

along-room : (ts : List Template) (first : ℕ) (rest : List ℕ) → needs_along ts first rest ≤ suc (length rest) * largest_need ts
along-room ts first [] = let one = need-below ts first in let sum = suc-mul 0 (largest_need ts) in omega arith
along-room ts first (j ∷ more) =
    let one = need-below ts first in
    let rest = along-room ts j more in
    let sum = suc-mul (suc (length more)) (largest_need ts) in
    omega arith

pub room_suffices : (ts : List Template) (depth first : ℕ) → Suffices depth ts first (room depth ts)
room_suffices ts depth first rest chain short =
    let all = along-room ts first rest in
    let more : suc (length rest) * largest_need ts ≤ depth * largest_need ts = mul-le-mul_right (largest_need ts) (omega arith) in
    omega arith

-- what a template needs stands at its number
need-here : (ts : List Template) (needs : List ℕ) (first : ℕ) → needs ≡ map (λ (t : Template). need t.1) ts → need_at ts first ≤ get_or needs first 0
need-here ts needs first is = subst (λ ns. need_at ts first ≤ get_or ns first 0) (sym is) (by ts first)
  where
    by : (ts : List Template) (first : ℕ) → need_at ts first ≤ get_or (map (λ (t : Template). need t.1) ts) first 0
    by [] first = omega arith
    by (t ∷ ts) zero = omega arith
    by (t ∷ ts) (suc first) = by ts first

pub most-is-bound : (ts : List Template) → IsBound ts 0 (largest_need ts)
most-is-bound ts depth first rest chain short = let all = room_suffices ts depth first rest chain short in omega arith

pub none-is-bound : (ts : List Template) → set_calls ts ≡ false → IsBound ts (largest_need ts) 0
none-is-bound ts none depth first [] chain short = let one = need-below ts first in omega arith
none-is-bound ts none depth first (j ∷ more) chain short =
    absurd (no-call ts first chain.0.caller chain.0.name none chain.0.at chain.0.named)

-- ---- weights

module _ (ts : List Template) (weights : List ℕ) where
  mutual
    node-heavy : (n : NodeKind) (name : List ℕ) (j : ℕ) → NodeNames name n → number_of name ts ≡ Some j → get_or weights j 0 ≤ heaviest_of_node ts weights n
    node-heavy (control_node c a body other) name j (inl h) e = let part = nodes-heavy body name j h e in omega arith
    node-heavy (control_node c a body other) name j (inr h) e = let part = nodes-heavy other name j h e in omega arith
    node-heavy (template_node called given) name j h e =
        let found : weight_found weights (number_of called ts) ≡ get_or weights j 0 = ap (weight_found weights) (ap (λ n. number_of n ts) (sym h) ∙ e) in
        omega arith
    node-heavy _ name j h e = absurd h

    nodes-heavy : (ns : Nodes) (name : List ℕ) (j : ℕ) → NodesName name ns → number_of name ts ≡ Some j → get_or weights j 0 ≤ heaviest_of_nodes ts weights ns
    nodes-heavy tree.none name j h e = absurd h
    nodes-heavy (tree.then line n ns) name j (inl h) e = let part = node-heavy n name j h e in omega arith
    nodes-heavy (tree.then line n ns) name j (inr h) e = let part = nodes-heavy ns name j h e in omega arith

module _ (ts : List Template) (weights allowances : List ℕ) (fixed each : ℕ) (hold : Hold ts weights allowances fixed each) where
  along : (rest : List ℕ) (first : ℕ) (t : Template) → slice_get ts first ≡ Some t → IsChain ts first rest
      → needs_along ts first rest ≤ get_or weights first 0 + suc (length rest) * get_or allowances first 0
  along [] first t at chain =
      let pays = (hold first t at).pays in
      let mine : need_at ts first ≡ need t.1 = ap need_found at in
      let sum = suc-mul 0 (get_or allowances first 0) in
      omega arith
  along (j ∷ more) first t at chain =
      let call : Calls ts first j = chain.0 in
      let both : Some call.caller ≡ Some t = sym call.at ∙ at in
      let same : call.caller ≡ t = cc in
      let named : NodesName call.name t.1.nodes = subst (λ (v : Template). NodesName call.name v.1.nodes) same call.named in
      let heavy = nodes-heavy ts weights t.1.nodes call.name j named call.number in
      let lasting = nodes-heavy ts allowances t.1.nodes call.name j named call.number in
      let next : Named call.name ts j = numbered call.name ts j call.number in
      let rest = along more j next.t next.at chain.1 in
      let mine : need_at ts first ≡ need t.1 = ap need_found at in
      let pays = (hold first t at).pays in
      let lasts = (hold first t at).lasts in
      let fewer : suc (length more) * get_or allowances j 0 ≤ suc (length more) * get_or allowances first 0 =
      mul-le-mul_left (suc (length more)) (omega arith) in
      let sum = suc-mul (suc (length more)) (get_or allowances first 0) in
      omega arith

  -- of a template that is not there there is no chain
  pub claims-are-enough : AreEnough ts weights allowances
  claims-are-enough depth first rest chain short = by (slice_get ts first) refl rest chain short
    where
      by : (o : Option Template) → slice_get ts first ≡ o → (rest : List ℕ) → IsChain ts first rest → length rest < depth
          → needs_along ts first rest ≤ get_or weights first 0 + depth * get_or allowances first 0
      by None e [] chain short = let none : need_at ts first ≡ 0 = ap need_found e in omega arith
      by None e (j ∷ more) chain short = let call : Calls ts first j = chain.0 in let both : None ≡ Some call.caller = sym e ∙ call.at in cc
      by (Some t) e rest chain short =
          let all = along rest first t e chain in
          let more : suc (length rest) * get_or allowances first 0 ≤ depth * get_or allowances first 0 =
          mul-le-mul_right (get_or allowances first 0) (omega arith) in
          omega arith

  pub held-is-bound : IsBound ts fixed each
  held-is-bound depth first rest chain short = by (slice_get ts first) refl (claims-are-enough depth first rest chain short)
    where
      by : (o : Option Template) → slice_get ts first ≡ o → needs_along ts first rest ≤ get_or weights first 0 + depth * get_or allowances first 0
          → needs_along ts first rest ≤ fixed + depth * each
      by None e all = none rest chain e
        where
          none : (rest : List ℕ) → IsChain ts first rest → slice_get ts first ≡ None → needs_along ts first rest ≤ fixed + depth * each
          none [] chain e = let none : need_at ts first ≡ 0 = ap need_found e in omega arith
          none (j ∷ more) chain e = let call : Calls ts first j = chain.0 in let both : None ≡ Some call.caller = sym e ∙ call.at in cc
      by (Some t) e all =
          let most = (hold first t e).most in
          let more : depth * get_or allowances first 0 ≤ depth * each = mul-le-mul_left depth (hold first t e).greatest in
          omega arith

-- where no template calls one, what each needs is enough for it
pub needs-are-enough : (ts : List Template) (needs extra : List ℕ) → set_calls ts ≡ false → needs ≡ map (λ (t : Template). need t.1) ts
    → AreEnough ts needs extra
needs-are-enough ts needs extra none is depth first [] chain short = let one = need-here ts needs first is in omega arith
needs-are-enough ts needs extra none is depth first (j ∷ more) chain short =
    absurd (no-call ts first chain.0.caller chain.0.name none chain.0.at chain.0.named)

-- ---- tests

pub is-not : (b : Bool) → not b ≡ true → b ≡ false
is-not true e = cc
is-not false e = refl

-- what holds of each below a number, and of the one there
pub each-more : {A : Type 0} (P : ℕ → A → Type 0) (xs : List A) (n : ℕ) → ((x : A) → slice_get xs n ≡ Some x → P n x)
    → ((k : ℕ) (x : A) → k < n → slice_get xs k ≡ Some x → P k x) → (k : ℕ) (x : A) → k < n + 1 → slice_get xs k ≡ Some x → P k x
each-more {A} P xs n here below k x within at = by (nat_lt k n) refl
  where
    by : (b : Bool) → nat_lt k n ≡ b → P k x
    by true e = below k x (ltb-true k n e) at
    by false e =
        let over = ltb-false k n e in
        let same : n ≡ k = omega arith in
        subst (λ m. P m x) same (here x (subst (λ m. slice_get xs m ≡ Some x) (sym same) at))

pub ruleset bounds = (none-is-bound, most-is-bound)
