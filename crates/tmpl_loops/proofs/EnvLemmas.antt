-- For the law `copies`: variables by their names, behind others that have other names.
use Rattle.std.proofs.Common.{◌≡◌, ◌∙◌, ◌-◌, ◌++◌, ◌||◌, ℕ, Bool, true, false, List, [], ◌∷◌, length, drop, Some, refl, sym, ap, arith, length-append, if◌then◌else◌}
use Rattle.std.proofs.Math.Seq.{drop-append_seam}
use Rattle.std.proofs.lemmas.Bool.{false≢true}
use Rattle.std.proofs.lemmas.Slice.Eq.{bytes_eq-Decides}
use Rattle.std.specs.List.{find}
use Rattle.std.specs.Option.{option_map_or}
use Rattle.std.specs.Str.{bytes_eq}
use Rattle.tmpl_values.specs.Value.{Value, nothing}
use Rattle.tmpl_meaning.specs.Meaning.{assign_variable}
use Rattle.tmpl_meaning.specs.Pipeline.{Environment, lookup}
use Rattle.tmpl_loops.specs.Form.{has_name}

pub same-name : (n : List ℕ) → bytes_eq n n ≡ true
same-name n = (bytes_eq-Decides n n).1 refl

neither : (a b : Bool) → (a || b) ≡ false → (a ≡ false) × (b ≡ false)
neither false b e = (refl, e)
neither true b e = absurd (false≢true (sym e))

abbrev looked : Bool → Value → Value → Value
looked c v rest = if c then v else rest

lookup-cons : (n : List ℕ) (v : List ℕ × Value) (env : Environment) → lookup n (v ∷ env) ≡ looked (bytes_eq v.0 n) v.1 (lookup n env)
lookup-cons n v env = by (bytes_eq v.0 n)
  where
    by : (c : Bool) → option_map_or (λ v. v.1) (if c then Some v else find (λ v. bytes_eq v.0 n) env) nothing ≡ looked c v.1 (lookup n env)
    by true = refl
    by false = refl

pub here : (n : List ℕ) (v : Value) (env : Environment) → lookup n ((n, v) ∷ env) ≡ v
here n v env = lookup-cons n (n, v) env ∙ ap (λ c. looked c v (lookup n env)) (same-name n)

pub past : (n m : List ℕ) (v : Value) (env : Environment) → bytes_eq m n ≡ false → lookup n ((m, v) ∷ env) ≡ lookup n env
past n m v env e = lookup-cons n (m, v) env ∙ ap (λ c. looked c v (lookup n env)) e

pub skip : (n : List ℕ) (front env : Environment) → has_name n front ≡ false → lookup n (front ++ env) ≡ lookup n env
skip n [] env e = refl
skip n (v ∷ front) env e =
    let p = neither (bytes_eq v.0 n) (has_name n front) e in past n v.0 v.1 (front ++ env) p.0 ∙ skip n front env p.1

pub found : (n : List ℕ) (front env other : Environment) → has_name n front ≡ true → lookup n (front ++ env) ≡ lookup n (front ++ other)
found n [] env other e = absurd (false≢true e)
found n (v ∷ front) env other e =
    lookup-cons n v (front ++ env) ∙ by (bytes_eq v.0 n) e (found n front env other) ∙ sym (lookup-cons n v (front ++ other))
  where
    by : (c : Bool) → (c || has_name n front) ≡ true → (has_name n front ≡ true → lookup n (front ++ env) ≡ lookup n (front ++ other))
        → looked c v.1 (lookup n (front ++ env)) ≡ looked c v.1 (lookup n (front ++ other))
    by true e h = refl
    by false e h = h e

abbrev assigned : Bool → List ℕ × Value → Value → Environment → Environment → Environment
assigned c v x env rest = if c then (v.0, x) ∷ env else v ∷ rest

pub assign-here : (n : List ℕ) (x v : Value) (env : Environment) → assign_variable n x ((n, v) ∷ env) ≡ (n, x) ∷ env
assign-here n x v env = ap (λ c. assigned c (n, v) x env (assign_variable n x env)) (same-name n)

pub assign-past : (n m : List ℕ) (x v : Value) (env : Environment) → bytes_eq m n ≡ false
    → assign_variable n x ((m, v) ∷ env) ≡ (m, v) ∷ assign_variable n x env
assign-past n m x v env e = ap (λ c. assigned c (m, v) x env (assign_variable n x env)) e

pub assign-skip : (n : List ℕ) (x : Value) (front env : Environment) → has_name n front ≡ false
    → assign_variable n x (front ++ env) ≡ front ++ assign_variable n x env
assign-skip n x [] env e = refl
assign-skip n x (v ∷ front) env e =
    let p = neither (bytes_eq v.0 n) (has_name n front) e in
    assign-past n v.0 x v.1 (front ++ env) p.0 ∙ ap (λ env. v ∷ env) (assign-skip n x front env p.1)

-- the oldest, as many as there were
pub cut-back : (front rest old : Environment) → length rest ≡ length old → drop (length (front ++ rest) - length old) (front ++ rest) ≡ rest
cut-back front rest old e =
    let h : length (front ++ rest) - length old ≡ length front = let g = length-append front rest in omega (arith, g, e) in
    ap (λ k. drop k (front ++ rest)) h ∙ drop-append_seam front rest

pub later-named : (n : List ℕ) (front env : Environment) → has_name n (front ++ env) ≡ true → has_name n front ≡ false → has_name n env ≡ true
later-named n [] env e none = e
later-named n (v ∷ front) env e none =
    let p = neither (bytes_eq v.0 n) (has_name n front) none in
    later-named n front env (ap (λ c. c || has_name n (front ++ env)) (sym p.0) ∙ e) p.1

pub not-named : (n m : List ℕ) (env : Environment) → has_name m env ≡ false → has_name n env ≡ true → bytes_eq m n ≡ false
not-named n m env none e = by (bytes_eq m n) refl
  where
    by : (c : Bool) → bytes_eq m n ≡ c → bytes_eq m n ≡ false
    by false is = is
    by true is =
        let same : m ≡ n = (bytes_eq-Decides m n).0 is in absurd (false≢true (sym none ∙ ap (λ m. has_name m env) same ∙ e))
