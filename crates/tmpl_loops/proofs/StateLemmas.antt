-- For the law `copies`: the variables of a copy loop between turns and in one, by their names.
use Rattle.std.proofs.Common.{◌≡◌, ◌∙◌, ◌-◌, ◌+◌, ◌++◌, ◌||◌, ℕ, suc, Bool, false, List, [], ◌∷◌, length, drop, Option, Some, None, refl, sym, ap, pos, append_assoc, length-append}
use Rattle.tmpl_values.specs.Value.{Value, boolean, number, string}
use Rattle.tmpl_meaning.specs.Meaning.{assign_variable}
use Rattle.tmpl_meaning.specs.Pipeline.{Environment, lookup}
use Rattle.tmpl_loops.specs.Form.{AreApart, Loop, Names, byte_as, byte_variable, has_name, is_byte_name}
use Rattle.tmpl_loops.proofs.EnvLemmas.{assign-here, assign-past, assign-skip, cut-back, here, past, skip}

module _ (c : Loop) (constants : Environment) (bytes : List ℕ) (given : Value) (apart : AreApart c constants) where
  abbrev n : Names
  n = c.names

  abbrev behind_from : Environment
  behind_from = (n.text, string bytes) ∷ ([], given) ∷ []

  abbrev behind_new : ℕ → Environment
  behind_new f = (n.from, number (pos f)) ∷ behind_from

  abbrev base_state : Bool → ℕ → Environment
  base_state new f = (n.new, boolean new) ∷ (n.from, number (pos f)) ∷ (n.text, string bytes) ∷ ([], given) ∷ []

  -- the variables before and after a turn, in it, and in it after `$byte`
  abbrev pub state : Bool → ℕ → Environment
  state new f = constants ++ base_state new f

  abbrev pub in_turn : ℕ → Bool → ℕ → Environment
  in_turn i new f = (n.index, number (pos i)) ∷ state new f

  abbrev pub at_byte : ℕ → ℕ → Bool → ℕ → Environment
  at_byte b i new f = byte_variable n b ++ in_turn i new f

  -- ---- how many they are

  pub long-state : (new other : Bool) (f g : ℕ) → length (state new f) ≡ length (state other g)
  long-state new other f g = length-append constants (base_state new f) ∙ sym (length-append constants (base_state other g))

  pub long-at : (b i : ℕ) (new other : Bool) (f g : ℕ) → length (at_byte b i new f) ≡ length (at_byte b i other g)
  long-at b i new other f g =
      length-append (byte_variable n b) (in_turn i new f) ∙ ap (λ k. length (byte_variable n b) + suc k) (long-state new other f g)
      ∙ sym (length-append (byte_variable n b) (in_turn i other g))

  pub cut-at : (b i : ℕ) (new other : Bool) (f g : ℕ) → drop (length (at_byte b i new f) - length (at_byte b i other g)) (at_byte b i new f) ≡ at_byte b i new f
  cut-at b i new other f g = cut-back [] (at_byte b i new f) (at_byte b i other g) (long-at b i new other f g)

  pub cut-state : (new other : Bool) (f g : ℕ) → drop (length (state new f) - length (state other g)) (state new f) ≡ state new f
  cut-state new other f g = cut-back [] (state new f) (state other g) (long-state new other f g)

  pub cut-turn : (b i : ℕ) (new other : Bool) (f g : ℕ) → drop (length (at_byte b i new f) - length (state other g)) (at_byte b i new f) ≡ state new f
  cut-turn b i new other f g =
      let place : Environment = (n.index, number (pos i)) ∷ [] in
      ap (λ (e : Environment). drop (length e - length (state other g)) e) (sym (append_assoc (byte_variable n b) place (state new f)))
      ∙ cut-back (byte_variable n b ++ place) (state new f) (state other g) (long-state new other f g)

  -- ---- what they are

  pub text-state : (new : Bool) (f : ℕ) → lookup n.text (state new f) ≡ string bytes
  text-state new f = skip n.text constants (base_state new f) apart.text.constant ∙ past n.text n.new (boolean new) (behind_new f) apart.new_text
      ∙ past n.text n.from (number (pos f)) behind_from apart.from_text ∙ here n.text (string bytes) (([], given) ∷ [])

  pub from-state : (new : Bool) (f : ℕ) → lookup n.from (state new f) ≡ number (pos f)
  from-state new f = skip n.from constants (base_state new f) apart.from.constant ∙ past n.from n.new (boolean new) (behind_new f) apart.new_from
      ∙ here n.from (number (pos f)) ((n.text, string bytes) ∷ ([], given) ∷ [])

  pub new-state : (new : Bool) (f : ℕ) → lookup n.new (state new f) ≡ boolean new
  new-state new f = skip n.new constants (base_state new f) apart.new.constant
      ∙ here n.new (boolean new) ((n.from, number (pos f)) ∷ (n.text, string bytes) ∷ ([], given) ∷ [])

  pub text-turn : (i : ℕ) (new : Bool) (f : ℕ) → lookup n.text (in_turn i new f) ≡ string bytes
  text-turn i new f = past n.text n.index (number (pos i)) (state new f) apart.index_text ∙ text-state new f

  pub index-turn : (i : ℕ) (new : Bool) (f : ℕ) → lookup n.index (in_turn i new f) ≡ number (pos i)
  index-turn i new f = here n.index (number (pos i)) (state new f)

  pub other-byte : (b : ℕ) (name : List ℕ) → is_byte_name n.byte name ≡ false → has_name name (byte_variable n b) ≡ false
  other-byte b name e = by n.byte e
    where
      by : (o : Option (List ℕ)) → is_byte_name o name ≡ false → has_name name (byte_as b o) ≡ false
      by None e = refl
      by (Some m) e = ap (λ x. x || false) e

  pub text-at : (b i : ℕ) (new : Bool) (f : ℕ) → lookup n.text (at_byte b i new f) ≡ string bytes
  text-at b i new f = skip n.text (byte_variable n b) (in_turn i new f) (other-byte b n.text apart.text.byte) ∙ text-turn i new f

  pub from-at : (b i : ℕ) (new : Bool) (f : ℕ) → lookup n.from (at_byte b i new f) ≡ number (pos f)
  from-at b i new f = skip n.from (byte_variable n b) (in_turn i new f) (other-byte b n.from apart.from.byte)
      ∙ past n.from n.index (number (pos i)) (state new f) apart.index_from ∙ from-state new f

  pub new-at : (b i : ℕ) (new : Bool) (f : ℕ) → lookup n.new (at_byte b i new f) ≡ boolean new
  new-at b i new f = skip n.new (byte_variable n b) (in_turn i new f) (other-byte b n.new apart.new.byte)
      ∙ past n.new n.index (number (pos i)) (state new f) apart.index_new ∙ new-state new f

  pub index-at : (b i : ℕ) (new : Bool) (f : ℕ) → lookup n.index (at_byte b i new f) ≡ number (pos i)
  index-at b i new f = skip n.index (byte_variable n b) (in_turn i new f) (other-byte b n.index apart.index.byte) ∙ index-turn i new f

  -- ---- what is assigned to them

  pub assign-new : (b i : ℕ) (new x : Bool) (f : ℕ) → assign_variable n.new (boolean x) (at_byte b i new f) ≡ at_byte b i x f
  assign-new b i new x f =
      assign-skip n.new (boolean x) (byte_variable n b) (in_turn i new f) (other-byte b n.new apart.new.byte)
      ∙ ap (λ (e : Environment). byte_variable n b ++ e) (assign-past n.new n.index (boolean x) (number (pos i)) (state new f) apart.index_new
      ∙ ap (λ (e : Environment). (n.index, number (pos i)) ∷ e) (assign-skip n.new (boolean x) constants (base_state new f) apart.new.constant
      ∙ ap (λ (e : Environment). constants ++ e) (assign-here n.new (boolean x) (boolean new) (behind_new f))))

  pub assign-from : (b i : ℕ) (new : Bool) (f g : ℕ) → assign_variable n.from (number (pos g)) (at_byte b i new f) ≡ at_byte b i new g
  assign-from b i new f g =
      let x = number (pos g) in
      assign-skip n.from x (byte_variable n b) (in_turn i new f) (other-byte b n.from apart.from.byte)
      ∙ ap (λ (e : Environment). byte_variable n b ++ e) (assign-past n.from n.index x (number (pos i)) (state new f) apart.index_from
      ∙ ap (λ (e : Environment). (n.index, number (pos i)) ∷ e) (assign-skip n.from x constants (base_state new f) apart.from.constant
      ∙ ap (λ (e : Environment). constants ++ e) (assign-past n.from n.new x (boolean new) (behind_new f) apart.new_from
      ∙ ap (λ (e : Environment). (n.new, boolean new) ∷ e) (assign-here n.from x (number (pos f)) behind_from))))
