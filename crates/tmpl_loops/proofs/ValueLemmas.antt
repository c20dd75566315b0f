-- For the law `copies`: the values of pipelines in a copy loop.
use Rattle.std.proofs.Common.{◌≡◌, ◌∙◌, ◌++◌, ℕ, Bool, true, false, List, [], ◌∷◌, Option, Some, None, Ok, refl, sym, subst, ap, pos}
use Rattle.std.specs.Prelude.{slice_get, option_map, ok_or}
use Rattle.std.specs.Result.{result_map_both}
use Rattle.tmpl_values.specs.Stage.{and_then}
use Rattle.tmpl_values.specs.Value.{Value, nothing, number, string}
use Rattle.tmpl_funcs.specs.Dispatch.{table_answer}
use Rattle.tmpl_funcs.specs.Func.{makes_text}
use Rattle.tmpl_funcs.specs.Index.{indexed_by}
use Rattle.tmpl_funcs.specs.declared.func.Func.{Func}
use Rattle.tmpl_funcs.specs.declared.func.Func.TheVariants.{Index}
use Rattle.tmpl_funcs.specs.declared.fault.CallFault.TheVariants.{OutOfRange}
use Rattle.tmpl_grammar.specs.Tree.{Pipeline, function, no_command}
use Rattle.tmpl_meaning.specs.Fault.{call_failed}
use Rattle.tmpl_meaning.specs.Pipeline.{Environment, Given, Place, commands_value, given_then, lookup, without_null}
use Rattle.tmpl_meaning.specs.declared.missing_key.MissingKey.{MissingKey}
use Rattle.tmpl_meaning.specs.declared.missing_key.MissingKey.TheVariants.{Zero}
use Rattle.tmpl_loops.specs.Form.{AreApart, Loop, Names, alone, byte_variable, has_name, indexing, is_indexing, value_at}
use Rattle.tmpl_loops.proofs.TestLemmas.{indexing-is}
use Rattle.tmpl_loops.proofs.ByteLemmas.{value-same}
use Rattle.tmpl_loops.proofs.EnvLemmas.{found, here, later-named, not-named, past, skip}
use Rattle.tmpl_loops.proofs.StateLemmas as st

-- a function called with these values, alone in a pipeline
abbrev pub applied : Place → Func → List Value → Given Value
applied p f vs = given_then (record { result = result_map_both (λ v. v) (call_failed f) (table_answer f vs); made_text = makes_text f })
    (λ v. commands_value p no_command (Some (without_null v)))

-- ---- the byte

abbrev byte_given : Place → Option ℕ → Given Value
byte_given p o = given_then (record {
  result = result_map_both (λ v. v) (call_failed Index) (and_then (ok_or (option_map (λ b. number (pos b)) o) OutOfRange) (λ w. indexed_by w []));
  made_text = false;
}) (λ v. commands_value p no_command (Some (without_null v)))

abbrev the_byte : ℕ → Given Value
the_byte b = record { result = Ok (number (pos b)); made_text = false }

pub indexing-value : (n : Names) (p : Place) (text : List ℕ) (i b : ℕ) → lookup n.text p.env ≡ string text → lookup n.index p.env ≡ number (pos i)
    → slice_get text i ≡ Some b → commands_value p (indexing n) None ≡ the_byte b
indexing-value n p text i b is_text is_index there =
    (λ j. applied p Index (is_text j ∷ is_index j ∷ [])) ∙ ap (byte_given p) there

module _ (c : Loop) (constants : Environment) (bytes : List ℕ) (given : Value) (apart : AreApart c constants) where
  abbrev n : Names
  n = c.names

  abbrev last_two : ℕ → Environment
  last_two b = (n.index, number (pos 0)) ∷ (n.text, string (b ∷ [])) ∷ []

  module _ (mode : MissingKey) (d : Value) (b i : ℕ) (new : Bool) (f : ℕ) (there : slice_get bytes i ≡ Some b) where
    abbrev behind : Environment
    behind = st.in_turn c constants bytes given apart i new f

    abbrev env : Environment
    env = byte_variable n b ++ behind

    abbrev far : Place
    far = record { missing_key = mode; dot = d; env = env }

    abbrev near : Place
    near = record { missing_key = Zero; dot = nothing; env = alone n constants b }

    agree : (name : List ℕ) → has_name name (byte_variable n b ++ constants) ≡ true → lookup name env ≡ lookup name (alone n constants b)
    agree name e = by (has_name name (byte_variable n b)) refl
      where
        by : (x : Bool) → has_name name (byte_variable n b) ≡ x → lookup name env ≡ lookup name (alone n constants b)
        by true is = found name (byte_variable n b) behind (constants ++ last_two b) is
        by false is =
            let h = later-named name (byte_variable n b) constants e is in
            skip name (byte_variable n b) behind is ∙ past name n.index (number (pos i)) (st.state c constants bytes given apart new f) (not-named name n.index constants apart.index.constant h)
            ∙ found name constants _ (last_two b) h ∙ sym (skip name (byte_variable n b) (constants ++ last_two b) is)

    index-alone : lookup n.index (alone n constants b) ≡ number (pos 0)
    index-alone = skip n.index (byte_variable n b) (constants ++ last_two b) (st.other-byte c constants bytes given apart b n.index apart.index.byte)
        ∙ skip n.index constants (last_two b) apart.index.constant ∙ here n.index (number (pos 0)) ((n.text, string (b ∷ [])) ∷ [])

    text-alone : lookup n.text (alone n constants b) ≡ string (b ∷ [])
    text-alone = skip n.text (byte_variable n b) (constants ++ last_two b) (st.other-byte c constants bytes given apart b n.text apart.text.byte)
        ∙ skip n.text constants (last_two b) apart.text.constant ∙ past n.text n.index (number (pos 0)) ((n.text, string (b ∷ [])) ∷ []) apart.index_text
        ∙ here n.text (string (b ∷ [])) []

    agree-byte : (p : Pipeline) → is_indexing n p ≡ true → commands_value far p None ≡ commands_value near p None
    agree-byte p e =
        subst (λ (p : Pipeline). commands_value far p None ≡ commands_value near p None) (sym (indexing-is n p e))
        (indexing-value n far bytes i b (st.text-at c constants bytes given apart b i new f) (st.index-at c constants bytes given apart b i new f) there
        ∙ sym (indexing-value n near (b ∷ []) 0 b text-alone index-alone refl))

    pub byte-value : (p : Pipeline) (v : Value) → value_at n constants b p ≡ Some v → (commands_value far p None).result ≡ Ok v
    byte-value p v e = value-same (λ name. has_name name (byte_variable n b ++ constants)) (is_indexing n) far near agree agree-byte p v e
