-- For `Data::from_json`: which tree bytes are, from what the reader of `serde_json` says of them.
use Rattle.std.proofs.Common.{◌≡◌, ℕ, List, Bool, true, false, Option, Some, None, Result, Ok, Err, ok_or, refl, sym, subst, IsUtf8}
use Rattle.std.specs.Result.{IsErrAnd}
use Rattle.std.specs.Str.{is_utf8}
use Rattle.std.specs.Bool.{if◌then◌else◌}
use Rattle.std.proofs.lemmas.Str.{is_utf8-from_IsUtf8, IsUtf8-from_is_utf8}
use Rattle.serde_json.specs.Data as json
use Rattle.serde_json.specs.Errors.{IsMemory}
use Rattle.serde_json.specs.Read.{read}
use Rattle.serde_json.specs.declared.error.Code.{Code}
use Rattle.serde_json.specs.declared.error.Code.TheVariants.{Invalid, NumberOutOfRange, OutOfMemory}
use Rattle.serde_json.specs.declared.error.Error.{Error}
use Rattle.tmpl_values.specs.declared.data.Data.{Data}
use Rattle.tmpl_values.specs.declared.from_json.DataFault.{DataFault}
use Rattle.tmpl_values.specs.row.View.{value_of}
use Rattle.tmpl_values.specs.Value.{Value}
use Rattle.tmpl_values.specs.Json.{tree_value, Flaw, not_json, IsConverted}
use Rattle.tmpl_values.specs.Stage.{and_then}
use Rattle.tmpl_values.proofs.RestLemmas.{if_whole}

-- the tree that bytes are, and the value of one that is there
abbrev pub tree_of : List ℕ → Option json.Data
tree_of bytes = if is_utf8 bytes then read bytes else None

abbrev pub if_json : Option json.Data → Result Value Flaw
if_json o = and_then (ok_or o not_json) (λ d. if_whole (tree_value d))

pub tree_of-some : (bs : List ℕ) (d : json.Data) → IsUtf8 bs → read bs ≡ Some d → tree_of bs ≡ Some d
tree_of-some bs d u r = rw (is_utf8-from_IsUtf8 bs u) r

if-none : (bs : List ℕ) (b : Bool) (o : Option json.Data) → (b ≡ true → o ≡ None) → (if b then o else None) ≡ None
if-none bs true o h = h refl
if-none bs false o h = refl

pub tree_of-none : (bs : List ℕ) → (IsUtf8 bs → read bs ≡ None) → tree_of bs ≡ None
tree_of-none bs h = if-none bs (is_utf8 bs) (read bs) (λ e. h (IsUtf8-from_is_utf8 bs e))

module _ (asked : Result Value Flaw) (fault : DataFault) where
  by_code : (c : Code) → (c ≡ OutOfMemory → fault ≡ DataFault.OutOfMemory) → (¬ (c ≡ OutOfMemory) → fault ≡ DataFault.NotJson)
      → (¬ (c ≡ OutOfMemory) → asked ≡ Err not_json) → IsConverted value_of (Err fault) asked
  by_code Invalid p q r = subst (λ f. IsConverted value_of (Err f) asked) (sym (q (λ e. cc))) (r (λ e. cc))
  by_code NumberOutOfRange p q r = subst (λ f. IsConverted value_of (Err f) asked) (sym (q (λ e. cc))) (r (λ e. cc))
  by_code OutOfMemory p q r = subst (λ f. IsConverted value_of (Err f) asked) (sym (p refl)) tt

-- what a refusal of `serde_json` becomes is the fault that the bytes have, where memory was there
pub refused-as : (asked : Result Value Flaw) (e : Error) (r : Result Data DataFault)
    → IsErrAnd r (λ f. (IsMemory e → f ≡ DataFault.OutOfMemory) × (¬ IsMemory e → f ≡ DataFault.NotJson))
    → (¬ IsMemory e → asked ≡ Err not_json) → IsConverted value_of r asked
refused-as asked e (Ok d) told none = absurd told
refused-as asked e (Err f) told none = by_code asked f e.code told.0 told.1 none
