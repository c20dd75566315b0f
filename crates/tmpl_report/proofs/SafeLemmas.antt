-- For `check_document` and `add_schema`: what the check of the document accepts is what is asked for.
use Rattle.std.proofs.Common.{◌≡◌, ℕ, List, Option, None, Some, IsSome, map, refl, subst, sym}
use Rattle.std.specs.Option.{option_map}
use Rattle.std.specs.Prelude.{option_copied}
use Rattle.serde_json.specs.Data.{Data}
use Rattle.serde_json.specs.View.{view}
use Rattle.serde_json.specs.declared.value.Value.{Value as Tree}
use Rattle.std.specs.Borrow.{Bor}
use Rattle.tmpl_values.specs.Value.{Value}
use Rattle.tmpl_syntax.specs.Set.{Template}
use Rattle.tmpl_meaning.specs.declared.missing_key.MissingKey.{MissingKey}
use Rattle.tmpl_shape.specs.Shape.{Fits, Schema}
use Rattle.tmpl_schema.specs.Safe.{NeverFails}
use Rattle.tmpl_json_schema.specs.Document.{IsOfSchema, document_of, draft_of}
use Rattle.tmpl_report.specs.Safe.{IsSafeOver, NeverFailsOver, asked_name}
use Rattle.tmpl_report.specs.computed.Added.{document_for, schema_document}
use Rattle.tmpl_report.specs.declared.source.Question.{Question}
use Rattle.tmpl_problems.specs.declared.source.Source.{Source}
use Rattle.tmpl_report.specs.declared.source.Sources.{Sources}

-- a JSON value that is borrowed
pub borrowed-view : (o : Option (Bor Tree)) → option_map (λ d. view d.now) o ≡ option_map view (option_copied o)
borrowed-view None = refl
borrowed-view (Some d) = refl

-- what conforms to a document fits the schema that is read of it
pub over-document : (root : Data) (mode : Option MissingKey) (stops : List (List ℕ)) (set : List Template) (name : List ℕ) (schema : Schema)
    → IsSome (draft_of root) → ((v : Value) → IsOfSchema root v → Fits schema v) → NeverFails schema mode stops set name → NeverFailsOver root mode stops set name
over-document root mode stops set name schema draft fits h = (h.0, h.1, draft, λ rules v covers conforms. h.2 rules (Some v) covers (fits v conforms))

pub safe-over : (question : Question) (sources : Sources) (set : List Template) (schema : Source) (first : Bor (List ℕ)) (document : Data)
    (name : List ℕ) (stops : List (List ℕ)) → sources.schema ≡ Some schema → question.first ≡ Some first
    → Some document ≡ schema_document sources → stops ≡ map (λ stop. stop.now) question.stops.items → name ≡ asked_name question first.now
    → NeverFailsOver document question.mode stops set name → IsSafeOver question sources set
safe-over question sources set schema first document name stops e f d s n h =
    let named = subst (λ (t : List ℕ). NeverFailsOver document question.mode stops set t) n h in
    let over = subst (λ (ts : List (List ℕ)). NeverFailsOver document question.mode ts set (asked_name question first.now)) s named in
    let is : document_of schema.bytes.items ≡ Some document = sym (subst (λ (o : Option Source). Some document ≡ document_for o) e d) in
    rw (e, f) (document, is, over)
