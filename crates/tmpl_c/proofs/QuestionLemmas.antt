-- For `check_schema`: what the check of the sources accepts is what the caller asks for.
use Rattle.std.proofs.Common.{◌≡◌, ◌∙◌, false, true, List, [], ◌∷◌, Option, None, Some, ap, length, map, refl, subst, sym}
use Rattle.std.specs.Prelude.{IfSome, eqb, is_some, option_map, slice_get, if◌then◌else◌}
use Rattle.std.specs.Borrow.{Bor}
use Rattle.std.specs.Option.{option_map_or}
use Rattle.serde_json.specs.Data.{Data}
use Rattle.tmpl_syntax.specs.Parse.{base_name}
use Rattle.tmpl_syntax.specs.Set.{Template}
use Rattle.tmpl_report.specs.Safe.{AreAccepted, IsSafe, NeverFailsOver, asked_name}
use Rattle.tmpl_report.specs.declared.source.Question as report
use Rattle.tmpl_problems.specs.declared.source.Source.{Source}
use Rattle.tmpl_report.specs.declared.source.Sources.{Sources}
use Rattle.tmpl_json_schema.specs.Document.{document_of}
use Rattle.tmpl_tool.specs.Source.{Bytes}
use Rattle.tmpl_c.specs.Passed.{pair_of, pairs_of}
use Rattle.tmpl_c.specs.Question.{AreAdded, NeverFails, first_name, mode_asked, name_asked, stops_asked}
use Rattle.tmpl_c.specs.computed.Question.{AreGiven, IsAsked, IsNamed, pair_in}
use Rattle.tmpl_c.specs.declared.passed.File.{File}
use Rattle.tmpl_c.specs.declared.passed.Question.{Question}

-- the sources that are accepted are the files
added : (old new : List Template) (sources : List Source) → AreAccepted old sources new → AreAdded old (map pair_in sources) new
added old new [] is = is
added old new (s ∷ ss) is = (is.0, is.1, added is.0 new ss is.2)

-- the template that is asked for
named : (given : Option (Bor Bytes)) (name first : Bytes) (files : List (Bytes × Bytes)) → IsNamed name given → base_name first ≡ first_name files
    → option_map_or (λ g. g.now) given (base_name first) ≡ name_asked name files
named given name first files is same = is (base_name first) ∙ ap (λ (other : Bytes). if eqb (length name) 0 then other else name) same

module _ (files : List File) (q : Question) (asked : report.Question) (sources : Sources) where
  -- with the schema and the first name at hand
  over : (set : List Template) (schema : Source) (first : Bor Bytes) → (schema.name.now, schema.bytes.items) ≡ pair_of q.schema
      → base_name first.now ≡ first_name (pairs_of files) → IsNamed q.name.now asked.name → asked.mode ≡ mode_asked q.mode
      → map (λ stop. stop.now) asked.stops.items ≡ stops_asked q.stops.now
      → (document : Data) → document_of schema.bytes.items ≡ Some document
      → NeverFailsOver document asked.mode (map (λ stop. stop.now) asked.stops.items) set (asked_name asked first.now)
      → (d : Data) × (document_of q.schema.bytes.now ≡ Some d) × NeverFailsOver d (mode_asked q.mode) (stops_asked q.stops.now) set (name_asked q.name.now (pairs_of files))
  over set schema first is same name mode stops document reads safe =
      let bytes : schema.bytes.items ≡ q.schema.bytes.now = ap (λ (p : Bytes × Bytes). p.1) is in
      let by_mode = subst (λ m. NeverFailsOver document m (map (λ stop. stop.now) asked.stops.items) set (asked_name asked first.now)) mode safe in
      let by_stops = subst (λ ss. NeverFailsOver document (mode_asked q.mode) ss set (asked_name asked first.now)) stops by_mode in
      let by_name = subst (λ n. NeverFailsOver document (mode_asked q.mode) (stops_asked q.stops.now) set n)
      (named asked.name q.name.now first.now (pairs_of files) name same) by_stops in
      (document, ap document_of (sym bytes) ∙ reads, by_name)

  pub never-fails : AreGiven files q sources → IsAsked files q asked → IsSafe asked sources → NeverFails (pairs_of files) q
  never-fails given is safe = (
    safe.0,
    subst (λ ps. AreAdded [] ps safe.0) given.0 (added [] safe.0 sources.templates.items safe.1),
    by sources.schema given.2 asked.first is.0 is.1 (safe.3 given.3),
  )
    where
      by : (schema : Option Source) → option_map pair_in schema ≡ Some (pair_of q.schema) → (first : Option (Bor Bytes))
          → IfSome first (λ f. base_name f.now ≡ first_name (pairs_of files)) → is_some first ≡ true
          → IfSome schema (λ s. IfSome first (λ f. (document : Data) × (document_of s.bytes.items ≡ Some document)
          × NeverFailsOver document asked.mode (map (λ stop. stop.now) asked.stops.items) safe.0 (asked_name asked f.now)))
          → (d : Data) × (document_of q.schema.bytes.now ≡ Some d)
          × NeverFailsOver d (mode_asked q.mode) (stops_asked q.stops.now) safe.0 (name_asked q.name.now (pairs_of files))
      by None e first f s h = absurd (none-is-not e)
        where
          none-is-not : ◌≡◌ {A = Option (Bytes × Bytes)} None (Some (pair_of q.schema)) → ⊥
          none-is-not e = cc
      by (Some schema) e None f s h = absurd (false-is-not s)
        where
          false-is-not : false ≡ true → ⊥
          false-is-not e = cc
      by (Some schema) e (Some first) f s h =
          over safe.0 schema first (one e) f is.2 is.3 is.4 h.0 h.1 h.2
        where
          one : Some (pair_in schema) ≡ Some (pair_of q.schema) → pair_in schema ≡ pair_of q.schema
          one e = cc

pub no-first : (files : List File) → slice_get files 0 ≡ None → [] ≡ first_name (pairs_of files)
no-first [] e = refl
no-first (g ∷ gs) e = absurd (some e)
  where
    some : ◌≡◌ {A = Option File} (Some g) None → ⊥
    some e = cc
