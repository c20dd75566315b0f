-- For the law from a check to the command: the files that are accepted are loaded, and the run ends as it may.
use Rattle.std.proofs.Common.{◌≡◌, ◌∙◌, ℕ, suc, List, [], ◌∷◌, Option, None, Some, Ok, ap, map, refl, subst, sym, inl, inr}
use Rattle.std.specs.Prelude.{IfSome}
use Rattle.tmpl_values.specs.Value.{Value}
use Rattle.tmpl_syntax.specs.Set.{Template}
use Rattle.tmpl_syntax.specs.Tree.{Tree}
use Rattle.tmpl_syntax.specs.computed.Parse.{parsed}
use Rattle.tmpl_syntax.proofs.ReadingLemmas.{has-one-outcome, has-outcome}
use Rattle.tmpl_meaning.specs.Meaning.{Fault, Rules, ran}
use Rattle.tmpl_schema.specs.Safe.{MayEnd}
use Rattle.tmpl_json_schema.specs.Document.{IsOfSchema, document_of}
use Rattle.serde_json.specs.Data.{Data}
use Rattle.tmpl_report.specs.Safe as report
use Rattle.tmpl_report.specs.Safe.{AreAccepted, NeverFailsOver}
use Rattle.tmpl_problems.specs.declared.source.Source.{Source}
use Rattle.tmpl_tool.specs.Source.{Bytes, Files}
use Rattle.tmpl_tool.specs.Tool.{asked_name, load_each, no_read, run_answer, tool_answer}
use Rattle.tmpl_tool.proofs.ParseLemmas.{for_each}
use Rattle.tmpl_c.specs.SafeCommand.{EndsSafely, HoldsChecked, SafeCommand}

-- the files that are accepted one after the other are loaded so
loaded : (files : Files) (old new : List Template) (ss : List Source) (k : ℕ) → AreAccepted old ss new → HoldsChecked files ss
    → load_each parsed files no_read k old (map (λ (s : Source). s.name.now) ss) ≡ Ok new
loaded files old new [] k is holds = ap Ok (sym is)
loaded files old new (s ∷ ss) k is holds =
    let name = s.name.now in
    let bytes = s.bytes.items in
    let parses : parsed old name bytes ≡ Ok is.0 = has-one-outcome old name bytes (parsed old name bytes) (Ok is.0) (has-outcome old name bytes) is.1 in
    rw (holds.0, parses) (loaded files is.0 new ss (suc k) is.2 holds.1)

-- a run with no fault but those that it may have
run_ends : (stops : List Bytes) (rules : Rules) (set : List Template) (name : Bytes) (t : Tree) (v : Value)
    → IfSome (ran rules set name t (Some v)).fault (λ f. MayEnd stops f.cause) → EndsSafely stops (run_answer (ran rules set name t (Some v)))
run_ends stops rules set name t v may = by (ran rules set name t (Some v)).fault refl may
  where
    by : (fault : Option Fault) → (ran rules set name t (Some v)).fault ≡ fault → IfSome fault (λ f. MayEnd stops f.cause)
        → EndsSafely stops (run_answer (ran rules set name t (Some v)))
    by None is may = inl (rw is refl)
    by (Some fault) is may = inr (fault, may, rw is refl, rw is refl)

pub safe_command : SafeCommand
safe_command question sources safe whole schema has first begins files holds words w asks same conforming parse is =
    for_each (λ p. EndsSafely stops (tool_answer p words files no_read)) by_parsed parse is
  where
    stops : List Bytes
    stops = map (λ stop. stop.now) question.stops.items

    over : (document : Data) × (document_of schema.bytes.items ≡ Some document)
        × NeverFailsOver document question.mode stops safe.0 (report.asked_name question first.now)
    over =
        let at_schema = subst (λ s. IfSome s (λ s. IfSome question.first (λ f. (document : Data) × (document_of s.bytes.items ≡ Some document)
        × NeverFailsOver document question.mode stops safe.0 (report.asked_name question f.now)))) has (safe.3 whole) in
        subst (λ f. IfSome f (λ f. (document : Data) × (document_of schema.bytes.items ≡ Some document)
        × NeverFailsOver document question.mode stops safe.0 (report.asked_name question f.now))) begins at_schema

    never : NeverFailsOver over.0 question.mode stops safe.0 (asked_name w)
    never = subst (λ name. NeverFailsOver over.0 question.mode stops safe.0 name) (sym same.2) over.2

    loads : load_each parsed files no_read 0 [] w.files ≡ Ok safe.0
    loads = subst (λ names. load_each parsed files no_read 0 [] names ≡ Ok safe.0) (sym same.1) (loaded files [] safe.0 sources.templates.items 0 safe.1 holds)

    value : Value
    value = conforming.2

    conforms : IsOfSchema over.0 value
    conforms =
        let to = conforming.6 in
        let one : to.0 ≡ over.0 = some_same to.0 over.0 (sym to.1 ∙ over.1) in subst (λ d. IsOfSchema d value) one to.2
      where
        some_same : (d e : Data) → Some d ≡ Some e → d ≡ e
        some_same d e h = cc

    by_parsed : EndsSafely stops (tool_answer parsed words files no_read)
    by_parsed = rw (asks, loads, same.0, conforming.3, conforming.4, conforming.5, never.1)
        (run_ends stops w.rules safe.0 (asked_name w) never.0 value (never.3 w.rules value same.3 conforms))
