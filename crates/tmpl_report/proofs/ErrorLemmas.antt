-- For `findings_of`: files without errors, and the errors of a schema and of data.
use Rattle.std.proofs.Common.{◌≡◌, ◌∙◌, ◌++◌, ◌||◌, true, false, List, [], ◌∷◌, Option, Some, None, Ok, IfSome, ap, is_none, map, refl, sym, take}
use Rattle.tmpl_values.specs.Json.{data_of}
use Rattle.tmpl_values.specs.Value.{Value}
use Rattle.tmpl_syntax.specs.Set.{Template}
use Rattle.tmpl_syntax.specs.Examine.{Examined}
use Rattle.tmpl_syntax.specs.Parse.{Parses}
use Rattle.tmpl_syntax.specs.declared.refused.Refused.{Refused}
use Rattle.tmpl_problems.specs.Checked.{most, refused_in}
use Rattle.tmpl_problems.specs.Errors.{AreOfData, AreOfFile, AreOfFiles, AreOfReason, error_of, errors_in, left_in}
use Rattle.tmpl_problems.specs.Finding.{Finding, has_error}
use Rattle.tmpl_problems.specs.Judged.{IsJudgedData}
use Rattle.tmpl_problems.specs.declared.data_check.DataReason.{DataReason}
use Rattle.tmpl_problems.specs.declared.problem.Problem.{Problem}
use Rattle.tmpl_problems.specs.declared.source.Source.{Source}
use Rattle.tmpl_problems.proofs.ErrorLemmas.{found-in, has_error-append, left-false, right-false}
use Rattle.tmpl_report.specs.Errors.{MayBeOfSchema}
use Rattle.tmpl_report.specs.Safe.{AreAccepted}

-- ---- files without errors

file-accepted : (old : List Template) (file : Source) (new : List Template) (errors : List Finding) → AreOfFile old file new errors
    → has_error errors ≡ false → Parses old file.name.now file.bytes.items (Ok new)
file-accepted old file new errors (all, p, same, examined, located, reports) h = by p.refused.items refl all reports.first examined
  where
    by : (ps : List Problem) → p.refused.items ≡ ps → (rs : List Refused) → map refused_in p.refused.items ≡ take most rs
        → Examined old file.name.now file.bytes.items new rs → Parses old file.name.now file.bytes.items (Ok new)
    by ps e [] first x = x
    by [] e (r ∷ rs) first x = let none : map refused_in p.refused.items ≡ [] = ap (map refused_in) e in cc
    by (q ∷ qs) e (r ∷ rs) first x =
        let some : has_error errors ≡ true = ap has_error same
        ∙ ap (λ ps. has_error (map (error_of file.name.now) ps ++ (map (error_of file.name.now) p.beyond.items ++ left_in file.name.now p.left))) e in cc

pub files-accepted : (old : List Template) (files : List Source) (new : List Template) (errors : List Finding) → AreOfFiles old files new errors
    → has_error errors ≡ false → AreAccepted old files new
files-accepted old [] new errors a h = a.0
files-accepted old (file ∷ files) new errors a h =
    let none : (has_error a.1 || has_error a.2) ≡ false = sym (has_error-append a.1 a.2) ∙ ap has_error (sym a.3) ∙ h in (
      a.0,
      file-accepted old file a.0 a.1 a.4 (left-false (has_error a.1) (has_error a.2) none),
      files-accepted a.0 files new a.2 a.5 (right-false (has_error a.1) (has_error a.2) none),
    )

-- ---- errors of a schema

pub none-of-schema : (schema : Option Source) (before : List Finding) → MayBeOfSchema schema before []
none-of-schema None before = refl
none-of-schema (Some file) before = λ e. refl

pub some-of-schema : (schema : Option Source) (before errors : List Finding) → is_none schema ≡ false → has_error before ≡ false → MayBeOfSchema schema before errors
some-of-schema None before errors e h = cc
some-of-schema (Some file) before errors e h = λ some. cc

pub may-be : (schema : Option Source) (before firsts errors : List Finding) → errors_in before ≡ firsts → MayBeOfSchema schema before errors
    → MayBeOfSchema schema firsts errors
may-be None before firsts errors e h = h
may-be (Some file) before firsts errors e h = λ some. h (sym (found-in before) ∙ ap has_error e ∙ some)

-- ---- errors of data

pub data-valued : (o : Option Source) (errors : List Finding) → AreOfData o errors → has_error errors ≡ false
    → IfSome o (λ (d : Source). (value : Value) × (data_of d.bytes.items ≡ Ok value))
data-valued None errors a h = tt
data-valued (Some file) errors a h = by a.0 a.1 a.2 h
  where
    by : (o : Option DataReason) → IsJudgedData file.bytes.items o → AreOfReason file.name.now o errors → has_error errors ≡ false
        → (value : Value) × (data_of file.bytes.items ≡ Ok value)
    by None j r none = j
    by (Some w) j r none = let some = r.0 in cc

-- ---- where no schema is given

pub none-given : (P : Source → Type 0) (o : Option Source) → is_none o ≡ true → IfSome o P
none-given P None e = tt
none-given P (Some file) e = cc
