use Rattle.std.proofs.Common.{◌≡◌, Bor, ap, false, refl}
use Rattle.std.specs.Str.{is_utf8}
use Rattle.std.proofs.lemmas.Bool.{false_from_ne_true}
use Rattle.std.proofs.lemmas.Str.{IsUtf8-from_is_utf8}
use Rattle.tmpl_engine.specs.View.{templates_of}
use Rattle.tmpl_syntax.specs.Fault.{reason_of}
use Rattle.tmpl_tool.specs.Source.{Bytes}
use Rattle.tmpl_c.specs.Passed.{pair_of}
use Rattle.tmpl_c.proofs.PassedLemmas.{file_added, file_refused, text_added}
use Rattle.tmpl_c.proofs.load.add_file.Goals as goal

pub returns-in_default : goal.returns-in_default
returns-in_default c =
    let no : is_utf8 (pair_of c.args.file.now).0 ≡ false = false_from_ne_true _ (λ e. c.in_default.ensures.cases.0 (IsUtf8-from_is_utf8 _ e)) in
    record { comes = rw no refl; kept = refl }

pub returns-in-Ok-add : goal.returns-in-Ok-add
returns-in-Ok-add c =
    let old = templates_of c.args.engine.now in
    let f = pair_of c.args.file.now in
    let is = c.in-Ok.ensures.cases in
    record {
      comes = file_added old f c.in-Ok.name.now _ (text_added old f c.in-Ok.name.now is.0 is.1) c.in-Ok-add.ensures.value;
      kept = tt;
    }

pub returns-in-Err : goal.returns-in-Err
returns-in-Err c =
    let old = templates_of c.args.engine.now in
    let f = pair_of c.args.file.now in
    let is = c.in-Ok.ensures.cases in
    let told = c.in-Err.ensures.value in
    record {
      comes = file_refused old f c.in-Ok.name.now c.in-Err.fault (reason_of c.in-Err.fault.kind) (ap (λ (n : Bor Bytes). n.now) told.0)
          (text_added old f c.in-Ok.name.now is.0 is.1) told.2;
      kept = told.1;
    }
