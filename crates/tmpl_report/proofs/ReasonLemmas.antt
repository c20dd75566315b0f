-- On what is told of doubts.
use Rattle.std.proofs.Common.{◌≡◌, ◌++◌, ◌+◌, List, ℕ, [], ◌∷◌, Option, sym, subst, take}
use Rattle.std.proofs.lemmas.Slice.Zip.{all_zipped_more}
use Rattle.std.specs.List.{AllZip}
use Rattle.tmpl_schema.specs.declared.failure.Doubt.{Doubt}
use Rattle.tmpl_report.specs.declared.reasons.reason.Reason.{Reason}
use Rattle.tmpl_report.specs.Reason.{IsTold}

-- of one doubt more
pub told_more : (bytes : List ℕ) (doubts : List Doubt) (i : ℕ) (doubt : Doubt) (before after : List (Option Reason)) (told : Option Reason)
    → take (i + 1) doubts ≡ take i doubts ++ doubt ∷ [] → after ≡ before ++ told ∷ [] → AllZip (IsTold bytes) (take i doubts) before → IsTold bytes doubt told
    → AllZip (IsTold bytes) (take (i + 1) doubts) after
told_more bytes doubts i doubt before after told parts push each here =
    subst (λ ds. AllZip (IsTold bytes) ds after) (sym parts)
    (subst (λ rs. AllZip (IsTold bytes) (take i doubts ++ doubt ∷ []) rs) (sym push) (all_zipped_more (IsTold bytes) (take i doubts) before doubt told each here))
