use Rattle.std.proofs.Common.{◌≡◌, ◌≢◌, ◌⊎◌, ◌∙◌, sym, refl, map, rules, inl, inr, subst, List, Err}
use Rattle.std.specs.String.{string_bytes}
use Rattle.clap.specs.Words.{HasKind, IsAmong, Text, kind_of}
use Rattle.clap.specs.declared.error.ErrorKind.{ErrorKind}
use Rattle.clap.specs.declared.error.ErrorKind.TheVariants.{OutOfMemory}
use Rattle.tmpl_tool.specs.Words.{HasModeNames, words_fault}
use Rattle.tmpl_tool.specs.computed.Words.{Parses}
use Rattle.tmpl_tool.specs.declared.words.request.WordsFault.{WordsFault}
use Rattle.tmpl_tool.specs.declared.words.request.WordsFault.TheVariants as fault
use Rattle.tmpl_tool.proofs.CommandLemmas.{among-some, app-fault, app-free, app-rows, app-simple}
use Rattle.tmpl_tool.proofs.words.parse.Goals as goal

pub returns-in-Ok : goal.returns-in-Ok
returns-in-Ok c =
    let words = map (λ word. string_bytes word) c.args.words.now in
    let named : HasModeNames c.as_slice.result = search rules in
    let is = c.in_ok-command.ensures in (
      sym (app-fault _ named _ is words) ∙ c.in-Ok.ensures.kinds (app-free _ named _ is),
      (c.in-Ok.ensures.matches (app-simple _ named _ is)).0 ∙ app-rows _ named _ is words,
    )

failed : (words : List Text) (k : ErrorKind) (r : WordsFault) → (r ≡ fault.NotAccepted → k ≢ OutOfMemory) → (k ≡ OutOfMemory) ⊎ IsAmong k (words_fault words)
    → Parses words (Err r)
failed words k fault.OutOfMemory not has = tt
failed words k fault.NotAccepted not (inl e) = absurd (not refl e)
failed words k fault.NotAccepted not (inr h) = among-some k (words_fault words) h

pub returns-in-Err : goal.returns-in-Err
returns-in-Err c =
    let words = map (λ word. string_bytes word) c.args.words.now in
    let named : HasModeNames c.as_slice.result = search rules in
    let is = c.in_ok-command.ensures in
    failed words (kind_of c.in-Err.error) c.refusal.result c.refusal.ensures
    (subst (λ kinds. HasKind kinds c.in-Err.error) (app-fault _ named _ is words) (c.in-Err.ensures.kinds (app-free _ named _ is)))
