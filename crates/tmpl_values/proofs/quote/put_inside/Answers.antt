use Rattle.std.proofs.Common.{◌∙◌, ap, sym, append-nil, ◌++◌, arith, get_or, take, drop, List, ℕ}
use Rattle.tmpl_values.specs.Rune.{char, byte}
use Rattle.tmpl_values.specs.Printable.{printable}
use Rattle.tmpl_values.specs.Quote.{spelling}
use Rattle.tmpl_values.specs.computed.Quote.{inside}
use Rattle.tmpl_values.proofs.PutLemmas.{IsPut-append, IsPut-stop, IsPut-along}
use Rattle.tmpl_values.proofs.QuoteLemmas.{inside-char, inside-byte, inside-nil, append-more}
use Rattle.tmpl_values.proofs.quote.put_inside.Goals as goal

pub returns-in_err-put : goal.returns-in_err-put
returns-in_err-put g c =
    let so_far = c.loop-rest.invariant in
    IsPut-along (IsPut-append so_far.2 (IsPut-stop _ c.from_residual.ensures.0 c.in_err-put.ensures))
    (sym (so_far.1 ∙ ap (λ t. so_far.0 ++ t) c.plain_len-plain.ensures.plain))

pub returns-in_err-put_char-in-Some : goal.returns-in_err-put_char-in-Some
returns-in_err-put_char-in-Some g c =
    let so_far = c.loop-rest.invariant in
    let rest : List ℕ = c.loop-rest.rest.now in
    IsPut-along (IsPut-append so_far.2 (IsPut-stop _ c.from_residual-in_err-put_char-in-Some.ensures.0 c.in_err-put_char-in-Some.ensures))
    (sym (so_far.1 ∙ ap (λ t. so_far.0 ++ t) (inside-char printable rest c.in-Some.c (omega arith) c.in-Some.ensures.0)))

pub returns-in_err-put_byte-in-None : goal.returns-in_err-put_byte-in-None
returns-in_err-put_byte-in-None g c =
    let so_far = c.loop-rest.invariant in
    let rest : List ℕ = c.loop-rest.rest.now in
    IsPut-along (IsPut-append so_far.2 (IsPut-stop _ c.from_residual-in_err-put_byte-in-None.ensures.0 c.in_err-put_byte-in-None.ensures))
    (sym (so_far.1 ∙ ap (λ t. so_far.0 ++ t) (inside-byte printable rest (get_or rest 0 0) (omega arith) c.in-None.ensures)))

pub loop-rest-preserved-then-plain-gt0 : goal.loop-rest-preserved-then-plain-gt0
loop-rest-preserved-then-plain-gt0 g c =
    let so_far = c.loop-rest.invariant in
    let run : List ℕ = take c.plain_len-plain.result c.loop-rest.rest.now in (
      so_far.0 ++ run,
      append-more _ so_far.0 _ run _ so_far.1 (c.plain_len-plain.ensures.plain ∙ ap (λ r. run ++ inside printable r) (sym c.after-rest.ensures)),
      IsPut-append so_far.2 c.in_ok-put.ensures,
    )

pub loop-rest-preserved-in-Some : goal.loop-rest-preserved-in-Some
loop-rest-preserved-in-Some g c =
    let so_far = c.loop-rest.invariant in
    let rest : List ℕ = c.loop-rest.rest.now in
    let past = c.after-rest-in-Some.ensures ∙ ap (λ n. drop n rest) c.len_utf8.ensures.value in
    let spelled : List ℕ = spelling printable (char c.in-Some.c) in (
      so_far.0 ++ spelled,
      append-more _ so_far.0 _ spelled _ so_far.1 (inside-char printable rest c.in-Some.c (omega arith) c.in-Some.ensures.0
          ∙ ap (λ r. spelled ++ inside printable r) (sym past)),
      IsPut-append so_far.2 c.in_ok-put_char-in-Some.ensures,
    )

pub loop-rest-preserved : goal.loop-rest-preserved
loop-rest-preserved g c =
    let so_far = c.loop-rest.invariant in
    let rest : List ℕ = c.loop-rest.rest.now in
    let b : ℕ = get_or rest 0 0 in
    let spelled : List ℕ = spelling printable (byte b) in (
      so_far.0 ++ spelled,
      append-more _ so_far.0 _ spelled _ so_far.1 (inside-byte printable rest b (omega arith) c.in-None.ensures
          ∙ ap (λ r. spelled ++ inside printable r) (sym c.after-rest-in-None.ensures)),
      IsPut-append so_far.2 c.in_ok-put_byte-in-None.ensures,
    )

pub returns : goal.returns
returns g c =
    let so_far = c.loop-rest.invariant in
    let rest : List ℕ = c.loop-rest.rest.now in
    IsPut-along so_far.2 (sym (so_far.1 ∙ ap (λ t. so_far.0 ++ t) (inside-nil printable rest (omega arith)) ∙ append-nil so_far.0))
