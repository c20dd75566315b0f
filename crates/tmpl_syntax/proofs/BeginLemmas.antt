-- Where an action begins is within the file.
use Rattle.std.proofs.Common.{arith, ◌≤◌, ◌+◌, ℕ, Bool, List, ◌++◌, length, length-append}
use Rattle.tmpl_lex.specs.Begin.{Begins, BeginsAt, here, further}

within : {start line n at : ℕ} {right : Bool} {bs : List ℕ} → Begins start right line bs n at → at ≤ start + length bs
within (here {start = start} {before = before} {opening = opening} {rest = rest} leads none) =
    omega (arith, length-append (before ++ opening) rest, length-append before opening)
within (further {start = start} {before = before} {opening = opening} {body = body} {rest = rest} leads c more) =
    omega (arith, within more, length-append (before ++ opening ++ body) rest)

pub begins-within : (bs : List ℕ) (n at : ℕ) → BeginsAt bs n at → at ≤ length bs
begins-within bs n at b = omega (arith, within b)
