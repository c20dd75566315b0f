-- The machine for environment files.
use Rattle.std.specs.Prelude.{ℕ, Bool, true, false, ◌||◌, ◌==◌, List, Option, Some, None, if◌then◌else◌}
use Rattle.std.specs.Char.{is_ascii_alphabetic, is_ascii_digit}
use Rattle.std.specs.Str.{byte}
use Rattle.tmpl_formats.specs.Env.{is_plain_mark}
use Rattle.tmpl_formats.specs.computed.Machine.{mistake}
use Rattle.tmpl_formats.specs.declared.env.Control.{Control}
use Rattle.tmpl_formats.specs.declared.env.Control.TheVariants as at
use Rattle.tmpl_formats.specs.declared.env.Sign.{Sign}
use Rattle.tmpl_formats.specs.declared.env.Sign.TheVariants as sign

-- the kind of a byte
abbrev pub sign_of : ℕ → Sign
sign_of b =
    if b == 0 then sign.Null
    else (if b == byte "\n" then sign.Newline
    else (if b == byte "#" then sign.Hash
    else (if b == byte "=" then sign.Equals
    else (if b == byte "'" then sign.Single
    else (if b == byte "\"" then sign.Double
    else (if b == byte "\\" then sign.Backslash
    else (if b == byte "$" || b == byte "`" then sign.Expanding
    else (if is_plain_mark b then sign.Plain
    else (if b == byte "_" || is_ascii_alphabetic b then sign.Letter
    else (if is_ascii_digit b then sign.Digit else sign.Other))))))))))

-- in a value without quotes
abbrev pub after_bare : Sign → Option Control
after_bare sign.Newline = Some at.Start
after_bare sign.Equals = Some at.Bare
after_bare sign.Plain = Some at.Bare
after_bare sign.Letter = Some at.Bare
after_bare sign.Digit = Some at.Bare
after_bare _ = None

abbrev pub after_sign : Control → Sign → Option Control
after_sign at.Start sign.Newline = Some at.Start
after_sign at.Start sign.Hash = Some at.Comment
after_sign at.Start sign.Letter = Some at.Name
after_sign at.Comment sign.Newline = Some at.Start
after_sign at.Comment sign.Null = None
after_sign at.Comment sign.Backslash = None
after_sign at.Comment _ = Some at.Comment
after_sign at.Name sign.Equals = Some at.Equals
after_sign at.Name sign.Letter = Some at.Name
after_sign at.Name sign.Digit = Some at.Name
after_sign at.Equals sign.Single = Some at.Single
after_sign at.Equals sign.Double = Some at.Double
after_sign at.Equals s = after_bare s
after_sign at.Bare s = after_bare s
after_sign at.Single sign.Null = None
after_sign at.Single sign.Single = Some at.Closed
after_sign at.Single _ = Some at.Single
after_sign at.Double sign.Null = None
after_sign at.Double sign.Expanding = None
after_sign at.Double sign.Double = Some at.Closed
after_sign at.Double sign.Backslash = Some at.Escape
after_sign at.Double _ = Some at.Double
after_sign at.Escape sign.Double = Some at.Double
after_sign at.Escape sign.Backslash = Some at.Double
after_sign at.Escape sign.Expanding = Some at.Double
after_sign at.Closed sign.Newline = Some at.Start
after_sign _ _ = None

-- one step of the machine, and whether a text may end there
abbrev pub step : Control → ℕ → Option Control
step c b = after_sign c (sign_of b)

abbrev pub ends : Control → Bool
ends at.Name = false
ends at.Single = false
ends at.Double = false
ends at.Escape = false
ends _ = true

abbrev pub start : Control
start = at.Start

abbrev pub env_mistake : List ℕ → Option ℕ
env_mistake text = mistake step ends start text
