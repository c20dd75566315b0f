-- The machine for configuration files of nginx.
use Rattle.std.specs.Prelude.{ℕ, ◌+◌, ◌-◌, ◌^◌, Bool, true, false, ◌==◌, nat_lt, List, Option, Some, None, ◌&&◌, if◌then◌else◌}
use Rattle.std.specs.Str.{byte}
use Rattle.tmpl_formats.specs.Nginx.{is_gap}
use Rattle.tmpl_formats.specs.computed.Machine.{mistake}
use Rattle.tmpl_formats.specs.declared.nginx.Control.{Control}
use Rattle.tmpl_formats.specs.declared.nginx.Control.TheVariants as at
use Rattle.tmpl_formats.specs.declared.nginx.Nginx.{Nginx}
use Rattle.tmpl_formats.specs.declared.nginx.Sign.{Sign}
use Rattle.tmpl_formats.specs.declared.nginx.Sign.TheVariants as sign

-- the kind of a byte
abbrev pub sign_of : ℕ → Sign
sign_of b =
    if b == 0 then sign.Null
    else (if b == byte "\n" then sign.Newline
    else (if is_gap b then sign.Gap
    else (if b == byte ";" then sign.Semicolon
    else (if b == byte "{" then sign.Open
    else (if b == byte "}" then sign.Close
    else (if b == byte "#" then sign.Hash
    else (if b == byte "\"" then sign.Double
    else (if b == byte "'" then sign.Single
    else (if b == byte "\\" then sign.Backslash
    else (if b == byte "$" then sign.Dollar
    else (if b == byte ")" then sign.Parenthesis else sign.Other)))))))))))

abbrev pub config_at : Control → ℕ → Nginx
config_at control depth = record { control = control; depth = depth }

abbrev pub to : Control → ℕ → Option Nginx
to control depth = Some (config_at control depth)

-- a block opens, unless as many are open as a count can hold
abbrev pub opened : ℕ → Option Nginx
opened depth = if nat_lt (depth + 1) (2 ^ 64) then to at.Start (depth + 1) else None

-- where a word begins
abbrev pub at_word : ℕ → Sign → Option Nginx
at_word depth sign.Double = to at.Double depth
at_word depth sign.Single = to at.Single depth
at_word depth sign.Backslash = to at.Escape depth
at_word depth sign.Dollar = to at.Dollar depth
at_word depth sign.Parenthesis = to at.Word depth
at_word depth sign.Other = to at.Word depth
at_word depth _ = None

-- where a word may end
abbrev pub at_tail : ℕ → Sign → Option Nginx
at_tail depth sign.Newline = to at.Gap depth
at_tail depth sign.Gap = to at.Gap depth
at_tail depth sign.Semicolon = to at.Start depth
at_tail depth sign.Open = opened depth
at_tail depth _ = None

abbrev pub in_word : ℕ → Sign → Option Nginx
in_word depth sign.Null = None
in_word depth sign.Newline = to at.Gap depth
in_word depth sign.Gap = to at.Gap depth
in_word depth sign.Semicolon = to at.Start depth
in_word depth sign.Open = opened depth
in_word depth sign.Backslash = to at.Escape depth
in_word depth sign.Dollar = to at.Dollar depth
in_word depth _ = to at.Word depth

-- to a place, unless the byte is NUL
abbrev pub unless_null : Control → ℕ → Sign → Option Nginx
unless_null next depth sign.Null = None
unless_null next depth _ = to next depth

abbrev pub after_sign : Control → ℕ → Sign → Option Nginx
after_sign at.Start depth sign.Newline = to at.Start depth
after_sign at.Start depth sign.Gap = to at.Start depth
after_sign at.Start depth sign.Close = if depth == 0 then None else to at.Start (depth - 1)
after_sign at.Start depth sign.Hash = to at.StartComment depth
after_sign at.Start depth s = at_word depth s
after_sign at.Gap depth sign.Newline = to at.Gap depth
after_sign at.Gap depth sign.Gap = to at.Gap depth
after_sign at.Gap depth sign.Semicolon = to at.Start depth
after_sign at.Gap depth sign.Open = opened depth
after_sign at.Gap depth sign.Hash = to at.GapComment depth
after_sign at.Gap depth s = at_word depth s
after_sign at.Word depth s = in_word depth s
after_sign at.Dollar depth sign.Open = to at.Dollar depth
after_sign at.Dollar depth s = in_word depth s
after_sign at.Escape depth s = unless_null at.Word depth s
after_sign at.Double depth sign.Double = to at.Closed depth
after_sign at.Double depth sign.Backslash = to at.DoubleEscape depth
after_sign at.Double depth s = unless_null at.Double depth s
after_sign at.DoubleEscape depth s = unless_null at.Double depth s
after_sign at.Single depth sign.Single = to at.Closed depth
after_sign at.Single depth sign.Backslash = to at.SingleEscape depth
after_sign at.Single depth s = unless_null at.Single depth s
after_sign at.SingleEscape depth s = unless_null at.Single depth s
after_sign at.Closed depth sign.Parenthesis = to at.Word depth
after_sign at.Closed depth s = at_tail depth s
after_sign at.StartComment depth sign.Newline = to at.Start depth
after_sign at.StartComment depth s = unless_null at.StartComment depth s
after_sign at.GapComment depth sign.Newline = to at.Gap depth
after_sign at.GapComment depth s = unless_null at.GapComment depth s

-- one step of the machine, and whether a text may end there
abbrev pub step : Nginx → ℕ → Option Nginx
step c b = after_sign c.control c.depth (sign_of b)

abbrev pub ends_at : Control → Bool
ends_at at.Start = true
ends_at at.StartComment = true
ends_at _ = false

abbrev pub ends : Nginx → Bool
ends c = (c.depth == 0) && ends_at c.control

abbrev pub start : Nginx
start = config_at at.Start 0

abbrev pub nginx_mistake : List ℕ → Option ℕ
nginx_mistake text = mistake step ends start text
