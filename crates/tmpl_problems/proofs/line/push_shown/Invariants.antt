use Rattle.std.proofs.Common.{◌≡◌, ◌++◌, string_bytes}
use Rattle.std.specs.Str.{IsUtf8}
use Rattle.std.specs.Str.Iter.{chars_rest}
use Rattle.tmpl_problems.specs.Line.{shown_in_line}
use Rattle.tmpl_problems.proofs.line.push_shown.Given as goal

abbrev pub invariant-loop-c : goal.invariant-loop-c
invariant-loop-c l =
    IsUtf8 (chars_rest l.c-iterator) × (string_bytes l.out ++ shown_in_line (chars_rest l.c-iterator) ≡ string_bytes l.fn.out ++ shown_in_line l.fn.text)
