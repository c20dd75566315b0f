use Rattle.std.proofs.Common.{refl, sym}
use Rattle.tmpl_formats.specs.PatternText.{four_digits, in_braces}
use Rattle.tmpl_formats.proofs.pattern_text.Reader.unicode.Goals as goal

pub returns-then-is_character : goal.returns-then-is_character
returns-then-is_character c = four_digits (rw (c.if-not-takes.ensures.kept refl) at c.in_ok-code.ensures) (sym c.if-is_character.ensures)

pub returns-then-is_character-2 : goal.returns-then-is_character-2
returns-then-is_character-2 c =
    let n = c.in_ok-code-2.ensures in
    (rw (← c.if-not-takes.ensures.taken refl) at (in_braces n.1 (rw (c.if-takes.ensures.taken refl) at n.2) (sym c.if-is_character-2.ensures)))
