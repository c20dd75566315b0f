-- Where a survey goes on after a part.
use Rattle.std.specs.Prelude.{◌≡◌, Option}
use Rattle.tmpl_lex.specs.declared.part.AfterText.{AfterText}
use Rattle.tmpl_lex.specs.declared.part.AfterText.TheVariants as variant
use Rattle.tmpl_lex.specs.declared.part.Rest.{Rest}

-- at what the part says is left, if it can be read
abbrev pub IsRestAfter : AfterText → Option Rest → Option Rest → Type 0
IsRestAfter (variant.Unreadable line) beyond next = Unit {0}
IsRestAfter other beyond next = next ≡ beyond
