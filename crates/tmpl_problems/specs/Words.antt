-- The words of `tmpl` for the reasons of refusals.
use Rattle.std.specs.Prelude.{ℕ, List, codes}
use Rattle.tmpl_syntax.specs.declared.fault.ParseKind.{ParseKind}
use Rattle.tmpl_syntax.specs.declared.fault.ParseKind.TheVariants as kind

abbrev pub words_for : ParseKind → List ℕ
words_for kind.Unreadable = codes "unclosed or unreadable action"
words_for kind.NotAnAction = codes "action not understood"
words_for kind.OutOfPlace = codes "out of place"
words_for kind.UndeclaredVariable = codes "undeclared variable"
words_for kind.OpenAtEnd = codes "file ends inside a control"
words_for kind.NestedTooDeeply = codes "nested too deeply"
words_for kind.TooLong = codes "file longer than 16777216 bytes"
words_for kind.SecondDefinition = codes "second definition"
words_for kind.OutOfMemory = codes "out of memory"
