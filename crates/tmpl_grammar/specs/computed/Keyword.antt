-- The keywords as the code tells them apart.
use Rattle.std.specs.Prelude.{ℕ, List, codes}
use Rattle.tmpl_grammar.specs.Keyword.{control_spelling}
use Rattle.tmpl_grammar.specs.declared.keyword.Keyword.{Keyword}
use Rattle.tmpl_grammar.specs.declared.keyword.Keyword.TheVariants as word

-- how a keyword is spelled
abbrev pub spelling : Keyword → List ℕ
spelling (word.Control c) = control_spelling c
spelling word.Else = codes "else"
spelling word.End = codes "end"
spelling word.Break = codes "break"
spelling word.Continue = codes "continue"
spelling word.Define = codes "define"
spelling word.Template = codes "template"
spelling word.Block = codes "block"
