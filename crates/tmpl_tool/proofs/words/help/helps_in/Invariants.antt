use Rattle.std.proofs.Common.{◌≡◌, map, drop}
use Rattle.std.specs.String.{string_bytes}
use Rattle.tmpl_tool.specs.Help.{helps_in}
use Rattle.tmpl_tool.proofs.words.help.helps_in.Given as goal

abbrev pub invariant-loop-word : goal.invariant-loop-word
invariant-loop-word l =
    helps_in (map (λ word. string_bytes word) l.words)
    ≡ helps_in (map (λ word. string_bytes word) (drop l.word-index l.words))
