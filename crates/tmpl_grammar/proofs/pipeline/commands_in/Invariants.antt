use Rattle.std.proofs.Common.{◌≡◌, drop, map}
use Rattle.tmpl_lex.specs.View.{token_of}
use Rattle.tmpl_grammar.specs.computed.Limited.{pruned_commands}
use Rattle.tmpl_grammar.specs.computed.Parser.{start}
use Rattle.tmpl_grammar.specs.computed.View.{parser_of}
use Rattle.tmpl_grammar.proofs.pipeline.commands_in.Given as goal

abbrev pub invariant-loop-token : goal.invariant-loop-token
invariant-loop-token l =
    pruned_commands l.keeps (parser_of l.parser) (map token_of (drop l.token-index l.tokens)) ≡ pruned_commands l.keeps start (map token_of l.tokens)
