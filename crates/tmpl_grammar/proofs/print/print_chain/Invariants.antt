use Rattle.std.proofs.Common.{◌≡◌, ◌++◌, drop, length, take}
use Rattle.tmpl_grammar.specs.Print.{bytes_of, chain_tokens}
use Rattle.tmpl_grammar.proofs.print.print_chain.Given as goal

abbrev pub invariant-loop-name : goal.invariant-loop-name
invariant-loop-name l =
    record {
      printed : l.bytes.items ++ bytes_of (chain_tokens (drop l.name-index l.names)) ≡ l.initial.bytes.items ++ bytes_of (chain_tokens l.names);
      kept : take (length l.initial.bytes.items) l.bytes.items ≡ l.initial.bytes.items;
    }
