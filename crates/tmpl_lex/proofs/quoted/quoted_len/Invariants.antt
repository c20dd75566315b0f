use Rattle.tmpl_lex.proofs.QuotedLemmas.{IsOpen}
use Rattle.tmpl_lex.proofs.quoted.quoted_len.Given as goal

abbrev pub invariant-loop-i : goal.invariant-loop-i
invariant-loop-i l = IsOpen l.quote l.bytes l.i l.escaped
