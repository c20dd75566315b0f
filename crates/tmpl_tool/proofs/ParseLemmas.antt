-- For `tool`: what accepts and refuses each file by the rules is what the parser computes, so its files may be told by that.
use Rattle.std.proofs.Common.{subst}
use Rattle.tmpl_syntax.specs.computed.Parse.{parsed}
use Rattle.tmpl_syntax.proofs.ReadingLemmas.{has-one-outcome, has-outcome}
use Rattle.tmpl_tool.specs.Laws.{HasOneParse, HasParse}
use Rattle.tmpl_tool.specs.Tool.{IsParse, Parse}

pub has_one_parse : HasOneParse
has_one_parse parse other p q =
    λ i old file bytes. has-one-outcome old file bytes (parse old file bytes) (other old file bytes) (p old file bytes) (q old file bytes) i

pub has_parse : HasParse
has_parse = (parsed, has-outcome)

-- what a file comes to by the parser it comes to by each such function
pub for_each : (P : Parse → Type 0) → P parsed → (parse : Parse) → IsParse parse → P parse
for_each P h parse is = subst P (has_one_parse parsed parse has-outcome is) h

pub ruleset one_parse = (has_parse, has_one_parse)
