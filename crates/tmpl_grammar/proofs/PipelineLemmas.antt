-- For `one_reading`: the grammar of a pipeline and its reading agree.
use Rattle.std.proofs.Common.{List, [], IfSome}
use Rattle.tmpl_lex.specs.Piece.{Token}
use Rattle.tmpl_grammar.specs.Tree.{commands_from}
use Rattle.tmpl_grammar.specs.computed.Parser.{finished, commands_after, start}
use Rattle.tmpl_grammar.specs.Pipeline.{SpellsPipeline}
use Rattle.tmpl_grammar.specs.computed.Reading.{pipeline_in}
use Rattle.tmpl_grammar.specs.Laws.{IsAdmitted, IsComputed, IsPipeline}
use Rattle.tmpl_grammar.proofs.SpelledLemmas.{commands-back, pipeline-read}
use Rattle.tmpl_grammar.proofs.OptionLemmas.{admitted, mapped}
use Rattle.tmpl_grammar.proofs.ReadLemmas.{read-spells}

pub reads-spelled : IsComputed IsPipeline pipeline_in
unfolding pipeline_in finished
reads-spelled ts cs s = let e = pipeline-read cs ts s [] in simp (e.to, e.outer_is, e.closed_is, commands-back)

pub pipeline-admitted : (ts : List Token) → IfSome (pipeline_in ts) (λ p. SpellsPipeline p ts)
unfolding pipeline_in
pipeline-admitted ts =
    mapped commands_from (λ p. SpellsPipeline p ts) (commands_after start ts) (read-spells ts) (λ cs s. s)

pub spells-read : IsAdmitted IsPipeline pipeline_in
spells-read = admitted IsPipeline pipeline_in pipeline-admitted

pub ruleset pipelines = (reads-spelled, spells-read)
