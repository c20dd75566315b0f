use Rattle.std.proofs.Common.{ap, ◌∙◌}
use Rattle.std.proofs.lemmas.Iterator.{YieldsList-from_chars}
use Rattle.std.proofs.lemmas.Iterator.Consumers.{YieldsList-turn, YieldsList-end}
use Rattle.std.specs.Str.{chars}
use Rattle.tmpl_formats.specs.computed.PatternMarks.{finds, begun, read}
use Rattle.tmpl_formats.specs.PatternView.{marks_of}
use Rattle.tmpl_formats.specs.computed.SearchView.{search_of}
use Rattle.tmpl_formats.proofs.PatternRunLemmas.{finds-step, finds-end, decides}
use Rattle.tmpl_formats.proofs.pattern_search.has_match.Goals as goal

pub loop-character-preserved : goal.loop-character-preserved
loop-character-preserved c =
    let t = YieldsList-turn (YieldsList-from_chars c.args.text.now c.utf8.text cc) c.loop-character.yielded _ c.loop-character.yielded_by _ _ c.in-Some.character c.in-Some.is c.next.ensures.steps in
    finds-step (search_of c.loop-character.search) (search_of c.read.new.self) (chars c.args.text.now) c.loop-character.yielded c.in-Some.character
    (finds (begun (marks_of c.args.root.now)) (chars c.args.text.now)) c.loop-character.invariant t
    (c.read.ensures ∙ ap (read (search_of c.loop-character.search)) c.from.ensures)

pub returns : goal.returns
returns c =
    let t = YieldsList-end (YieldsList-from_chars c.args.text.now c.utf8.text cc) c.loop-character.yielded _ c.loop-character.yielded_by _ _ c.in-None.is c.next.ensures.steps in
    decides (marks_of c.args.root.now) (chars c.args.text.now) c.has_found.result
    (c.has_found.ensures ∙ finds-end (search_of c.loop-character.search) (chars c.args.text.now) c.loop-character.yielded
    (finds (begun (marks_of c.args.root.now)) (chars c.args.text.now)) c.loop-character.invariant t.1)
