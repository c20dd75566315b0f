use Rattle.std.proofs.Common.{sym, subst, ap}
use Rattle.tmpl_values.specs.Text.{text_of}
use Rattle.tmpl_values.specs.View.{val_of}
use Rattle.tmpl_engine.specs.computed.Output.{Grows}
use Rattle.tmpl_engine.proofs.OutputLemmas.{both-one, grows-by, put-back}
use Rattle.tmpl_engine.proofs.output.put_any.Goals as goal

-- what stands after the references at their ends is what was put through them, as the puts kept their names
pub returns-clause-given : goal.returns-clause-given
returns-clause-given g c =
    let out = c.put_text.new.out in
    let names = both-one out.piece.ghost_name out.sink.ghost_name _ _ c.put_text.ensures.through in
    put-back c.put_text.result (g.S.Sink.so_far c.args.sink.now) (g.S.Sink.so_far out.sink.now) (g.S.Sink.so_far c.sink-1.given.0) c.args.piece.now
    out.piece.now c.piece-1.given.0 _ _ (text_of (val_of c.args.value.now)) (ap g.S.Sink.so_far (c.sink-1.given.1 (sym names.1)))
    (c.piece-1.given.1 (sym names.0)) c.put_text.ensures

pub returns-clause-taken : goal.returns-clause-taken
returns-clause-taken g c =
    let out = c.put_text.new.out in
    let names = both-one out.piece.ghost_name out.sink.ghost_name _ _ c.put_text.ensures.through in
    subst (λ t. Grows (g.S.Sink.so_far c.args.sink.now) t) (sym (ap g.S.Sink.so_far (c.sink-1.given.1 (sym names.1))))
    (grows-by (g.S.Sink.so_far c.args.sink.now) (g.S.Sink.so_far out.sink.now) g.B.Beginning.taken c.requires.beginning out.grew)
