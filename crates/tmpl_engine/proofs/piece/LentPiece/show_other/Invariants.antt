use Rattle.tmpl_engine.proofs.piece.LentPiece.show_other.Given as goal

abbrev pub ghosts-put_any : goal.ghosts-put_any
ghosts-put_any g a = record { taken = g.S.Sink.so_far a.sink.now }
