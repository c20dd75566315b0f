use Rattle.std.proofs.Common.{Some}
use Rattle.std.proofs.lemmas.Map.Text.{btree_map_updates_str}
use Rattle.std.specs.Str.{bytes_eq}
use Rattle.tmpl_code.proofs.ScopeLemmas.{pointed}
use Rattle.tmpl_code.proofs.scope.newest.put_place.Goals as goal

pub returns-clause-ok : goal.returns-clause-ok
returns-clause-ok c = λ q.
    pointed c.args.newest.now c.insert.new.self q (Some c.args.place) (bytes_eq c.args.name.now q)
    (btree_map_updates_str c.args.name.now c.args.newest.now c.insert.new.self _ c.in_ok-insert.ensures.updates q)
