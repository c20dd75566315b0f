use Rattle.std.proofs.Common.{rules}
use Rattle.std.proofs.lemmas.Map.Text.{btree_map_updates_str}
use Rattle.std.specs.Str.{bytes_eq}
use Rattle.tmpl_code.proofs.ScopeLemmas.{pointed}
use Rattle.tmpl_code.proofs.scope.newest.take_place.Goals as goal

pub returns-in-Some : goal.returns-in-Some
returns-in-Some c = λ q.
    let w = c.args.hidden in
    pointed c.args.newest.now (c.get_mut.follows.lender w) q w (bytes_eq c.args.name.now q)
    (btree_map_updates_str c.args.name.now c.args.newest.now (c.get_mut.follows.lender w) _ ((c.get_mut.follows.holds w).3 (search rules)) q)
