-- For code on what is known of variables: they are seen by their parts.
use Rattle.std.proofs.Common.{rules, ◌≡◌, [], ◌∷◌}
use Rattle.tmpl_schema.specs.computed.View.{known_of, variable_of}
use Rattle.tmpl_schema.specs.declared.known.Known as held_known
use Rattle.tmpl_schema.specs.declared.known.Known.{the_lemmas as known_lemmas}
use Rattle.tmpl_schema.specs.declared.known.Variable.{out-Variable}

pub none_seen : known_of held_known.Empty ≡ []
none_seen = search (rules, known_lemmas)

pub newest_seen : (v : _)
    → known_of (held_known.More v) ≡ variable_of v.value ∷ known_of (out-Variable v.value).older
newest_seen v = search (rules, known_lemmas)

pub ruleset variables = (none_seen, newest_seen)
