use Rattle.std.proofs.Common.{◌≡◌, ◌++◌, take}
use Rattle.tmpl_code.specs.View.{names_of}
use Rattle.tmpl_code.specs.computed.Tables.{Grows}
use Rattle.tmpl_code.proofs.tables.Tables.add_names.Given as goal

abbrev pub invariant-loop-name : goal.invariant-loop-name
invariant-loop-name l = record {
  names : names_of l.self ≡ names_of l.fn.self ++ take l.name-index l.names;
  grows : Grows l.fn.self l.self;
}
