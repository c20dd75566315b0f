use Rattle.std.proofs.Common.{◌≡◌, ◌++◌, Ok, drop}
use Rattle.tmpl_values.specs.Put.{IsPut}
use Rattle.tmpl_tool.specs.Source.{Bytes}
use Rattle.tmpl_tool.specs.computed.View.{parts_bytes}
use Rattle.tmpl_tool.proofs.messages.part.write_parts.Given as goal

abbrev pub invariant-loop-part : goal.invariant-loop-part
invariant-loop-part g l =
    (before : Bytes) × (parts_bytes l.parts ≡ before ++ parts_bytes (drop l.part-index l.parts))
    × IsPut {F = g.row.P-Fault.Denot} (Ok tt) (g.P.Put.so_far l.initial.put) (g.P.Put.so_far l.put) before
