use Rattle.std.proofs.Common.{◌≡◌, refl, sym, subst}
use Rattle.tmpl_values.specs.Put.{IsPut}
use Rattle.tmpl_meaning.specs.Sink.{as_puts}
use Rattle.tmpl_tool.specs.Outcome.{line}
use Rattle.tmpl_tool.specs.computed.View.{parts_bytes}
use Rattle.tmpl_tool.proofs.messages.part.put_line.Goals as goal

-- what stands after the reference at the end is what was put through it, as the puts kept its name
pub returns-in-None : goal.returns-in-None
returns-in-None g c =
    let put = c.write_line.ensures in
    let same : c.err-1.given.0 ≡ c.write_line.new.put.sink.now = c.err-1.given.1 (sym put.through) in
    subst
    (λ (s : g.row.E.Denot). IsPut c.write_line.result (as_puts (g.E.Sink.so_far c.args.err.now)) (as_puts (g.E.Sink.so_far s))
    (line (parts_bytes c.args.parts.now)))
    (sym same)
    (record { count = put.count; bytes = put.bytes; through = refl })
