use Rattle.std.proofs.Common.{◌≡◌, ◌+◌, length, take, vec_capacity, vec_len}
use Rattle.tmpl_engine.proofs.reserved.fill.Given as goal

abbrev pub invariant-loop : goal.invariant-loop
invariant-loop l = record {
  kept : take (length l.initial.cells.items) l.cells.items ≡ l.initial.cells.items;
  count : vec_len l.cells ≡ vec_len l.initial.cells + l.counter;
  capacity : vec_capacity l.cells ≡ vec_capacity l.initial.cells;
}
