use Rattle.std.proofs.Common.{◌≤◌, vec_len}
use Rattle.std.specs.Io.KnownBytes.{Consumes}
use Rattle.cost_base.proofs.file_shelf.read_within.Given as goal

abbrev pub invariant-loop : goal.invariant-loop
invariant-loop g l = record {
  within : vec_len l.into ≤ l.most;
  came : Consumes (g.F.Read.remaining l.initial.reader) (g.F.Read.remaining l.reader) l.into.items;
}
