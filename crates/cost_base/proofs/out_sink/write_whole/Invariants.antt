use Rattle.std.proofs.Common.{◌≤◌, take, length}
use Rattle.std.specs.Io.KnownBytes.{Appends}
use Rattle.cost_base.proofs.out_sink.write_whole.Given as goal

abbrev pub invariant-loop : goal.invariant-loop
invariant-loop g l = record {
  within : l.written ≤ length l.piece;
  sent : Appends (g.W.Write.contents l.initial.output) (g.W.Write.contents l.output) (take l.written l.piece);
}
