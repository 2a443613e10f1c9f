-- The sink was handed all but what is left, piece by piece.
use Rattle.std.proofs.Common.{length}
use Rattle.report_writer.specs.Cutting.{ArePutOf, piece_size}
use Rattle.report_writer.proofs.Writing.{IsUnderway}
use Rattle.report_writer.proofs.writer.put_text.Given as goal

abbrev pub invariant-loop-left : goal.invariant-loop-left
invariant-loop-left g l = record {
  bytes : IsUnderway (g.K.Sink.handed l.initial.out l.out) (g.K.Sink.faults l.initial.out) (g.K.Sink.faults l.out) l.left l.text;
  pieces : ArePutOf g.K.Sink.handed l.initial.out l.out (piece_size l.pieces) l.text l.left;
}

abbrev pub decreases-loop-left : goal.decreases-loop-left
decreases-loop-left g l = length l.left
