-- Each piece is put after the others.
use Rattle.std.proofs.Common.{◌≡◌, ◌++◌, sym}
use Rattle.std.proofs.lemmas.List.{take-append-drop}
use Rattle.report_writer.specs.Cutting.{piece_size}
use Rattle.report_writer.proofs.Writing.{begin, turn, stop_at}
use Rattle.report_writer.proofs.Cuts.{put_none, put_next, put_short}
use Rattle.report_writer.proofs.writer.put_text.Goals as goal

pub loop-left-init : goal.loop-left-init
loop-left-init g c = record {
  bytes = begin (g.K.Sink.handed c.args.out.now c.args.out.now) (g.K.Sink.faults c.args.out.now) c.args.text.now
      (g.met.K.Sink.handed_none c.args.out.now);
  pieces = put_none g.K.Sink.handed c.args.out.now (piece_size c.args.pieces) c.args.text.now;
}

pub loop-left-preserved : goal.loop-left-preserved
loop-left-preserved g c =
    let a = c.args.out.now in
    let b = c.loop-left.out in
    let d = c.put.new.self in
    let parts : c.loop-left.left.now ≡ c.split_at.result.0.now ++ c.split_at.result.1.now =
    rw (c.split_at.ensures.front, c.split_at.ensures.back)
    (sym (take-append-drop c.first_piece_length.result c.loop-left.left.now)) in
    record {
      bytes = turn (g.K.Sink.handed a b) (g.K.Sink.handed b d) (g.K.Sink.handed a d) _ _ _ c.loop-left.left.now
          c.args.text.now _ c.split_at.result.0.now c.split_at.result.1.now (g.met.K.Sink.handed_more a b d) parts
          c.loop-left.invariant.bytes c.in_ok-put.ensures.handed c.in_ok-put.ensures.cause;
      pieces = put_next g.K.Sink.handed a b d (piece_size c.args.pieces) c.args.text.now c.loop-left.left.now
          c.first_piece_length.result c.split_at.result.0.now c.split_at.result.1.now
          c.first_piece_length.ensures.size c.split_at.ensures.front c.split_at.ensures.back
          c.loop-left.invariant.pieces c.in_ok-put.ensures.handed;
    }

pub returns-in_err-put-clause-handed : goal.returns-in_err-put-clause-handed
returns-in_err-put-clause-handed g c =
    let a = c.args.out.now in
    let b = c.loop-left.out in
    let d = c.put.new.self in
    let parts : c.loop-left.left.now ≡ c.split_at.result.0.now ++ c.split_at.result.1.now =
    rw (c.split_at.ensures.front, c.split_at.ensures.back)
    (sym (take-append-drop c.first_piece_length.result c.loop-left.left.now)) in
    stop_at (g.K.Sink.handed a b) (g.K.Sink.handed b d) (g.K.Sink.handed a d) _ _ _ c.loop-left.left.now c.args.text.now
    _ c.from_residual.result c.from_residual.ensures.0 c.split_at.result.0.now c.split_at.result.1.now
    (g.met.K.Sink.handed_more a b d) parts c.loop-left.invariant.bytes c.in_err-put.ensures.handed
    c.in_err-put.ensures.cause

pub returns-in_err-put-clause-pieces : goal.returns-in_err-put-clause-pieces
returns-in_err-put-clause-pieces g c =
    put_short g.K.Sink.handed c.args.out.now c.loop-left.out c.put.new.self (piece_size c.args.pieces) c.args.text.now
    c.loop-left.left.now c.first_piece_length.result c.split_at.result.0.now c.from_residual.result
    c.from_residual.ensures.0 c.first_piece_length.ensures.size c.split_at.ensures.front c.loop-left.invariant.pieces
    c.in_err-put.ensures.handed
