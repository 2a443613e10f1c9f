-- The record grows by the piece that was put.
use Rattle.std.proofs.Common.{Bool, [], ◌∷◌, subst}
use Rattle.cost_base.specs.Outside.{GotAll}
use Rattle.cost_base.specs.Records.{unless_lacking}
use Rattle.cost_base.proofs.RecordSteps.{hands_noted}
use Rattle.cost_base.proofs.recorded_sink.RecordedSinkSink.put.Goals as goal

pub returns-clause-handed : goal.returns-clause-handed
returns-clause-handed g c =
    let before = unless_lacking c.args.self.now.lacking c.args.self.now.pieces.items in
    let now = unless_lacking c.note.new.self.lacking c.note.new.self.pieces.items in
    rw c.note.ensures.sink
    (hands_noted (g.K.Sink.handed c.args.self.now.sink c.put-answer.new.self) before now c.args.piece.now
    c.put-answer.result c.put-answer.ensures.handed
    (subst (λ (whole : Bool). GotAll before now (record { piece = c.args.piece.now; whole = whole } ∷ []))
    c.is_ok.ensures.value c.note.ensures.noted))
