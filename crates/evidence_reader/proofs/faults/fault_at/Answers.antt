use Rattle.evidence_reader.proofs.FaultLaws.{refused_here}
use Rattle.evidence_reader.proofs.faults.fault_at.Goals as goal

pub returns-clause-stops : goal.returns-clause-stops
returns-clause-stops c =
    λ place inside lacks begins.
    rw c.at.ensures (refused_here place c.args.text.read c.args.text.left.now c.fault_kind.result (c.fault_kind.ensures place inside lacks begins))
