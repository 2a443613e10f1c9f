-- What is told of the cores that are known, and of the tree.
use Rattle.std.proofs.Common.{refl}
use Rattle.least_change.proofs.telling.show_undecided.Goals as goal

pub undecided_evidence-requires-clause-known : goal.undecided_evidence-requires-clause-known
undecided_evidence-requires-clause-known c =
    record { most = c.args.so_far.most; cores = c.requires.so_far.cores; is_most = c.requires.so_far.most }

pub returns : goal.returns
returns c =
    let told = c.in_ok-evidence.ensures in
    record { costs = refl; kept = told.kept; evidence_holds = told.evidence_holds; used_up = told.used_up }
