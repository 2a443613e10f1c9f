-- The kept tree, as it is printed, shows the least total.
use Rattle.std.proofs.Common.{subst}
use Rattle.std.specs.Prelude.{Option}
use Rattle.least_total.specs.declared.rounds.TotalTree.{TotalTree}
use Rattle.least_total.specs.Rounds.{IsKeptBelowTotal}
use Rattle.least_total.proofs.FindingLaws.{kept_shows}
use Rattle.least_total.proofs.finding.proof_of.Goals as goal

pub returns-in_ok-rows-in-Some : goal.returns-in_ok-rows-in-Some
returns-in_ok-rows-in-Some c = λ p top nodes cap least can kept.
    kept_shows p top nodes cap least c.in-Some.tree c.in_ok-rows-in-Some.field-0 can
    (subst (λ (k : Option TotalTree). IsKeptBelowTotal p top nodes cap least k) c.in-Some.is kept)
    c.in_ok-rows-in-Some.ensures
