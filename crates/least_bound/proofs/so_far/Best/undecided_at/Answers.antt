-- Without costs the tree at the greatest bound stays.
use Rattle.std.proofs.Common.{◌≡◌, refl, subst, sym}
use Rattle.std.specs.Prelude.{Some}
use Rattle.least_bound.specs.declared.so_far.Best.{Best}
use Rattle.least_bound.specs.AdvisorsAsked.{undecided_after}
use Rattle.least_bound.specs.Caps.{BestHolds, known_costs, undecided_of}
use Rattle.least_bound.proofs.CapLaws.{still_none}
use Rattle.least_bound.proofs.so_far.Best.undecided_at.Goals as goal

pub returns-in-NoCosts-clause-holds : goal.returns-in-NoCosts-clause-holds
returns-in-NoCosts-clause-holds c = λ p top nodes old new most holds grows used_up below.
    still_none p top nodes old new most c.args.undecided.cap c.in-NoCosts.tree grows below
    (subst (λ (b : Best). BestHolds p top nodes old most b) c.in-NoCosts.is holds)

pub returns-in-NoCosts-clause-undecided : goal.returns-in-NoCosts-clause-undecided
returns-in-NoCosts-clause-undecided c =
    subst (λ (b : Best). Some c.in-NoCosts.tree ≡ undecided_after (known_costs b) (undecided_of b) c.args.undecided) (sym c.in-NoCosts.is) refl
