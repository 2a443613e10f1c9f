use Rattle.std.proofs.Common.{List, ℕ, [], ◌∷◌, ◌++◌, ap, sym, subst, ◌∙◌, cond}
use Rattle.std.proofs.lemmas.List.{take_all}
use Rattle.lsdb_build.specs.Neighbours.{Port, shares_subnet}
use Rattle.lsdb_build.specs.Tallies.{same_subnet, subnet_of}
use Rattle.lsdb_build.specs.Places.{places_at, ArePlaces}
use Rattle.lsdb_build.proofs.Subnets.{shares_swap}
use Rattle.lsdb_build.proofs.Placing.{places_next}
use Rattle.lsdb_build.proofs.places.places_of.Goals as goal

pub loop-i-preserved : goal.loop-i-preserved
loop-i-preserved c = λ (p : Port).
    let i = c.loop-i.i in
    let q = c.index-ports-i.result in
    let before = places_at c.loop-i.places.by_subnet (subnet_of p) in
    c.in_ok-add.ensures (subnet_of p)
    ∙ ap (λ s. before ++ cond (same_subnet s (subnet_of p)) (i ∷ []) []) c.subnet_of.ensures
    ∙ ap (λ b. before ++ cond b (i ∷ []) []) (shares_swap q p)
    ∙ ap (λ (places : List ℕ). places ++ cond (shares_subnet p q) (i ∷ []) []) (c.loop-i.invariant p)
    ∙ sym (places_next (shares_subnet p) c.args.ports.now i q c.loop-i-test.true c.index-ports-i.is)

pub returns : goal.returns
returns c = subst (ArePlaces c.loop-i.places.by_subnet) (take_all c.loop-i.i c.args.ports.now c.loop-i-test.false) c.loop-i.invariant
