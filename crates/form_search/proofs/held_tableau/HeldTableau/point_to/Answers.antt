use Rattle.std.proofs.Common.{arith, ap, length}
use Rattle.std.proofs.lemmas.Result.{err_from_is_err_and}
use Rattle.area_graph.specs.declared.Point.{Point}
use Rattle.form_search.proofs.held_tableau.HeldTableau.point_to.Goals as goal

pub returns-in_err-point-clause-told : goal.returns-in_err-point-clause-told
returns-in_err-point-clause-told c = let p = err_from_is_err_and c.from_residual.result c.from_residual.ensures.1 in rw p.1 tt

pub returns-in_err-point-clause-places : goal.returns-in_err-point-clause-places
returns-in_err-point-clause-places c = ap (λ (p : Point). length p.values) c.in_err-point.ensures.kept

pub returns-in_err-point-clause-wide : goal.returns-in_err-point-clause-wide
returns-in_err-point-clause-wide c = let p = err_from_is_err_and c.from_residual.result c.from_residual.ensures.1 in rw (p.1, p.2) c.in_err-point.ensures.wide

pub returns-clause-told : goal.returns-clause-told
returns-clause-told c = (c.in_ok-point.ensures.least, c.in_ok-point.ensures.small)

pub returns-clause-places : goal.returns-clause-places
returns-clause-places c = omega (arith, c.in_ok-point.ensures.least.inside.low_count, c.requires.places)

pub returns-clause-wide : goal.returns-clause-wide
returns-clause-wide c = tt
