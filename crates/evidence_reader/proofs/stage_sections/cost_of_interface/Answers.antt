use Rattle.std.proofs.Common.{refl}
use Rattle.std.proofs.lemmas.Result.{err_from_is_err_and}
use Rattle.evidence_reader.proofs.NextPlaces.{go-then, stop-then}
use Rattle.evidence_reader.proofs.stage_sections.cost_of_interface.Goals as goal

pub returns-in_err-cost : goal.returns-in_err-cost
returns-in_err-cost c =
    let p = err_from_is_err_and c.from_residual.result c.from_residual.ensures.1 in
    rw (p.1, p.2) (λ of. c.in_err-cost.ensures of c.args.router.now)

pub returns-in_err-rest : goal.returns-in_err-rest
returns-in_err-rest c =
    let p = err_from_is_err_and c.from_residual-in_err-rest.result c.from_residual-in_err-rest.ensures.1 in
    let router = c.args.router.now in
    rw (p.1, p.2) (λ of. stop-then _ (c.in_ok-cost.ensures of router).1 (c.in_err-rest.ensures of router))

pub returns : goal.returns
returns c =
    λ of.
    let cost = c.in_ok-cost.ensures of c.args.router.now in (
      refl,
      refl,
      record { router = c.requires.router; interface = c.requires.interface; cost = cost.0 },
      go-then cost.1 (c.in_ok-rest.ensures of c.args.router.now),
    )
