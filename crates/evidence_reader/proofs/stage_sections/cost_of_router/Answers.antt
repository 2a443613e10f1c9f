use Rattle.std.proofs.Common.{None, refl}
use Rattle.std.proofs.lemmas.Result.{err_from_is_err_and, MatchResult-weaker}
use Rattle.evidence_reader.proofs.NextPlaces.{stop-then}
use Rattle.evidence_reader.proofs.SectionLines.{words_read}
use Rattle.design_problem.specs.Text.{interface_line}
use Rattle.evidence_reader.proofs.stage_sections.cost_of_router.Goals as goal

pub returns-in_err-interface : goal.returns-in_err-interface
returns-in_err-interface c =
    let p = err_from_is_err_and c.from_residual.result c.from_residual.ensures.1 in
    rw (p.1, p.2) (λ of. c.in_err-interface.ensures of c.args.router.now)

pub cost_of_interface-requires-clause-interface : goal.cost_of_interface-requires-clause-interface
cost_of_interface-requires-clause-interface c = (c.in_ok-interface.ensures None c.args.router.now).0

pub returns : goal.returns
returns c =
    λ of.
    let router = c.args.router.now in
    let interface = c.in_ok-interface.interface.now in
    let first = (c.in_ok-interface.ensures of router).1 in
    MatchResult-weaker c.cost_of_interface.result (c.cost_of_interface.ensures of)
    (λ r h. (h.0, h.2, words_read of router interface (interface_line interface) r.0 refl h.1 first h.3))
    (λ stop h. stop-then stop first h)
