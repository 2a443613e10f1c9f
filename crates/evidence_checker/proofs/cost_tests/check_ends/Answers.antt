use Rattle.std.proofs.Common.{◌∙◌, sym, ap, length, subst, List}
use Rattle.std.specs.Prelude.{Some}
use Rattle.std.proofs.lemmas.Slice.Zip.{AllZip-long}
use Rattle.design_problem.specs.declared.problem.VarName.{VarName}
use Rattle.evidence_checker.specs.Refusals.{IsFirstPlace}
use Rattle.evidence_checker.specs.Tests.{HasUnequalEnds}
use Rattle.evidence_checker.proofs.CostLaws.{given_count, known_names, given_moved, ends_equal}
use Rattle.evidence_checker.proofs.StopLaws.{stop_at}
use Rattle.evidence_checker.proofs.cost_tests.check_ends.Goals as goal

pub first_unequal-requires-clause-counts : goal.first_unequal-requires-clause-counts
first_unequal-requires-clause-counts c =
    ap length c.names_of.ensures ∙ sym (AllZip-long _ c.args.problem.now.vars c.args.lines.now c.requires.named)

pub first_unequal-requires-clause-known : goal.first_unequal-requires-clause-known
first_unequal-requires-clause-known c =
    let p = c.args.problem.now in
    known_names (length p.low) c.names_of.result.now p.vars c.args.costs.now c.names_of.ensures
    (given_count (length p.low) c.args.costs.now p.vars c.args.lines.now c.requires.given) c.keeps_conditions.ensures.named

pub first_unequal-requires-clause-given : goal.first_unequal-requires-clause-given
first_unequal-requires-clause-given c =
    let p = c.args.problem.now in
    given_moved (length p.low) c.names_of.result.now p.vars c.args.lines.now c.args.costs.now c.names_of.ensures
    (given_count (length p.low) c.args.costs.now p.vars c.args.lines.now c.requires.given) c.requires.given

pub returns-in-Some-clause-first : goal.returns-in-Some-clause-first
returns-in-Some-clause-first c =
    rw c.at.ensures (stop_at (HasUnequalEnds c.args.problem.now.vars c.args.lines.now) 53 c.in-Some.var c.from.result c.from.ensures
    (subst (λ (ns : List VarName). IsFirstPlace (HasUnequalEnds ns c.args.lines.now) (Some c.in-Some.var)) c.names_of.ensures c.in-Some.ensures))

pub returns-in-None-clause-names : goal.returns-in-None-clause-names
returns-in-None-clause-names c =
    ends_equal c.args.problem.now c.names_of.result.now c.args.lines.now c.args.costs.now c.names_of.ensures
    c.keeps_conditions.ensures.named c.requires.named c.requires.given c.in-None.ensures
