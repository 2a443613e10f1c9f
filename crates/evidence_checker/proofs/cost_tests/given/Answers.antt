use Rattle.std.proofs.Common.{◌∙◌, sym, ap, length}
use Rattle.std.proofs.lemmas.Slice.Zip.{AllZip-long}
use Rattle.evidence_checker.proofs.cost_tests.given.Goals as goal

pub costs_given-requires-clause-counts : goal.costs_given-requires-clause-counts
costs_given-requires-clause-counts c =
    ap length c.names_of.ensures ∙ sym (AllZip-long _ c.args.problem.now.vars c.args.lines.now c.requires)
