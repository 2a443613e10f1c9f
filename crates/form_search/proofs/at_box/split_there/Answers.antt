use Rattle.std.proofs.Common.{◌≡◌, refl, sym, subst, List, Some}
use Rattle.std.specs.Prelude.{All, slice_get}
use Rattle.std.proofs.lemmas.Result.{err_from_is_err_and}
use Rattle.design_problem.specs.declared.tree.Entry.TheVariants.{Split}
use Rattle.cut_advisors.specs.declared.candidate.Candidate.{Candidate}
use Rattle.form_search.specs.Points.{IsFractional}
use Rattle.form_search.proofs.AdvisorLaws.{asked_split}
use Rattle.form_search.proofs.at_box.split_there.Goals as goal

pub returns-in_err-candidates-clause-asked : goal.returns-in_err-candidates-clause-asked
returns-in_err-candidates-clause-asked g c =
    let p = err_from_is_err_and c.from_residual.result c.from_residual.ensures.1 in
    rw p.1 refl

pub returns-clause-split : goal.returns-clause-split
returns-clause-split g c =
    let costs = c.args.costs.now in
    let point = c.args.point.now in
    c.split_at.ensures.fractional costs point
    (subst (λ (candidates : List Candidate). All (IsFractional costs point) candidates) (sym c.deref-2.ensures.value) c.in_ok-candidates.ensures.fractional)

pub returns-clause-asked : goal.returns-clause-asked
returns-clause-asked g c =
    let at = subst
    (λ (cs : List Candidate). (candidate : Candidate) × (slice_get cs c.choose-picked.result ≡ Some candidate) ×
    (c.split_at.result ≡ Split candidate.var candidate.floor))
    c.deref-2.ensures.value c.split_at.ensures.candidate in
    asked_split _ c.args.costs.now c.args.point.now c.in_ok-candidates.candidates.items c.deref.result.now
    c.choose-picked.result c.split_at.result _ _ c.in_ok-candidates.ensures.all c.deref.ensures.value c.choose-picked.ensures.chosen at
