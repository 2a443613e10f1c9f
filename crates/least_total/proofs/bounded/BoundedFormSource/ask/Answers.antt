-- First the rows come, then the form of the total where it is negative at the point.
use Rattle.std.proofs.Common.{[], ◌∷◌, ◌++◌, refl, sym, ◌∙◌, ap, subst}
use Rattle.std.specs.Prelude.{pos, ◌<ℤ◌, ◌≤ℤ◌}
use Rattle.design_problem.specs.Problems.{DesignProblem, IsProblemOnGraph}
use Rattle.design_problem.specs.Forms.{value_at}
use Rattle.form_search.specs.Sources.{Grows, IsSourceAnswer}
use Rattle.form_search.specs.declared.source.Asked.TheVariants.{Added}
use Rattle.least_total.specs.Totals.{LeadsWithin, form_of_total}
use Rattle.least_total.specs.Bounded.{IsPoolWithTotal, BoundedRows, IsTrueWithin}
use Rattle.least_total.proofs.Bounding.{after_rows, answered_over, answered_within, grows_over, in_step_after, in_step_over, not_come, rows_met}
use Rattle.least_total.proofs.bounded.BoundedFormSource.ask.Goals as goal

pub ask_all-requires-clause-met : goal.ask_all-requires-clause-met
ask_all-requires-clause-met g c =
    let old : BoundedRows = record { known = c.self.inside.rivals; most = c.self.inside.most; before = c.self.inside.before } in
    rows_met old c.args.pool.now c.args.point.now
    (subst (λ (s : BoundedRows). IsPoolWithTotal s c.args.pool.now) (sym c.self.view_is) c.requires.in_step)
    c.requires.met

pub returns-then-not-is_over-clause-answer : goal.returns-then-not-is_over-clause-answer
returns-then-not-is_over-clause-answer g c =
    let old : BoundedRows = record { known = c.self.inside.rivals; most = c.self.inside.most; before = c.self.inside.before } in
    let point = c.args.point.now in
    let pool = c.args.pool.now in
    let are = c.in_ok-asked.ensures.asked in
    let within : pos 0 ≤ℤ value_at (form_of_total old.known.problem old.most) point =
    subst (λ (p : DesignProblem). pos 0 ≤ℤ value_at (form_of_total p old.most) point) are.problem
    c.if-not-is_over.ensures in
    subst (λ (s : BoundedRows). IsSourceAnswer (LeadsWithin s.known.problem s.most) point pool c.ask_all.new.pool c.in_ok-asked.asked) c.self.view_is
    (answered_within old pool point c.ask_all.new.self c.ask_all.new.pool c.in_ok-asked.asked c.requires.met are within)

pub returns-then-not-is_over-clause-in_step : goal.returns-then-not-is_over-clause-in_step
returns-then-not-is_over-clause-in_step g c =
    let old : BoundedRows = record { known = c.self.inside.rivals; most = c.self.inside.most; before = c.self.inside.before } in
    in_step_after old c.args.pool.now c.args.point.now c.ask_all.new.self c.ask_all.new.pool c.in_ok-asked.asked
    (subst (λ (s : BoundedRows). IsPoolWithTotal s c.args.pool.now) (sym c.self.view_is) c.requires.in_step)
    c.in_ok-asked.ensures.asked

pub returns-clause-answer : goal.returns-clause-answer
returns-clause-answer g c =
    let old : BoundedRows = record { known = c.self.inside.rivals; most = c.self.inside.most; before = c.self.inside.before } in
    let point = c.args.point.now in
    let pool = c.args.pool.now in
    let are = c.in_ok-asked.ensures.asked in
    let negative : value_at (form_of_total old.known.problem old.most) point <ℤ pos 0 =
    subst (λ (p : DesignProblem). value_at (form_of_total p old.most) point <ℤ pos 0) are.problem
    c.if-not-is_over.ensures in
    let came = c.in_ok-add_total.ensures.form ∙ ap (λ (p : DesignProblem). c.ask_all.new.pool ++ form_of_total p old.most ∷ []) are.problem in
    subst (λ (s : BoundedRows). IsSourceAnswer (LeadsWithin s.known.problem s.most) point pool c.add_total.new.pool Added) c.self.view_is
    (answered_over old pool point c.ask_all.new.pool c.add_total.new.pool c.requires.met negative came)

pub returns-clause-grows : goal.returns-clause-grows
returns-clause-grows g c =
    let old : BoundedRows = record { known = c.self.inside.rivals; most = c.self.inside.most; before = c.self.inside.before } in
    let are = c.in_ok-asked.ensures.asked in
    let came = c.in_ok-add_total.ensures.form ∙ ap (λ (p : DesignProblem). c.ask_all.new.pool ++ form_of_total p old.most ∷ []) are.problem in
    subst (λ (s : BoundedRows). Grows (IsTrueWithin s.known.problem s.most) c.args.pool.now c.add_total.new.pool) c.self.view_is
    (grows_over old.known.problem old.most c.args.pool.now c.ask_all.new.pool c.add_total.new.pool
    (record {
      kept = subst IsProblemOnGraph c.problem.ensures c.keeps_problem_on_graph.ensures;
      small = c.self.invariant;
      same = refl;
    }) c.ask_all.ensures.grows came)

pub returns-clause-in_step : goal.returns-clause-in_step
returns-clause-in_step g c =
    let old : BoundedRows = record { known = c.self.inside.rivals; most = c.self.inside.most; before = c.self.inside.before } in
    let point = c.args.point.now in
    let pool = c.args.pool.now in
    let are = c.in_ok-asked.ensures.asked in
    let in_step = subst (λ (s : BoundedRows). IsPoolWithTotal s pool) (sym c.self.view_is) c.requires.in_step in
    let negative : value_at (form_of_total old.known.problem old.most) point <ℤ pos 0 =
    subst (λ (p : DesignProblem). value_at (form_of_total p old.most) point <ℤ pos 0) are.problem
    c.if-not-is_over.ensures in
    in_step_over (after_rows old c.ask_all.new.self) c.add_total.new.self c.ask_all.new.pool c.add_total.new.pool
    (in_step_after old pool point c.ask_all.new.self c.ask_all.new.pool c.in_ok-asked.asked in_step are)
    (not_come old pool point in_step c.requires.met negative) c.in_ok-add_total.ensures.known
    c.in_ok-add_total.ensures.most c.in_ok-add_total.ensures.place c.in_ok-add_total.ensures.form
