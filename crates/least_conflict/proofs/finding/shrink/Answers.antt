-- Each turn leaves fewer members to try.
use Rattle.std.proofs.Common.{refl, subst, [], ◌++◌}
use Rattle.std.proofs.lemmas.Result.{IfOk-weaker}
use Rattle.form_search.proofs.AdvisorLaws.{left_alike, left_then}
use Rattle.least_conflict.specs.declared.shrinking.Shrunk.{Shrunk}
use Rattle.least_conflict.specs.declared.shrinking.Tried.{Tried}
use Rattle.least_conflict.specs.declared.shrinking.Tried.TheVariants.{On, Undecided}
use Rattle.cost_branching.proofs.Advising.{turns_then}
use Rattle.least_conflict.specs.Deciding.{IsMemberTried}
use Rattle.least_conflict.proofs.Asking.{asked_since, before_then, called_of_sets, tried_as}
use Rattle.least_conflict.proofs.ShrinkingLaws.{not_tried}
use Rattle.least_conflict.proofs.finding.shrink.Goals as goal

pub tell-requires : goal.tell-requires
tell-requires g c = (c.args.limits.now.top, c.args.limits.now.nodes, c.requires.conflict.tree)

pub returns-in_err-members-clause-advisors : goal.returns-in_err-members-clause-advisors
returns-in_err-members-clause-advisors g c = left_alike _ _ _ refl

pub loop-shrunk-init : goal.loop-shrunk-init
loop-shrunk-init g c =
    let p = c.args.problem.now in
    let limits = c.args.limits.now in
    let told = c.in_ok-members.field-0 in
    let begun : Shrunk = record { members = told.members; rows = told.rows; without = c.new.result } in
    record {
      shrunk = not_tried p limits.top limits.nodes c.args.conflict told begun c.keeps_problem_on_graph.ensures.problem c.requires.conflict c.requires.all
          (c.in_ok-members.ensures limits.top limits.nodes c.requires.conflict.tree) refl refl c.new.ensures.items;
      asked = ([], (λ more end order. order), refl);
    }

pub returns-in_err-next-clause-advisors : goal.returns-in_err-next-clause-advisors
returns-in_err-next-clause-advisors g c =
    left_then _ _ _ _ (called_of_sets _ _ _ _ _ c.args.problem.now c.args.limits.now.top c.args.limits.now.nodes c.loop-shrunk.invariant.asked.0 _ _
    c.loop-shrunk.invariant.asked.2) c.leave_out.ensures.advisors

pub loop-shrunk-preserved : goal.loop-shrunk-preserved
loop-shrunk-preserved g c =
    let p = c.args.problem.now in
    let limits = c.args.limits.now in
    let turned : IsMemberTried p limits.top limits.nodes c.loop-shrunk.shrunk (On c.in-On.next) =
    subst (λ (t : Tried). IsMemberTried p limits.top limits.nodes c.loop-shrunk.shrunk t) c.in-On.is
    c.in_ok-next.ensures.turned in
    let told = c.in_ok-members.field-0 in
    let begun : Shrunk = record { members = told.members; rows = told.rows; without = c.new.result } in
    let was = c.loop-shrunk.invariant.asked in
    let next = tried_as _ c.loop-shrunk.shrunk _ (On c.in-On.next) _ _ c.in-On.is c.in_ok-next.ensures.asked in
    record {
      shrunk = turned.0;
      asked = (
        was.0 ++ next.0,
        before_then begun c.loop-shrunk.shrunk c.in-On.next was.0 next.0 was.1 next.1,
        turns_then _ was.0 next.0 _ _ _ was.2 next.2,
      );
    }

pub returns-in-Undecided-clause-found : goal.returns-in-Undecided-clause-found
returns-in-Undecided-clause-found g c =
    let p = c.args.problem.now in
    let limits = c.args.limits.now in
    let turned : IsMemberTried p limits.top limits.nodes c.loop-shrunk.shrunk (Undecided c.in-Undecided.set) =
    subst (λ (t : Tried). IsMemberTried p limits.top limits.nodes c.loop-shrunk.shrunk t) c.in-Undecided.is
    c.in_ok-next.ensures.turned in
    c.undecided.ensures.found limits.top limits.nodes turned.0

pub returns-in-Undecided-clause-advisors : goal.returns-in-Undecided-clause-advisors
returns-in-Undecided-clause-advisors g c =
    left_then _ _ _ _ (called_of_sets _ _ _ _ _ c.args.problem.now c.args.limits.now.top c.args.limits.now.nodes c.loop-shrunk.invariant.asked.0 _ _
    c.loop-shrunk.invariant.asked.2) c.leave_out.ensures.advisors

pub returns-clause-advisors : goal.returns-clause-advisors
returns-clause-advisors g c =
    left_then _ _ _ _ (called_of_sets _ _ _ _ _ c.args.problem.now c.args.limits.now.top c.args.limits.now.nodes c.loop-shrunk.invariant.asked.0 _ _
    c.loop-shrunk.invariant.asked.2) c.finish.ensures.advisors

pub returns-in-Undecided-clause-asked : goal.returns-in-Undecided-clause-asked
returns-in-Undecided-clause-asked g c =
    let p = c.args.problem.now in
    let limits = c.args.limits.now in
    let told = c.in_ok-members.field-0 in
    let begun : Shrunk = record { members = told.members; rows = told.rows; without = c.new.result } in
    let was = c.loop-shrunk.invariant.asked in
    let last = tried_as _ c.loop-shrunk.shrunk _ (Undecided c.in-Undecided.set) _ _ c.in-Undecided.is c.in_ok-next.ensures.asked in
    IfOk-weaker c.undecided.result _ _
    (λ end used_up. asked_since _ p limits.top limits.nodes c.args.conflict told begun c.loop-shrunk.shrunk was.0 _ _ _ end
    (c.in_ok-members.ensures limits.top limits.nodes c.requires.conflict.tree) refl refl c.new.ensures.items was.1 was.2 (last.0, last.1 end used_up, last.2))
    c.undecided.ensures.told

pub returns-clause-asked : goal.returns-clause-asked
returns-clause-asked g c =
    let p = c.args.problem.now in
    let limits = c.args.limits.now in
    let told = c.in_ok-members.field-0 in
    let begun : Shrunk = record { members = told.members; rows = told.rows; without = c.new.result } in
    let was = c.loop-shrunk.invariant.asked in
    IfOk-weaker c.finish.result _ _
    (λ end last. asked_since _ p limits.top limits.nodes c.args.conflict told begun c.loop-shrunk.shrunk was.0 _ _ _ end
    (c.in_ok-members.ensures limits.top limits.nodes c.requires.conflict.tree) refl refl c.new.ensures.items was.1 was.2 last)
    c.finish.ensures.asked
