-- Each cap brings the ends nearer; what is known stays true, and the advisors stand as their calls left them.
use Rattle.std.proofs.Common.{◌≤◌, ◌∷◌, [], ◌++◌, refl, arith}
use Rattle.std.proofs.lemmas.Result.{IfOk-weaker}
use Rattle.design_problem.specs.Rows.{greatest_cost}
use Rattle.form_search.proofs.AdvisorLaws.{left_then}
use Rattle.cost_branching.proofs.Advising.{turns_more}
use Rattle.printed_rows.proofs.CapBoxes.{no_low_above}
use Rattle.least_bound.specs.AdvisorsAsked.{CapDecision}
use Rattle.least_bound.specs.Caps.{caps_of}
use Rattle.least_bound.proofs.Settling.{before_more, called_at_caps, decision, ended_before, next_is}
use Rattle.least_bound.proofs.least_cap.narrowed.Goals as goal

pub loop-cap-init : goal.loop-cap-init
loop-cap-init g c = record {
  pool = c.requires.pool;
  so_far = c.requires.so_far;
  decisions = [];
  before = λ more a are. are;
  asked = refl;
}

pub decide-requires-clause-cap : goal.decide-requires-clause-cap
decide-requires-clause-cap g c =
    let known = c.loop-cap.invariant.so_far in
    let above : greatest_cost c.args.problem.now.low ≤ c.in-Some.cap = omega (arith, known.lowest_cap, known.from_lowest_cap, c.in-Some.ensures.within) in
    no_low_above c.args.problem.now.low c.in-Some.cap above

pub returns-in_err-found-clause-advisors : goal.returns-in_err-found-clause-advisors
returns-in_err-found-clause-advisors g c =
    left_then _ _ _ _
    (called_at_caps _ _ _ _ _ c.args.problem.now c.args.limits.now.top c.args.limits.now.nodes c.loop-cap.invariant.decisions _ _ c.loop-cap.invariant.asked)
    c.decide.ensures.advisors

pub returns-clause-asked : goal.returns-clause-asked
returns-clause-asked g c =
    let p = c.args.problem.now in
    let was = c.loop-cap.invariant in
    let so_far = c.loop-cap.so_far in
    IfOk-weaker c.answer.result _ _
    (λ a tells. (
      was.decisions,
      ended_before p (caps_of c.args.so_far) (caps_of so_far) was.decisions a was.before
          (next_is p so_far _ was.so_far.lowest_cap c.in_default.ensures.rule) tells,
      was.asked,
    ))
    c.answer.ensures.tells

pub returns-clause-advisors : goal.returns-clause-advisors
returns-clause-advisors g c =
    called_at_caps _ _ _ _ _ c.args.problem.now c.args.limits.now.top c.args.limits.now.nodes c.loop-cap.invariant.decisions _ _ c.loop-cap.invariant.asked

pub loop-cap-smaller : goal.loop-cap-smaller
loop-cap-smaller g c =
    let nearer = c.after-so_far.ensures.nearer c.args.problem.now c.args.limits.now.top c.args.limits.now.nodes
    c.decide.new.pool c.in_ok-found.ensures.decided in
    omega (arith, nearer, c.in-Some.ensures.within)

pub loop-cap-preserved : goal.loop-cap-preserved
loop-cap-preserved g c =
    let p = c.args.problem.now in
    let was = c.loop-cap.invariant in
    let so_far = c.loop-cap.so_far in
    let decided = c.in_ok-found.ensures in
    let d : CapDecision = decision c.in-Some.cap c.decide.new.pool c.in_ok-found.found in
    record {
      pool = c.decide.ensures.pool;
      so_far =
          c.after-so_far.ensures.holds p c.args.limits.now.top c.args.limits.now.nodes c.loop-cap.pool
          c.decide.new.pool c.keeps_problem_on_graph.ensures.problem c.decide.ensures.pool c.decide.ensures.more
          was.so_far
          decided.decided;
      decisions = was.decisions ++ d ∷ [];
      before = before_more p (caps_of c.args.so_far) (caps_of so_far) (caps_of c.after-so_far.result) was.decisions d was.before
          (next_is p so_far _ was.so_far.lowest_cap c.in-Some.ensures.rule) c.after-so_far.ensures.caps;
      asked = turns_more _ was.decisions d _ _ _ was.asked
          (record { decided = decided.decided; tree = decided.asked.tree; is_tree = decided.asked.is_tree; calls = decided.asked.calls });
    }
