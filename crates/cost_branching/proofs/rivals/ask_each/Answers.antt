use Rattle.std.proofs.Common.{ℕ, ◌+◌, ◌≤◌, Bool, List, Option, [], length, sym, subst, append-nil, arith}
use Rattle.rival_separation.specs.Askers.{AreCheapestRivals}
use Rattle.form_search.specs.declared.source.Asked.{Asked}
use Rattle.design_problem.specs.declared.form.Row.{Row}
use Rattle.cost_branching.specs.Asking.{AreAskedAmong, IsRequestAsked}
use Rattle.cost_branching.specs.Rivals.{KnownRows}
use Rattle.cost_branching.proofs.Asked.{all_asked_among, begun_more, more_lead_among, none_asked_among, one_added_among}
use Rattle.cost_branching.proofs.rivals.ask_each.Goals as goal
use Rattle.cost_branching.proofs.rivals.ask_each.Goals.{then-branch, else-branch}

pub loop-request-init : goal.loop-request-init
loop-request-init c = record {
  asked = none_asked_among c.args.point.now (record { problem = c.args.problem.now; rows = c.args.rows.now.items })
      c.args.pool.now c.requires.rows c.requires.met;
  more = record { more = []; same = sym (append-nil c.args.rows.now.items) };
}

pub loop-request-preserved : goal.loop-request-preserved
loop-request-preserved c =
    let point = c.args.point.now in
    let request = c.loop-request.request in
    let known : List Row → KnownRows = λ rows. record { problem = c.args.problem.now; rows = rows } in
    let old = known c.args.rows.now.items in
    let forms = c.args.pool.now in
    let now = known c.loop-request.rows.items in
    let now_forms = c.loop-request.pool in
    let new = known c.ask_one.new.rows.items in
    let new_forms = c.ask_one.new.pool in
    let are = subst (λ (rivals : List (Option (List ℕ))). AreCheapestRivals c.args.problem.now.graph point c.args.problem.now.requests rivals)
    (sym c.as_slice-told.ensures.value) c.in_ok-rivals.ensures.rivals in
    let one = c.in_ok-ask_one.ensures.one point are in
    let IsOne : Bool → Type 0 = λ b. IsRequestAsked point request now now_forms new new_forms b in
    let Then : Asked → Type 0 = λ a. AreAskedAmong point (request + 1) old forms new new_forms a in
    record {
      asked = elim c.if-branch.branch [
        | then-branch w ↦
            subst Then (sym w.asked-is)
            (one_added_among point request old forms now now_forms new new_forms c.loop-request.asked
            c.loop-request.invariant.asked c.requires.met c.requires.point.count
            (subst IsOne w.if-branch.true one))
        | else-branch w ↦
            subst Then (sym w.asked-is)
            (more_lead_among point request old forms now now_forms new new_forms c.loop-request.asked c.loop-request.invariant.asked
            (subst IsOne w.if-branch.false one))
      ];
      more = begun_more c.args.rows.now.items point request now now_forms new new_forms _ c.loop-request.invariant.more one;
    }

pub returns-clause-asked : goal.returns-clause-asked
returns-clause-asked c =
    let known : List Row → KnownRows = λ rows. record { problem = c.args.problem.now; rows = rows } in
    let all : length c.args.problem.now.requests ≤ c.loop-request.request = omega (arith, c.request_count-count.ensures, c.loop-request-test.false) in
    all_asked_among c.args.point.now c.loop-request.request (known c.args.rows.now.items) c.args.pool.now
    (known c.loop-request.rows.items) c.loop-request.pool c.loop-request.asked all c.loop-request.invariant.asked
