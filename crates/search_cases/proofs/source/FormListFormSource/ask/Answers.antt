use Rattle.std.proofs.Common.{length, rules, sym, subst, ◌+◌, ◌<◌, ◌≤◌}
use Rattle.std.specs.Prelude.{All}
use Rattle.form_search.specs.declared.source.Asked.{Asked}
use Rattle.search_cases.specs.SmallForms.{AreFormsAsked, IsTiny}
use Rattle.search_cases.proofs.Asking.{asked_all, asked_more}
use Rattle.search_cases.proofs.source.FormListFormSource.ask.Goals as goal

pub loop-place-preserved : goal.loop-place-preserved
loop-place-preserved c =
    let list = c.args.self.now in
    let tiny : All (IsTiny list.variables) list.forms = search rules in
    let inside : c.loop-place.place < length list.forms = search rules in
    subst (λ (asked : Asked). AreFormsAsked list c.args.point.now (c.loop-place.place + 1) c.args.pool.now c.ask_one.new.pool asked)
    (sym c.joined-asked.ensures)
    (asked_more list c.args.point.now c.loop-place.place c.args.pool.now c.loop-place.pool c.ask_one.new.pool
    c.loop-place.asked c.in_ok-ask_one.field-0 tiny c.requires.met inside c.loop-place.invariant
    c.in_ok-ask_one.ensures.one)

pub returns-clause-answer : goal.returns-clause-answer
returns-clause-answer c =
    let list = c.args.self.now in
    let all : length list.forms ≤ c.loop-place.place = search rules in
    asked_all list c.args.point.now c.loop-place.place c.args.pool.now c.loop-place.pool c.loop-place.asked all c.loop-place.invariant
