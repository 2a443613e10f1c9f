use Rattle.std.proofs.Common.{◌<◌, ◌≤◌, length, arith}
use Rattle.spread_sets.specs.Sources.{set_at}
use Rattle.spread_sets.proofs.Ties.{ties_ended, ties_forms, ties_put}
use Rattle.spread_sets.proofs.source.Spreads.push_ties.Goals as goal

pub loop-number-preserved : goal.loop-number-preserved
loop-number-preserved g c =
    let old = c.args.self.now in
    let number = c.loop-number.number in
    let inside : number < length (set_at old.sets c.args.place) = omega (arith, c.members-number-end.ensures, c.loop-number-test.true) in
    ties_put c.args.place number c.member-first.result c.member-second.result old c.args.pool.now c.loop-number.self
    c.loop-number.pool c.push_both.new.self c.push_both.new.pool c.loop-number.invariant inside
    c.member-first.ensures c.member-second.ensures c.in_ok-push_both.ensures.rows c.in_ok-push_both.ensures.forms

pub returns-clause-rows : goal.returns-clause-rows
returns-clause-rows g c =
    let ended : length (set_at c.args.self.now.sets c.args.place) ≤ c.loop-number.number =
    omega (arith, c.members-number-end.ensures, c.loop-number-test.false) in
    ties_ended c.args.place c.loop-number.number c.args.self.now c.args.pool.now c.loop-number.self c.loop-number.pool c.loop-number.invariant ended

pub returns-clause-forms : goal.returns-clause-forms
returns-clause-forms g c =
    let ended : length (set_at c.args.self.now.sets c.args.place) ≤ c.loop-number.number =
    omega (arith, c.members-number-end.ensures, c.loop-number-test.false) in
    ties_forms c.args.place c.loop-number.number c.args.self.now c.args.pool.now c.loop-number.self c.loop-number.pool c.loop-number.invariant ended
