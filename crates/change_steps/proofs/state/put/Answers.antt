use Rattle.std.proofs.Common.{◌∙◌, ℕ, List, ap, arith, cond, get_or, refl, take_all}
use Rattle.cost_base.specs.Marks.{is_one_of}
use Rattle.change_steps.proofs.StateLaws.{put_more}
use Rattle.change_steps.proofs.state.put.Goals as goal

pub loop-variable-init : goal.loop-variable-init
loop-variable-init c = record { count = refl; put = λ v. refl }

pub set-requires : goal.set-requires
set-requires c =
    let known = c.requires.known c.loop-variable.variable-index 0 c.loop-variable-test.true in let count = c.loop-variable.invariant.count in
    omega (arith, known, count)

pub loop-variable-preserved : goal.loop-variable-preserved
loop-variable-preserved c =
    put_more c.args.values.now c.loop-variable.values c.set.new.self c.args.variables.now c.args.costs.now c.loop-variable.variable-index
    c.loop-variable-test.true
    (let known = c.requires.known c.loop-variable.variable-index 0 c.loop-variable-test.true in let count = c.loop-variable.invariant.count in
    omega (arith, known, count))
    c.loop-variable.invariant c.set.ensures

pub returns-clause-count : goal.returns-clause-count
returns-clause-count c = c.loop-variable.invariant.count

pub returns-clause-put : goal.returns-clause-put
returns-clause-put c = λ v.
    c.loop-variable.invariant.put v
    ∙ ap (λ (ls : List ℕ). cond (is_one_of ls v) (get_or c.args.costs.now v 0) (get_or c.args.values.now v 0))
    (take_all c.loop-variable.variable-index c.args.variables.now c.loop-variable-test.false)
