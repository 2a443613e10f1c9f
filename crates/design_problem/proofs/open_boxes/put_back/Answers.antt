use Rattle.std.proofs.Common.{◌+◌, ◌<◌, ◌∷◌, refl, sym, ◌∙◌, ap, subst, get_or, length, length-set, reverse, ℕ}
use Rattle.design_problem.specs.declared.boxes.CostBox.{CostBox}
use Rattle.design_problem.specs.declared.open_boxes.Change.{Change}
use Rattle.design_problem.specs.declared.open_boxes.Change.TheVariants.{Low, Second}
use Rattle.design_problem.specs.Stack.{waiting}
use Rattle.design_problem.proofs.StackLaws.{high_popped, low_popped, waiting_pushed, second_next, popped_change, stack_popped, stack_pushed}
use Rattle.design_problem.proofs.open_boxes.put_back.Goals as goal

pub returns-in-Second-clause-next : goal.returns-in-Second-clause-next
returns-in-Second-clause-next c =
    let box = c.loop-change.costs in
    let popped = c.pop.new.self.items in
    sym c.loop-change.invariant.same
    ∙ waiting_pushed box popped c.loop-change.changes.items c.in-Some.change c.in-Some.ensures.items
    ∙ ap (λ (change : Change). waiting box (change ∷ reverse popped)) c.in-Second.is
    ∙ second_next box c.set-in-Second-2.new.self c.set-in-Second.new.self popped c.push_reserved.new.self.items
    c.in-Second.var c.in-Second.value c.in-Second.was (get_or c.as_slice.result.now c.in-Second.var 0)
    c.set-in-Second.ensures c.set-in-Second-2.ensures c.push_reserved.ensures.items (ap (λ xs. get_or xs c.in-Second.var 0) c.as_slice.ensures)

pub returns-in-Second-clause-stack : goal.returns-in-Second-clause-stack
returns-in-Second-clause-stack c =
    let box = c.loop-change.costs in
    let popped = c.pop.new.self.items in
    let var = c.in-Second.var in
    let next : CostBox = record { low = c.set-in-Second-2.new.self; high = c.set-in-Second.new.self } in
    let lows = ap length c.set-in-Second-2.ensures ∙ length-set box.low var (c.in-Second.value + 1) in
    let highs = ap length c.set-in-Second.ensures ∙ length-set box.high var c.in-Second.was in
    let change = popped_change box c.loop-change.changes.items popped c.in-Some.change
    (Second var c.in-Second.value c.in-Second.was) c.in-Some.ensures.items c.in-Second.is
    c.loop-change.invariant.stack in
    let here = subst (λ (n : ℕ). var < n) (sym lows) change.0 in
    stack_pushed next next popped c.push_reserved.new.self.items (Low var (get_or c.as_slice.result.now var 0)) c.push_reserved.ensures.items refl refl here
    (stack_popped box next c.loop-change.changes.items popped c.in-Some.change c.in-Some.ensures.items lows highs c.loop-change.invariant.stack)

pub set-requires : goal.set-requires
set-requires c =
    popped_change c.loop-change.costs c.loop-change.changes.items c.pop.new.self.items c.in-Some.change
    (Low c.in-Low.var c.in-Low.was) c.in-Some.ensures.items c.in-Low.is c.loop-change.invariant.stack

pub loop-change-preserved-in-Low : goal.loop-change-preserved-in-Low
loop-change-preserved-in-Low c =
    let box = c.loop-change.costs in
    let popped = c.pop.new.self.items in
    let next : CostBox = record { low = c.set.new.self; high = box.high } in
    record {
      same =
          low_popped box c.set.new.self popped c.loop-change.changes.items c.in-Some.change c.in-Low.var c.in-Low.was
          c.in-Some.ensures.items c.in-Low.is c.set.ensures ∙ c.loop-change.invariant.same;
      stack =
          stack_popped box next c.loop-change.changes.items popped c.in-Some.change c.in-Some.ensures.items
          (ap length c.set.ensures ∙ length-set box.low c.in-Low.var c.in-Low.was) refl c.loop-change.invariant.stack;
    }

pub loop-change-preserved : goal.loop-change-preserved
loop-change-preserved c =
    let box = c.loop-change.costs in
    let popped = c.pop.new.self.items in
    let next : CostBox = record { low = box.low; high = c.set-in-High.new.self } in
    record {
      same =
          high_popped box c.set-in-High.new.self popped c.loop-change.changes.items c.in-Some.change c.in-High.var
          c.in-High.was c.in-Some.ensures.items c.in-High.is c.set-in-High.ensures ∙ c.loop-change.invariant.same;
      stack =
          stack_popped box next c.loop-change.changes.items popped c.in-Some.change c.in-Some.ensures.items refl
          (ap length c.set-in-High.ensures ∙ length-set box.high c.in-High.var c.in-High.was) c.loop-change.invariant.stack;
    }
