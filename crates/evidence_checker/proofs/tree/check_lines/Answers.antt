use Rattle.std.proofs.Common.{◌≡◌, ℕ, ◌+◌, sym, ◌∙◌, ap, subst, List, ◌∷◌, [], length, drop, get_or, inl, refl, arith}
use Rattle.std.specs.Prelude.{false}
use Rattle.std.proofs.lemmas.List.Elements.{All-cons, All-nil}
use Rattle.cost_base.specs.Order.{FirstOf}
use Rattle.cost_base.proofs.ListLemmas.{drop_read}
use Rattle.design_problem.specs.Forms.{IsSmallForm}
use Rattle.design_problem.specs.declared.boxes.CostBox.{CostBox}
use Rattle.design_problem.specs.declared.tree.Entry.{Entry}
use Rattle.design_problem.specs.Trees.{SoundAt, is_undone}
use Rattle.evidence_checker.specs.Numbers.{check_fault_number}
use Rattle.evidence_checker.specs.Tests.{line_tests}
use Rattle.evidence_checker.proofs.Choices.{when_true, when_false}
use Rattle.evidence_checker.proofs.WalkLaws.{HaveEnds, Walks, next_have_ends, walk_begins, walk_ends, walk_goes_on, walk_stops}
use Rattle.evidence_checker.proofs.tree.check_lines.Goals.{After-index-entries-line}
use Rattle.evidence_checker.proofs.tree.check_lines.Goals as goal

pub loop-line-init : goal.loop-line-init
loop-line-init c =
    let first = c.args.boxes.now.present in
    record {
      walks = subst (λ (bs : List CostBox). Walks c.args.forms.now (first ∷ []) c.args.entries.now first bs 0 c.args.entries.now)
          (sym c.requires.alone) (walk_begins c.args.forms.now first c.args.entries.now c.requires.whole);
      ends = subst (λ (bs : List CostBox). HaveEnds (length first.low) (first ∷ bs)) (sym c.requires.alone)
          (All-cons (λ (b : CostBox). length b.low ≡ length first.low) first [] refl
          (All-nil (λ (b : CostBox). length b.low ≡ length first.low)));
      sums = c.requires.sums;
    }

-- the present box has a lower end for each of n variables
first_ends : (n : ℕ) (box : CostBox) (boxes : List CostBox) → HaveEnds n (box ∷ boxes) → length box.low ≡ n
first_ends n box boxes have = have 0 box (omega arith)

pub fault_at-requires-clause-low : goal.fault_at-requires-clause-low
fault_at-requires-clause-low c =
    c.loop-line.invariant.sums ∙ sym (ap (λ (b : CostBox). length b.low) c.present.ensures.present
    ∙ first_ends (length c.args.boxes.now.present.low) c.loop-line.boxes.present c.loop-line.boxes.behind
    c.loop-line.invariant.ends)

pub fault_at-requires-clause-high : goal.fault_at-requires-clause-high
fault_at-requires-clause-high c =
    fault_at-requires-clause-low c ∙ c.present.ensures.counts

pub fault_at-requires-clause-forms : goal.fault_at-requires-clause-forms
fault_at-requires-clause-forms c k d k_in =
    subst (λ (m : ℕ). IsSmallForm m (get_or c.args.forms.now k d)) (sym c.loop-line.invariant.sums) (c.requires.forms k d k_in)

pub go_on-requires : goal.go_on-requires
go_on-requires c = (
  c.args.forms.now,
  subst (λ (box : CostBox). SoundAt c.args.forms.now box c.index-entries-line.result)
      c.present.ensures.present c.in_default.ensures.first.0,
)

-- what is left of the walk, with the line that was read before those after it
walks_here : (c : After-index-entries-line) →
    Walks c.args.forms.now (c.args.boxes.now.present ∷ []) c.args.entries.now c.loop-line.boxes.present c.loop-line.boxes.behind
    c.loop-line.line (c.index-entries-line.result ∷ drop (c.loop-line.line + 1) c.args.entries.now)
walks_here c =
    subst (λ (es : List Entry). Walks c.args.forms.now (c.args.boxes.now.present ∷ []) c.args.entries.now c.loop-line.boxes.present
    c.loop-line.boxes.behind c.loop-line.line es)
    (drop_read c.args.entries.now c.loop-line.line c.index-entries-line.result c.loop-line-test.true c.index-entries-line.is) c.loop-line.invariant.walks

pub returns-in-Some-clause-first : goal.returns-in-Some-clause-first
returns-in-Some-clause-first c =
    let forms = c.args.forms.now in
    let boxes = c.loop-line.boxes in
    let entry = c.index-entries-line.result in
    let walks = walks_here (goal.at.returns-in-Some-clause-first c).After-index-entries-line in
    rw c.at.ensures (inl (walk_stops forms (c.args.boxes.now.present ∷ []) c.args.entries.now boxes.present boxes.behind c.loop-line.line entry _
    (check_fault_number c.in-Some.fault) walks
    (subst (λ (box : CostBox). FirstOf (line_tests forms box entry) (check_fault_number c.in-Some.fault)) c.present.ensures.present c.in-Some.ensures.first)))

pub returns-then-not-branch-clause-sound : goal.returns-then-not-branch-clause-sound
returns-then-not-branch-clause-sound c =
    let forms = c.args.forms.now in
    let boxes = c.loop-line.boxes in
    let entry = c.index-entries-line.result in
    let walks = walks_here (goal.at.returns-then-not-branch-clause-sound c).After-index-entries-line in
    let here = subst (λ (box : CostBox). SoundAt forms box entry × (is_undone entry ≡ false)) c.present.ensures.present c.in_default.ensures.first in
    walk_ends forms (c.args.boxes.now.present ∷ []) c.args.entries.now boxes.present boxes.behind c.loop-line.line entry _ walks here.0 here.1
    (when_false _ _ c.in_ok-go_on.field-0 c.if-not-branch.true c.in_ok-go_on.ensures)

pub loop-line-preserved : goal.loop-line-preserved
loop-line-preserved c =
    let forms = c.args.forms.now in
    let boxes = c.loop-line.boxes in
    let entry = c.index-entries-line.result in
    let walks = walks_here (goal.at.loop-line-preserved c).After-index-entries-line in
    let here = subst (λ (box : CostBox). SoundAt forms box entry × (is_undone entry ≡ false)) c.present.ensures.present c.in_default.ensures.first in
    let next = when_true _ _ c.in_ok-go_on.field-0 c.if-not-branch.false c.in_ok-go_on.ensures in
    record {
      walks = walk_goes_on forms (c.args.boxes.now.present ∷ []) c.args.entries.now boxes.present boxes.behind c.loop-line.line
          entry _ c.go_on.new.self.present c.go_on.new.self.behind walks here.0 here.1 next;
      ends = next_have_ends (length c.args.boxes.now.present.low) boxes.present boxes.behind entry c.go_on.new.self.present
          c.go_on.new.self.behind c.loop-line.invariant.ends next;
      sums = c.in_default.ensures.sums ∙ c.loop-line.invariant.sums;
    }
