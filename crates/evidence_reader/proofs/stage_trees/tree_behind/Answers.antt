use Rattle.std.proofs.Common.{◌≡◌, ◌≢◌, ◌+◌, ◌-◌, List, [], ◌∷◌, All, ap, sym, subst, length, length-append, map, arith}
use Rattle.std.proofs.lemmas.Result.{err_from_is_err_and}
use Rattle.std.proofs.lemmas.List.Elements.{All-nil, All-push}
use Rattle.design_problem.specs.declared.tree.Entry.{Entry}
use Rattle.design_problem.specs.Text.{entry_line, FitsEntry}
use Rattle.design_problem.specs.Trees.{subtree_count}
use Rattle.answer_lines.specs.Grammar.{AtTree}
use Rattle.answer_lines.specs.Going.{Goes}
use Rattle.evidence_text.specs.declared.TreePart.TheVariants.{Proof}
use Rattle.evidence_reader.proofs.NextPlaces.{stop-then}
use Rattle.evidence_reader.proofs.TreeLines.{shut_short, entries_begin, entry_more, entry_stop, entries_done, LeavesOpen, open_none, open_more, open_done}
use Rattle.evidence_reader.proofs.stage_trees.tree_behind.Goals as goal

pub loop-init : goal.loop-init
loop-init c = record {
  count_is = ap length c.new-entries.ensures.items;
  few = omega arith;
  goes = λ part. entries_begin part c.args.count c.args.text.read c.args.text.left.now c.new-entries.result.items c.new-entries.ensures.items;
  fits = subst (λ (l : List Entry). All FitsEntry l) (sym c.new-entries.ensures.items) (All-nil FitsEntry);
  leaves = open_none c.new-entries.result.items c.new-entries.ensures.items;
}

pub overflow_sub-places : goal.overflow_sub-places
overflow_sub-places c = omega (arith, (c.in_ok-entry.ensures Proof 0).0)

pub overflow_add-places : goal.overflow_add-places
overflow_add-places c = omega (arith, c.loop.invariant.few, c.subtree_count.ensures.few, c.ranges.count.fits)

pub loop-preserved : goal.loop-preserved
loop-preserved c =
    let i = c.loop.counter in
    let places = c.loop.places in
    let entries = c.loop.entries.items in
    let entry = c.in_ok-entry.entry in
    let grown = c.in_ok-push.ensures.items in
    let read = c.in_ok-entry.ensures Proof (c.args.count - (i + 1)) in
    let some : places ≢ 0 = λ none. omega (arith, none, read.0) in
    let next : subtree_count entry + (places - 1) ≡ places - 1 + c.subtree_count.result = omega (arith, c.subtree_count.ensures.count) in
    record {
      count_is = omega (arith, ap length grown, length-append entries (entry ∷ []), c.loop.invariant.count_is);
      few = omega (arith, c.loop.invariant.few, c.subtree_count.ensures.few, read.0);
      goes =
          λ part.
          subst (λ n. Goes (AtTree part 1 c.args.count) c.args.text (map entry_line c.push.new.self.items)
          (AtTree part n (c.args.count - (i + 1))) c.in_ok-entry.rest) next
          (entry_more part c.args.count i places entries c.push.new.self.items entry c.loop-test.true grown
          (c.loop.invariant.goes part) (c.in_ok-entry.ensures part (c.args.count - (i + 1))).2);
      fits = subst (λ (l : List Entry). All FitsEntry l) (sym grown) (All-push FitsEntry entries entry c.loop.invariant.fits read.1);
      leaves = subst (λ n. LeavesOpen n c.push.new.self.items) next (open_more places entries c.push.new.self.items entry some grown c.loop.invariant.leaves);
    }

pub returns-in_err-entry : goal.returns-in_err-entry
returns-in_err-entry c =
    let p = err_from_is_err_and c.from_residual.result c.from_residual.ensures.1 in
    let i = c.loop.counter in
    rw (p.1, p.2) (λ part. entry_stop part c.args.count i c.loop.places c.loop.entries.items _ c.loop-test.true
    (c.loop.invariant.goes part) (c.in_err-entry.ensures part (c.args.count - (i + 1))))

pub from_items-requires : goal.from_items-requires
from_items-requires c = open_done c.loop.places c.loop.entries.items c.if-places-eq0.true c.loop.invariant.leaves

pub returns-then-places-eq0 : goal.returns-then-places-eq0
returns-then-places-eq0 c =
    let entries = c.loop.entries.items in
    let same = c.from_items.ensures in
    λ part. (
      omega (arith, ap length same, c.loop.invariant.count_is, c.loop-test.false),
      subst (λ (l : List Entry). All FitsEntry l) (sym same) c.loop.invariant.fits,
      subst (λ (l : List Entry). Goes (AtTree part 1 c.args.count) c.args.text (map entry_line l) (AtTree part 0 0) c.loop.left) (sym same)
          (entries_done part c.args.count c.loop.counter c.loop.places entries c.loop-test.false c.if-places-eq0.true (c.loop.invariant.goes part)),
    )

pub returns : goal.returns
returns c =
    λ part.
    let left = c.args.count - c.loop.counter in
    let none : left ≡ 0 = omega (arith, c.loop-test.false) in
    let shut = shut_short part c.loop.places left c.loop.left.left.now c.if-places-eq0.false none in
    stop-then _ (c.loop.invariant.goes part) (c.fault_at.ensures.stops (AtTree part c.loop.places left) (λ e. cc) shut.0 shut.1)
