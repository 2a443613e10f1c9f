use Rattle.std.proofs.Common.{◌≡◌, ℕ, ◌+◌, ◌≤◌, ◌∙◌, ap, sym, arith, Bool, if◌then◌else◌}
use Rattle.cost_base.specs.Marks.{is_marked}
use Rattle.printed_rows.proofs.NumberLaws.{numbered_more}
use Rattle.printed_rows.proofs.new_numbers.new_numbers.Goals as goal
use Rattle.printed_rows.proofs.new_numbers.new_numbers.Goals.{then-is_marked, else-is_marked}

pub loop-is_marked-preserved : goal.loop-is_marked-preserved
loop-is_marked-preserved c =
    let marks = c.args.marks.now in
    let i = c.loop-is_marked.is_marked-index in
    let here = c.loop-is_marked.invariant in
    let P : Bool → ℕ = λ b. if b then c.loop-is_marked.next + 1 else c.loop-is_marked.next in
    let next : (c.if-is_marked.next ≡ (if is_marked marks i then c.loop-is_marked.next + 1 else c.loop-is_marked.next)) × (c.if-is_marked.next ≤ i + 1) =
    elim c.if-is_marked.branch [
      | then-is_marked w ↦ (w.next-is ∙ ap P (sym w.if-is_marked.true), omega (arith, w.next-is, here.small))
      | else-is_marked w ↦ (w.next-is ∙ ap P (sym w.if-is_marked.false), omega (arith, w.next-is, here.small))
    ] in
    let more = numbered_more (is_marked marks) c.loop-is_marked.numbers.items c.push.new.self.items i
    c.loop-is_marked.next c.if-is_marked.next (is_marked marks i) here.next_is here.numbers
    c.in_ok-push.ensures.items (λ k. is_marked marks i) next.0 in
    record { next_is = more.0; small = next.1; numbers = more.1 }
