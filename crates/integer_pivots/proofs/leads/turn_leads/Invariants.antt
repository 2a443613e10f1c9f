-- The leads of the columns before the counter are those after the pivot, and the others are as before.
use Rattle.std.proofs.Common.{◌≡◌, ℕ, ◌<◌, ◌≤◌, List, length, All}
use Rattle.std.specs.Prelude.{pos, ◌<ℤ◌, slice_index}
use Rattle.integer_pivots.specs.declared.line.Line.{Line}
use Rattle.integer_pivots.specs.Leads.{AreLeads, IsLead}
use Rattle.integer_pivots.specs.Lines.{rows_of}
use Rattle.integer_pivots.specs.Turns.{AreTurnedLines}
use Rattle.integer_pivots.proofs.leads.turn_leads.Given as goal

abbrev pub invariant-loop-other : goal.invariant-loop-other
invariant-loop-other l = record {
  count : length l.leads ≡ length l.fn.leads;
  turned : (olds : List Line) → AreTurnedLines l.entering l.column olds l.lines → All (λ line. pos 0 <ℤ line.denominator) olds →
      AreLeads (rows_of olds) l.fn.leads → (c : ℕ) → c < l.other → IsLead (rows_of l.lines) c (slice_index l.leads c);
  rest : (c : ℕ) → l.other ≤ c → slice_index l.leads c ≡ slice_index l.fn.leads c;
}
