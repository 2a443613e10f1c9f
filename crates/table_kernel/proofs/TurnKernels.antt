-- A kernel whose room has changed may turn where it could before, and is ready for it.
use Rattle.std.specs.declared.alloc.Global.{Global}
use Rattle.std.proofs.Common.{Vec, ◌≡◌, ℕ, ◌<◌, sym, ◌∙◌, ap, subst, length}
use Rattle.std.specs.Prelude.{pos, ◌<ℤ◌, Some, slice_set}
use Rattle.std.specs.Vec.{with_item}
use Rattle.whole_numbers.specs.Lists.{number_at}
use Rattle.design_problem.specs.declared.tree.Member.{Member}
use Rattle.fraction_table.specs.declared.table.Table.{Table}
use Rattle.fraction_table.specs.Pivots.{KeepsBoxAndRows, member_at}
use Rattle.fraction_table.specs.Ranks.{rank}
use Rattle.integer_pivots.specs.declared.line.Line.{Line}
use Rattle.integer_pivots.specs.Turns.{AreNonZeros}
use Rattle.table_kernel.specs.declared.kernel.Kernel.{Kernel}
use Rattle.table_kernel.specs.Kernels.{IsKernel, stated, width_of}
use Rattle.table_kernel.specs.Lines.{IsBestColumn, IsEntering, KeepsNumbers}
use Rattle.table_kernel.specs.Turns.{AreTurns, HasTurned, IsPivotIn, IsReadyToTurn}
use Rattle.table_kernel.proofs.Pivoting.{forms_kept, kernel_is, rank_rose, with_basis}
use Rattle.table_kernel.proofs.SameButRoom.{keeps_kernel, same_stated}
use Rattle.table_kernel.proofs.Refusals.{but_columns}

-- what a pivot needs stays
pub pivot_stays : (k m : Kernel) (place column : ℕ) → KeepsNumbers k m → m.entering ≡ k.entering →
    IsPivotIn k place column → IsPivotIn m place column
pivot_stays k m place column keeps entering p =
    let same = sym (but_columns k m keeps entering) in
    let e = p.entering in
    record {
      kernel = keeps_kernel k m keeps p.kernel;
      place_in = subst (λ (h : Kernel). place < length h.constants.items) same p.place_in;
      below = subst (λ (h : Kernel). number_at h.constants.items place <ℤ pos 0) same p.below;
      entering = subst (λ (h : Kernel). IsEntering h place) same
          (record {
            stands = record { count = e.stands.count; positive = e.stands.positive; constant = e.stands.constant; numbers = e.stands.numbers };
            line = e.line;
          });
      best = subst (λ (h : Kernel). IsBestColumn h (Some column)) same p.best;
    }

-- the kernel is ready for its turn, once it holds how its lines turn
pub ready_of : (k : Kernel) (place column : ℕ) → IsPivotIn k place column → AreTurns k column → IsReadyToTurn k column
ready_of k place column p turns =
    let s = p.kernel.shaped in
    let b = p.kernel.bounded in
    record {
      inside = p.best.0;
      lows = s.lows;
      each = s.each;
      lines = b.lines;
      divides = b.divides;
      common = (b.positive, b.common);
      limit = b.low;
      entering = p.entering.line;
      long = p.entering.stands.count;
      pivot = p.best.1;
      turns = turns;
    }

-- the columns in which the entering line isn't 0 stay those
pub touched_stay : (k m n : Kernel) → KeepsNumbers k m → m.entering ≡ k.entering → KeepsNumbers m n → n.entering ≡ m.entering → n.left ≡ m.left →
    AreNonZeros k.entering.numbers (width_of k) m.left.items → AreNonZeros n.entering.numbers (width_of n) n.left.items
touched_stay k m n first entering second entering_again left touched =
    subst (λ (list : Vec ℕ Global). AreNonZeros n.entering.numbers (width_of n) list.items) (sym left)
    (subst (λ (t : Table). AreNonZeros n.entering.numbers (length t.costs.low) m.left.items) (sym (second.table ∙ first.table))
    (subst (λ (line : Line). AreNonZeros line.numbers (width_of k) m.left.items) (sym (entering_again ∙ entering)) touched))

-- what a pivot is for: a kernel of the same box and rows, whose rank rose
pub record HasPivoted (old new : Kernel) : Type 0 where
  pub kernel : IsKernel new
  pub rises : rank (stated old) < rank (stated new)
  pub keeps : KeepsBoxAndRows (stated old) (stated new)

-- that is so where all numbers have turned and the member is put into the basis
pub has_pivoted : (k m h : Kernel) (place column : ℕ) (member : Member) → KeepsNumbers k m → IsPivotIn m place column → HasTurned m h column →
    member ≡ member_at k.table place → HasPivoted k (with_basis h (with_item h.table.basis column member))
has_pivoted k m h place column member keeps p turned is =
    let basis = with_item h.table.basis column member in
    let set = ap (slice_set h.table.basis.items column) (is ∙ ap (λ (u : Table). member_at u place) (sym keeps.table)) in
    let same = same_stated k m keeps in
    record {
      kernel = kernel_is m place column p h turned basis set;
      rises = subst (λ (u : Table). rank u < rank (stated (with_basis h basis))) same (rank_rose m place column p h turned basis set);
      keeps = subst (λ (u : Table). KeepsBoxAndRows u (stated (with_basis h basis))) same (forms_kept m place column p h turned basis set);
    }
