-- Marks: what has none isn't in the list; they stay where a column comes and where a fraction is replaced.
use Rattle.std.proofs.Common.{◌≡◌, ◌≢◌, ℕ, ◌*◌, ◌%◌, ◌^◌, refl, sym, ◌∙◌, subst, List, [], ◌∷◌, map, arith, inl, inr}
use Rattle.std.specs.Prelude.{bit_or}
use Rattle.std.specs.Int.{bit_at}
use Rattle.std.proofs.lemmas.Nat.Bits.{bit_at_or, bit_at_set_same}
use mir.Syntax.{w128}
use Rattle.std.proofs.lemmas.List.Elements.{All-nil, All-cons, All-head, All-tail, All-push, All-weaker}
use Rattle.whole_numbers.specs.Fractions.{Fraction}
use Rattle.fraction_lines.specs.TableLines.{fraction_at, nothing}
use Rattle.fraction_lines.specs.Entries.{IsPutAtEnd, replaced}
use Rattle.fraction_lines.specs.declared.marks.Marks.{Marks}
use Rattle.fraction_lines.specs.Marks.{AllMarked, IsColumnMarked, IsSet}
use Rattle.fraction_lines.proofs.Columns.{fraction_there, test_cases}

abbrev HasMark : Marks → (ℕ × Fraction) → Type 0
HasMark marks e = IsColumnMarked marks e.0

-- a column without a mark has 0
pub unmarked_nothing : (marks : Marks) (es : List (ℕ × Fraction)) (k : ℕ) → AllMarked marks es → (IsColumnMarked marks k → ⊥) → fraction_at es k ≡ nothing
unmarked_nothing marks [] k marked none = refl
unmarked_nothing marks (e ∷ es) k marked none =
    fraction_there e es k (λ same. none (subst (IsColumnMarked marks) same (All-head (HasMark marks) e es marked)))
    ∙ unmarked_nothing marks es k (All-tail (HasMark marks) e es marked) none

-- marks that are kept
pub more_marks : (marks more : Marks) (es : List (ℕ × Fraction)) → ((k : ℕ) → IsColumnMarked marks k → IsColumnMarked more k) → AllMarked marks es →
    AllMarked more es
more_marks marks more es kept marked = All-weaker (HasMark marks) (HasMark more) (λ e here. kept e.0 here) es marked

-- a column that is put
pub put_marked : (marks more : Marks) (column : ℕ) (value : Fraction) (old new : List (ℕ × Fraction)) →
    ((k : ℕ) → IsColumnMarked marks k → IsColumnMarked more k) → IsColumnMarked more column → AllMarked marks old →
    IsPutAtEnd old column value new → AllMarked more new
put_marked marks more column value old new kept here marked (inl same) =
    subst (AllMarked more) (sym same.1) (more_marks marks more old kept marked)
put_marked marks more column value old new kept here marked (inr put) =
    subst (AllMarked more) (sym put.1) (All-push (HasMark more) old (column, value) (more_marks marks more old kept marked) here)

-- a fraction that is replaced
pub replaced_marked : (marks : Marks) (column : ℕ) (value : Fraction) (es : List (ℕ × Fraction)) → AllMarked marks es →
    AllMarked marks (map (replaced column value) es)
replaced_marked marks column value [] marked = All-nil (HasMark marks)
replaced_marked marks column value (e ∷ es) marked =
    All-cons (HasMark marks) (replaced column value e) (map (replaced column value) es)
    (test_cases (HasMark marks) e.0 column (e.0, value) e (λ same. All-head (HasMark marks) e es marked) (λ other. All-head (HasMark marks) e es marked))
    (replaced_marked marks column value es (All-tail (HasMark marks) e es marked))

-- the mark that is set, and those that stay
pub set_here : (marks column : ℕ) → bit_at (bit_or marks (1 * 2 ^ (column % 128) % 2 ^ 128)) (column % 128) ≢ 0
set_here marks column none =
    apart (bit_at (bit_or marks (1 * 2 ^ (column % 128) % 2 ^ 128)) (column % 128)) (bit_at_set_same w128 marks (column % 128) (omega arith)) none
  where
    apart : (n : ℕ) → n ≡ 1 → n ≡ 0 → ⊥
    apart n one none = omega arith

pub set_kept : (marks bit k : ℕ) → IsSet marks k → IsSet (bit_or marks bit) k
set_kept marks bit k here none = here (omega (arith, bit_at_or marks bit (k % 128), none))
