-- Pivots that a kernel's bounds don't cover, and what stays as columns alone are put into the room for them.
use Rattle.std.specs.declared.alloc.Global.{Global}
use Rattle.std.specs.declared.result.Result.TheVariants.{Ok, Err}
use Rattle.std.proofs.Common.{Vec, ◌≡◌, ℕ, ◌<◌, length, sym, ◌∙◌, ap, subst, ◌⊎◌}
use Rattle.std.specs.Prelude.{ℤ, pos, ◌<ℤ◌, Option, None, Result, Some, OnErr}
use Rattle.whole_numbers.specs.Lists.{number_at}
use Rattle.fraction_table.specs.declared.stage.Solved.{Solved}
use Rattle.integer_pivots.specs.declared.line.Line.{Line}
use Rattle.table_kernel.specs.declared.kernel.OutOfRange.{OutOfRange}
use Rattle.table_kernel.specs.declared.kernel.Kernel.{Kernel}
use Rattle.table_kernel.specs.Lines.{IsBestColumn, IsEntering, IsLineTooLarge, IsPivotPlace, KeepsNumbers}
use Rattle.table_kernel.specs.Turns.{IsHeldUp, IsRefusedAt, MayTurn}
use Rattle.table_kernel.proofs.SameButRoom.{rebuilt}

-- what holds holds of an answer that is an error
pub on_err : {Value Error Fact : Type 0} (answer : Result Value Error) → Fact → OnErr answer Fact
on_err (Ok value) fact = tt
on_err (Err error) fact = fact

-- the one kernel is the other but for its columns and its turns
pub but_columns : (old new : Kernel) → KeepsNumbers old new → new.entering ≡ old.entering → new ≡ record old { turns = new.turns; left = new.left }
but_columns old new keeps entering =
    rebuilt old new keeps ∙ ap (λ (line : Line). record old { turns = new.turns; left = new.left; entering = line }) entering

-- so its entering line is that of the same place
pub entering_kept : (old new : Kernel) (place : ℕ) → KeepsNumbers old new → new.entering ≡ old.entering → IsEntering old place → IsEntering new place
entering_kept old new place keeps entering is =
    subst (λ (k : Kernel). IsEntering k place) (sym (but_columns old new keeps entering))
    (record {
      stands = record {
        count = is.stands.count;
        positive = is.stands.positive;
        constant = is.stands.constant;
        numbers = is.stands.numbers;
      };
      line = is.line;
    })

-- and the best column is the same
pub best_kept : (old new : Kernel) (best : Option ℕ) → KeepsNumbers old new → new.entering ≡ old.entering → IsBestColumn old best → IsBestColumn new best
best_kept old new None keeps entering is =
    subst (λ (k : Kernel). IsBestColumn k None) (sym (but_columns old new keeps entering)) is
best_kept old new (Some column) keeps entering is =
    subst (λ (k : Kernel). IsBestColumn k (Some column)) (sym (but_columns old new keeps entering)) is

-- the constants are the same
pub in_kept : (old new : Kernel) (place : ℕ) → KeepsNumbers old new → place < length old.constants.items → place < length new.constants.items
in_kept old new place keeps place_in =
    subst (λ (constants : Vec ℤ Global). place < length constants.items) (sym keeps.constants) place_in

pub below_kept : (old new : Kernel) (place : ℕ) → KeepsNumbers old new → number_at old.constants.items place <ℤ pos 0 →
    number_at new.constants.items place <ℤ pos 0
below_kept old new place keeps below =
    subst (λ (constants : Vec ℤ Global). number_at constants.items place <ℤ pos 0) (sym keeps.constants) below

-- a pivot at the best column that isn't covered
pub refused_at : (old new : Kernel) (place column : ℕ) → KeepsNumbers old new → new.entering ≡ old.entering →
    IsEntering old place → IsBestColumn old (Some column) → (MayTurn new column → ⊥) → IsRefusedAt new place
refused_at old new place column keeps entering is best refused = record {
  column = column;
  entering = entering_kept old new place keeps entering is;
  best = best_kept old new (Some column) keeps entering best;
  refused = refused;
}

-- at the pivot form
pub held_up : (old new : Kernel) (place : ℕ) (found : Result (Option Solved) OutOfRange) →
    IsPivotPlace old place → OnErr found (KeepsNumbers old new) →
    OnErr found (IsLineTooLarge new place ⊎ IsRefusedAt new place) → OnErr found (IsHeldUp new)
held_up old new place (Ok solved) due keeps refused = tt
held_up old new place (Err out) due keeps refused =
    record {
      place = place;
      due = subst (λ (h : Kernel). IsPivotPlace h place) (sym (rebuilt old new keeps)) due;
      cause = refused;
    }
