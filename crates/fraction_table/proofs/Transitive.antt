-- The order of columns, each over its number in the pivot's form, is transitive.
use Rattle.std.proofs.Common.{◌≡◌, ℕ, zero, suc, ◌*◌, ◌<◌, refl, sym, ap, subst, List, [], ◌∷◌, length, arith}
use Rattle.std.specs.Prelude.{ℤ, pos, negsuc, ◌+ℤ◌, ◌-ℤ◌, ◌*ℤ◌, ◌<ℤ◌}
use Rattle.std.proofs.lemmas.Int.{ints}
use Rattle.whole_numbers.proofs.Ring.{var, ◌⊕◌, ◌⊖◌, ◌⊗◌, ring}
use Rattle.design_problem.specs.Steps.{IsPivot}
use Rattle.fraction_table.specs.declared.table.Table.{Table}
use Rattle.fraction_table.specs.Pivots.{IsNotAfterInTable, LeadsNoNegative, line_at, numbers_in_column, turned_column}
use Rattle.fraction_table.proofs.theory.Corner.{leads_negative, leads_zero}
use Rattle.fraction_table.proofs.theory.Lex.{scaled, scaled_follows, sum_follows, summed}
use Rattle.fraction_table.proofs.theory.TurnedLeads.{length-numbers_in}
use Rattle.fraction_table.proofs.Pivots.{entry_number}

negative_multiple : (b n : ℕ) → 0 < b → (pos b *ℤ negsuc n) <ℤ pos 0
negative_multiple zero n positive = absurd (omega arith)
negative_multiple (suc b) n positive =
    let product : 0 < suc b * suc n = grind arith in
    omega (arith, ints)

unscaled_follows : (b : ℕ) (zs : List ℤ) → 0 < b → LeadsNoNegative (scaled b zs) → LeadsNoNegative zs
unscaled_follows b [] positive leads = tt
unscaled_follows b (pos zero ∷ zs) positive leads = unscaled_follows b zs positive (leads_zero (pos b *ℤ pos 0) (scaled b zs) (lib.IntN.*ℤ-zero (pos b)) leads)
unscaled_follows b (pos (suc n) ∷ zs) positive leads = tt
unscaled_follows b (negsuc n ∷ zs) positive leads = leads_negative (pos b *ℤ negsuc n) (scaled b zs) (negative_multiple b n positive) leads

chained : (a b c : ℕ) (xs ys zs : List ℤ) → length xs ≡ length ys → length xs ≡ length zs →
    scaled b (turned_column a zs (pos c) xs) ≡ summed (scaled a (turned_column b zs (pos c) ys))
    (scaled c (turned_column a ys (pos b) xs))
chained a b c [] [] [] same other = refl
chained a b c [] (y ∷ ys) zs same other = absurd (omega arith)
chained a b c [] [] (z ∷ zs) same other = absurd (omega arith)
chained a b c (x ∷ xs) [] zs same other = absurd (omega arith)
chained a b c (x ∷ xs) (y ∷ ys) [] same other = absurd (omega arith)
chained a b c (x ∷ xs) (y ∷ ys) (z ∷ zs) same other =
    cc (first, chained a b c xs ys zs (omega arith) (omega arith))
  where
    first : (pos b *ℤ ((pos a *ℤ z) -ℤ (pos c *ℤ x))) ≡ ((pos a *ℤ ((pos b *ℤ z) -ℤ (pos c *ℤ y))) +ℤ (pos c *ℤ ((pos a *ℤ y) -ℤ (pos b *ℤ x))))
    first =
        ring (pos a ∷ pos b ∷ pos c ∷ x ∷ y ∷ z ∷ [])
        (var 1 ⊗ ((var 0 ⊗ var 5) ⊖ (var 2 ⊗ var 3)))
        ((var 0 ⊗ ((var 1 ⊗ var 5) ⊖ (var 2 ⊗ var 4))) ⊕ (var 2 ⊗ ((var 0 ⊗ var 4) ⊖ (var 1 ⊗ var 3)))) refl

chained_long : (a b c : ℕ) (xs ys zs : List ℤ) → length xs ≡ length ys → length xs ≡ length zs →
    length (scaled a (turned_column b zs (pos c) ys)) ≡ length (scaled c (turned_column a ys (pos b) xs))
chained_long a b c [] [] [] same other = refl
chained_long a b c [] (y ∷ ys) zs same other = absurd (omega arith)
chained_long a b c [] [] (z ∷ zs) same other = absurd (omega arith)
chained_long a b c (x ∷ xs) [] zs same other = absurd (omega arith)
chained_long a b c (x ∷ xs) (y ∷ ys) [] same other = absurd (omega arith)
chained_long a b c (x ∷ xs) (y ∷ ys) (z ∷ zs) same other = ap suc (chained_long a b c xs ys zs (omega arith) (omega arith))

columns_chain : (a b c : ℕ) (xs ys zs : List ℤ) → 0 < b → length xs ≡ length ys → length xs ≡ length zs →
    LeadsNoNegative (turned_column a ys (pos b) xs) → LeadsNoNegative (turned_column b zs (pos c) ys) →
    LeadsNoNegative (turned_column a zs (pos c) xs)
columns_chain a b c xs ys zs positive same other first second =
    unscaled_follows b (turned_column a zs (pos c) xs) positive
    (subst LeadsNoNegative (sym (chained a b c xs ys zs same other))
    (sum_follows (scaled a (turned_column b zs (pos c) ys)) (scaled c (turned_column a ys (pos b) xs)) (chained_long a b c xs ys zs same other)
    (scaled_follows a (turned_column b zs (pos c) ys) second) (scaled_follows c (turned_column a ys (pos b) xs) first)))

pub not_after_chain : (t : Table) (line first middle last : ℕ) → line < length t.lines.items →
    IsPivot t.basis.items (line_at t line) (suc middle) → IsPivot t.basis.items (line_at t line) (suc last) →
    IsNotAfterInTable t line first middle → IsNotAfterInTable t line middle last → IsNotAfterInTable t line first last
not_after_chain t line first middle last line_in middle_pivot last_pivot before after w a at_first =
    let b = entry_number t w line middle line_in middle_pivot in
    let c = entry_number t w line last line_in last_pivot in
    let xs = numbers_in_column (suc first) w.unboxed.lows in
    let ys = numbers_in_column (suc middle) w.unboxed.lows in
    let zs = numbers_in_column (suc last) w.unboxed.lows in
    subst (λ z. LeadsNoNegative (turned_column a zs z xs)) (sym c.1)
    (columns_chain a b.0 c.0 xs ys zs b.2 (length-numbers_in (suc first) w.unboxed.lows (suc middle)) (length-numbers_in (suc first) w.unboxed.lows (suc last))
    (subst (λ z. LeadsNoNegative (turned_column a ys z xs)) b.1 (before w a at_first))
    (subst (λ z. LeadsNoNegative (turned_column b.0 zs z ys)) c.1 (after w b.0 b.1)))
