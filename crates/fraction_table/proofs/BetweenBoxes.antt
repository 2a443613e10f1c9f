-- Boxes between two, of which some bounds have moved.
use Rattle.std.proofs.Common.{◌≡◌, ℕ, zero, suc, ◌+◌, ◌<◌, ◌≤◌, refl, sym, ◌∙◌, ap, subst, List, [], ◌∷◌, ◌++◌, take, drop, length, arith, inl, inr}
use Rattle.std.specs.Prelude.{pos, ◌-ℤ◌, slice_get, slice_index, slice_index_or, slice_set, Any}
use Rattle.cost_base.specs.declared.StepName.{StepName}
use Rattle.whole_numbers.specs.Fractions.{Fraction, numbers_of_step}
use Rattle.wide_fraction.specs.declared.steps.Wide.{Wide}
use Rattle.design_problem.specs.declared.form.Form.{Form}
use Rattle.design_problem.specs.declared.boxes.CostBox.{CostBox}
use Rattle.design_problem.specs.declared.tree.Member.{Member}
use Rattle.design_problem.specs.declared.tree.Member.TheVariants.{Low, High, Row}
use Rattle.design_problem.specs.Boxes.{with_high, with_low}
use Rattle.design_problem.specs.Basis.{HasEntries}
use Rattle.fraction_table.specs.declared.table.Table.{Table}
use Rattle.fraction_table.specs.declared.stage.Stage.TheVariants.{Open}
use Rattle.fraction_table.specs.Tableaus.{IsShiftStep, IsWideMove, Shift, between, high_shift, low_shift, moved_basis}
use Rattle.fraction_table.specs.Tableaus.IsShiftStep.{constant, product, sum}
use Rattle.fraction_table.specs.ValidTables.{held_of}
use Rattle.fraction_table.specs.Moves.{IsMoved, IsWideShift, KeepsTableLines, high_shift_of, low_shift_of}

-- one more place of a list is written, after those before it
set_between : {X : Type 0} (xs ys : List X) (v : ℕ) (d : X) → v < length xs → v < length ys →
    slice_set (take v ys ++ drop v xs) v (slice_index_or ys v d) ≡ take (suc v) ys ++ drop (suc v) xs
set_between [] ys v d v_in there = absurd (omega arith)
set_between (x ∷ xs) [] v d v_in there = absurd (omega arith)
set_between (x ∷ xs) (y ∷ ys) zero d v_in there = refl
set_between (x ∷ xs) (y ∷ ys) (suc v) d v_in there = ap (λ zs. y ∷ zs) (set_between xs ys v d (omega arith) (omega arith))

pub written_next : {X : Type 0} (xs ys : List X) (v : ℕ) (d x : X) → v < length xs → v < length ys →
    x ≡ slice_index_or ys v d → slice_set (take v ys ++ drop v xs) v x ≡ take (v + 1) ys ++ drop (v + 1) xs
written_next xs ys v d x v_in there x_is =
    let next : suc v ≡ v + 1 = omega arith in
    ap (λ y. slice_set (take v ys ++ drop v xs) v y) x_is ∙ set_between xs ys v d v_in there ∙ ap (λ k. take k ys ++ drop k xs) next

pub at_between : (xs ys : List ℕ) (v : ℕ) → v < length xs → v < length ys → slice_index (take v ys ++ drop v xs) v ≡ slice_index xs v
at_between [] ys v v_in there = absurd (omega arith)
at_between (x ∷ xs) [] v v_in there = absurd (omega arith)
at_between (x ∷ xs) (y ∷ ys) zero v_in there = refl
at_between (x ∷ xs) (y ∷ ys) (suc v) v_in there = at_between xs ys v (omega arith) (omega arith)

-- a list of which all places are written
pub all_written : {X : Type 0} (xs ys : List X) (n : ℕ) → length xs ≡ n → length ys ≡ n → take n ys ++ drop n xs ≡ ys
all_written [] [] n long there = rw (sym there) refl
all_written [] (y ∷ ys) n long there = absurd (omega arith)
all_written (x ∷ xs) [] n long there = absurd (omega arith)
all_written (x ∷ xs) (y ∷ ys) zero long there = absurd (omega arith)
all_written (x ∷ xs) (y ∷ ys) (suc n) long there = ap (λ zs. y ∷ zs) (all_written xs ys n (omega arith) (omega arith))

-- the places that aren't written yet
pub unwritten : {X : Type 0} (xs ys : List X) (v later : ℕ) (d : X) → v ≤ later → length xs ≡ length ys →
    slice_index_or (take v ys ++ drop v xs) later d ≡ slice_index_or xs later d
unwritten xs ys zero later d from same = refl
unwritten [] [] (suc v) later d from same = refl
unwritten [] (y ∷ ys) (suc v) later d from same = absurd (omega arith)
unwritten (x ∷ xs) [] (suc v) later d from same = absurd (omega arith)
unwritten (x ∷ xs) (y ∷ ys) (suc v) zero d from same = absurd (omega arith)
unwritten (x ∷ xs) (y ∷ ys) (suc v) (suc later) d from same = unwritten xs ys v later d (omega arith) (omega arith)

pub length-written : {X : Type 0} (xs ys : List X) (v : ℕ) → length xs ≡ length ys → length (take v ys ++ drop v xs) ≡ length xs
length-written xs ys zero same = refl
length-written [] [] (suc v) same = refl
length-written [] (y ∷ ys) (suc v) same = absurd (omega arith)
length-written (x ∷ xs) [] (suc v) same = absurd (omega arith)
length-written (x ∷ xs) (y ∷ ys) (suc v) same = ap suc (length-written xs ys v (omega arith))

-- members with the bounds of one box after another have those of the last
pub moved_twice : (first last : CostBox) (basis : List Member) → moved_basis last (moved_basis first basis) ≡ moved_basis last basis
moved_twice first last [] = refl
moved_twice first last (Low v bound ∷ basis) = ap (λ ms. Low v (slice_index last.low v) ∷ ms) (moved_twice first last basis)
moved_twice first last (High v bound ∷ basis) = ap (λ ms. High v (slice_index last.high v) ∷ ms) (moved_twice first last basis)
moved_twice first last (Row row ∷ basis) = ap (λ ms. Row row ∷ ms) (moved_twice first last basis)

-- the two boxes have as many bounds
pub record AreAlike (old new : CostBox) : Type 0 where
  pub high : length old.high ≡ length old.low
  pub new_low : length new.low ≡ length old.low
  pub new_high : length new.high ≡ length old.low

-- where no bound has moved
pub none_moved : (t : Table) (costs : CostBox) → t.basis.items ≡ moved_basis t.costs t.basis.items → IsMoved t (between t.costs costs 0 0) t
none_moved t costs same = record { costs_are = refl; basis = same }

-- one more lower bound, and one more upper one
pub low_step : (old t s : Table) (costs : CostBox) (v bound : ℕ) → AreAlike old.costs costs → v < length old.costs.low →
    bound ≡ slice_index costs.low v → IsMoved old (between old.costs costs v v) t →
    IsMoved t (with_low t.costs v bound) s → IsMoved old (between old.costs costs (suc v) v) s
low_step old t s costs v bound alike v_in bound_is before after =
    let next_is : with_low t.costs v bound ≡ between old.costs costs (suc v) v =
    ap (λ (b : ℕ). with_low t.costs v b) bound_is ∙ ap (λ (c : CostBox). with_low c v (slice_index costs.low v)) before.costs_are
    ∙ ap (λ (bs : List ℕ). record { low = bs; high = take v costs.high ++ drop v old.costs.high })
    (set_between old.costs.low costs.low v 0 v_in (omega (arith, alike.new_low, v_in))) in
    record {
      costs_are = after.costs_are ∙ next_is;
      basis = after.basis ∙ ap (λ (c : CostBox). moved_basis c t.basis.items) next_is
          ∙ ap (moved_basis (between old.costs costs (suc v) v)) before.basis
          ∙ moved_twice (between old.costs costs v v) (between old.costs costs (suc v) v) old.basis.items;
    }

pub high_step : (old t s : Table) (costs : CostBox) (v bound : ℕ) → AreAlike old.costs costs →
    v < length old.costs.low → bound ≡ slice_index costs.high v → IsMoved old (between old.costs costs (suc v) v) t →
    IsMoved t (with_high t.costs v bound) s → IsMoved old (between old.costs costs (suc v) (suc v)) s
high_step old t s costs v bound alike v_in bound_is before after =
    let next_is : with_high t.costs v bound ≡ between old.costs costs (suc v) (suc v) =
    ap (λ (b : ℕ). with_high t.costs v b) bound_is ∙ ap (λ (c : CostBox). with_high c v (slice_index costs.high v)) before.costs_are
    ∙ ap (λ (bs : List ℕ). record { low = take (suc v) costs.low ++ drop (suc v) old.costs.low; high = bs })
    (set_between old.costs.high costs.high v 0 (omega (arith, alike.high, v_in))
    (omega (arith, alike.new_high, v_in))) in
    record {
      costs_are = after.costs_are ∙ next_is;
      basis = after.basis ∙ ap (λ (c : CostBox). moved_basis c t.basis.items) next_is
          ∙ ap (moved_basis (between old.costs costs (suc v) (suc v))) before.basis
          ∙ moved_twice (between old.costs costs (suc v) v) (between old.costs costs (suc v) (suc v)) old.basis.items;
    }

-- where all bounds have moved
pub all_moved : (old t : Table) (costs : CostBox) (n : ℕ) → AreAlike old.costs costs → n ≡ length old.costs.low →
    IsMoved old (between old.costs costs n n) t → IsMoved old costs t
all_moved old t costs n alike n_is is =
    let last : between old.costs costs n n ≡ costs =
    ap (λ (bs : List ℕ). record { low = bs; high = take n costs.high ++ drop n old.costs.high })
    (all_written old.costs.low costs.low n (sym n_is) (alike.new_low ∙ sym n_is))
    ∙ ap (λ (bs : List ℕ). record { low = costs.low; high = bs })
    (all_written old.costs.high costs.high n (alike.high ∙ sym n_is) (alike.new_high ∙ sym n_is)) in
    subst (λ (c : CostBox). IsMoved old c t) last is

-- the steps of a shift know the basis by its members in the box alone
step_from : (rows : List Form) (basis other : List Member) (shift : Shift) →
    moved_basis shift.costs basis ≡ moved_basis shift.costs other → (step : StepName) (left right : Fraction) →
    IsShiftStep rows basis shift step left right → IsShiftStep rows other shift step left right
step_from rows basis other shift same _ _ _ (constant es has) =
    constant es (subst (λ (ms : List Member). HasEntries shift.costs rows ms shift.member es) same has)
step_from rows basis other shift same _ _ _ (product j f fs there is has) =
    product j f fs (ap (λ ms. slice_get ms j) (sym same) ∙ there) is (subst (λ (ms : List Member). HasEntries shift.costs rows ms f fs) same has)
step_from rows basis other shift same _ _ _ (sum j f fs there is has) =
    sum j f fs (ap (λ ms. slice_get ms j) (sym same) ∙ there) is (subst (λ (ms : List Member). HasEntries shift.costs rows ms f fs) same has)

step_of : (old t : Table) (costs : CostBox) (here other : Shift) → KeepsTableLines old t → IsMoved old costs t →
    here ≡ other → other.costs ≡ costs → (step : StepName) (left right : Fraction) →
    IsShiftStep t.rows.items t.basis.items here step left right →
    IsShiftStep old.rows.items old.basis.items other step left right
step_of old t costs here other keeps is same over step left right s =
    step_from old.rows.items t.basis.items old.basis.items other
    (ap (λ (c : CostBox). moved_basis c t.basis.items) over ∙ ap (moved_basis costs) is.basis
    ∙ moved_twice costs costs old.basis.items ∙ ap (λ (c : CostBox). moved_basis c old.basis.items) (sym over))
    step left right
    (subst (λ (rows : List Form). IsShiftStep rows t.basis.items other step left right) keeps.rows
    (subst (λ (shift : Shift). IsShiftStep t.rows.items t.basis.items shift step left right) same s))

-- a step of a bound's move that is too wide is one of the whole move
pub low_move : (old t : Table) (costs : CostBox) (v bound : ℕ) (wide : Wide) → AreAlike old.costs costs →
    v < length old.costs.low → bound ≡ slice_index costs.low v → KeepsTableLines old t →
    IsMoved old (between old.costs costs v v) t → IsWideShift t (low_shift_of t v bound) wide →
    IsWideMove (held_of old Open) costs
low_move old t costs v bound wide alike v_in bound_is keeps is w =
    let shift : CostBox → ℕ → ℕ → Shift = λ c l b. record { costs = c; member = Low v l; fall = pos b -ℤ pos l } in
    let old_is : slice_index t.costs.low v ≡ slice_index old.costs.low v =
    ap (λ (c : CostBox). slice_index c.low v) is.costs_are ∙ at_between old.costs.low costs.low v v_in (omega (arith, alike.new_low, v_in)) in
    let same : low_shift_of t v bound ≡ low_shift old.costs costs v =
    ap (λ (c : CostBox). shift c (slice_index t.costs.low v) bound) is.costs_are
    ∙ ap (λ (l : ℕ). shift (between old.costs costs v v) l bound) old_is
    ∙ ap (λ (b : ℕ). shift (between old.costs costs v v) (slice_index old.costs.low v) b) bound_is in
    record {
      var = v;
      var_in = omega (arith, alike.new_low, v_in);
      step = wide.step;
      left = wide.left;
      right = wide.right;
      is_step = inl (step_of old t (between old.costs costs v v) (low_shift_of t v bound) (low_shift old.costs costs v)
          keeps is same refl wide.step wide.left wide.right w.0);
      passes = subst (λ (top : ℕ). Any (λ n. top < n) (numbers_of_step wide.step wide.left wide.right)) keeps.top w.1;
    }

pub high_move : (old t : Table) (costs : CostBox) (v bound : ℕ) (wide : Wide) → AreAlike old.costs costs →
    v < length old.costs.low → bound ≡ slice_index costs.high v → KeepsTableLines old t →
    IsMoved old (between old.costs costs (suc v) v) t → IsWideShift t (high_shift_of t v bound) wide →
    IsWideMove (held_of old Open) costs
high_move old t costs v bound wide alike v_in bound_is keeps is w =
    let shift : CostBox → ℕ → ℕ → Shift = λ c h b. record { costs = c; member = High v h; fall = pos h -ℤ pos b } in
    let old_is : slice_index t.costs.high v ≡ slice_index old.costs.high v =
    ap (λ (c : CostBox). slice_index c.high v) is.costs_are
    ∙ at_between old.costs.high costs.high v (omega (arith, alike.high, v_in))
    (omega (arith, alike.new_high, v_in)) in
    let same : high_shift_of t v bound ≡ high_shift old.costs costs v =
    ap (λ (c : CostBox). shift c (slice_index t.costs.high v) bound) is.costs_are
    ∙ ap (λ (h : ℕ). shift (between old.costs costs (suc v) v) h bound) old_is
    ∙ ap (λ (b : ℕ). shift (between old.costs costs (suc v) v) (slice_index old.costs.high v) b) bound_is in
    record {
      var = v;
      var_in = omega (arith, alike.new_low, v_in);
      step = wide.step;
      left = wide.left;
      right = wide.right;
      is_step = inr (step_of old t (between old.costs costs (suc v) v) (high_shift_of t v bound)
          (high_shift old.costs costs v) keeps is same refl wide.step wide.left wide.right w.0);
      passes = subst (λ (top : ℕ). Any (λ n. top < n) (numbers_of_step wide.step wide.left wide.right)) keeps.top w.1;
    }

-- what two tables in a row keep
pub keeps_both : (old t s : Table) → KeepsTableLines old t → KeepsTableLines t s → KeepsTableLines old s
keeps_both old t s first second =
    record { top = second.top ∙ first.top; rows = second.rows ∙ first.rows; width = second.width ∙ first.width }
