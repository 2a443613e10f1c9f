-- The constants of a kernel's forms where the lines of some variables have changed, variable by variable.
use Rattle.std.specs.declared.alloc.Global.{Global}
use Rattle.std.proofs.Common.{Vec, ◌≡◌, ◌≢◌, ℕ, ◌+◌, ◌^◌, ◌<◌, ◌≤◌, refl, sym, ◌∙◌, ap, subst, List, length, arith, inl, inr, w64, to_z, of_z}
use Rattle.std.specs.Prelude.{ℤ, pos, ◌+ℤ◌, ◌-ℤ◌, ◌*ℤ◌, nat_abs, slice_index, slice_index_or, All}
use Rattle.std.specs.Int.Signed.{mag}
use Rattle.std.proofs.lemmas.Bool.{cases_eq, cases_lt}
use Rattle.std.proofs.lemmas.List.{get_or_default}
use Rattle.whole_numbers.proofs.Sizes.{positive_is}
use Rattle.whole_numbers.specs.Lists.{number_at}
use Rattle.design_problem.specs.Forms.{no_form, value_for_costs}
use Rattle.fraction_table.specs.Tableaus.{FitsBox}
use Rattle.integer_pivots.specs.declared.turned_line.Turn.{Turn}
use Rattle.integer_pivots.specs.Numbers.{AllWithin, product_sum}
use Rattle.integer_pivots.proofs.Sizes.{number_within, read_known}
use Rattle.table_kernel.specs.declared.kernel.Kernel.{Kernel}
use Rattle.table_kernel.specs.Constants.{AreByFirst, AreConstantsPut, AreFirstSmall, KeepsAllButConstants, constant_of_line}
use Rattle.table_kernel.specs.Kernels.{IsBounded, IsShaped, width_of}
use Rattle.table_kernel.specs.Turns.{held_turn, no_turn}
use Rattle.table_kernel.proofs.Columns.{constants_long, constants_within, low_constant_at, low_constants}
use Rattle.table_kernel.proofs.ConstantSums.{sums_alike}
use Rattle.table_kernel.proofs.FollowedConstants.{constants_many}
use Rattle.table_kernel.proofs.Places.{constants_are}

-- a kernel that differs in its constants alone is the one with these constants
abbrev with_constants : Kernel → Vec ℤ Global → Kernel
with_constants k constants = record k { constants = constants }

rebuilt : (old new : Kernel) → KeepsAllButConstants old new → new ≡ with_constants old new.constants
rebuilt old new keeps =
    rw (sym keeps.table, sym keeps.common, sym keeps.lows, sym keeps.leads, sym keeps.uses, sym keeps.turns, sym keeps.left, sym keeps.entering) refl

-- it is shaped as the other one, and bounded where its constants are
pub kept_shaped : (old new : Kernel) → KeepsAllButConstants old new → length new.constants.items ≡ length old.constants.items → IsShaped old → IsShaped new
kept_shaped old new keeps many s =
    subst IsShaped (sym (rebuilt old new keeps))
    (record {
      room = s.room;
      lows = s.lows;
      each = s.each;
      leads = s.leads;
      lead = s.lead;
      constants = many ∙ s.constants;
      uses = s.uses;
      turns = s.turns;
      left = s.left;
      entering = s.entering;
      lines = s.lines ∙ sym many;
      wide = s.wide;
    })

pub kept_bounded : (old new : Kernel) → KeepsAllButConstants old new → AllWithin (2 ^ 62) new.constants.items → IsBounded old → IsBounded new
kept_bounded old new keeps small b =
    subst IsBounded (sym (rebuilt old new keeps))
    (record {
      top = b.top;
      positive = b.positive;
      common = b.common;
      lines = b.lines;
      divides = b.divides;
      low = b.low;
      constants = small;
      rows = b.rows;
    })

pub kept_line : (old new : Kernel) → KeepsAllButConstants old new → (v : ℕ) → constant_of_line new v ≡ constant_of_line old v
kept_line old new keeps v = ap (λ (k : Kernel). constant_of_line k v) (rebuilt old new keeps)

pub kept_width : (old new : Kernel) → KeepsAllButConstants old new → width_of new ≡ width_of old
kept_width old new keeps = ap width_of (rebuilt old new keeps)

-- its rows fit its box as before
pub kept_fit : (old new : Kernel) → KeepsAllButConstants old new → All (FitsBox old.table.costs) old.table.rows.items →
    All (FitsBox new.table.costs) new.table.rows.items
kept_fit old new keeps fit = subst (λ (k : Kernel). All (FitsBox k.table.costs) k.table.rows.items) (sym (rebuilt old new keeps)) fit

pub kept_high : (old new : Kernel) → KeepsAllButConstants old new →
    length old.table.costs.high ≡ width_of old → length new.table.costs.high ≡ width_of new
kept_high old new keeps high = subst (λ (k : Kernel). length k.table.costs.high ≡ width_of k) (sym (rebuilt old new keeps)) high

-- constants that are by the first ones in the one kernel are so in the other
pub kept_by_first : (old new : Kernel) → KeepsAllButConstants old new → AreByFirst old new.constants.items → AreByFirst new new.constants.items
kept_by_first old new keeps f =
    subst (λ (k : Kernel). AreByFirst k new.constants.items) (sym (rebuilt old new keeps))
    (record { count = refl; high = f.high; rows = f.rows })

pub back_by_first : (old new : Kernel) (constants : List ℤ) → KeepsAllButConstants old new → length new.constants.items ≡ length old.constants.items →
    AreByFirst new constants → AreByFirst old constants
back_by_first old new constants keeps many f =
    let is : AreByFirst (with_constants old new.constants) constants = subst (λ (k : Kernel). AreByFirst k constants) (rebuilt old new keeps) f in
    record { count = f.count ∙ many; high = is.high; rows = is.rows }

-- one kernel after another
kept_further : (old new next : Kernel) → KeepsAllButConstants old new → KeepsAllButConstants new next → KeepsAllButConstants old next
kept_further old new next k l = record {
  table = l.table ∙ k.table;
  common = l.common ∙ k.common;
  lows = l.lows ∙ k.lows;
  leads = l.leads ∙ k.leads;
  uses = l.uses ∙ k.uses;
  turns = l.turns ∙ k.turns;
  left = l.left ∙ k.left;
  entering = l.entering ∙ k.entering;
}

-- The constants of the variables before one are those of their lines; those of the others are as at the start.
pub record AreFollowedTo (k now : Kernel) (var : ℕ) : Type 0 where
  pub keeps : KeepsAllButConstants k now
  pub by_first : AreByFirst k now.constants.items
  pub small : AllWithin (2 ^ 62) now.constants.items
  pub done : (v : ℕ) → v < width_of k → v < var → number_at now.constants.items v ≡ constant_of_line k v
  pub rest : (v : ℕ) → v < width_of k → var ≤ v → number_at now.constants.items v ≡ number_at k.constants.items v

-- none at the start
pub none_followed : (k : Kernel) → IsBounded k → AreByFirst k k.constants.items → AreFollowedTo k k 0
none_followed k b f = record {
  keeps = record { table = refl; common = refl; lows = refl; leads = refl; uses = refl; turns = refl; left = refl; entering = refl };
  by_first = f;
  small = b.constants;
  done = λ v v_in before. absurd (omega (arith, before));
  rest = λ v v_in from. refl;
}

-- those of x - low are small meanwhile
pub first_meanwhile : (k now : Kernel) (var : ℕ) → IsShaped k → IsBounded k → AreFirstSmall k k.constants.items → AreFollowedTo k now var →
    AreFirstSmall now now.constants.items
first_meanwhile k now var s b first f v v_in =
    let there : v < width_of k = subst (λ (n : ℕ). v < n) (kept_width k now f.keeps) v_in in
    elim (cases_lt v var) [
      | inl before ↦
          subst (λ (z : ℤ). nat_abs z ≤ 2 ^ 44) (sym (f.done v there before ∙ sym (low_constant_at k s v there)))
          (number_within (2 ^ 44) (low_constants k) v (constants_within k b))
      | inr from ↦ subst (λ (z : ℤ). nat_abs z ≤ 2 ^ 44) (sym (f.rest v there from)) (first v there)
    ]

-- one variable more, whose line has turned
pub one_followed : (k now next : Kernel) (var : ℕ) → AreFollowedTo k now var → KeepsAllButConstants now next →
    number_at next.constants.items var ≡ constant_of_line now var →
    ((v : ℕ) → v < width_of now → v ≢ var → number_at next.constants.items v ≡ number_at now.constants.items v) →
    AreByFirst now next.constants.items → AllWithin (2 ^ 62) next.constants.items → AreFollowedTo k next (var + 1)
one_followed k now next var f keeps own others by_first small = record {
  keeps = kept_further k now next f.keeps keeps;
  by_first = back_by_first k now next.constants.items f.keeps f.by_first.count by_first;
  small = small;
  done = λ v v_in before.
      elim (cases_eq v var) [
        | inl same ↦ ap (number_at next.constants.items) same ∙ own ∙ kept_line k now f.keeps var ∙ ap (constant_of_line k) (sym same)
        | inr apart ↦ others v (inside v v_in) apart ∙ f.done v v_in (omega (arith, before, apart))
      ];
  rest = λ v v_in from. others v (inside v v_in) (λ (same : v ≡ var). absurd (omega (arith, same, from))) ∙ f.rest v v_in (omega (arith, from));
}
  where
    inside : (v : ℕ) → v < width_of k → v < width_of now
    inside v v_in = subst (λ (n : ℕ). v < n) (sym (kept_width k now f.keeps)) v_in

-- and one whose line is as it was
pub one_stays : (k now : Kernel) (var : ℕ) → AreFollowedTo k now var → (var < width_of k → number_at k.constants.items var ≡ constant_of_line k var) →
    AreFollowedTo k now (var + 1)
one_stays k now var f stays = record {
  keeps = f.keeps;
  by_first = f.by_first;
  small = f.small;
  done = λ v v_in before.
      elim (cases_eq v var) [
        | inl same ↦
            subst (λ (u : ℕ). u < width_of k → number_at now.constants.items u ≡ constant_of_line k u) (sym same)
            (λ u_in. f.rest var u_in (omega arith) ∙ stays u_in) v_in
        | inr apart ↦ f.done v v_in (omega (arith, before, apart))
      ];
  rest = λ v v_in from. f.rest v v_in (omega (arith, from));
}

-- once all follow, the constants are those of the kernel's forms
pub all_followed : (k now : Kernel) (var : ℕ) → IsShaped k → IsBounded k → All (FitsBox k.table.costs) k.table.rows.items → width_of k ≤ var →
    AreFollowedTo k now var → AreConstantsPut k now.constants.items
all_followed k now var s b fit all f =
    let zs = low_constants k in
    let news = now.constants.items in
    let D = nat_abs k.common in
    let common_is : k.common ≡ pos D = positive_is k.common b.positive in
    let low : (v : ℕ) → v < width_of k → number_at news v ≡ number_at zs v =
    λ v v_in. f.done v v_in (omega (arith, v_in, all)) ∙ sym (low_constant_at k s v v_in) in
    record {
      count = f.by_first.count;
      each = constants_are k.table.costs k.table.rows.items D _ zs refl (constants_long k s) news (f.by_first.count ∙ constants_many k s) low
          (λ v v_in. (
          let range = pos (slice_index k.table.costs.high v) -ℤ pos (slice_index k.table.costs.low v) in
          f.by_first.high v v_in
          ∙ ap (λ (z : ℤ). (z *ℤ range) -ℤ number_at news v) common_is
          ∙ ap (λ (z : ℤ). (pos D *ℤ range) -ℤ z) (low v v_in)))
          (λ row row_in. (
          let form = slice_index_or k.table.rows.items row no_form in
          let value = value_for_costs form k.table.costs.low in
          let few = (fit row no_form row_in).count in
          f.by_first.rows row row_in
          ∙ ap (λ (z : ℤ). (z *ℤ value) +ℤ product_sum form.coefficients news) common_is
          ∙ ap (λ (z : ℤ). (pos D *ℤ value) +ℤ z)
          (sums_alike form.coefficients news zs (omega (arith, few, f.by_first.count, constants_many k s)) (omega (arith, few, constants_long k s))
          (λ i i_in. low i (omega (arith, i_in, few))))));
    }

-- a turn that is read without a factor is one that a kernel holds
pub read_factor : (k now : Kernel) (v : ℕ) (turn : Turn) → KeepsAllButConstants k now → IsShaped k → v < width_of k →
    turn ≡ slice_index_or now.turns.items v turn → mag turn.factor < 2 ^ 63 → of_z w64 turn.factor ≡ 0 → (held_turn k v).factor ≡ pos 0
read_factor k now v turn keeps s v_in is fits none =
    let same : turn ≡ held_turn k v =
    is
    ∙ ap (λ (ts : Vec Turn Global). slice_index_or ts.items v turn) keeps.turns
    ∙ get_or_default k.turns.items v turn no_turn (omega (arith, v_in, s.turns)) in
    ap (λ (t : Turn). t.factor) (sym same) ∙ sym (read_known turn.factor fits) ∙ ap (to_z w64) none
