-- The line is cleared, and gets the constant.
use Rattle.std.proofs.Common.{◌≡◌, suc, ◌-◌, ◌^◌, ◌<◌, ◌≤◌, ◌∙◌, refl, sym, ap, subst, List, length, arith, nat_abs}
use Rattle.std.specs.Prelude.{ℤ, pos, slice_set}
use Rattle.std.proofs.lemmas.List.{get_or_default, get_or-set_same}
use Rattle.whole_numbers.specs.Fractions.{Fraction}
use Rattle.whole_numbers.specs.Lists.{number_at}
use Rattle.fraction_lines.specs.TableLines.{blank_line}
use Rattle.fraction_table.proofs.MultiplierSteps.{read_back}
use Rattle.integer_pivots.proofs.Sizes.{read_number}
use Rattle.table_kernel.specs.Kernels.{width_of}
use Rattle.table_kernel.proofs.Columns.{common_small}
use Rattle.table_kernel.proofs.Lines.{common_read}
use Rattle.table_kernel.proofs.OverCommon.{over_as}
use Rattle.table_kernel.proofs.Restated.{set_twice}
use Rattle.table_kernel.proofs.WideNumbers.{read_of}
use Rattle.table_kernel.proofs.kernel.Kernel.restate_constant.Goals as goal
use Rattle.table_kernel.proofs.kernel.Kernel.restate_constant.Goals.{After-from}

pub index-requires : goal.index-requires
index-requires c = omega (arith, c.requires.place, c.args.self.now.constants.ok.0)

pub fraction_over-constant-requires-clause-common : goal.fraction_over-constant-requires-clause-common
fraction_over-constant-requires-clause-common c =
    let k = c.args.self.now in
    let b = c.requires.kernel.bounded in
    omega (arith, ap nat_abs (common_read k b), common_small k b, b.top)

-- the constant is small
number_is : (c : After-from) →
    (read_of c.from.result ≡ number_at c.args.self.now.constants.items c.args.place) × (nat_abs (read_of c.from.result) ≤ 2 ^ 62)
number_is c =
    let k = c.args.self.now in
    let z = c.index.result.now in
    let same : z ≡ number_at k.constants.items c.args.place = c.index.ensures ∙ get_or_default k.constants.items c.args.place z (pos 0) c.requires.place in
    let small : nat_abs z ≤ 2 ^ 62 = subst (λ (y : ℤ). nat_abs y ≤ 2 ^ 62) (sym c.index.ensures)
    (c.requires.kernel.bounded.constants c.args.place z c.requires.place) in
    let is : read_of c.from.result ≡ z =
    ap read_of (c.from.ensures ∙ read_number z (omega (arith, small))) ∙ read_back z (omega (arith, small)) in
    (is ∙ same, omega (arith, ap nat_abs is, small))

pub fraction_over-constant-requires-clause-number : goal.fraction_over-constant-requires-clause-number
fraction_over-constant-requires-clause-number c =
    let small = (number_is (goal.at.fraction_over-constant-requires-clause-number c).After-from).1 in
    omega (arith, small, c.requires.kernel.bounded.top)

pub returns-clause-lines : goal.returns-clause-lines
returns-clause-lines c =
    let k = c.args.self.now in
    let s = c.requires.kernel.shaped in
    let lines = k.table.lines.items in
    let place_in : c.args.place < length lines = omega (arith, c.requires.place, s.lines) in
    let q = c.fraction_over-constant.result in
    let long : length c.index_mut.result.now ≡ suc (width_of k) = ap length c.index_mut.ensures.value ∙ s.wide c.args.place _ place_in in
    set_twice lines c.args.place c.clear.new.self c.set_constant.new.self
    ∙ ap (slice_set lines c.args.place) (
    c.set_constant.ensures
    ∙ ap (λ (line : List Fraction). slice_set line 0 q) (
    c.index_mut-2.ensures.value
    ∙ get_or-set_same lines c.args.place c.clear.new.self _ place_in
    ∙ c.clear.ensures
    ∙ ap blank_line (let e : length c.index_mut.result.now - 1 ≡ width_of k = omega (arith, long) in e))
    ∙ ap (λ (p : Fraction). slice_set (blank_line (width_of k)) 0 p) (c.fraction_over-constant.ensures.value
    ∙ over_as _ _ _ _ (ap nat_abs (common_read k c.requires.kernel.bounded)) (number_is (goal.at.returns-clause-lines c).After-from).0))

pub returns-clause-keeps : goal.returns-clause-keeps
returns-clause-keeps c = record {
  table = record { top = refl; costs = refl; rows = refl; basis = refl; quotients = refl; scratch = refl };
  common = refl;
  lows = refl;
  leads = refl;
  constants = refl;
  uses = refl;
  turns = refl;
  left = refl;
  entering = refl;
  place = λ there. record { rows = there.rows; lines = there.lines };
}
