-- A variable's two constants are put, and those of the rows that use it follow.
use Rattle.std.proofs.Common.{refl, ◌≡◌, ℕ, ◌^◌, ◌+◌, ◌*◌, ◌<◌, ◌≤◌, ◌∙◌, ◌++◌, List, arith, ap, length, take, drop, subst, sym, w64, to_z, of_z}
use Rattle.std.specs.Prelude.{ℤ, ◌+ℤ◌, ◌-ℤ◌, ◌*ℤ◌, nat_abs, All, slice_index}
use Rattle.std.proofs.lemmas.Int.{fits_signed_from_abs}
use Rattle.whole_numbers.specs.Lists.{number_at}
use Rattle.integer_pivots.specs.Lines.{no_line}
use Rattle.integer_pivots.specs.Numbers.{AllWithin}
use Rattle.integer_pivots.specs.Uses.{coefficient_in, size_in, uses_from}
use Rattle.integer_pivots.proofs.Sizes.{read_number}
use Rattle.integer_pivots.proofs.UseLaws.{lists_many}
use Rattle.integer_pivots.proofs.WrittenPlaces.{written}
use Rattle.table_kernel.specs.Constants.{AreByFirst, IsShortConstant, constant_of_line, high_constant, line_constant}
use Rattle.table_kernel.specs.Kernels.{width_of}
use Rattle.table_kernel.proofs.FollowedConstants.{AreFollowed, AreTwoPut, IsChange, are_followed, change_of, common_read, constants_many, followed_by_first, followed_small, line_read, puts_long, puts_read, rows_stay, uses_fit, uses_known, uses_read}
use Rattle.table_kernel.proofs.TurnArgs.{range_read}
use Rattle.table_kernel.proofs.kernel.Kernel.follow.Goals.{After-index-3}
use Rattle.table_kernel.proofs.kernel.Kernel.follow.Goals as goal

pub constant_over-constant-requires-clause-line : goal.constant_over-constant-requires-clause-line
constant_over-constant-requires-clause-line c =
    let k = c.args.self.now in
    let b = c.requires.kernel.bounded in
    let line = line_read k c.requires.kernel.shaped c.args.var c.index.result.now c.requires.var c.index.ensures in
    let at_in : c.args.var < length k.lows.items = omega (arith, c.requires.var, c.requires.kernel.shaped.lows) in
    subst (λ (z : ℤ). IsShortConstant z c.index.result.now) (sym (common_read k b))
    (subst (IsShortConstant k.common) (sym line)
    (record { positive = (b.lines c.args.var no_line at_in).positive; divides = b.divides c.args.var no_line at_in; limit = b.low c.args.var no_line at_in }))

pub index-requires-2 : goal.index-requires-2
index-requires-2 c =
    let k = c.args.self.now in
    omega (arith, c.requires.var, constants_many k c.requires.kernel.shaped, k.constants.ok.0)

pub overflow_sub-change : goal.overflow_sub-change
overflow_sub-change c =
    let change = change_of c.args.self.now c.requires.kernel.shaped c.requires.made.small c.args.var c.constant_over-constant.result c.index-2.result.now
    c.requires.var c.constant_over-constant.ensures.size c.index-2.ensures in
    fits_signed_from_abs w64 _ (omega (arith, change.size))

pub index_mut-requires : goal.index_mut-requires
index_mut-requires c =
    let k = c.args.self.now in
    omega (arith, c.requires.var, constants_many k c.requires.kernel.shaped, k.constants.ok.0)

pub index_mut-requires-2 : goal.index_mut-requires-2
index_mut-requires-2 c =
    let k = c.args.self.now in
    omega (arith, c.requires.var, c.width-width.ensures, constants_many k c.requires.kernel.shaped, k.constants.ok.0)

pub index-requires-3 : goal.index-requires-3
index-requires-3 c =
    let k = c.args.self.now in
    omega (arith, c.requires.var, lists_many k.uses.items k.table.rows.items (width_of k) c.requires.kernel.shaped.uses, k.uses.ok.0)

-- what is read and put before the uses follow
module _ (c : After-index-3) where
  change_is : IsChange c.args.self.now c.args.var c.constant_over-constant.result c.index-2.result.now
  change_is =
      change_of c.args.self.now c.requires.kernel.shaped c.requires.made.small c.args.var c.constant_over-constant.result c.index-2.result.now
      c.requires.var c.constant_over-constant.ensures.size c.index-2.ensures

  uses_are : c.index-3.result.now.items ≡ uses_from 0 c.args.self.now.table.rows.items c.args.var
  uses_are = uses_read c.args.self.now c.requires.kernel.shaped c.args.var c.index-3.result.now c.requires.var c.index-3.ensures

  puts_are : AreTwoPut c.args.self.now c.args.var c.constant_over-constant.result c.constant_of_high.result c.as_mut_slice.result.now
  puts_are =
      puts_read c.args.self.now c.args.var c.width-width.result c.constant_over-constant.result c.constant_of_high.result c.as_mut_slice.result.now
      c.constant_over-constant.ensures.size c.constant_of_high.ensures.size c.width-width.ensures c.as_mut_slice.ensures.value

  own_is : c.constant_over-constant.result ≡ constant_of_line c.args.self.now c.args.var
  own_is =
      let k = c.args.self.now in
      c.constant_over-constant.ensures.constant
      ∙ ap (λ (z : ℤ). line_constant z c.index.result.now) (common_read k c.requires.kernel.bounded)
      ∙ ap (line_constant k.common) (line_read k c.requires.kernel.shaped c.args.var c.index.result.now c.requires.var c.index.ensures)

  high_is : c.constant_of_high.result ≡ high_constant (slice_index c.args.self.now.table.costs.low c.args.var)
      (slice_index c.args.self.now.table.costs.high c.args.var) c.args.self.now.common c.constant_over-constant.result
  high_is =
      let k = c.args.self.now in
      let v = c.args.var in
      let x = c.constant_over-constant.result in
      let read : ℤ → ℤ = λ z. to_z w64 (of_z w64 z) in
      let low = slice_index k.table.costs.low v in
      let high = slice_index k.table.costs.high v in
      c.constant_of_high.ensures.constant
      ∙ ap (λ (ls : List ℕ). high_constant (slice_index ls v) (slice_index c.as_slice-2.result.now v) (read k.common) (read x)) c.as_slice.ensures
      ∙ ap (λ (hs : List ℕ). high_constant low (slice_index hs v) (read k.common) (read x)) c.as_slice-2.ensures
      ∙ ap (λ (z : ℤ). high_constant low high z (read x)) (common_read k c.requires.kernel.bounded)
      ∙ ap (high_constant low high k.common) (read_number x (omega (arith, c.constant_over-constant.ensures.size)))

  -- what the uses leave behind the front of the list is all of it
  news_are : (news xs : List ℤ) → length news ≡ length c.as_mut_slice.result.now → xs ≡ c.as_mut_slice.result.now →
      take c.args.self.now.constants.len (news ++ drop (length news) xs) ≡ news
  news_are news xs long is =
      let k = c.args.self.now in
      let puts_count = ap length is ∙ puts_long k c.args.var _ _ c.as_mut_slice.result.now puts_are in
      written k.constants.len news xs (long ∙ sym (ap length is)) (k.constants.ok.0 ∙ sym puts_count)

pub put_uses-requires-clause-known : goal.put_uses-requires-clause-known
put_uses-requires-clause-known c i d i_in =
    let a = (goal.at.put_uses-requires-clause-known c).After-index-3 in
    let k = c.args.self.now in
    let known = uses_known k c.args.var c.index-3.result.now.items (uses_are a) i d i_in in
    let long = puts_long k c.args.var _ _ c.as_mut_slice.result.now (puts_are a) in
    omega (arith, known, c.width-width.ensures, long, constants_many k c.requires.kernel.shaped)

pub put_uses-requires-clause-number : goal.put_uses-requires-clause-number
put_uses-requires-clause-number c = (change_is (goal.at.put_uses-requires-clause-number c).After-index-3).read_size

pub put_uses-requires-clause-small : goal.put_uses-requires-clause-small
put_uses-requires-clause-small c =
    let a = (goal.at.put_uses-requires-clause-small c).After-index-3 in
    let k = c.args.self.now in
    let us = c.index-3.result.now.items in
    let puts = c.as_mut_slice.result.now in
    subst (λ (n : ℕ). All (λ u. nat_abs (number_at puts (n + n + u.row)) + size_in us u.row * 2 ^ 45 ≤ 2 ^ 62) us) (sym c.width-width.ensures)
    (uses_fit k c.requires.kernel.shaped c.requires.kernel.bounded c.requires.kernel.fit c.args.var us puts (uses_are a) c.requires.made.small
    c.requires.made.others
    (rows_stay k c.args.var _ _ puts c.requires.var (puts_are a)))

-- what the constants end as, by what the uses leave
module _ (c : After-index-3) (news : List ℤ) (long : length news ≡ length c.as_mut_slice.result.now)
    (before : (v : ℕ) → v < c.width-width.result + c.width-width.result → number_at news v ≡ number_at c.as_mut_slice.result.now v)
    (rows : (row : ℕ) → number_at news (c.width-width.result + c.width-width.result + row)
    ≡ (number_at c.as_mut_slice.result.now (c.width-width.result + c.width-width.result + row)
    +ℤ (to_z w64 (of_z w64 (to_z w64 (of_z w64 c.constant_over-constant.result) -ℤ to_z w64 (of_z w64 c.index-2.result.now)))
    *ℤ coefficient_in c.index-3.result.now.items row))) where
  followed : AreFollowed c.args.self.now c.args.var c.constant_over-constant.result c.constant_of_high.result news
  followed =
      let k = c.args.self.now in
      let us = c.index-3.result.now.items in
      let x = c.constant_over-constant.result in
      let old = c.index-2.result.now in
      let puts = c.as_mut_slice.result.now in
      are_followed k c.requires.kernel.shaped c.args.var x c.constant_of_high.result _ us puts news
      c.requires.var (uses_are c) (change_is c).is long (puts_are c)
      (λ v v_in. before v (omega (arith, v_in, c.width-width.ensures)))
      (subst (λ (n : ℕ). (row : ℕ) → number_at news (n + n + row)
      ≡ (number_at puts (n + n + row) +ℤ (to_z w64 (of_z w64 (to_z w64 (of_z w64 x) -ℤ to_z w64 (of_z w64 old))) *ℤ coefficient_in us row)))
      c.width-width.ensures rows)

  by_first_is : AreByFirst c.args.self.now news
  by_first_is =
      followed_by_first c.args.self.now c.requires.kernel.shaped c.requires.kernel.fit c.args.var c.constant_over-constant.result c.constant_of_high.result
      news c.requires.var (high_is c) c.requires.made.others followed

  small_is : AllWithin (2 ^ 62) news
  small_is =
      followed_small c.args.self.now c.requires.kernel.shaped c.requires.kernel.bounded c.requires.kernel.fit c.args.var c.constant_over-constant.result
      c.constant_of_high.result news c.constant_over-constant.ensures.size c.constant_of_high.ensures.size c.requires.made.small followed by_first_is

pub returns-clause-own : goal.returns-clause-own
returns-clause-own c =
    let a = (goal.at.returns-clause-own c).After-index-3 in
    ap (λ (zs : List ℤ). number_at zs c.args.var) (news_are a c.put_uses.new.sums _ c.put_uses.auto.sums (sym c.as_mut_slice.ensures.value))
    ∙ (followed a c.put_uses.new.sums c.put_uses.auto.sums c.put_uses.ensures.before c.put_uses.ensures.rows).own ∙ own_is a

pub returns-clause-others : goal.returns-clause-others
returns-clause-others c v v_in apart =
    let a = (goal.at.returns-clause-others c).After-index-3 in
    ap (λ (zs : List ℤ). number_at zs v) (news_are a c.put_uses.new.sums _ c.put_uses.auto.sums (sym c.as_mut_slice.ensures.value))
    ∙ (followed a c.put_uses.new.sums c.put_uses.auto.sums c.put_uses.ensures.before c.put_uses.ensures.rows).others v v_in apart

pub returns-clause-by_first : goal.returns-clause-by_first
returns-clause-by_first c =
    let a = (goal.at.returns-clause-by_first c).After-index-3 in
    subst (AreByFirst c.args.self.now) (sym (news_are a c.put_uses.new.sums _ c.put_uses.auto.sums (sym c.as_mut_slice.ensures.value)))
    (by_first_is a c.put_uses.new.sums c.put_uses.auto.sums c.put_uses.ensures.before c.put_uses.ensures.rows)

pub returns-clause-small : goal.returns-clause-small
returns-clause-small c =
    let a = (goal.at.returns-clause-small c).After-index-3 in
    subst (AllWithin (2 ^ 62)) (sym (news_are a c.put_uses.new.sums _ c.put_uses.auto.sums (sym c.as_mut_slice.ensures.value)))
    (small_is a c.put_uses.new.sums c.put_uses.auto.sums c.put_uses.ensures.before c.put_uses.ensures.rows)

pub constant_over-constant-requires-clause-common : goal.constant_over-constant-requires-clause-common
constant_over-constant-requires-clause-common c =
    let b = c.requires.kernel.bounded in
    range_read c.args.self.now.common (b.positive, b.common)

pub bounds-as_slice-var : goal.bounds-as_slice-var
bounds-as_slice-var c = omega (arith, c.requires.var, ap length c.as_slice.ensures)

pub bounds-as_slice-var-2 : goal.bounds-as_slice-var-2
bounds-as_slice-var-2 c = omega (arith, c.requires.var, c.requires.kernel.high, ap length c.as_slice-2.ensures)

pub constant_of_high-requires-clause-common : goal.constant_of_high-requires-clause-common
constant_of_high-requires-clause-common c =
    let b = c.requires.kernel.bounded in
    range_read c.args.self.now.common (b.positive, b.common)

pub constant_of_high-requires-clause-constant : goal.constant_of_high-requires-clause-constant
constant_of_high-requires-clause-constant c =
    let size = c.constant_over-constant.ensures.size in
    subst (λ (z : ℤ). nat_abs z ≤ 2 ^ 44) (sym (read_number c.constant_over-constant.result (omega (arith, size)))) size

pub returns-clause-keeps : goal.returns-clause-keeps
returns-clause-keeps c =
    record { table = refl; common = refl; lows = refl; leads = refl; uses = refl; turns = refl; left = refl; entering = refl }
