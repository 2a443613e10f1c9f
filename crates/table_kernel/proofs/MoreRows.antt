-- One more row: the kernel stays one with the row's constant at the end.
use Prim.Native.Nat.{◌∣◌}
use Rattle.std.specs.declared.alloc.Global.{Global}
use Rattle.std.proofs.Common.{Vec, ◌≡◌, ◌≢◌, ℕ, suc, ◌+◌, ◌*◌, ◌^◌, ◌<◌, ◌≤◌, inl, inr, sym, ◌∙◌, ap, subst, List, [], ◌∷◌, ◌++◌, length, map, arith}
use Rattle.std.specs.Prelude.{ℤ, pos, ◌+ℤ◌, ◌*ℤ◌, ◌<ℤ◌, ◌≤ℤ◌, nat_abs, slice_index_or, vec_capacity, All}
use Rattle.std.proofs.Math.Seq.{get_or-append_seam}
use Rattle.std.proofs.lemmas.Bool.{cases_lt}
use Rattle.std.proofs.lemmas.List.{get_or_append_left, length-append}
use Rattle.std.proofs.lemmas.List.Elements.{All-append}
use Rattle.whole_numbers.specs.Fractions.{Fraction}
use Rattle.whole_numbers.specs.Lists.{number_at}
use Rattle.whole_numbers.proofs.Sizes.{positive_is}
use Rattle.design_problem.specs.declared.form.Form.{Form}
use Rattle.design_problem.specs.declared.boxes.CostBox.{CostBox}
use Rattle.design_problem.specs.declared.tree.Member.{Member}
use Rattle.design_problem.specs.declared.tree.Member.TheVariants.{Low, Row}
use Rattle.design_problem.specs.Forms.{no_form, value_for_costs}
use Rattle.design_problem.specs.Basis.{member_form}
use Rattle.design_problem.specs.Boxes.{IsBox}
use Rattle.fraction_table.specs.RowLines.{HoldsRow}
use Rattle.fraction_table.specs.Tableaus.{FitsBox}
use Rattle.fraction_table.specs.ValidTables.{AreMixtures, low_forms, members_of_box, number_of_form}
use Rattle.fraction_table.proofs.MoreRows.{form_kept, forms_kept, member_kept, members_more, one_all}
use Rattle.fraction_table.proofs.Pivots.{members_long}
use Rattle.fraction_table.proofs.StartingTables.{members_are}
use Rattle.integer_pivots.specs.declared.line.Line.{Line}
use Rattle.integer_pivots.specs.Lines.{IsLine, rows_of}
use Rattle.integer_pivots.specs.Leads.{AreLeads}
use Rattle.integer_pivots.specs.Numbers.{AllWithin, product_sum, weight_of}
use Rattle.integer_pivots.specs.Uses.{uses_in, uses_by}
use Rattle.integer_pivots.specs.declared.turned_line.Turn.{Turn}
use Rattle.table_kernel.specs.declared.kernel.Kernel.{Kernel}
use Rattle.table_kernel.specs.Kernels.{IsBounded, IsKernel, IsShaped, lows_of, width_of}
use Rattle.table_kernel.specs.Bases.{AreAtBasis}
use Rattle.table_kernel.specs.Constants.{AreConstants}
use Rattle.table_kernel.specs.Numbers.{scaled_line, share_of}
use Rattle.table_kernel.specs.Rows.{IsCovered, row_constant_of}
use Rattle.table_kernel.proofs.AtBasis.{basis_kernel, kernel_basis}
use Rattle.table_kernel.proofs.Columns.{constant_number, constants_long, low_constants}
use Rattle.table_kernel.proofs.ConstantSums.{sums_alike}
use Rattle.table_kernel.proofs.Corners.{low_constant_is}

-- another form among the rows changes nothing at the basis
basis_more : (costs : CostBox) (rows : List Form) (basis : List Member) (D : ℕ) (lows : List (List ℤ)) (f : Form) →
    length f.coefficients ≡ length costs.low → AreAtBasis costs rows basis D lows →
    AreAtBasis costs (rows ++ f ∷ []) basis D lows
basis_more costs rows basis D lows f counted b =
    let n = length costs.low in
    let same = sym (forms_kept costs rows f basis b.members) in
    record {
      high_count = b.high_count;
      counts = All-append (λ (row : Form). length row.coefficients ≡ n) rows (f ∷ []) b.counts
          (one_all (λ (row : Form). length row.coefficients ≡ n) f counted);
      count = b.count;
      members = λ k d k_in. member_kept costs rows f _ (b.members k d k_in);
      positive = b.positive;
      long = b.long;
      mixtures = subst (λ (bs : List Form). AreMixtures D bs (low_forms n 0 costs.low) lows) same b.mixtures;
      own = subst (λ (bs : List Form). (k : ℕ) → k < n → number_of_form D costs.low lows (slice_index_or bs k no_form) (suc k) ≡ pos D) same b.own;
      elsewhere = subst (λ (bs : List Form). (k place : ℕ) → k < n → place ≤ n → place ≢ suc k →
          number_of_form D costs.low lows (slice_index_or bs k no_form) place ≡ pos 0) same b.elsewhere;
      lead = b.lead;
    }

members_grown : (costs : CostBox) (rows : List Form) (f : Form) →
    members_of_box costs (length (rows ++ f ∷ [])) ≡ members_of_box costs (length rows) ++ Row (length rows) ∷ []
members_grown costs rows f =
    let counted : length (rows ++ f ∷ []) ≡ length rows + 1 = omega (arith, length-append rows (f ∷ [])) in
    ap (members_of_box costs) counted ∙ members_more costs (length rows)

constants_more : (costs : CostBox) (rows : List Form) (D : ℕ) (lows : List (List ℤ)) (constants : List ℤ) (f : Form)
    (z : ℤ) → length constants ≡ length (members_of_box costs (length rows)) → z ≡ number_of_form D costs.low lows f 0 →
    AreConstants costs rows D lows constants → AreConstants costs (rows ++ f ∷ []) D lows (constants ++ z ∷ [])
constants_more costs rows D lows constants f z counted z_is are place place_in =
    let n = length costs.low in
    let members = members_of_box costs (length rows) in
    let at : Member → ℤ = λ member. number_of_form D costs.low lows (member_form n (rows ++ f ∷ []) member) 0 in
    let grown : slice_index_or (members_of_box costs (length (rows ++ f ∷ []))) place (Low 0 0)
    ≡ slice_index_or (members ++ Row (length rows) ∷ []) place (Low 0 0) =
    ap (λ (ms : List Member). slice_index_or ms place (Low 0 0)) (members_grown costs rows f) in
    elim (cases_lt place (length constants)) [
      | inl before ↦
          let member = slice_index_or members place (Low 0 0) in
          let there : place < length members = omega (arith, before, counted) in
          get_or_append_left constants (z ∷ []) (pos 0) place before
          ∙ are place before
          ∙ ap (λ (g : Form). number_of_form D costs.low lows g 0) (sym (form_kept n costs rows f member (members_are costs rows place (Low 0 0) there)))
          ∙ ap at (sym (grown ∙ get_or_append_left members (Row (length rows) ∷ []) (Low 0 0) place there))
      | inr past ↦
          let last : length constants ≡ place = omega (arith, past, place_in, length-append constants (z ∷ [])) in
          let last_member : length members ≡ place = omega (arith, last, counted) in
          subst (λ (p : ℕ). number_at (constants ++ z ∷ []) p ≡ z) last (get_or-append_seam constants z [] (pos 0))
          ∙ z_is
          ∙ ap (λ (g : Form). number_of_form D costs.low lows g 0) (sym (get_or-append_seam rows f [] no_form))
          ∙ ap at
          (sym (grown ∙ subst (λ (p : ℕ). slice_index_or (members ++ Row (length rows) ∷ []) p (Low 0 0)
          ≡ Row (length rows)) last_member (get_or-append_seam members (Row (length rows)) [] (Low 0 0))))
    ]

-- what a kernel has with one more row, but for its line in fractions
pub record IsGrown (old new : Kernel) (f : Form) (z : ℤ) : Type 0 where
  pub table : HoldsRow old.table f new.table
  pub common : new.common ≡ old.common
  pub lows : new.lows ≡ old.lows
  pub leads : new.leads ≡ old.leads
  pub constants : new.constants.items ≡ old.constants.items ++ z ∷ []
  pub uses : uses_in new.uses.items ≡ uses_by (old.table.rows.items ++ f ∷ []) (width_of old)
  pub turns : new.turns ≡ old.turns
  pub left : vec_capacity new.left ≡ vec_capacity old.left
  pub entering : new.entering ≡ old.entering

-- there is a line in fractions for each constant, with a number for it and one for each column
pub record AreLinesWide (k : Kernel) : Type 0 where
  pub lines : length k.table.lines.items ≡ length k.constants.items
  pub wide : All (λ line. length line ≡ suc (width_of k)) k.table.lines.items

width_kept : (old new : Kernel) (f : Form) → HoldsRow old.table f new.table → width_of new ≡ width_of old
width_kept old new f t = ap (λ (costs : CostBox). length costs.low) t.costs

pub constants_counted : (old new : Kernel) (f : Form) (z : ℤ) → IsShaped old → IsGrown old new f z →
    length new.constants.items ≡ length (members_of_box new.table.costs (length new.table.rows.items))
constants_counted old new f z s g =
    let constants : length new.constants.items ≡ length old.constants.items + 1 = ap length g.constants ∙ length-append old.constants.items (z ∷ []) in
    let rows : length new.table.rows.items ≡ length old.table.rows.items + 1 = ap length g.table.rows ∙ length-append old.table.rows.items (f ∷ []) in
    omega (
      arith,
      constants,
      s.constants,
      rows,
      width_kept old new f g.table,
      members_long old.table.costs (length old.table.rows.items),
      members_long new.table.costs (length new.table.rows.items),
    )

-- where one line more stands at the end
pub line_more : (old new : Kernel) (f : Form) (line : List Fraction) (z : ℤ) → IsShaped old → IsGrown old new f z →
    new.table.lines.items ≡ old.table.lines.items ++ line ∷ [] → length line ≡ suc (width_of old) → AreLinesWide new
line_more old new f line z s g is long =
    let n = width_of old in
    let constants : length new.constants.items ≡ length old.constants.items + 1 = ap length g.constants ∙ length-append old.constants.items (z ∷ []) in
    let lines : length new.table.lines.items ≡ length old.table.lines.items + 1 = ap length is ∙ length-append old.table.lines.items (line ∷ []) in
    record {
      lines = omega (arith, lines, s.lines, constants);
      wide = subst (λ (m : ℕ). All (λ (row : List Fraction). length row ≡ suc m) new.table.lines.items) (sym (width_kept old new f g.table))
          (subst (All (λ (row : List Fraction). length row ≡ suc n)) (sym is)
          (All-append (λ (row : List Fraction). length row ≡ suc n) old.table.lines.items (line ∷ []) s.wide
          (one_all (λ (row : List Fraction). length row ≡ suc n) line long)));
    }

pub grown_shaped : (old new : Kernel) (f : Form) (z : ℤ) → IsShaped old → IsGrown old new f z → AreLinesWide new → IsShaped new
grown_shaped old new f z s g l =
    let t = g.table in
    let n = width_of old in
    let width = width_kept old new f t in
    record {
      room = record {
        few = omega (arith, width, s.room.few);
        quotients = ap length t.quotients ∙ s.room.quotients ∙ ap suc (sym width);
        scratch = t.scratch ∙ s.room.scratch ∙ ap suc (sym width);
      };
      lows = ap (λ (ls : Vec Line Global). length ls.items) g.lows ∙ s.lows ∙ sym width;
      each = subst (λ (m : ℕ). All (λ (l : Line). length l.numbers ≡ m) new.lows.items) (sym width)
          (subst (λ (ls : Vec Line Global). All (λ (l : Line). length l.numbers ≡ n) ls.items) (sym g.lows) s.each);
      leads = ap (λ (vs : Vec ℕ Global). length vs.items) g.leads ∙ s.leads ∙ sym width;
      lead = subst (λ (ls : Vec Line Global). AreLeads (rows_of ls.items) new.leads.items) (sym g.lows)
          (subst (λ (vs : Vec ℕ Global). AreLeads (rows_of old.lows.items) vs.items) (sym g.leads) s.lead);
      constants = constants_counted old new f z s g;
      uses = g.uses ∙ ap (λ (rows : List Form). uses_by rows n) (sym t.rows) ∙ ap (uses_by new.table.rows.items) (sym width);
      turns = ap (λ (ts : Vec Turn Global). length ts.items) g.turns ∙ s.turns ∙ sym width;
      left = omega (arith, width, s.left, g.left);
      entering = ap (λ (l : Line). length l.numbers) g.entering ∙ s.entering ∙ sym width;
      lines = l.lines;
      wide = l.wide;
    }

-- the constants stay small
pub grown_small : (old new : Kernel) (f : Form) (z : ℤ) → AllWithin (2 ^ 62) old.constants.items → nat_abs z ≤ 2 ^ 62 →
    IsGrown old new f z → AllWithin (2 ^ 62) new.constants.items
grown_small old new f z within small g =
    subst (AllWithin (2 ^ 62)) (sym g.constants)
    (All-append (λ (y : ℤ). nat_abs y ≤ 2 ^ 62) old.constants.items (z ∷ []) within
    (one_all (λ (y : ℤ). nat_abs y ≤ 2 ^ 62) z small))

grown_bounded : (old new : Kernel) (f : Form) (z : ℤ) → IsBounded old → IsCovered f → nat_abs z ≤ 2 ^ 62 →
    IsGrown old new f z → IsBounded new
grown_bounded old new f z b covered small g =
    record {
      top = subst (λ (top : ℕ). 2 ^ 126 ≤ top) (sym g.table.top) b.top;
      positive = subst (λ (y : ℤ). pos 0 <ℤ y) (sym g.common) b.positive;
      common = subst (λ (y : ℤ). y ≤ℤ pos (2 ^ 30)) (sym g.common) b.common;
      lines = subst (λ (ls : Vec Line Global). All IsLine ls.items) (sym g.lows) b.lines;
      divides = subst (λ (y : ℤ). All (λ (l : Line). nat_abs l.denominator ∣ nat_abs y) new.lows.items) (sym g.common)
          (subst (λ (ls : Vec Line Global). All (λ (l : Line). nat_abs l.denominator ∣ nat_abs old.common) ls.items) (sym g.lows) b.divides);
      low = subst (λ (y : ℤ). All (λ (l : Line). nat_abs l.constant * share_of (nat_abs y) l ≤ 2 ^ 44) new.lows.items) (sym g.common)
          (subst (λ (ls : Vec Line Global). All (λ (l : Line). nat_abs l.constant * share_of (nat_abs old.common) l ≤ 2 ^ 44) ls.items) (sym g.lows) b.low);
      rows = subst (All (λ (row : Form). weight_of row ≤ 2 ^ 16)) (sym g.table.rows)
          (All-append (λ (row : Form). weight_of row ≤ 2 ^ 16) old.table.rows.items (f ∷ []) b.rows
          (one_all (λ (row : Form). weight_of row ≤ 2 ^ 16) f covered));
      constants = grown_small old new f z b.constants small g;
    }

-- the kernel with one more row is one
pub kernel_more : (old new : Kernel) (f : Form) (line : List Fraction) (z : ℤ) → IsKernel old → FitsBox old.table.costs f →
    IsCovered f → z ≡ row_constant_of old.common old.table.costs.low old.constants.items f → nat_abs z ≤ 2 ^ 62 →
    IsGrown old new f z → new.table.lines.items ≡ old.table.lines.items ++ line ∷ [] → length line ≡ suc (width_of old) → IsKernel new
kernel_more old new f line z m fits covered z_is small g is long =
    let costs = old.table.costs in
    let rows = old.table.rows.items ++ f ∷ [] in
    let basis = old.table.basis.items in
    let constants = old.constants.items ++ z ∷ [] in
    let D = nat_abs old.common in
    let s = m.shaped in
    let there = kernel_basis old m in
    let constant : z ≡ number_of_form D costs.low (lows_of old) f 0 =
    z_is
    ∙ ap (λ (y : ℤ). (y *ℤ value_for_costs f costs.low) +ℤ product_sum f.coefficients old.constants.items) (positive_is old.common m.bounded.positive)
    ∙ ap (λ (y : ℤ). (pos D *ℤ value_for_costs f costs.low) +ℤ y)
    (sums_alike f.coefficients old.constants.items (low_constants old)
    (omega (arith, fits.count, s.constants, members_long costs (length old.table.rows.items)))
    (omega (arith, fits.count, constants_long old s))
    (λ v v_in. low_constant_is old m v (omega (arith, v_in, fits.count))))
    ∙ sym (constant_number old D costs.low f) in
    let at = basis_more costs old.table.rows.items basis D (lows_of old) f fits.count there.0 in
    let are = constants_more costs old.table.rows.items D (lows_of old) old.constants.items f z s.constants constant there.1 in
    let lows : lows_of new ≡ lows_of old =
    ap (λ (y : ℤ). map (scaled_line (nat_abs y)) new.lows.items) g.common ∙ ap (λ (ls : Vec Line Global). map (scaled_line D) ls.items) g.lows in
    basis_kernel new (grown_shaped old new f z s g (line_more old new f line z s g is long)) (grown_bounded old new f z m.bounded covered small g)
    (subst (λ (box : CostBox). IsBox (length box.low) box) (sym g.table.costs) m.tableau.box)
    (subst (λ (box : CostBox). All (FitsBox box) new.table.rows.items) (sym g.table.costs)
    (subst (All (FitsBox costs)) (sym g.table.rows) (All-append (FitsBox costs) old.table.rows.items (f ∷ []) m.tableau.fit (one_all (FitsBox costs) f fits))))
    (subst (λ (box : CostBox). AreAtBasis box new.table.rows.items new.table.basis.items (nat_abs new.common) (lows_of new)) (sym g.table.costs)
    (subst (λ (fs : List Form). AreAtBasis costs fs new.table.basis.items (nat_abs new.common) (lows_of new)) (sym g.table.rows)
    (subst (λ (ms : List Member). AreAtBasis costs rows ms (nat_abs new.common) (lows_of new)) (sym g.table.basis)
    (subst (λ (y : ℤ). AreAtBasis costs rows basis (nat_abs y) (lows_of new)) (sym g.common)
    (subst (AreAtBasis costs rows basis D) (sym lows) at)))))
    (subst (λ (box : CostBox). AreConstants box new.table.rows.items (nat_abs new.common) (lows_of new) new.constants.items) (sym g.table.costs)
    (subst (λ (fs : List Form). AreConstants costs fs (nat_abs new.common) (lows_of new) new.constants.items) (sym g.table.rows)
    (subst (λ (y : ℤ). AreConstants costs rows (nat_abs y) (lows_of new) new.constants.items) (sym g.common)
    (subst (λ (ts : List (List ℤ)). AreConstants costs rows D ts new.constants.items) (sym lows)
    (subst (AreConstants costs rows D (lows_of old)) (sym g.constants) are)))))
