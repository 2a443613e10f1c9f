-- The line of a row that is added stands for the row's numbers, and its steps are steps of the table.
use Rattle.std.proofs.Common.{◌≡◌, ℕ, zero, suc, ◌*◌, ◌<◌, ◌≤◌, refl, sym, ◌∙◌, ap, subst, List, [], ◌∷◌, ◌++◌, take, length, arith, one-mul}
use Rattle.std.specs.Prelude.{ℤ, pos, negsuc, ◌+ℤ◌, ◌*ℤ◌, Result, Ok, Err, IfErr, OnOk, fold, slice_get, slice_index_or}
use Rattle.std.proofs.Math.Seq.{get_or-append_seam}
use Rattle.std.proofs.lemmas.List.{get_or-take, length-append}
use Rattle.cost_base.specs.declared.StepName.TheVariants.{Add, Mul}
use Rattle.whole_numbers.specs.Fractions.{Fraction, StandsFor, plus, times, whole}
use Rattle.whole_numbers.proofs.Ring.{var, num, ◌⊕◌, ◌⊗◌, ring}
use Rattle.whole_numbers.proofs.FractionLaws.{product_positive, reduced_lowest, times_stands}
use Rattle.whole_numbers.proofs.Multiples.{plus_stands_over}
use Rattle.whole_numbers.specs.Lists.{number_at}
use Rattle.wide_fraction.specs.declared.steps.Wide.{Wide}
use Rattle.design_problem.specs.declared.form.Form.{Form}
use Rattle.design_problem.specs.declared.boxes.CostBox.{CostBox}
use Rattle.design_problem.specs.declared.tree.Member.{Member}
use Rattle.design_problem.specs.Forms.{form_at, no_form, value_for_costs}
use Rattle.design_problem.specs.Basis.{AreEntries, IsTable, entry, low_member, member_form}
use Rattle.design_problem.specs.Steps.{IsTableStep, IsStepTooWide, row_product, row_sum, start_of_sum, terms}
use Rattle.fraction_table.specs.RowLines.{IsAddedLine, IsRowStep, sum_at_place}
use Rattle.fraction_lines.specs.Sums.{IsSumStep, product, sum, sum_of_terms}
use Rattle.fraction_table.specs.Tableaus.{FitsBox, wide_at}
use Rattle.fraction_table.specs.ValidTables.{IsTableauOf, Stand, from_lows, number_of_form, numbers_of_form}
use Rattle.fraction_table.proofs.Bases.{low_line_stands, lows_counted, table_long, whole_table}
use Rattle.fraction_table.proofs.MoreRows.{forms_kept, member_kept, whole_more}
use Rattle.fraction_lines.proofs.ZeroFractions.{times_lowest}
use Rattle.fraction_table.proofs.theory.TurnedNumbers.{numbers_at, numbers_long}
use Rattle.fraction_table.proofs.theory.Zips.{zip_from}

-- a fraction that stands for a number over D
abbrev Stands : Fraction → ℤ → ℕ → Type 0
Stands q m D = (0 < q.denominator) × StandsFor q m D

-- with one more term a sum stands for one more product
term_stands : (D : ℕ) (q e : Fraction) (m x c : ℤ) → 0 < D → Stands q m D → Stands e x D → Stands (plus q (times (whole c) e)) (m +ℤ (c *ℤ x)) D
term_stands D q e m x c D_positive q_is e_is =
    let term_positive = (times_lowest (whole c) e (omega arith) e_is.0).positive in
    let whole_is : StandsFor (whole c) c 1 = refl in
    let term_is : StandsFor (times (whole c) e) (c *ℤ x) D =
    subst (λ (n : ℕ). StandsFor (times (whole c) e) (c *ℤ x) n) (one-mul D) (times_stands (whole c) e c x 1 D (omega arith) e_is.0 whole_is e_is.1) in (
      (reduced_lowest ((q.numerator *ℤ pos (times (whole c) e).denominator)
          +ℤ ((times (whole c) e).numerator *ℤ pos q.denominator)) (q.denominator * (times (whole c) e).denominator)
          (product_positive q.denominator (times (whole c) e).denominator q_is.0 term_positive)).positive,
      plus_stands_over q (times (whole c) e) m (c *ℤ x) D q_is.0 term_positive D_positive q_is.1 term_is,
    )

-- the sum of the terms at a place stands for the sum of the numbers there
sum_stands : (D place : ℕ) (cs : List ℤ) (lines : List (List Fraction)) (lows : List (List ℤ)) (q : Fraction) (m : ℤ) →
    0 < D → length cs ≡ length lows → length cs ≤ length lines → Stands q m D →
    ((v : ℕ) → v < length cs → Stands (entry (slice_index_or lines v []) place)
    (number_at (slice_index_or lows v []) place) D) →
    Stands (sum_of_terms q cs lines place) (m +ℤ from_lows cs lows place) D
sum_stands D place [] lines lows q m D_positive counted many q_is are =
    subst (λ (z : ℤ). Stands q z D) (ring (m ∷ []) (var 0) (var 0 ⊕ num (pos 0)) refl) q_is
sum_stands D place (c ∷ cs) [] lows q m D_positive counted many q_is are = absurd (omega arith)
sum_stands D place (c ∷ cs) (es ∷ lines) [] q m D_positive counted many q_is are = absurd (omega arith)
sum_stands D place (pos zero ∷ cs) (es ∷ lines) (ts ∷ lows) q m D_positive counted many q_is are =
    subst (λ (z : ℤ). Stands (sum_of_terms q cs lines place) z D)
    (ring (m ∷ number_at ts place ∷ from_lows cs lows place ∷ []) (var 0 ⊕ var 2) (var 0 ⊕ (num (pos 0) ⊗ var 1 ⊕ var 2)) refl)
    (sum_stands D place cs lines lows q m D_positive (omega arith) (omega arith) q_is (λ v v_in. are (suc v) (omega (arith, v_in))))
sum_stands D place (pos (suc n) ∷ cs) (es ∷ lines) (ts ∷ lows) q m D_positive counted many q_is are =
    let c = pos (suc n) in
    subst (λ (z : ℤ). Stands (sum_of_terms (plus q (times (whole c) (entry es place))) cs lines place) z D)
    (ring (m ∷ c ∷ number_at ts place ∷ from_lows cs lows place ∷ []) ((var 0 ⊕ var 1 ⊗ var 2) ⊕ var 3) (var 0 ⊕ (var 1 ⊗ var 2 ⊕ var 3)) refl)
    (sum_stands D place cs lines lows (plus q (times (whole c) (entry es place))) (m +ℤ (c *ℤ number_at ts place)) D_positive (omega arith) (omega arith)
    (term_stands D q (entry es place) m (number_at ts place) c D_positive q_is (are 0 (omega arith))) (λ v v_in. are (suc v) (omega (arith, v_in))))
sum_stands D place (negsuc n ∷ cs) (es ∷ lines) (ts ∷ lows) q m D_positive counted many q_is are =
    let c = negsuc n in
    subst (λ (z : ℤ). Stands (sum_of_terms (plus q (times (whole c) (entry es place))) cs lines place) z D)
    (ring (m ∷ c ∷ number_at ts place ∷ from_lows cs lows place ∷ []) ((var 0 ⊕ var 1 ⊗ var 2) ⊕ var 3) (var 0 ⊕ (var 1 ⊗ var 2 ⊕ var 3)) refl)
    (sum_stands D place cs lines lows (plus q (times (whole c) (entry es place))) (m +ℤ (c *ℤ number_at ts place)) D_positive (omega arith) (omega arith)
    (term_stands D q (entry es place) m (number_at ts place) c D_positive q_is (are 0 (omega arith))) (λ v v_in. are (suc v) (omega (arith, v_in))))

-- what a sum starts with stands for its part of the form's number
place_stands : (top : ℕ) (costs : CostBox) (rows : List Form) (basis : List Member) (table : List (List Fraction))
    (f : Form) (place : ℕ) (w : IsTableauOf top costs rows basis table) → FitsBox costs f → place < suc (length costs.low) →
    StandsFor (sum_at_place costs f table place) (number_of_form w.unboxed.common costs.low w.unboxed.lows f place)
    w.unboxed.common
place_stands top costs rows basis table f zero w fits place_in =
    let z = value_for_costs f costs.low in
    (sum_stands w.unboxed.common 0 f.coefficients table w.unboxed.lows (whole z) (pos w.unboxed.common *ℤ z)
    w.unboxed.positive (fits.count ∙ lows_counted top costs rows basis table w)
    (omega (arith, fits.count, table_long top costs rows basis table w))
    (omega arith, ring (z ∷ pos w.unboxed.common ∷ []) (var 0 ⊗ var 1) ((var 1 ⊗ var 0) ⊗ num (pos 1)) refl)
    (λ v v_in. low_line_stands top costs rows basis table w v 0 (omega (arith, fits.count, v_in)) place_in)).1
place_stands top costs rows basis table f (suc k) w fits place_in =
    subst (λ (z : ℤ). StandsFor (sum_at_place costs f table (suc k)) z w.unboxed.common)
    (ring (from_lows f.coefficients w.unboxed.lows (suc k) ∷ []) (num (pos 0) ⊕ var 0) (var 0) refl)
    (sum_stands w.unboxed.common (suc k) f.coefficients table w.unboxed.lows (whole (pos 0)) (pos 0) w.unboxed.positive
    (fits.count ∙ lows_counted top costs rows basis table w)
    (omega (arith, fits.count, table_long top costs rows basis table w))
    (omega arith, ring (pos w.unboxed.common ∷ []) (num (pos 0) ⊗ var 0) (num (pos 0) ⊗ num (pos 1)) refl)
    (λ v v_in. low_line_stands top costs rows basis table w v (suc k) (omega (arith, fits.count, v_in)) place_in)).1

line_stands : (top : ℕ) (costs : CostBox) (rows : List Form) (basis : List Member) (table : List (List Fraction))
    (f : Form) (line : List Fraction) (w : IsTableauOf top costs rows basis table) → FitsBox costs f →
    IsAddedLine top costs f table line →
    Stand w.unboxed.common line (numbers_of_form (length costs.low) w.unboxed.common costs.low w.unboxed.lows f)
line_stands top costs rows basis table f line w fits l =
    let n = length costs.low in
    let ms = numbers_of_form n w.unboxed.common costs.low w.unboxed.lows f in
    zip_from (λ q m. StandsFor q m w.unboxed.common) line ms (whole (pos 0)) (pos 0) (l.long ∙ sym (numbers_long n w.unboxed.common costs.low w.unboxed.lows f))
    (λ place place_in.
    let within : place < suc n = omega (arith, l.long, place_in) in
    subst (λ (q : Fraction). StandsFor q (number_at ms place) w.unboxed.common) (sym (l.sums place within))
    (subst (λ (z : ℤ). StandsFor (sum_at_place costs f table place) z w.unboxed.common)
    (sym (numbers_at n w.unboxed.common costs.low w.unboxed.lows f place within))
    (place_stands top costs rows basis table f place w fits within)))

-- With the form and its line the table is whole.
pub row_whole : (top : ℕ) (costs : CostBox) (rows : List Form) (basis : List Member) (table : List (List Fraction))
    (f : Form) (line : List Fraction) → IsTableauOf top costs rows basis table → FitsBox costs f →
    IsAddedLine top costs f table line → IsTableauOf top costs (rows ++ f ∷ []) basis (table ++ line ∷ [])
row_whole top costs rows basis table f line w fits l =
    whole_more top costs rows basis table f line w fits l.numbers (line_stands top costs rows basis table f line w fits l)

-- the entries of x - low stay the same with one more row
table_kept : (costs : CostBox) (rows : List Form) (f : Form) (basis : List Member) (lows : List (List Fraction)) →
    IsTable costs rows basis lows → IsTable costs (rows ++ f ∷ []) basis lows
table_kept costs rows f basis lows t =
    record {
      count = t.count;
      members = λ k d k_in. member_kept costs rows f _ (t.members k d k_in);
      lows_count = t.lows_count;
      entries = λ v v_in.
          subst (λ (bs : List Form). AreEntries bs (member_form (length costs.low) rows (low_member costs v))
          (slice_index_or lows v [])) (sym (forms_kept costs rows f basis t.members))
          (t.entries v v_in);
      lead = t.lead;
    }

-- terms need no more lines than there are coefficients
terms_taken : (cs : List ℤ) (lines : List (List Fraction)) (n place : ℕ) → length cs ≡ n → terms cs (take n lines) place ≡ terms cs lines place
terms_taken [] lines n place counted = refl
terms_taken (c ∷ cs) lines zero place counted = absurd (omega arith)
terms_taken (c ∷ cs) [] (suc n) place counted = refl
terms_taken (pos zero ∷ cs) (es ∷ lines) (suc n) place counted = terms_taken cs lines n place (omega arith)
terms_taken (pos (suc m) ∷ cs) (es ∷ lines) (suc n) place counted =
    ap (λ ts. times (whole (pos (suc m))) (entry es place) ∷ ts) (terms_taken cs lines n place (omega arith))
terms_taken (negsuc m ∷ cs) (es ∷ lines) (suc n) place counted =
    ap (λ ts. times (whole (negsuc m)) (entry es place) ∷ ts) (terms_taken cs lines n place (omega arith))

-- a step of the sum is a step of the last row
step_of_sum : (costs : CostBox) (rows : List Form) (f : Form) (basis : List Member) (table : List (List Fraction))
    (place : ℕ) (wide : Wide) → length basis ≡ length costs.low → length f.coefficients ≡ length costs.low →
    place < suc (length costs.low) → IsSumStep (start_of_sum costs f place) f.coefficients table place wide →
    IsTableStep costs (rows ++ f ∷ []) basis (take (length costs.low) table) wide.step wide.left wide.right
step_of_sum costs rows f basis table place wide count counted place_in step =
    let n = length costs.low in
    let more = rows ++ f ∷ [] in
    let last = get_or-append_seam rows f [] no_form in
    let row_in : length rows < length more = omega (arith, length-append rows (f ∷ [])) in
    let place_within : place ≤ length basis = omega (arith, count, place_in) in
    elim step [
      | product v v_in is ↦
          let v_within : v < n = omega (arith, counted, v_in) in
          rw is
          (subst (λ (g : Form). IsTableStep costs more basis (take n table) Mul
          (whole (slice_index_or g.coefficients v (pos 0))) (entry (slice_index_or table v []) place)) last
          (subst (λ (es : List Fraction).
          IsTableStep costs more basis (take n table) Mul
          (whole (slice_index_or (form_at more (length rows)).coefficients v (pos 0))) (entry es place))
          (get_or-take n table v [] v_within)
          (row_product (length rows) v place row_in v_within place_within)))
      | sum k next next_is is ↦
          let same : terms (form_at more (length rows)).coefficients (take n table) place ≡ terms f.coefficients table place =
          ap (λ (g : Form). terms g.coefficients (take n table) place) last ∙ terms_taken f.coefficients table n place counted in
          rw is
          (subst (λ (g : Form). IsTableStep costs more basis (take n table) Add
          (fold plus (start_of_sum costs g place) (take k (terms f.coefficients table place))) next) last
          (subst (λ (ts : List Fraction).
          IsTableStep costs more basis (take n table) Add
          (fold plus (start_of_sum costs (form_at more (length rows)) place) (take k ts)) next) same
          (row_sum (length rows) place k next row_in place_within (ap (λ (ts : List Fraction). slice_get ts k) same ∙ next_is))))
    ]

-- A step of the line that passes the top is too wide at the basis, with the row among the rows.
pub row_too_wide : (top : ℕ) (costs : CostBox) (rows : List Form) (basis : List Member) (table : List (List Fraction))
    (f : Form) (wide : Wide) → IsTableauOf top costs rows basis table → FitsBox costs f → IsRowStep top costs f table wide →
    IsStepTooWide top costs (rows ++ f ∷ []) (wide_at wide basis)
row_too_wide top costs rows basis table f wide w fits s =
    record {
      lows = take (length costs.low) table;
      table = table_kept costs rows f basis (take (length costs.low) table) (whole_table top costs rows basis table w);
      left = wide.left;
      right = wide.right;
      left_is = refl;
      right_is = refl;
      step = step_of_sum costs rows f basis table s.place wide w.unboxed.count fits.count s.place_in s.step;
      passes = s.passes;
    }

-- what a line that was filled leaves
pub put_whole : {X : Type 0} (r : Result X Wide) (top : ℕ) (costs : CostBox) (rows more : List Form)
    (basis : List Member) (table lines longer : List (List Fraction)) (f : Form) (line : List Fraction) →
    IsTableauOf top costs rows basis table → FitsBox costs f → lines ≡ table → more ≡ rows ++ f ∷ [] →
    longer ≡ table ++ line ∷ [] → OnOk r (IsAddedLine top costs f lines line) →
    OnOk r (IsTableauOf top costs more basis longer)
put_whole (Err wide) top costs rows more basis table lines longer f line w fits lines_are more_are longer_are filled = tt
put_whole (Ok x) top costs rows more basis table lines longer f line w fits lines_are more_are longer_are filled =
    rw (more_are, longer_are) (row_whole top costs rows basis table f line w fits
    (subst (λ (ls : List (List Fraction)). IsAddedLine top costs f ls line) lines_are filled))

-- and one that wasn't
pub put_wide : {X : Type 0} (r : Result X Wide) (top : ℕ) (costs : CostBox) (rows more : List Form)
    (basis : List Member) (table lines : List (List Fraction)) (f : Form) → IsTableauOf top costs rows basis table →
    FitsBox costs f → lines ≡ table → more ≡ rows ++ f ∷ [] → IfErr r (IsRowStep top costs f lines) →
    IfErr r (λ wide. IsStepTooWide top costs more (wide_at wide basis))
put_wide (Ok x) top costs rows more basis table lines f w fits lines_are more_are step = tt
put_wide (Err wide) top costs rows more basis table lines f w fits lines_are more_are step =
    rw more_are (row_too_wide top costs rows basis table f wide w fits (subst (λ (ls : List (List Fraction)). IsRowStep top costs f ls wide) lines_are step))
