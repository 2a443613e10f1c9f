-- The corner of a table on which no constant is negative is the least point of the box that meets the rows.
use Rattle.std.proofs.Common.{◌≡◌, ℕ, suc, ◌+◌, ◌*◌, ◌<◌, refl, sym, ◌∙◌, ap, subst, List, [], ◌∷◌, length, arith, zero-add, drop}
use Rattle.std.specs.Prelude.{ℤ, pos, negsuc, ◌+ℤ◌, ◌-ℤ◌, ◌*ℤ◌, ◌≤ℤ◌, nat_abs, slice_index}
use Rattle.std.proofs.lemmas.Int.{ints}
use Rattle.std.proofs.lemmas.List.Elements.{All-tail}
use Rattle.std.proofs.lemmas.List.{length-map}
use Rattle.whole_numbers.proofs.Ring.{var, num, ◌⊕◌, ◌⊗◌, ring}
use Rattle.area_graph.specs.declared.Point.{Point}
use Rattle.whole_numbers.specs.Lists.{number_at}
use Rattle.design_problem.specs.declared.form.Form.{Form}
use Rattle.design_problem.specs.declared.tree.Member.TheVariants.{Low}
use Rattle.design_problem.specs.Forms.{value_at, AreMet}
use Rattle.design_problem.specs.Earnest.{IsLeastPoint}
use Rattle.design_problem.specs.Basis.{forms_of, member_form, one_form}
use Rattle.fraction_table.specs.declared.table.Table.{Table}
use Rattle.fraction_table.specs.ValidTables.{AreMixtures, IsTableau, low_forms}
use Rattle.fraction_table.specs.Pivots.{AreHigh}
use Rattle.fraction_table.proofs.theory.Points.{equation_at, mixed_at}
use Rattle.fraction_table.proofs.theory.Corner.{one_value, row_sum}
use Rattle.fraction_table.proofs.theory.Tables.{Resolves, corner_least}
use Rattle.fraction_table.proofs.Solutions.{at_corner, basis_met, corner_fits, corner_point, low_value_at}

-- the values of forms at a point, where none is negative
abbrev pub values_of : List Form → Point → List ℕ
values_of [] p = []
values_of (f ∷ fs) p = nat_abs (value_at f p) ∷ values_of fs p

values_long : (fs : List Form) (p : Point) → length (values_of fs p) ≡ length fs
values_long [] p = refl
values_long (f ∷ fs) p = ap suc (values_long fs p)

turned : (t v : ℤ) → pos 0 ≤ℤ v → (t *ℤ v) ≡ (pos (nat_abs v) *ℤ t)
turned t (pos n) high = ring (t ∷ pos n ∷ []) (var 0 ⊗ var 1) (var 1 ⊗ var 0) refl
turned t (negsuc n) high = absurd (omega (arith, ints))

met_sum : (ts : List ℤ) (fs : List Form) (p : Point) → AreMet fs p → mixed_at ts fs p ≡ row_sum ts (values_of fs p)
met_sum [] fs p met = refl
met_sum (t ∷ ts) [] p met = refl
met_sum (t ∷ ts) (f ∷ fs) p met =
    ap (λ z. (t *ℤ value_at f p) +ℤ z) (met_sum ts fs p (All-tail (λ g. pos 0 ≤ℤ value_at g p) f fs met))
    ∙ ap (λ z. z +ℤ row_sum ts (values_of fs p)) (turned t (value_at f p) (met 0 f (omega arith)))

mixed_sum : (ts : List ℤ) (basis : List Form) (p : Point) → AreMet basis p →
    mixed_at ts (one_form ∷ basis) p ≡ ((number_at ts 0 *ℤ pos p.scale) +ℤ row_sum (drop 1 ts) (values_of basis p))
mixed_sum [] basis p met = ring (pos p.scale ∷ []) (num (pos 0)) (num (pos 0) ⊗ var 0 ⊕ num (pos 0)) refl
mixed_sum (t ∷ ts) basis p met =
    ap (λ z. (t *ℤ value_at one_form p) +ℤ z) (met_sum ts basis p met)
    ∙ ap (λ z. (t *ℤ z) +ℤ row_sum ts (values_of basis p)) (one_value p)

-- the equations of x - low at a point at which the basis isn't negative
resolves : (n a D : ℕ) (basis : List Form) (p : Point) (low : List ℕ) (rows : List (List ℤ)) (ys : List ℕ) →
    AreMet basis p → AreMixtures D basis (low_forms n a low) rows → length ys ≡ length low →
    ((u v l : ℕ) → u ≡ a + v → v < length ys →
    value_at (member_form n [] (Low u l)) p ≡ (pos (slice_index ys v) -ℤ pos (l * p.scale))) →
    Resolves D p.scale (values_of basis p) low rows ys
resolves n a D basis p [] [] [] met are same there = tt
resolves n a D basis p [] [] (y ∷ ys) met are same there = absurd (omega arith)
resolves n a D basis p [] (ts ∷ rows) ys met are same there = absurd are
resolves n a D basis p (l ∷ low) [] ys met are same there = absurd are
resolves n a D basis p (l ∷ low) (ts ∷ rows) [] met are same there = absurd (omega arith)
resolves n a D basis p (l ∷ low) (ts ∷ rows) (y ∷ ys) met are same there = (
  ap (λ z. pos D *ℤ z) (sym (there a 0 l (omega arith) (omega arith)))
      ∙ equation_at (member_form n [] (Low a l)) basis D ts p are.0
      ∙ mixed_sum ts basis p met,
  resolves n (a + 1) D basis p low rows ys met are.1 (omega arith) (λ u v m u_is v_in. there u (suc v) m (omega arith) (omega arith)),
)

pub corner_is_least : (t : Table) (w : IsTableau t) → AreHigh t → IsLeastPoint (AreMet t.rows.items) t.costs (corner_point t w)
corner_is_least t w high =
    let n = length t.costs.low in
    let p = corner_point t w in
    let bs = forms_of t.costs t.rows.items t.basis.items in
    let fits = corner_fits t w high in
    record {
      inside = fits.0;
      accepted = fits.1;
      least = λ other inside meets before.
          (let met = basis_met t.costs t.rows.items other t.basis.items inside meets w.unboxed.members in
          let there : (u v l : ℕ) → u ≡ 0 + v → v < length other.values →
          value_at (member_form n [] (Low u l)) other
          ≡ (pos (slice_index other.values v) -ℤ pos (l * other.scale)) =
          λ u v l u_is v_in. (
          subst (λ (m : ℕ). value_at (member_form m [] (Low u l)) other ≡ (pos (slice_index other.values v) -ℤ pos (l * other.scale))) (sym inside.low_count)
          (subst (λ (k : ℕ). value_at (member_form (length other.values) [] (Low k l)) other
          ≡ (pos (slice_index other.values v) -ℤ pos (l * other.scale))) (sym (u_is ∙ zero-add v))
          (low_value_at [] v l other v_in))
          ) in
          corner_least w.unboxed.common other.scale (values_of bs other) t.costs.low w.unboxed.lows p.values other.values (at_corner t w high)
          (resolves n 0 w.unboxed.common bs other t.costs.low w.unboxed.lows other.values met w.unboxed.mixtures (sym inside.low_count) there)
          (λ k k_in. w.unboxed.lead k (omega (arith, values_long bs other, length-map t.basis.items (member_form n t.rows.items), w.unboxed.count, k_in)))
          before);
    }
