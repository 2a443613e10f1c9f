-- The basis after a pivot of a kernel: the turned lines over the new common denominator, each from its own one.
use Rattle.std.proofs.Common.{◌≡◌, ◌≢◌, ℕ, zero, suc, ◌*◌, ◌<◌, refl, sym, ◌∙◌, ap, subst, List, [], ◌∷◌, map, length, arith, inl, inr}
use Rattle.std.specs.Prelude.{ℤ, pos, negsuc, ◌+ℤ◌, ◌-ℤ◌, ◌*ℤ◌, ◌<ℤ◌, nat_abs, slice_index_or, slice_set}
use Prim.Native.Nat.{◌∣◌}
use native.Mathlib.Nat.{div-mul_cancel, zero-mul}
use Rattle.std.proofs.Math.Nat.{mul-pos, suc_inj}
use Rattle.std.proofs.lemmas.Bool.{cases_eq}
use Rattle.std.proofs.lemmas.Int.{ints}
use Rattle.std.proofs.lemmas.List.{ext_get_or, get_or-map, length-map, length-set, map-set}
use Rattle.std.proofs.lemmas.List.Elements.{All-set}
use Rattle.whole_numbers.specs.Fractions.{exact_quotient, gcd}
use Rattle.whole_numbers.specs.Lists.{number_at}
use Rattle.whole_numbers.proofs.Divisors.{gcd_is}
use Rattle.whole_numbers.proofs.FractionLaws.{cancel, over-mul}
use Rattle.whole_numbers.proofs.Ring.{var, num, neg, ◌⊕◌, ◌⊖◌, ◌⊗◌, ring, ring_by, using, nothing}
use Rattle.design_problem.specs.declared.form.Form.{Form}
use Rattle.design_problem.specs.declared.boxes.CostBox.{CostBox}
use Rattle.design_problem.specs.declared.tree.Member.{Member}
use Rattle.design_problem.specs.Basis.{IsFormOf, IsMixture, LeadsPositive, forms_of, member_form}
use Rattle.design_problem.specs.Forms.{no_form}
use Rattle.fraction_table.specs.Pivots.{IsLeastColumn, LeadsNoNegative, numbers_in_column, turned_column}
use Rattle.fraction_table.specs.ValidTables.{AllLong, low_forms, number_of_form, numbers_of_form}
use Rattle.fraction_table.proofs.theory.Blends.{form_mixture}
use Rattle.fraction_table.proofs.theory.Pivot.{crossed, length-crossed, turned}
use Rattle.fraction_table.proofs.theory.Resolved.{resolved}
use Rattle.fraction_table.proofs.theory.Rise.{rise}
use Rattle.fraction_table.proofs.theory.TurnedLeads.{leads_turned}
use Rattle.fraction_table.proofs.theory.TurnedNumbers.{IsEntry, elsewhere_turned, long_turned, mixtures_turned, numbers_at, numbers_long, own_turned}
use Rattle.fraction_table.proofs.theory.Turns.{turned_other, turned_rows, turned_same}
use Rattle.fraction_table.proofs.IntegralTurns.{form_long}
use Rattle.integer_pivots.specs.declared.line.Line.{Line}
use Rattle.integer_pivots.specs.Lines.{no_line}
use Rattle.integer_pivots.specs.Turns.{IsTurnedLine, turn_at, turn_by, turned_number}
use Rattle.integer_pivots.proofs.TurnLaws.{turn_positive}
use Rattle.integer_pivots.proofs.ShareLaws.{share_exact}
use Rattle.integer_pivots.proofs.LowestTurns.{factor_out}
use Rattle.table_kernel.specs.Bases.{AreAtBasis}
use Rattle.table_kernel.specs.Numbers.{scaled_line, share_of}
use Rattle.table_kernel.proofs.AtBasis.{number_scaled, scaled_by}
use Rattle.table_kernel.proofs.Columns.{line_number, scaled_number}

-- What a pivot needs: the form of a member enters at a column in which it has a positive number, and which is the least
-- of those.
pub record IsTurnOf (costs : CostBox) (rows : List Form) (D : ℕ) (lows : List (List ℤ)) (entering : Member) (j a : ℕ) : Type 0 where
  pub member : IsFormOf costs rows entering
  pub j_in : j < length costs.low
  pub at_j : number_of_form D costs.low lows (member_form (length costs.low) rows entering) (suc j) ≡ pos a
  pub positive : 0 < a
  pub least : IsLeastColumn (length costs.low) lows (numbers_of_form (length costs.low) D costs.low lows (member_form (length costs.low) rows entering)) j

-- the numbers of the entering form
abbrev pub entering_numbers : CostBox → List Form → ℕ → List (List ℤ) → Member → List ℤ
entering_numbers costs rows D lows entering = numbers_of_form (length costs.low) D costs.low lows (member_form (length costs.low) rows entering)

-- the basis after the pivot, with the numbers over the product of both denominators
pub basis_turned : (costs : CostBox) (rows : List Form) (basis : List Member) (D : ℕ) (lows : List (List ℤ))
    (entering : Member) (j a : ℕ) → AreAtBasis costs rows basis D lows → IsTurnOf costs rows D lows entering j a →
    AreAtBasis costs rows (slice_set basis j entering) (D * a)
    (turned_rows lows (entering_numbers costs rows D lows entering) (suc j) D)
basis_turned costs rows basis D lows entering j a b p =
    let n = length costs.low in
    let f = member_form n rows entering in
    let rs = entering_numbers costs rows D lows entering in
    let bs = forms_of costs rows basis in
    let counted : length rs ≡ suc n = numbers_long n D costs.low lows f in
    let long : AllLong (length rs) lows = subst (λ (m : ℕ). AllLong m lows) (sym counted) b.long in
    let at_j : number_at rs (suc j) ≡ pos a = numbers_at n D costs.low lows f (suc j) (omega (arith, p.j_in)) ∙ p.at_j in
    let as_many : length bs ≡ n = length-map basis (member_form n rows) ∙ b.count in
    let entry_is : IsEntry n D a costs.low lows f rs j =
    record {
      counted = counted;
      long = long;
      at_j = at_j;
      numbers = λ i i_in. sym (numbers_at n D costs.low lows f i (omega (arith, counted, i_in)));
      j_in = p.j_in;
    } in
    let forms_are : forms_of costs rows (slice_set basis j entering) ≡ slice_set bs j f = map-set (member_form n rows) basis j entering in
    let mixture_is : IsMixture f bs D rs =
    form_mixture D n costs.low (low_forms n 0 costs.low) lows bs f b.long b.mixtures (resolved costs.low f (form_long costs rows entering b.counts p.member)) in
    record {
      high_count = b.high_count;
      counts = b.counts;
      count = length-set basis j entering ∙ b.count;
      members = All-set (IsFormOf costs rows) basis j entering p.member b.members;
      positive = grind (arith, b.positive, p.positive);
      long = subst (λ (m : ℕ). AllLong m (turned_rows lows rs (suc j) D)) counted (long_turned D (suc j) rs lows long);
      mixtures = rw forms_are (mixtures_turned D a bs j f rs (low_forms n 0 costs.low) lows
          (omega (arith, as_many, p.j_in)) (counted ∙ ap suc (sym as_many)) at_j mixture_is
          (subst (λ (m : ℕ). AllLong (suc m) lows) (sym as_many) b.long) b.mixtures);
      own = rw forms_are (own_turned n D a costs.low lows bs f rs j entry_is as_many b.own b.elsewhere);
      elsewhere = rw forms_are (elsewhere_turned n D a costs.low lows bs f rs j entry_is as_many b.elsewhere);
      lead = leads_turned n a D lows rs (slice_index_or bs j no_form).coefficients j counted long at_j p.positive
          b.positive p.j_in (b.own j p.j_in)
          (λ k k_in other. b.elsewhere j (suc k) p.j_in (omega (arith, k_in)) (λ h. other (suc_inj h))) p.least b.lead;
    }

-- The number y of a line at the pivot's column, and its turn by the pivot u there: both times the same come to one.
turn_even : (y u : ℤ) → ((turn_by y u).multiplier *ℤ y) ≡ ((turn_by y u).factor *ℤ u)
turn_even y u =
    let g = gcd (nat_abs y) (nat_abs u) in
    let divides = gcd_is (nat_abs y) (nat_abs u) in
    let m = exact_quotient u g in
    let q = exact_quotient y g in
    ap (λ z. m *ℤ z) (sym (over-mul y g (div-mul_cancel g divides.0)))
    ∙ ring (m ∷ q ∷ pos g ∷ []) (var 0 ⊗ (var 1 ⊗ var 2)) (var 1 ⊗ (var 0 ⊗ var 2)) refl
    ∙ ap (λ z. q *ℤ z) (over-mul u g (div-mul_cancel g divides.1))

-- A line's number x over d, and y at the pivot's column; the entering line's t and u over f; s and r are how often d
-- and the new line's e go into D and L. The number after the turn over L is that of the turned line over D and A.
number_crossed : (d m f s r e x y t u T A q new : ℤ) → pos 0 <ℤ d → pos 0 <ℤ m → pos 0 <ℤ f →
    (t *ℤ (s *ℤ d)) ≡ (T *ℤ f) → (u *ℤ (s *ℤ d)) ≡ (A *ℤ f) → (m *ℤ y) ≡ (q *ℤ u) →
    (new *ℤ (d *ℤ m)) ≡ (((m *ℤ x) -ℤ (q *ℤ t)) *ℤ e) →
    ((new *ℤ r) *ℤ ((s *ℤ d) *ℤ A)) ≡ ((((x *ℤ s) *ℤ A) -ℤ ((y *ℤ s) *ℤ T)) *ℤ (r *ℤ e))
number_crossed d m f s r e x y t u T A q new d_positive m_positive f_positive at_t at_u even is =
    let left = (new *ℤ r) *ℤ ((s *ℤ d) *ℤ A) in
    let right = (((x *ℤ s) *ℤ A) -ℤ ((y *ℤ s) *ℤ T)) *ℤ (r *ℤ e) in
    factor_out left right d d_positive
    (factor_out (left *ℤ d) (right *ℤ d) m m_positive
    (factor_out ((left *ℤ d) *ℤ m) ((right *ℤ d) *ℤ m) f f_positive
    (ring_by (d ∷ m ∷ f ∷ s ∷ r ∷ e ∷ x ∷ y ∷ t ∷ u ∷ T ∷ A ∷ q ∷ new ∷ [])
    (((((var 13 ⊗ var 4) ⊗ ((var 3 ⊗ var 0) ⊗ var 11)) ⊗ var 0) ⊗ var 1) ⊗ var 2)
    ((((((var 6 ⊗ var 3) ⊗ var 11) ⊖ ((var 7 ⊗ var 3) ⊗ var 10)) ⊗ (var 4 ⊗ var 5) ⊗ var 0) ⊗ var 1) ⊗ var 2)
    (using (var 4 ⊗ (var 3 ⊗ var 0) ⊗ var 11 ⊗ var 2) (var 13 ⊗ (var 0 ⊗ var 1))
    (((var 1 ⊗ var 6) ⊖ (var 12 ⊗ var 8)) ⊗ var 5) is
    (using (neg (((var 1 ⊗ var 6) ⊖ (var 12 ⊗ var 8)) ⊗ var 5 ⊗ var 4 ⊗ (var 3 ⊗ var 0)))
    (var 9 ⊗ (var 3 ⊗ var 0)) (var 11 ⊗ var 2) at_u
    (using (var 6 ⊗ (var 4 ⊗ var 5) ⊗ var 1 ⊗ (var 3 ⊗ var 0)) (var 9 ⊗ (var 3 ⊗ var 0)) (var 11 ⊗ var 2) at_u
    (using (neg (var 7 ⊗ (var 4 ⊗ var 5) ⊗ var 1 ⊗ (var 3 ⊗ var 0))) (var 8 ⊗ (var 3 ⊗ var 0)) (var 10 ⊗ var 2) at_t
    (using ((var 4 ⊗ var 5) ⊗ (var 3 ⊗ var 0) ⊗ (var 3 ⊗ var 0) ⊗ var 8) (var 1 ⊗ var 7) (var 12 ⊗ var 9) even
    nothing))))) refl)))

-- and at the pivot's column
own_crossed : (d m f s r e y u A q new : ℤ) → pos 0 <ℤ d → pos 0 <ℤ m →
    (u *ℤ (s *ℤ d)) ≡ (A *ℤ f) → (m *ℤ y) ≡ (q *ℤ u) → (new *ℤ (d *ℤ m)) ≡ ((q *ℤ f) *ℤ e) →
    ((new *ℤ r) *ℤ ((s *ℤ d) *ℤ A)) ≡ (((y *ℤ s) *ℤ (s *ℤ d)) *ℤ (r *ℤ e))
own_crossed d m f s r e y u A q new d_positive m_positive at_u even is =
    let left = (new *ℤ r) *ℤ ((s *ℤ d) *ℤ A) in
    let right = ((y *ℤ s) *ℤ (s *ℤ d)) *ℤ (r *ℤ e) in
    factor_out left right d d_positive
    (factor_out (left *ℤ d) (right *ℤ d) m m_positive
    (ring_by (d ∷ m ∷ f ∷ s ∷ r ∷ e ∷ y ∷ u ∷ A ∷ q ∷ new ∷ [])
    ((((var 10 ⊗ var 4) ⊗ ((var 3 ⊗ var 0) ⊗ var 8)) ⊗ var 0) ⊗ var 1)
    (((((var 6 ⊗ var 3) ⊗ (var 3 ⊗ var 0)) ⊗ (var 4 ⊗ var 5)) ⊗ var 0) ⊗ var 1)
    (using (var 4 ⊗ (var 3 ⊗ var 0) ⊗ var 8) (var 10 ⊗ (var 0 ⊗ var 1)) ((var 9 ⊗ var 2) ⊗ var 5) is
    (using (neg (var 9 ⊗ var 5 ⊗ var 4 ⊗ (var 3 ⊗ var 0))) (var 7 ⊗ (var 3 ⊗ var 0)) (var 8 ⊗ var 2) at_u
    (using (neg ((var 4 ⊗ var 5) ⊗ (var 3 ⊗ var 0) ⊗ (var 3 ⊗ var 0))) (var 1 ⊗ var 6) (var 9 ⊗ var 7) even
    nothing))) refl))

-- The line of the entering form, whose numbers over D are ts, with a positive one at the column.
pub record EntersAt (D a j : ℕ) (ts : List ℤ) (entering : Line) : Type 0 where
  pub positive : pos 0 <ℤ entering.denominator
  pub count : length ts ≡ suc (length entering.numbers)
  pub j_in : j < length entering.numbers
  pub stands : (place : ℕ) → place < length ts → (line_number entering place *ℤ pos D) ≡ (number_at ts place *ℤ entering.denominator)
  pub pivot : pos 0 <ℤ number_at entering.numbers j
  pub at_j : number_at ts (suc j) ≡ pos a

-- A line that has turned, with its denominator's multiples before and after.
pub record IsTurnedOver (D L j : ℕ) (entering old new : Line) : Type 0 where
  pub long : length old.numbers ≡ length entering.numbers
  pub positive : pos 0 <ℤ old.denominator
  pub before : nat_abs old.denominator ∣ D
  pub after : nat_abs new.denominator ∣ L
  pub turned : IsTurnedLine (turn_at entering j old) j entering old new

scaled_long : (D : ℕ) (line : Line) → length (scaled_line D line) ≡ suc (length line.numbers)
scaled_long D line = length-map (line.constant ∷ line.numbers) (λ z. z *ℤ pos (share_of D line))

-- a turned line's number at a place but the column's
line_turned : (j : ℕ) (entering old new : Line) → length old.numbers ≡ length entering.numbers →
    IsTurnedLine (turn_at entering j old) j entering old new → (place : ℕ) → place < suc (length entering.numbers) →
    place ≢ suc j → (line_number new place *ℤ (old.denominator *ℤ (turn_at entering j old).multiplier))
    ≡ (turned_number (turn_at entering j old) (line_number old place) (line_number entering place) *ℤ new.denominator)
line_turned j entering old new long t zero place_in other = t.constant
line_turned j entering old new long t (suc c) place_in other =
    t.others c (omega (arith, long, place_in)) (λ same. other (ap suc same))

-- a number of a turned line over L is that of the line over D and a, turned
place_crossed : (D L a j : ℕ) (ts : List ℤ) (entering old new : Line) → EntersAt D a j ts entering →
    IsTurnedOver D L j entering old new → (place : ℕ) → place < length ts →
    ((line_number new place *ℤ pos (share_of L new)) *ℤ pos (D * a))
    ≡ (number_at (turned (scaled_line D old) ts (suc j) D) place *ℤ pos L)
place_crossed D L a j ts entering old new e o place place_in =
    let xs = scaled_line D old in
    let s = pos (share_of D old) in
    let r = pos (share_of L new) in
    let y = number_at old.numbers j in
    let u = number_at entering.numbers j in
    let m = (turn_at entering j old).multiplier in
    let q = (turn_at entering j old).factor in
    let long : length xs ≡ length ts = scaled_long D old ∙ ap suc o.long ∙ sym e.count in
    let exact : (s *ℤ old.denominator) ≡ pos D = share_exact D old.denominator o.positive o.before in
    let exact_after : (r *ℤ new.denominator) ≡ pos L = share_exact L new.denominator o.turned.positive o.after in
    let m_positive : pos 0 <ℤ m = turn_positive y u e.pivot in
    let even : (m *ℤ y) ≡ (q *ℤ u) = turn_even y u in
    let column_in : suc j < length ts = omega (arith, e.count, e.j_in) in
    let at_pivot : (u *ℤ (s *ℤ old.denominator)) ≡ (pos a *ℤ entering.denominator) =
    ap (λ z. u *ℤ z) exact ∙ e.stands (suc j) column_in ∙ ap (λ z. z *ℤ entering.denominator) e.at_j in
    elim (cases_eq place (suc j)) [
      | inl same ↦
          subst (λ (p : ℕ). ((line_number new p *ℤ r) *ℤ pos (D * a)) ≡ (number_at (turned xs ts (suc j) D) p *ℤ pos L)) (sym same)
          (ap (λ z. (number_at new.numbers j *ℤ r) *ℤ (z *ℤ pos a)) (sym exact)
          ∙ own_crossed old.denominator m entering.denominator s r new.denominator y u (pos a) q
          (number_at new.numbers j) o.positive m_positive at_pivot even o.turned.own
          ∙ ap (λ z. ((y *ℤ s) *ℤ z) *ℤ (r *ℤ new.denominator)) exact
          ∙ ap (λ z. ((y *ℤ s) *ℤ pos D) *ℤ z) exact_after
          ∙ ap (λ z. (z *ℤ pos D) *ℤ pos L) (sym (scaled_number D old (suc j)))
          ∙ ap (λ z. z *ℤ pos L) (sym (turned_same xs ts (suc j) D long (omega (arith, long, column_in)))))
      | inr other ↦
          let x = line_number old place in
          let t = line_number entering place in
          let T = number_at ts place in
          let at_t : (t *ℤ (s *ℤ old.denominator)) ≡ (T *ℤ entering.denominator) =
          ap (λ z. t *ℤ z) exact ∙ e.stands place place_in in
          let turned_is : number_at (turned xs ts (suc j) D) place ≡ (((x *ℤ s) *ℤ pos a) -ℤ ((y *ℤ s) *ℤ T)) =
          turned_other xs ts (suc j) D place long other (omega (arith, long, place_in))
          ∙ ap (λ z. (z *ℤ number_at ts (suc j)) -ℤ (number_at xs (suc j) *ℤ T)) (scaled_number D old place)
          ∙ ap (λ z. ((x *ℤ s) *ℤ number_at ts (suc j)) -ℤ (z *ℤ T)) (scaled_number D old (suc j))
          ∙ ap (λ z. ((x *ℤ s) *ℤ z) -ℤ ((y *ℤ s) *ℤ T)) e.at_j in
          ap (λ z. (line_number new place *ℤ r) *ℤ (z *ℤ pos a)) (sym exact)
          ∙ number_crossed old.denominator m entering.denominator s r new.denominator x y t u T (pos a) q
          (line_number new place) o.positive m_positive e.positive at_t at_pivot even
          (line_turned j entering old new o.long o.turned place (omega (arith, e.count, place_in)) other)
          ∙ ap (λ z. (((x *ℤ s) *ℤ pos a) -ℤ ((y *ℤ s) *ℤ T)) *ℤ z) exact_after
          ∙ ap (λ z. z *ℤ pos L) (sym turned_is)
    ]

-- and so are all of them
line_crossed : (D L a j : ℕ) (ts : List ℤ) (entering old new : Line) → EntersAt D a j ts entering →
    IsTurnedOver D L j entering old new →
    scaled_by (D * a) (scaled_line L new) ≡ scaled_by L (turned (scaled_line D old) ts (suc j) D)
line_crossed D L a j ts entering old new e o =
    let xs = scaled_line D old in
    let zs = turned xs ts (suc j) D in
    let long : length xs ≡ length ts = scaled_long D old ∙ ap suc o.long ∙ sym e.count in
    let zs_long : length zs ≡ length ts =
    length-set (crossed (number_at ts (suc j)) (number_at xs (suc j)) xs ts) (suc j) (number_at xs (suc j) *ℤ pos D)
    ∙ length-crossed (number_at ts (suc j)) (number_at xs (suc j)) xs ts long ∙ long in
    let new_long : length (scaled_line L new) ≡ length ts = scaled_long L new ∙ ap suc (o.turned.count ∙ o.long) ∙ sym e.count in
    ext_get_or (pos 0) (scaled_by (D * a) (scaled_line L new)) (scaled_by L zs)
    (length-map (scaled_line L new) (λ z. z *ℤ pos (D * a)) ∙ new_long ∙ sym zs_long ∙ sym (length-map zs (λ z. z *ℤ pos L)))
    (λ place place_in.
    let inside : place < length ts = omega (arith, place_in, new_long, length-map (scaled_line L new) (λ z. z *ℤ pos (D * a))) in
    get_or-map (λ z. z *ℤ pos (D * a)) (scaled_line L new) place (pos 0) (pos 0) (omega (arith, inside, new_long))
    ∙ ap (λ z. z *ℤ pos (D * a)) (scaled_number L new place)
    ∙ place_crossed D L a j ts entering old new e o place inside
    ∙ sym (get_or-map (λ z. z *ℤ pos L) zs place (pos 0) (pos 0) (omega (arith, inside, zs_long))))

-- and all lines
pub rows_crossed : (D L a j : ℕ) (ts : List ℤ) (entering : Line) (olds news : List Line) → EntersAt D a j ts entering →
    length news ≡ length olds → ((v : ℕ) → v < length olds →
    IsTurnedOver D L j entering (slice_index_or olds v no_line) (slice_index_or news v no_line)) →
    map (scaled_by (D * a)) (map (scaled_line L) news) ≡ map (scaled_by L) (turned_rows (map (scaled_line D) olds) ts (suc j) D)
rows_crossed D L a j ts entering [] [] e same each = refl
rows_crossed D L a j ts entering [] (new ∷ news) e same each = absurd (omega (arith, same))
rows_crossed D L a j ts entering (old ∷ olds) [] e same each = absurd (omega (arith, same))
rows_crossed D L a j ts entering (old ∷ olds) (new ∷ news) e same each =
    ap (λ zs. zs ∷ map (scaled_by (D * a)) (map (scaled_line L) news)) (line_crossed D L a j ts entering old new e (each 0 (omega arith)))
    ∙ ap (λ rows. scaled_by L (turned (scaled_line D old) ts (suc j) D) ∷ rows)
    (rows_crossed D L a j ts entering olds news e (omega (arith, same)) (λ v v_in. each (suc v) (omega (arith, v_in))))

-- two numbers that are the same with positive factors are 0 together, and positive together
zero_too : (g h : ℕ) (w : ℤ) → 0 < h → (pos 0 *ℤ pos g) ≡ (w *ℤ pos h) → w ≡ pos 0
zero_too g h w h_positive same =
    cancel h w (pos 0) h_positive (sym same ∙ ring (pos g ∷ pos h ∷ []) (num (pos 0) ⊗ var 0) (num (pos 0) ⊗ var 1) refl)

pub positive_too : (g h : ℕ) (z w : ℤ) → 0 < g → (z *ℤ pos g) ≡ (w *ℤ pos h) → pos 0 <ℤ z → pos 0 <ℤ w
positive_too g h (pos zero) w g_positive same high = absurd (omega (arith, ints, high))
positive_too g h (negsuc n) w g_positive same high = absurd (omega (arith, ints, high))
positive_too g h (pos (suc n)) (pos zero) g_positive same high =
    let product : 0 < suc n * g = grind (arith, g_positive) in absurd (omega (arith, ints, same, product, zero-mul h))
positive_too g h (pos (suc n)) (pos (suc m)) g_positive same high = omega (arith, ints)
positive_too g h (pos (suc n)) (negsuc m) g_positive same high =
    let product : 0 < suc n * g = grind (arith, g_positive) in absurd (omega (arith, ints, same, product))

-- so what leads in the one way leads so with the other one at its head
signs_keep : (Old New : ℤ → Type 0) (g h : ℕ) (z w : ℤ) → 0 < g → 0 < h → (z *ℤ pos g) ≡ (w *ℤ pos h) →
    (Old (pos 0) → New (pos 0)) → ((n : ℕ) → New (pos (suc n))) → ((n : ℕ) → Old (negsuc n) → ⊥) → Old z → New w
signs_keep Old New g h (pos zero) w g_positive h_positive same rest high low old =
    subst New (sym (zero_too g h w h_positive same)) (rest old)
signs_keep Old New g h (pos (suc n)) w g_positive h_positive same rest high low old =
    above w (positive_too g h (pos (suc n)) w g_positive same (omega (arith, ints)))
  where
    above : (y : ℤ) → pos 0 <ℤ y → New y
    above (pos zero) y_positive = absurd (omega (arith, ints, y_positive))
    above (pos (suc m)) y_positive = high m
    above (negsuc m) y_positive = absurd (omega (arith, ints, y_positive))
signs_keep Old New g h (negsuc n) w g_positive h_positive same rest high low old = absurd (low n old)

-- The least column by a line's numbers u and t over the one denominator is so by those over another one, a and b.
pub least_crossed : (g h u a : ℕ) (t b : ℤ) (xs ys : List ℤ) → 0 < g → 0 < h → (pos u *ℤ pos g) ≡ (pos a *ℤ pos h) →
    (t *ℤ pos g) ≡ (b *ℤ pos h) → LeadsNoNegative (turned_column u xs t ys) → LeadsNoNegative (turned_column a xs b ys)
least_crossed g h u a t b [] ys g_positive h_positive own other leads = tt
least_crossed g h u a t b (x ∷ xs) [] g_positive h_positive own other leads = tt
least_crossed g h u a t b (x ∷ xs) (y ∷ ys) g_positive h_positive own other leads =
    signs_keep (λ (z : ℤ). LeadsNoNegative (z ∷ turned_column u xs t ys)) (λ (z : ℤ). LeadsNoNegative (z ∷ turned_column a xs b ys))
    g h ((pos u *ℤ x) -ℤ (t *ℤ y)) ((pos a *ℤ x) -ℤ (b *ℤ y)) g_positive h_positive
    (ring_by (pos u ∷ x ∷ t ∷ y ∷ pos g ∷ pos a ∷ b ∷ pos h ∷ [])
    ((var 0 ⊗ var 1 ⊖ var 2 ⊗ var 3) ⊗ var 4) ((var 5 ⊗ var 1 ⊖ var 6 ⊗ var 3) ⊗ var 7)
    (using (var 1) (var 0 ⊗ var 4) (var 5 ⊗ var 7) own
    (using (neg (var 3)) (var 2 ⊗ var 4) (var 6 ⊗ var 7) other nothing)) refl)
    (least_crossed g h u a t b xs ys g_positive h_positive own other) (λ n. tt) (λ n low. low) leads

-- the numbers in a column, each times g
pub column_up : (g place : ℕ) (rows : List (List ℤ)) → numbers_in_column place (map (scaled_by g) rows) ≡ map (λ z. z *ℤ pos g) (numbers_in_column place rows)
column_up g place [] = refl
column_up g place (row ∷ rows) =
    ap (λ z. z ∷ numbers_in_column place (map (scaled_by g) rows)) (number_scaled g row place)
    ∙ ap (λ zs. (number_at row place *ℤ pos g) ∷ zs) (column_up g place rows)

head_same : (x y : ℤ) (xs ys : List ℤ) → (x ∷ xs) ≡ (y ∷ ys) → (x ≡ y) × (xs ≡ ys)
head_same x y xs ys same = (cc, cc)

-- The constants rise where those over D and a, times L, are the turned ones, by a negative number b of the entering
-- form.
pub rise_from : (D L a u : ℕ) (b : ℤ) (news olds ys : List ℤ) → 0 < D → 0 < L → 0 < a → 0 < u → (b +ℤ pos u) ≡ pos 0 →
    map (λ z. z *ℤ pos (D * a)) news ≡ map (λ z. z *ℤ pos L) (turned_column a olds b ys) → length olds ≡ length ys →
    length news ≡ length olds → LeadsPositive ys → LeadsPositive (rise D L (map (λ z. z *ℤ pos D) news) olds)
rise_from D L a u b news olds [] D_positive L_positive a_positive u_positive below same long count leads = absurd leads
rise_from D L a u b news [] (y ∷ ys) D_positive L_positive a_positive u_positive below same long count leads = absurd (omega (arith, long))
rise_from D L a u b [] (x ∷ olds) (y ∷ ys) D_positive L_positive a_positive u_positive below same long count leads = absurd (omega (arith, count))
rise_from D L a u b (new ∷ news) (x ∷ olds) (y ∷ ys) D_positive L_positive a_positive u_positive below same long count leads =
    let heads = head_same (new *ℤ pos (D * a)) (((pos a *ℤ x) -ℤ (b *ℤ y)) *ℤ pos L)
    (map (λ z. z *ℤ pos (D * a)) news) (map (λ z. z *ℤ pos L) (turned_column a olds b ys)) same in
    signs_keep (λ (z : ℤ). LeadsPositive (z ∷ ys)) (λ (z : ℤ). LeadsPositive (z ∷ rise D L (map (λ z. z *ℤ pos D) news) olds))
    (D * L * u) a y ((pos D *ℤ (new *ℤ pos D)) -ℤ ((pos D *ℤ pos L) *ℤ x)) (mul-pos (mul-pos D_positive L_positive) u_positive) a_positive
    (ring_by (pos D ∷ pos L ∷ pos a ∷ pos u ∷ b ∷ new ∷ x ∷ y ∷ [])
    (var 7 ⊗ (var 0 ⊗ var 1 ⊗ var 3)) ((var 0 ⊗ (var 5 ⊗ var 0) ⊖ (var 0 ⊗ var 1) ⊗ var 6) ⊗ var 2)
    (using (neg (var 0)) (var 5 ⊗ (var 0 ⊗ var 2)) ((var 2 ⊗ var 6 ⊖ var 4 ⊗ var 7) ⊗ var 1) heads.0
    (using (var 7 ⊗ var 0 ⊗ var 1) (var 4 ⊕ var 3) (num (pos 0)) below nothing)) refl)
    (rise_from D L a u b news olds ys D_positive L_positive a_positive u_positive below heads.1
    (omega (arith, long)) (omega (arith, count))) (λ n. tt) (λ n low. low) leads
