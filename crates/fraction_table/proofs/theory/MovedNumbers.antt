-- The numbers of forms when a bound moves. Where the bound's form is in the basis, the numbers of all forms at place 0
-- rise by those in its column, times the fall; and a lower bound that moves takes its line's number at place 0 along.
use Rattle.std.proofs.Common.{◌≡◌, ℕ, zero, suc, ◌+◌, ◌<◌, refl, sym, ◌∙◌, ap, subst, List, [], ◌∷◌, map, length, arith}
use Rattle.std.specs.Prelude.{ℤ, pos, ◌+ℤ◌, ◌-ℤ◌, ◌*ℤ◌, slice_index, slice_index_or, slice_set}
use Rattle.whole_numbers.proofs.Ring.{var, num, ◌⊕◌, ◌⊖◌, ◌⊗◌, neg, ring, ring_by, nothing, using}
use Rattle.whole_numbers.specs.Lists.{number_at}
use Rattle.design_problem.specs.declared.form.Form.{Form}
use Rattle.design_problem.specs.declared.tree.Member.TheVariants.{Low, High}
use Rattle.design_problem.specs.Forms.{dot, no_form, value_for_costs}
use Rattle.design_problem.specs.Basis.{IsMixture, LeadsPositive, coordinate, member_form, mixture, one_form}
use Rattle.fraction_table.specs.ValidTables.{AllLong, AreMixtures, from_lows, low_forms, number_of_form}
use Rattle.fraction_table.specs.Moves.{fallen}

-- the numbers of which that at place 0 rises by that in the column, times the fall
abbrev pub raised : ℕ → ℤ → List ℤ → List ℤ
raised column fall [] = []
raised column fall (t ∷ ts) = (t +ℤ (number_at ts column *ℤ fall)) ∷ ts

-- the numbers of which that at place 0 is less by z
abbrev pub lowered : ℤ → List ℤ → List ℤ
lowered z [] = []
lowered z (t ∷ ts) = (t -ℤ z) ∷ ts

raised_first : (column : ℕ) (fall : ℤ) (ts : List ℤ) → number_at (raised column fall ts) 0 ≡ (number_at ts 0 +ℤ (number_at ts (suc column) *ℤ fall))
raised_first column fall [] = ring (fall ∷ []) (num (pos 0)) (num (pos 0) ⊕ num (pos 0) ⊗ var 0) refl
raised_first column fall (t ∷ ts) = refl

raised_rest : (column k : ℕ) (fall : ℤ) (ts : List ℤ) → number_at (raised column fall ts) (suc k) ≡ number_at ts (suc k)
raised_rest column k fall [] = refl
raised_rest column k fall (t ∷ ts) = refl

lows_first : (cs : List ℤ) (rows : List (List ℤ)) (column : ℕ) (fall : ℤ) →
    from_lows cs (map (raised column fall) rows) 0 ≡ (from_lows cs rows 0 +ℤ (from_lows cs rows (suc column) *ℤ fall))
lows_first [] rows column fall = ring (fall ∷ []) (num (pos 0)) (num (pos 0) ⊕ num (pos 0) ⊗ var 0) refl
lows_first (c ∷ cs) [] column fall = ring (fall ∷ []) (num (pos 0)) (num (pos 0) ⊕ num (pos 0) ⊗ var 0) refl
lows_first (c ∷ cs) (ts ∷ rows) column fall =
    ap (λ z. (c *ℤ z) +ℤ from_lows cs (map (raised column fall) rows) 0) (raised_first column fall ts)
    ∙ ap (λ z. (c *ℤ (number_at ts 0 +ℤ (number_at ts (suc column) *ℤ fall))) +ℤ z) (lows_first cs rows column fall)
    ∙ ring (c ∷ number_at ts 0 ∷ number_at ts (suc column) ∷ fall ∷ from_lows cs rows 0 ∷ from_lows cs rows (suc column) ∷ [])
    (var 0 ⊗ (var 1 ⊕ var 2 ⊗ var 3) ⊕ (var 4 ⊕ var 5 ⊗ var 3)) ((var 0 ⊗ var 1 ⊕ var 4) ⊕ (var 0 ⊗ var 2 ⊕ var 5) ⊗ var 3) refl

lows_rest : (cs : List ℤ) (rows : List (List ℤ)) (column k : ℕ) (fall : ℤ) → from_lows cs (map (raised column fall) rows) (suc k) ≡ from_lows cs rows (suc k)
lows_rest [] rows column k fall = refl
lows_rest (c ∷ cs) [] column k fall = refl
lows_rest (c ∷ cs) (ts ∷ rows) column k fall =
    ap (λ z. (c *ℤ z) +ℤ from_lows cs (map (raised column fall) rows) (suc k)) (raised_rest column k fall ts)
    ∙ ap (λ z. (c *ℤ number_at ts (suc k)) +ℤ z) (lows_rest cs rows column k fall)

pub raised_constant : (D : ℕ) (low : List ℕ) (lows : List (List ℤ)) (f : Form) (column : ℕ) (fall : ℤ) →
    number_of_form D low (map (raised column fall) lows) f 0
    ≡ (number_of_form D low lows f 0 +ℤ (number_of_form D low lows f (suc column) *ℤ fall))
raised_constant D low lows f column fall =
    ap (λ z. (pos D *ℤ value_for_costs f low) +ℤ z) (lows_first f.coefficients lows column fall)
    ∙ ring (pos D ∷ value_for_costs f low ∷ from_lows f.coefficients lows 0 ∷ from_lows f.coefficients lows (suc column) ∷ fall ∷ [])
    (var 0 ⊗ var 1 ⊕ (var 2 ⊕ var 3 ⊗ var 4)) ((var 0 ⊗ var 1 ⊕ var 2) ⊕ var 3 ⊗ var 4) refl

pub raised_other : (D : ℕ) (low : List ℕ) (lows : List (List ℤ)) (f : Form) (column k : ℕ) (fall : ℤ) →
    number_of_form D low (map (raised column fall) lows) f (suc k) ≡ number_of_form D low lows f (suc k)
raised_other D low lows f column k fall = lows_rest f.coefficients lows column k fall

-- the numbers of a form that is less by z
pub fallen_constant : (D : ℕ) (low : List ℕ) (lows : List (List ℤ)) (f : Form) (z : ℤ) →
    number_of_form D low lows (fallen f z) 0 ≡ (number_of_form D low lows f 0 -ℤ (pos D *ℤ z))
fallen_constant D low lows f z =
    ring (pos D ∷ f.constant ∷ dot f.coefficients low ∷ from_lows f.coefficients lows 0 ∷ z ∷ [])
    (var 0 ⊗ ((var 1 ⊖ var 4) ⊕ var 2) ⊕ var 3) ((var 0 ⊗ (var 1 ⊕ var 2) ⊕ var 3) ⊖ var 0 ⊗ var 4) refl

fallen_at : (f : Form) (z : ℤ) (i : ℕ) → coordinate (fallen f z) i ≡ (coordinate f i -ℤ (z *ℤ coordinate one_form i))
fallen_at f z zero = ring (f.constant ∷ z ∷ []) (var 0 ⊖ var 1) (var 0 ⊖ var 1 ⊗ num (pos 1)) refl
fallen_at f z (suc u) = ring (slice_index_or f.coefficients u (pos 0) ∷ z ∷ []) (var 0) (var 0 ⊖ var 1 ⊗ num (pos 0)) refl

mixture_fallen : (ms : List ℤ) (bs : List Form) (j : ℕ) (z : ℤ) (i : ℕ) → j < length bs →
    mixture ms (slice_set bs j (fallen (slice_index_or bs j no_form) z)) i
    ≡ (mixture ms bs i -ℤ (number_at ms j *ℤ (z *ℤ coordinate one_form i)))
mixture_fallen ms [] j z i j_in = absurd (omega arith)
mixture_fallen [] (b ∷ bs) zero z i j_in = ring (z ∷ coordinate one_form i ∷ []) (num (pos 0)) (num (pos 0) ⊖ num (pos 0) ⊗ (var 0 ⊗ var 1)) refl
mixture_fallen [] (b ∷ bs) (suc j) z i j_in = ring (z ∷ coordinate one_form i ∷ []) (num (pos 0)) (num (pos 0) ⊖ num (pos 0) ⊗ (var 0 ⊗ var 1)) refl
mixture_fallen (m ∷ ms) (b ∷ bs) zero z i j_in =
    ap (λ w. (m *ℤ w) +ℤ mixture ms bs i) (fallen_at b z i)
    ∙ ring (m ∷ coordinate b i ∷ z ∷ coordinate one_form i ∷ mixture ms bs i ∷ [])
    (var 0 ⊗ (var 1 ⊖ var 2 ⊗ var 3) ⊕ var 4) ((var 0 ⊗ var 1 ⊕ var 4) ⊖ var 0 ⊗ (var 2 ⊗ var 3)) refl
mixture_fallen (m ∷ ms) (b ∷ bs) (suc j) z i j_in =
    ap (λ w. (m *ℤ coordinate b i) +ℤ w) (mixture_fallen ms bs j z i (omega arith))
    ∙ ring (m ∷ coordinate b i ∷ mixture ms bs i ∷ number_at ms j ∷ z ∷ coordinate one_form i ∷ [])
    (var 0 ⊗ var 1 ⊕ (var 2 ⊖ var 3 ⊗ (var 4 ⊗ var 5))) ((var 0 ⊗ var 1 ⊕ var 2) ⊖ var 3 ⊗ (var 4 ⊗ var 5)) refl

-- where a form of the basis falls, the numbers that rise mix the new basis
mixture_raised : (ts : List ℤ) (bs : List Form) (j : ℕ) (z : ℤ) (i : ℕ) → j < length bs →
    mixture (raised j z ts) (one_form ∷ slice_set bs j (fallen (slice_index_or bs j no_form) z)) i
    ≡ mixture ts (one_form ∷ bs) i
mixture_raised [] bs j z i j_in = refl
mixture_raised (t ∷ ts) bs j z i j_in =
    ap (λ w. ((t +ℤ (number_at ts j *ℤ z)) *ℤ coordinate one_form i) +ℤ w) (mixture_fallen ts bs j z i j_in)
    ∙ ring (t ∷ number_at ts j ∷ z ∷ coordinate one_form i ∷ mixture ts bs i ∷ [])
    ((var 0 ⊕ var 1 ⊗ var 2) ⊗ var 3 ⊕ (var 4 ⊖ var 1 ⊗ (var 2 ⊗ var 3))) (var 0 ⊗ var 3 ⊕ var 4) refl

-- What the numbers of x - low over a basis keep.
pub record IsNumbered (D n : ℕ) (low : List ℕ) (bs : List Form) (lows : List (List ℤ)) : Type 0 where
  pub long : AllLong (suc n) lows
  pub mixtures : AreMixtures D bs (low_forms n 0 low) lows
  pub lead : (k : ℕ) → k < n → LeadsPositive (map (λ ts. number_at ts (suc k)) lows)

raised_long : (n column : ℕ) (fall : ℤ) (lows : List (List ℤ)) → AllLong (suc n) lows → AllLong (suc n) (map (raised column fall) lows)
raised_long n column fall [] long = tt
raised_long n column fall ([] ∷ lows) long = (long.0, raised_long n column fall lows long.1)
raised_long n column fall ((t ∷ ts) ∷ lows) long = (long.0, raised_long n column fall lows long.1)

raised_column : (column k : ℕ) (fall : ℤ) (lows : List (List ℤ)) →
    map (λ ts. number_at ts (suc k)) (map (raised column fall) lows) ≡ map (λ ts. number_at ts (suc k)) lows
raised_column column k fall [] = refl
raised_column column k fall (ts ∷ lows) = cc (raised_rest column k fall ts, raised_column column k fall lows)

raised_mixtures : (D : ℕ) (bs gs : List Form) (lows : List (List ℤ)) (j : ℕ) (z : ℤ) → j < length bs →
    AreMixtures D bs gs lows →
    AreMixtures D (slice_set bs j (fallen (slice_index_or bs j no_form) z)) gs (map (raised j z) lows)
raised_mixtures D bs [] [] j z j_in are = tt
raised_mixtures D bs [] (ts ∷ lows) j z j_in are = absurd are
raised_mixtures D bs (g ∷ gs) [] j z j_in are = absurd are
raised_mixtures D bs (g ∷ gs) (ts ∷ lows) j z j_in are =
    (λ i. are.0 i ∙ sym (mixture_raised ts bs j z i j_in), raised_mixtures D bs gs lows j z j_in are.1)

-- a form of the basis falls
pub raised_numbered : (D n : ℕ) (low : List ℕ) (bs : List Form) (lows : List (List ℤ)) (j : ℕ) (fall : ℤ) →
    j < length bs → IsNumbered D n low bs lows →
    IsNumbered D n low (slice_set bs j (fallen (slice_index_or bs j no_form) fall)) (map (raised j fall) lows)
raised_numbered D n low bs lows j fall j_in is =
    record {
      long = raised_long n j fall lows is.long;
      mixtures = raised_mixtures D bs (low_forms n 0 low) lows j fall j_in is.mixtures;
      lead = λ k k_in. subst LeadsPositive (sym (raised_column j k fall lows)) (is.lead k k_in);
    }

-- the lines with that of a variable less by z
abbrev pub lowered_rows : ℕ → ℤ → List (List ℤ) → List (List ℤ)
lowered_rows v z rows = slice_set rows v (lowered z (slice_index_or rows v []))

lowered_lows : (n : ℕ) (cs : List ℤ) (rows : List (List ℤ)) (v : ℕ) (z : ℤ) → AllLong (suc n) rows → v < length rows →
    from_lows cs (lowered_rows v z rows) 0 ≡ (from_lows cs rows 0 -ℤ (number_at cs v *ℤ z))
lowered_lows n cs [] v z long v_in = absurd (omega arith)
lowered_lows n [] (ts ∷ rows) zero z long v_in = ring (z ∷ []) (num (pos 0)) (num (pos 0) ⊖ num (pos 0) ⊗ var 0) refl
lowered_lows n [] (ts ∷ rows) (suc v) z long v_in = ring (z ∷ []) (num (pos 0)) (num (pos 0) ⊖ num (pos 0) ⊗ var 0) refl
lowered_lows n (c ∷ cs) ([] ∷ rows) zero z long v_in = absurd (omega (arith, long.0))
lowered_lows n (c ∷ cs) ((t ∷ ts) ∷ rows) zero z long v_in =
    ring (c ∷ t ∷ z ∷ from_lows cs rows 0 ∷ []) (var 0 ⊗ (var 1 ⊖ var 2) ⊕ var 3) ((var 0 ⊗ var 1 ⊕ var 3) ⊖ var 0 ⊗ var 2) refl
lowered_lows n (c ∷ cs) (ts ∷ rows) (suc v) z long v_in =
    ap (λ w. (c *ℤ number_at ts 0) +ℤ w) (lowered_lows n cs rows v z long.1 (omega arith))
    ∙ ring (c ∷ number_at ts 0 ∷ from_lows cs rows 0 ∷ number_at cs v ∷ z ∷ [])
    (var 0 ⊗ var 1 ⊕ (var 2 ⊖ var 3 ⊗ var 4)) ((var 0 ⊗ var 1 ⊕ var 2) ⊖ var 3 ⊗ var 4) refl

lowered_others : (cs : List ℤ) (rows : List (List ℤ)) (v k : ℕ) (z : ℤ) → from_lows cs (lowered_rows v z rows) (suc k) ≡ from_lows cs rows (suc k)
lowered_others cs [] v k z = refl
lowered_others [] (ts ∷ rows) zero k z = refl
lowered_others [] (ts ∷ rows) (suc v) k z = refl
lowered_others (c ∷ cs) ([] ∷ rows) zero k z = refl
lowered_others (c ∷ cs) ((t ∷ ts) ∷ rows) zero k z = refl
lowered_others (c ∷ cs) (ts ∷ rows) (suc v) k z = ap (λ w. (c *ℤ number_at ts (suc k)) +ℤ w) (lowered_others cs rows v k z)

dot_set : (cs : List ℤ) (low : List ℕ) (v bound : ℕ) → v < length low →
    dot cs (slice_set low v bound) ≡ (dot cs low +ℤ (number_at cs v *ℤ (pos bound -ℤ pos (slice_index low v))))
dot_set cs [] v bound v_in = absurd (omega arith)
dot_set [] (l ∷ ls) zero bound v_in = ring (pos bound ∷ pos l ∷ []) (num (pos 0)) (num (pos 0) ⊕ num (pos 0) ⊗ (var 0 ⊖ var 1)) refl
dot_set [] (l ∷ ls) (suc v) bound v_in = ring (pos bound ∷ pos (slice_index ls v) ∷ []) (num (pos 0)) (num (pos 0) ⊕ num (pos 0) ⊗ (var 0 ⊖ var 1)) refl
dot_set (c ∷ cs) (l ∷ ls) zero bound v_in =
    ring (c ∷ pos bound ∷ pos l ∷ dot cs ls ∷ []) (var 0 ⊗ var 1 ⊕ var 3) ((var 0 ⊗ var 2 ⊕ var 3) ⊕ var 0 ⊗ (var 1 ⊖ var 2)) refl
dot_set (c ∷ cs) (l ∷ ls) (suc v) bound v_in =
    ap (λ w. (c *ℤ pos l) +ℤ w) (dot_set cs ls v bound (omega arith))
    ∙ ring (c ∷ pos l ∷ dot cs ls ∷ number_at cs v ∷ pos bound ∷ pos (slice_index ls v) ∷ [])
    (var 0 ⊗ var 1 ⊕ (var 2 ⊕ var 3 ⊗ (var 4 ⊖ var 5))) ((var 0 ⊗ var 1 ⊕ var 2) ⊕ var 3 ⊗ (var 4 ⊖ var 5)) refl

-- a lower bound that moves, with its line, leaves the numbers of every form
pub lowered_number : (D n : ℕ) (low : List ℕ) (lows : List (List ℤ)) (f : Form) (v bound : ℕ) → AllLong (suc n) lows →
    v < length low → v < length lows → (place : ℕ) →
    number_of_form D (slice_set low v bound) (lowered_rows v (pos D *ℤ (pos bound -ℤ pos (slice_index low v))) lows) f place
    ≡ number_of_form D low lows f place
lowered_number D n low lows f v bound long v_in row_in zero =
    let d = pos bound -ℤ pos (slice_index low v) in
    ap (λ w. (pos D *ℤ (f.constant +ℤ w)) +ℤ from_lows f.coefficients (lowered_rows v (pos D *ℤ d) lows) 0) (dot_set f.coefficients low v bound v_in)
    ∙ ap (λ w. (pos D *ℤ (f.constant +ℤ (dot f.coefficients low +ℤ (number_at f.coefficients v *ℤ d)))) +ℤ w)
    (lowered_lows n f.coefficients lows v (pos D *ℤ d) long row_in)
    ∙ ring (pos D ∷ f.constant ∷ dot f.coefficients low ∷ number_at f.coefficients v ∷ d ∷ from_lows f.coefficients lows 0 ∷ [])
    (var 0 ⊗ (var 1 ⊕ (var 2 ⊕ var 3 ⊗ var 4)) ⊕ (var 5 ⊖ var 3 ⊗ (var 0 ⊗ var 4))) (var 0 ⊗ (var 1 ⊕ var 2) ⊕ var 5) refl
lowered_number D n low lows f v bound long v_in row_in (suc k) = lowered_others f.coefficients lows v k (pos D *ℤ (pos bound -ℤ pos (slice_index low v)))

-- the forms of a bound that moved
pub low_falls : (n : ℕ) (rows : List Form) (v bound old : ℕ) → member_form n rows (Low v bound) ≡ fallen (member_form n rows (Low v old)) (pos bound -ℤ pos old)
low_falls n rows v bound old =
    ap (λ z. record { constant = z; coefficients = (member_form n rows (Low v old)).coefficients })
    (ring (pos bound ∷ pos old ∷ []) (neg (var 0)) (neg (var 1) ⊖ (var 0 ⊖ var 1)) refl)

pub high_falls : (n : ℕ) (rows : List Form) (v bound old : ℕ) →
    member_form n rows (High v bound) ≡ fallen (member_form n rows (High v old)) (pos old -ℤ pos bound)
high_falls n rows v bound old =
    ap (λ z. record { constant = z; coefficients = (member_form n rows (High v old)).coefficients })
    (ring (pos bound ∷ pos old ∷ []) (var 0) (var 1 ⊖ (var 1 ⊖ var 0)) refl)

low_forms_set : (n a : ℕ) (low : List ℕ) (v bound : ℕ) → v < length low →
    low_forms n a (slice_set low v bound)
    ≡ slice_set (low_forms n a low) v
    (fallen (slice_index_or (low_forms n a low) v no_form) (pos bound -ℤ pos (slice_index low v)))
low_forms_set n a [] v bound v_in = absurd (omega arith)
low_forms_set n a (l ∷ ls) zero bound v_in = ap (λ (f : Form). f ∷ low_forms n (a + 1) ls) (low_falls n [] a bound l)
low_forms_set n a (l ∷ ls) (suc v) bound v_in = ap (λ (fs : List Form). member_form n [] (Low a l) ∷ fs) (low_forms_set n (a + 1) ls v bound (omega arith))

-- a form that is less by d, and its numbers
lowered_mixture : (D n : ℕ) (bs : List Form) (g : Form) (ts : List ℤ) (d : ℤ) → length ts ≡ suc n →
    IsMixture g bs D ts → IsMixture (fallen g d) bs D (lowered (pos D *ℤ d) ts)
lowered_mixture D n bs g [] d long is i = absurd (omega (arith, long))
lowered_mixture D n bs g (t ∷ ts) d long is i =
    ap (λ z. pos D *ℤ z) (fallen_at g d i)
    ∙ ring_by (pos D ∷ coordinate g i ∷ d ∷ coordinate one_form i ∷ t ∷ mixture ts bs i ∷ [])
    (var 0 ⊗ (var 1 ⊖ var 2 ⊗ var 3)) ((var 4 ⊖ var 0 ⊗ var 2) ⊗ var 3 ⊕ var 5)
    (using (num (pos 1)) (var 0 ⊗ var 1) (var 4 ⊗ var 3 ⊕ var 5) (is i) nothing) refl

lowered_mixtures : (D n : ℕ) (bs gs : List Form) (lows : List (List ℤ)) (v : ℕ) (d : ℤ) → AllLong (suc n) lows →
    AreMixtures D bs gs lows →
    AreMixtures D bs (slice_set gs v (fallen (slice_index_or gs v no_form) d)) (lowered_rows v (pos D *ℤ d) lows)
lowered_mixtures D n bs [] [] v d long are = tt
lowered_mixtures D n bs [] (ts ∷ lows) v d long are = absurd are
lowered_mixtures D n bs (g ∷ gs) [] v d long are = absurd are
lowered_mixtures D n bs (g ∷ gs) (ts ∷ lows) zero d long are = (lowered_mixture D n bs g ts d long.0 are.0, are.1)
lowered_mixtures D n bs (g ∷ gs) (ts ∷ lows) (suc v) d long are = (are.0, lowered_mixtures D n bs gs lows v d long.1 are.1)

lowered_long : (n v : ℕ) (z : ℤ) (lows : List (List ℤ)) → AllLong (suc n) lows → AllLong (suc n) (lowered_rows v z lows)
lowered_long n v z [] long = tt
lowered_long n zero z ([] ∷ lows) long = long
lowered_long n zero z ((t ∷ ts) ∷ lows) long = long
lowered_long n (suc v) z (ts ∷ lows) long = (long.0, lowered_long n v z lows long.1)

lowered_column : (v k : ℕ) (z : ℤ) (lows : List (List ℤ)) → map (λ ts. number_at ts (suc k)) (lowered_rows v z lows) ≡ map (λ ts. number_at ts (suc k)) lows
lowered_column v k z [] = refl
lowered_column zero k z ([] ∷ lows) = refl
lowered_column zero k z ((t ∷ ts) ∷ lows) = refl
lowered_column (suc v) k z (ts ∷ lows) = ap (λ zs. number_at ts (suc k) ∷ zs) (lowered_column v k z lows)

-- a lower bound moves
pub lowered_numbered : (D n : ℕ) (low : List ℕ) (bs : List Form) (lows : List (List ℤ)) (v bound : ℕ) → v < length low →
    IsNumbered D n low bs lows →
    IsNumbered D n (slice_set low v bound) bs (lowered_rows v (pos D *ℤ (pos bound -ℤ pos (slice_index low v))) lows)
lowered_numbered D n low bs lows v bound v_in is =
    let d = pos bound -ℤ pos (slice_index low v) in
    record {
      long = lowered_long n v (pos D *ℤ d) lows is.long;
      mixtures = subst (λ (gs : List Form). AreMixtures D bs gs (lowered_rows v (pos D *ℤ d) lows))
          (sym (low_forms_set n 0 low v bound v_in))
          (lowered_mixtures D n bs (low_forms n 0 low) lows v d is.long is.mixtures);
      lead = λ k k_in. subst LeadsPositive (sym (lowered_column v k (pos D *ℤ d) lows)) (is.lead k k_in);
    }
