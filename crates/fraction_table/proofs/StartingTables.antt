-- At the starting basis the table is whole: a form's numbers over 1 are its value at the low corner and its
-- coefficients.
use Rattle.std.proofs.Common.{◌≡◌, ◌≢◌, ℕ, zero, suc, ◌+◌, ◌<◌, refl, sym, ◌∙◌, ap, subst, List, [], ◌∷◌, ◌++◌, map, length, arith, zero-add}
use Rattle.std.specs.Prelude.{ℤ, pos, ◌+ℤ◌, ◌*ℤ◌, slice_index, slice_index_or, All}
use Rattle.std.specs.List.{AllZip}
use Rattle.std.proofs.lemmas.List.{get_or-map, length-map}
use Rattle.std.proofs.lemmas.List.Elements.{All-append}
use Rattle.cost_base.specs.Lists.{numbers_from}
use Rattle.cost_base.proofs.ListLemmas.{length-map-numbers_from, get_or-map-numbers_from, map-numbers_from-agree}
use Rattle.whole_numbers.specs.Fractions.{whole}
use Rattle.whole_numbers.proofs.Ring.{var, num, ◌⊕◌, ◌⊗◌, ring}
use Rattle.whole_numbers.specs.Lists.{number_at}
use Rattle.design_problem.specs.declared.form.Form.{Form}
use Rattle.design_problem.specs.declared.boxes.CostBox.{CostBox}
use Rattle.design_problem.specs.declared.tree.Member.{Member}
use Rattle.design_problem.specs.declared.tree.Member.TheVariants.{Low, Row}
use Rattle.design_problem.specs.Forms.{no_form, value_for_costs}
use Rattle.design_problem.specs.Boxes.{IsBox}
use Rattle.design_problem.specs.Basis.{IsFormOf, LeadsPositive, coordinate, forms_of, low_member, member_form, mixture, one_form, unit}
use Rattle.fraction_table.specs.Tableaus.{FitsBox, starting}
use Rattle.fraction_lines.specs.Turns.{AreTableLines}
use Rattle.fraction_table.specs.ValidTables.{AllLong, AreMixtures, IsTableLine, IsTableauOf, Stand, from_lows, high_member, low_forms, members_of_box, number_of_form, numbers_of_form, starting_line}
use Rattle.fraction_table.proofs.theory.Blends.{listed_at}
use Rattle.fraction_table.proofs.theory.Lex.{zero_leads}
use Rattle.fraction_table.proofs.theory.Resolved.{unit_other, unit_same}
use Rattle.fraction_table.proofs.theory.Units.{low_value, unit_from_lows}
use Rattle.fraction_table.proofs.IntegralTurns.{coefficients_long}
use Rattle.fraction_table.proofs.Bases.{low_forms_long}
use Rattle.fraction_table.proofs.theory.Zips.{zip_from}

-- the numbers of x - low for m variables from a on, over themselves
abbrev pub start_rows : ℕ → ℕ → ℕ → List (List ℤ)
start_rows n a m = map (λ v. pos 0 ∷ unit n v (pos 1)) (numbers_from a m)

no_term : (c : ℤ) (z rest : ℤ) → z ≡ pos 0 → ((c *ℤ z) +ℤ rest) ≡ rest
no_term c z rest e = ap (λ w. (c *ℤ w) +ℤ rest) e ∙ ring (c ∷ rest ∷ []) (var 0 ⊗ num (pos 0) ⊕ var 1) (var 1) refl

starts_zero : (n a m : ℕ) (cs : List ℤ) → from_lows cs (start_rows n a m) 0 ≡ pos 0
starts_zero n a m [] = refl
starts_zero n a zero (c ∷ cs) = refl
starts_zero n a (suc m) (c ∷ cs) = no_term c (pos 0) (from_lows cs (start_rows n (a + 1) m) 0) refl ∙ starts_zero n (a + 1) m cs

starts_before : (n a m k : ℕ) (cs : List ℤ) → k < a → from_lows cs (start_rows n a m) (suc k) ≡ pos 0
starts_before n a m k [] before = refl
starts_before n a zero k (c ∷ cs) before = refl
starts_before n a (suc m) k (c ∷ cs) before =
    no_term c (slice_index_or (unit n a (pos 1)) k (pos 0)) (from_lows cs (start_rows n (a + 1) m) (suc k)) (unit_other n a k (apart before))
    ∙ starts_before n (a + 1) m k cs (omega arith)
  where
    apart : k < a → k ≢ a
    apart h = omega arith

behind : (a i k : ℕ) → k ≡ a + suc i → k ≢ a
behind a i k there = omega arith

starts_there : (n a m i k : ℕ) (cs : List ℤ) → k ≡ a + i → i < length cs → length cs ≡ m → k < n → from_lows cs (start_rows n a m) (suc k) ≡ number_at cs i
starts_there n a m i k [] there i_in counted k_in = absurd (omega arith)
starts_there n a zero i k (c ∷ cs) there i_in counted k_in = absurd (omega arith)
starts_there n a (suc m) zero k (c ∷ cs) there i_in counted k_in =
    let here : a ≡ k = omega arith in
    ap (λ z. (c *ℤ z) +ℤ from_lows cs (start_rows n (a + 1) m) (suc k))
    (subst (λ (u : ℕ). slice_index_or (unit n a (pos 1)) u (pos 0) ≡ pos 1) here (unit_same n a (omega arith)))
    ∙ ap (λ z. (c *ℤ pos 1) +ℤ z) (starts_before n (a + 1) m k cs (omega arith))
    ∙ ring (c ∷ []) (var 0 ⊗ num (pos 1) ⊕ num (pos 0)) (var 0) refl
starts_there n a (suc m) (suc i) k (c ∷ cs) there i_in counted k_in =
    no_term c (slice_index_or (unit n a (pos 1)) k (pos 0)) (from_lows cs (start_rows n (a + 1) m) (suc k)) (unit_other n a k (behind a i k there))
    ∙ starts_there n (a + 1) m i k cs (omega arith) (omega arith) (omega arith) k_in

pub number_start : (n : ℕ) (low : List ℕ) (f : Form) (place : ℕ) → length f.coefficients ≡ n → place < suc n →
    number_of_form 1 low (start_rows n 0 n) f place ≡ number_at (value_for_costs f low ∷ f.coefficients) place
number_start n low f zero counted place_in =
    ap (λ z. (pos 1 *ℤ value_for_costs f low) +ℤ z) (starts_zero n 0 n f.coefficients)
    ∙ ring (value_for_costs f low ∷ []) (num (pos 1) ⊗ var 0 ⊕ num (pos 0)) (var 0) refl
number_start n low f (suc k) counted place_in =
    starts_there n 0 n k k f.coefficients (sym (zero-add k)) (omega (arith, counted)) counted (omega arith)

numbers_start : (n : ℕ) (low : List ℕ) (f : Form) → length f.coefficients ≡ n →
    numbers_of_form n 1 low (start_rows n 0 n) f ≡ value_for_costs f low ∷ f.coefficients
numbers_start n low f counted =
    let ts = value_for_costs f low ∷ f.coefficients in
    map-numbers_from-agree (number_of_form 1 low (start_rows n 0 n) f) (number_at ts) 0 (suc n)
    (λ place from place_in. number_start n low f place counted (omega arith))
    ∙ ap (λ m. map (number_at ts) (numbers_from 0 (suc m))) (sym counted)
    ∙ listed_at ts

pub starts_long : (n a m : ℕ) → AllLong (suc n) (start_rows n a m)
starts_long n a zero = tt
starts_long n a (suc m) = (ap suc (length-map-numbers_from _ 0 n), starts_long n (a + 1) m)

-- a mixture is a sum over rows of one number each
mixture_rows : (ms : List ℤ) (fs : List Form) (i : ℕ) → mixture ms fs i ≡ from_lows ms (map (λ f. coordinate f i ∷ []) fs) 0
mixture_rows [] fs i = refl
mixture_rows (m ∷ ms) [] i = refl
mixture_rows (m ∷ ms) (f ∷ fs) i = ap (λ z. (m *ℤ coordinate f i) +ℤ z) (mixture_rows ms fs i)

unit_mixture : (fs : List Form) (v i : ℕ) → v < length fs → mixture (unit (length fs) v (pos 1)) fs i ≡ coordinate (slice_index_or fs v no_form) i
unit_mixture fs v i v_in =
    let f = slice_index_or fs v no_form in
    mixture_rows (unit (length fs) v (pos 1)) fs i
    ∙ unit_from_lows (length fs) v 0 (pos 1) (map (λ g. coordinate g i ∷ []) fs) v_in (sym (length-map fs (λ (g : Form). coordinate g i ∷ [])))
    ∙ ap (λ (ts : List ℤ). pos 1 *ℤ number_at ts 0) (get_or-map (λ (g : Form). coordinate g i ∷ []) fs v no_form [] v_in)
    ∙ ring (coordinate f i ∷ []) (num (pos 1) ⊗ var 0) (var 0) refl

low_forms_at : (n a : ℕ) (low : List ℕ) (v : ℕ) → v < length low →
    slice_index_or (low_forms n a low) v no_form ≡ member_form n [] (Low (a + v) (slice_index low v))
low_forms_at n a [] v v_in = absurd (omega arith)
low_forms_at n a (l ∷ ls) zero v_in = ap (λ (k : ℕ). member_form n [] (Low k l)) (omega arith)
low_forms_at n a (l ∷ ls) (suc v) v_in = low_forms_at n (a + 1) ls v (omega arith) ∙ ap (λ (k : ℕ). member_form n [] (Low k (slice_index ls v))) (omega arith)

-- the v-th form of the starting basis is x - low of the variable v
starting_at : (costs : CostBox) (rows : List Form) (v : ℕ) → v < length costs.low →
    slice_index_or (forms_of costs rows (starting costs)) v no_form ≡ member_form (length costs.low) rows
    (low_member costs v)
starting_at costs rows v v_in =
    let n = length costs.low in
    get_or-map (member_form n rows) (starting costs) v (Low 0 0) no_form (omega (arith, length-map-numbers_from (low_member costs) 0 n, v_in))
    ∙ ap (member_form n rows) (get_or-map-numbers_from (low_member costs) 0 n v (Low 0 0) v_in ∙ ap (low_member costs) (zero-add v))

starting_long : (costs : CostBox) (rows : List Form) → length (forms_of costs rows (starting costs)) ≡ length costs.low
starting_long costs rows =
    length-map (starting costs) (member_form (length costs.low) rows) ∙ length-map-numbers_from (low_member costs) 0 (length costs.low)

pub starting_mixtures : (costs : CostBox) (rows : List Form) →
    AreMixtures 1 (forms_of costs rows (starting costs)) (low_forms (length costs.low) 0 costs.low)
    (start_rows (length costs.low) 0 (length costs.low))
starting_mixtures costs rows =
    let n = length costs.low in
    let bs = forms_of costs rows (starting costs) in
    let starts = start_rows n 0 n in
    zip_from _ (low_forms n 0 costs.low) starts no_form [] (low_forms_long n 0 costs.low ∙ sym (length-map-numbers_from (λ v. pos 0 ∷ unit n v (pos 1)) 0 n))
    (λ v v_in. here v (omega (arith, low_forms_long n 0 costs.low, v_in)))
  where
    here : (v : ℕ) → v < length costs.low → (i : ℕ) →
        (pos 1 *ℤ coordinate (slice_index_or (low_forms (length costs.low) 0 costs.low) v no_form) i)
        ≡ mixture (slice_index_or (start_rows (length costs.low) 0 (length costs.low)) v [])
        (one_form ∷ forms_of costs rows (starting costs)) i
    here v v_in i =
        let n = length costs.low in
        let bs = forms_of costs rows (starting costs) in
        let long = starting_long costs rows in
        ap (λ (f : Form). pos 1 *ℤ coordinate f i) (low_forms_at n 0 costs.low v v_in
        ∙ ap (λ (k : ℕ). member_form n [] (Low k (slice_index costs.low v))) (zero-add v)
        ∙ sym (starting_at costs rows v v_in))
        ∙ ring (coordinate (slice_index_or bs v no_form) i ∷ coordinate one_form i ∷ []) (num (pos 1) ⊗ var 0) (num (pos 0) ⊗ var 1 ⊕ var 0) refl
        ∙ ap (λ z. (pos 0 *ℤ coordinate one_form i) +ℤ z) (sym (unit_mixture bs v i (omega (arith, long, v_in))))
        ∙ ap (λ (m : ℕ). (pos 0 *ℤ coordinate one_form i) +ℤ mixture (unit m v (pos 1)) bs i) long
        ∙ ap (λ (ts : List ℤ). mixture ts (one_form ∷ bs) i)
        (sym (get_or-map-numbers_from (λ u. pos 0 ∷ unit n u (pos 1)) 0 n v [] v_in
        ∙ ap (λ (u : ℕ). pos 0 ∷ unit n u (pos 1)) (zero-add v)))

pub starting_leads : (n a m i k : ℕ) → k ≡ a + i → i < m → k < n → LeadsPositive (map (λ ts. number_at ts (suc k)) (start_rows n a m))
starting_leads n a zero i k there i_in k_in = absurd (omega arith)
starting_leads n a (suc m) zero k there i_in k_in =
    let here : a ≡ k = omega arith in
    subst (λ z. LeadsPositive (z ∷ map (λ ts. number_at ts (suc k)) (start_rows n (a + 1) m)))
    (sym (subst (λ (u : ℕ). slice_index_or (unit n a (pos 1)) u (pos 0) ≡ pos 1) here (unit_same n a (omega arith)))) tt
starting_leads n a (suc m) (suc i) k there i_in k_in =
    zero_leads (slice_index_or (unit n a (pos 1)) k (pos 0)) (map (λ ts. number_at ts (suc k)) (start_rows n (a + 1) m)) (unit_other n a k (behind a i k there))
    (starting_leads n (a + 1) m i k (omega arith) (omega arith) k_in)

-- the form of a column has 1 in it and 0 elsewhere
pub starting_own : (costs : CostBox) (rows : List Form) (k place : ℕ) → k < length costs.low →
    place < suc (length costs.low) →
    number_of_form 1 costs.low (start_rows (length costs.low) 0 (length costs.low))
    (slice_index_or (forms_of costs rows (starting costs)) k no_form) place
    ≡ number_at (pos 0 ∷ unit (length costs.low) k (pos 1)) place
starting_own costs rows k place k_in place_in =
    let n = length costs.low in
    let f = member_form n rows (low_member costs k) in
    ap (λ (g : Form). number_of_form 1 costs.low (start_rows n 0 n) g place) (starting_at costs rows k k_in)
    ∙ number_start n costs.low f place (length-map-numbers_from _ 0 n) place_in
    ∙ ap (λ z. number_at (z ∷ f.coefficients) place) (low_value costs.low rows k k_in)

pub elsewhere_none : (n k place : ℕ) → place ≢ suc k → number_at (pos 0 ∷ unit n k (pos 1)) place ≡ pos 0
elsewhere_none n k zero apart = refl
elsewhere_none n k (suc p) apart = unit_other n k p (λ same. apart (ap suc same))

pub all_mapped : {X : Type 0} (P : X → Type 0) (f : ℕ → X) (n : ℕ) → ((k : ℕ) → k < n → P (f k)) → All P (map f (numbers_from 0 n))
all_mapped P f n here k d k_in =
    let k_below : k < n = omega (arith, length-map-numbers_from f 0 n, k_in) in
    subst P (sym (get_or-map-numbers_from f 0 n k d k_below ∙ ap f (zero-add k))) (here k k_below)

pub members_are : (costs : CostBox) (rows : List Form) → All (IsFormOf costs rows) (members_of_box costs (length rows))
members_are costs rows =
    let n = length costs.low in
    let lows = map (low_member costs) (numbers_from 0 n) in
    let highs = map (high_member costs) (numbers_from 0 n) in
    All-append (IsFormOf costs rows) (lows ++ highs) (map (λ row. Row row) (numbers_from 0 (length rows)))
    (All-append (IsFormOf costs rows) lows highs
    (all_mapped (IsFormOf costs rows) (low_member costs) n (λ k k_in. (k_in, refl)))
    (all_mapped (IsFormOf costs rows) (high_member costs) n (λ k k_in. (k_in, refl))))
    (all_mapped (IsFormOf costs rows) (λ row. Row row) (length rows) (λ k k_in. k_in))

wholes_stand : (ms : List ℤ) → Stand 1 (map whole ms) ms
wholes_stand [] = tt
wholes_stand (m ∷ ms) = (refl, wholes_stand ms)

starting_lines : (top : ℕ) (costs : CostBox) (rows : List Form) (members : List Member) → All (FitsBox costs) rows →
    All (IsFormOf costs rows) members → AreTableLines top (suc (length costs.low)) (map (starting_line costs rows) members) →
    AllZip (IsTableLine top 1 costs rows (start_rows (length costs.low) 0 (length costs.low))) members
    (map (starting_line costs rows) members)
starting_lines top costs rows [] fit are numbers = tt
starting_lines top costs rows (member ∷ members) fit are numbers = (
  record {
    numbers = numbers.1;
    stand =
        subst (λ (ms : List ℤ). Stand 1 (starting_line costs rows member) ms)
        (sym (numbers_start (length costs.low) costs.low (member_form (length costs.low) rows member)
        (coefficients_long costs rows member fit (are 0 member (omega arith)))))
        (wholes_stand (value_for_costs (member_form (length costs.low) rows member) costs.low ∷ (member_form (length costs.low) rows member).coefficients));
  },
  starting_lines top costs rows members fit (λ k d k_in. are (suc k) d (omega arith)) numbers.2,
)

pub whole_start : (top : ℕ) (costs : CostBox) (rows : List Form) → IsBox (length costs.low) costs →
    All (FitsBox costs) rows →
    AreTableLines top (suc (length costs.low)) (map (starting_line costs rows) (members_of_box costs (length rows))) →
    IsTableauOf top costs rows (starting costs) (map (starting_line costs rows) (members_of_box costs (length rows)))
whole_start top costs rows box fit numbers =
    let n = length costs.low in
    record {
      box = box;
      fit = fit;
      unboxed = record {
        high_count = box.high_count;
        counts = λ k d k_in. (fit k d k_in).count;
        count = length-map-numbers_from (low_member costs) 0 n;
        members = all_mapped (IsFormOf costs rows) (low_member costs) n (λ k k_in. (k_in, refl));
        common = 1;
        positive = omega arith;
        lows = start_rows n 0 n;
        long = starts_long n 0 n;
        mixtures = starting_mixtures costs rows;
        own = λ k k_in. starting_own costs rows k (suc k) k_in (omega (arith, k_in)) ∙ unit_same n k k_in;
        elsewhere = λ k place k_in place_in apart. starting_own costs rows k place k_in (omega (arith, place_in)) ∙ elsewhere_none n k place apart;
        lead = λ k k_in. starting_leads n 0 n k k (sym (zero-add k)) k_in k_in;
        lines = starting_lines top costs rows (members_of_box costs (length rows)) fit (members_are costs rows) numbers;
      };
    }
