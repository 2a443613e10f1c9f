-- A pivot keeps the table whole.
use Rattle.std.proofs.Common.{◌≡◌, ℕ, zero, suc, ◌*◌, ◌<◌, refl, sym, ◌∙◌, ap, subst, List, [], ◌∷◌, map, length, arith}
use Rattle.std.specs.Prelude.{ℤ, pos, negsuc, slice_index_or, slice_set, All}
use Rattle.std.proofs.Math.Nat.{suc_inj}
use Rattle.std.specs.List.{AllZip}
use Rattle.std.proofs.lemmas.List.{length-map, length-set, map-set}
use Rattle.std.proofs.lemmas.List.Elements.{All-set}
use Rattle.cost_base.proofs.ListLemmas.{length-map-numbers_from}
use Rattle.whole_numbers.specs.Fractions.{Fraction, StandsFor, divided, whole}
use Rattle.whole_numbers.specs.Lists.{number_at}
use Rattle.wide_fraction.proofs.Quotients.{zero_stands}
use Rattle.design_problem.specs.declared.form.Form.{Form}
use Rattle.design_problem.specs.declared.boxes.CostBox.{CostBox}
use Rattle.design_problem.specs.declared.tree.Member.{Member}
use Rattle.design_problem.specs.declared.tree.Member.TheVariants.{Low, High, Row}
use Rattle.design_problem.specs.Forms.{no_form}
use Rattle.design_problem.specs.Basis.{IsFormOf, IsMixture, entry, forms_of, member_form}
use Rattle.fraction_lines.specs.TableLines.{AreTableNumbers, divided_without}
use Rattle.fraction_table.specs.Tableaus.{FitsBox}
use Rattle.fraction_lines.specs.Turns.{AreTableLines, turned_by, unless_none}
use Rattle.fraction_table.specs.ValidTables.{AllLong, IsTableLine, IsTableauOf, Stand, low_forms, members_of_box, number_of_form, numbers_of_form}
use Rattle.fraction_table.specs.Pivots.{IsLeastColumn}
use Rattle.fraction_lines.proofs.TableLineLaws.{number_at as number_there}
use Rattle.fraction_table.proofs.theory.Resolved.{resolved, stand_length}
use Rattle.fraction_table.proofs.theory.Blends.{form_mixture}
use Rattle.fraction_table.proofs.theory.Pivot.{turned}
use Rattle.fraction_table.proofs.StandingRows.{IsTurn, kept_stands, turned_row, turned_stands}
use Rattle.fraction_table.proofs.theory.Turns.{turned_rows}
use Rattle.fraction_table.proofs.theory.TurnedNumbers.{IsEntry, elsewhere_turned, long_turned, mixtures_turned, numbers_at, numbers_long, numbers_turned, own_turned}
use Rattle.fraction_table.proofs.theory.TurnedLeads.{leads_turned}

-- a form of the box has a coefficient for each variable
pub form_long : (costs : CostBox) (rows : List Form) (member : Member) →
    All (λ f. length f.coefficients ≡ length costs.low) rows → IsFormOf costs rows member →
    length (member_form (length costs.low) rows member).coefficients ≡ length costs.low
form_long costs rows (Low v bound) counts is = length-map-numbers_from _ 0 (length costs.low)
form_long costs rows (High v bound) counts is = length-map-numbers_from _ 0 (length costs.low)
form_long costs rows (Row row) counts is = counts row no_form is

pub coefficients_long : (costs : CostBox) (rows : List Form) (member : Member) → All (FitsBox costs) rows →
    IsFormOf costs rows member → length (member_form (length costs.low) rows member).coefficients ≡ length costs.low
coefficients_long costs rows member fit is = form_long costs rows member (λ k d k_in. (fit k d k_in).count) is

pub stand_at : (D : ℕ) (qs : List Fraction) (ms : List ℤ) (k : ℕ) → Stand D qs ms → k < length ms → StandsFor (entry qs k) (number_at ms k) D
stand_at D [] [] k stand k_in = absurd (omega arith)
stand_at D [] (m ∷ ms) k stand k_in = absurd stand
stand_at D (q ∷ qs) [] k stand k_in = absurd stand
stand_at D (q ∷ qs) (m ∷ ms) zero stand k_in = stand.0
stand_at D (q ∷ qs) (m ∷ ms) (suc k) stand k_in = stand_at D qs ms k stand.1 (omega arith)

by_zero : (P : List Fraction → Type 0) (z : ℤ) (kept other : List Fraction) → (z ≡ pos 0 → P kept) → P other → P (unless_none z kept other)
by_zero P (pos zero) kept other none some = none refl
by_zero P (pos (suc n)) kept other none some = some
by_zero P (negsuc n) kept other none some = some

-- a line of fractions after the pivot by the line es on a place
abbrev pub turned_line : List Fraction → ℕ → List Fraction → List Fraction
turned_line es place fs = turned_by fs (divided_without place (entry es place) es 0) place (divided (whole (pos 1)) (entry es place))

-- it stands for the turned numbers
line_stands : (top D a place : ℕ) (fs es : List Fraction) (ms ks : List ℤ) → 0 < D → 0 < a → place < length ms →
    length ms ≡ length ks → number_at ks place ≡ pos a → AreTableNumbers top fs → AreTableNumbers top es → Stand D fs ms →
    Stand D es ks → Stand (D * a) (turned_line es place fs) (turned ms ks place D)
line_stands top D a place fs es ms ks D_positive a_positive place_in same at_place fs_are es_are fs_stand es_stand =
    let fs_long = stand_length D fs ms fs_stand in
    let es_long = stand_length D es ks es_stand in
    let own = number_there top fs place fs_are (omega (arith, fs_long, place_in)) in
    let pivot = number_there top es place es_are (omega (arith, es_long, same, place_in)) in
    let own_stands = stand_at D fs ms place fs_stand place_in in
    let pivot_stands = stand_at D es ks place es_stand (omega (arith, same, place_in)) in
    let turn : IsTurn (entry fs place) (entry es place) (number_at ms place) a D =
    record {
      own_positive = own.lowest.positive;
      pivot_positive = pivot.lowest.positive;
      number_positive = a_positive;
      common_positive = D_positive;
      own = own_stands;
      pivot = subst (λ z. StandsFor (entry es place) z D) at_place pivot_stands;
    } in
    by_zero (λ qs. Stand (D * a) qs (turned ms ks place D)) (entry fs place).numerator fs (turned_row fs es place)
    (λ none. kept_stands place D a fs ms ks same
    ((zero_stands (entry fs place) (number_at ms place) D own.lowest.positive D_positive own_stands).0 none)
    at_place fs_stand)
    (turned_stands top place D a (number_at ms place) fs es ms ks refl at_place turn fs_are es_are (fs_long ∙ same ∙ sym es_long) fs_stand es_stand)

-- What a pivot of a table needs: the form of a line enters at a column in which it has a positive number, and which is
-- the least of those.
pub record IsPivotOf (top : ℕ) (costs : CostBox) (rows : List Form) (D : ℕ) (lows : List (List ℤ)) (entering : Member)
    (es : List Fraction) (j a : ℕ) : Type 0 where
  pub member : IsFormOf costs rows entering
  pub line : IsTableLine top D costs rows lows entering es
  pub j_in : j < length costs.low
  pub at_j : number_of_form D costs.low lows (member_form (length costs.low) rows entering) (suc j) ≡ pos a
  pub positive : 0 < a
  pub least : IsLeastColumn (length costs.low) lows (numbers_of_form (length costs.low) D costs.low lows (member_form (length costs.low) rows entering)) j

pub lines_turned : (top : ℕ) (costs : CostBox) (rows : List Form) (D : ℕ) (lows : List (List ℤ)) (entering : Member)
    (es : List Fraction) (j a : ℕ) (members : List Member) (table : List (List Fraction)) → 0 < D →
    AllLong (suc (length costs.low)) lows → IsPivotOf top costs rows D lows entering es j a →
    AllZip (IsTableLine top D costs rows lows) members table →
    AreTableLines top (suc (length costs.low)) (map (turned_line es (suc j)) table) →
    AllZip (IsTableLine top (D * a) costs rows
    (turned_rows lows (numbers_of_form (length costs.low) D costs.low lows (member_form (length costs.low) rows entering))
    (suc j) D)) members (map (turned_line es (suc j)) table)
lines_turned top costs rows D lows entering es j a [] [] D_positive long p lines news = tt
lines_turned top costs rows D lows entering es j a [] (fs ∷ table) D_positive long p lines news = absurd lines
lines_turned top costs rows D lows entering es j a (member ∷ members) [] D_positive long p lines news = absurd lines
lines_turned top costs rows D lows entering es j a (member ∷ members) (fs ∷ table) D_positive long p lines news = (
  record {
    numbers = news.1;
    stand =
        subst (λ (ms : List ℤ). Stand (D * a) (turned_line es (suc j) fs) ms)
        (sym (numbers_turned n D a costs.low lows (form member) rs j counted (subst (λ (m : ℕ). AllLong m lows) (sym counted) long) at_j p.j_in))
        (line_stands top D a (suc j) fs es (numbers_of_form n D costs.low lows (form member)) rs D_positive p.positive
        (omega (arith, numbers_long n D costs.low lows (form member), p.j_in))
        (numbers_long n D costs.low lows (form member) ∙ sym counted) at_j lines.0.numbers p.line.numbers lines.0.stand p.line.stand);
  },
  lines_turned top costs rows D lows entering es j a members table D_positive long p lines.1 news.2,
)
  where
    n : ℕ
    n = length costs.low

    form : Member → Form
    form m = member_form (length costs.low) rows m

    rs : List ℤ
    rs = numbers_of_form (length costs.low) D costs.low lows (member_form (length costs.low) rows entering)

    counted : length (numbers_of_form (length costs.low) D costs.low lows (member_form (length costs.low) rows entering)) ≡ suc (length costs.low)
    counted = numbers_long (length costs.low) D costs.low lows (member_form (length costs.low) rows entering)

    at_j : number_at (numbers_of_form (length costs.low) D costs.low lows (member_form (length costs.low) rows entering)) (suc j) ≡ pos a
    at_j = numbers_at (length costs.low) D costs.low lows (member_form (length costs.low) rows entering) (suc j) (omega (arith, p.j_in)) ∙ p.at_j

unfoldable pub whole_turned : (top : ℕ) (costs : CostBox) (rows : List Form) (basis : List Member)
    (table : List (List Fraction)) (entering : Member) (es : List Fraction) (j a : ℕ)
    (w : IsTableauOf top costs rows basis table) →
    IsPivotOf top costs rows w.unboxed.common w.unboxed.lows entering es j a →
    AreTableLines top (suc (length costs.low)) (map (turned_line es (suc j)) table) →
    IsTableauOf top costs rows (slice_set basis j entering) (map (turned_line es (suc j)) table)
whole_turned top costs rows basis table entering es j a w p news =
    let n = length costs.low in
    let D = w.unboxed.common in
    let f = member_form n rows entering in
    let rs = numbers_of_form n D costs.low w.unboxed.lows f in
    let bs = forms_of costs rows basis in
    let counted : length rs ≡ suc n = numbers_long n D costs.low w.unboxed.lows f in
    let long : AllLong (length rs) w.unboxed.lows = subst (λ (m : ℕ). AllLong m w.unboxed.lows) (sym counted) w.unboxed.long in
    let at_j : number_at rs (suc j) ≡ pos a = numbers_at n D costs.low w.unboxed.lows f (suc j) (omega (arith, p.j_in)) ∙ p.at_j in
    let as_many : length bs ≡ n = length-map basis (member_form n rows) ∙ w.unboxed.count in
    let entry_is : IsEntry n D a costs.low w.unboxed.lows f rs j =
    record {
      counted = counted;
      long = long;
      at_j = at_j;
      numbers = λ i i_in. sym (numbers_at n D costs.low w.unboxed.lows f i (omega (arith, counted, i_in)));
      j_in = p.j_in;
    } in
    let forms_are : forms_of costs rows (slice_set basis j entering) ≡ slice_set bs j f = map-set (member_form n rows) basis j entering in
    let mixture_is : IsMixture f bs D rs =
    form_mixture D n costs.low (low_forms n 0 costs.low) w.unboxed.lows bs f w.unboxed.long w.unboxed.mixtures
    (resolved costs.low f (coefficients_long costs rows entering w.fit p.member)) in
    record {
      box = w.box;
      fit = w.fit;
      unboxed = record {
        high_count = w.unboxed.high_count;
        counts = w.unboxed.counts;
        count = length-set basis j entering ∙ w.unboxed.count;
        members = All-set (IsFormOf costs rows) basis j entering p.member w.unboxed.members;
        common = D * a;
        positive = grind (arith, w.unboxed.positive, p.positive);
        lows = turned_rows w.unboxed.lows rs (suc j) D;
        long = subst (λ (m : ℕ). AllLong m (turned_rows w.unboxed.lows rs (suc j) D)) counted (long_turned D (suc j) rs w.unboxed.lows long);
        mixtures = rw forms_are (mixtures_turned D a bs j f rs (low_forms n 0 costs.low) w.unboxed.lows
            (omega (arith, as_many, p.j_in)) (counted ∙ ap suc (sym as_many)) at_j mixture_is
            (subst (λ (m : ℕ). AllLong (suc m) w.unboxed.lows) (sym as_many) w.unboxed.long) w.unboxed.mixtures);
        own = rw forms_are (own_turned n D a costs.low w.unboxed.lows bs f rs j entry_is as_many w.unboxed.own w.unboxed.elsewhere);
        elsewhere = rw forms_are (elsewhere_turned n D a costs.low w.unboxed.lows bs f rs j entry_is as_many w.unboxed.elsewhere);
        lead = leads_turned n a D w.unboxed.lows rs (slice_index_or bs j no_form).coefficients j counted long at_j
            p.positive w.unboxed.positive p.j_in (w.unboxed.own j p.j_in)
            (λ k k_in other. w.unboxed.elsewhere j (suc k) p.j_in (omega (arith, k_in)) (λ h. other (suc_inj h))) p.least
            w.unboxed.lead;
        lines = lines_turned top costs rows D w.unboxed.lows entering es j a (members_of_box costs (length rows)) table
            w.unboxed.positive w.unboxed.long p w.unboxed.lines news;
      };
    }
