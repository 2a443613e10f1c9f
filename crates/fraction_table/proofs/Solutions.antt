-- What a whole table shows of the points of its box: its corner, where no constant is negative, and that there is none
-- where a form is a refuting one.
use Rattle.std.proofs.Common.{◌≡◌, ℕ, zero, suc, ◌+◌, ◌*◌, ◌<◌, ◌≤◌, refl, sym, ◌∙◌, ap, subst, List, [], ◌∷◌, map, length, arith}
use Rattle.std.specs.Prelude.{ℤ, pos, negsuc, ◌+ℤ◌, ◌-ℤ◌, ◌*ℤ◌, neg_ℤ, nat_abs, ◌<ℤ◌, ◌≤ℤ◌, Result, Ok, Err, IfOk, OnOk, slice_index, slice_index_or, All}
use Rattle.std.specs.Int.Signed.{clash_ℤ}
use Rattle.std.proofs.lemmas.Int.{ints}
use Rattle.std.proofs.lemmas.List.Elements.{All-map}
use Rattle.std.proofs.lemmas.List.{get_or_default}
use Rattle.cost_base.specs.Lists.{numbers_from}
use Rattle.cost_base.proofs.ListLemmas.{length_zip}
use Rattle.whole_numbers.specs.Fractions.{Fraction}
use Rattle.whole_numbers.proofs.Ring.{var, num, ◌⊕◌, ◌⊖◌, ◌⊗◌, neg, ring}
use Rattle.wide_fraction.specs.declared.steps.Wide.{Wide}
use Rattle.area_graph.specs.declared.Point.{Point}
use Rattle.whole_numbers.specs.Lists.{number_at}
use Rattle.design_problem.specs.declared.form.Form.{Form}
use Rattle.design_problem.specs.declared.boxes.CostBox.{CostBox}
use Rattle.design_problem.specs.declared.tree.Member.{Member}
use Rattle.design_problem.specs.declared.tree.Member.TheVariants.{Low, High, Row}
use Rattle.design_problem.specs.Forms.{no_form, value_at, AreMet}
use Rattle.design_problem.specs.Boxes.{IsPointOf}
use Rattle.design_problem.specs.Basis.{IsFormOf, entry, forms_of, low_member, member_form}
use Rattle.design_problem.specs.Steps.{IsRefutingForm}
use Rattle.fraction_table.specs.declared.table.Table.{Table}
use Rattle.fraction_table.specs.declared.stage.Solved.{Solved}
use Rattle.fraction_table.specs.declared.stage.Stage.TheVariants.{Ended}
use Rattle.fraction_table.specs.declared.stage.Solved.TheVariants.{Feasible, Refuted}
use Rattle.fraction_lines.specs.TableLines.{AreTableNumbers}
use Rattle.fraction_table.specs.Tableaus.{IsAmongForms, IsSolved}
use Rattle.fraction_table.specs.ValidTables.{IsTableLine, IsShown, IsTableau, Stand, high_member, low_forms, members_of_box, number_of_form}
use Rattle.fraction_table.specs.Pivots.{AreHigh, KeepsBoxAndRows, line_at, numbers_of_line, member_at}
use Rattle.fraction_table.proofs.theory.Corner.{NotAbove, refuting_negative}
use Rattle.fraction_table.proofs.theory.Tables.{IsCorner, corner_value}
use Rattle.fraction_table.proofs.theory.Blends.{form_mixture}
use Rattle.fraction_table.proofs.theory.Resolved.{resolved}
use Rattle.fraction_lines.proofs.TableLineLaws.{number_at as number_there}
use Rattle.fraction_table.proofs.theory.TurnedNumbers.{numbers_at, numbers_long}
use Rattle.fraction_table.proofs.theory.Units.{unit_dot}
use Rattle.fraction_table.proofs.IntegralTurns.{coefficients_long, stand_at}
use Rattle.fraction_table.proofs.Bases.{low_line_stands, lows_counted, members_begin}
use Rattle.fraction_table.proofs.Pivots.{high_place, line_long, lines_long, member_is, members_long, row_place, whole_line}

-- a number that a fraction stands for has its sign
pub negative_number : (z m : ℤ) (d D : ℕ) → 0 < d → 0 < D → (z *ℤ pos D) ≡ (m *ℤ pos d) → z <ℤ pos 0 → m <ℤ pos 0
negative_number (pos n) m d D d_positive D_positive is negative = absurd (omega (arith, ints))
negative_number (negsuc n) (negsuc a) d D d_positive D_positive is negative = omega (arith, ints)
negative_number (negsuc n) (pos a) d D d_positive D_positive is negative =
    let product : 0 < suc n * D = grind arith in
    absurd (omega (arith, ints))

pub low_number : (z m : ℤ) (d D : ℕ) → 0 < d → 0 < D → (z *ℤ pos D) ≡ (m *ℤ pos d) → z ≤ℤ pos 0 → m ≤ℤ pos 0
low_number z (pos zero) d D d_positive D_positive is low = omega (arith, ints)
low_number z (negsuc a) d D d_positive D_positive is low = omega (arith, ints)
low_number (pos zero) (pos (suc a)) d D d_positive D_positive is low =
    let product : 0 < suc a * d = grind arith in
    absurd (omega (arith, ints))
low_number (pos (suc n)) (pos (suc a)) d D d_positive D_positive is low = absurd (omega (arith, ints))
low_number (negsuc n) (pos (suc a)) d D d_positive D_positive is low =
    let product : 0 < suc a * d = grind arith in
    let other : 0 < suc n * D = grind arith in
    absurd (omega (arith, ints))

pub high_number : (z m : ℤ) (d D : ℕ) → 0 < d → 0 < D → (z *ℤ pos D) ≡ (m *ℤ pos d) → pos 0 ≤ℤ z → pos 0 ≤ℤ m
high_number z (pos a) d D d_positive D_positive is high = omega (arith, ints)
high_number (negsuc n) (negsuc a) d D d_positive D_positive is high = absurd (omega (arith, ints))
high_number (pos n) (negsuc a) d D d_positive D_positive is high =
    let product : 0 < suc a * d = grind arith in
    absurd (omega (arith, ints))

-- the values of x - low and of high - x at a point
pub low_value_at : (rows : List Form) (v bound : ℕ) (p : Point) → v < length p.values →
    value_at (member_form (length p.values) rows (Low v bound)) p
    ≡ (pos (slice_index p.values v) -ℤ pos (bound * p.scale))
low_value_at rows v bound p v_in =
    ap (λ z. (neg_ℤ (pos bound) *ℤ pos p.scale) +ℤ z) (unit_dot v (pos 1) p.values v_in)
    ∙ ring (pos bound ∷ pos p.scale ∷ pos (slice_index p.values v) ∷ []) (neg (var 0) ⊗ var 1 ⊕ num (pos 1) ⊗ var 2) (var 2 ⊖ (var 0 ⊗ var 1)) refl

high_value_at : (rows : List Form) (v bound : ℕ) (p : Point) → v < length p.values →
    value_at (member_form (length p.values) rows (High v bound)) p
    ≡ (pos (bound * p.scale) -ℤ pos (slice_index p.values v))
high_value_at rows v bound p v_in =
    ap (λ z. (pos bound *ℤ pos p.scale) +ℤ z) (unit_dot v (negsuc 0) p.values v_in)
    ∙ ring (pos bound ∷ pos p.scale ∷ pos (slice_index p.values v) ∷ []) (var 0 ⊗ var 1 ⊕ num (negsuc 0) ⊗ var 2) ((var 0 ⊗ var 1) ⊖ var 2) refl

less_high : (a b : ℕ) (z : ℤ) → z ≡ (pos b -ℤ pos a) → a ≤ b → pos 0 ≤ℤ z
less_high a b z is less = omega (arith, ints)

high_less : (a b : ℕ) (z : ℤ) → z ≡ (pos b -ℤ pos a) → pos 0 ≤ℤ z → a ≤ b
high_less a b z is high = omega (arith, ints)

-- each form of the box is at least 0 at a point of the box that meets the rows
pub member_met : (costs : CostBox) (rows : List Form) (p : Point) (member : Member) → IsPointOf costs p →
    AreMet rows p → IsFormOf costs rows member → pos 0 ≤ℤ value_at (member_form (length costs.low) rows member) p
member_met costs rows p (Low v bound) point meets is =
    let v_in : v < length p.values = omega (arith, point.low_count, is.0) in
    subst (λ (n : ℕ). pos 0 ≤ℤ value_at (member_form n rows (Low v bound)) p) (sym point.low_count)
    (less_high (bound * p.scale) (slice_index p.values v) (value_at (member_form (length p.values) rows (Low v bound)) p) (low_value_at rows v bound p v_in)
    (subst (λ (b : ℕ). b * p.scale ≤ slice_index p.values v) (sym is.1) (point.above v v_in)))
member_met costs rows p (High v bound) point meets is =
    let v_in : v < length p.values = omega (arith, point.low_count, is.0) in
    subst (λ (n : ℕ). pos 0 ≤ℤ value_at (member_form n rows (High v bound)) p) (sym point.low_count)
    (less_high (slice_index p.values v) (bound * p.scale) (value_at (member_form (length p.values) rows (High v bound)) p) (high_value_at rows v bound p v_in)
    (subst (λ (b : ℕ). slice_index p.values v ≤ b * p.scale) (sym is.1) (point.below v v_in)))
member_met costs rows p (Row row) point meets is = meets row no_form is

pub basis_met : (costs : CostBox) (rows : List Form) (p : Point) (basis : List Member) → IsPointOf costs p →
    AreMet rows p → All (IsFormOf costs rows) basis → AreMet (forms_of costs rows basis) p
basis_met costs rows p basis point meets are =
    All-map (λ f. pos 0 ≤ℤ value_at f p) (member_form (length costs.low) rows) basis
    (λ k d k_in. member_met costs rows p (slice_index_or basis k d) point meets (are k d k_in))

not_above : (top D : ℕ) (qs : List Fraction) (ms : List ℤ) → 0 < D → AreTableNumbers top qs → Stand D qs ms →
    ((k : ℕ) → k < length qs → (entry qs k).numerator ≤ℤ pos 0) → NotAbove ms
not_above top D [] [] D_positive numbers stand low = tt
not_above top D [] (m ∷ ms) D_positive numbers stand low = absurd stand
not_above top D (q ∷ qs) [] D_positive numbers stand low = absurd stand
not_above top D (q ∷ qs) (m ∷ ms) D_positive numbers stand low = (
  low_number q.numerator m q.denominator D numbers.0.lowest.positive D_positive stand.0 (low 0 (omega arith)),
  not_above top D qs ms D_positive numbers.1 stand.1 (λ k k_in. low (suc k) (omega arith)),
)

pub refuting_first : (top D : ℕ) (qs : List Fraction) (m : ℤ) (ms : List ℤ) → 0 < D → AreTableNumbers top qs →
    Stand D qs (m ∷ ms) → (entry qs 0).numerator <ℤ pos 0 → m <ℤ pos 0
refuting_first top D [] m ms D_positive numbers stand below = absurd stand
refuting_first top D (q ∷ qs) m ms D_positive numbers stand below =
    negative_number q.numerator m q.denominator D numbers.0.lowest.positive D_positive stand.0 below

refuting_rest : (top D count : ℕ) (qs : List Fraction) (m : ℤ) (ms : List ℤ) → 0 < D → AreTableNumbers top qs →
    Stand D qs (m ∷ ms) → length qs ≡ suc count → ((k : ℕ) → 1 ≤ k → k ≤ count → (entry qs k).numerator ≤ℤ pos 0) →
    NotAbove ms
refuting_rest top D count [] m ms D_positive numbers stand counted low = absurd stand
refuting_rest top D count (q ∷ qs) m ms D_positive numbers stand counted low =
    not_above top D qs ms D_positive numbers.1 stand.1 (λ k k_in. low (suc k) (omega arith) (omega (arith, counted, k_in)))

-- Where a form is a refuting one, no rational point of the box meets the rows.
pub refuting_refutes : (t : Table) (w : IsTableau t) (line : ℕ) → line < length t.lines.items →
    IsRefutingForm t.basis.items (line_at t line) → IsSolved t.costs t.rows.items (Refuted line)
refuting_refutes t w line line_in refuting p point meets =
    let n = length t.costs.low in
    let D = w.unboxed.common in
    let member = member_at t line in
    let is = member_is t w line line_in in
    let f = member_form n t.rows.items member in
    let bs = forms_of t.costs t.rows.items t.basis.items in
    let m = number_of_form D t.costs.low w.unboxed.lows f 0 in
    let ms = map (number_of_form D t.costs.low w.unboxed.lows f) (numbers_from 1 n) in
    let es = line_at t line in
    let l = whole_line t w line line_in in
    let mixture_is = form_mixture D n t.costs.low (low_forms n 0 t.costs.low) w.unboxed.lows bs f w.unboxed.long
    w.unboxed.mixtures (resolved t.costs.low f (coefficients_long t.costs t.rows.items member w.fit is)) in
    let met : pos 0 ≤ℤ value_at f p = member_met t.costs t.rows.items p member point meets is in
    let below : value_at f p <ℤ pos 0 =
    refuting_negative f bs D m ms p mixture_is (refuting_first t.top D es m ms w.unboxed.positive l.numbers l.stand refuting.below)
    (refuting_rest t.top D n es m ms w.unboxed.positive l.numbers l.stand (line_long t w line line_in)
    (λ k k_from k_in. refuting.none_above k k_from (omega (arith, w.unboxed.count, k_in))))
    (basis_met t.costs t.rows.items p t.basis.items point meets w.unboxed.members) point.scale in
    clash_ℤ below met

-- the corner of a table: its values over the common denominator
abbrev pub corner_of : ℕ → List ℕ → List (List ℤ) → List ℕ
corner_of D [] lows = []
corner_of D (l ∷ ls) [] = []
corner_of D (l ∷ ls) (ts ∷ lows) = (l * D + nat_abs (number_at ts 0)) ∷ corner_of D ls lows

corner_first : (l D : ℕ) (z : ℤ) → pos 0 ≤ℤ z → pos (l * D + nat_abs z) ≡ ((pos l *ℤ pos D) +ℤ z)
corner_first l D (pos n) high = refl
corner_first l D (negsuc n) high = absurd (omega (arith, ints))

corner_is : (D : ℕ) (low : List ℕ) (lows : List (List ℤ)) → length low ≡ length lows →
    ((v : ℕ) → v < length low → pos 0 ≤ℤ number_at (slice_index_or lows v []) 0) →
    IsCorner D low lows (corner_of D low lows)
corner_is D [] [] same high = tt
corner_is D [] (ts ∷ lows) same high = absurd (omega arith)
corner_is D (l ∷ ls) [] same high = absurd (omega arith)
corner_is D (l ∷ ls) (ts ∷ lows) same high =
    (corner_first l D (number_at ts 0) (high 0 (omega arith)), corner_is D ls lows (omega arith) (λ v v_in. high (suc v) (omega arith)))

pub corner_long : (D : ℕ) (low : List ℕ) (lows : List (List ℤ)) → length low ≡ length lows → length (corner_of D low lows) ≡ length low
corner_long D [] lows same = refl
corner_long D (l ∷ ls) [] same = absurd (omega arith)
corner_long D (l ∷ ls) (ts ∷ lows) same = let rest = corner_long D ls lows (omega arith) in omega arith

-- the corner of a table
abbrev pub corner_point : (t : Table) → IsTableau t → Point
corner_point t w = record { scale = w.unboxed.common; values = corner_of w.unboxed.common t.costs.low w.unboxed.lows }

pub counted_lows : (t : Table) (w : IsTableau t) → length t.costs.low ≡ length w.unboxed.lows
counted_lows t w = lows_counted t.top t.costs t.rows.items t.basis.items t.lines.items w

-- no number of x - low is negative at the corner
pub first_high : (t : Table) (w : IsTableau t) → AreHigh t → (v : ℕ) → v < length t.costs.low → pos 0 ≤ℤ number_at (slice_index_or w.unboxed.lows v []) 0
first_high t w high v v_in =
    let stands = low_line_stands t.top t.costs t.rows.items t.basis.items t.lines.items w v 0 v_in (omega arith) in
    high_number (entry (line_at t v) 0).numerator (number_at (slice_index_or w.unboxed.lows v []) 0)
    (entry (line_at t v) 0).denominator w.unboxed.common stands.0 w.unboxed.positive stands.1
    (high v [] (omega (
      arith,
      members_long t.costs (length t.rows.items),
      length_zip (IsTableLine t.top w.unboxed.common t.costs t.rows.items w.unboxed.lows)
          (members_of_box t.costs (length t.rows.items)) t.lines.items w.unboxed.lines,
      v_in,
    )))

pub at_corner : (t : Table) (w : IsTableau t) → AreHigh t →
    IsCorner w.unboxed.common t.costs.low w.unboxed.lows (corner_of w.unboxed.common t.costs.low w.unboxed.lows)
at_corner t w high = corner_is w.unboxed.common t.costs.low w.unboxed.lows (counted_lows t w) (first_high t w high)

-- each form is its constant at the corner
corner_high : (t : Table) (w : IsTableau t) → AreHigh t → (line : ℕ) → line < length t.lines.items →
    pos 0 ≤ℤ value_at (member_form (length t.costs.low) t.rows.items (member_at t line)) (corner_point t w)
corner_high t w high line line_in =
    let n = length t.costs.low in
    let f = member_form n t.rows.items (member_at t line) in
    let l = whole_line t w line line_in in
    let here = number_there t.top (line_at t line) 0 l.numbers (omega (arith, line_long t w line line_in)) in
    let stands = stand_at w.unboxed.common (line_at t line) (numbers_of_line t w line) 0 l.stand
    (omega (arith, numbers_long n w.unboxed.common t.costs.low w.unboxed.lows f)) in
    subst (λ z. pos 0 ≤ℤ z) (numbers_at n w.unboxed.common t.costs.low w.unboxed.lows f 0 (omega arith)
    ∙ sym (corner_value w.unboxed.common t.costs.low w.unboxed.lows
    (corner_of w.unboxed.common t.costs.low w.unboxed.lows) f (at_corner t w high)))
    (high_number (entry (line_at t line) 0).numerator (number_at (numbers_of_line t w line) 0)
    (entry (line_at t line) 0).denominator w.unboxed.common here.lowest.positive w.unboxed.positive stands
    (high line [] line_in))

-- the same by the member
member_high : (t : Table) (w : IsTableau t) → AreHigh t → (line : ℕ) (member : Member) →
    line < length (members_of_box t.costs (length t.rows.items)) → member_at t line ≡ member →
    pos 0 ≤ℤ value_at (member_form (length t.costs.low) t.rows.items member) (corner_point t w)
member_high t w high line member line_in is =
    subst (λ (m : Member). pos 0 ≤ℤ value_at (member_form (length t.costs.low) t.rows.items m) (corner_point t w)) is
    (corner_high t w high line (omega (
      arith,
      length_zip (IsTableLine t.top w.unboxed.common t.costs t.rows.items w.unboxed.lows)
          (members_of_box t.costs (length t.rows.items)) t.lines.items w.unboxed.lines,
      line_in,
    )))

-- Where no constant is negative, the corner is a point of the box that meets the rows.
pub corner_fits : (t : Table) (w : IsTableau t) → AreHigh t → IsPointOf t.costs (corner_point t w) × AreMet t.rows.items (corner_point t w)
corner_fits t w high =
    let n = length t.costs.low in
    let p = corner_point t w in
    let many = members_long t.costs (length t.rows.items) in
    let counted : length p.values ≡ n = corner_long w.unboxed.common t.costs.low w.unboxed.lows (counted_lows t w) in
    let above : (k : ℕ) → k < length p.values → slice_index t.costs.low k * p.scale ≤ slice_index p.values k =
    λ k k_in. (
    high_less (slice_index t.costs.low k * p.scale) (slice_index p.values k) (value_at (member_form n t.rows.items (low_member t.costs k)) p)
    (ap (λ (m : ℕ). value_at (member_form m t.rows.items (low_member t.costs k)) p) (sym counted)
    ∙ low_value_at t.rows.items k (slice_index t.costs.low k) p k_in)
    (member_high t w high k (low_member t.costs k) (omega (arith, many, counted, k_in))
    (members_begin t.costs (length t.rows.items) k (Low 0 0) (omega (arith, counted, k_in))))
    ) in
    let below : (k : ℕ) → k < length p.values → slice_index p.values k ≤ slice_index t.costs.high k * p.scale =
    λ k k_in. (
    high_less (slice_index p.values k) (slice_index t.costs.high k * p.scale) (value_at (member_form n t.rows.items (high_member t.costs k)) p)
    (ap (λ (m : ℕ). value_at (member_form m t.rows.items (high_member t.costs k)) p) (sym counted)
    ∙ high_value_at t.rows.items k (slice_index t.costs.high k) p k_in)
    (member_high t w high (n + k) (high_member t.costs k) (omega (arith, many, counted, k_in))
    (high_place t.costs (length t.rows.items) k (Low 0 0) (omega (arith, counted, k_in))))
    ) in (
      record {
        scale = w.unboxed.positive;
        low_count = sym counted;
        high_count = w.box.high_count ∙ sym counted;
        above = above;
        below = below;
      },
      λ k d k_in.
          subst (λ (f : Form). pos 0 ≤ℤ value_at f p) (get_or_default t.rows.items k no_form d k_in)
          (member_high t w high (n + n + k) (Row k) (omega (arith, many, k_in)) (row_place t.costs (length t.rows.items) k (Low 0 0) k_in)),
    )

pub corner_solves : (t : Table) → IsTableau t → AreHigh t → IsSolved t.costs t.rows.items Feasible
corner_solves t w high = (corner_point t w, corner_fits t w high)

-- what the lines show is so
pub shown_solves : (t : Table) (w : IsTableau t) (solved : Solved) →
    IsShown t.basis.items t.lines.items (Ended solved) → IsSolved t.costs t.rows.items solved
shown_solves t w Feasible high = corner_solves t w high
shown_solves t w (Refuted line) refuting = refuting_refutes t w line refuting.0 refuting.1

-- what the work on a table found is so of the forms that it began with
pub settled_solves : (old new : Table) (found : Result Solved Wide) → KeepsBoxAndRows old new →
    OnOk found (IsTableau new) → IfOk found (λ solved. IsShown new.basis.items new.lines.items (Ended solved)) →
    IfOk found (λ solved. IsSolved old.costs old.rows.items solved)
settled_solves old new (Ok solved) keeps w shown =
    subst (λ (rows : List Form). IsSolved old.costs rows solved) keeps.rows
    (subst (λ (costs : CostBox). IsSolved costs new.rows.items solved) keeps.costs (shown_solves new w solved shown))
settled_solves old new (Err wide) keeps w shown = tt

-- and the form that it found is one of those
pub settled_among : (old new : Table) (found : Result Solved Wide) → KeepsBoxAndRows old new →
    OnOk found (IsTableau new) → IfOk found (λ solved. IsShown new.basis.items new.lines.items (Ended solved)) →
    IfOk found (IsAmongForms old.costs old.rows.items)
settled_among old new (Ok Feasible) keeps w shown = tt
settled_among old new (Ok (Refuted form)) keeps w shown =
    let many = lines_long new w in
    let below : form < length new.costs.low + length new.costs.low + length new.rows.items = omega (arith, shown.0, many) in
    subst (λ (rows : List Form). form < length old.costs.low + length old.costs.low + length rows) keeps.rows
    (subst (λ (costs : CostBox). form < length costs.low + length costs.low + length new.rows.items) keeps.costs below)
settled_among old new (Err wide) keeps w shown = tt
