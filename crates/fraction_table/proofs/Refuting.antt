-- The whole multipliers of a refuting form refute the box.
use Rattle.std.proofs.Common.{◌≡◌, ℕ, zero, suc, ◌^◌, ◌<◌, ◌≤◌, refl, sym, ◌∙◌, ap, subst, List, [], ◌∷◌, map, take, length, drop, arith}
use Rattle.std.specs.Prelude.{ℤ, pos, negsuc, ◌+ℤ◌, ◌*ℤ◌, ◌<ℤ◌, ◌≤ℤ◌, Result, Ok, Err, IfErr, IfOk, slice_index_or, sum_by, All}
use Rattle.std.specs.List.{AllByRecursion}
use Rattle.std.specs.List.Sorted.{IsPermutation}
use Rattle.std.proofs.lemmas.Int.{ints}
use Rattle.std.proofs.lemmas.List.{get_or-map, length-append, length-map}
use Rattle.std.proofs.lemmas.List.Sorted.{All-permutation, length_permutation}
use Prim.Native.Nat.{◌∣◌}
use Rattle.cost_base.specs.Lists.{numbers_from}
use Rattle.cost_base.proofs.ListLemmas.{each_from_places, each_append, each_right, each_weaker, all_from_each}
use Rattle.whole_numbers.specs.Fractions.{Fraction, whole}
use Rattle.whole_numbers.proofs.Ring.{var, num, ◌⊕◌, ◌⊗◌, ring}
use Rattle.wide_fraction.specs.declared.steps.Wide.{Wide}
use Rattle.area_graph.specs.Costs.{at_costs}
use Rattle.design_problem.specs.declared.form.Form.{Form}
use Rattle.design_problem.specs.declared.boxes.CostBox.{CostBox}
use Rattle.design_problem.specs.declared.tree.Member.{Member}
use Rattle.design_problem.specs.declared.tree.Member.TheVariants.{Low, High, Row}
use Rattle.design_problem.specs.Forms.{no_form, value_for_costs, weighted}
use Rattle.design_problem.specs.Boxes.{IsInBox, IsPointOf, Refutes}
use Rattle.design_problem.specs.Basis.{HasEntries, IsFormOf, entry, forms_of, member_form}
use Rattle.design_problem.specs.Steps.{IsTableStep, IsRefutingForm, IsStepTooWide, made_whole, refuting_multipliers, unless_zero}
use Rattle.design_problem.specs.Steps.IsTableStep.{multiple as multiple_step, multiplier_product, multiplier_sum, multiplier_scale}
use Rattle.design_problem.proofs.GreatestLaws.{greatest_reached}
use Rattle.design_problem.proofs.AtCosts.{value_at_costs}
use Rattle.fraction_table.specs.declared.table.Table.{Table}
use Rattle.fraction_table.specs.declared.stage.SimplexStop.{SimplexStop}
use Rattle.fraction_table.specs.declared.stage.SimplexStop.TheVariants.{TooWide, OutOfMemory}
use Rattle.fraction_lines.specs.Entries.{IsPassing}
use Rattle.fraction_table.specs.Multipliers.{AreParts, Different, IsMultiplierStep, IsMultiplier, IsTallyStep, IsWideAtBasis, IsWideMultiplier, columns_numbered, common_of, fractions, fractions_of, numbered, whole_multiplier, whole_multipliers}
use Rattle.fraction_table.specs.Multipliers.IsMultiplierStep.{multiple, product, tally}
use Rattle.fraction_table.specs.Multipliers.IsTallyStep.{sum, scale}
use Rattle.fraction_lines.specs.TableLines.{AreTableNumbers}
use Rattle.fraction_table.specs.Tableaus.{wide_at}
use Rattle.fraction_table.specs.ValidTables.{IsTableau, Stand, low_forms, number_of_form}
use Rattle.fraction_table.specs.Pivots.{line_at, member_at}
use Rattle.fraction_table.proofs.theory.Blends.{form_mixture}
use Rattle.fraction_table.proofs.Pivots.{form_line, line_long, member_is, whole_line, wide_step}
use Rattle.fraction_table.proofs.theory.Points.{equation_at, mixed_at}
use Rattle.fraction_table.proofs.theory.Resolved.{resolved}
use Rattle.fraction_lines.proofs.TableLineLaws.{number_at as number_there, one_within}
use Rattle.fraction_table.proofs.Solutions.{member_met, refuting_first}
use Rattle.fraction_table.proofs.IntegralTurns.{coefficients_long}
use Rattle.fraction_table.proofs.MultiplierSums.{AllHigh, IsHigh, member_sum, parts_negative}
use Rattle.fraction_table.proofs.MultiplierColumns.{AreLow, one_number, are_made, columns_are, common_divides, common_positive, fractions_are, own_is, own_made}
use Rattle.fraction_table.proofs.WholeParts.{each_whole}
use Rattle.fraction_table.proofs.MultiplierRows.{AreApart, IsApart, parts_different, value_moved}

mixed_members : (n : ℕ) (rows : List Form) (w : List ℕ) (ms : List ℤ) (members : List Member) →
    mixed_at ms (map (member_form n rows) members) (at_costs w) ≡ member_sum n rows w ms members
mixed_members n rows w [] members = refl
mixed_members n rows w (m ∷ ms) [] = refl
mixed_members n rows w (m ∷ ms) (member ∷ members) =
    cc (value_at_costs (member_form n rows member) w, mixed_members n rows w ms members)

-- a point of whole costs
box_point : (costs : CostBox) (w : List ℕ) → IsInBox costs w → IsPointOf costs (at_costs w)
box_point costs w inside =
    record {
      scale = omega arith;
      low_count = inside.low_count;
      high_count = inside.high_count;
      above = λ k k_in. omega (arith, inside.above k k_in);
      below = λ k k_in. omega (arith, inside.below k k_in);
    }

bound_high : (costs : CostBox) (rows : List Form) (w : List ℕ) (member : Member) → IsInBox costs w →
    IsFormOf costs rows member → IsHigh (length costs.low) w member
bound_high costs rows w (Low v bound) inside is =
    subst (λ (z : ℤ). pos 0 ≤ℤ z) (value_at_costs (member_form (length costs.low) [] (Low v bound)) w)
    (member_met costs [] (at_costs w) (Low v bound) (box_point costs w inside) (λ k d k_in. absurd (omega arith)) is)
bound_high costs rows w (High v bound) inside is =
    subst (λ (z : ℤ). pos 0 ≤ℤ z) (value_at_costs (member_form (length costs.low) [] (High v bound)) w)
    (member_met costs [] (at_costs w) (High v bound) (box_point costs w inside) (λ k d k_in. absurd (omega arith)) is)
bound_high costs rows w (Row row) inside is = tt

all_high : (costs : CostBox) (rows : List Form) (w : List ℕ) (members : List Member) → IsInBox costs w →
    All (IsFormOf costs rows) members → AllHigh (length costs.low) w members
all_high costs rows w [] inside are = tt
all_high costs rows w (member ∷ members) inside are =
    (bound_high costs rows w member inside (are 0 member (omega arith)), all_high costs rows w members inside (λ k d k_in. are (suc k) d (omega arith)))

-- the entries behind the constant
rest_low : (count : ℕ) (es : List Fraction) → length es ≡ suc count → ((k : ℕ) → 1 ≤ k → k ≤ count → (entry es k).numerator ≤ℤ pos 0) → AreLow (drop 1 es)
rest_low count [] counted low = tt
rest_low count (e ∷ es) counted low =
    each_from_places (λ (q : Fraction). q.numerator ≤ℤ pos 0) es (whole (pos 0))
    (λ k k_in. low (suc k) (omega arith) (omega (arith, counted, k_in)))

rest_stand : (D : ℕ) (es : List Fraction) (m : ℤ) (ms : List ℤ) → Stand D es (m ∷ ms) → Stand D (drop 1 es) ms
rest_stand D [] m ms stand = absurd stand
rest_stand D (e ∷ es) m ms stand = stand.1

rest_numbers : (top : ℕ) (es : List Fraction) → AreTableNumbers top es → AreTableNumbers top (drop 1 es)
rest_numbers top [] numbers = tt
rest_numbers top (e ∷ es) numbers = numbers.1

rest_long : (es : List Fraction) (n : ℕ) → length es ≡ suc n → length (drop 1 es) ≡ n
rest_long [] n counted = absurd (omega arith)
rest_long (e ∷ es) n counted = omega arith

-- The line of a refuting form, by what the table shows of it.
pub record IsRefutingLine (t : Table) (line : ℕ) : Type 0 where
  pub tableau : IsTableau t
  pub line_in : line < length t.lines.items
  pub refuting : IsRefutingForm t.basis.items (line_at t line)

abbrev pub parts_at : Table → ℕ → List (ℕ × Fraction)
parts_at t line = fractions_of t.basis.items (member_at t line) (line_at t line)

abbrev constant_at : (t : Table) (line : ℕ) → IsTableau t → ℤ
constant_at t line w = number_of_form w.unboxed.common t.costs.low w.unboxed.lows (member_form (length t.costs.low) t.rows.items (member_at t line)) 0

constant_low : (t : Table) (line : ℕ) (s : IsRefutingLine t line) → constant_at t line s.tableau <ℤ pos 0
constant_low t line s =
    let w = s.tableau in
    let f = member_form (length t.costs.low) t.rows.items (member_at t line) in
    let l = whole_line t w line s.line_in in
    refuting_first t.top w.unboxed.common (line_at t line) (constant_at t line w)
    (map (number_of_form w.unboxed.common t.costs.low w.unboxed.lows f) (numbers_from 1 (length t.costs.low)))
    w.unboxed.positive l.numbers l.stand s.refuting.below

-- each part is of a row, and positive
pub parts_are : (t : Table) (line : ℕ) → IsRefutingLine t line → AllByRecursion (IsMultiplier t.top (length t.rows.items)) (parts_at t line)
parts_are t line s =
    let w = s.tableau in
    let es = line_at t line in
    let r = member_at t line in
    let l = whole_line t w line s.line_in in
    let long = line_long t w line s.line_in in
    let first = number_there t.top es 0 l.numbers (omega (arith, long)) in
    each_append (IsMultiplier t.top (length t.rows.items)) (numbered r (whole (pos 1) ∷ [])) (columns_numbered t.basis.items (drop 1 es))
    (own_is t.top t.costs t.rows.items r (member_is t w line s.line_in) (one_number t.top (one_within t.top (entry es 0) first)))
    (columns_are t.top t.costs t.rows.items t.basis.items (drop 1 es) w.unboxed.members (rest_numbers t.top es l.numbers)
    (rest_low (length t.costs.low) es long (λ k k_from k_in. s.refuting.none_above k k_from (omega (arith, w.unboxed.count, k_in)))))

-- the members of a basis are different
both_numbers : (D : ℕ) (z : ℤ) → 0 < D → z ≡ pos D → z ≡ pos 0 → ⊥
both_numbers D z positive first second = omega (arith, ints)

basis_apart : (t : Table) → IsTableau t → AreApart t.basis.items
basis_apart t w j k before k_in same =
    let n = length t.costs.low in
    let D = w.unboxed.common in
    let k_there : k < n = omega (arith, w.unboxed.count, k_in) in
    let forms_same : slice_index_or (forms_of t.costs t.rows.items t.basis.items) k no_form
    ≡ slice_index_or (forms_of t.costs t.rows.items t.basis.items) j no_form =
    get_or-map (member_form n t.rows.items) t.basis.items k (Low 0 0) no_form k_in
    ∙ ap (member_form n t.rows.items) same
    ∙ sym (get_or-map (member_form n t.rows.items) t.basis.items j (Low 0 0) no_form
    (omega (arith, before, k_in))) in
    both_numbers D (number_of_form D t.costs.low w.unboxed.lows
    (slice_index_or (forms_of t.costs t.rows.items t.basis.items) k no_form) (suc k)) w.unboxed.positive
    (w.unboxed.own k k_there)
    (ap (λ (f : Form). number_of_form D t.costs.low w.unboxed.lows f (suc k)) forms_same
    ∙ w.unboxed.elsewhere j (suc k) (omega (arith, before, k_there)) (omega (arith, k_there))
    (λ e. omega (arith, before, e)))

line_apart : (t : Table) (line : ℕ) → IsRefutingLine t line → IsApart (member_at t line) t.basis.items
line_apart t line s k k_in same =
    let n = length t.costs.low in
    let w = s.tableau in
    let D = w.unboxed.common in
    let k_there : k < n = omega (arith, w.unboxed.count, k_in) in
    let form_is : slice_index_or (forms_of t.costs t.rows.items t.basis.items) k no_form ≡ member_form n t.rows.items (member_at t line) =
    get_or-map (member_form n t.rows.items) t.basis.items k (Low 0 0) no_form k_in ∙ ap (member_form n t.rows.items) same in
    not_both (constant_at t line w) (constant_low t line s)
    (sym (ap (λ (f : Form). number_of_form D t.costs.low w.unboxed.lows f 0) form_is) ∙ w.unboxed.elsewhere k 0 k_there (omega arith) (λ e. omega (arith, e)))
  where
    not_both : (z : ℤ) → z <ℤ pos 0 → z ≡ pos 0 → ⊥
    not_both z low none = omega (arith, ints)

pub parts_apart : (t : Table) (line : ℕ) → IsRefutingLine t line → Different (parts_at t line)
parts_apart t line s = parts_different (member_at t line) (whole (pos 1)) t.basis.items (drop 1 (line_at t line)) (line_apart t line s)
    (basis_apart t s.tableau)

-- at most one for each column, and one
numbered_long : (member : Member) (qs : List Fraction) → length (numbered member qs) ≤ length qs
numbered_long (Low v bound) qs = omega arith
numbered_long (High v bound) qs = omega arith
numbered_long (Row row) qs = omega (arith, length-map {B = ℕ × Fraction} qs (λ q. (row, q)))

unless_long : (z : ℤ) (q : Fraction) → length (unless_zero z q) ≤ 1
unless_long (pos zero) q = omega arith
unless_long (pos (suc n)) q = omega arith
unless_long (negsuc n) q = omega arith

columns_long : (members : List Member) (qs : List Fraction) → length (columns_numbered members qs) ≤ length members
columns_long [] qs = omega arith
columns_long (member ∷ members) [] = omega arith
columns_long (member ∷ members) (q ∷ qs) =
    omega (
      arith,
      length-append (numbered member (unless_zero q.numerator q)) (columns_numbered members qs),
      numbered_long member (unless_zero q.numerator q),
      unless_long q.numerator q,
      columns_long members qs,
    )

pub parts_long : (t : Table) (line : ℕ) → IsRefutingLine t line → length (parts_at t line) ≤ suc (length t.costs.low)
parts_long t line s =
    let own = numbered (member_at t line) (whole (pos 1) ∷ []) in
    let rest = columns_numbered t.basis.items (drop 1 (line_at t line)) in
    omega (
      arith,
      length-append own rest,
      numbered_long (member_at t line) (whole (pos 1) ∷ []),
      columns_long t.basis.items (drop 1 (line_at t line)),
      s.tableau.unboxed.count,
    )

-- their sum is negative at each point of the box
equation_is : (t : Table) (line : ℕ) (s : IsRefutingLine t line) (w : List ℕ) →
    (pos s.tableau.unboxed.common *ℤ value_for_costs (member_form (length t.costs.low) t.rows.items (member_at t line)) w)
    ≡ (constant_at t line s.tableau +ℤ member_sum (length t.costs.low) t.rows.items w
    (map (number_of_form s.tableau.unboxed.common t.costs.low s.tableau.unboxed.lows
    (member_form (length t.costs.low) t.rows.items (member_at t line))) (numbers_from 1 (length t.costs.low)))
    t.basis.items)
equation_is t line s w =
    let n = length t.costs.low in
    let whole = s.tableau in
    let D = whole.unboxed.common in
    let member = member_at t line in
    let f = member_form n t.rows.items member in
    let bs = forms_of t.costs t.rows.items t.basis.items in
    let m = constant_at t line whole in
    let ms = map (number_of_form D t.costs.low whole.unboxed.lows f) (numbers_from 1 n) in
    let mixture_is = form_mixture D n t.costs.low (low_forms n 0 t.costs.low) whole.unboxed.lows bs f whole.unboxed.long
    whole.unboxed.mixtures (resolved t.costs.low f
    (coefficients_long t.costs t.rows.items member whole.fit (member_is t whole line s.line_in))) in
    ap (λ (z : ℤ). pos D *ℤ z) (sym (value_at_costs f w))
    ∙ equation_at f bs D (m ∷ ms) (at_costs w) mixture_is
    ∙ ap (λ (z : ℤ). (m *ℤ pos 1) +ℤ z) (mixed_members n t.rows.items w ms t.basis.items)
    ∙ ring (m ∷ member_sum n t.rows.items w ms t.basis.items ∷ []) (var 0 ⊗ num (pos 1) ⊕ var 1) (var 0 ⊕ var 1) refl

pub sum_negative : (t : Table) (line : ℕ) → IsRefutingLine t line → (w : List ℕ) → IsInBox t.costs w →
    value_for_costs (weighted t.rows.items (whole_multipliers (parts_at t line))) w <ℤ pos 0
sum_negative t line s w inside =
    let n = length t.costs.low in
    let whole_is = s.tableau in
    let D = whole_is.unboxed.common in
    let r = member_at t line in
    let es = line_at t line in
    let f = member_form n t.rows.items r in
    let L = common_of (parts_at t line) in
    let l = whole_line t whole_is line s.line_in in
    let long = line_long t whole_is line s.line_in in
    let m = constant_at t line whole_is in
    let ms = map (number_of_form D t.costs.low whole_is.unboxed.lows f) (numbers_from 1 n) in
    let L_positive = common_positive t.top (length t.rows.items) (parts_at t line) (parts_are t line s) in
    let divides = each_right (λ part. part.1.denominator ∣ L) (numbered r (whole (pos 1) ∷ []))
    (columns_numbered t.basis.items (drop 1 es)) (common_divides (parts_at t line)) in
    let made = are_made t.top D L t.basis.items (drop 1 es) ms (whole_is.unboxed.count ∙ sym (rest_long es n long))
    whole_is.unboxed.positive L_positive (rest_numbers t.top es l.numbers)
    (rest_low n es long (λ k k_from k_in. s.refuting.none_above k k_from (omega (arith, whole_is.unboxed.count, k_in)))) (rest_stand D es m ms l.stand) divides
    in
    parts_negative D L n t.rows.items w r t.basis.items (drop 1 es) m ms L_positive (constant_low t line s)
    (bound_high t.costs t.rows.items w r inside (member_is t whole_is line s.line_in))
    (all_high t.costs t.rows.items w t.basis.items inside whole_is.unboxed.members)
    made (own_made L r L_positive) (equation_is t line s w)

pub whole_are : (t : Table) (line : ℕ) → IsRefutingLine t line →
    AllByRecursion (λ part. (part.0 < length t.rows.items) × (0 < part.1)) (whole_multipliers (parts_at t line))
whole_are t line s = each_whole t.top (length t.rows.items) (parts_at t line) (parts_are t line s)

-- so there is a part
none_negative : (rows : List Form) (w : List ℕ) (parts : List (ℕ × Fraction)) → parts ≡ [] →
    value_for_costs (weighted rows (whole_multipliers parts)) w <ℤ pos 0 → ⊥
none_negative rows w [] none negative = omega (arith, ints)
none_negative rows w (part ∷ parts) none negative = absurd (omega (arith, ap length none))

pub are_parts : (t : Table) (line : ℕ) → IsRefutingLine t line → AreParts t.top (parts_at t line)
are_parts t line s =
    let there = greatest_reached (length t.costs.low) no_form t.costs s.tableau.box in
    record {
      count = length t.rows.items;
      each = parts_are t line s;
      different = parts_apart t line s;
      some = λ none. none_negative t.rows.items there.0 (parts_at t line) none (sum_negative t line s there.0 there.1);
    }

-- In whatever order, the parts refute the box where their sum is below 2^100.
pub parts_refute : (t : Table) (line : ℕ) (parts : List (ℕ × ℕ)) → IsRefutingLine t line →
    IsPermutation (whole_multipliers (parts_at t line)) parts → sum_by (λ part. part.1) parts < 2 ^ 100 →
    Refutes t.rows.items parts t.costs
parts_refute t line parts s moved small =
    let made = whole_multipliers (parts_at t line) in
    let are = whole_are t line s in
    let there = greatest_reached (length t.costs.low) (weighted t.rows.items parts) t.costs s.tableau.box in
    record {
      rows = All-permutation (λ (part : ℕ × ℕ). part.0 < length t.rows.items) made parts moved
          (all_from_each (λ (part : ℕ × ℕ). part.0 < length t.rows.items) made
          (each_weaker (λ (part : ℕ × ℕ). (part.0 < length t.rows.items) × (0 < part.1))
          (λ (part : ℕ × ℕ). part.0 < length t.rows.items) made (λ part is. is.0) are));
      positive = All-permutation (λ (part : ℕ × ℕ). 0 < part.1) made parts moved
          (all_from_each (λ (part : ℕ × ℕ). 0 < part.1) made
          (each_weaker (λ (part : ℕ × ℕ). (part.0 < length t.rows.items) × (0 < part.1))
          (λ (part : ℕ × ℕ). 0 < part.1) made (λ part is. is.1) are));
      sum = small;
      negative = subst (λ (z : ℤ). z <ℤ pos 0) (sym (value_moved t.rows.items there.0 made parts moved) ∙ there.2) (sum_negative t line s there.0 there.1);
    }

-- A step that makes them whole is one of the basis.
tally_step : (costs : CostBox) (rows : List Form) (basis : List Member) (lows : List (List Fraction)) (r : Member)
    (es : List Fraction) (wide : Wide) → IsFormOf costs rows r → HasEntries costs rows basis r es → IsRefutingForm basis es →
    IsTallyStep (made_whole (refuting_multipliers basis r es)) wide → IsTableStep costs rows basis lows wide.step wide.left wide.right
tally_step costs rows basis lows r es wide is entries refuting (sum k next there wide_is) =
    subst (λ (x : Wide). IsTableStep costs rows basis lows x.step x.left x.right) (sym wide_is) (multiplier_sum r es k next is entries refuting there)
tally_step costs rows basis lows r es wide is entries refuting (scale wide_is) =
    subst (λ (x : Wide). IsTableStep costs rows basis lows x.step x.left x.right) (sym wide_is) (multiplier_scale r es is entries refuting)

multiplier_step : (costs : CostBox) (rows : List Form) (basis : List Member) (lows : List (List Fraction)) (r : Member)
    (es : List Fraction) (wide : Wide) → IsFormOf costs rows r → HasEntries costs rows basis r es → IsRefutingForm basis es →
    IsMultiplierStep (refuting_multipliers basis r es) wide → IsTableStep costs rows basis lows wide.step wide.left wide.right
multiplier_step costs rows basis lows r es wide is entries refuting (multiple k d there wide_is) =
    subst (λ (x : Wide). IsTableStep costs rows basis lows x.step x.left x.right) (sym wide_is) (multiple_step r es k d is entries refuting there)
multiplier_step costs rows basis lows r es wide is entries refuting (product k q there wide_is) =
    subst (λ (x : Wide). IsTableStep costs rows basis lows x.step x.left x.right) (sym wide_is) (multiplier_product r es k q is entries refuting there)
multiplier_step costs rows basis lows r es wide is entries refuting (tally made) = tally_step costs rows basis lows r es wide is entries refuting made

pub multipliers_wide : (t : Table) (line : ℕ) (wide : Wide) → IsRefutingLine t line →
    IsMultiplierStep (fractions (parts_at t line)) wide → IsPassing t.top wide →
    IsStepTooWide t.top t.costs t.rows.items (wide_at wide t.basis.items)
multipliers_wide t line wide s made passes =
    let l = form_line t s.tableau line s.line_in in
    wide_step t s.tableau wide
    (multiplier_step t.costs t.rows.items t.basis.items (take (length t.costs.low) t.lines.items) (member_at t line)
    (line_at t line) wide l.form l.entries s.refuting
    (subst (λ (qs : List Fraction). IsMultiplierStep qs wide) (fractions_are t.basis.items (member_at t line) (line_at t line)) made))
    passes

-- the same, where the steps stand beside want of memory
pub multipliers_told : (t : Table) (line : ℕ) (stop : SimplexStop) → IsRefutingLine t line →
    IsWideMultiplier t.top (fractions (parts_at t line)) stop → IsWideAtBasis t stop
multipliers_told t line (TooWide wide) s told = multipliers_wide t line wide s told.0 told.1
multipliers_told t line OutOfMemory s told = tt

-- at most one for each variable, and one
pub parts_few : (t : Table) (line : ℕ) (parts : List (ℕ × ℕ)) → IsRefutingLine t line →
    IsPermutation (whole_multipliers (parts_at t line)) parts → length parts ≤ suc (length t.costs.low)
parts_few t line parts s moved =
    let made = whole_multipliers (parts_at t line) in
    omega (arith, length_permutation made parts moved, length-map (parts_at t line) (whole_multiplier (common_of (parts_at t line))), parts_long t line s)

-- what the parts of a refuting form answer, made whole
pub made_refute : (t : Table) (line : ℕ) (parts : List (ℕ × Fraction)) (r : Result (List (ℕ × ℕ)) SimplexStop) →
    IsRefutingLine t line → parts ≡ parts_at t line → IfOk r (IsPermutation (whole_multipliers parts)) →
    IfOk r (λ made. sum_by (λ part. part.1) made < 2 ^ 100) → IfOk r (λ made. Refutes t.rows.items made t.costs)
made_refute t line parts (Err stop) s parts_are moved small = tt
made_refute t line parts (Ok made) s parts_are moved small =
    parts_refute t line made s (subst (λ (ps : List (ℕ × Fraction)). IsPermutation (whole_multipliers ps) made) parts_are moved) small

pub made_few : (t : Table) (line : ℕ) (parts : List (ℕ × Fraction)) (r : Result (List (ℕ × ℕ)) SimplexStop) →
    IsRefutingLine t line → parts ≡ parts_at t line → IfOk r (IsPermutation (whole_multipliers parts)) →
    IfOk r (λ made. length made ≤ suc (length t.costs.low))
made_few t line parts (Err stop) s parts_are moved = tt
made_few t line parts (Ok made) s parts_are moved =
    parts_few t line made s (subst (λ (ps : List (ℕ × Fraction)). IsPermutation (whole_multipliers ps) made) parts_are moved)

pub made_told : (t : Table) (line : ℕ) (parts : List (ℕ × Fraction)) (r : Result (List (ℕ × ℕ)) SimplexStop) →
    IsRefutingLine t line → parts ≡ parts_at t line → IfErr r (IsWideMultiplier t.top (fractions parts)) →
    IfErr r (IsWideAtBasis t)
made_told t line parts (Ok made) s parts_are told = tt
made_told t line parts (Err stop) s parts_are told =
    multipliers_told t line stop s (subst (λ (ps : List (ℕ × Fraction)). IsWideMultiplier t.top (fractions ps) stop) parts_are told)
