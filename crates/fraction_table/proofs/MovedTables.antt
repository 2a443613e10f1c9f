-- A table after one bound moved keeps what a table keeps.
use Rattle.std.proofs.Common.{◌≡◌, ◌≢◌, ℕ, zero, suc, ◌<◌, ◌≤◌, refl, sym, ◌∙◌, ap, subst, List, [], ◌∷◌, map, length, arith, inl, inr, get_or-set_same, get_or-set_other}
use Rattle.std.specs.Prelude.{ℤ, pos, ◌+ℤ◌, ◌-ℤ◌, ◌*ℤ◌, Option, None, Some, slice_index, slice_index_or, slice_set}
use Rattle.std.proofs.lemmas.Bool.{cases_eq}
use Rattle.std.proofs.lemmas.List.{length-set}
use Rattle.cost_base.specs.Lists.{numbers_from}
use Rattle.cost_base.proofs.ListLemmas.{map-numbers_from-agree}
use Rattle.whole_numbers.specs.Fractions.{Fraction, StandsFor, minus, plus, times, whole}
use Rattle.whole_numbers.proofs.Ring.{var, num, ◌⊕◌, ◌⊖◌, ◌⊗◌, ring}
use Rattle.whole_numbers.proofs.FractionLaws.{times_stands}
use Rattle.whole_numbers.proofs.Multiples.{minus_stands_over, plus_stands_over}
use Rattle.design_problem.specs.declared.form.Form.{Form}
use Rattle.design_problem.specs.declared.boxes.CostBox.{CostBox}
use Rattle.design_problem.specs.declared.tree.Member.{Member}
use Rattle.design_problem.specs.declared.tree.Member.TheVariants.{Low, High, Row}
use Rattle.design_problem.specs.Boxes.{with_high, with_low}
use Rattle.design_problem.specs.Forms.{no_form}
use Rattle.design_problem.specs.Basis.{IsFormOf, entry, member_form}
use Rattle.fraction_lines.specs.TableLines.{AreTableNumbers, nothing}
use Rattle.fraction_table.specs.Tableaus.{moved_member}
use Rattle.fraction_table.specs.ValidTables.{Stand, number_of_form, numbers_of_form}
use Rattle.fraction_table.specs.Moves.{fallen, raised_line}
use Rattle.fraction_table.proofs.theory.MovedNumbers.{IsNumbered, fallen_constant, high_falls, low_falls, lowered_number, lowered_numbered, lowered_rows, raised, raised_constant, raised_numbered, raised_other}
use Rattle.fraction_lines.proofs.ZeroFractions.{times_lowest}
use Rattle.fraction_lines.proofs.TableLineLaws.{number_at as number_there}
use Rattle.fraction_table.proofs.theory.TurnedNumbers.{numbers_at, numbers_long}
use Rattle.fraction_table.proofs.IntegralTurns.{stand_at}

-- a list of which one thing changes, or none
pub map_none : {X : Type 0} (f : X → X) (xs : List X) (d : X) → ((k : ℕ) → k < length xs → f (slice_index_or xs k d) ≡ slice_index_or xs k d) → map f xs ≡ xs
map_none f [] d same = refl
map_none f (x ∷ xs) d same =
    ap (λ z. z ∷ map f xs) (same 0 (omega arith)) ∙ ap (λ zs. x ∷ zs) (map_none f xs d (λ k k_in. same (suc k) (omega (arith, k_in))))

pub map_one : {X : Type 0} (f : X → X) (xs : List X) (j : ℕ) (y d : X) → j < length xs → f (slice_index_or xs j d) ≡ y →
    ((k : ℕ) → k < length xs → k ≢ j → f (slice_index_or xs k d) ≡ slice_index_or xs k d) → map f xs ≡ slice_set xs j y
map_one f [] j y d j_in here others = absurd (omega arith)
map_one f (x ∷ xs) zero y d j_in here others =
    ap (λ z. z ∷ map f xs) here ∙ ap (λ zs. y ∷ zs) (map_none f xs d (λ k k_in. others (suc k) (omega (arith, k_in)) (λ h. omega (arith, h))))
map_one f (x ∷ xs) (suc j) y d j_in here others =
    ap (λ z. z ∷ map f xs) (others 0 (omega arith) (λ h. omega (arith, h)))
    ∙ ap (λ zs. x ∷ zs) (map_one f xs j y d (omega (arith, j_in)) here (λ k k_in apart. others (suc k) (omega (arith, k_in)) (λ h. apart (omega (arith, h)))))

-- The form of a bound falls from one box to the next, and no other form of a bound changes.
pub record IsFall (costs next : CostBox) (rows : List Form) (before after : Member) (fall : ℤ) : Type 0 where
  pub width : length next.low ≡ length costs.low
  pub height : length next.high ≡ length costs.low
  pub is_form : IsFormOf costs rows before
  pub form : member_form (length costs.low) rows after ≡ fallen (member_form (length costs.low) rows before) fall
  pub own : moved_member next before ≡ after
  pub others : (m : Member) → IsFormOf costs rows m → m ≢ before → moved_member next m ≡ m

pub low_fall : (costs : CostBox) (rows : List Form) (v bound : ℕ) → length costs.high ≡ length costs.low →
    v < length costs.low → IsFall costs (with_low costs v bound) rows (Low v (slice_index costs.low v)) (Low v bound)
    (pos bound -ℤ pos (slice_index costs.low v))
low_fall costs rows v bound height v_in =
    record {
      width = length-set costs.low v bound;
      height = height;
      is_form = (v_in, refl);
      form = low_falls (length costs.low) rows v bound (slice_index costs.low v);
      own = ap (Low v) (get_or-set_same costs.low v bound 0 v_in);
      others = other;
    }
  where
    other : (m : Member) → IsFormOf costs rows m → m ≢ Low v (slice_index costs.low v) → moved_member (with_low costs v bound) m ≡ m
    other (Low u b) is apart =
        elim (cases_eq u v) [
          | inl same ↦ absurd (apart (ap (Low u) is.1 ∙ ap (λ k. Low k (slice_index costs.low k)) same))
          | inr differ ↦ ap (Low u) (get_or-set_other costs.low v u bound 0 differ ∙ sym is.1)
        ]
    other (High u b) is apart = ap (High u) (sym is.1)
    other (Row r) is apart = refl

pub high_fall : (costs : CostBox) (rows : List Form) (v bound : ℕ) → length costs.high ≡ length costs.low →
    v < length costs.low → IsFall costs (with_high costs v bound) rows (High v (slice_index costs.high v))
    (High v bound) (pos (slice_index costs.high v) -ℤ pos bound)
high_fall costs rows v bound height v_in =
    record {
      width = refl;
      height = length-set costs.high v bound ∙ height;
      is_form = (v_in, refl);
      form = high_falls (length costs.low) rows v bound (slice_index costs.high v);
      own = ap (High v) (get_or-set_same costs.high v bound 0 (omega (arith, height, v_in)));
      others = other;
    }
  where
    other : (m : Member) → IsFormOf costs rows m → m ≢ High v (slice_index costs.high v) → moved_member (with_high costs v bound) m ≡ m
    other (Low u b) is apart = ap (Low u) (sym is.1)
    other (High u b) is apart =
        elim (cases_eq u v) [
          | inl same ↦ absurd (apart (ap (High u) is.1 ∙ ap (λ k. High k (slice_index costs.high k)) same))
          | inr differ ↦ ap (High u) (get_or-set_other costs.high v u bound 0 differ ∙ sym is.1)
        ]
    other (Row r) is apart = refl

-- the basis' forms where that in the column falls, and the numbers that go with them
abbrev pub fallen_basis : Option ℕ → ℤ → List Form → List Form
fallen_basis None fall bs = bs
fallen_basis (Some j) fall bs = slice_set bs j (fallen (slice_index_or bs j no_form) fall)

abbrev pub raised_rows : Option ℕ → ℤ → List (List ℤ) → List (List ℤ)
raised_rows None fall lows = lows
raised_rows (Some j) fall lows = map (raised j fall) lows

-- a form's number in the column
abbrev pub slope : ℕ → List ℕ → List (List ℤ) → Option ℕ → Form → ℤ
slope D low lows None f = pos 0
slope D low lows (Some j) f = number_of_form D low lows f (suc j)

-- The numbers after a bound moved: at place 0 each rises by that in the column, times the fall.
pub record AreMoved (D : ℕ) (low next : List ℕ) (lows news : List (List ℤ)) (bs : List Form) (column : Option ℕ) (fall : ℤ) : Type 0 where
  pub numbered : IsNumbered D (length low) next (fallen_basis column fall bs) news
  pub constants : (f : Form) → number_of_form D next news f 0 ≡ (number_of_form D low lows f 0 +ℤ (slope D low lows column f *ℤ fall))
  pub others : (f : Form) (k : ℕ) → number_of_form D next news f (suc k) ≡ number_of_form D low lows f (suc k)

-- the column, if there is one, is one of n
abbrev pub IsInside : Option ℕ → ℕ → Type 0
IsInside None n = Unit {0}
IsInside (Some j) n = j < n

-- an upper bound moves
pub high_moved : (D : ℕ) (low : List ℕ) (lows : List (List ℤ)) (bs : List Form) (column : Option ℕ) (fall : ℤ) →
    IsInside column (length bs) → IsNumbered D (length low) low bs lows →
    AreMoved D low low lows (raised_rows column fall lows) bs column fall
high_moved D low lows bs None fall inside is =
    record {
      numbered = is;
      constants = λ f. ring (number_of_form D low lows f 0 ∷ fall ∷ []) (var 0) (var 0 ⊕ num (pos 0) ⊗ var 1) refl;
      others = λ f k. refl;
    }
high_moved D low lows bs (Some j) fall inside is =
    record {
      numbered = raised_numbered D (length low) low bs lows j fall inside is;
      constants = λ f. raised_constant D low lows f j fall;
      others = λ f k. raised_other D low lows f j k fall;
    }

-- a lower bound moves
pub low_moved : (D : ℕ) (low : List ℕ) (lows : List (List ℤ)) (bs : List Form) (column : Option ℕ) (fall : ℤ)
    (v bound : ℕ) → IsInside column (length bs) → v < length low → v < length (raised_rows column fall lows) →
    IsNumbered D (length low) low bs lows →
    AreMoved D low (slice_set low v bound) lows
    (lowered_rows v (pos D *ℤ (pos bound -ℤ pos (slice_index low v))) (raised_rows column fall lows)) bs column fall
low_moved D low lows bs column fall v bound inside v_in row_in is =
    let m = high_moved D low lows bs column fall inside is in
    let same : (f : Form) (place : ℕ) →
    number_of_form D (slice_set low v bound)
    (lowered_rows v (pos D *ℤ (pos bound -ℤ pos (slice_index low v))) (raised_rows column fall lows)) f place
    ≡ number_of_form D low (raised_rows column fall lows) f place =
    λ f place. lowered_number D (length low) low (raised_rows column fall lows) f v bound m.numbered.long v_in row_in place in
    record {
      numbered = lowered_numbered D (length low) low (fallen_basis column fall bs) (raised_rows column fall lows) v bound v_in m.numbered;
      constants = λ f. same f 0 ∙ m.constants f;
      others = λ f k. same f (suc k) ∙ m.others f k;
    }

-- a line with another constant
put_first : (D : ℕ) (line : List Fraction) (q : Fraction) (m next : ℤ) (ms : List ℤ) → Stand D line (m ∷ ms) →
    StandsFor q next D → Stand D (slice_set line 0 q) (next ∷ ms)
put_first D [] q m next ms stand first = absurd stand
put_first D (p ∷ line) q m next ms stand first = (first, stand.1)

line_put : (n D : ℕ) (low next : List ℕ) (lows news : List (List ℤ)) (f g : Form) (line : List Fraction)
    (q : Fraction) → ((k : ℕ) → number_of_form D next news f (suc k) ≡ number_of_form D low lows g (suc k)) →
    Stand D line (numbers_of_form n D low lows g) → StandsFor q (number_of_form D next news f 0) D →
    Stand D (slice_set line 0 q) (numbers_of_form n D next news f)
line_put n D low next lows news f g line q same stand first =
    subst (λ (ms : List ℤ). Stand D (slice_set line 0 q) (number_of_form D next news f 0 ∷ ms))
    (map-numbers_from-agree (number_of_form D low lows g) (number_of_form D next news f) 1 n (λ k from k_in. later k from))
    (put_first D line q (number_of_form D low lows g 0) (number_of_form D next news f 0) (map (number_of_form D low lows g) (numbers_from 1 n)) stand first)
  where
    later : (k : ℕ) → 1 ≤ k → number_of_form D low lows g k ≡ number_of_form D next news f k
    later zero from = absurd (omega arith)
    later (suc k) from = sym (same k)

whole_stands : (D : ℕ) (z : ℤ) → StandsFor (whole z) (pos D *ℤ z) D
whole_stands D z = ring (pos D ∷ z ∷ []) (var 1 ⊗ var 0) ((var 0 ⊗ var 1) ⊗ num (pos 1)) refl

-- What is known of a line of the table: its numbers, and how long it is.
pub record IsLong (top n D : ℕ) (low : List ℕ) (lows : List (List ℤ)) (f : Form) (line : List Fraction) : Type 0 where
  pub positive : 0 < D
  pub numbers : AreTableNumbers top line
  pub count : length line ≡ suc n
  pub stand : Stand D line (numbers_of_form n D low lows f)

entry_is : (top n D : ℕ) (low : List ℕ) (lows : List (List ℤ)) (f : Form) (line : List Fraction) (k : ℕ) →
    IsLong top n D low lows f line → k < suc n → (0 < (entry line k).denominator)
    × StandsFor (entry line k) (number_of_form D low lows f k) D
entry_is top n D low lows f line k l k_in =
    let here = number_there top line k l.numbers (omega (arith, l.count, k_in)) in (
      here.lowest.positive,
      subst (λ z. StandsFor (entry line k) z D) (numbers_at n D low lows f k k_in)
          (stand_at D line (numbers_of_form n D low lows f) k l.stand (omega (arith, numbers_long n D low lows f, k_in))),
    )

-- its line where the form isn't in the basis
pub own_lowered : (top n D : ℕ) (low next : List ℕ) (lows news : List (List ℤ)) (bs : List Form) (g : Form)
    (line : List Fraction) (fall : ℤ) → AreMoved D low next lows news bs None fall → IsLong top n D low lows g line →
    Stand D (slice_set line 0 (minus (entry line 0) (whole fall))) (numbers_of_form n D next news (fallen g fall))
own_lowered top n D low next lows news bs g line fall m l =
    let e = entry_is top n D low lows g line 0 l (omega arith) in
    line_put n D low next lows news (fallen g fall) g line (minus (entry line 0) (whole fall)) (λ k. m.others (fallen g fall) k) l.stand
    (subst (λ z. StandsFor (minus (entry line 0) (whole fall)) z D)
    (sym (m.constants (fallen g fall) ∙ ap (λ z. z +ℤ (pos 0 *ℤ fall)) (fallen_constant D low lows g fall)
    ∙ ring (number_of_form D low lows g 0 ∷ pos D ∷ fall ∷ []) ((var 0 ⊖ var 1 ⊗ var 2) ⊕ num (pos 0) ⊗ var 2) (var 0 ⊖ var 1 ⊗ var 2) refl))
    (minus_stands_over (entry line 0) (whole fall) (number_of_form D low lows g 0) (pos D *ℤ fall) D e.0 (omega arith) l.positive e.1 (whole_stands D fall)))

-- and where it is
pub own_zeroed : (top n D : ℕ) (low next : List ℕ) (lows news : List (List ℤ)) (bs : List Form) (g : Form)
    (line : List Fraction) (j : ℕ) (fall : ℤ) → AreMoved D low next lows news bs (Some j) fall →
    IsLong top n D low lows g line → number_of_form D low lows g 0 ≡ pos 0 → number_of_form D low lows g (suc j) ≡ pos D →
    Stand D (slice_set line 0 nothing) (numbers_of_form n D next news (fallen g fall))
own_zeroed top n D low next lows news bs g line j fall m l none own =
    line_put n D low next lows news (fallen g fall) g line nothing (λ k. m.others (fallen g fall) k) l.stand
    (subst (λ z. StandsFor nothing z D)
    (sym (m.constants (fallen g fall) ∙ ap (λ z. z +ℤ (number_of_form D low lows g (suc j) *ℤ fall)) (fallen_constant D low lows g fall)
    ∙ ap (λ z. (z -ℤ (pos D *ℤ fall)) +ℤ (number_of_form D low lows g (suc j) *ℤ fall)) none
    ∙ ap (λ z. (pos 0 -ℤ (pos D *ℤ fall)) +ℤ (z *ℤ fall)) own
    ∙ ring (pos D ∷ fall ∷ []) ((num (pos 0) ⊖ var 0 ⊗ var 1) ⊕ var 0 ⊗ var 1) (num (pos 0)) refl))
    (lib.IntN.zero-*ℤ (pos D)))

-- other lines
pub other_kept : (n D : ℕ) (low next : List ℕ) (lows news : List (List ℤ)) (bs : List Form) (f : Form)
    (line : List Fraction) (fall : ℤ) → AreMoved D low next lows news bs None fall →
    Stand D line (numbers_of_form n D low lows f) → Stand D line (numbers_of_form n D next news f)
other_kept n D low next lows news bs f line fall m stand =
    subst (λ (ms : List ℤ). Stand D line ms) (map-numbers_from-agree (number_of_form D low lows f) (number_of_form D next news f) 0 (suc n)
    (λ k from k_in. each k)) stand
  where
    each : (k : ℕ) → number_of_form D low lows f k ≡ number_of_form D next news f k
    each zero = sym (m.constants f ∙ ring (number_of_form D low lows f 0 ∷ fall ∷ []) (var 0 ⊕ num (pos 0) ⊗ var 1) (var 0) refl)
    each (suc k) = sym (m.others f k)

pub other_raised : (top n D : ℕ) (low next : List ℕ) (lows news : List (List ℤ)) (bs : List Form) (f : Form)
    (line : List Fraction) (j : ℕ) (fall : ℤ) → j < n → AreMoved D low next lows news bs (Some j) fall →
    IsLong top n D low lows f line → Stand D (raised_line j (whole fall) line) (numbers_of_form n D next news f)
other_raised top n D low next lows news bs f line j fall j_in m l =
    let first = entry_is top n D low lows f line 0 l (omega arith) in
    let there = entry_is top n D low lows f line (suc j) l (omega (arith, j_in)) in
    let product = times (entry line (suc j)) (whole fall) in
    let product_stands : StandsFor product (number_of_form D low lows f (suc j) *ℤ fall) D =
    subst (λ (d : ℕ). StandsFor product (number_of_form D low lows f (suc j) *ℤ fall) d) (omega arith)
    (times_stands (entry line (suc j)) (whole fall) (number_of_form D low lows f (suc j)) fall D 1 there.0
    (omega arith) there.1 refl) in
    line_put n D low next lows news f f line (plus (entry line 0) product) (λ k. m.others f k) l.stand
    (subst (λ z. StandsFor (plus (entry line 0) product) z D) (sym (m.constants f))
    (plus_stands_over (entry line 0) product (number_of_form D low lows f 0) (number_of_form D low lows f (suc j) *ℤ fall) D
    first.0 (times_lowest (entry line (suc j)) (whole fall) there.0 (omega arith)).positive l.positive first.1
    product_stands))
