-- Two lists of columns that rise are gone through together, and a third one is made of them, column by column.
use Rattle.std.proofs.Common.{◌≡◌, ◌≢◌, ℕ, suc, ◌<◌, ◌≤◌, sym, ◌∙◌, ap, subst, List, [], length, arith, inl, inr, min}
use Rattle.std.proofs.lemmas.Bool.{cases_lt}
use Rattle.whole_numbers.specs.Fractions.{Fraction, IsLowest}
use Rattle.fraction_lines.specs.TableLines.{Rises, fraction_at, nothing}
use Rattle.fraction_lines.specs.Entries.{IsMade, IsPutAtEnd, head_column, head_fraction, after_column}
use Rattle.fraction_lines.proofs.Columns.{at_above, rises_widen, head_at, after_rises, after_at, before_head, head_from, ends_empty, rises_length, put_rises, put_here, put_other}

abbrev pub Entries : Type 0
Entries = List (ℕ × Fraction)

-- The two are gone through up to a column: what was made rises up to there, and the two have the rest behind it.
pub record Crossing (width : ℕ) (target : ℕ → Fraction → Fraction → Fraction) (first second olds quotients made : Entries) : Type 0 where
  pub frontier : ℕ
  pub within : frontier ≤ width
  pub olds_rise : Rises frontier width olds
  pub quotients_rise : Rises frontier width quotients
  pub made_rises : Rises 0 frontier made
  pub done : (k : ℕ) → k < frontier → fraction_at made k ≡ target k (fraction_at first k) (fraction_at second k)
  pub olds_left : (k : ℕ) → frontier ≤ k → fraction_at first k ≡ fraction_at olds k
  pub quotients_left : (k : ℕ) → frontier ≤ k → fraction_at second k ≡ fraction_at quotients k

-- a column at which both have nothing stays nothing
nothing_made : (target : Fraction → Fraction → Fraction) (p q r : Fraction) → target nothing nothing ≡ nothing →
    p ≡ nothing → q ≡ nothing → r ≡ nothing → r ≡ target p q
nothing_made target p q r keeps p_is q_is r_is =
    r_is ∙ sym (ap (λ (t : Fraction). target t q) p_is ∙ ap (λ (t : Fraction). target nothing t) q_is ∙ keeps)

-- One turn, at the lesser of the two next columns.
pub crossing_turns : (width : ℕ) (target : ℕ → Fraction → Fraction → Fraction)
    (first second olds quotients made new_made : Entries) (c : ℕ) (value : Fraction) →
    ((k : ℕ) → target k nothing nothing ≡ nothing) → IsLowest value →
    Crossing width target first second olds quotients made →
    c ≡ min (head_column olds width) (head_column quotients width) → c < width →
    value ≡ target c (head_fraction olds c) (head_fraction quotients c) → IsPutAtEnd made c value new_made →
    Crossing width target first second (after_column olds c) (after_column quotients c) new_made
crossing_turns width target first second olds quotients made new_made c value keeps value_lowest crossing c_is c_in value_is put =
    let olds_first : c ≤ head_column olds width = omega arith in
    let quotients_first : c ≤ head_column quotients width = omega arith in
    let from : crossing.frontier ≤ c =
    omega (
      arith,
      head_from crossing.frontier width olds crossing.olds_rise crossing.within,
      head_from crossing.frontier width quotients crossing.quotients_rise crossing.within,
    ) in
    record {
      frontier = suc c;
      within = omega arith;
      olds_rise = after_rises crossing.frontier width width olds c crossing.olds_rise olds_first;
      quotients_rise = after_rises crossing.frontier width width quotients c crossing.quotients_rise quotients_first;
      made_rises = put_rises crossing.frontier c value made new_made crossing.made_rises from put;
      done = λ k below. by_place olds_first quotients_first from k below;
      olds_left = λ k behind. crossing.olds_left k (omega arith) ∙ after_at olds c k (omega arith);
      quotients_left = λ k behind. crossing.quotients_left k (omega arith) ∙ after_at quotients c k (omega arith);
    }
  where
    at_column : c ≤ head_column olds width → c ≤ head_column quotients width → crossing.frontier ≤ c →
        fraction_at new_made c ≡ target c (fraction_at first c) (fraction_at second c)
    at_column olds_first quotients_first from =
        put_here crossing.frontier c value made new_made value_lowest crossing.made_rises from put
        ∙ value_is
        ∙ sym (ap (λ (t : Fraction). target c t (fraction_at second c)) (crossing.olds_left c from
        ∙ head_at crossing.frontier width width olds c crossing.olds_rise olds_first)
        ∙ ap (λ (t : Fraction). target c (head_fraction olds c) t) (crossing.quotients_left c from
        ∙ head_at crossing.frontier width width quotients c crossing.quotients_rise quotients_first))

    apart : (k : ℕ) → k < c → c ≢ k
    apart k before = omega arith

    before_column : c ≤ head_column olds width → c ≤ head_column quotients width → (k : ℕ) → k < c →
        fraction_at new_made k ≡ target k (fraction_at first k) (fraction_at second k)
    before_column olds_first quotients_first k before =
        elim (cases_lt k crossing.frontier) [
          | inl early ↦ put_other c k value made new_made (apart k before) put ∙ crossing.done k early
          | inr late ↦
              nothing_made (target k) (fraction_at first k) (fraction_at second k) (fraction_at new_made k) (keeps k)
              (crossing.olds_left k late ∙ before_head crossing.frontier width width olds k crossing.olds_rise (omega arith))
              (crossing.quotients_left k late ∙ before_head crossing.frontier width width quotients k crossing.quotients_rise (omega arith))
              (put_other c k value made new_made (apart k before) put ∙ at_above 0 crossing.frontier made k crossing.made_rises late)
        ]

    by_place : c ≤ head_column olds width → c ≤ head_column quotients width → crossing.frontier ≤ c → (k : ℕ) →
        k < suc c → fraction_at new_made k ≡ target k (fraction_at first k) (fraction_at second k)
    by_place olds_first quotients_first from k below =
        elim (cases_lt k c) [
          | inl before ↦ before_column olds_first quotients_first k before
          | inr there ↦
              let same : c ≡ k = omega arith in
              subst (λ (n : ℕ). fraction_at new_made n ≡ target n (fraction_at first n) (fraction_at second n)) same (at_column olds_first quotients_first from)
        ]

-- at the next column the heads are what the two lists have there
pub heads_at : (width : ℕ) (target : ℕ → Fraction → Fraction → Fraction) (first second olds quotients made : Entries)
    (c : ℕ) → Crossing width target first second olds quotients made →
    c ≡ min (head_column olds width) (head_column quotients width) → (head_fraction olds c ≡ fraction_at first c)
    × (head_fraction quotients c ≡ fraction_at second c)
heads_at width target first second olds quotients made c crossing c_is =
    let from : crossing.frontier ≤ c =
    omega (
      arith,
      head_from crossing.frontier width olds crossing.olds_rise crossing.within,
      head_from crossing.frontier width quotients crossing.quotients_rise crossing.within,
    ) in (
      sym (crossing.olds_left c from ∙ head_at crossing.frontier width width olds c crossing.olds_rise (omega arith)),
      sym (crossing.quotients_left c from ∙ head_at crossing.frontier width width quotients c crossing.quotients_rise (omega arith)),
    )

all_made : (width : ℕ) (target : ℕ → Fraction → Fraction → Fraction) (first second made : Entries) →
    ((k : ℕ) → target k nothing nothing ≡ nothing) → Crossing width target first second [] [] made →
    IsMade width target first second made
all_made width target first second made keeps crossing k k_in =
    elim (cases_lt k crossing.frontier) [
      | inl early ↦ crossing.done k early
      | inr late ↦
          nothing_made (target k) (fraction_at first k) (fraction_at second k) (fraction_at made k) (keeps k)
          (crossing.olds_left k late) (crossing.quotients_left k late)
          (at_above 0 crossing.frontier made k crossing.made_rises late)
    ]

-- With no next column every column is done.
pub crossing_ends : (width : ℕ) (target : ℕ → Fraction → Fraction → Fraction)
    (first second olds quotients made : Entries) (c : ℕ) → ((k : ℕ) → target k nothing nothing ≡ nothing) →
    Crossing width target first second olds quotients made →
    c ≡ min (head_column olds width) (head_column quotients width) → width ≤ c → IsMade width target first second made
crossing_ends width target first second olds quotients made c keeps crossing c_is ended =
    let olds_none = ends_empty crossing.frontier width olds crossing.olds_rise (omega arith) in
    let quotients_none = ends_empty crossing.frontier width quotients crossing.quotients_rise (omega arith) in
    all_made width target first second made keeps
    (subst (λ (es : Entries). Crossing width target first second es [] made) olds_none
    (subst (λ (es : Entries). Crossing width target first second olds es made) quotients_none crossing))

pub made_rise : (width : ℕ) (target : ℕ → Fraction → Fraction → Fraction) (first second olds quotients made : Entries) →
    Crossing width target first second olds quotients made → Rises 0 width made
made_rise width target first second olds quotients made crossing = rises_widen 0 crossing.frontier width made crossing.made_rises crossing.within

-- there is room for one more column
pub made_short : (width : ℕ) (target : ℕ → Fraction → Fraction → Fraction) (first second olds quotients made : Entries)
    (c : ℕ) → Crossing width target first second olds quotients made →
    c ≡ min (head_column olds width) (head_column quotients width) → c < width → length made < width
made_short width target first second olds quotients made c crossing c_is c_in =
    let short = rises_length 0 crossing.frontier made crossing.made_rises (omega arith) in
    let from : crossing.frontier ≤ c =
    omega (
      arith,
      head_from crossing.frontier width olds crossing.olds_rise crossing.within,
      head_from crossing.frontier width quotients crossing.quotients_rise crossing.within,
    ) in
    omega arith
