-- New numbers for the rows that are kept.
use Rattle.std.proofs.Common.{◌≡◌, ℕ, zero, suc, ◌+◌, ◌-◌, ◌<◌, ◌≤◌, refl, sym, ◌∙◌, ap, subst, List, [], ◌∷◌, ◌++◌, map, length, get_or, arith, Bool, true, false, if◌then◌else◌, inl, inr}
use Rattle.std.specs.Prelude.{All, AllPairs, slice_index_or}
use Rattle.cost_base.specs.Lists.{numbers_from}
use Rattle.cost_base.proofs.ListLemmas.{length-map-numbers_from, get_or-map-numbers_from, numbers_from-push}
use Rattle.std.proofs.lemmas.Bool.{cases_Bool}
use Rattle.std.proofs.lemmas.List.{length-map, map-append, get_or-map}
use Rattle.std.proofs.lemmas.List.Elements.{All-map}
use Rattle.design_problem.specs.declared.tree.Entry.{Entry}
use Rattle.design_problem.specs.declared.tree.Entry.TheVariants.{Tighten, Split, Halve, Refute, Undone}
use Rattle.design_problem.specs.Trees.{AreSeveralTrees, subtree_count}
use Rattle.design_problem.specs.Renumbering.{renumbered, renumbered_multiplier}
use Rattle.printed_rows.specs.NamedRows.{NamesKnown, PartKnown}
use Rattle.printed_rows.specs.NewNumbers.{AreNewNumbers, KeepsOrder, new_number, number_given}

-- where a row is kept, those behind it have greater numbers
pub step_kept : (named : ℕ → Bool) (row : ℕ) → named row ≡ true → new_number named (suc row) ≡ new_number named row + 1
step_kept named row is = ap (λ (b : Bool). new_number named row + (if b then 1 else 0)) is

pub step_left : (named : ℕ → Bool) (row : ℕ) → named row ≡ false → new_number named (suc row) ≡ new_number named row
step_left named row is = ap (λ (b : Bool). new_number named row + (if b then 1 else 0)) is ∙ omega arith

-- the numbers rise from row to row
pub new_number-le : (named : ℕ → Bool) (row : ℕ) → new_number named row ≤ new_number named (suc row)
new_number-le named row = elim (cases_Bool (named row)) [
  | inl is ↦ omega (arith, step_kept named row is)
  | inr is ↦ omega (arith, step_left named row is)
]

numbers_le : (named : ℕ → Bool) (a c n : ℕ) → c ≡ n + a → new_number named a ≤ new_number named c
numbers_le named a c zero same = let e : c ≡ a = omega (arith, same) in subst (λ (k : ℕ). new_number named a ≤ new_number named k) (sym e) (omega arith)
numbers_le named a zero (suc n) same = absurd (omega (arith, same))
numbers_le named a (suc c) (suc n) same = let rest = numbers_le named a c n (omega (arith, same)) in omega (arith, rest, new_number-le named c)

-- and behind a row that is kept they are greater
pub numbers_rise : (named : ℕ → Bool) (a b : ℕ) → a < b → named a ≡ true → new_number named a < new_number named b
numbers_rise named a b below is =
    let rest = numbers_le named (suc a) b (b - suc a) (omega arith) in
    omega (arith, step_kept named a is, rest)

first : (n : ℕ) → 0 + n ≡ n
first n = omega arith

-- one number more
pub numbers_more : (named : ℕ → Bool) (numbers : List ℕ) (i : ℕ) → AreNewNumbers named i numbers →
    AreNewNumbers named (i + 1) (numbers ++ new_number named i ∷ [])
numbers_more named numbers i are =
    ap (λ (ns : List ℕ). ns ++ new_number named i ∷ []) are
    ∙ sym (map-append (new_number named) (numbers_from 0 i) (i ∷ []))
    ∙ ap (λ (k : ℕ). map (new_number named) (numbers_from 0 i ++ k ∷ [])) (sym (first i))
    ∙ ap (map (new_number named)) (sym (numbers_from-push 0 i))

-- as many numbers as rows
pub numbers_counted : (f : ℕ → ℕ) (n : ℕ) (numbers : List ℕ) → numbers ≡ map f (numbers_from 0 n) → length numbers ≡ n
numbers_counted f n numbers are = ap length are ∙ length-map-numbers_from f 0 n

-- the number of a row
pub number_at : (f : ℕ → ℕ) (n : ℕ) (numbers : List ℕ) (row : ℕ) → numbers ≡ map f (numbers_from 0 n) → row < n → number_given numbers row ≡ f row
number_at f n numbers row are within =
    ap (λ (ns : List ℕ). get_or ns row 0) are ∙ get_or-map-numbers_from f 0 n row 0 within ∙ ap f (first row)

-- the step of the loop that numbers the rows
pub numbered_more : (named : ℕ → Bool) (numbers more : List ℕ) (i next after : ℕ) (is : Bool) →
    next ≡ new_number named i → AreNewNumbers named i numbers → more ≡ numbers ++ next ∷ [] → is ≡ named i →
    after ≡ (if is then next + 1 else next)
    → (after ≡ new_number named (i + 1)) × (AreNewNumbers named (i + 1) more)
numbered_more named numbers more i next after is next_is are more_is is_named after_is = (
  after_number is is_named after_is,
  more_is ∙ ap (λ (n : ℕ). numbers ++ n ∷ []) next_is ∙ numbers_more named numbers i are,
)
  where
    one_more : i + 1 ≡ suc i
    one_more = omega arith

    after_number : (is : Bool) → is ≡ named i → after ≡ (if is then next + 1 else next) → after ≡ new_number named (i + 1)
    after_number true e a = a ∙ ap (λ (n : ℕ). n + 1) next_is ∙ sym (step_kept named i (sym e)) ∙ ap (new_number named) (sym one_more)
    after_number false e a = a ∙ next_is ∙ sym (step_left named i (sym e)) ∙ ap (new_number named) (sym one_more)

-- the rows of a Refute rise again
parts_rise : (named : ℕ → Bool) (n : ℕ) (numbers : List ℕ) (parts : List (ℕ × ℕ)) → AreNewNumbers named n numbers →
    All (PartKnown named n) parts → AllPairs (λ a b. a.0 < b.0) parts
    → AllPairs (λ a b. a.0 < b.0) (map (renumbered_multiplier (number_given numbers)) parts)
parts_rise named n numbers parts are names rising i j d before j_in =
    let f = number_given numbers in
    let counted = length-map parts (renumbered_multiplier f) in
    let j_known : j < length parts = omega arith in
    let i_known : i < length parts = omega arith in
    let a = slice_index_or parts i d in
    let b = slice_index_or parts j d in
    let a_is = names i d i_known in
    let b_is = names j d j_known in
    let rise = numbers_rise named a.0 b.0 (rising i j d before j_known) a_is.1 in
    let less : number_given numbers a.0 < number_given numbers b.0 =
    omega (arith, rise, number_at (new_number named) n numbers a.0 are a_is.0, number_at (new_number named) n numbers b.0 are b_is.0) in
    rw (get_or-map (renumbered_multiplier f) parts i d d i_known, get_or-map (renumbered_multiplier f) parts j d d j_known) less

-- the new numbers keep the order of the rows of an entry
pub order_kept : (named : ℕ → Bool) (n : ℕ) (numbers : List ℕ) (entry : Entry) → AreNewNumbers named n numbers → NamesKnown named n entry →
    KeepsOrder (number_given numbers) entry
order_kept named n numbers (Tighten var side value row) are known = tt
order_kept named n numbers (Split var value) are known = tt
order_kept named n numbers (Halve var value wide) are known = tt
order_kept named n numbers (Refute parts) are known = parts_rise named n numbers parts are known
order_kept named n numbers Undone are known = tt

pub parts_positive : (number : ℕ → ℕ) (parts : List (ℕ × ℕ)) → All (λ part. 0 < part.1) parts →
    All (λ part. 0 < part.1) (map (renumbered_multiplier number) parts)
parts_positive number parts positive = All-map (λ (part : ℕ × ℕ). 0 < part.1) (renumbered_multiplier number) parts positive

same_subtrees : (number : ℕ → ℕ) (entry : Entry) → subtree_count (renumbered number entry) ≡ subtree_count entry
same_subtrees number (Tighten var side value row) = refl
same_subtrees number (Split var value) = refl
same_subtrees number (Halve var value wide) = refl
same_subtrees number (Refute parts) = refl
same_subtrees number Undone = refl

-- whole trees stay whole
pub whole_kept : (number : ℕ → ℕ) (n : ℕ) (entries : List Entry) → AreSeveralTrees n entries → AreSeveralTrees n (map (renumbered number) entries)
whole_kept number zero [] whole = whole
whole_kept number (suc n) [] whole = absurd whole
whole_kept number zero (e ∷ entries) whole = absurd whole
whole_kept number (suc n) (e ∷ entries) whole =
    subst (λ k. AreSeveralTrees (k + n) (map (renumbered number) entries)) (sym (same_subtrees number e))
    (whole_kept number (subtree_count e + n) entries whole)
