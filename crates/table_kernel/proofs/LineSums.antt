-- Sums over the terms of a form, which are added term by term.
use Rattle.std.proofs.Common.{◌≡◌, ℕ, suc, ◌+◌, ◌*◌, ◌<◌, ◌≤◌, refl, sym, subst, ◌∙◌, ap, List, [], ◌∷◌, length, get_or, drop, arith, add-one, drop-cons}
use Rattle.std.specs.Prelude.{ℤ, pos, ◌+ℤ◌, ◌*ℤ◌, nat_abs, sum_by}
use native.Mathlib.Nat.{zero-mul}
use Rattle.std.proofs.Math.Nat.{add-mul}
use Rattle.std.proofs.lemmas.Int.{ints}
use Rattle.std.proofs.lemmas.List.{at_drop_all}
use Rattle.std.proofs.lemmas.List.Sums.{sum_by-cons}
use Rattle.whole_numbers.specs.Lists.{number_at}
use Rattle.whole_numbers.proofs.Sizes.{sum_size}
use Rattle.design_problem.specs.declared.form.Term.{Term}
use Rattle.design_problem.specs.Forms.{terms_from}
use Rattle.design_problem.proofs.TermLaws.{total, total_from, total_is, total_more}
use Rattle.integer_pivots.specs.Numbers.{product_sum}
use Rattle.integer_pivots.proofs.Sizes.{product_small}
use Rattle.integer_pivots.proofs.Terms.{term_size, terms_weight}

-- With the rest of the terms the sum is the whole one, and below the most there is room for the rest.
pub record IsPart (part : ℕ → ℤ → ℤ) (room : Term → ℕ) (most : ℕ) (ts : List Term) (index : ℕ) (sum : ℤ) : Type 0 where
  pub so_far : (sum +ℤ total part (drop index ts)) ≡ total part ts
  pub size : nat_abs sum + sum_by room (drop index ts) ≤ most

pub part_first : (part : ℕ → ℤ → ℤ) (room : Term → ℕ) (most : ℕ) (ts : List Term) → sum_by room ts ≤ most → IsPart part room most ts 0 (pos 0)
part_first part room most ts light = record { so_far = omega (arith, ints); size = omega (arith, light) }

-- the room of a term, and what is left
rest_room : (room : Term → ℕ) (ts : List Term) (index : ℕ) (d : Term) → index < length ts →
    sum_by room (drop index ts) ≡ room (get_or ts index d) + sum_by room (drop (index + 1) ts)
rest_room room ts index d index_in =
    let e : drop index ts ≡ get_or ts index d ∷ drop (index + 1) ts = rw (add-one, drop-cons ts index d) refl in
    ap (sum_by room) e ∙ sum_by-cons room (get_or ts index d) (drop (index + 1) ts)

-- a term is within what is left of the room
pub part_room : (part : ℕ → ℤ → ℤ) (room : Term → ℕ) (most : ℕ) (ts : List Term) (index : ℕ) (d : Term) (sum : ℤ) →
    index < length ts → IsPart part room most ts index sum → nat_abs sum + room (get_or ts index d) ≤ most
part_room part room most ts index d sum index_in s = omega (arith, rest_room room ts index d index_in, s.size)

pub part_more : (part : ℕ → ℤ → ℤ) (room : Term → ℕ) (most : ℕ) (ts : List Term) (index : ℕ) (d : Term) (sum : ℤ) →
    index < length ts → nat_abs (part (get_or ts index d).var (get_or ts index d).coefficient) ≤ room (get_or ts index d) →
    IsPart part room most ts index sum →
    IsPart part room most ts (index + 1) (sum +ℤ part (get_or ts index d).var (get_or ts index d).coefficient)
part_more part room most ts index d sum index_in small s =
    let t = get_or ts index d in
    let more = total_more part ts index d index_in in
    let both = sum_size sum (part t.var t.coefficient) in
    record { so_far = omega (arith, ints, more, s.so_far); size = omega (arith, rest_room room ts index d index_in, s.size, small, both) }

pub part_all : (part : ℕ → ℤ → ℤ) (room : Term → ℕ) (most : ℕ) (ts : List Term) (index : ℕ) (sum : ℤ) → length ts ≤ index →
    IsPart part room most ts index sum → sum ≡ total part ts
part_all part room most ts index sum past s =
    let none : total part (drop index ts) ≡ pos 0 = at_drop_all (total part) ts index past in
    omega (arith, ints, s.so_far, none)

-- a term's room where each coefficient is multiplied by no more than a factor
abbrev pub room_by : ℕ → Term → ℕ
room_by factor t = nat_abs t.coefficient * factor

sum_scaled : (factor : ℕ) (ts : List Term) → sum_by (room_by factor) ts ≡ sum_by term_size ts * factor
sum_scaled factor [] = sym (zero-mul factor)
sum_scaled factor (t ∷ ts) =
    let both : (term_size t + sum_by term_size ts) * factor ≡ term_size t * factor + sum_by term_size ts * factor = add-mul (term_size t) (sum_by term_size ts)
    factor in
    sum_by-cons (room_by factor) t ts
    ∙ ap (λ (n : ℕ). room_by factor t + n) (sum_scaled factor ts)
    ∙ sym both
    ∙ ap (λ (n : ℕ). n * factor) (sym (sum_by-cons term_size t ts))

pub room_weight : (factor : ℕ) (ts : List Term) (cs : List ℤ) → ts ≡ terms_from 0 cs → sum_by (room_by factor) ts ≡ sum_by nat_abs cs * factor
room_weight factor ts cs terms = sum_scaled factor ts ∙ ap (λ (n : ℕ). n * factor) (ap (sum_by term_size) terms ∙ terms_weight 0 cs)

-- a variable's part of a sum of products
abbrev pub product_at : List ℤ → ℕ → ℤ → ℤ
product_at zs v c = c *ℤ number_at zs v

sums_from : (first : ℕ) (cs zs : List ℤ) → first + length cs ≤ length zs → total_from (product_at zs) first cs ≡ product_sum cs (drop first zs)
sums_from first [] zs counted = refl
sums_from first (c ∷ cs) zs counted =
    rw (drop-cons zs first (pos 0) (omega arith))
    (ap (λ s. (c *ℤ number_at zs first) +ℤ s) (sums_from (suc first) cs zs (omega arith)))

none_adds : (z : ℤ) → (pos 0 *ℤ z) ≡ pos 0
none_adds z = omega (arith, ints)

pub sum_by_terms : (cs zs : List ℤ) → length cs ≤ length zs → total (product_at zs) (terms_from 0 cs) ≡ product_sum cs zs
sum_by_terms cs zs counted = total_is (product_at zs) (λ v. none_adds (number_at zs v)) 0 cs ∙ sums_from 0 cs zs (omega arith)

-- a sum of products of which a part is added
abbrev pub IsPartSum : ℕ → ℕ → List ℤ → List Term → ℕ → ℤ → Type 0
IsPartSum factor most zs ts index sum = IsPart (product_at zs) (room_by factor) most ts index sum

pub summed_first : (factor most : ℕ) (zs : List ℤ) (ts : List Term) (cs : List ℤ) → ts ≡ terms_from 0 cs →
    sum_by nat_abs cs * factor ≤ most → IsPartSum factor most zs ts 0 (pos 0)
summed_first factor most zs ts cs terms light =
    part_first (product_at zs) (room_by factor) most ts (subst (λ (n : ℕ). n ≤ most) (sym (room_weight factor ts cs terms)) light)

pub term_part : (factor most : ℕ) (zs : List ℤ) (ts : List Term) (index : ℕ) (d : Term) (sum : ℤ) → index < length ts →
    IsPartSum factor most zs ts index sum → nat_abs sum + nat_abs (get_or ts index d).coefficient * factor ≤ most
term_part factor most zs ts index d sum index_in s = part_room (product_at zs) (room_by factor) most ts index d sum index_in s

pub summed_more : (factor most : ℕ) (zs : List ℤ) (ts : List Term) (index : ℕ) (d : Term) (sum : ℤ) → index < length ts →
    nat_abs (number_at zs (get_or ts index d).var) ≤ factor → IsPartSum factor most zs ts index sum →
    IsPartSum factor most zs ts (index + 1) (sum +ℤ ((get_or ts index d).coefficient *ℤ number_at zs (get_or ts index d).var))
summed_more factor most zs ts index d sum index_in small s =
    let t = get_or ts index d in
    part_more (product_at zs) (room_by factor) most ts index d sum index_in
    (product_small (nat_abs t.coefficient) factor t.coefficient (number_at zs t.var) (omega arith) small) s

pub summed_all : (factor most : ℕ) (zs : List ℤ) (ts : List Term) (index : ℕ) (sum : ℤ) (cs : List ℤ) → length ts ≤ index →
    ts ≡ terms_from 0 cs → length cs ≤ length zs → IsPartSum factor most zs ts index sum → sum ≡ product_sum cs zs
summed_all factor most zs ts index sum cs past terms counted s =
    part_all (product_at zs) (room_by factor) most ts index sum past s
    ∙ ap (total (product_at zs)) terms
    ∙ sum_by_terms cs zs counted
