-- Safe beginnings and orders: they begin, grow and end; and where no state that can be reached has all steps between,
-- no order is safe.
use Rattle.std.proofs.Common.{◌≡◌, ◌≢◌, ℕ, zero, suc, ◌+◌, ◌<◌, ◌≤◌, refl, sym, ◌∙◌, ap, subst, List, [], ◌∷◌, ◌++◌, length, get_or, take, inl, inr, ◌⊎◌, arith, All, Bool, true, false, cond, filter}
use Rattle.std.specs.Prelude.{Contains}
use Rattle.std.proofs.lemmas.Bool.{cases_Bool, cases_eq, cases_lt, both_ways, false≢true}
use Rattle.std.proofs.lemmas.List.{take-append-le, take_all, length-append}
use Rattle.std.proofs.lemmas.List.Elements.{All-append, All-push, Contains-append_left, Contains-append_right}
use Rattle.cost_base.specs.Lists.{Has, Lacks, NoneTwice, numbers_from}
use Rattle.cost_base.proofs.ListLemmas.{All-left, all_kept, none_twice_push, taken_has, lacks_first, has_lacks, all_has}
use Rattle.cost_base.specs.Marks.{is_one_of}
use Rattle.cost_base.proofs.MarkLaws.{has_one_of, one_of_has}
use Rattle.change_steps.specs.declared.kinds.Kind.{Kind}
use Rattle.change_steps.specs.declared.kinds.Kind.TheVariants.{First, Between, Last}
use Rattle.change_steps.specs.Rollouts.{IsRollout, Rollout, step_count}
use Rattle.change_steps.specs.Orders.{AreHeld, IsSafe, IsSafeBeginning, IsSafeOrder, all_done, none_done}
use Rattle.change_steps.specs.Kinds.{comes_first, comes_last, first_steps, kind_of_step}
use Rattle.change_steps.specs.States.{first_state, marks_of}
use Rattle.change_steps.proofs.Keeping.{lacks_unless}
use Rattle.change_steps.proofs.KindLaws.{eased_safe}
use Rattle.change_steps.proofs.MarkLaws.{marks_agree}

-- Lists of steps of one kind.

-- the steps that pass a test, in order
abbrev pub steps_that : Rollout → (ℕ → Bool) → List ℕ
steps_that r p = filter p (numbers_from 0 (step_count r))

has_cond : (b : Bool) (a k : ℕ) (rest : List ℕ) → (b ≡ true → Has (a ∷ rest) k) → (b ≡ false → Has rest k) → Has (cond b (a ∷ rest) rest) k
has_cond true a k rest here later = here refl
has_cond false a k rest here later = later refl

has_kept : (p : ℕ → Bool) (a n k : ℕ) → a ≤ k → k < a + n → p k ≡ true → Has (filter p (numbers_from a n)) k
has_kept p a zero k above below passes = absurd (omega arith)
has_kept p a (suc n) k above below passes =
    let later : k ≢ a → Has (filter p (numbers_from (a + 1) n)) k = λ other.
    has_kept p (a + 1) n k (elim (cases_lt a k) [ inl less ↦ omega arith | inr not ↦ absurd (other (omega arith)) ]) (omega arith) passes in
    has_cond (p a) a k (filter p (numbers_from (a + 1) n)) (λ yes'. elim (cases_eq k a) [ inl same ↦ inl same | inr other ↦ inr (later other) ])
    (λ no'. later (λ same. both_ways (p a) no' (ap p (sym same) ∙ passes)))

kept_known : (p : ℕ → Bool) (a n : ℕ) → All (λ k. (a ≤ k) × (k < a + n) × (p k ≡ true)) (filter p (numbers_from a n))
kept_known p a n = all_kept (λ k. (a ≤ k) × (k < a + n) × (p k ≡ true)) p a n (λ k above below passes. (above, below, passes))

once_cond : (b : Bool) (a : ℕ) (rest : List ℕ) → Lacks rest a → NoneTwice rest → NoneTwice (cond b (a ∷ rest) rest)
once_cond true a rest lacks once = (lacks, once)
once_cond false a rest lacks once = once

kept_once : (p : ℕ → Bool) (a n : ℕ) → NoneTwice (filter p (numbers_from a n))
kept_once p a zero = tt
kept_once p a (suc n) =
    once_cond (p a) a (filter p (numbers_from (a + 1) n))
    (lacks_unless (filter p (numbers_from (a + 1) n)) a (λ has.
    let near = all_has (λ k. (a + 1 ≤ k) × (k < a + 1 + n) × (p k ≡ true)) (filter p (numbers_from (a + 1) n)) a (kept_known p (a + 1) n) has in
    let above = near.0 in absurd (omega (arith, above))))
    (kept_once p (a + 1) n)

-- a step is one of those that pass exactly where it passes
pub that_passes : (r : Rollout) (p : ℕ → Bool) (k : ℕ) → is_one_of (steps_that r p) k ≡ true → (k < step_count r) × (p k ≡ true)
that_passes r p k is =
    let near = all_has (λ i. (0 ≤ i) × (i < 0 + step_count r) × (p i ≡ true)) (steps_that r p) k (kept_known p 0 (step_count r))
    (one_of_has (steps_that r p) k is) in
    let below = near.1 in
    (omega (arith, below), near.2)

pub passes_that : (r : Rollout) (p : ℕ → Bool) (k : ℕ) → k < step_count r → p k ≡ true → is_one_of (steps_that r p) k ≡ true
passes_that r p k within passes = has_one_of (steps_that r p) k (has_kept p 0 (step_count r) k (omega arith) (omega (arith, within)) passes)

pub that_known : (r : Rollout) (p : ℕ → Bool) → All (λ k. k < step_count r) (steps_that r p)
that_known r p = λ i d within. let near = kept_known p 0 (step_count r) i d within in let below = near.1 in omega (arith, below)

pub that_once : (r : Rollout) (p : ℕ → Bool) → NoneTwice (steps_that r p)
that_once r p = kept_once p 0 (step_count r)

pub taken_one_of : (n : ℕ) (xs : List ℕ) (x : ℕ) → is_one_of (take n xs) x ≡ true → is_one_of xs x ≡ true
taken_one_of n xs x is = has_one_of xs x (taken_has n xs x (one_of_has (take n xs) x is))

has_append : (xs ys : List ℕ) (x : ℕ) → Has (xs ++ ys) x → Has xs x ⊎ Has ys x
has_append [] ys x has = inr has
has_append (y ∷ xs) ys x has = elim has [
  | inl same ↦ inl (inl same)
  | inr later ↦ elim (has_append xs ys x later) [ inl mine ↦ inl (inr mine) | inr theirs ↦ inr theirs ]
]

once_append : (xs ys : List ℕ) → NoneTwice xs → NoneTwice ys → ((x : ℕ) → Has xs x → Has ys x → ⊥) → NoneTwice (xs ++ ys)
once_append [] ys mine theirs apart = theirs
once_append (x ∷ xs) ys mine theirs apart = (
  lacks_unless (xs ++ ys) x (λ has. elim (has_append xs ys x has) [
    | inl again ↦ has_lacks xs x again mine.0
    | inr there ↦ apart x (inl refl) there
  ]),
  once_append xs ys mine.1 theirs (λ y has there. apart y (inr has) there),
)

once_left : (xs ys : List ℕ) → NoneTwice (xs ++ ys) → NoneTwice xs
once_left [] ys once = tt
once_left (x ∷ xs) ys once = (lacks_first xs ys x once.0, once_left xs ys once.1)

pub contains_has : (xs : List ℕ) (x : ℕ) → Has xs x → Contains xs x
contains_has [] x has = absurd has
contains_has (y ∷ ys) x has = elim has [
  | inl same ↦ (0, omega arith, sym same)
  | inr later ↦ let at = contains_has ys x later in (suc at.0, let near = at.1 in omega (arith, near), at.2)
]

pub has_contains : (xs : List ℕ) (x : ℕ) → Contains xs x → Has xs x
has_contains xs x at = go xs at.0 at.1 at.2
  where
    go : (ys : List ℕ) (i : ℕ) → i < length ys → get_or ys i x ≡ x → Has ys x
    go [] i within same = absurd (omega arith)
    go (y ∷ ys) zero within same = inl (sym same)
    go (y ∷ ys) (suc i) within same = inr (go ys i (omega arith) same)

-- Safe beginnings.

-- the first steps, in order, are a safe beginning
pub first_beginning : (r : Rollout) (held : List ℕ) → IsRollout r → AreHeld r held → IsSafeBeginning r held (first_steps r held)
first_beginning r held is are = record {
  known = that_known r (λ k. comes_first (kind_of_step r held k));
  once = that_once r (λ k. comes_first (kind_of_step r held k));
  safe = λ n within. eased_safe r held none_done (is_one_of (take n (first_steps r held))) is
      (λ k near. elim (cases_Bool (is_one_of (take n (first_steps r held)) k)) [
        | inl yes' ↦
            let first = (that_passes r (λ i. comes_first (kind_of_step r held i)) k (taken_one_of n (first_steps r held) k yes')).1 in
            inr (inl (refl, yes', is_first (kind_of_step r held k) first))
        | inr no' ↦ inl (sym no')
      ]) are.present;
}
  where
    is_first : (kind : Kind) → comes_first kind ≡ true → kind ≡ First
    is_first First first = refl
    is_first Between first = absurd (false≢true first)
    is_first Last first = absurd (false≢true first)

-- their state
pub first_state_is : (r : Rollout) (held : List ℕ) → first_state r held ≡ marks_of r (is_one_of (first_steps r held))
first_state_is r held = marks_agree r (λ k. comes_first (kind_of_step r held k)) (is_one_of (first_steps r held)) (λ k within.
    elim (cases_Bool (comes_first (kind_of_step r held k))) [
      | inl yes' ↦ yes' ∙ sym (passes_that r (λ i. comes_first (kind_of_step r held i)) k within yes')
      | inr no' ↦ elim (cases_Bool (is_one_of (first_steps r held) k)) [
        | inl one ↦ absurd (both_ways (comes_first (kind_of_step r held k)) no' (that_passes r (λ i. comes_first (kind_of_step r held i)) k one).1)
        | inr none ↦ no' ∙ sym none
      ]
    ])

-- a beginning with one more step
pub beginning_push : (r : Rollout) (held xs : List ℕ) (k : ℕ) → IsSafeBeginning r held xs → k < step_count r → is_one_of xs k ≡ false →
    IsSafe r held (is_one_of (xs ++ k ∷ [])) → IsSafeBeginning r held (xs ++ k ∷ [])
beginning_push r held xs k beginning known new safe = record {
  known = All-push (λ i. i < step_count r) xs k beginning.known known;
  once = none_twice_push xs k beginning.once (lacks_unless xs k (λ has. both_ways (is_one_of xs k) new (has_one_of xs k has)));
  safe = λ n within. elim (cases_lt (length xs) n) [
    | inl whole ↦ subst (λ (ys : List ℕ). IsSafe r held (is_one_of ys)) (sym (take_all n (xs ++ k ∷ [])
        (let count = length-append xs (k ∷ []) in omega (arith, count, whole)))) safe
    | inr front ↦ subst (λ (ys : List ℕ). IsSafe r held (is_one_of ys)) (sym (take-append-le n xs (k ∷ []) front)) (beginning.safe n front)
  ];
}

-- a beginning without its end
pub beginning_left : (r : Rollout) (held xs ys : List ℕ) → IsSafeBeginning r held (xs ++ ys) → IsSafeBeginning r held xs
beginning_left r held xs ys beginning = record {
  known = All-left (λ i. i < step_count r) xs ys beginning.known;
  once = once_left xs ys beginning.once;
  safe = λ n within. subst (λ (zs : List ℕ). IsSafe r held (is_one_of zs)) (take-append-le n xs ys within)
      (beginning.safe n (let count = length-append xs ys in omega (arith, count, within)));
}

-- the last steps, in order
abbrev pub last_steps : Rollout → List ℕ → List ℕ
last_steps r held = steps_that r (λ k. comes_last (kind_of_step r held k))

-- a beginning that has each step but last ones makes an order with these behind it
pub beginning_ends : (r : Rollout) (held beginning : List ℕ) → IsRollout r → AreHeld r held → IsSafeBeginning r held beginning →
    ((k : ℕ) → is_one_of beginning k ≡ true → comes_last (kind_of_step r held k) ≡ false) →
    ((k : ℕ) → k < step_count r → comes_last (kind_of_step r held k) ≡ false → is_one_of beginning k ≡ true) →
    IsSafeOrder r held (beginning ++ last_steps r held)
beginning_ends r held beginning is are safe none_last whole = record {
  beginning = record {
    known = All-append (λ k. k < step_count r) beginning (last_steps r held) safe.known (that_known r last);
    once = once_append beginning (last_steps r held) safe.once (that_once r last)
        (λ k has there. both_ways (last k) (none_last k (has_one_of beginning k has)) (that_passes r last k (has_one_of (last_steps r held) k there)).1);
    safe = λ n within. elim (cases_lt (length beginning) n) [
      | inl past ↦ eased_safe r held all_done (is_one_of (take n (beginning ++ last_steps r held))) is
          (λ k near. elim (cases_Bool (is_one_of (take n (beginning ++ last_steps r held)) k)) [
            | inl yes' ↦ inl (sym yes')
            | inr no' ↦ elim (cases_Bool (last k)) [
              | inl is_last ↦ inr (inr (refl, no', last_is (kind_of_step r held k) is_last))
              | inr not_last ↦ absurd (both_ways (is_one_of (take n (beginning ++ last_steps r held)) k) no'
                  (has_one_of (take n (beginning ++ last_steps r held)) k
                  (has_taken beginning (last_steps r held) n k (omega (arith, past)) (one_of_has beginning k (whole k near not_last)))))
            ]
          ]) are.wanted
      | inr front ↦ subst (λ (ys : List ℕ). IsSafe r held (is_one_of ys)) (sym (take-append-le n beginning (last_steps r held) front)) (safe.safe n front)
    ];
  };
  all = λ k within. elim (cases_Bool (last k)) [
    | inl is_last ↦ Contains-append_right beginning (last_steps r held) k (contains_has (last_steps r held) k
        (one_of_has (last_steps r held) k (passes_that r last k within is_last)))
    | inr not_last ↦ Contains-append_left beginning (last_steps r held) k (contains_has beginning k (one_of_has beginning k (whole k within not_last)))
  ];
}
  where
    last : ℕ → Bool
    last k = comes_last (kind_of_step r held k)

    last_is : (kind : Kind) → comes_last kind ≡ true → kind ≡ Last
    last_is First is_last = absurd (false≢true is_last)
    last_is Between is_last = absurd (false≢true is_last)
    last_is Last is_last = refl

    has_taken : (xs ys : List ℕ) (n x : ℕ) → length xs ≤ n → Has xs x → Has (take n (xs ++ ys)) x
    has_taken [] ys n x past has = absurd has
    has_taken (y ∷ xs) ys zero x past has = absurd (omega arith)
    has_taken (y ∷ xs) ys (suc n) x past has = elim has [ inl same ↦ inl same | inr later ↦ inr (has_taken xs ys n x (omega arith) later) ]
