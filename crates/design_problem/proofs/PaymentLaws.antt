-- Payments of two paths, and the terms that come of them variable by variable.
use Rattle.std.proofs.Common.{◌≡◌, ◌≢◌, ℕ, zero, suc, ◌+◌, ◌<◌, ◌≤◌, refl, sym, ◌∙◌, ap, subst, inl, inr, List, [], ◌∷◌, ◌++◌, All, length, take, get_or, map, cond, add-one, add-zero, zero-add, arith, append-nil, length-append}
use Rattle.std.specs.Prelude.{ℤ, pos, negsuc, ◌+ℤ◌, ◌-ℤ◌, nat_abs, Bool, true, false, not, ◌&&◌, ◌==◌, ◌⊎◌, MatchBool, count_by}
use Rattle.std.specs.List.Sorted.{IsNonDecreasingBy, IsPermutation}
use Rattle.std.proofs.lemmas.Bool.{cases_eq, eqb-true, eq-eqb, ne_eqb}
use Rattle.std.proofs.lemmas.Int.{ints}
use Rattle.std.proofs.lemmas.List.{append_assoc, get_or_default, length_push, take_more}
use Rattle.std.proofs.lemmas.List.Elements.{All-append, All-head, All-nil, All-push, All-tail, All-weaker}
use Rattle.std.proofs.lemmas.List.Quantifiers.{all_pairs_push}
use Rattle.std.proofs.lemmas.List.Sorted.{All-permutation, length_permutation, sum_by-IsPermutation}
use Rattle.std.proofs.lemmas.List.Sums.{sum_by-append, sum_by-cons, sum_by_push}
use Rattle.area_graph.specs.Area.{Area, edge_at, no_edge}
use Rattle.area_graph.specs.Costs.{IsPriced}
use Rattle.area_graph.specs.declared.Price.{Price}
use Rattle.area_graph.specs.declared.Price.TheVariants.{Fixed, Var, Zero}
use Rattle.design_problem.specs.declared.balance.Balance.{Balance}
use Rattle.design_problem.specs.declared.form.Term.{Term}
use Rattle.design_problem.specs.declared.payments.Payment.{Payment}
use Rattle.design_problem.specs.Forms.{AreTerms, coefficient_of, form_by, term_of}
use Rattle.design_problem.specs.Payments.{IsTurnedTo, balance_of, one_payment, payment_of, payments_of, times_paid, times_saved}
use Rattle.design_problem.specs.Rows.{fixed_cost, form_between, is_var, uses}
use Rattle.cost_base.specs.Lists.{numbers_from}
use Rattle.design_problem.proofs.TermLaws.{alone}

-- one edge more puts its payment at the end
pub payments_next : (g : Area) (by_rival : Bool) (es : List ℕ) (i : ℕ) → i < length es →
    payments_of g by_rival (take (i + 1) es) ≡ payments_of g by_rival (take i es) ++ payment_of by_rival (edge_at g (get_or es i 0)).price
payments_next g by_rival es i i_in = rw add-one (next es i i_in)
  where
    next : (es : List ℕ) (i : ℕ) → i < length es →
        payments_of g by_rival (take (suc i) es) ≡ payments_of g by_rival (take i es) ++ payment_of by_rival (edge_at g (get_or es i 0)).price
    next [] i i_in = absurd (omega arith)
    next (e ∷ es) zero i_in = append-nil (payment_of by_rival (edge_at g e).price)
    next (e ∷ es) (suc i) i_in =
        ap (λ (ps : List Payment). payment_of by_rival (edge_at g e).price ++ ps) (next es i (omega arith))
        ∙ sym (append_assoc (payment_of by_rival (edge_at g e).price) (payments_of g by_rival (take i es))
        (payment_of by_rival (edge_at g (get_or es i 0)).price))

-- what is counted of payments of a price
abbrev CountsAs : (Payment → Bool) → Bool → Price → (Price → Bool) → Type 0
CountsAs test by_rival price own = ◌≡◌ {A = ℕ} (count_by test (payment_of by_rival price)) (cond (own price) 1 0)

-- a path's payments, counted edge by edge
counted_of : (g : Area) (test : Payment → Bool) (by_rival : Bool) (own : Price → Bool) →
    ((price : Price) → CountsAs test by_rival price own) → (es : List ℕ) →
    count_by test (payments_of g by_rival es) ≡ count_by (λ e. own (edge_at g e).price) es
counted_of g test by_rival own each [] = refl
counted_of g test by_rival own each (e ∷ es) =
    sum_by-append (λ p. cond (test p) 1 0) (payment_of by_rival (edge_at g e).price) (payments_of g by_rival es)
    ∙ ap (λ n. n + count_by test (payments_of g by_rival es)) (each (edge_at g e).price)
    ∙ ap (λ n. cond (own (edge_at g e).price) 1 0 + n) (counted_of g test by_rival own each es)
    ∙ sym (sum_by-cons (λ i. cond (own (edge_at g i).price) 1 0) e es)

none_counted : (es : List ℕ) → count_by (λ e. false) es ≡ 0
none_counted [] = refl
none_counted (e ∷ es) = sum_by-cons (λ (i : ℕ). 0) e es ∙ zero-add (count_by (λ e. false) es) ∙ none_counted es

-- what the rival's payments, and what those of the wanted path add for a variable
own_paid : (v : ℕ) (price : Price) → CountsAs (λ p. p.by_rival && (p.var == v)) true price (is_var v)
own_paid v (Fixed c) = refl
own_paid v (Var u) = zero-add (cond (u == v) 1 0)
own_paid v Zero = refl

own_saved : (v : ℕ) (price : Price) → CountsAs (λ p. not p.by_rival && (p.var == v)) false price (is_var v)
own_saved v (Fixed c) = refl
own_saved v (Var u) = zero-add (cond (u == v) 1 0)
own_saved v Zero = refl

none_paid : (v : ℕ) (price : Price) → CountsAs (λ p. p.by_rival && (p.var == v)) false price (λ q. false)
none_paid v (Fixed c) = refl
none_paid v (Var u) = refl
none_paid v Zero = refl

none_saved : (v : ℕ) (price : Price) → CountsAs (λ p. not p.by_rival && (p.var == v)) true price (λ q. false)
none_saved v (Fixed c) = refl
none_saved v (Var u) = refl
none_saved v Zero = refl

-- the balances of the payments of two paths, in whichever order, are the differences of what they pay
pub paths_balance : (g : Area) (rival wanted : List ℕ) (ps : List Payment) →
    IsPermutation (payments_of g true rival ++ payments_of g false wanted) ps → (v : ℕ) →
    balance_of ps v ≡ (pos (uses g rival v) -ℤ pos (uses g wanted v))
paths_balance g rival wanted ps moved v =
    let both = payments_of g true rival ++ payments_of g false wanted in
    let paid : times_paid ps v ≡ uses g rival v =
    sum_by-IsPermutation (λ p. cond (p.by_rival && (p.var == v)) 1 0) both ps moved
    ∙ sum_by-append (λ p. cond (p.by_rival && (p.var == v)) 1 0) (payments_of g true rival) (payments_of g false wanted)
    ∙ ap (λ n. times_paid (payments_of g true rival) v + n) (counted_of g (λ p. p.by_rival && (p.var == v)) false (λ q. false) (none_paid v) wanted ∙
    none_counted wanted)
    ∙ add-zero (times_paid (payments_of g true rival) v)
    ∙ counted_of g (λ p. p.by_rival && (p.var == v)) true (is_var v) (own_paid v) rival in
    let saved : times_saved ps v ≡ uses g wanted v =
    sum_by-IsPermutation (λ p. cond (not p.by_rival && (p.var == v)) 1 0) both ps moved
    ∙ sum_by-append (λ p. cond (not p.by_rival && (p.var == v)) 1 0) (payments_of g true rival) (payments_of g false wanted)
    ∙ ap (λ n. n + times_saved (payments_of g false wanted) v) (counted_of g (λ p. not p.by_rival && (p.var == v)) true (λ q. false) (none_saved v) rival ∙
    none_counted rival)
    ∙ zero-add (times_saved (payments_of g false wanted) v)
    ∙ counted_of g (λ p. not p.by_rival && (p.var == v)) false (is_var v) (own_saved v) wanted in
    ap (λ n. pos n -ℤ pos (times_saved ps v)) paid ∙ ap (λ n. pos (uses g rival v) -ℤ pos n) saved

-- payments are of known variables, and not more than edges
known_one : (n : ℕ) (by_rival : Bool) (price : Price) → IsPriced n price → All (λ p. p.var < n) (payment_of by_rival price)
known_one n by_rival (Fixed c) priced = All-nil (λ p. p.var < n)
known_one n by_rival (Var v) priced = All-push (λ p. p.var < n) [] (record { var = v; by_rival = by_rival }) (All-nil (λ p. p.var < n)) priced
known_one n by_rival Zero priced = All-nil (λ p. p.var < n)

pub payments_known : (g : Area) (n : ℕ) (by_rival : Bool) (es : List ℕ) → All (λ edge. IsPriced n edge.price) g.edges →
    All (λ e. e < length g.edges) es → All (λ p. p.var < n) (payments_of g by_rival es)
payments_known g n by_rival [] priced known = All-nil (λ p. p.var < n)
payments_known g n by_rival (e ∷ es) priced known =
    All-append (λ p. p.var < n) (payment_of by_rival (edge_at g e).price) (payments_of g by_rival es)
    (known_one n by_rival (edge_at g e).price (priced e no_edge (All-head (λ e. e < length g.edges) e es known)))
    (payments_known g n by_rival es priced (All-tail (λ e. e < length g.edges) e es known))

few_one : (by_rival : Bool) (price : Price) → length (payment_of by_rival price) ≤ 1
few_one by_rival (Fixed c) = omega arith
few_one by_rival (Var v) = omega arith
few_one by_rival Zero = omega arith

pub payments_few : (g : Area) (by_rival : Bool) (es : List ℕ) → length (payments_of g by_rival es) ≤ length es
payments_few g by_rival [] = omega arith
payments_few g by_rival (e ∷ es) =
    let one = few_one by_rival (edge_at g e).price in
    let rest = payments_few g by_rival es in
    let count = length-append (payment_of by_rival (edge_at g e).price) (payments_of g by_rival es) in
    omega arith

-- one payment more, of its variable and of another one
counted_here : (p : Payment) (v : ℕ) → p.var ≡ v →
    (pos (cond (p.by_rival && (p.var == v)) 1 0) -ℤ pos (cond (not p.by_rival && (p.var == v)) 1 0)) ≡ one_payment p.by_rival
counted_here p v here = rw (eq-eqb p.var v here) (of_mark p.by_rival)
  where
    of_mark : (b : Bool) → (pos (cond (b && true) 1 0) -ℤ pos (cond (not b && true) 1 0)) ≡ one_payment b
    of_mark true = refl
    of_mark false = refl

counted_else : (b : Bool) (u v : ℕ) → (u ≡ v → ⊥) → ◌≡◌ {A = ℕ} (cond (b && (u == v)) 1 0) 0
counted_else true u v other = rw (ne_eqb u v other) refl
counted_else false u v other = refl

pushed : (ps : List Payment) (p : Payment) (v : ℕ) →
    balance_of (ps ++ p ∷ []) v
    ≡ (balance_of ps v +ℤ (pos (cond (p.by_rival && (p.var == v)) 1 0) -ℤ pos (cond (not p.by_rival && (p.var == v)) 1 0)))
pushed ps p v =
    let paid = sum_by_push (λ q. cond (q.by_rival && (q.var == v)) 1 0) ps p in
    let saved = sum_by_push (λ q. cond (not q.by_rival && (q.var == v)) 1 0) ps p in
    ap (λ n. pos n -ℤ pos (times_saved (ps ++ p ∷ []) v)) paid
    ∙ ap (λ n. pos (times_paid ps v + cond (p.by_rival && (p.var == v)) 1 0) -ℤ pos n) saved
    ∙ split (times_paid ps v) (cond (p.by_rival && (p.var == v)) 1 0) (times_saved ps v) (cond (not p.by_rival && (p.var == v)) 1 0)
  where
    split : (a b c d : ℕ) → (pos (a + b) -ℤ pos (c + d)) ≡ ((pos a -ℤ pos c) +ℤ (pos b -ℤ pos d))
    split a b c d = omega (arith, ints)

balance_here : (ps : List Payment) (p : Payment) (v : ℕ) → p.var ≡ v →
    balance_of (ps ++ p ∷ []) v ≡ (balance_of ps v +ℤ one_payment p.by_rival)
balance_here ps p v here = pushed ps p v ∙ ap (λ z. balance_of ps v +ℤ z) (counted_here p v here)

balance_else : (ps : List Payment) (p : Payment) (v : ℕ) → (p.var ≡ v → ⊥) → balance_of (ps ++ p ∷ []) v ≡ balance_of ps v
balance_else ps p v other =
    pushed ps p v
    ∙ ap (λ n. balance_of ps v +ℤ (pos n -ℤ pos (cond (not p.by_rival && (p.var == v)) 1 0))) (counted_else p.by_rival p.var v other)
    ∙ ap (λ n. balance_of ps v +ℤ (pos 0 -ℤ pos n)) (counted_else (not p.by_rival) p.var v other)
    ∙ nothing (balance_of ps v)
  where
    nothing : (z : ℤ) → (z +ℤ (pos 0 -ℤ pos 0)) ≡ z
    nothing z = omega (arith, ints)

-- a variable's coefficient behind terms of earlier ones
behind : (ts us : List Term) (v : ℕ) → All (λ t. t.var < v) ts → coefficient_of (ts ++ us) v ≡ coefficient_of us v
behind [] us v before = refl
behind (t ∷ ts) us v before =
    let first : t.var < v = All-head (λ (u : Term). u.var < v) t ts before in
    ap (λ (b : Bool). cond b t.coefficient (coefficient_of (ts ++ us) v)) (ne_eqb t.var v (λ (same : t.var ≡ v). absurd (omega arith)))
    ∙ behind ts us v (All-tail (λ (u : Term). u.var < v) t ts before)

own_term : (v : ℕ) (s : ℤ) → coefficient_of (term_of v s) v ≡ s
own_term v (pos zero) = refl
own_term v (pos (suc n)) = ap (λ (b : Bool). cond b (pos (suc n)) (pos 0)) (eq-eqb v v refl)
own_term v (negsuc n) = ap (λ (b : Bool). cond b (negsuc n) (pos 0)) (eq-eqb v v refl)

other_term : (w v : ℕ) (s : ℤ) → (w ≡ v → ⊥) → coefficient_of (term_of w s) v ≡ pos 0
other_term w v (pos zero) other = refl
other_term w v (pos (suc n)) other = ap (λ (b : Bool). cond b (pos (suc n)) (pos 0)) (ne_eqb w v other)
other_term w v (negsuc n) other = ap (λ (b : Bool). cond b (negsuc n) (pos 0)) (ne_eqb w v other)

-- the coefficient of a variable whose term comes at the end, and of another one
at_end : (ts : List Term) (w : ℕ) (s : ℤ) → AreTerms w ts → coefficient_of (ts ++ term_of w s) w ≡ s
at_end ts w s are = behind ts (term_of w s) w are.known ∙ own_term w s

else_end : (ts : List Term) (w v : ℕ) (s : ℤ) → (w ≡ v → ⊥) → coefficient_of (ts ++ term_of w s) v ≡ coefficient_of ts v
else_end [] w v s other = other_term w v s other
else_end (t ∷ ts) w v s other = ap (λ z. cond (t.var == v) t.coefficient z) (else_end ts w v s other)

-- terms of earlier variables, and one at the end
pub some_or_none : (s : ℤ) → (s ≡ pos 0) ⊎ (s ≢ pos 0)
some_or_none (pos zero) = inl refl
some_or_none (pos (suc n)) = inr (λ e. let f : ⊥ = omega (arith, ints, e) in f)
some_or_none (negsuc n) = inr (λ e. let f : ⊥ = omega (arith, ints, e) in f)

pub more_terms : (m w : ℕ) (s : ℤ) (ts : List Term) → AreTerms w ts → w ≤ m → (s ≢ pos 0 → w < m) → AreTerms m (ts ++ term_of w s)
more_terms m w s ts are up within =
    elim (some_or_none s) [
      | inl none ↦
          subst (λ (z : ℤ). AreTerms m (ts ++ term_of w z)) (sym none) (subst (AreTerms m) (sym (append-nil ts)) (record {
            known = earlier;
            rising = are.rising;
            some = are.some;
          }))
      | inr some ↦
          let t : Term = record { var = w; coefficient = s } in
          let inside = within some in
          subst (λ (us : List Term). AreTerms m (ts ++ us)) (sym (alone w s some)) (record {
            known = All-push (λ (u : Term). u.var < m) ts t earlier inside;
            rising = all_pairs_push (λ (u x : Term). u.var < x.var) ts t are.rising (λ k d k_in. are.known k d k_in);
            some = All-push (λ (u : Term). u.coefficient ≢ pos 0) ts t are.some some;
          })
    ]
  where
    earlier : All (λ (t : Term). t.var < m) ts
    earlier = All-weaker (λ (t : Term). t.var < w) (λ (t : Term). t.var < m) (λ t before. omega arith) ts are.known

-- The terms and the balance of the first payments, which stand in the order of their variables: with the term of the
-- balance they tell how much more often each variable is paid by the rival.
pub record AreBalanced (n : ℕ) (ts : List Term) (balance : Balance) (ps : List Payment) : Type 0 where
  pub terms : AreTerms balance.var ts
  pub within : balance.var ≤ n
  pub known : balance.sum ≢ pos 0 → balance.var < n
  pub told : (v : ℕ) → coefficient_of (ts ++ term_of balance.var balance.sum) v ≡ balance_of ps v
  pub small : nat_abs balance.sum ≤ length ps

pub none_balanced : (n : ℕ) → AreBalanced n [] (record { var = 0; sum = pos 0 }) []
none_balanced n = record {
  terms = record {
    known = All-nil (λ (t : Term). t.var < 0);
    rising = λ i j d i_in j_in. absurd (omega arith);
    some = All-nil (λ (t : Term). t.coefficient ≢ pos 0);
  };
  within = omega arith;
  known = λ some. absurd (some refl);
  told = λ v. refl;
  small = omega arith;
}

one_more : (s : ℤ) (count : ℕ) (by_rival : Bool) → nat_abs s ≤ count → nat_abs (s +ℤ one_payment by_rival) ≤ count + 1
one_more (pos m) count true small = omega (arith, ints)
one_more (pos m) count false small = omega (arith, ints)
one_more (negsuc m) count true small = omega (arith, ints)
one_more (negsuc m) count false small = omega (arith, ints)

-- a balance of the payment's variable goes on
goes_on : (n : ℕ) (ts : List Term) (w : ℕ) (s : ℤ) (ps : List Payment) (p : Payment) →
    AreBalanced n ts (record { var = w; sum = s }) ps → p.var ≡ w → p.var < n →
    AreBalanced n ts (record { var = w; sum = s +ℤ one_payment p.by_rival }) (ps ++ p ∷ [])
goes_on n ts w s ps p are here inside = record {
  terms = are.terms;
  within = are.within;
  known = λ some. omega arith;
  told = λ v. elim (cases_eq w v) [
    | inl same ↦
        subst (λ (u : ℕ). coefficient_of (ts ++ term_of w (s +ℤ one_payment p.by_rival)) u ≡ balance_of (ps ++ p ∷ []) u) same
        (at_end ts w (s +ℤ one_payment p.by_rival) are.terms
        ∙ ap (λ z. z +ℤ one_payment p.by_rival) (sym (at_end ts w s are.terms) ∙ are.told w)
        ∙ sym (balance_here ps p w here))
    | inr other ↦
        else_end ts w v (s +ℤ one_payment p.by_rival) other ∙ sym (else_end ts w v s other) ∙ are.told v
        ∙ sym (balance_else ps p v (λ same. other (sym here ∙ same)))
  ];
  small = let more = one_more s (length ps) p.by_rival are.small in let longer = length_push ps p in omega arith;
}

-- else its term comes to the end, and another one begins
begins : (n : ℕ) (ts : List Term) (w : ℕ) (s : ℤ) (ps : List Payment) (p : Payment) →
    AreBalanced n ts (record { var = w; sum = s }) ps → w < p.var → p.var < n →
    AreBalanced n (ts ++ term_of w s) (record { var = p.var; sum = pos 0 +ℤ one_payment p.by_rival }) (ps ++ p ∷ [])
begins n ts w s ps p are up inside =
    let one = pos 0 +ℤ one_payment p.by_rival in
    let longer = more_terms p.var w s ts are.terms (omega arith) (λ some. up) in
    let before : balance_of ps p.var ≡ pos 0 =
    sym (are.told p.var) ∙ ap (λ us. coefficient_of us p.var) (sym (append-nil (ts ++ term_of w s)))
    ∙ behind (ts ++ term_of w s) [] p.var longer.known in
    record {
      terms = longer;
      within = omega arith;
      known = λ some. inside;
      told = λ v. elim (cases_eq p.var v) [
        | inl same ↦
            subst (λ (u : ℕ). coefficient_of ((ts ++ term_of w s) ++ term_of p.var one) u ≡ balance_of (ps ++ p ∷ []) u) same
            (at_end (ts ++ term_of w s) p.var one longer ∙ ap (λ z. z +ℤ one_payment p.by_rival) (sym before) ∙ sym (balance_here ps p p.var refl))
        | inr other ↦
            else_end (ts ++ term_of w s) p.var v one other ∙ are.told v ∙ sym (balance_else ps p v other)
      ];
      small = let more = one_more (pos 0) 0 p.by_rival (omega arith) in let count = length_push ps p in omega arith;
    }

pub balanced_next : (n : ℕ) (ts news : List Term) (balance turned new : Balance) (ps : List Payment) (p : Payment) →
    AreBalanced n ts balance ps → IsTurnedTo balance p.var ts news turned → new.var ≡ turned.var →
    new.sum ≡ (turned.sum +ℤ one_payment p.by_rival) → balance.var ≤ p.var → p.var < n →
    AreBalanced n news new (ps ++ p ∷ [])
balanced_next n ts news balance turned new ps p are is same_var sums up inside = by_test (balance.var == p.var) refl is
  where
    of : Balance → List Term → Type 0
    of before us = AreBalanced n us (record { var = before.var; sum = before.sum +ℤ one_payment p.by_rival }) (ps ++ p ∷ [])

    counted_on : (before : Balance) (us : List Term) → turned ≡ before → news ≡ us → of before us → AreBalanced n news new (ps ++ p ∷ [])
    counted_on before us is_before are_us done =
        subst (λ (b : Balance). AreBalanced n news b (ps ++ p ∷ []))
        (λ i. record { var = sym same_var i; sum = sym sums i })
        (subst (λ (b : Balance). of b news) (sym is_before) (subst (of before) (sym are_us) done))

    clash : true ≡ false → ⊥
    clash h = cc

    apart : (balance.var == p.var) ≡ false → balance.var ≢ p.var
    apart other same = clash (sym (eq-eqb balance.var p.var same) ∙ other)

    by_test : (test : Bool) → (balance.var == p.var) ≡ test →
        MatchBool test ((news ≡ ts) × (turned ≡ balance))
        ((news ≡ ts ++ term_of balance.var balance.sum) × (turned ≡ record { var = p.var; sum = pos 0 })) →
        AreBalanced n news new (ps ++ p ∷ [])
    by_test true same turns =
        counted_on balance ts turns.1 turns.0 (goes_on n ts balance.var balance.sum ps p are (sym (eqb-true balance.var p.var same)) inside)
    by_test false other turns =
        counted_on (record { var = p.var; sum = pos 0 }) (ts ++ term_of balance.var balance.sum) turns.1 turns.0
        (begins n ts balance.var balance.sum ps p are (omega (arith, up, apart other)) inside)

-- the variable of the balance is then that of the payment
pub turned_var : (balance turned : Balance) (var : ℕ) (ts news : List Term) → IsTurnedTo balance var ts news turned → turned.var ≡ var
turned_var balance turned var ts news is = by_test (balance.var == var) refl is
  where
    by_test : (test : Bool) → (balance.var == var) ≡ test →
        MatchBool test ((news ≡ ts) × (turned ≡ balance))
        ((news ≡ ts ++ term_of balance.var balance.sum) × (turned ≡ record { var = var; sum = pos 0 })) → turned.var ≡ var
    by_test true same turns = ap (λ (b : Balance). b.var) turns.1 ∙ eqb-true balance.var var same
    by_test false other turns = ap (λ (b : Balance). b.var) turns.1

-- one payment of those in order
pub balanced_turn : (n : ℕ) (ts news : List Term) (balance turned new : Balance) (ps : List Payment) (i : ℕ)
    (d : Payment) → i < length ps → AreBalanced n ts balance (take i ps) →
    IsTurnedTo balance (get_or ps i d).var ts news turned → new.var ≡ turned.var →
    new.sum ≡ (turned.sum +ℤ one_payment (get_or ps i d).by_rival) → balance.var ≤ (get_or ps i d).var →
    (get_or ps i d).var < n → AreBalanced n news new (take (i + 1) ps)
balanced_turn n ts news balance turned new ps i d i_in are is same_var sums up inside =
    subst (AreBalanced n news new) (sym (take_more ps i d i_in))
    (balanced_next n ts news balance turned new (take i ps) (get_or ps i d) are is same_var sums up inside)

-- and none behind it is of an earlier variable
pub before_later : (balance turned new : Balance) (ts news : List Term) (ps : List Payment) (i : ℕ) (e : Payment) →
    i < length ps → IsNonDecreasingBy (λ p. p.var) ps → IsTurnedTo balance (get_or ps i e).var ts news turned →
    new.var ≡ turned.var → (k : ℕ) (d : Payment) → i + 1 ≤ k → k < length ps → new.var ≤ (get_or ps k d).var
before_later balance turned new ts news ps i e i_in rising is same_var k d past k_in =
    let up : (get_or ps i d).var ≤ (get_or ps k d).var = rising i k d (omega arith) k_in in
    let here = ap (λ (p : Payment). p.var) (get_or_default ps i e d i_in) in
    let reached = turned_var balance turned (get_or ps i e).var ts news is in
    omega arith

-- one edge's payment more
pub note_next : (g : Area) (by_rival : Bool) (es : List ℕ) (i : ℕ) (olds now news : List Payment) (price : Price) →
    i < length es → now ≡ olds ++ payments_of g by_rival (take i es) → news ≡ now ++ payment_of by_rival price →
    price ≡ (edge_at g (get_or es i 0)).price → news ≡ olds ++ payments_of g by_rival (take (i + 1) es)
note_next g by_rival es i olds now news price i_in so_far noted is =
    noted ∙ ap (λ ps. ps ++ payment_of by_rival price) so_far
    ∙ append_assoc olds (payments_of g by_rival (take i es)) (payment_of by_rival price)
    ∙ ap (λ q. olds ++ (payments_of g by_rival (take i es) ++ payment_of by_rival q)) is
    ∙ ap (λ ps. olds ++ ps) (sym (payments_next g by_rival es i i_in))

-- the payments of two paths, in whichever order
pub sorted_known : (g : Area) (n : ℕ) (rival wanted : List ℕ) (ps : List Payment) →
    IsPermutation (payments_of g true rival ++ payments_of g false wanted) ps →
    All (λ edge. IsPriced n edge.price) g.edges → All (λ e. e < length g.edges) rival →
    All (λ e. e < length g.edges) wanted → All (λ p. p.var < n) ps
sorted_known g n rival wanted ps moved priced rival_known wanted_known =
    All-permutation (λ (p : Payment). p.var < n) (payments_of g true rival ++ payments_of g false wanted) ps moved
    (All-append (λ p. p.var < n) (payments_of g true rival) (payments_of g false wanted)
    (payments_known g n true rival priced rival_known) (payments_known g n false wanted priced wanted_known))

pub sorted_few : (g : Area) (rival wanted : List ℕ) (ps : List Payment) →
    IsPermutation (payments_of g true rival ++ payments_of g false wanted) ps → length ps ≤ length rival + length wanted
sorted_few g rival wanted ps moved =
    let same = length_permutation (payments_of g true rival ++ payments_of g false wanted) ps moved in
    let count = length-append (payments_of g true rival) (payments_of g false wanted) in
    let first = payments_few g true rival in
    let second = payments_few g false wanted in
    omega arith

-- terms that tell the balances of two paths' payments make the form between them
pub form_balanced : (g : Area) (n : ℕ) (constant : ℤ) (wanted rival : List ℕ) (ps : List Payment) (ts : List Term) →
    IsPermutation (payments_of g true rival ++ payments_of g false wanted) ps →
    ((v : ℕ) → coefficient_of ts v ≡ balance_of ps v) →
    constant ≡ ((pos (fixed_cost g rival) -ℤ pos (fixed_cost g wanted)) -ℤ pos 1) →
    form_by n constant ts ≡ form_between g n wanted rival
form_balanced g n constant wanted rival ps ts moved told same =
    λ i. record {
      constant = same i;
      coefficients = map (λ v. (told v ∙ paths_balance g rival wanted ps moved v) i) (numbers_from 0 n);
    }
