-- How a tree of prefixes grows.
use Rattle.std.proofs.Common.{◌≡◌, ℕ, zero, suc, ◌+◌, ◌<◌, ◌≤◌, refl, sym, ◌∙◌, ap, subst, inl, inr, ◌⊎◌, List, [], ◌∷◌, ◌++◌, length, get_or, take, drop, arith, append_assoc, length-append, add-one, cond, Bool, true, false, Some, position}
use Rattle.std.specs.Prelude.{Contains, ◌==◌, ◌&&◌, if◌then◌else◌}
use Rattle.std.specs.List.{list_any}
use Rattle.std.proofs.lemmas.Bool.{and_parts, cases_lt, eqb-true}
use Rattle.std.proofs.lemmas.List.{get_or_append_left, get_or_default, take-append-drop, take_more}
use Rattle.std.proofs.lemmas.List.Folds.{Any-from_list_any}
use Rattle.std.proofs.lemmas.List.Quantifiers.{position-Some}
use Rattle.std.proofs.Math.Seq.{get_or-append_seam}
use Rattle.std.proofs.lemmas.List.Elements.{Contains-push_cases}
use Rattle.set_separation.specs.declared.prefix_tree.Step.{Step}
use Rattle.set_separation.specs.PrefixTrees.{BeginsOneOf, HasStep, IsPlaceAfter, IsGrown, IsPrefixStep, IsUnderway, no_step, prefix_of_place, step_at}

-- where the last element of a longer list stands: an equal list ends there, or goes on behind it
snoc_cut : (xs : List ℕ) (x : ℕ) (pre : List ℕ) (e : ℕ) (rest : List ℕ) → xs ++ x ∷ [] ≡ pre ++ e ∷ rest →
    ((pre ≡ xs) × (e ≡ x)) ⊎ ((more : List ℕ) × (xs ≡ pre ++ e ∷ more))
snoc_cut [] x [] e rest same = inl (refl, head same)
  where
    head : x ∷ [] ≡ e ∷ rest → e ≡ x
    head h = cc
snoc_cut [] x (p ∷ pre) e rest same = absurd (long pre (tail same))
  where
    tail : x ∷ [] ≡ p ∷ (pre ++ e ∷ rest) → [] ≡ pre ++ e ∷ rest
    tail h = cc

    long : (pre : List ℕ) → [] ≡ pre ++ e ∷ rest → ⊥
    long [] h = cc
    long (q ∷ pre) h = cc
snoc_cut (y ∷ xs) x [] e rest same = inr (xs, ap (λ (z : ℕ). z ∷ xs) (head same))
  where
    head : y ∷ (xs ++ x ∷ []) ≡ e ∷ rest → y ≡ e
    head h = cc
snoc_cut (y ∷ xs) x (p ∷ pre) e rest same =
    elim (snoc_cut xs x pre e rest (tail same)) [
      | inl last ↦ inl (both (sym (head same)) last.0, last.1)
      | inr more ↦ inr (more.0, both (head same) more.1)
    ]
  where
    head : y ∷ (xs ++ x ∷ []) ≡ p ∷ (pre ++ e ∷ rest) → y ≡ p
    head h = cc

    tail : y ∷ (xs ++ x ∷ []) ≡ p ∷ (pre ++ e ∷ rest) → xs ++ x ∷ [] ≡ pre ++ e ∷ rest
    tail h = cc

    both : {a b : ℕ} {xs ys : List ℕ} → a ≡ b → xs ≡ ys → (a ∷ xs) ≡ (b ∷ ys)
    both one two = cc

not_nil : (pre : List ℕ) (e : ℕ) (rest : List ℕ) → [] ≡ pre ++ e ∷ rest → ⊥
not_nil pre e rest same = let long = ap length same in let count = length-append pre (e ∷ rest) in omega arith

not_longer : (xs : List ℕ) (e : ℕ) (rest : List ℕ) → xs ≡ xs ++ e ∷ rest → ⊥
not_longer xs e rest same = let long = ap length same in let count = length-append xs (e ∷ rest) in omega arith

-- What a look-up among the steps tells.

-- the test that the steps of a tree are looked up by
abbrev pub is_step : ℕ → ℕ → Step → Bool
is_step place edge step = place == step.place && edge == step.edge

pub step_found : (steps : List Step) (place edge i : ℕ) → position (is_step place edge) steps ≡ Some i → IsPrefixStep steps place edge i
step_found steps place edge i at_i =
    let found = position-Some (is_step place edge) steps i no_step at_i in
    let both = and_parts (place == (step_at steps i).place) (edge == (step_at steps i).edge) found.1 in
    record { within = found.0; from = sym (eqb-true place (step_at steps i).place both.0); by = sym (eqb-true edge (step_at steps i).edge both.1) }

pub any_step : (steps : List Step) (place edge : ℕ) → list_any (is_step place edge) steps ≡ true → HasStep steps place edge
any_step steps place edge some =
    let any = Any-from_list_any (is_step place edge) steps some in
    let both = and_parts (place == any.1.place) (edge == any.1.edge) any.4 in
    let same : step_at steps any.0 ≡ any.1 = get_or_default steps any.0 no_step any.1 any.2 ∙ any.3 in (
      any.0,
      record {
        within = any.2;
        from = ap (λ (s : Step). s.place) same ∙ sym (eqb-true place any.1.place both.0);
        by = ap (λ (s : Step). s.edge) same ∙ sym (eqb-true edge any.1.edge both.1);
      },
    )

-- a key that isn't there comes last
pub keys_grown : (steps : List Step) (place edge : ℕ) → (HasStep steps place edge → ⊥) →
    (if list_any (is_step place edge) steps then steps else steps ++ record { place = place; edge = edge } ∷ [])
    ≡ steps ++ record { place = place; edge = edge } ∷ []
keys_grown steps place edge none = by_test (list_any (is_step place edge) steps) refl
  where
    by_test : (b : Bool) → list_any (is_step place edge) steps ≡ b →
        cond b steps (steps ++ record { place = place; edge = edge } ∷ [])
        ≡ steps ++ record { place = place; edge = edge } ∷ []
    by_test false lacks = refl
    by_test true some = absurd (none (any_step steps place edge some))

-- A path on its way into the tree.

pub underway_begins : (wanted done : List (List ℕ)) (steps : List Step) → IsGrown wanted done steps → IsUnderway wanted done [] 0 steps
underway_begins wanted done steps tree = record {
  tree = tree;
  known = omega arith;
  here = tree.root;
  passed = λ k e rest known same. absurd (not_nil (prefix_of_place tree.prefixes k) e rest same);
}

pub underway_ends : (wanted done : List (List ℕ)) (edges : List ℕ) (place : ℕ) (steps : List Step) →
    IsUnderway wanted done edges place steps → IsGrown wanted (done ++ edges ∷ []) steps
underway_ends wanted done edges place steps way = record {
  prefixes = way.tree.prefixes;
  count = way.tree.count;
  root = way.tree.root;
  before = way.tree.before;
  grown = way.tree.grown;
  different = way.tree.different;
  begun = way.tree.begun;
  passed = λ path listed k e rest known same. elim (Contains-push_cases done edges path listed) [
    | inl earlier ↦ way.tree.passed path earlier k e rest known same
    | inr last ↦ way.passed k e rest known (last ∙ same)
  ];
}

-- the step is there already
along : (wanted done : List (List ℕ)) (edges : List ℕ) (place e i : ℕ) (steps : List Step) →
    IsUnderway wanted done edges place steps → IsPrefixStep steps place e i →
    IsUnderway wanted done (edges ++ e ∷ []) (i + 1) steps
along wanted done edges place e i steps way step =
    let within = step.within in
    record {
      tree = way.tree;
      known = omega arith;
      here = way.tree.grown i step.within
          ∙ ap (λ (k : ℕ). prefix_of_place way.tree.prefixes k ++ (step_at steps i).edge ∷ []) step.from
          ∙ ap (λ (n : ℕ). prefix_of_place way.tree.prefixes place ++ n ∷ []) step.by
          ∙ ap (λ (es : List ℕ). es ++ e ∷ []) way.here;
      passed = λ k f rest known same. elim (snoc_cut edges e (prefix_of_place way.tree.prefixes k) f rest same) [
        | inl last ↦ (
            let at_place : k ≡ place = way.tree.different k place known way.known (last.0 ∙ sym way.here) in
            (i, record { within = step.within; from = step.from ∙ sym at_place; by = step.by ∙ sym last.1 }))
        | inr more ↦ way.passed k f more.0 known more.1
      ];
    }

-- what was said of the steps holds of more of them
step_kept : (steps : List Step) (more : List Step) (place e : ℕ) → HasStep steps place e → HasStep (steps ++ more) place e
step_kept steps more place e has =
    let same = get_or_append_left steps more no_step has.0 has.1.within in
    let within = has.1.within in (
      has.0,
      record {
        within = omega (arith, length-append steps more);
        from = ap (λ (s : Step). s.place) same ∙ has.1.from;
        by = ap (λ (s : Step). s.edge) same ∙ has.1.by;
      },
    )

module _ (wanted done : List (List ℕ)) (edges : List ℕ) (place e : ℕ) (steps : List Step)
    (way : IsUnderway wanted done edges place steps) (none : HasStep steps place e → ⊥)
    (begins : BeginsOneOf wanted (edges ++ e ∷ [])) where
  abbrev olds : List (List ℕ)
  olds = way.tree.prefixes

  abbrev news : List (List ℕ)
  news = olds ++ (edges ++ e ∷ []) ∷ []

  abbrev step : Step
  step = record { place = place; edge = e }

  abbrev longer : List Step
  longer = steps ++ step ∷ []

  long : length longer ≡ length steps + 1
  long = length-append steps (step ∷ [])

  old_prefix : (k : ℕ) → k ≤ length steps → prefix_of_place news k ≡ prefix_of_place olds k
  old_prefix k known = get_or_append_left olds ((edges ++ e ∷ []) ∷ []) [] k (omega (arith, way.tree.count))

  new_prefix : prefix_of_place news (length steps + 1) ≡ edges ++ e ∷ []
  new_prefix = ap (prefix_of_place news) (sym way.tree.count) ∙ get_or-append_seam olds (edges ++ e ∷ []) [] []

  old_step : (i : ℕ) → i < length steps → step_at longer i ≡ step_at steps i
  old_step i within = get_or_append_left steps (step ∷ []) no_step i within

  new_step : step_at longer (length steps) ≡ step
  new_step = get_or-append_seam steps step [] no_step

  -- the new prefix stood nowhere
  is_new : (k : ℕ) → k ≤ length steps → prefix_of_place olds k ≡ edges ++ e ∷ [] → ⊥
  is_new zero known same = not_nil edges e [] (sym way.tree.root ∙ same)
  is_new (suc i) known same =
      let within : i < length steps = omega arith in
      let s = step_at steps i in
      let cut = snoc_cut edges e (prefix_of_place olds s.place) s.edge [] (sym same ∙ ap (prefix_of_place olds) (sym (add-one i)) ∙ way.tree.grown i within) in
      elim cut [
        | inl last ↦ none (
          i,
          record {
            within = within;
            from = way.tree.different s.place place (let low = way.tree.before i within in omega arith) way.known (last.0 ∙ sym way.here);
            by = last.1;
          },
        )
        | inr more ↦ absurd (too_long s.place s.edge more.0 more.1 (sym same ∙ ap (prefix_of_place olds) (sym (add-one i)) ∙ way.tree.grown i within))
      ]
    where
      too_long : (k f : ℕ) (more : List ℕ) → edges ≡ prefix_of_place olds k ++ f ∷ more → edges ++ e ∷ [] ≡ prefix_of_place olds k ++ f ∷ [] → ⊥
      too_long k f more one two =
          let first = ap length one ∙ length-append (prefix_of_place olds k) (f ∷ more) in
          let second = sym (length-append edges (e ∷ [])) ∙ ap length two ∙ length-append (prefix_of_place olds k) (f ∷ []) in
          omega arith

  has_new : HasStep longer place e
  has_new = (length steps, record { within = omega (arith, long); from = ap (λ (s : Step). s.place) new_step; by = ap (λ (s : Step). s.edge) new_step })

  old_or_new : (P : ℕ → Type 0) (n : ℕ) → ((k : ℕ) → k ≤ n → P k) → P (n + 1) → (k : ℕ) → k ≤ n + 1 → P k
  old_or_new P n olds last k known = elim (cases_lt k (n + 1)) [
    | inl before ↦ olds k (omega arith)
    | inr past ↦ subst P (let same : n + 1 ≡ k = omega arith in same) last
  ]

  grows : IsGrown wanted done longer
  grows = record {
    prefixes = news;
    count = length-append olds ((edges ++ e ∷ []) ∷ []) ∙ ap (λ (n : ℕ). n + 1) (way.tree.count ∙ sym long);
    root = old_prefix 0 (omega arith) ∙ way.tree.root;
    before = λ i within. elim (cases_lt i (length steps)) [
      | inl old ↦ subst (λ (s : Step). s.place ≤ i) (sym (old_step i old)) (way.tree.before i old)
      | inr past ↦ (
          let last : length steps ≡ i = omega (arith, long) in
          subst (λ (n : ℕ). (step_at longer n).place ≤ n) last (subst (λ (s : Step). s.place ≤ length steps) (sym new_step) way.known))
    ];
    grown = λ i within. elim (cases_lt i (length steps)) [
      | inl old ↦ (
          let s = step_at steps i in
          let low = way.tree.before i old in
          old_prefix (i + 1) (omega arith) ∙ way.tree.grown i old ∙ ap (λ (es : List ℕ). es ++ s.edge ∷ []) (sym (old_prefix s.place (omega arith)))
          ∙ ap (λ (t : Step). prefix_of_place news t.place ++ t.edge ∷ []) (sym (old_step i old)))
      | inr past ↦ (
          let last : length steps ≡ i = omega (arith, long) in
          subst (λ (n : ℕ). prefix_of_place news (n + 1) ≡ prefix_of_place news (step_at longer n).place ++ (step_at longer n).edge ∷ []) last
          (new_prefix ∙ ap (λ (es : List ℕ). es ++ e ∷ []) (sym way.here ∙ sym (old_prefix place way.known))
          ∙ ap (λ (t : Step). prefix_of_place news t.place ++ t.edge ∷ []) (sym new_step)))
    ];
    different = λ k l k_known l_known same. elim (cases_lt k (length steps + 1)) [
      | inl k_old ↦ elim (cases_lt l (length steps + 1)) [
        | inl l_old ↦ way.tree.different k l (omega arith) (omega arith) (sym (old_prefix k (omega arith)) ∙ same ∙ old_prefix l (omega arith))
        | inr l_new ↦ (
            let last : l ≡ length steps + 1 = omega (arith, long) in
            absurd (is_new k (omega arith) (sym (old_prefix k (omega arith)) ∙ same ∙ ap (prefix_of_place news) last ∙ new_prefix)))
      ]
      | inr k_new ↦ (
          let k_last : k ≡ length steps + 1 = omega (arith, long) in
          elim (cases_lt l (length steps + 1)) [
            | inl l_old ↦ absurd (is_new l (omega arith) (sym (old_prefix l (omega arith)) ∙ sym same ∙ ap (prefix_of_place news) k_last ∙ new_prefix))
            | inr l_new ↦ omega (arith, long)
          ])
    ];
    begun = λ k known.
        old_or_new (λ (n : ℕ). BeginsOneOf wanted (prefix_of_place news n)) (length steps)
        (λ n old. subst (BeginsOneOf wanted) (sym (old_prefix n old)) (way.tree.begun n old))
        (subst (BeginsOneOf wanted) (sym new_prefix) begins) k (omega (arith, long));
    passed = λ path listed k f rest known same. elim (cases_lt k (length steps + 1)) [
      | inl old ↦ step_kept steps (step ∷ []) k f
          (way.tree.passed path listed k f rest (omega arith)
          (same ∙ ap (λ (es : List ℕ). es ++ f ∷ rest) (old_prefix k (omega arith))))
      | inr new ↦ (
          let last : k ≡ length steps + 1 = omega (arith, long) in
          let whole = same ∙ ap (λ (n : ℕ). prefix_of_place news n ++ f ∷ rest) last
          ∙ ap (λ (es : List ℕ). es ++ f ∷ rest) new_prefix ∙ append_assoc edges (e ∷ []) (f ∷ rest)
          ∙ ap (λ (es : List ℕ). es ++ e ∷ f ∷ rest) (sym way.here) in
          absurd (none (way.tree.passed path listed place e (f ∷ rest) way.known whole)))
    ];
  }

  anew : IsUnderway wanted done (edges ++ e ∷ []) (length steps + 1) longer
  unfolding grows
  anew = record {
    tree = grows;
    known = omega (arith, long);
    here = new_prefix;
    passed = λ k f rest known same. elim (cases_lt k (length steps + 1)) [
      | inl old ↦ elim (snoc_cut edges e (prefix_of_place olds k) f rest (same ∙ ap (λ (es : List ℕ). es ++ f ∷ rest) (old_prefix k (omega arith)))) [
        | inl last ↦ (
            let at_place : k ≡ place = way.tree.different k place (omega arith) way.known (last.0 ∙ sym way.here) in
            subst (λ (n : ℕ). HasStep longer n f) (sym at_place) (subst (λ (n : ℕ). HasStep longer place n) (sym last.1) has_new))
        | inr more ↦ step_kept steps (step ∷ []) k f (way.passed k f more.0 (omega arith) more.1)
      ]
      | inr new ↦ (
          let last : k ≡ length steps + 1 = omega (arith, long) in
          absurd (not_longer (edges ++ e ∷ []) f rest (same ∙ ap (λ (n : ℕ). prefix_of_place news n ++ f ∷ rest) last
          ∙ ap (λ (es : List ℕ). es ++ f ∷ rest) new_prefix)))
    ];
  }

-- one edge more of the path
pub underway_more : (wanted done : List (List ℕ)) (path : List ℕ) (j place next e : ℕ) (old new : List Step) →
    Contains wanted path → j < length path → e ≡ get_or path j 0 → IsUnderway wanted done (take j path) place old →
    IsPlaceAfter old new place e next → IsUnderway wanted done (take (j + 1) path) next new
underway_more wanted done path j place next e old new listed within is way excluded =
    subst (λ (es : List ℕ). IsUnderway wanted done es next new) (sym whole) (elim excluded [
      | inl there ↦
          subst (λ (n : ℕ). IsUnderway wanted done (take j path ++ e ∷ []) n new) (sym there.1.2)
          (subst (λ (s : List Step). IsUnderway wanted done (take j path ++ e ∷ []) (there.1.0 + 1) s) (sym there.0)
          (along wanted done (take j path) place e there.1.0 old way there.1.1))
      | inr made ↦
          subst (λ (n : ℕ). IsUnderway wanted done (take j path ++ e ∷ []) n new) (sym made.2)
          (subst (λ (s : List Step). IsUnderway wanted done (take j path ++ e ∷ []) (length old + 1) s) (sym made.0)
          (anew wanted done (take j path) place e old way made.1 begins))
    ])
  where
    whole : take (j + 1) path ≡ take j path ++ e ∷ []
    whole = take_more path j 0 within ∙ ap (λ (n : ℕ). take j path ++ n ∷ []) (sym is)

    begins : BeginsOneOf wanted (take j path ++ e ∷ [])
    begins = record {
      path = path;
      listed = listed;
      more = drop (j + 1) path;
      same = sym (take-append-drop (j + 1) path)
          ∙ ap (λ (es : List ℕ). es ++ drop (j + 1) path) whole;
    }
