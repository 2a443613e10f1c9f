-- Links in the order of their routers, taken router by router.
use Rattle.std.proofs.Common.{◌≡◌, ℕ, zero, suc, ◌+◌, ◌<◌, ◌≤◌, inl, inr, refl, sym, ◌∙◌, ap, List, [], ◌∷◌, ◌++◌, arith, cond, append_assoc}
use Rattle.std.specs.Prelude.{All, AllPairs, flat_map, ◌==◌}
use Rattle.std.proofs.lemmas.Bool.{cases_Bool, eqb-true, eqb-false, ne_eqb}
use Rattle.std.proofs.lemmas.List.Elements.{All-head, All-tail, All-weaker}
use Rattle.cost_base.proofs.ListLemmas.{pairs_head, pairs_tail}
use Rattle.lsa_writer.specs.declared.said.OwnedLink.{OwnedLink}
use Rattle.lsa_writer.specs.WrittenLsas.{own_links}

abbrev pub IsBehind : OwnedLink → OwnedLink → Type 0
IsBehind a b = a.router ≤ b.router

abbrev pub AreInOrder : List OwnedLink → Type 0
AreInOrder said = AllPairs IsBehind said

-- none is of a router before them
pub none_before : (router : ℕ) (said : List OwnedLink) → All (λ s. router < s.router) said → own_links router said ≡ []
none_before router [] all = refl
none_before router (s ∷ said) all =
    let above = All-head (λ x. router < x.router) s said all in
    ap (λ b. cond b (s ∷ own_links router said) (own_links router said)) (ne_eqb s.router router (λ same. omega (arith, above, same)))
    ∙ none_before router said (All-tail (λ x. router < x.router) s said all)

module _ {E : Type 0} (told : OwnedLink → List E) where
  -- what the links of so many routers tell, router by router
  abbrev pub grouped : ℕ → ℕ → List OwnedLink → List E
  grouped first zero said = []
  grouped first (suc n) said = flat_map told (own_links first said) ++ grouped (first + 1) n said

  -- a link of an earlier router plays no part
  pub skip : (first n : ℕ) (s : OwnedLink) (said : List OwnedLink) → s.router < first → grouped first n (s ∷ said) ≡ grouped first n said
  skip first zero s said below = refl
  skip first (suc n) s said below =
      ap (λ b. flat_map told (cond b (s ∷ own_links first said) (own_links first said))
      ++ grouped (first + 1) n (s ∷ said)) (ne_eqb s.router first (λ same. omega (arith, below, same)))
      ∙ ap (λ later. flat_map told (own_links first said) ++ later) (skip (first + 1) n s said (omega arith))

  -- a link in front of those behind it comes first
  pub front : (first n : ℕ) (s : OwnedLink) (said : List OwnedLink) → All (IsBehind s) said → first ≤ s.router →
      s.router < first + n → grouped first n (s ∷ said) ≡ told s ++ grouped first n said
  front first zero s said behind from below = absurd (omega arith)
  front first (suc n) s said behind from below =
      elim (cases_Bool (s.router == first)) [
        | inl same ↦
            let is : s.router ≡ first = eqb-true s.router first same in
            ap (λ b. flat_map told (cond b (s ∷ own_links first said) (own_links first said)) ++ grouped (first + 1) n (s ∷ said)) same
            ∙ ap (λ later. (told s ++ flat_map told (own_links first said)) ++ later) (skip (first + 1) n s said (omega arith))
            ∙ append_assoc (told s) (flat_map told (own_links first said)) (grouped (first + 1) n said)
        | inr other ↦
            let apart = eqb-false s.router first other in
            let above : first < s.router = omega (arith, apart) in
            let none : own_links first said ≡ [] =
            none_before first said (All-weaker (IsBehind s) (λ x. first < x.router) (λ x h. omega (arith, h, above))
            said behind) in
            ap (λ b. flat_map told (cond b (s ∷ own_links first said) (own_links first said)) ++ grouped (first + 1) n (s ∷ said)) other
            ∙ ap (λ (own : List OwnedLink). flat_map told own ++ grouped (first + 1) n (s ∷ said)) none
            ∙ front (first + 1) n s said behind (omega arith) (omega arith)
            ∙ sym (ap (λ (own : List OwnedLink). told s ++ (flat_map told own ++ grouped (first + 1) n said)) none)
      ]

  -- router by router they tell what they tell one after another
  pub in_groups : (first n : ℕ) (said : List OwnedLink) → AreInOrder said →
      All (λ s. (first ≤ s.router) × (s.router < first + n)) said → grouped first n said ≡ flat_map told said
  in_groups first n [] order within = none first n
    where
      none : (first n : ℕ) → grouped first n [] ≡ []
      none first zero = refl
      none first (suc n) = none (first + 1) n
  in_groups first n (s ∷ said) order within =
      let here = All-head (λ x. (first ≤ x.router) × (x.router < first + n)) s said within in
      front first n s said (pairs_head IsBehind s said order) here.0 here.1
      ∙ ap (λ later. told s ++ later)
      (in_groups first n said (pairs_tail IsBehind s said order)
      (All-tail (λ x. (first ≤ x.router) × (x.router < first + n)) s said within))
