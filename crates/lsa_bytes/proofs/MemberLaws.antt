-- Numbers in rising order, and where links lead.
use Rattle.std.proofs.Common.{◌≡◌, ℕ, zero, suc, ◌+◌, ◌<◌, ◌≤◌, ◌&&◌, ◌||◌, Bool, true, false, cond, nat_eq, List, [], ◌∷◌, ◌++◌, length, take, drop, get_or, filter, map, is_ok, Result, Ok, Err, IsSorted, refl, sym, ap, subst, ◌∙◌, arith}
use Rattle.std.specs.Prelude.{MatchResult, nat_le}
use Rattle.std.specs.List.{list_any, AllZip}
use Rattle.std.specs.List.Sorted.{IsBinarySearchResult}
use Rattle.std.specs.Ordering.{nat_cmp}
use Rattle.std.proofs.lemmas.Bool.{eq-eqb, eqb-true, leb-true, leb-false, false_from_ne_true}
use Rattle.std.proofs.lemmas.List.{at_drop_more, get_or_default, take_more}
use Rattle.std.proofs.lemmas.List.Folds.{list_any_at, list_any_none}
use Rattle.std.proofs.lemmas.List.Sorted.{IsNonDecreasingBy-from_sort, searched}
use Rattle.lsa_bytes.specs.declared.LsaLink.{LsaLink}
use Rattle.lsa_bytes.specs.declared.Body.TheVariants.{Links}
use Rattle.lsa_bytes.specs.declared.Lsa.{Lsa}
use Rattle.lsa_bytes.specs.declared.ends.Ends.{Ends}
use Rattle.lsa_bytes.specs.AreaGraphs.{has_link}
use Rattle.lsa_bytes.specs.Vertices.{AreEnds, ids_of_type}

-- what is found by halving is among the numbers, and nothing else is
pub found_by_halving : (numbers : List ℕ) (number : ℕ) (found : Result ℕ ℕ) → IsSorted nat_cmp numbers →
    IsBinarySearchResult (λ other. nat_cmp other number) numbers found → is_ok found ≡ list_any (λ other. nat_eq other number) numbers
found_by_halving numbers number found sorted result =
    by_found found (searched numbers number found result (λ i j le lt. IsNonDecreasingBy-from_sort (λ n. n) numbers sorted i j 0 le lt))
  where
    by_found : (found : Result ℕ ℕ) → MatchResult found (λ i. (i < length numbers) × (get_or numbers i 0 ≡ number))
        (λ i. (i ≤ length numbers) × ((k : ℕ) → k < i → get_or numbers k 0 < number) × ((k : ℕ) → i ≤ k → k < length numbers → number < get_or numbers k 0))
        → is_ok found ≡ list_any (λ other. nat_eq other number) numbers
    by_found (Ok i) at = sym (list_any_at (λ other. nat_eq other number) numbers i 0 at.0 (eq-eqb (get_or numbers i 0) number at.1))
    by_found (Err i) parts = sym (list_any_none (λ other. nat_eq other number) numbers (λ k d within.
        ap (λ (other : ℕ). nat_eq other number) (get_or_default numbers k d 0 within)
        ∙ false_from_ne_true (nat_eq (get_or numbers k 0) number) (λ same.
        by_side k within (nat_le i k) refl (eqb-true (get_or numbers k 0) number same))))
      where
        by_side : (k : ℕ) → k < length numbers → (b : Bool) → nat_le i k ≡ b → get_or numbers k 0 ≡ number → ⊥
        by_side k within true high same = omega (arith, parts.2 k (leb-true i k high) within, same)
        by_side k within false low same = omega (arith, parts.1 k (leb-false i k low), same)

-- the IDs of the links from one place on
pub ids_step : (kind i : ℕ) (links : List LsaLink) (link : LsaLink) → i < length links → link ≡ get_or links i link →
    ids_of_type kind (drop i links) ≡ cond (nat_eq link.kind kind) (link.id ∷ []) [] ++ ids_of_type kind (drop (i + 1) links)
ids_step kind i links link within is =
    at_drop_more (ids_of_type kind) links i link within
    ∙ ap (λ (l : LsaLink). ids_of_type kind (l ∷ drop (i + 1) links)) (sym is)
    ∙ by_kind (nat_eq link.kind kind)
  where
    by_kind : (b : Bool) → map (λ (l : LsaLink). l.id) (cond b (link ∷ filter (λ l. nat_eq l.kind kind) (drop (i + 1) links))
        (filter (λ l. nat_eq l.kind kind) (drop (i + 1) links)))
        ≡ cond b (link.id ∷ []) [] ++ ids_of_type kind (drop (i + 1) links)
    by_kind true = refl
    by_kind false = refl

-- an ID is among those of the links of a type exactly where there is such a link
pub ids_pass : (kind id : ℕ) (links : List LsaLink) → list_any (λ other. nat_eq other id) (ids_of_type kind links) ≡ has_link kind id (Links links)
ids_pass kind id [] = refl
ids_pass kind id (link ∷ links) = by_kind (nat_eq link.kind kind) (ids_pass kind id links)
  where
    by_kind : (b : Bool) → list_any (λ other. nat_eq other id) (ids_of_type kind links) ≡ has_link kind id (Links links) →
        list_any (λ other. nat_eq other id) (map (λ (l : LsaLink). l.id) (cond b (link ∷ filter (λ l. nat_eq l.kind kind) links)
        (filter (λ l. nat_eq l.kind kind) links)))
        ≡ (b && nat_eq link.id id || has_link kind id (Links links))
    by_kind true rest = ap (λ (c : Bool). nat_eq link.id id || c) rest
    by_kind false rest = rest

-- where each of some LSAs leads
abbrev Lead : List Lsa → List Ends → Type 0
Lead lsas ends = AllZip (λ lsa end. AreEnds lsa.body end) lsas ends

lead_push : (lsas : List Lsa) (ends : List Ends) (lsa : Lsa) (end : Ends) → Lead lsas ends → AreEnds lsa.body end →
    Lead (lsas ++ lsa ∷ []) (ends ++ end ∷ [])
lead_push [] [] lsa end lead leads = (leads, tt)
lead_push [] (other ∷ ends) lsa end lead leads = absurd lead
lead_push (first ∷ lsas) [] lsa end lead leads = absurd lead
lead_push (first ∷ lsas) (other ∷ ends) lsa end lead leads = (lead.0, lead_push lsas ends lsa end lead.1 leads)

pub lead_more : (lsas : List Lsa) (ends new : List Ends) (i : ℕ) (lsa : Lsa) (end : Ends) → i < length lsas → lsa ≡ get_or lsas i lsa →
    Lead (take i lsas) ends → AreEnds lsa.body end → new ≡ ends ++ end ∷ [] → Lead (take (i + 1) lsas) new
lead_more lsas ends new i lsa end within is lead leads new_is =
    subst (Lead (take (i + 1) lsas)) (sym new_is)
    (subst (λ (ls : List Lsa). Lead ls (ends ++ end ∷ [])) (ap (λ (l : Lsa). take i lsas ++ l ∷ []) is ∙ sym (take_more lsas i lsa within))
    (lead_push (take i lsas) ends lsa end lead leads))

pub lead_at : (lsas : List Lsa) (ends : List Ends) (i : ℕ) (d : Lsa) (e : Ends) → Lead lsas ends → i < length lsas →
    AreEnds (get_or lsas i d).body (get_or ends i e)
lead_at [] ends i d e lead within = absurd (omega (arith, within))
lead_at (lsa ∷ lsas) [] i d e lead within = absurd lead
lead_at (lsa ∷ lsas) (end ∷ ends) zero d e lead within = lead.0
lead_at (lsa ∷ lsas) (end ∷ ends) (suc i) d e lead within = lead_at lsas ends i d e lead.1 (omega (arith, within))

pub lead_long : (lsas : List Lsa) (ends : List Ends) → Lead lsas ends → length ends ≡ length lsas
lead_long [] [] lead = refl
lead_long [] (end ∷ ends) lead = absurd lead
lead_long (lsa ∷ lsas) [] lead = absurd lead
lead_long (lsa ∷ lsas) (end ∷ ends) lead = ap suc (lead_long lsas ends lead.1)
