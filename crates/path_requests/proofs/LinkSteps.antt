-- A loop over links, one link further: what it has made, and what the links that are left add.
use Rattle.std.proofs.Common.{◌≡◌, ◌∙◌, ℕ, ◌+◌, ◌<◌, ◌++◌, ap, sym, refl, arith, List, [], ◌∷◌, Some, length, get_or, drop, take, map, append_assoc, slice_get}
use Rattle.std.proofs.lemmas.List.{at_drop_more, map-append, take_more}
use Rattle.std.proofs.lemmas.Option.{slice_get-get_or}
use Rattle.std.specs.Prelude.{Option, None, option_to_list}
use Rattle.std.specs.List.{filter_map, cons_option}
use Rattle.lsdb_build.specs.declared.Linked.{Linked}

-- the link is there
pub link_there : (links : List Linked) (i : ℕ) (link : Linked) → i < length links → link ≡ get_or links i link → slice_get links i ≡ Some link
link_there links i link within is = slice_get-get_or links i link within ∙ ap Some (sym is)

-- what a function makes of one link more, or of one item
pub one_more : {X A : Type 0} → (f : X → A) (read xs : List X) (i : ℕ) (x : X) (before now : List A) (y : A) → read ≡ xs → i < length read →
    x ≡ get_or read i x →
    before ≡ map f (take i xs) → y ≡ f x → now ≡ before ++ y ∷ [] → now ≡ map f (take (i + 1) xs)
one_more {X} {A} f read xs i x before now y same within is are makes is_now =
    let there : i < length xs = omega (arith, ap length same, within) in
    is_now ∙ ap (λ (ys : List A). ys ++ y ∷ []) are
    ∙ ap (λ (z : A). map f (take i xs) ++ z ∷ []) (makes ∙ ap f (is ∙ ap (λ (ls : List X). get_or ls i x) same))
    ∙ sym (map-append f (take i xs) (get_or xs i x ∷ [])) ∙ sym (ap (map f) (take_more xs i x there))

bound_first : {R : Type 0} → (bound : R → ℕ) (o : Option R) (xs : List R) → map bound (cons_option o xs) ≡ map bound (option_to_list o) ++ map bound xs
bound_first bound None xs = refl
bound_first bound (Some x) xs = refl

-- the bound of one variable more
pub bound_added : {R : Type 0} → (bound : R → ℕ) (range : ℕ → Option R) (own : List ℕ) (i : ℕ) (before now : List ℕ) → i < length own →
    now ≡ before ++ map bound (option_to_list (range (get_or own i 0))) →
    before ++ map bound (filter_map range (drop i own)) ≡ map bound (filter_map range own) →
    now ++ map bound (filter_map range (drop (i + 1) own)) ≡ map bound (filter_map range own)
bound_added {R} bound range own i before now within is_now so_far =
    let bounds : List ℕ → List ℕ = λ links. map bound (filter_map range links) in
    let link = get_or own i 0 in
    let rest = bounds (drop (i + 1) own) in
    let here = map bound (option_to_list (range link)) in
    let left : bounds (drop i own) ≡ here ++ rest = at_drop_more bounds own i 0 within ∙ bound_first bound (range link) (filter_map range (drop (i + 1) own)) in
    ap (λ (ys : List ℕ). ys ++ rest) is_now ∙ append_assoc {A = ℕ} before here rest ∙ ap (λ (ys : List ℕ). before ++ ys) (sym left) ∙ so_far
