-- What lasts from one advisor to the next while they are asked and told.
use Rattle.std.proofs.Common.{◌≡◌, ℕ, ◌+◌, ◌<◌, ◌≤◌, List, [], ◌∷◌, ◌++◌, length, take, drop, get_or, sym, subst, arith, append_assoc, add-one, refl, ap, suc, ◌∙◌, append-nil}
use Rattle.std.proofs.Math.ListN.{set}
use Rattle.std.proofs.Math.Seq.{drop-cons, take-suc-set}
use Rattle.std.proofs.lemmas.List.{drop-set-lt, drop_all, take_all, take-append-le}
use Rattle.std.specs.List.{AllZip, remove}
use Rattle.cut_advisors.specs.Choosing.{IsChosen}

-- where the rest turns into some list as R says, the whole turns into what was told and that list
abbrev pub IsTold : {A : Type 0} → List A → List A → ℕ → (A → A → Type 0) → Type 0
IsTold whole now i R = (others : List _) → AllZip R (drop i now) others → AllZip R whole (take i now ++ others)

-- one more is told
pub told_more : {A : Type 0} (R : A → A → Type 0) (whole now : List A) (i : ℕ) (d e : A) → i < length now →
    R (get_or now i d) e → IsTold whole now i R → IsTold whole (set now i e) (i + 1) R
told_more R whole now i d e h r before others rest =
    let P : List _ → Type 0 = λ l. AllZip R whole l in
    let Q : List _ → Type 0 = λ l. AllZip R l (e ∷ others) in
    let S : List _ → Type 0 = λ l. AllZip R l others in
    let tail : AllZip R (drop (suc i) now) others = subst S (drop-set-lt (suc i) now i e (omega arith)) (rw add-one at rest) in
    let here : AllZip R (drop i now) (e ∷ others) = subst Q (sym (drop-cons now i d h)) (r, tail) in
    rw (add-one, take-suc-set now i e h, append_assoc) (before (e ∷ others) here)

-- all are told
pub told_all : {A : Type 0} (R : A → A → Type 0) (whole all now beyond : List A) (i n : ℕ) → whole ≡ all →
    length now ≤ i → n ≡ length now → IsTold whole now i R → AllZip R all (take n (now ++ beyond))
told_all R whole all now beyond i n same h long before =
    let P : List _ → Type 0 = λ l. AllZip R whole l in
    let Q : List _ → Type 0 = λ l. AllZip R l [] in
    let S : List _ → Type 0 = λ l. AllZip R l (take n (now ++ beyond)) in
    let none : AllZip R (drop i now) [] = subst Q (sym (drop_all i now h)) tt in
    let here : take i now ++ [] ≡ now = simp append-nil (take_all i now h) in
    let there : take n (now ++ beyond) ≡ now = take-append-le n now beyond (omega arith) ∙ take_all n now (omega arith) in
    subst S same (subst P (here ∙ sym there) (before [] none))

-- what is chosen of the advisors that are still there is chosen of the whole
abbrev pub IsAsked : {A : Type 0} → List A → List A → ℕ → (A → ℕ) → (A → A → Type 0) → Type 0
IsAsked whole now candidates would Asked = (answer : ℕ) (left : List _) → IsChosen would Asked candidates now answer left →
    IsChosen would Asked candidates whole answer left

-- the first one is out of range, and is removed
pub chosen_later : {A : Type 0} (would : A → ℕ) (Asked : A → A → Type 0) (candidates : ℕ) (now removed : List A) (b e : A)
    (picked : ℕ) → 0 < length now → b ≡ get_or now 0 b → picked ≡ would b → candidates ≤ picked →
    removed ≡ remove (set now 0 e) 0 → (answer : ℕ) (left : List A) → IsChosen would Asked candidates removed answer left →
    IsChosen would Asked candidates now answer left
chosen_later would Asked candidates [] removed b e picked h is said out excluded answer left rest = absurd (omega arith)
chosen_later would Asked candidates (a ∷ others) removed b e picked h is said out excluded answer left rest =
    let P : List _ → Type 0 = λ l. IsChosen would Asked candidates l answer left in
    let same : would b ≡ would a = ap would is in
    (λ within. absurd (omega arith), λ _. subst P excluded rest)

-- the first one answers
pub chosen_here : {A : Type 0} (would : A → ℕ) (Asked : A → A → Type 0) (candidates : ℕ) (now : List A) (b e : A)
    (picked : ℕ) → 0 < length now → b ≡ get_or now 0 b → picked ≡ would b → picked < candidates → Asked b e →
    IsChosen would Asked candidates now picked (set now 0 e)
chosen_here would Asked candidates [] b e picked h is said within asked = absurd (omega arith)
chosen_here would Asked candidates (a ∷ others) b e picked h is said within asked =
    let T : _ → Type 0 = λ x. Asked x e in
    let same : would b ≡ would a = ap would is in
    (λ _. (said ∙ same, record { first = e; those_left = refl; asked = subst T is asked }), λ out. absurd (omega arith))

-- none is there
pub chosen_none : {A : Type 0} (would : A → ℕ) (Asked : A → A → Type 0) (candidates : ℕ) (now : List A) → length now ≡ 0 →
    IsChosen would Asked candidates now 0 now
chosen_none would Asked candidates [] h = (refl, refl)
chosen_none would Asked candidates (a ∷ others) h = absurd (omega arith)
