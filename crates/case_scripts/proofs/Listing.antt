-- A list of things that is made part by part.
use Rattle.std.proofs.Common.{◌≡◌, ℕ, ◌+◌, ◌<◌, ◌≤◌, List, [], ◌∷◌, ◌++◌, Result, Ok, Err, drop, length, get_or, refl, sym, ◌∙◌, ap, append_assoc, append-nil, subst, Bor}
use Rattle.std.proofs.lemmas.List.{drop_all}
use Rattle.std.specs.List.{AllZip}
use Rattle.case_scripts.specs.Words.{values_of}
use Rattle.case_scripts.proofs.Pieces.{texts_of, texts_from}

-- the things are the values of what reading these parts gives
abbrev pub AreValues : {T E : Type 0} → (List ℕ → Result T E → Type 0) → List (List ℕ) → List T → Type 0
AreValues {T} {E} gives parts things = (answers : List (Result T E)) × AllZip gives parts answers × (things ≡ values_of answers)

-- with the values of the parts from a place on, the things are those of the whole
abbrev pub IsListedSoFar : {T E : Type 0} → (List ℕ → Result T E → Type 0) → ℕ → List (Bor (List ℕ)) → List T → List (List ℕ) → Type 0
IsListedSoFar {T} gives place parts so_far whole =
    (things : List T) → AreValues gives (texts_of (drop place parts)) things → AreValues gives whole (so_far ++ things)

values_cons : {T E : Type 0} (answer : Result T E) (answers : List (Result T E)) → values_of (answer ∷ answers) ≡ values_of (answer ∷ []) ++ values_of answers
values_cons (Ok value) answers = refl
values_cons (Err error) answers = refl

-- one more part is read
read_one : {T E : Type 0} (gives : List ℕ → Result T E → Type 0) (part : List ℕ) (parts : List (List ℕ)) (answer : Result T E) (things : List T)
    → gives part answer → AreValues gives parts things → AreValues gives (part ∷ parts) (values_of (answer ∷ []) ++ things)
read_one gives part parts answer things one read =
    (answer ∷ read.0, (one, read.1), ap (λ t. values_of (answer ∷ []) ++ t) read.2 ∙ sym (values_cons answer read.0))

-- nothing is read yet
pub listed_none : {T E : Type 0} (gives : List ℕ → Result T E → Type 0) (parts : List (Bor (List ℕ))) (whole : List (List ℕ)) (list : List T)
    → list ≡ [] → texts_of parts ≡ whole → IsListedSoFar gives 0 parts list whole
listed_none {T} gives parts whole list empty same = λ things read.
    let P : List T → Type 0 = λ t. AreValues gives whole t in
    let Q : List (List ℕ) → Type 0 = λ w. AreValues gives w things in
    let e : things ≡ list ++ things = sym (ap (λ t. t ++ things) empty) in
    subst P e (subst Q same read)

-- one more part is read, and its value, if any, is put
pub listed_more : {T E : Type 0} (gives : List ℕ → Result T E → Type 0) (place : ℕ) (parts : List (Bor (List ℕ))) (d : Bor (List ℕ)) (whole : List (List ℕ))
    (old new : List T) (answer : Result T E) → place < length parts → gives (get_or parts place d).now answer
    → new ≡ old ++ values_of (answer ∷ []) → IsListedSoFar gives place parts old whole → IsListedSoFar gives (place + 1) parts new whole
listed_more {T} gives place parts d whole old new answer inside one put so_far = λ things read.
    let P : List T → Type 0 = λ t. AreValues gives whole t in
    let Q : List (List ℕ) → Type 0 = λ rest. AreValues gives rest (values_of (answer ∷ []) ++ things) in
    let e : new ++ things ≡ old ++ (values_of (answer ∷ []) ++ things) = ap (λ t. t ++ things) put ∙ append_assoc old (values_of (answer ∷ [])) things in
    subst P (sym e) (so_far (values_of (answer ∷ []) ++ things)
    (subst Q (sym (texts_from parts place d inside))
    (read_one gives (get_or parts place d).now (texts_of (drop (place + 1) parts)) answer things one read)))

-- all parts are read
pub listed_all : {T E : Type 0} (gives : List ℕ → Result T E → Type 0) (place : ℕ) (parts : List (Bor (List ℕ))) (whole : List (List ℕ)) (list : List T)
    → length parts ≤ place → IsListedSoFar gives place parts list whole → AreValues gives whole list
listed_all {T} gives place parts whole list over so_far =
    let P : List T → Type 0 = λ t. AreValues gives whole t in
    let Q : List (Bor (List ℕ)) → Type 0 = λ rest. AreValues gives (texts_of rest) [] in
    subst P (append-nil list) (so_far [] (subst Q (sym (drop_all place parts over)) ([], tt, refl)))
