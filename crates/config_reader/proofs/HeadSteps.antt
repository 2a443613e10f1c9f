-- The interfaces that a file opens, with one more head.
use Rattle.std.proofs.Common.{◌≡◌, ℕ, List, [], ◌∷◌, ◌++◌, length, Bool, cond, true, false, ◌||◌, refl, sym, ap, ◌∙◌, map, Option, Some, None, append-nil, Contains}
use Rattle.std.specs.List.{filter_map, cons_option, list_any}
use Rattle.std.proofs.lemmas.List.Folds.{list_any_at}
use Rattle.cost_base.specs.Lists.{numbers_from, same_bytes}
use Rattle.cost_base.proofs.ByteLemmas.{same_bytes-refl}
use Rattle.config_reader.specs.Configs.{first_heads, firsts, opened_at}
use Rattle.config_reader.proofs.SaidSteps.{opened-push, opened_from}

-- whether a head of this name is among some
abbrev pub is_headed : List ℕ → List (List ℕ × ℕ) → Bool
is_headed name heads = list_any (λ head. same_bytes name head.0) heads

-- a head, unless it is known
abbrev pub unless_known : Bool → List ℕ × ℕ → List (List ℕ × ℕ)
unless_known true head = []
unless_known false head = head ∷ []

or_swap : (a b c : Bool) → (a || (b || c)) ≡ ((b || a) || c)
or_swap true true c = refl
or_swap true false c = refl
or_swap false true c = refl
or_swap false false c = refl

-- the firsts of heads with one more
pub firsts-push : (before : List (List ℕ)) (heads : List (List ℕ × ℕ)) (head : List ℕ × ℕ) →
    firsts before (heads ++ head ∷ []) ≡ firsts before heads
    ++ unless_known (list_any (same_bytes head.0) before || is_headed head.0 (firsts before heads)) head
firsts-push before [] head = cases (list_any (same_bytes head.0) before)
  where
    cases : (b : Bool) → cond b [] (head ∷ []) ≡ unless_known (b || false) head
    cases true = refl
    cases false = refl
firsts-push before (first ∷ heads) head =
    cases (list_any (same_bytes first.0) before) (firsts-push before heads head)
    (firsts-push (first.0 ∷ before) heads head)
  where
    cases : (b : Bool) →
        firsts before (heads ++ head ∷ []) ≡ firsts before heads
        ++ unless_known (list_any (same_bytes head.0) before || is_headed head.0 (firsts before heads)) head →
        firsts (first.0 ∷ before) (heads ++ head ∷ []) ≡ firsts (first.0 ∷ before) heads
        ++ unless_known (list_any (same_bytes head.0) (first.0 ∷ before)
        || is_headed head.0 (firsts (first.0 ∷ before) heads)) head →
        cond b (firsts before (heads ++ head ∷ [])) (first ∷ firsts (first.0 ∷ before) (heads ++ head ∷ []))
        ≡ cond b (firsts before heads) (first ∷ firsts (first.0 ∷ before) heads)
        ++ unless_known (list_any (same_bytes head.0) before || is_headed head.0 (cond b (firsts before heads) (first ∷ firsts (first.0 ∷ before) heads))) head
    cases true known new = known
    cases false known new =
        ap (λ rest. first ∷ rest)
        (new
        ∙ ap (λ found. firsts (first.0 ∷ before) heads ++ unless_known found head)
        (sym (or_swap (list_any (same_bytes head.0) before) (same_bytes head.0 first.0) (is_headed head.0 (firsts (first.0 ∷ before) heads)))))

-- the first heads of a file with one more line
abbrev pub heads_with : Option (List ℕ × ℕ) → List (List ℕ × ℕ) → List (List ℕ × ℕ)
heads_with None heads = heads
heads_with (Some head) heads = heads ++ unless_known (is_headed head.0 heads) head

pub first_heads-push : (file : List (List ℕ)) (line : List ℕ) → first_heads (file ++ line ∷ []) ≡ heads_with (opened_from (length file) line) (first_heads file)
first_heads-push file line = ap (firsts []) (opened-push file line)
    ∙ cases (opened_from (length file) line) (filter_map (opened_at file) (numbers_from 0 (length file)))
  where
    cases : (o : Option (List ℕ × ℕ)) (heads : List (List ℕ × ℕ)) → firsts [] (heads ++ cons_option o []) ≡ heads_with o (firsts [] heads)
    cases None heads = ap (firsts []) (append-nil heads)
    cases (Some head) heads = firsts-push [] heads head

-- a name among those of some heads
pub is_headed-contains : (name : List ℕ) (heads : List (List ℕ × ℕ)) → Contains (map (λ head. head.0) heads) name → is_headed name heads ≡ true
is_headed-contains name heads found =
    names heads ∙ list_any_at (same_bytes name) (map (λ head. head.0) heads) found.0 name found.1 (ap (same_bytes name) found.2 ∙ same_bytes-refl name)
  where
    names : (hs : List (List ℕ × ℕ)) → is_headed name hs ≡ list_any (same_bytes name) (map (λ head. head.0) hs)
    names [] = refl
    names (h ∷ hs) = ap (λ b. same_bytes name h.0 || b) (names hs)
