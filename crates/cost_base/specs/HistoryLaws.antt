-- What shelves gave and what sinks were handed, one part after another.
use Rattle.std.proofs.Common.{◌≡◌, ℕ, ◌+◌, refl, sym, ◌∙◌, ap, subst, List, [], ◌∷◌, ◌++◌, append_assoc, append-nil, arith, Option, Some, None, cond, bytes_eq}
use Rattle.std.proofs.lemmas.List.Sums.{sum_by-append}
use Rattle.cost_base.specs.Files.{count_of_name}
use Rattle.cost_base.specs.Outside.{GotAll}
use Rattle.cost_base.specs.Histories.{Taken, AreTold, IsToldAs, failure, failures, CountsFailures, HasGiven}

-- nothing was given between a state and itself
pub given_none : (held : List ℕ → Option (List ℕ)) (noted : List (List ℕ)) → HasGiven held held noted noted []
given_none held noted = record { held = λ name. refl; told = tt; noted = sym (append-nil noted) }

-- the files that failed in one history and then in another
failures-append : (xs ys : List Taken) → failures (xs ++ ys) ≡ failures xs ++ failures ys
failures-append [] ys = refl
failures-append (x ∷ xs) ys = ap (λ (names : List (List ℕ)). failure x.name x.came ++ names) (failures-append xs ys)
    ∙ sym (append_assoc (failure x.name x.came) (failures xs) (failures ys))

-- two histories that are true to what a shelf holds are so one after the other
told-append : (held now : List ℕ → Option (List ℕ)) (xs ys : List Taken) → ((name : List ℕ) → now name ≡ held name) →
    AreTold held xs → AreTold now ys → AreTold held (xs ++ ys)
told-append held now [] [] same first second = tt
told-append held now [] (y ∷ ys) same first second =
    (subst (λ (file : Option (List ℕ)). IsToldAs file y.most y.came) (same y.name) second.0, told-append held now [] ys same tt second.1)
told-append held now (x ∷ xs) ys same first second = (first.0, told-append held now xs ys same first.1 second)

-- what a shelf gave first and what it gave then make one history
pub given_more : (held_a held_b held_c : List ℕ → Option (List ℕ)) (noted_a noted_b noted_c : List (List ℕ))
    (xs ys : List Taken) → HasGiven held_a held_b noted_a noted_b xs → HasGiven held_b held_c noted_b noted_c ys →
    HasGiven held_a held_c noted_a noted_c (xs ++ ys)
given_more held_a held_b held_c noted_a noted_b noted_c xs ys first second = record {
  held = λ name. second.held name ∙ first.held name;
  told = told-append held_a held_b xs ys first.held first.told second.told;
  noted = second.noted ∙ ap (λ (names : List (List ℕ)). names ++ failures ys) first.noted
      ∙ append_assoc noted_a (failures xs) (failures ys)
      ∙ ap (λ (names : List (List ℕ)). noted_a ++ names) (sym (failures-append xs ys));
}

-- what stays the same in one part and in the next stays the same in both together
pub same_after : {A : Type 0} (a b c : A) → b ≡ a → c ≡ b → c ≡ a
same_after a b c first second = second ∙ first

-- noted names count the files that failed
pub given_counts : (held_a held_b : List ℕ → Option (List ℕ)) (noted_a noted_b : List (List ℕ)) (came : List Taken) →
    HasGiven held_a held_b noted_a noted_b came → CountsFailures (count_of_name noted_a) (count_of_name noted_b) came
given_counts held_a held_b noted_a noted_b came given =
    let count : (name : List ℕ) → count_of_name noted_b name ≡ count_of_name noted_a name + count_of_name (failures came) name =
    λ name. ap (λ (names : List (List ℕ)). count_of_name names name) given.noted ∙
    sum_by-append (λ (x : List ℕ). cond (bytes_eq x name) 1 0) noted_a (failures came) in
    record {
      failed = λ name some. omega (arith, count name, some);
      kept = λ name none. omega (arith, count name, none);
    }

-- a shelf that notes no name had no file that failed
pub given_surely : (held_a held_b : List ℕ → Option (List ℕ)) (came : List Taken) → HasGiven held_a held_b [] [] came →
    CountsFailures (λ name. 0) (λ name. 0) came
given_surely held_a held_b came given = given_counts held_a held_b [] [] came given

-- a sink or a record got nothing between a state and itself
pub handed_none : {A : Type 0} (got : Option (List A)) → GotAll got got []
handed_none None = tt
handed_none (Some bytes) = sym (append-nil bytes)

-- a sink or a record that got one list and then another got both
pub handed_more : {A : Type 0} (a b c : Option (List A)) (p q : List A) → GotAll a b p → GotAll b c q → GotAll a c (p ++ q)
handed_more a b None p q first second = tt
handed_more a None (Some z) p q first second = absurd second
handed_more None (Some y) (Some z) p q first second = absurd first
handed_more (Some x) (Some y) (Some z) p q first second = second ∙ ap (λ bytes. bytes ++ q) first ∙ append_assoc x p q
