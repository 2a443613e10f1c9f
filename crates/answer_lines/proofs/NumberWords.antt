-- Words that are numbers.
use Rattle.std.proofs.Common.{◌≡◌, ◌≢◌, ℕ, ◌≤◌, List, [], ◌∷◌, ◌++◌, All, map, arith, sym}
use Rattle.std.proofs.lemmas.List.Elements.{All-head, All-tail}
use Rattle.cost_base.specs.Decimal.{decimal}
use Rattle.design_problem.specs.AnswerRanges.{IsIndex}

-- numbers go on where the words that were read do
pub no_number : (xs ns : List ℕ) (left : List (List ℕ)) → All IsIndex ns → map decimal ns ≡ map decimal xs ++ left → left ≢ [] →
    ((n : ℕ) (rest : List (List ℕ)) → n ≤ 4294967295 → left ≢ decimal n ∷ rest) → ⊥
no_number [] [] left all e some none = some (sym e)
no_number [] (n ∷ ns) left all e some none =
    let small : IsIndex n = All-head IsIndex n ns all in
    none n (map decimal ns) (omega arith) (sym e)
no_number (x ∷ xs) [] left all e some none = cc
no_number (x ∷ xs) (n ∷ ns) left all e some none = no_number xs ns left (All-tail IsIndex n ns all) (cc) some none
