-- Lists by their heads and tails.
use Rattle.std.proofs.Common.{◌≡◌, List, ◌∷◌, Bool, true, false, sym, ◌∙◌, ap}
use Rattle.std.proofs.lemmas.Bool.{true≢false}

pub head-is : {A : Type 0} (x y : A) (xs ys : List A) → x ∷ xs ≡ y ∷ ys → x ≡ y
head-is x y xs ys e = cc

pub tail-is : {A : Type 0} (x y : A) (xs ys : List A) → x ∷ xs ≡ y ∷ ys → xs ≡ ys
tail-is x y xs ys e = cc

-- what follows the head of a list that is known in two ways
pub rest-is : {A : Type 0} (all : List A) (x y : A) (xs ys : List A) → all ≡ x ∷ xs → all ≡ y ∷ ys → xs ≡ ys
rest-is all x y xs ys first second = tail-is x y xs ys (sym first ∙ second)

pub more-is : {A : Type 0} (all : List A) (x : A) (xs ys : List A) → all ≡ x ∷ xs → xs ≡ ys → all ≡ x ∷ ys
more-is all x xs ys first second = first ∙ ap (λ l. x ∷ l) second

pub not-both : (b : Bool) → b ≡ true → b ≡ false → ⊥
not-both b is isnt = true≢false (sym is ∙ isnt)
