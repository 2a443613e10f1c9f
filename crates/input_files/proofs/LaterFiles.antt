-- A file that is read after other files.
use Rattle.std.proofs.Common.{refl, List, ◌++◌, Ok, Err}
use Rattle.cost_base.specs.Histories.{Taken}
use Rattle.input_files.specs.declared.stop.Stop.{Stop}
use Rattle.input_files.specs.declared.stop.Stop.TheVariants as stops
use Rattle.input_files.specs.Readings.{Reading, Ready, ◌>>=◌, Gave}
use Rattle.input_files.specs.Stops.{StopsAs, IsReadAndMade}
use Rattle.input_files.proofs.Stops.{gave_then, gave_made, gave_stop, gave_wanting}

-- what stops the file stops both, where the others were read
pub second_stops : {A B C T : Type 0} (First Later Both : List Taken → Type 0) (m : Reading A) (n : Reading B) (k : A →
    B → C) (Fits : T → A → Type 0) (made : T) (stop : Stop) →
    ((xs ys : List Taken) → First xs → Later ys → Both (xs ++ ys)) →
    Gave First (λ came. IsReadAndMade m came Fits made) → Gave Later (λ came. StopsAs n came stop) →
    Gave Both (λ came. StopsAs (m >>= λ x. n >>= λ y. Ready (k x y)) came stop)
second_stops {A} {B} {C} {T} First Later Both m n k Fits made stop more a b =
    gave_then First Later Both m (λ x. n >>= λ y. Ready (k x y)) Fits (λ (t : T) (z : C). Unit {0}) made
    (Err stop) more a (λ x fits. gave_stop Later n (λ y. Ready (k x y)) stop b)

-- both were read, and then memory was wanting
pub both_wanting : {A B C T U : Type 0} (First Later Both : List Taken → Type 0) (m : Reading A) (n : Reading B) (k : A →
    B → C) (Fits : T → A → Type 0) (Suits : U → B → Type 0) (made : T) (other : U) →
    ((xs ys : List Taken) → First xs → Later ys → Both (xs ++ ys)) → Gave First (λ came. IsReadAndMade m came Fits made) →
    Gave Later (λ came. IsReadAndMade n came Suits other) →
    Gave Both (λ came. StopsAs (m >>= λ x. n >>= λ y. Ready (k x y)) came stops.OutOfMemory)
both_wanting First Later Both m n k Fits Suits made other more a b =
    second_stops First Later Both m n k Fits made stops.OutOfMemory more a (gave_wanting Later n Suits other b)

-- what was made of both is as both say
pub pair_made : {A B C T U V : Type 0} (First Later Both : List Taken → Type 0) (m : Reading A) (n : Reading B) (k : A →
    B → C) (Fits : T → A → Type 0) (Suits : U → B → Type 0) (Meets : V → C → Type 0) (made : T) (other : U)
    (result : V) →
    ((xs ys : List Taken) → First xs → Later ys → Both (xs ++ ys)) → Gave First (λ came. IsReadAndMade m came Fits made) →
    Gave Later (λ came. IsReadAndMade n came Suits other) →
    ((x : A) (y : B) → Fits made x → Suits other y → Meets result (k x y)) →
    Gave Both (λ came. IsReadAndMade (m >>= λ x. n >>= λ y. Ready (k x y)) came Meets result)
pair_made First Later Both m n k Fits Suits Meets made other result more a b meets =
    gave_then First Later Both m (λ x. n >>= λ y. Ready (k x y)) Fits Meets made (Ok result) more a (λ x fits.
    gave_made Later n (λ y. Ready (k x y)) Suits Meets other (Ok result) b (λ y suits. record { said = k x y; ends = refl; fits = meets x y fits suits }))
