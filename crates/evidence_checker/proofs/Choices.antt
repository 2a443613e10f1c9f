-- What a test that came out one way tells.
use Rattle.std.proofs.Common.{◌≡◌, subst, Bool}
use Rattle.std.specs.Prelude.{MatchBool, true, false}

pub when_true : (A B : Type 0) (b : Bool) → b ≡ true → MatchBool b A B → A
when_true A B b e h = let P : Bool → Type 0 = λ x. MatchBool x A B in subst P e h

pub when_false : (A B : Type 0) (b : Bool) → b ≡ false → MatchBool b A B → B
when_false A B b e h = let P : Bool → Type 0 = λ x. MatchBool x A B in subst P e h
