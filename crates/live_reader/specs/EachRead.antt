-- What JSON objects say, one after another.
use Rattle.std.specs.Prelude.{ℕ, List, [], ◌∷◌, ◌++◌, Option, Result, Ok, Err}
use Rattle.live_reader.specs.Places.{Member, Placed, object_members}

-- what one object says in front of what the others say, where nothing lacks: as a list, by `each`
abbrev pub said_before : {A B : Type 0} → (B → List A) → Result B ℕ → Result (List A) ℕ → Result (List A) ℕ
said_before each (Err place) more = Err place
said_before each (Ok one) (Err place) = Err place
said_before each (Ok one) (Ok others) = Ok (each one ++ others)

-- what each of these values says, by the members of the object that it is, or the place of the first that lacks
-- something
abbrev pub each_read : {A B : Type 0} → (B → List A) → (ℕ → Option (List Member) → Result B ℕ) → List Placed → Result (List A) ℕ
each_read each read [] = Ok []
each_read each read (p ∷ more) = said_before each (read p.place (object_members p.place p.value)) (each_read each read more)
