-- What was read one after another, and what stopped it.
use Rattle.std.proofs.Common.{◌≡◌, ◌∙◌, ℕ, refl, sym, ap, subst, List, [], ◌∷◌, ◌++◌, append-nil, Option, Some, Result, Ok, Err}
use Rattle.std.specs.Borrow.{Bor}
use Rattle.cost_base.specs.declared.ShelfStop.{ShelfStop}
use Rattle.cost_base.specs.declared.ShelfStop.TheVariants as shelf
use Rattle.cost_base.specs.declared.refusal.Refusal.{Refusal}
use Rattle.cost_base.specs.declared.refusal.Refusal.TheVariants.{Refused as FaultAt}
use Rattle.cost_base.specs.Histories.{Taken}
use Rattle.input_files.specs.declared.stop.Stop.{Stop}
use Rattle.input_files.specs.declared.stop.Stop.TheVariants as stops
use Rattle.input_files.specs.Readings.{InputRefusal, Reading, Refused, ◌>>=◌, unless_refused, place_refused, Says, Faulty, Failed, EndsAs, Begins, Gave}
use Rattle.input_files.specs.Outcomes.{file_read}
use Rattle.input_files.specs.Stops.{StopsAs, IsReadAndMade, IsReadAs, IsRefusal, file_stop, refusal_in, refusal_stop}
use Rattle.input_files.proofs.Readings.{begins_first, begins_then, ends_begin, ends_then, ends_faulty, ends_failed}

-- what stops the one reading stops both
pub stops_first : {A B : Type 0} (m : Reading A) (f : A → Reading B) (xs : List Taken) (stop : Stop) → StopsAs m xs stop → StopsAs (m >>= f) xs stop
stops_first m f xs (stops.Refused number file line) h = ends_faulty m f xs (refusal_in number file line) h
stops_first m f xs (stops.ReadFault file) h = ends_failed m f xs file.now h
stops_first m f xs stops.OutOfMemory h = begins_first m f xs h

-- what stops the other reading stops both, where the one says this
pub stops_then : {A B : Type 0} (m : Reading A) (f : A → Reading B) (xs ys : List Taken) (x : A) (stop : Stop) →
    EndsAs m xs (Says x) → StopsAs (f x) ys stop → StopsAs (m >>= f) (xs ++ ys) stop
stops_then m f xs ys x (stops.Refused number file line) first h = ends_then m f xs ys x (Faulty (refusal_in number file line)) first h
stops_then m f xs ys x (stops.ReadFault file) first h = ends_then m f xs ys x (Failed file.now) first h
stops_then m f xs ys x stops.OutOfMemory first h = begins_then m f xs ys x first h

-- what was read of both readings is what both say
pub read_then : {A B T U : Type 0} (m : Reading A) (f : A → Reading B) (xs ys : List Taken) (Fits : T → A → Type 0)
    (Suits : U → B → Type 0) (made : T) (result : Result U Stop) → IsReadAndMade m xs Fits made →
    ((x : A) → Fits made x → IsReadAs (f x) ys Suits result) → IsReadAs (m >>= f) (xs ++ ys) Suits result
read_then m f xs ys Fits Suits made (Ok other) ready h =
    let then_ready = h ready.said ready.fits in
    record { said = then_ready.said; ends = ends_then m f xs ys ready.said (Says then_ready.said) ready.ends then_ready.ends; fits = then_ready.fits }
read_then m f xs ys Fits Suits made (Err stop) ready h = stops_then m f xs ys ready.said stop ready.ends (h ready.said ready.fits)

-- of files that were asked for one after another
pub gave_then : {A B T U : Type 0} (First Later Both : List Taken → Type 0) (m : Reading A) (f : A → Reading B)
    (Fits : T → A → Type 0) (Suits : U → B → Type 0) (made : T) (result : Result U Stop) →
    ((xs ys : List Taken) → First xs → Later ys → Both (xs ++ ys)) → Gave First (λ came. IsReadAndMade m came Fits made) →
    ((x : A) → Fits made x → Gave Later (λ came. IsReadAs (f x) came Suits result)) →
    Gave Both (λ came. IsReadAs (m >>= f) came Suits result)
gave_then First Later Both m f Fits Suits made result more a h =
    let b = h a.so.said a.so.fits in
    record { came = a.came ++ b.came; given = more a.came b.came a.given b.given; so = read_both m f a.came b.came Suits result a.so.said a.so.ends b.so }
  where
    read_both : {A B U : Type 0} (m : Reading A) (f : A → Reading B) (xs ys : List Taken) (Suits : U → B → Type 0)
        (result : Result U Stop) (x : A) → EndsAs m xs (Says x) → IsReadAs (f x) ys Suits result →
        IsReadAs (m >>= f) (xs ++ ys) Suits result
    read_both m f xs ys Suits (Ok other) x ends h = record { said = h.said; ends = ends_then m f xs ys x (Says h.said) ends h.ends; fits = h.fits }
    read_both m f xs ys Suits (Err stop) x ends h = stops_then m f xs ys x stop ends h

-- of files, and then of what they say alone
pub gave_made : {A B T U : Type 0} (Given : List Taken → Type 0) (m : Reading A) (f : A → Reading B) (Fits : T → A →
    Type 0) (Suits : U → B → Type 0) (made : T) (result : Result U Stop) →
    Gave Given (λ came. IsReadAndMade m came Fits made) → ((x : A) → Fits made x → IsReadAs (f x) [] Suits result) →
    Gave Given (λ came. IsReadAs (m >>= f) came Suits result)
gave_made Given m f Fits Suits made result a h =
    record {
      came = a.came;
      given = a.given;
      so = subst (λ (came : List Taken). IsReadAs (m >>= f) came Suits result) (append-nil a.came) (read_then m f a.came [] Fits Suits made result a.so h);
    }

-- what stopped the one reading stopped both
pub gave_stop : {A B : Type 0} (Given : List Taken → Type 0) (m : Reading A) (f : A → Reading B) (stop : Stop) →
    Gave Given (λ came. StopsAs m came stop) → Gave Given (λ came. StopsAs (m >>= f) came stop)
gave_stop Given m f stop a = record { came = a.came; given = a.given; so = stops_first m f a.came stop a.so }

-- a file that wasn't read
pub file_stops : (most : ℕ) (why : ShelfStop) (file : Bor (List ℕ)) →
    StopsAs (file_read most file.now) (record { name = file.now; most = most; came = Err why } ∷ [])
    (file_stop why file)
file_stops most shelf.Failed file = (refl, refl, (refl, refl))
file_stops most shelf.TooLong file = (refl, refl, (refl, refl))
file_stops most shelf.OutOfMemory file = (refl, refl, refl)

-- what was read, or what stopped it, begins the reading
pub read_begins : {A T : Type 0} (m : Reading A) (came : List Taken) (Fits : T → A → Type 0) (result : Result T Stop) →
    IsReadAs m came Fits result → Begins m came
read_begins m came Fits (Ok made) h = ends_begin m came (Says h.said) h.ends
read_begins m came Fits (Err (stops.Refused number file line)) h = ends_begin m came (Faulty (refusal_in number file line)) h
read_begins m came Fits (Err (stops.ReadFault file)) h = ends_begin m came (Failed file.now) h
read_begins m came Fits (Err stops.OutOfMemory) h = h

-- the files were read, and then memory was wanting
pub gave_wanting : {A T : Type 0} (Given : List Taken → Type 0) (m : Reading A) (Fits : T → A → Type 0) (made : T) →
    Gave Given (λ came. IsReadAndMade m came Fits made) → Gave Given (λ came. StopsAs m came stops.OutOfMemory)
gave_wanting Given m Fits made a = record { came = a.came; given = a.given; so = ends_begin m a.came (Says a.so.said) a.so.ends }

-- a refusal stops the reading that it ends
pub refusal_stops : (A : Type 0) (r : InputRefusal) (stop : Stop) → IsRefusal r stop → StopsAs {A = A} (Refused r) [] stop
refusal_stops A r (stops.Refused number file line) is = ap Faulty (sym is)
refusal_stops A r (stops.ReadFault file) is = absurd is
refusal_stops A r stops.OutOfMemory is = absurd is

-- a fault stops what is said without one
pub fault_stops : {A X : Type 0} (refused : X → InputRefusal) (said : A) (found : Option X) (fault : X) (stop : Stop) →
    found ≡ Some fault → IsRefusal (refused fault) stop → StopsAs (unless_refused refused said found) [] stop
fault_stops {A} {X} refused said found fault stop is told =
    subst (λ (f : Option X). StopsAs (unless_refused refused said f) [] stop) (sym is) (refusal_stops A (refused fault) stop told)

-- want of memory stops what reads no file
pub memory_stops : {A : Type 0} (m : Reading A) (stop : Stop) → stop ≡ stops.OutOfMemory → StopsAs m [] stop
memory_stops m stop is = subst (λ (s : Stop). StopsAs m [] s) (sym is) tt

-- the stop of a refusal is that of its fault with the number, in the file
pub refusal_by : {F : Type 0} (numbered : F → ℕ) (refusal : Refusal F ℕ) (fault : F) (line : ℕ) (file : Bor (List ℕ)) (name : List ℕ) (stop : Stop) →
    refusal ≡ FaultAt fault line → stop ≡ refusal_stop numbered refusal file → file.now ≡ name →
    IsRefusal (place_refused numbered name (fault, line)) stop
refusal_by {F} numbered refusal fault line file name stop is stopped named =
    subst (λ (s : Stop). IsRefusal (place_refused numbered name (fault, line)) s)
    (sym (stopped ∙ ap (λ (r : Refusal F ℕ). refusal_stop numbered r file) is))
    (ap (λ (n : List ℕ). place_refused numbered n (fault, line)) (sym named))
