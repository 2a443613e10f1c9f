-- Readings of files, one bound after another, and how they end.
use Rattle.std.proofs.Common.{◌≡◌, ℕ, refl, sym, ◌∙◌, ap, subst, List, [], ◌∷◌, ◌++◌, Option, None, Some, Result, Ok, Err}
use Rattle.cost_base.specs.declared.ShelfStop.{ShelfStop}
use Rattle.cost_base.specs.declared.ShelfStop.TheVariants as stop
use Rattle.cost_base.specs.Histories.{Taken}
use Rattle.input_files.specs.Readings.{InputRefusal, Reading, Take, Refused, Ready, ◌>>=◌, unless_refused, End, Says, Faulty, Failed, too_long, OnCame, EndsAs, OnBytes, Begins}

-- Ends differ.

abbrev faulty : (A : Type 0) → InputRefusal → End A
faulty A r = Faulty r

-- a file that failed, as the end of a reading
abbrev pub failed : (A : Type 0) → List ℕ → End A
failed A file = Failed file

abbrev says_as : {A : Type 0} → A → End A → A
says_as other (Says x) = x
says_as other (Faulty r) = other
says_as other (Failed file) = other

pub one_said : {A : Type 0} (x y : A) → Says x ≡ Says y → x ≡ y
one_said x y same = ap (λ e. says_as x e) same

abbrev IsSays : {A : Type 0} → End A → Type 0
IsSays (Says x) = Unit {0}
IsSays (Faulty r) = ⊥
IsSays (Failed file) = ⊥

abbrev IsFaulty : {A : Type 0} → End A → Type 0
IsFaulty (Says x) = ⊥
IsFaulty (Faulty r) = Unit {0}
IsFaulty (Failed file) = ⊥

pub said_faulty : {A : Type 0} (x : A) (r : InputRefusal) → Says x ≡ Faulty r → ⊥
said_faulty {A} x r same = subst (λ (e : End A). IsSays e) same tt

pub said_failed : {A : Type 0} (x : A) (file : List ℕ) → Says x ≡ Failed file → ⊥
said_failed {A} x file same = subst (λ (e : End A). IsSays e) same tt

pub faulty_failed : {A : Type 0} (r : InputRefusal) (file : List ℕ) → faulty A r ≡ Failed file → ⊥
faulty_failed {A = A} r file same = subst (λ (e : End A). IsFaulty e) same tt

abbrev fault_as : {A : Type 0} → InputRefusal → End A → InputRefusal
fault_as other (Says x) = other
fault_as other (Faulty r) = r
fault_as other (Failed file) = other

-- the file that failed, or another one
abbrev pub file_as : {A : Type 0} → List ℕ → End A → List ℕ
file_as other (Says x) = other
file_as other (Faulty r) = other
file_as other (Failed file) = file

faulty_of : {A B : Type 0} (r s : InputRefusal) → faulty A r ≡ Faulty s → faulty B r ≡ Faulty s
faulty_of r s same = ap (λ t. Faulty t) (ap (λ e. fault_as r e) same)

failed_of : {A B : Type 0} (f h : List ℕ) → failed A f ≡ Failed h → failed B f ≡ Failed h
failed_of f h same = ap (λ t. Failed t) (ap (λ e. file_as f e) same)

-- what came of a file, in other words
on_came : (came : Result (List ℕ) ShelfStop) (P Q : List ℕ → Type 0) (L M F G : Type 0) →
    ((bytes : List ℕ) → P bytes → Q bytes) → (L → M) → (F → G) → OnCame came P L F → OnCame came Q M G
on_came (Ok bytes) P Q L M F G read long fault h = read bytes h
on_came (Err stop.TooLong) P Q L M F G read long fault h = long h
on_came (Err stop.Failed) P Q L M F G read long fault h = fault h
on_came (Err stop.OutOfMemory) P Q L M F G read long fault h = absurd h

-- where the one reading says this, and the other that follows from it ends so, both end so
pub ends_then : {A B : Type 0} (m : Reading A) (f : A → Reading B) (xs ys : List Taken) (x : A) (end : End B) →
    EndsAs m xs (Says x) → EndsAs (f x) ys end → EndsAs (m >>= f) (xs ++ ys) end
ends_then (Ready y) f [] ys x end first second = subst (λ z. EndsAs (f z) ys end) (one_said x y first) second
ends_then (Ready y) f (taken ∷ xs) ys x end first second = absurd first
ends_then (Refused r) f [] ys x end first second = absurd (said_faulty x r first)
ends_then (Refused r) f (taken ∷ xs) ys x end first second = absurd first
ends_then (Take name most next) f [] ys x end first second = absurd first
ends_then {A} {B} (Take name most next) f (taken ∷ xs) ys x end first second = (
  first.0,
  first.1,
  on_came taken.came (λ bytes. EndsAs (next bytes) xs (Says x)) (λ bytes. EndsAs (next bytes >>= f) (xs ++ ys) end)
      ((xs ≡ []) × (Says x ≡ Faulty (too_long name))) ((xs ++ ys ≡ []) × (end ≡ Faulty (too_long name)))
      ((xs ≡ []) × (Says x ≡ Failed name)) ((xs ++ ys ≡ []) × (end ≡ Failed name))
      (λ bytes h. ends_then (next bytes) f xs ys x end h second)
      (λ h. absurd (said_faulty x (too_long name) h.1))
      (λ h. absurd (said_failed x name h.1))
      first.2,
)

-- a fault of the one reading is one of both
pub ends_faulty : {A B : Type 0} (m : Reading A) (f : A → Reading B) (xs : List Taken) (r : InputRefusal) → EndsAs m xs (Faulty r) →
    EndsAs (m >>= f) xs (Faulty r)
ends_faulty (Ready y) f [] r first = absurd (said_faulty y r (sym first))
ends_faulty (Ready y) f (taken ∷ xs) r first = absurd first
ends_faulty {A} {B} (Refused s) f [] r first = faulty_of {A = A} {B = B} r s first
ends_faulty (Refused s) f (taken ∷ xs) r first = absurd first
ends_faulty (Take name most next) f [] r first = absurd first
ends_faulty {A} {B} (Take name most next) f (taken ∷ xs) r first = (
  first.0,
  first.1,
  on_came taken.came (λ bytes. EndsAs (next bytes) xs (Faulty r)) (λ bytes. EndsAs (next bytes >>= f) xs (Faulty r))
      ((xs ≡ []) × (faulty A r ≡ Faulty (too_long name))) ((xs ≡ []) × (faulty B r ≡ Faulty (too_long name)))
      ((xs ≡ []) × (faulty A r ≡ Failed name)) ((xs ≡ []) × (faulty B r ≡ Failed name))
      (λ bytes h. ends_faulty (next bytes) f xs r h)
      (λ h. (h.0, faulty_of {A = A} {B = B} r (too_long name) h.1))
      (λ h. absurd (faulty_failed {A = A} r name h.1))
      first.2,
)

-- a file that fails the one reading fails both
pub ends_failed : {A B : Type 0} (m : Reading A) (f : A → Reading B) (xs : List Taken) (file : List ℕ) →
    EndsAs m xs (Failed file) → EndsAs (m >>= f) xs (Failed file)
ends_failed (Ready y) f [] file first = absurd (said_failed y file (sym first))
ends_failed (Ready y) f (taken ∷ xs) file first = absurd first
ends_failed {A} {B} (Refused s) f [] file first = absurd (faulty_failed {A = A} s file (sym first))
ends_failed (Refused s) f (taken ∷ xs) file first = absurd first
ends_failed (Take name most next) f [] file first = absurd first
ends_failed {A} {B} (Take name most next) f (taken ∷ xs) file first = (
  first.0,
  first.1,
  on_came taken.came (λ bytes. EndsAs (next bytes) xs (Failed file)) (λ bytes. EndsAs (next bytes >>= f) xs (Failed file))
      ((xs ≡ []) × (failed A file ≡ Faulty (too_long name))) ((xs ≡ []) × (failed B file ≡ Faulty (too_long name)))
      ((xs ≡ []) × (failed A file ≡ Failed name)) ((xs ≡ []) × (failed B file ≡ Failed name))
      (λ bytes h. ends_failed (next bytes) f xs file h)
      (λ h. absurd (faulty_failed {A = A} (too_long name) file (sym h.1)))
      (λ h. (h.0, failed_of {A = A} {B = B} file name h.1))
      first.2,
)

on_bytes : (came : Result (List ℕ) ShelfStop) (P Q : List ℕ → Type 0) (N M : Type 0) →
    ((bytes : List ℕ) → P bytes → Q bytes) → (N → M) → OnBytes came P N → OnBytes came Q M
on_bytes (Ok bytes) P Q N M read none h = read bytes h
on_bytes (Err e) P Q N M read none h = none h

bytes_of : (came : Result (List ℕ) ShelfStop) (P Q : List ℕ → Type 0) (L F N : Type 0) →
    ((bytes : List ℕ) → P bytes → Q bytes) → (L → N) → (F → N) → OnCame came P L F → OnBytes came Q N
bytes_of (Ok bytes) P Q L F N read long fault h = read bytes h
bytes_of (Err stop.TooLong) P Q L F N read long fault h = long h
bytes_of (Err stop.Failed) P Q L F N read long fault h = fault h
bytes_of (Err stop.OutOfMemory) P Q L F N read long fault h = absurd h

-- what ends a reading begins it
pub ends_begin : {A : Type 0} (m : Reading A) (xs : List Taken) (end : End A) → EndsAs m xs end → Begins m xs
ends_begin (Ready x) [] end h = tt
ends_begin (Ready x) (taken ∷ xs) end h = absurd h
ends_begin (Refused r) [] end h = tt
ends_begin (Refused r) (taken ∷ xs) end h = absurd h
ends_begin (Take name most next) [] end h = tt
ends_begin (Take name most next) (taken ∷ xs) end h = (
  h.0,
  h.1,
  bytes_of taken.came (λ bytes. EndsAs (next bytes) xs end) (λ bytes. Begins (next bytes) xs)
      ((xs ≡ []) × (end ≡ Faulty (too_long name))) ((xs ≡ []) × (end ≡ Failed name)) (xs ≡ [])
      (λ bytes k. ends_begin (next bytes) xs end k) (λ k. k.0) (λ k. k.0) h.2,
)

-- what begins the one reading begins both
pub begins_first : {A B : Type 0} (m : Reading A) (f : A → Reading B) (xs : List Taken) → Begins m xs → Begins (m >>= f) xs
begins_first m f [] h = tt
begins_first (Ready x) f (taken ∷ xs) h = absurd h
begins_first (Refused r) f (taken ∷ xs) h = absurd h
begins_first (Take name most next) f (taken ∷ xs) h = (
  h.0,
  h.1,
  on_bytes taken.came (λ bytes. Begins (next bytes) xs) (λ bytes. Begins (next bytes >>= f) xs) (xs ≡ []) (xs ≡ [])
      (λ bytes k. begins_first (next bytes) f xs k) (λ k. k) h.2,
)

-- where the one reading says this, what begins the other begins both behind it
pub begins_then : {A B : Type 0} (m : Reading A) (f : A → Reading B) (xs ys : List Taken) (x : A) →
    EndsAs m xs (Says x) → Begins (f x) ys → Begins (m >>= f) (xs ++ ys)
begins_then (Ready y) f [] ys x first second = subst (λ z. Begins (f z) ys) (one_said x y first) second
begins_then (Ready y) f (taken ∷ xs) ys x first second = absurd first
begins_then (Refused r) f [] ys x first second = absurd (said_faulty x r first)
begins_then (Refused r) f (taken ∷ xs) ys x first second = absurd first
begins_then (Take name most next) f [] ys x first second = absurd first
begins_then {A} {B} (Take name most next) f (taken ∷ xs) ys x first second = (
  first.0,
  first.1,
  bytes_of taken.came (λ bytes. EndsAs (next bytes) xs (Says x)) (λ bytes. Begins (next bytes >>= f) (xs ++ ys))
      ((xs ≡ []) × (Says x ≡ Faulty (too_long name))) ((xs ≡ []) × (Says x ≡ Failed name)) (xs ++ ys ≡ [])
      (λ bytes h. begins_then (next bytes) f xs ys x h second)
      (λ h. absurd (said_faulty x (too_long name) h.1))
      (λ h. absurd (said_failed x name h.1))
      first.2,
)

-- readings bound in another order are one
pub bind_assoc : {A B C : Type 0} (m : Reading A) (f : A → Reading B) (h : B → Reading C) → ((m >>= f) >>= h) ≡ (m >>= λ x. f x >>= h)
bind_assoc (Ready x) f h = refl
bind_assoc (Refused r) f h = refl
bind_assoc (Take name most next) f h = λ i. Take name most (λ bytes. bind_assoc (next bytes) f h i)

pub bind_ready : {A : Type 0} (m : Reading A) → m ≡ (m >>= λ x. Ready x)
bind_ready (Ready x) = refl
bind_ready (Refused r) = refl
bind_ready (Take name most next) = λ i. Take name most (λ bytes. bind_ready (next bytes) i)

-- both ends of two readings, where the second follows from what the first says
pub record WasRead {A B : Type 0} (m : Reading A) (f : A → Reading B) (came : List Taken) (y : B) : Type 0 where
  pub value : A
  pub first : List Taken
  pub later : List Taken
  pub parts : came ≡ first ++ later
  pub said : EndsAs m first (Says value)
  pub then_said : EndsAs (f value) later (Says y)

was_came : {A B : Type 0} (name : List ℕ) (most : ℕ) (next : List ℕ → Reading A) (f : A → Reading B) (taken : Taken) (more : List Taken) (y : B) →
    ((bytes : List ℕ) → EndsAs (next bytes >>= f) more (Says y) → WasRead (next bytes) f more y) → taken.name ≡ name → taken.most ≡ most →
    (came : Result (List ℕ) ShelfStop) → taken.came ≡ came →
    OnCame came (λ bytes. EndsAs (next bytes >>= f) more (Says y)) ((more ≡ []) × (Says y ≡ Faulty (too_long name))) ((more ≡ []) × (Says y ≡ Failed name)) →
    WasRead (Take name most next) f (taken ∷ more) y
was_came name most next f taken more y rest named within (Ok bytes) is h =
    let w = rest bytes h in
    record {
      value = w.value;
      first = taken ∷ w.first;
      later = w.later;
      parts = ap (λ (l : List Taken). taken ∷ l) w.parts;
      said = (
        named,
        within,
        subst (λ (c : Result (List ℕ) ShelfStop). OnCame c (λ b. EndsAs (next b) w.first (Says w.value))
            ((w.first ≡ []) × (Says w.value ≡ Faulty (too_long name)))
            ((w.first ≡ []) × (Says w.value ≡ Failed name))) (sym is) w.said,
      );
      then_said = w.then_said;
    }
was_came name most next f taken more y rest named within (Err stop.TooLong) is h = absurd (said_faulty y (too_long name) h.1)
was_came name most next f taken more y rest named within (Err stop.Failed) is h = absurd (said_failed y name h.1)
was_came name most next f taken more y rest named within (Err stop.OutOfMemory) is h = absurd h

pub was_read : {A B : Type 0} (m : Reading A) (f : A → Reading B) (came : List Taken) (y : B) → EndsAs (m >>= f) came (Says y) → WasRead m f came y
was_read (Ready x) f came y h = record { value = x; first = []; later = came; parts = refl; said = refl; then_said = h }
was_read (Refused r) f [] y h = absurd (said_faulty y r h)
was_read (Refused r) f (taken ∷ more) y h = absurd h
was_read (Take name most next) f [] y h = absurd h
was_read (Take name most next) f (taken ∷ more) y h =
    was_came name most next f taken more y (λ bytes k. was_read (next bytes) f more y k) h.0 h.1 taken.came refl h.2

both_came : {R : Type 0} (came : Result (List ℕ) ShelfStop) (P Q : List ℕ → Type 0) (L M F G : Type 0) →
    ((bytes : List ℕ) → P bytes → Q bytes → R) → (L → M → R) → (F → G → R) → OnCame came P L F → OnCame came Q M G → R
both_came (Ok bytes) P Q L M F G read long fault h k = read bytes h k
both_came (Err stop.TooLong) P Q L M F G read long fault h k = long h k
both_came (Err stop.Failed) P Q L M F G read long fault h k = fault h k
both_came (Err stop.OutOfMemory) P Q L M F G read long fault h k = absurd h

-- what came ends a reading in one way
pub one_end : {A : Type 0} (m : Reading A) (came : List Taken) (a b : End A) → EndsAs m came a → EndsAs m came b → a ≡ b
one_end (Ready x) [] a b h k = h ∙ sym k
one_end (Ready x) (taken ∷ more) a b h k = absurd h
one_end (Refused r) [] a b h k = h ∙ sym k
one_end (Refused r) (taken ∷ more) a b h k = absurd h
one_end (Take name most next) [] a b h k = absurd h
one_end (Take name most next) (taken ∷ more) a b h k =
    both_came taken.came (λ bytes. EndsAs (next bytes) more a) (λ bytes. EndsAs (next bytes) more b)
    ((more ≡ []) × (a ≡ Faulty (too_long name))) ((more ≡ []) × (b ≡ Faulty (too_long name)))
    ((more ≡ []) × (a ≡ Failed name)) ((more ≡ []) × (b ≡ Failed name))
    (λ bytes p q. one_end (next bytes) more a b p q) (λ p q. p.1 ∙ sym q.1) (λ p q. p.1 ∙ sym q.1) h.2 k.2

-- what is said, unless there is a fault, has none
pub said_unless : {A X : Type 0} (refused : X → InputRefusal) (made said : A) (fault : Option X) (came : List Taken) →
    EndsAs (unless_refused refused made fault) came (Says said) → (fault ≡ None) × (said ≡ made)
said_unless refused made said (Some fault) [] is = absurd (said_faulty said _ is)
said_unless refused made said (Some fault) (taken ∷ more) is = absurd is
said_unless refused made said None [] is = (refl, one_said said made is)
said_unless refused made said None (taken ∷ more) is = absurd is

-- and without a fault it is said
pub says_unless : {A X : Type 0} (refused : X → InputRefusal) (said : A) (fault : Option X) → fault ≡ None →
    EndsAs (unless_refused refused said fault) [] (Says said)
says_unless {A} {X} refused said fault none =
    subst (λ (f : Option X). EndsAs (unless_refused refused said f) [] (Says said)) (sym none) refl
