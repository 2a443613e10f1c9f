-- What came of files that are texts ends a reading as these texts do.
use Rattle.std.proofs.Common.{◌≡◌, ℕ, ◌<◌, ◌≤◌, refl, sym, ◌∙◌, ap, subst, List, [], ◌∷◌, ◌++◌, length, Bool, true, false, cond, Result, Ok, Err, Some, arith}
use Rattle.std.proofs.Math.Dec.{leb}
use Rattle.std.proofs.lemmas.Bool.{le-leb, lt-leb}
use Rattle.cost_base.specs.declared.ShelfStop.{ShelfStop}
use Rattle.cost_base.specs.declared.ShelfStop.TheVariants as stop
use Rattle.cost_base.specs.Histories.{Taken, AreTold, IsToldAs, failure, failures}
use Rattle.input_files.specs.Readings.{InputRefusal, Reading, Take, Refused, Ready, End, Says, Faulty, Failed, too_long, OnCame, EndsAs}
use Rattle.input_files.specs.Ends.{text_named, end_of_reading}

-- a text of at most so many bytes is read
text_read : {A : Type 0} (texts : List (List ℕ × List ℕ)) (name : List ℕ) (most : ℕ) (next : List ℕ → Reading A) →
    length (text_named texts name) ≤ most →
    end_of_reading texts (Take name most next) ≡ end_of_reading texts (next (text_named texts name))
text_read texts name most next short = rw (le-leb (length (text_named texts name)) most short) refl

-- a longer one is refused
text_refused : {A : Type 0} (texts : List (List ℕ × List ℕ)) (name : List ℕ) (most : ℕ) (next : List ℕ → Reading A) →
    most < length (text_named texts name) → end_of_reading texts (Take name most next) ≡ Faulty (too_long name)
text_refused texts name most next long = rw (lt-leb (length (text_named texts name)) most long) refl

some_none : (x : List ℕ) (xs : List (List ℕ)) → x ∷ xs ≡ [] → ⊥
some_none x xs e = cc

-- what came of one file that is a text, and how the reading ends behind it
file_ends : {A : Type 0} (texts : List (List ℕ × List ℕ)) (name : List ℕ) (most : ℕ) (next : List ℕ → Reading A)
    (more : List Taken) (end : End A) (came : Result (List ℕ) ShelfStop) →
    OnCame came (λ bytes. EndsAs (next bytes) more end) ((more ≡ []) × (end ≡ Faulty (too_long name))) ((more ≡ []) × (end ≡ Failed name)) →
    IsToldAs (Some (text_named texts name)) most came → failure name came ++ failures more ≡ [] →
    ((bytes : List ℕ) → EndsAs (next bytes) more end → failures more ≡ [] → end_of_reading texts (next bytes) ≡ end) →
    end_of_reading texts (Take name most next) ≡ end
file_ends texts name most next more end (Ok bytes) then it none rest =
    let short : length (text_named texts name) ≤ most = omega (arith, ap length it.0, it.1) in
    text_read texts name most next short ∙ rest (text_named texts name) (subst (λ (b : List ℕ). EndsAs (next b) more end) it.0 then) none
file_ends texts name most next more end (Err stop.TooLong) then it none rest = text_refused texts name most next it ∙ sym then.1
file_ends texts name most next more end (Err stop.Failed) then it none rest = absurd (some_none name (failures more) none)
file_ends texts name most next more end (Err stop.OutOfMemory) then it none rest = absurd then

-- what came of files that are texts ends a reading as it ends on the texts
pub ends_on : {A : Type 0} (texts : List (List ℕ × List ℕ)) (reading : Reading A) (came : List Taken) (end : End A) →
    EndsAs reading came end → AreTold (λ name. Some (text_named texts name)) came → failures came ≡ [] →
    end_of_reading texts reading ≡ end
ends_on texts (Ready x) [] end is told sure = sym is
ends_on texts (Ready x) (taken ∷ more) end is told sure = absurd is
ends_on texts (Refused r) [] end is told sure = sym is
ends_on texts (Refused r) (taken ∷ more) end is told sure = absurd is
ends_on texts (Take name most next) [] end is told sure = absurd is
ends_on {A} texts (Take name most next) (taken ∷ more) end is told sure =
    file_ends texts name most next more end taken.came is.2
    (subst (λ (m : ℕ). IsToldAs (Some (text_named texts name)) m taken.came) is.1
    (subst (λ (n : List ℕ). IsToldAs (Some (text_named texts n)) taken.most taken.came) is.0 told.0))
    (subst (λ (n : List ℕ). failure n taken.came ++ failures more ≡ []) is.0 sure)
    (λ bytes ends none. ends_on texts (next bytes) more end ends told.1 none)

abbrev IsNoFailure : {A : Type 0} → End A → Type 0
IsNoFailure (Says x) = Unit {0}
IsNoFailure (Faulty r) = Unit {0}
IsNoFailure (Failed file) = ⊥

either_end : {A : Type 0} (b : Bool) (end : End A) (r : InputRefusal) → IsNoFailure end → IsNoFailure (cond b end (Faulty r))
either_end true end r fine = fine
either_end false end r fine = tt

-- no text fails
never_fails : {A : Type 0} (texts : List (List ℕ × List ℕ)) (reading : Reading A) → IsNoFailure (end_of_reading texts reading)
never_fails texts (Ready x) = tt
never_fails texts (Refused r) = tt
never_fails texts (Take name most next) =
    either_end (leb (length (text_named texts name)) most) (end_of_reading texts (next (text_named texts name))) (too_long name)
    (never_fails texts (next (text_named texts name)))

pub no_failure : {A : Type 0} (texts : List (List ℕ × List ℕ)) (reading : Reading A) (file : List ℕ) → end_of_reading texts reading ≡ Failed file → ⊥
no_failure {A} texts reading file is = subst (λ (e : End A). IsNoFailure e) is (never_fails texts reading)
