-- What JSON objects say, gathered one after another.
use Rattle.std.proofs.Common.{◌≡◌, ℕ, ◌+◌, ◌<◌, List, [], ◌∷◌, ◌++◌, length, drop, get_or, Option, refl, sym, ap, ◌∙◌, subst, append_assoc, append-nil}
use Rattle.std.specs.Prelude.{Result, Ok, Err}
use Rattle.std.proofs.lemmas.List.{drop_more}
use Rattle.cost_base.specs.declared.refusal.Refusal.{Refusal}
use Rattle.cost_base.specs.declared.refusal.Refusal.TheVariants.{Refused, OutOfMemory}
use Rattle.json.specs.Token.{Token}
use Rattle.json.specs.Json.{Json}
use Rattle.live_reader.specs.declared.fault.Lack.{Lack}
use Rattle.live_reader.specs.Stops.{TellsLack}
use Rattle.live_reader.specs.Places.{Stands, Placed, Member, object_members}
use Rattle.live_reader.specs.Walks.{StandAt}
use Rattle.live_reader.specs.EachRead.{each_read, said_before}

-- things in front of what others come to
abbrev pub done_before : {A : Type 0} → List A → Result (List A) ℕ → Result (List A) ℕ
done_before done (Err place) = Err place
done_before done (Ok more) = Ok (done ++ more)

-- of what values say some is gathered, and the others stand at these places
pub record AreLeft {A B : Type 0} (each : B → List A) (read : ℕ → Option (List Member) → Result B ℕ) (all : List Token)
    (places : List ℕ) (done : List A) (said : List Placed) : Type 0 where
  pub rest : List Placed
  pub stand : StandAt all places rest
  pub told : each_read each read said ≡ done_before done (each_read each read rest)

none_before : {A : Type 0} (r : Result (List A) ℕ) → r ≡ done_before [] r
none_before (Ok done) = refl
none_before (Err place) = refl

-- before the first
pub each_begin : {A B : Type 0} (each : B → List A) (read : ℕ → Option (List Member) → Result B ℕ) (all : List Token) (places : List ℕ)
    (done : List A) (said : List Placed) → done ≡ [] → StandAt all places said → AreLeft each read all places done said
each_begin each read all places done said none stand = record {
  rest = said;
  stand = stand;
  told = none_before (each_read each read said) ∙ sym (ap (λ l. done_before l (each_read each read said)) none);
}

one_before : {A B : Type 0} (each : B → List A) (done : List A) (one : B) (r : Result (List A) ℕ) →
    done_before done (said_before each (Ok one) r) ≡ done_before (done ++ each one) r
one_before each done one (Ok more) = ap Ok (sym (append_assoc done (each one) more))
one_before each done one (Err place) = refl

-- what stands at the first place, by what is read of every value there
here_read : {B : Type 0} (read : ℕ → Option (List Member) → Result B ℕ) (all : List Token) (place : ℕ) (p : Placed) (r : Result B ℕ) →
    place ≡ p.place → Stands all p.place p.value → ((j : Json) → Stands all place j → read place (object_members place j) ≡ r) →
    read p.place (object_members p.place p.value) ≡ r
here_read read all place p r at stands reads =
    subst (λ n. read n (object_members n p.value) ≡ r) at (reads p.value (subst (λ n. Stands all n p.value) (sym at) stands))

-- behind one more
pub each_go_on : {A B : Type 0} (each : B → List A) (read : ℕ → Option (List Member) → Result B ℕ) (all : List Token) (place : ℕ)
    (places : List ℕ) (done more : List A) (one : B) (said : List Placed) → AreLeft each read all (place ∷ places) done said →
    ((j : Json) → Stands all place j → read place (object_members place j) ≡ Ok one) → more ≡ done ++ each one → AreLeft each read all places more said
each_go_on each read all place places done more one said left reads is = by_rest left.rest left.stand left.told
  where
    by_rest : (rest : List Placed) → StandAt all (place ∷ places) rest → each_read each read said ≡ done_before done (each_read each read rest) →
        AreLeft each read all places more said
    by_rest [] stand told = absurd stand
    by_rest (p ∷ rest) stand told = record {
      rest = rest;
      stand = stand.2;
      told = told ∙ ap (λ r. done_before done (said_before each r (each_read each read rest))) (here_read read all place p (Ok one) stand.0 stand.1 reads)
          ∙ one_before each done one (each_read each read rest) ∙ ap (λ l. done_before l (each_read each read rest)) (sym is);
    }

-- behind the last
pub each_end : {A B : Type 0} (each : B → List A) (read : ℕ → Option (List Member) → Result B ℕ) (all : List Token) (done : List A)
    (said : List Placed) → AreLeft each read all [] done said → each_read each read said ≡ Ok done
each_end each read all done said left = by_rest left.rest left.stand left.told
  where
    by_rest : (rest : List Placed) → StandAt all [] rest → each_read each read said ≡ done_before done (each_read each read rest) →
        each_read each read said ≡ Ok done
    by_rest [] stand told = told ∙ ap Ok (append-nil done)
    by_rest (p ∷ rest) stand told = absurd stand

-- one lacks something
each_fail : {A B : Type 0} (each : B → List A) (read : ℕ → Option (List Member) → Result B ℕ) (all : List Token) (place lacking : ℕ)
    (places : List ℕ) (done : List A) (said : List Placed) → AreLeft each read all (place ∷ places) done said →
    ((j : Json) → Stands all place j → read place (object_members place j) ≡ Err lacking) → each_read each read said ≡ Err lacking
each_fail each read all place lacking places done said left reads = by_rest left.rest left.stand left.told
  where
    by_rest : (rest : List Placed) → StandAt all (place ∷ places) rest → each_read each read said ≡ done_before done (each_read each read rest) →
        each_read each read said ≡ Err lacking
    by_rest [] stand told = absurd stand
    by_rest (p ∷ rest) stand told =
        told ∙ ap (λ r. done_before done (said_before each r (each_read each read rest))) (here_read read all place p (Err lacking) stand.0 stand.1 reads)

-- what a stop tells of one of them it tells of all
pub each_tell : {A B : Type 0} (each : B → List A) (read : ℕ → Option (List Member) → Result B ℕ) (all : List Token) (place : ℕ)
    (places : List ℕ) (done : List A) (said : List Placed) (stop : Refusal Lack ℕ) → AreLeft each read all (place ∷ places) done said →
    ((j : Json) → Stands all place j → TellsLack (read place (object_members place j)) stop) → TellsLack (each_read each read said) stop
each_tell each read all place places done said (Refused lack lacking) left tells = each_fail each read all place lacking places done said left tells
each_tell each read all place places done said OutOfMemory left tells = tt

-- the places that are left begin with this one
pub each_at : {A B : Type 0} (each : B → List A) (read : ℕ → Option (List Member) → Result B ℕ) (all : List Token) (i d : ℕ) (places : List ℕ)
    (done : List A) (said : List Placed) → i < length places → AreLeft each read all (drop i places) done said →
    AreLeft each read all (get_or places i d ∷ drop (i + 1) places) done said
each_at each read all i d places done said within left = subst (λ ps. AreLeft each read all ps done said) (drop_more places i d within) left
