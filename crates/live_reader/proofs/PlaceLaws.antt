-- Places that are gathered one after another.
use Rattle.std.proofs.Common.{◌≡◌, ℕ, ◌+◌, ◌-◌, ◌<◌, ◌≤◌, List, [], ◌∷◌, ◌++◌, Bool, true, false, cond, length, drop, get_or, Option, Some, None, refl, sym, ap, ◌∙◌, subst, arith, ◌||◌, ◌&&◌}
use Rattle.std.specs.Prelude.{reverse, is_some}
use Rattle.std.specs.List.{list_any, list_all}
use Rattle.std.proofs.lemmas.List.{reverse-append, drop_all}
use Rattle.cost_base.specs.Lists.{same_bytes}
use Rattle.cost_base.proofs.ByteLemmas.{same_bytes-true}
use Rattle.text_lines.specs.Numbers.{quad}
use Rattle.json.specs.Token.{Token}
use Rattle.json.specs.Json.{Json, Members, no_members, member}
use Rattle.json.specs.Tree.{json_tokens, members_tokens}
use Rattle.cost_base.proofs.ListLemmas.{drop_read}
use Rattle.live_reader.specs.declared.tree.Step.{Step}
use Rattle.live_reader.specs.Places.{Stands, Placed, Member, members_at, last_where, those_last, member_values}
use Rattle.live_reader.specs.Walks.{IsStep, HaveSeen, StepOver, StandAt, last_places}
use Rattle.live_reader.specs.JsonLsas.{is_quad, names_area, area_member}

-- ---- what steps go over

-- one more step
pub over_more : (all : List Token) (steps : List Step) (seen : List Member) (step : Step) (j : Json) → StepOver all steps seen → Stands all step.place j →
    StepOver all (steps ++ step ∷ []) (seen ++ record { name = step.name.now; place = step.place; value = j } ∷ [])
over_more all [] [] step j over stands = (refl, refl, stands, tt)
over_more all (s ∷ steps) (m ∷ seen) step j over stands = (over.0, over.1, over.2, over_more all steps seen step j over.3 stands)
over_more all [] (m ∷ seen) step j over stands = absurd over
over_more all (s ∷ steps) [] step j over stands = absurd over

same_names : (all : List Token) (name : List ℕ) (steps : List Step) (members : List Member) → StepOver all steps members →
    list_any (λ (later : Step). same_bytes name later.name.now) steps ≡ list_any (λ (later : Member). same_bytes name later.name) members
same_names all name [] [] over = refl
same_names all name (s ∷ steps) (m ∷ members) over =
    ap (λ n. same_bytes name n || list_any (λ (later : Step). same_bytes name later.name.now) steps) over.0
    ∙ ap (λ b. same_bytes name m.name || b) (same_names all name steps members over.3)
same_names all name [] (m ∷ members) over = absurd over
same_names all name (s ∷ steps) [] over = absurd over

stand_if : (all : List Token) (b : Bool) (place : ℕ) (m : Member) (places : List ℕ) (more : List Member) → place ≡ m.place → Stands all m.place m.value →
    StandAt all places (member_values more) → StandAt all (cond b places (place ∷ places)) (member_values (cond b more (m ∷ more)))
stand_if all true place m places more same stands rest = rest
stand_if all false place m places more same stands rest = (same, stands, rest)

-- the places of those that are the last of their names
pub last_stand : (all : List Token) (steps : List Step) (members : List Member) → StepOver all steps members →
    StandAt all (last_places steps) (member_values (those_last members))
last_stand all [] [] over = tt
last_stand all (s ∷ steps) (m ∷ members) over =
    subst (λ b. StandAt all (cond b (last_places steps) (s.place ∷ last_places steps)) (member_values (those_last (m ∷ members))))
    (sym (ap (λ n. list_any (λ (later : Step). same_bytes n later.name.now) steps) over.0 ∙ same_names all m.name steps members over.3))
    (stand_if all (list_any (λ (later : Member). same_bytes m.name later.name) members) s.place m (last_places steps) (those_last members) over.1 over.2
    (last_stand all steps members over.3))
last_stand all [] (m ∷ members) over = absurd over
last_stand all (s ∷ steps) [] over = absurd over

-- ---- from the last step to the first

-- the names and places of the steps from a number on
pub record AreGathered (steps : List Step) (left : ℕ) (names : List (List ℕ)) (places : List ℕ) : Type 0 where
  pub within : left ≤ length steps
  pub names_are : (name : List ℕ) → list_any (same_bytes name) names ≡ list_any (λ (later : Step). same_bytes name later.name.now) (drop left steps)
  pub places_are : places ≡ reverse (last_places (drop left steps))

pub none_gathered : (steps : List Step) (names : List (List ℕ)) (places : List ℕ) → names ≡ [] → places ≡ [] → AreGathered steps (length steps) names places
none_gathered steps names places no_names no_places =
    let over : drop (length steps) steps ≡ [] = drop_all (length steps) steps (omega arith) in
    record {
      within = omega arith;
      names_are = λ name. ap (list_any (same_bytes name)) no_names ∙ sym (ap (list_any (λ (later : Step). same_bytes name later.name.now)) over);
      places_are = no_places ∙ sym (ap (λ l. reverse (last_places l)) over);
    }

in_front : (x : ℕ) (xs : List ℕ) → reverse (x ∷ xs) ≡ reverse xs ++ x ∷ []
in_front x xs = reverse-append (x ∷ []) xs

pub twice_reversed : (xs : List ℕ) → reverse (reverse xs) ≡ xs
twice_reversed [] = refl
twice_reversed (x ∷ xs) = ap reverse (in_front x xs) ∙ reverse-append (reverse xs) (x ∷ []) ∙ ap (λ l. x ∷ l) (twice_reversed xs)

any_more : {X : Type 0} (p : X → Bool) (xs : List X) (x : X) → list_any p (xs ++ x ∷ []) ≡ (p x || list_any p xs)
any_more p [] x = refl
any_more p (y ∷ xs) x = ap (λ b. p y || b) (any_more p xs x) ∙ swapped (p y) (p x) (list_any p xs)
  where
    swapped : (a b c : Bool) → (a || (b || c)) ≡ (b || (a || c))
    swapped true true c = refl
    swapped true false c = refl
    swapped false true c = refl
    swapped false false c = refl

-- a step whose name comes later is left out
pub left_out : (steps : List Step) (left : ℕ) (step : Step) (names : List (List ℕ)) (places : List ℕ) → 0 < left → AreGathered steps left names places →
    step ≡ get_or steps (left - 1) step → list_any (same_bytes step.name.now) names ≡ true → AreGathered steps (left - 1) names places
left_out steps left step names places some are is there =
    let behind : left - 1 + 1 ≡ left = omega arith in
    let front : drop (left - 1) steps ≡ step ∷ drop left steps =
    drop_read steps (left - 1) step (omega (arith, are.within)) is ∙ ap (λ n. step ∷ drop n steps) behind in
    let here : list_any (λ (later : Step). same_bytes step.name.now later.name.now) (drop left steps) ≡ true = sym (are.names_are step.name.now) ∙ there in
    record {
      within = omega (arith, are.within);
      names_are = λ name. are.names_are name ∙ known name here ∙ sym (ap (list_any (λ (later : Step). same_bytes name later.name.now)) front);
      places_are = are.places_are ∙ sym (ap (λ l. reverse (last_places l)) front ∙
          ap (λ b. reverse (cond b (last_places (drop left steps)) (step.place ∷ last_places (drop left steps)))) here);
    }
  where
    known : (name : List ℕ) → list_any (λ (later : Step). same_bytes step.name.now later.name.now) (drop left steps) ≡ true →
        list_any (λ (later : Step). same_bytes name later.name.now) (drop left steps) ≡
        list_any (λ (later : Step). same_bytes name later.name.now) (step ∷ drop left steps)
    known name here = by_test (same_bytes name step.name.now) refl
      where
        by_test : (b : Bool) → same_bytes name step.name.now ≡ b →
            list_any (λ (later : Step). same_bytes name later.name.now) (drop left steps) ≡
            (same_bytes name step.name.now || list_any (λ (later : Step). same_bytes name later.name.now) (drop left steps))
        by_test true e =
            ap (λ n. list_any (λ (later : Step). same_bytes n later.name.now) (drop left steps)) (same_bytes-true name step.name.now e) ∙ here
            ∙ sym (ap (λ b. b || list_any (λ (later : Step). same_bytes name later.name.now) (drop left steps)) e)
        by_test false e = sym (ap (λ b. b || list_any (λ (later : Step). same_bytes name later.name.now) (drop left steps)) e)

-- a step whose name doesn't come later is kept
pub kept : (steps : List Step) (left : ℕ) (step : Step) (names more : List (List ℕ)) (places : List ℕ) → 0 < left → AreGathered steps left names places →
    step ≡ get_or steps (left - 1) step → list_any (same_bytes step.name.now) names ≡ false → more ≡ names ++ step.name.now ∷ [] →
    AreGathered steps (left - 1) more (places ++ step.place ∷ [])
kept steps left step names more places some are is new added =
    let behind : left - 1 + 1 ≡ left = omega arith in
    let front : drop (left - 1) steps ≡ step ∷ drop left steps =
    drop_read steps (left - 1) step (omega (arith, are.within)) is ∙ ap (λ n. step ∷ drop n steps) behind in
    let here : list_any (λ (later : Step). same_bytes step.name.now later.name.now) (drop left steps) ≡ false = sym (are.names_are step.name.now) ∙ new in
    record {
      within = omega (arith, are.within);
      names_are = λ name. ap (list_any (same_bytes name)) added ∙ any_more (same_bytes name) names step.name.now
          ∙ ap (λ b. same_bytes name step.name.now || b) (are.names_are name)
          ∙ sym (ap (list_any (λ (later : Step). same_bytes name later.name.now)) front);
      places_are = ap (λ l. l ++ step.place ∷ []) are.places_are ∙ sym (in_front step.place (last_places (drop left steps)))
          ∙ sym (ap (λ l. reverse (last_places l)) front ∙ ap (λ b. reverse (cond b (last_places (drop left steps))
          (step.place ∷ last_places (drop left steps)))) here);
    }

pub emptied : (n : ℕ) → (n ≤ 0) → n ≡ 0
emptied n none = omega arith

-- ---- values at places

pub stand_more : (all : List Token) (places : List ℕ) (seen : List Placed) (place : ℕ) (j : Json) → StandAt all places seen → Stands all place j →
    StandAt all (places ++ place ∷ []) (seen ++ record { place = place; value = j } ∷ [])
stand_more all [] [] place j at stands = (refl, stands, tt)
stand_more all (p ∷ places) (s ∷ seen) place j at stands = (at.0, at.1, stand_more all places seen place j at.2 stands)
stand_more all [] (s ∷ seen) place j at stands = absurd at
stand_more all (p ∷ places) [] place j at stands = absurd at

-- ---- the areas

all_more : {X : Type 0} (p : X → Bool) (xs ys : List X) (x : X) → p x ≡ false → list_all p (xs ++ x ∷ ys) ≡ false
all_more p [] ys x e = ap (λ b. b && list_all p ys) e
all_more p (y ∷ xs) ys x e = ap (λ b. p y && b) (all_more p xs ys x e) ∙ neither (p y)
  where
    neither : (b : Bool) → (b && false) ≡ false
    neither true = refl
    neither false = refl

pub all_push : {X : Type 0} (p : X → Bool) (xs : List X) (x : X) → list_all p xs ≡ true → p x ≡ true → list_all p (xs ++ x ∷ []) ≡ true
all_push p [] x h e = ap (λ b. b && true) e
all_push p (y ∷ xs) x h e = both (p y) (list_all p xs) (list_all p (xs ++ x ∷ [])) (λ k. all_push p xs x k e) h
  where
    both : (b c d : Bool) → (c ≡ true → d ≡ true) → (b && c) ≡ true → (b && d) ≡ true
    both true c d next h = next h
    both false c d next h = h

-- a name that is no dotted quad leaves no area
pub no_area : (area : ℕ) (members seen rest : List Member) (m : Member) → members ≡ seen ++ m ∷ rest → quad m.name ≡ None → area_member area members ≡ None
no_area area members seen rest m whole e =
    ap (λ b. cond b (Some (last_where (names_area area) members)) None)
    (ap (list_all is_quad) whole ∙ all_more is_quad seen rest m (ap is_some e))

pub some_area : (area : ℕ) (members : List Member) → list_all is_quad members ≡ true → area_member area members ≡ Some (last_where (names_area area) members)
some_area area members e = ap (λ b. cond b (Some (last_where (names_area area) members)) None) e

some_is_none : {X P : Type 0} (x : X) → Some x ≡ None → P
some_is_none {X} x e = absurd (subst {A = Option X} There e tt)
  where
    There : Option X → Type 0
    There None = ⊥
    There (Some y) = Unit {0}

-- a walk that comes to a name that is no dotted quad
pub walk_breaks_area : (all : List Token) (area start next : ℕ) (ms : Members) (step : Step) (Held : List Member → Type 0) → HaveSeen all start ms next Held →
    ((rest : Members) (more : List Token) → drop next all ≡ members_tokens rest ++ more → IsStep next rest (Some step)) → quad step.name.now ≡ None →
    area_member area (members_at start ms) ≡ None
walk_breaks_area all area start next ms step Held w is e = by_rest w.rest w.whole (is w.rest w.more w.left)
  where
    by_rest : (rest : Members) → members_at start ms ≡ w.seen ++ members_at next rest → IsStep next rest (Some step) →
        area_member area (members_at start ms) ≡ None
    by_rest no_members whole s = absurd (some_is_none step s)
    by_rest (member name j rest) whole s =
        no_area area (members_at start ms) w.seen (members_at (next + 1 + length (json_tokens j)) rest) (record { name = name; place = next + 1; value = j })
        whole
        (ap quad (sym s.0) ∙ e)
