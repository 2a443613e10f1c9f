-- The lines of costs stand in the order of the links, so those of a router stand together.
use Rattle.std.proofs.Common.{inl, inr, ◌≡◌, ◌≢◌, ℕ, suc, ◌+◌, ◌<◌, ◌≤◌, refl, sym, ◌∙◌, ap, subst, List, [], ◌∷◌, ◌++◌, length, map, arith, Bool, true, false, Some}
use Rattle.std.specs.Prelude.{All, AllPairs, Contains, slice_get, slice_index_or, if◌then◌else◌}
use Rattle.std.proofs.lemmas.List.Elements.{All-nil, All-cons, All-head, All-tail}
use Rattle.std.proofs.lemmas.Bool.{cases_order, false_from_ne_true}
use Rattle.cost_base.specs.Words.{IsOneWord}
use Rattle.cost_base.specs.Lists.{same_bytes}
use Rattle.interface_model.specs.Records.{Router}
use Rattle.lsdb_build.specs.declared.Linked.{Linked}
use Rattle.lsdb_build.specs.Graphs.{Database, IsAreaDatabase, IsDatabaseLink}
use Rattle.lsdb_build.proofs.LinkOwners.{interface_names, IsLinkOf}
use Rattle.design_problem.specs.declared.problem.VarName.{VarName}
use Rattle.design_problem.specs.declared.answer.CostLine.{CostLine}
use Rattle.request_reader.specs.Asked.{Asked}
use Rattle.path_requests.specs.Meaning.{variable_of}
use Rattle.cost_base.proofs.ByteLemmas.{same_bytes-true, same_bytes-same}
use Rattle.wanted_paths.proofs.RouteLaws.{router_number_is}
use Rattle.printed_rows.specs.PrintedCosts.{named_cost}
use Rattle.read_back_laws.specs.ReadBack.{is_chosen, names_where}
use Rattle.read_back_laws.proofs.PrintedSections.{NoneOf, AfterRun, OneRun}

-- One more link in front: it has a name where it is free and chosen.

abbrev name_of : Asked → Database → ℕ → Linked → VarName
name_of a d l link = record { router = slice_index_or d.routers link.router []; interface = link.interface; var = variable_of a d l }

abbrev if_named : Bool → VarName → List VarName → List VarName
if_named here name rest = (if here then name ∷ [] else []) ++ rest

none_step : (router : List ℕ) (w : List ℕ) (here : Bool) (name : VarName) (rest : List VarName) →
    same_bytes router name.router ≡ false → NoneOf router (map (named_cost w) rest) →
    NoneOf router (map (named_cost w) (if_named here name rest))
none_step router w true name rest other more = (other, more)
none_step router w false name rest other more = more

none_after : (router : List ℕ) (lines : List CostLine) → NoneOf router lines → AfterRun router lines
none_after router [] none = tt
none_after router (line ∷ lines) none = inr (none.0, none.1)

after_one : (router : List ℕ) (lines : List CostLine) → AfterRun router lines → OneRun router lines
after_one router [] run = tt
after_one router (line ∷ lines) run =
    elim run [
      | inl same ↦ inl (same.0, same.1)
      | inr other ↦ inr
          (other.0, after_one router lines (none_after router lines other.1))
    ]

after_same : (router : List ℕ) (w : List ℕ) (here : Bool) (name : VarName) (rest : List VarName) →
    same_bytes router name.router ≡ true → AfterRun router (map (named_cost w) rest) →
    AfterRun router (map (named_cost w) (if_named here name rest))
after_same router w true name rest same more = inl (same, more)
after_same router w false name rest same more = more

after_other : (router : List ℕ) (w : List ℕ) (here : Bool) (name : VarName) (rest : List VarName) →
    same_bytes router name.router ≡ false → NoneOf router (map (named_cost w) rest) →
    AfterRun router (map (named_cost w) (if_named here name rest))
after_other router w true name rest other more = inr (other, more)
after_other router w false name rest other more = none_after router (map (named_cost w) rest) more

one_same : (router : List ℕ) (w : List ℕ) (here : Bool) (name : VarName) (rest : List VarName) →
    same_bytes router name.router ≡ true → AfterRun router (map (named_cost w) rest) →
    OneRun router (map (named_cost w) (if_named here name rest))
one_same router w true name rest same more = inl (same, more)
one_same router w false name rest same more = after_one router (map (named_cost w) rest) more

one_other : (router : List ℕ) (w : List ℕ) (here : Bool) (name : VarName) (rest : List VarName) →
    same_bytes router name.router ≡ false → OneRun router (map (named_cost w) rest) →
    OneRun router (map (named_cost w) (if_named here name rest))
one_other router w true name rest other more = inr (other, more)
one_other router w false name rest other more = more

-- the names of routers tell their numbers
same_router : (d : Database) (n m : ℕ) → n ≡ m → same_bytes (slice_index_or d.routers n []) (slice_index_or d.routers m []) ≡ true
same_router d n m same = same_bytes-same (slice_index_or d.routers n []) (slice_index_or d.routers m []) (ap (λ k. slice_index_or d.routers k []) same)

pub number_of : (d : Database) (n m : ℕ) → AllPairs (λ a b. a ≢ b) d.routers → n < length d.routers →
    m < length d.routers → same_bytes (slice_index_or d.routers n []) (slice_index_or d.routers m []) ≡ true → n ≡ m
number_of d n m different n_in m_in same =
    sym (router_number_is d n (slice_index_or d.routers n []) different n_in refl)
    ∙ router_number_is d m (slice_index_or d.routers n []) different m_in
    (sym (same_bytes-true (slice_index_or d.routers n []) (slice_index_or d.routers m []) same))

other_router : (d : Database) (n m : ℕ) → AllPairs (λ a b. a ≢ b) d.routers → n < length d.routers →
    m < length d.routers → (n ≡ m → ⊥) →
    same_bytes (slice_index_or d.routers n []) (slice_index_or d.routers m []) ≡ false
other_router d n m different n_in m_in apart =
    false_from_ne_true (same_bytes (slice_index_or d.routers n []) (slice_index_or d.routers m [])) (λ same. apart (number_of d n m different n_in m_in same))

pairs_head : (link : Linked) (links : List Linked) → AllPairs (λ a b. a.router ≤ b.router) (link ∷ links) → All (λ b. link.router ≤ b.router) links
pairs_head link links sorted = λ k e within. sorted 0 (suc k) e (omega arith) (omega arith)

pairs_tail : (link : Linked) (links : List Linked) → AllPairs (λ a b. a.router ≤ b.router) (link ∷ links) → AllPairs (λ a b. a.router ≤ b.router) links
pairs_tail link links sorted = λ i j e before within. sorted (suc i) (suc j) e (omega arith) (omega arith)

-- the links' routers are routers of the database
abbrev InRouters : Database → List Linked → Type 0
InRouters d links = All (λ link. link.router < length d.routers) links

none_behind : (chosen : ℕ → Linked → Bool) (a : Asked) (d : Database) (w : List ℕ) (n l : ℕ) (links : List Linked) →
    AllPairs (λ a b. a ≢ b) d.routers → n < length d.routers → InRouters d links → All (λ link. n < link.router) links →
    NoneOf (slice_index_or d.routers n []) (map (named_cost w) (names_where chosen a d l links))
none_behind chosen a d w n l [] different n_in within above = tt
none_behind chosen a d w n l (link ∷ links) different n_in within above =
    let here : n < link.router = All-head (λ (i : Linked). n < i.router) link links above in
    none_step (slice_index_or d.routers n []) w (is_chosen chosen a d l link) (name_of a d l link) (names_where chosen a d (l + 1) links)
    (other_router d n link.router different n_in (All-head (λ (i : Linked). i.router < length d.routers) link links within) (λ same. absurd (omega arith)))
    (none_behind chosen a d w n (l + 1) links different n_in
    (All-tail (λ (i : Linked). i.router < length d.routers) link links within)
    (All-tail (λ (i : Linked). n < i.router) link links above))

higher : (n m : ℕ) (links : List Linked) → n < m → All (λ link. m ≤ link.router) links → All (λ link. n < link.router) links
higher n m links less above = λ k e within. let h = above k e within in omega arith

run_from : (chosen : ℕ → Linked → Bool) (a : Asked) (d : Database) (w : List ℕ) (n l : ℕ) (links : List Linked) → AllPairs (λ a b. a ≢ b) d.routers →
    n < length d.routers → InRouters d links → AllPairs (λ a b. a.router ≤ b.router) links →
    All (λ link. n ≤ link.router) links →
    AfterRun (slice_index_or d.routers n []) (map (named_cost w) (names_where chosen a d l links))
run_from chosen a d w n l [] different n_in within sorted above = tt
run_from chosen a d w n l (link ∷ links) different n_in within sorted above =
    let here : n ≤ link.router = All-head (λ (i : Linked). n ≤ i.router) link links above in
    let inside : link.router < length d.routers = All-head (λ (i : Linked). i.router < length d.routers) link links within in
    let behind = All-tail (λ (i : Linked). i.router < length d.routers) link links within in
    elim (cases_order n link.router) [
      | inl same ↦
          after_same (slice_index_or d.routers n []) w (is_chosen chosen a d l link) (name_of a d l link)
          (names_where chosen a d (l + 1) links) (same_router d n link.router same)
          (run_from chosen a d w n (l + 1) links different n_in behind (pairs_tail link links sorted)
          (All-tail (λ (i : Linked). n ≤ i.router) link links above))
      | inr apart ↦ elim apart [
        | inl less ↦
            after_other (slice_index_or d.routers n []) w (is_chosen chosen a d l link) (name_of a d l link) (names_where chosen a d (l + 1) links)
            (other_router d n link.router different n_in inside (λ same. absurd (omega arith)))
            (none_behind chosen a d w n (l + 1) links different n_in behind (higher n link.router links less (pairs_head link links sorted)))
        | inr more ↦ absurd (omega arith)
      ]
    ]

-- the lines of a router are one run
pub one_run : (chosen : ℕ → Linked → Bool) (a : Asked) (d : Database) (w : List ℕ) (n l : ℕ) (links : List Linked) →
    AllPairs (λ a b. a ≢ b) d.routers → n < length d.routers → InRouters d links →
    AllPairs (λ a b. a.router ≤ b.router) links →
    OneRun (slice_index_or d.routers n []) (map (named_cost w) (names_where chosen a d l links))
one_run chosen a d w n l [] different n_in within sorted = tt
one_run chosen a d w n l (link ∷ links) different n_in within sorted =
    let inside : link.router < length d.routers = All-head (λ (i : Linked). i.router < length d.routers) link links within in
    let behind = All-tail (λ (i : Linked). i.router < length d.routers) link links within in
    elim (cases_order n link.router) [
      | inl same ↦
          one_same (slice_index_or d.routers n []) w (is_chosen chosen a d l link) (name_of a d l link) (names_where chosen a d (l + 1) links)
          (same_router d n link.router same)
          (run_from chosen a d w n (l + 1) links different n_in behind (pairs_tail link links sorted)
          (subst (λ (m : ℕ). All (λ b. m ≤ b.router) links) (sym same) (pairs_head link links sorted)))
      | inr apart ↦ elim apart [
        | inl less ↦
            one_other (slice_index_or d.routers n []) w (is_chosen chosen a d l link) (name_of a d l link) (names_where chosen a d (l + 1) links)
            (other_router d n link.router different n_in inside (λ same. absurd (omega arith)))
            (after_one (slice_index_or d.routers n []) (map (named_cost w) (names_where chosen a d (l + 1) links))
            (none_after (slice_index_or d.routers n []) (map (named_cost w) (names_where chosen a d (l + 1) links))
            (none_behind chosen a d w n (l + 1) links different n_in behind (higher n link.router links less (pairs_head link links sorted)))))
        | inr more ↦
            one_other (slice_index_or d.routers n []) w (is_chosen chosen a d l link) (name_of a d l link) (names_where chosen a d (l + 1) links)
            (other_router d n link.router different n_in inside (λ same. absurd (omega arith)))
            (one_run chosen a d w n (l + 1) links different n_in behind (pairs_tail link links sorted))
      ]
    ]

-- A name of a variable: its words, and the interface that it names.
pub record IsNameOf (names : List (List ℕ)) (routers : List Router) (name : VarName) : Type 0 where
  pub number : ℕ
  pub within : number < length names
  pub stands : slice_index_or names number [] ≡ name.router
  pub router : Router
  pub there : slice_get routers number ≡ Some router
  pub held : Contains (interface_names router) name.interface
  pub router_word : IsOneWord name.router
  pub interface_word : IsOneWord name.interface

name_step : (P : VarName → Type 0) (here : Bool) (name : VarName) (rest : List VarName) → P name → All P rest → All P (if_named here name rest)
name_step P true name rest here more = All-cons P name rest here more
name_step P false name rest here more = more

pub names_known : (chosen : ℕ → Linked → Bool) (a : Asked) (d : Database) (routers : List Router) (l : ℕ) (links : List Linked) → IsAreaDatabase d →
    All (IsDatabaseLink d) links → All (IsLinkOf routers) links → All (IsNameOf d.routers routers) (names_where chosen a d l links)
names_known chosen a d routers l [] base each owned = All-nil (IsNameOf d.routers routers)
names_known chosen a d routers l (link ∷ links) base each owned =
    let is = All-head (IsDatabaseLink d) link links each in
    let of = All-head (IsLinkOf routers) link links owned in
    name_step (IsNameOf d.routers routers) (is_chosen chosen a d l link) (name_of a d l link) (names_where chosen a d (l + 1) links)
    (record {
      number = link.router;
      within = is.router;
      stands = refl;
      router = of.router;
      there = of.there;
      held = of.held;
      router_word = (base.router_names link.router [] is.router).word;
      interface_word = is.name.word;
    })
    (names_known chosen a d routers (l + 1) links base (All-tail (IsDatabaseLink d) link links each) (All-tail (IsLinkOf routers) link links owned))
