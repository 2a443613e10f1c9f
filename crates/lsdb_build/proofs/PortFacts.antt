-- What the active interfaces of routers keep, and what a topology without a fault tells.
use Rattle.std.proofs.Common.{◌≡◌, ◌≢◌, ℕ, zero, suc, ◌+◌, ◌<◌, ◌≤◌, inl, inr, Bool, true, false, cond, ◌&&◌, ltb, nat_le, List, [], ◌∷◌, Option, Some, None, length, map, refl, sym, ap, ◌∙◌, arith, slice_get, All, AllPairs}
use Rattle.std.specs.List.{list_any}
use Rattle.std.proofs.lemmas.Bool.{false≢true, or_parts, cases_Bool, ltb-false}
use Rattle.std.proofs.lemmas.Option.{none-some}
use Rattle.std.proofs.lemmas.List.Elements.{All-nil, All-cons, All-head, All-tail, All-append, All-weaker}
use Rattle.std.proofs.lemmas.List.Kept.{AllPairs-cons}
use Rattle.cost_base.specs.Lists.{same_bytes}
use Rattle.cost_base.proofs.ByteLemmas.{same_bytes-refl}
use Rattle.cost_base.proofs.ListLemmas.{pairs_nil, pairs_head, pairs_tail, pairs_append, cond-none}
use Rattle.interface_model.specs.declared.Interface.{Interface}
use Rattle.interface_model.specs.Records.{Router, IsInterface, IsRouter}
use Rattle.interface_model.specs.Addresses.{is_active}
use Rattle.lsdb_build.specs.declared.fault.TopologyFault.{TopologyFault}
use Rattle.lsdb_build.specs.Neighbours.{Port, port_of, ports_of, ports_from}
use Rattle.lsdb_build.specs.Topology.{FaultyPlace, first_some, at_port, at_config, past, second_of_name}

-- what an active interface keeps: its router is one of those from a number on, and it is as the model says
pub record IsPortFrom (low high : ℕ) (p : Port) : Type 0 where
  pub from : low ≤ p.router
  pub below : p.router < high
  pub interface : IsInterface p.interface

-- two interfaces in order: their routers don't fall, and on one router their names differ
pub record InOrder (a b : Port) : Type 0 where
  pub routers : a.router ≤ b.router
  pub names : a.router ≡ b.router → a.interface.name ≢ b.interface.name

-- what holds of an interface, where it is active
port_all : (P : Port → Type 0) (area n : ℕ) (i : Interface) (address : Option ℕ) →
    ((a : ℕ) → P (record { router = n; interface = i; address = a })) → All P (port_of area n i address)
port_all P area n i None each = All-nil P
port_all P area n i (Some a) each = by_test (is_active i area && nat_le i.length 31)
  where
    by_test : (b : Bool) → All P (cond b (record { router = n; interface = i; address = a } ∷ []) [])
    by_test true = All-cons P (record { router = n; interface = i; address = a }) [] (each a) (All-nil P)
    by_test false = All-nil P

-- an interface is at most one of the active ones
port_pairs : (R : Port → Port → Type 0) (area n : ℕ) (i : Interface) (address : Option ℕ) → AllPairs R (port_of area n i address)
port_pairs R area n i None = pairs_nil R
port_pairs R area n i (Some a) = by_test (is_active i area && nat_le i.length 31)
  where
    by_test : (b : Bool) → AllPairs R (cond b (record { router = n; interface = i; address = a } ∷ []) [])
    by_test true = AllPairs-cons R (record { router = n; interface = i; address = a }) []
        (All-nil (R (record { router = n; interface = i; address = a }))) (pairs_nil R)
    by_test false = pairs_nil R

-- what holds of the interfaces of a router holds of the active ones
ports_all : (Q : Interface → Type 0) (area n : ℕ) (is : List Interface) → All Q is → All (λ p. (p.router ≡ n) × Q p.interface) (ports_of area n is)
ports_all Q area n [] all = All-nil (λ p. (p.router ≡ n) × Q p.interface)
ports_all Q area n (i ∷ is) all =
    All-append (λ p. (p.router ≡ n) × Q p.interface) (port_of area n i i.address) (ports_of area n is)
    (port_all (λ p. (p.router ≡ n) × Q p.interface) area n i i.address (λ a. (refl, All-head Q i is all)))
    (ports_all Q area n is (All-tail Q i is all))

abbrev pub differ : Interface → Interface → Type 0
differ a b = a.name ≢ b.name

in_order : (n : ℕ) (a b : Port) → a.router ≡ n → b.router ≡ n → differ a.interface b.interface → InOrder a b
in_order n a b first second names = record { routers = omega arith; names = λ same. names }

ports_pairs : (area n : ℕ) (is : List Interface) → AllPairs differ is → AllPairs InOrder (ports_of area n is)
ports_pairs area n [] pairs = pairs_nil InOrder
ports_pairs area n (i ∷ is) pairs =
    let later = ports_all (differ i) area n is (pairs_head differ i is pairs) in
    pairs_append InOrder (port_of area n i i.address) (ports_of area n is)
    (port_pairs InOrder area n i i.address)
    (ports_pairs area n is (pairs_tail differ i is pairs))
    (port_all (λ a. All (InOrder a) (ports_of area n is)) area n i i.address
    (λ address. All-weaker (λ p. (p.router ≡ n) × differ i p.interface)
    (InOrder (record { router = n; interface = i; address = address }))
    (λ p h. in_order n (record { router = n; interface = i; address = address }) p refl h.0 h.1)
    (ports_of area n is) later))

pub ports_from_all : (area n : ℕ) (routers : List Router) → All IsRouter routers → All (IsPortFrom n (n + length routers)) (ports_from area n routers)
ports_from_all area n [] all = All-nil (IsPortFrom n (n + 0))
ports_from_all area n (r ∷ routers) all =
    let here = ports_all IsInterface area n r.interfaces (All-head IsRouter r routers all).interfaces in
    let later = ports_from_all area (n + 1) routers (All-tail IsRouter r routers all) in
    All-append (IsPortFrom n (n + length (r ∷ routers))) (ports_of area n r.interfaces) (ports_from area (n + 1) routers)
    (All-weaker (λ p. (p.router ≡ n) × IsInterface p.interface) (IsPortFrom n (n + length (r ∷ routers)))
    (λ p h. record { from = omega (arith, h.0); below = omega (arith, h.0); interface = h.1 })
    (ports_of area n r.interfaces) here)
    (All-weaker (IsPortFrom (n + 1) (n + 1 + length routers)) (IsPortFrom n (n + length (r ∷ routers)))
    (λ p h. record { from = omega (arith, h.from); below = omega (arith, h.below); interface = h.interface })
    (ports_from area (n + 1) routers) later)

later_routers : (n below : ℕ) (a b : Port) → a.router ≡ n → IsPortFrom (n + 1) below b → InOrder a b
later_routers n below a b here later = record { routers = omega (arith, later.from); names = λ same. absurd (omega (arith, later.from)) }

pub ports_from_pairs : (area n : ℕ) (routers : List Router) → All IsRouter routers → AllPairs InOrder (ports_from area n routers)
ports_from_pairs area n [] all = pairs_nil InOrder
ports_from_pairs area n (r ∷ routers) all =
    let is_router = All-head IsRouter r routers all in
    let here = ports_all IsInterface area n r.interfaces is_router.interfaces in
    let later = ports_from_all area (n + 1) routers (All-tail IsRouter r routers all) in
    pairs_append InOrder (ports_of area n r.interfaces) (ports_from area (n + 1) routers)
    (ports_pairs area n r.interfaces is_router.different)
    (ports_from_pairs area (n + 1) routers (All-tail IsRouter r routers all))
    (All-weaker (λ p. (p.router ≡ n) × IsInterface p.interface) (λ a. All (InOrder a) (ports_from area (n + 1) routers))
    (λ a h. All-weaker (IsPortFrom (n + 1) (n + 1 + length routers)) (InOrder a)
    (λ b k. later_routers n (n + 1 + length routers) a b h.0 k) (ports_from area (n + 1) routers) later)
    (ports_of area n r.interfaces) here)

-- without a first fault none of two has one
pub no_first : (f : Option FaultyPlace) (more : List (Option FaultyPlace)) → first_some (f ∷ more) ≡ None → (f ≡ None) × (first_some more ≡ None)
no_first None more h = (refl, h)
no_first (Some fault) more h = absurd (none-some fault (sym h))

pub no_port : (fault : TopologyFault) (o : Option Port) → at_port fault o ≡ None → o ≡ None
no_port fault None h = refl
no_port fault (Some p) h = absurd (none-some _ (sym h))

pub no_config : (fault : TopologyFault) (o : Option ℕ) → at_config fault o ≡ None → o ≡ None
no_config fault None h = refl
no_config fault (Some n) h = absurd (none-some _ (sym h))

-- within a limit none is past it
pub within : (limit count : ℕ) → past limit count ≡ None → count ≤ limit
within limit count h =
    elim (cases_Bool (ltb limit count)) [
      | inl above ↦ absurd (none-some limit (sym (sym (ap (λ b. cond b (Some limit) None) above) ∙ h)))
      | inr below ↦ ltb-false limit count below
    ]

-- a list without an element at a place is no longer
pub none_past : {X : Type 0} (xs : List X) (n : ℕ) → slice_get xs n ≡ None → length xs ≤ n
none_past [] n h = omega arith
none_past (x ∷ xs) zero h = absurd (none-some x (sym h))
none_past (x ∷ xs) (suc n) h = omega (arith, none_past xs n h)

-- what no second of a name tells: no name before is one of the names, and the names differ
pub record NamesDiffer (before : List (List ℕ)) (routers : List Router) : Type 0 where
  pub fresh : All (λ r. list_any (same_bytes r) before ≡ false) (map (λ r. r.name) routers)
  pub pairs : AllPairs (λ a b. a ≢ b) (map (λ r. r.name) routers)

pub names_differ : (before : List (List ℕ)) (n : ℕ) (routers : List Router) → second_of_name before n routers ≡ None → NamesDiffer before routers
names_differ before n [] h = record { fresh = All-nil (λ r. list_any (same_bytes r) before ≡ false); pairs = pairs_nil (λ a b. a ≢ b) }
names_differ before n (r ∷ routers) h =
    let step = cond-none (list_any (same_bytes r.name) before) n (second_of_name (r.name ∷ before) (n + 1) routers) h in
    let rest = names_differ (r.name ∷ before) (n + 1) routers step.1 in
    let names = map (λ (x : Router). x.name) routers in
    record {
      fresh = All-cons (λ v. list_any (same_bytes v) before ≡ false) r.name names step.0
          (All-weaker (λ v. list_any (same_bytes v) (r.name ∷ before) ≡ false)
          (λ v. list_any (same_bytes v) before ≡ false)
          (λ v k. (or_parts (same_bytes v r.name) (list_any (same_bytes v) before) k).1) names rest.fresh);
      pairs = AllPairs-cons (λ a b. a ≢ b) r.name names
          (All-weaker (λ v. list_any (same_bytes v) (r.name ∷ before) ≡ false) (λ v. r.name ≢ v)
          (λ v k same. false≢true (sym (or_parts (same_bytes v r.name) (list_any (same_bytes v) before) k).0
          ∙ ap (λ w. same_bytes v w) same ∙ same_bytes-refl v)) names rest.fresh) rest.pairs;
    }
