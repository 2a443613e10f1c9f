-- The fault of a configuration and its records, from what the code gathers.
use Rattle.std.proofs.Common.{◌≡◌, ℕ, suc, ◌+◌, ◌<◌, List, [], ◌∷◌, ◌++◌, length, map, take, get_or, Bool, cond, true, false, ◌&&◌, ◌||◌, not, eqb, refl, sym, ap, ◌∙◌, subst, arith, Option, Some, None, append-nil, append_assoc, length-append}
use Rattle.std.specs.Prelude.{position, ◌==◌}
use Rattle.std.specs.List.{filter, filter_map, list_any, cons_option, position_or_len}
use Rattle.std.specs.Option.{option_or}
use Rattle.std.proofs.lemmas.Bool.{false≢true, false_from_ne_true, and_right, lt-ltb, ne_eqb, eqb-true, eq-eqb, or_left, or_right, or_parts}
use Rattle.std.proofs.lemmas.List.Folds.{list_any-append}
use Rattle.std.proofs.lemmas.List.{take_at, get_or_at, map-append}
use Rattle.std.proofs.lemmas.List.Elements.{filter_map-append}
use Rattle.text_lines.specs.Numbers.{Prefix}
use Rattle.config_reader.specs.declared.fault.ConfigFault.{ConfigFault}
use Rattle.config_reader.specs.declared.fault.ConfigFault.TheVariants.{AreaTwice}
use Rattle.config_reader.specs.declared.networks.NetworkLine.{NetworkLine}
use Rattle.config_reader.specs.Statements.{Statement, AddressIs, AreaIs, CostIs, KindIs, PriorityIs, PassiveIs, DownIs, RouterIdIs, NetworkIs, PassiveInterfaceIs, Refused, Unread, Network, Block, OfInterface, OfRouter, OfOther}
use Rattle.config_reader.specs.Settings.{Said, about, setting, area_set, interface_address, networks_said, network_said, matches, address_part, length_part, is_of_router}
use Rattle.config_reader.specs.FaultList.{Fault, at_line, address_by_networks, is_other_area, area_twice}
use Rattle.config_reader.specs.Drafting.{network_line, network_lines, clash, whole_address, twice_at, clash_for, clash_of, earliest, first_clash}
use Rattle.config_reader.proofs.FirstFaults.{firsts_at, firsts_suc, merge, agree, never, earliest_assoc, earliest_none}
use Rattle.config_reader.proofs.DraftLaws.{draft_of, plain, plain_by}

-- `network` lines without their numbers
abbrev pub net_of : NetworkLine → Network
net_of w = record { prefix = record { address = w.address; length = w.length }; area = w.area }

-- the `network` lines of a file
pub nets_law : (all : List Said) → networks_said all ≡ map net_of (network_lines all)
nets_law [] = refl
nets_law (s ∷ all) = by s.block s.statement (nets_law all)
  where
    by : (b : Block) (st : Statement) → networks_said all ≡ map net_of (network_lines all) →
        filter_map network_said (map (λ (t : Said). t.statement)
        (cond (is_of_router b) (record { number = s.number; block = b; statement = st }
        ∷ filter (λ (t : Said). is_of_router t.block) all) (filter (λ (t : Said). is_of_router t.block) all)))
        ≡ map net_of (cons_option (network_line s.number b st) (network_lines all))
    by (OfInterface name) st more = more
    by OfOther st more = more
    by OfRouter (NetworkIs w) more = ap (λ ns. w ∷ ns) more
    by OfRouter (AddressIs p) more = more
    by OfRouter (AreaIs a) more = more
    by OfRouter (CostIs c) more = more
    by OfRouter (KindIs k) more = more
    by OfRouter (PriorityIs c) more = more
    by OfRouter (PassiveIs b) more = more
    by OfRouter (DownIs b) more = more
    by OfRouter (RouterIdIs id) more = more
    by OfRouter (PassiveInterfaceIs name) more = more
    by OfRouter (Refused fault) more = more
    by OfRouter Unread more = more

nets-push : (all : List Said) (s : Said) → networks_said (all ++ s ∷ []) ≡ networks_said all ++
    map net_of (cons_option (network_line s.number s.block s.statement) [])
nets-push all s =
    nets_law (all ++ s ∷ [])
    ∙ ap (map net_of) (filter_map-append (λ (t : Said). network_line t.number t.block t.statement) all (s ∷ []))
    ∙ map-append net_of (network_lines all) (network_lines (s ∷ []))
    ∙ ap (λ ns. ns ++ map net_of (cons_option (network_line s.number s.block s.statement) [])) (sym (nets_law all))

-- the second area of one interface at a line
abbrev pub twice_one : List Network → Block → Statement → Option Prefix → Option ConfigFault
twice_one earlier OfRouter (NetworkIs w) address = cond (is_other_area earlier w address) (Some AreaTwice) None
twice_one earlier _ _ address = None

abbrev pub by_net : List Network → Option NetworkLine → Option Prefix → Option ConfigFault
by_net earlier None address = None
by_net earlier (Some w) address = cond (is_other_area earlier (net_of w) address) (Some AreaTwice) None

twice_by_net : (n : ℕ) (earlier : List Network) (b : Block) (s : Statement) (address : Option Prefix) →
    twice_one earlier b s address ≡ by_net earlier (network_line n b s) address
twice_by_net n earlier OfRouter (NetworkIs w) address = refl
twice_by_net n earlier _ _ address = refl

line_of_net : (n : ℕ) (b : Block) (s : Statement) (w : NetworkLine) → network_line n b s ≡ Some w → w.line ≡ n
line_of_net n b s w e = ap line_or (sym e) ∙ by b s (cc)
  where
    line_or : Option NetworkLine → ℕ
    line_or None = n
    line_or (Some x) = x.line

    by : (c : Block) (t : Statement) → line_or (network_line n b s) ≡ line_or (network_line n b s) → line_or (network_line n c t) ≡ n
    by OfRouter (NetworkIs v) h = refl
    by _ _ h = refl

module _ (p : Prefix) where
  -- what is known of the `network` lines so far: none matches, or all that do have one area
  abbrev pub OneArea : List Network → Option ℕ → Type 0
  OneArea earlier None = list_any (matches p) earlier ≡ false
  OneArea earlier (Some a) = (list_any (λ m. matches p m && not (m.area == a)) earlier ≡ false) × (list_any (λ m. matches p m && (m.area == a)) earlier ≡ true)

  any-last : (q : Network → Bool) (earlier : List Network) (w : Network) → list_any q (earlier ++ w ∷ []) ≡ (list_any q earlier || (q w || false))
  any-last q earlier w = list_any-append q earlier (w ∷ [])

  none_and : (q : Network → Bool) (earlier : List Network) → list_any (matches p) earlier ≡ false → list_any (λ m. matches p m && q m) earlier ≡ false
  none_and q [] none = refl
  none_and q (m ∷ ms) none =
      let parts = or_parts (matches p m) (list_any (matches p) ms) none in
      rw parts.0 (none_and q ms parts.1)

  some_other : (a b : ℕ) (earlier : List Network) → eqb b a ≡ false →
      list_any (λ m. matches p m && (m.area == a)) earlier ≡ true →
      list_any (λ m. matches p m && not (m.area == b)) earlier ≡ true
  some_other a b [] other some = absurd (cc)
  some_other a b (m ∷ ms) other some = cases (matches p m) (eqb m.area a) refl refl some (λ h. some_other a b ms other h)
    where
      cases : (x y : Bool) → matches p m ≡ x → eqb m.area a ≡ y → ((x && y) || list_any (λ m. matches p m && (m.area == a)) ms) ≡ true →
          (list_any (λ m. matches p m && (m.area == a)) ms ≡ true →
          list_any (λ m. matches p m && not (m.area == b)) ms ≡ true) →
          ((matches p m && not (m.area == b)) || list_any (λ m. matches p m && not (m.area == b)) ms) ≡ true
      cases true true e f h more =
          let same : m.area ≡ a = eqb-true m.area a f in
          let differs_b : eqb m.area b ≡ false = ne_eqb m.area b (λ g. false≢true (sym other ∙ eq-eqb b a (sym g ∙ same))) in
          or_left (matches p m && not (m.area == b)) (list_any (λ m. matches p m && not (m.area == b)) ms) (rw (e, differs_b))
      cases true false e f h more = or_right (matches p m && not (m.area == b)) (list_any (λ m. matches p m && not (m.area == b)) ms) (more h)
      cases false y e f h more = or_right (matches p m && not (m.area == b)) (list_any (λ m. matches p m && not (m.area == b)) ms) (more h)

  -- a line that doesn't match leaves what is known
  passed : (earlier : List Network) (w : Network) (first : Option ℕ) → matches p w ≡ false → OneArea earlier first → OneArea (earlier ++ w ∷ []) first
  passed earlier w None no_match known = any-last (matches p) earlier w ∙ rw (known, no_match)
  passed earlier w (Some a) no_match known = (
    any-last (λ m. matches p m && not (m.area == a)) earlier w ∙ rw (known.0, no_match),
    any-last (λ m. matches p m && (m.area == a)) earlier w
        ∙ or_left (list_any (λ m. matches p m && (m.area == a)) earlier)
        ((matches p w && (w.area == a)) || false) known.1,
  )

  first_match : (earlier : List Network) (w : Network) → matches p w ≡ true → OneArea earlier None → OneArea (earlier ++ w ∷ []) (Some w.area)
  first_match earlier w match known = (
    any-last (λ m. matches p m && not (m.area == w.area)) earlier w
        ∙ (let none = none_and (λ m. not (m.area == w.area)) earlier known in let same = eq-eqb w.area w.area refl in
        rw (none, match, same)),
    any-last (λ m. matches p m && (m.area == w.area)) earlier w
        ∙ or_right (list_any (λ m. matches p m && (m.area == w.area)) earlier)
        ((matches p w && (w.area == w.area)) || false) (let same = eq-eqb w.area w.area refl in rw (match, same)),
  )

  again : (earlier : List Network) (w : Network) (a : ℕ) → eqb w.area a ≡ true → OneArea earlier (Some a) → OneArea (earlier ++ w ∷ []) (Some a)
  again earlier w a same known = (
    any-last (λ m. matches p m && not (m.area == a)) earlier w ∙ rw (known.0, same) (none (matches p w)),
    any-last (λ m. matches p m && (m.area == a)) earlier w
        ∙ or_left (list_any (λ m. matches p m && (m.area == a)) earlier)
        ((matches p w && (w.area == a)) || false) known.1,
  )
    where
      none : (b : Bool) → ((b && false) || false) ≡ false
      none true = refl
      none false = refl

  -- one more line: it is a second area, or what is known stays known
  more_line : (n : ℕ) (earlier : List Network) (o : Option NetworkLine) (first : Option ℕ) (rest : List NetworkLine)
      (later : Option Fault) → ((w : NetworkLine) → o ≡ Some w → w.line ≡ n) → OneArea earlier first →
      ((next : Option ℕ) → OneArea (earlier ++ map net_of (cons_option o [])) next → later ≡ twice_at (clash p next rest)) →
      option_or (at_line n (by_net earlier o (Some p))) later ≡ twice_at (clash p first (cons_option o rest))
  more_line n earlier None first rest later numbered known go = go first (subst (λ e. OneArea e first) (sym (append-nil earlier)) known)
  more_line n earlier (Some w) first rest later numbered known go = cases (matches p (net_of w)) refl first known
    where
      cases : (m : Bool) → matches p (net_of w) ≡ m → (f : Option ℕ) → OneArea earlier f →
          option_or (at_line n (by_net earlier (Some w) (Some p))) later ≡ twice_at (clash p f (w ∷ rest))
      cases false e None k = ap (λ b.
          option_or (at_line n (cond (b && list_any (λ m. matches p m && not (m.area == w.area)) earlier)
          (Some AreaTwice) None)) later) e ∙ go None (passed earlier (net_of w) None e k)
          ∙ ap (λ b. twice_at (cond b (clash p (Some w.area) rest) (clash p None rest))) (sym e)
      cases false e (Some a) k = ap (λ b.
          option_or (at_line n (cond (b && list_any (λ m. matches p m && not (m.area == w.area)) earlier)
          (Some AreaTwice) None)) later) e ∙ go (Some a) (passed earlier (net_of w) (Some a) e k)
          ∙ ap (λ b. twice_at (cond (b && not (w.area == a)) (Some w.line) (clash p (Some a) rest))) (sym e)
      cases true e None k =
          ap (λ b. option_or (at_line n (cond b (Some AreaTwice) None)) later)
          (and_right (matches p (net_of w)) (list_any (λ m. matches p m && not (m.area == w.area)) earlier)
          (none_and (λ m. not (m.area == w.area)) earlier k))
          ∙ go (Some w.area) (first_match earlier (net_of w) e k)
          ∙ ap (λ b. twice_at (cond b (clash p (Some w.area) rest) (clash p None rest))) (sym e)
      cases true e (Some a) k = areas (eqb w.area a) refl
        where
          areas : (c : Bool) → eqb w.area a ≡ c → option_or (at_line n (by_net earlier (Some w) (Some p))) later ≡ twice_at (clash p (Some a) (w ∷ rest))
          areas true same =
              let eq : w.area ≡ a = eqb-true w.area a same in
              ap (λ b. option_or (at_line n (cond b (Some AreaTwice) None)) later)
              (and_right (matches p (net_of w)) (list_any (λ m. matches p m && not (m.area == w.area)) earlier)
              (ap (λ x. list_any (λ m. matches p m && not (m.area == x)) earlier) eq ∙ k.0))
              ∙ go (Some a) (again earlier (net_of w) a same k)
              ∙ ap (λ b. twice_at (cond b (Some w.line) (clash p (Some a) rest))) (sym (and_right (matches p (net_of w)) (not (w.area == a)) (ap not same)))
          areas false other =
              let found : list_any (λ m. matches p m && not (m.area == w.area)) earlier ≡ true = some_other a w.area earlier other k.1 in
              ap (λ b. option_or (at_line n (cond (b && list_any (λ m. matches p m && not (m.area == w.area)) earlier) (Some AreaTwice) None)) later) e
              ∙ ap (λ b. option_or (at_line n (cond b (Some AreaTwice) None)) later) found
              ∙ ap (λ l. Some (record { line = l; fault = AreaTwice })) (sym (numbered w refl))
              ∙ sym (ap (λ b. twice_at (cond (b && not (w.area == a)) (Some w.line) (clash p (Some a) rest))) e
              ∙ ap (λ b. twice_at (cond (not b) (Some w.line) (clash p (Some a) rest))) other)

-- lines have their numbers
abbrev pub Numbered : ℕ → List Said → Type 0
Numbered a [] = Unit {0}
Numbered a (s ∷ ss) = (s.number ≡ a + 1) × Numbered (a + 1) ss

abbrev pub no_said : Said
no_said = record { number = 0; block = OfOther; statement = Unread }

abbrev pub twice_rule : List Said → Option Prefix → ℕ → Option ConfigFault
twice_rule all address i = twice_one (networks_said (take i all)) (get_or all i no_said).block (get_or all i no_said).statement address

scan : (p : Prefix) (before rest : List Said) (first : Option ℕ) → OneArea p (networks_said before) first → Numbered (length before) rest →
    firsts_at (twice_rule (before ++ rest) (Some p)) (length before) (length rest) ≡ twice_at (clash p first (network_lines rest))
scan p before [] None known numbered = refl
scan p before [] (Some a) known numbered = refl
scan p before (s ∷ rest) first known numbered =
    firsts_suc (twice_rule (before ++ s ∷ rest) (Some p)) (length before) (length rest)
    ∙ ap (λ o. option_or (at_line (length before + 1) o) later) here
    ∙ more_line p (length before + 1) (networks_said before) (network_line s.number s.block s.statement) first
    (network_lines rest) later (λ w e. line_of_net s.number s.block s.statement w e ∙ numbered.0) known
    (go (λ next k counted. scan p (before ++ s ∷ []) rest next k counted))
  where
    later : Option Fault
    later = firsts_at (twice_rule (before ++ s ∷ rest) (Some p)) (length before + 1) (length rest)

    here : twice_rule (before ++ s ∷ rest) (Some p) (length before) ≡ by_net (networks_said before) (network_line s.number s.block s.statement) (Some p)
    here =
        ap (λ (t : Said). twice_one (networks_said (take (length before) (before ++ s ∷ rest))) t.block t.statement (Some p))
        (get_or_at before s rest no_said (length before) refl)
        ∙ ap (λ (e : List Said). twice_one (networks_said e) s.block s.statement (Some p)) (take_at before (s ∷ rest) (length before) refl)
        ∙ twice_by_net s.number (networks_said before) s.block s.statement (Some p)

    length_next : length (before ++ s ∷ []) ≡ length before + 1
    length_next = omega (arith, length-append before (s ∷ []))

    go : ((next : Option ℕ) → OneArea p (networks_said (before ++ s ∷ [])) next → Numbered (length (before ++ s ∷ [])) rest →
        firsts_at (twice_rule ((before ++ s ∷ []) ++ rest) (Some p)) (length (before ++ s ∷ [])) (length rest)
        ≡ twice_at (clash p next (network_lines rest))) →
        (next : Option ℕ) → OneArea p (networks_said before
        ++ map net_of (cons_option (network_line s.number s.block s.statement) [])) next →
        later ≡ twice_at (clash p next (network_lines rest))
    go more next k =
        ap (λ n. firsts_at (twice_rule (before ++ s ∷ rest) (Some p)) n (length rest)) (sym length_next)
        ∙ ap (λ all. firsts_at (twice_rule all (Some p)) (length (before ++ s ∷ [])) (length rest)) (sym (append_assoc before (s ∷ []) rest))
        ∙ more next (subst (λ ns. OneArea p ns next) (sym (nets-push before s)) k) (subst (λ n. Numbered n rest) (sym length_next) numbered.1)

-- the second area over several interfaces
abbrev pub address_for : List Said → List ℕ × ℕ → Option Prefix
address_for all head = address_by_networks (setting area_set (about all head.0)) (interface_address all head.0)

twice_more : (all : List Said) (h : List ℕ × ℕ) (hs : List (List ℕ × ℕ)) (earlier : List Network) (b : Block)
    (s : Statement) → area_twice all (h ∷ hs) earlier b s ≡ option_or (twice_one earlier b s (address_for all h))
    (area_twice all hs earlier b s)
twice_more all h hs earlier OfRouter (NetworkIs w) =
    cases (is_other_area earlier w (address_for all h))
    (list_any (λ head. is_other_area earlier w (address_for all head)) hs)
  where
    cases : (x y : Bool) → ◌≡◌ {A = Option ConfigFault} (cond (x || y) (Some AreaTwice) None)
        (option_or (cond x (Some AreaTwice) None) (cond y (Some AreaTwice) None))
    cases true y = refl
    cases false y = refl
twice_more all h hs earlier _ _ = refl

twice_none : (all : List Said) (earlier : List Network) (b : Block) (s : Statement) → area_twice all [] earlier b s ≡ None
twice_none all earlier OfRouter (NetworkIs w) = refl
twice_none all earlier _ _ = refl

one_none : (earlier : List Network) (b : Block) (s : Statement) → twice_one earlier b s None ≡ None
one_none earlier OfRouter (NetworkIs w) = refl
one_none earlier _ _ = refl

abbrev pub areas_rule : List Said → List (List ℕ × ℕ) → ℕ → Option ConfigFault
areas_rule all heads i = area_twice all heads (networks_said (take i all)) (get_or all i no_said).block (get_or all i no_said).statement

pub whole_parts : (o : Option Prefix) → whole_address (address_part o) (length_part o) ≡ o
whole_parts None = refl
whole_parts (Some p) = refl

-- the clash of a draft is the second area of its interface
clash_law : (all : List Said) (head : List ℕ × ℕ) → Numbered 0 all →
    clash_of (network_lines all) (draft_of (network_lines all) all head)
    ≡ firsts_at (twice_rule all (address_for all head)) 0 (length all)
unfolding plain plain_by
clash_law all head numbered =
    ap (clash_for (network_lines all) (setting area_set (about all head.0))) (whole_parts (interface_address all head.0))
    ∙ cases (setting area_set (about all head.0)) (interface_address all head.0)
  where
    cases : (own : Option ℕ) (address : Option Prefix) →
        clash_for (network_lines all) own address ≡ firsts_at (twice_rule all (address_by_networks own address)) 0
        (length all)
    cases (Some a) address = sym (never (twice_rule all None) 0 (length all)
        (λ i. one_none (networks_said (take i all)) (get_or all i no_said).block (get_or all i no_said).statement))
    cases None None = sym (never (twice_rule all None) 0 (length all)
        (λ i. one_none (networks_said (take i all)) (get_or all i no_said).block (get_or all i no_said).statement))
    cases None (Some p) = sym (scan p [] all None refl numbered)

pub clashes_law : (all : List Said) (found : Option Fault) (heads : List (List ℕ × ℕ)) → Numbered 0 all →
    first_clash (network_lines all) found (map (draft_of (network_lines all) all) heads)
    ≡ earliest found (firsts_at (areas_rule all heads) 0 (length all))
clashes_law all found [] numbered =
    sym (ap (earliest found) (never (areas_rule all []) 0 (length all)
    (λ i. twice_none all (networks_said (take i all)) (get_or all i no_said).block (get_or all i no_said).statement))
    ∙ earliest_none found)
clashes_law all found (h ∷ hs) numbered =
    clashes_law all (earliest found (clash_of (network_lines all) (draft_of (network_lines all) all h))) hs numbered
    ∙ earliest_assoc found (clash_of (network_lines all) (draft_of (network_lines all) all h)) (firsts_at (areas_rule all hs) 0 (length all))
    ∙ ap (earliest found)
    (ap (λ o. earliest o (firsts_at (areas_rule all hs) 0 (length all))) (clash_law all h numbered)
    ∙ sym (merge (twice_rule all (address_for all h)) (areas_rule all hs) 0 (length all))
    ∙ sym (agree (areas_rule all (h ∷ hs)) (λ i. option_or (twice_rule all (address_for all h) i) (areas_rule all hs i))
    0 (length all) (λ i above below. twice_more all h hs (networks_said (take i all)) (get_or all i no_said).block
    (get_or all i no_said).statement)))

-- a name's place, or none
any_place : (q : List ℕ → Bool) (xs : List (List ℕ)) → list_any q xs ≡ true → position_or_len q xs < length xs
any_place q [] some = absurd (false≢true some)
any_place q (x ∷ xs) some = cases (q x) some (λ h. any_place q xs h)
  where
    cases : (b : Bool) → (b || list_any q xs) ≡ true → (list_any q xs ≡ true → position_or_len q xs < length xs) →
        cond (not b) (1 + position_or_len q xs) 0 < suc (length xs)
    cases true h more = omega arith
    cases false h more = let k = more h in omega arith

pub no_place : (q : List ℕ → Bool) (xs : List (List ℕ)) → position q xs ≡ None → list_any q xs ≡ false
no_place q xs none = false_from_ne_true (list_any q xs)
    (λ some. apart (ap (λ b. cond b (Some (position_or_len q xs)) None)
    (lt-ltb (position_or_len q xs) (length xs) (any_place q xs some))))
  where
    apart : position q xs ≡ Some (position_or_len q xs) → ⊥
    apart e = let h : Some (position_or_len q xs) ≡ None = sym e ∙ none in absurd (cc)
