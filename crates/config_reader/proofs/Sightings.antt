-- `network` lines found by the prefixes that they name.
use Rattle.std.proofs.Common.{◌≡◌, ◌≢◌, ℕ, ◌+◌, ◌<◌, ◌≤◌, List, [], ◌∷◌, ◌++◌, length, map, Bool, cond, true, false, ◌&&◌, ◌||◌, not, eqb, ltb, refl, sym, ap, ◌∙◌, subst, arith, Option, Some, None, inl, inr}
use Rattle.std.specs.Prelude.{is_some}
use Rattle.std.specs.List.{filter, list_any}
use Rattle.std.specs.Option.{option_map}
use Rattle.std.proofs.Math.Bool.{and-true, or-false}
use Rattle.std.proofs.lemmas.Bool.{and_parts, and_right, eqb-true, eq-eqb, ne_eqb, lt-ltb, le-ltb, le-leb, lt-leb, cases_lt, cases_order}
use Rattle.cost_base.specs.Lists.{first_of}
use Rattle.text_lines.specs.Numbers.{Prefix}
use Rattle.interface_model.specs.Addresses.{subnet, contains}
use Rattle.config_reader.specs.declared.networks.NetworkLine.{NetworkLine}
use Rattle.config_reader.specs.declared.networks.NetworkPrefix.{NetworkPrefix}
use Rattle.config_reader.specs.declared.networks.Sighted.{Sighted}
use Rattle.config_reader.specs.declared.networks.PrefixLines.{PrefixLines}
use Rattle.config_reader.specs.Drafting.{covers, area_among, clash}
use Rattle.config_reader.specs.Sightings.{prefix_of_length, same_prefix, names_prefix, is_elsewhere, first_at, lesser, other_after, noted, lines_from, lines_of_prefix}

-- The lines of one prefix.

-- one more line comes last
one_more : (n : ℕ) (k : NetworkPrefix) (found : Option PrefixLines) (ws : List NetworkLine) (w : NetworkLine) →
    lines_from n k found (ws ++ w ∷ []) ≡ cond (names_prefix k w) (Some (noted (n + length ws) w (lines_from n k found ws))) (lines_from n k found ws)
one_more n k found [] w = ap (λ m. cond (names_prefix k w) (Some (noted m w found)) found) (omega arith)
one_more n k found (v ∷ ws) w =
    let next = cond (names_prefix k v) (Some (noted n v found)) found in
    let after = lines_from (n + 1) k next ws in
    one_more (n + 1) k next ws w ∙ ap (λ m. cond (names_prefix k w) (Some (noted m w after)) after) (omega arith)

same_prefix-true : (a b : NetworkPrefix) → same_prefix a b ≡ true → a ≡ b
same_prefix-true a b e =
    let parts = and_parts (eqb a.subnet b.subnet) (eqb a.length b.length) e in
    ap (λ s. record { subnet = s; length = a.length }) (eqb-true a.subnet b.subnet parts.0)
    ∙ ap (λ l. record { subnet = b.subnet; length = l }) (eqb-true a.length b.length parts.1)

-- a map that has the lines of each prefix has them still, once the lines of one prefix are put with one more
pub lines_with : (old new : NetworkPrefix → Option PrefixLines) (ws : List NetworkLine) (w : NetworkLine) →
    ((k : NetworkPrefix) → old k ≡ lines_of_prefix k ws) →
    ((k : NetworkPrefix) → new k ≡ cond (same_prefix (prefix_of_length w.address w.length) k)
    (Some (noted (length ws) w (old (prefix_of_length w.address w.length)))) (old k)) →
    (k : NetworkPrefix) → new k ≡ lines_of_prefix k (ws ++ w ∷ [])
lines_with old new ws w each put k = put k ∙ go (names_prefix k w) refl ∙ sym (one_more 0 k None ws w)
  where
    own : NetworkPrefix
    own = prefix_of_length w.address w.length

    go : (b : Bool) → names_prefix k w ≡ b →
        cond b (Some (noted (length ws) w (old own))) (old k) ≡ cond b (Some (noted (0 + length ws) w (lines_of_prefix k ws))) (lines_of_prefix k ws)
    go true e = ap (λ found. Some (noted (length ws) w found)) (ap old (same_prefix-true own k e) ∙ each k)
        ∙ ap (λ m. Some (noted m w (lines_of_prefix k ws))) (omega arith)
    go false e = each k

-- The first line of a prefix.

kept_first : (n : ℕ) (k : NetworkPrefix) (l : PrefixLines) (ws : List NetworkLine) →
    option_map (λ found. found.first) (lines_from n k (Some l) ws) ≡ Some l.first
kept_first n k l [] = refl
kept_first n k l (w ∷ ws) = go (names_prefix k w) (kept_first (n + 1) k (noted n w (Some l)) ws) (kept_first (n + 1) k l ws)
  where
    first_is : Option PrefixLines → Type 0
    first_is found = option_map (λ lines. lines.first) (lines_from (n + 1) k found ws) ≡ Some l.first

    go : (b : Bool) → first_is (Some (noted n w (Some l))) → first_is (Some l) → first_is (cond b (Some (noted n w (Some l))) (Some l))
    go true one none = one
    go false one none = none

pub first_named : (n : ℕ) (k : NetworkPrefix) (ws : List NetworkLine) →
    option_map (λ found. found.first) (lines_from n k None ws) ≡ first_at n (names_prefix k) ws
first_named n k [] = refl
first_named n k (w ∷ ws) = go (names_prefix k w) (first_named (n + 1) k ws)
  where
    go : (b : Bool) → option_map (λ found. found.first) (lines_from (n + 1) k None ws) ≡ first_at (n + 1) (names_prefix k) ws →
        option_map (λ found. found.first) (lines_from (n + 1) k (cond b (Some (noted n w None)) None) ws)
        ≡ cond b (Some (record { place = n; line = w })) (first_at (n + 1) (names_prefix k) ws)
    go true more = kept_first (n + 1) k (noted n w None) ws
    go false more = more

-- The first line of a prefix with another area than a given one.

abbrev pub other_in : ℕ → Option PrefixLines → Option Sighted
other_in area None = None
other_in area (Some l) = cond (eqb l.first.line.area area) l.other (Some l.first)

abbrev elsewhere_of : NetworkPrefix → ℕ → NetworkLine → Bool
elsewhere_of k area w = names_prefix k w && is_elsewhere area w

full_stays : (n : ℕ) (k : NetworkPrefix) (f o : Sighted) (ws : List NetworkLine) →
    lines_from n k (Some (record { first = f; other = Some o })) ws ≡ Some (record { first = f; other = Some o })
full_stays n k f o [] = refl
full_stays n k f o (w ∷ ws) = go (names_prefix k w) (full_stays (n + 1) k f o ws)
  where
    full : PrefixLines
    full = record { first = f; other = Some o }

    go : (b : Bool) → lines_from (n + 1) k (Some full) ws ≡ Some full → lines_from (n + 1) k (cond b (Some (noted n w (Some full))) (Some full)) ws ≡ Some full
    go true more = more
    go false more = more

cond_not : {A : Type 0} (b : Bool) (x y : A) → cond b x y ≡ cond (not b) y x
cond_not true x y = refl
cond_not false x y = refl

-- a first line alone was found so far
open_other : (n : ℕ) (k : NetworkPrefix) (area : ℕ) (f : Sighted) (ws : List NetworkLine) →
    other_in area (lines_from n k (Some (record { first = f; other = None })) ws) ≡ cond (eqb f.line.area area) (first_at n (elsewhere_of k area) ws) (Some f)
open_other n k area f [] = refl
open_other n k area f (w ∷ ws) = go (names_prefix k w) (is_elsewhere f.line.area w) refl (eqb f.line.area area) refl (open_other (n + 1) k area f ws)
  where
    here : Sighted
    here = record { place = n; line = w }

    alone : Option PrefixLines
    alone = Some (record { first = f; other = None })

    found : Bool → Bool → Option PrefixLines
    found b e = cond b (Some (record { first = f; other = other_after None e here })) alone

    more : Option Sighted
    more = first_at (n + 1) (elsewhere_of k area) ws

    not_false : (b : Bool) → not b ≡ false → b ≡ true
    not_false true p = refl
    not_false false p = sym p

    same_area : is_elsewhere f.line.area w ≡ false → eqb f.line.area area ≡ true → is_elsewhere area w ≡ false
    same_area at is = ap not (eq-eqb w.area area (eqb-true w.area f.line.area (not_false (eqb w.area f.line.area) at) ∙ eqb-true f.line.area area is))

    go : (b e : Bool) → is_elsewhere f.line.area w ≡ e → (same : Bool) → eqb f.line.area area ≡ same →
        other_in area (lines_from (n + 1) k alone ws) ≡ cond (eqb f.line.area area) more (Some f) →
        other_in area (lines_from (n + 1) k (found b e) ws) ≡ cond same (cond (b && is_elsewhere area w) (Some here) more) (Some f)
    go false e at same is rest = rest ∙ ap (λ s. cond s more (Some f)) is
    go true false at true is rest = rest ∙ ap (λ s. cond s more (Some f)) is ∙ ap (λ s. cond s (Some here) more) (sym (same_area at is))
    go true false at false is rest = rest ∙ ap (λ s. cond s more (Some f)) is
    go true true at true is rest =
        ap (other_in area) (full_stays (n + 1) k f here ws) ∙ ap (λ s. cond s (Some here) (Some f)) is
        ∙ ap (λ s. cond s (Some here) more) (sym (subst (λ a. is_elsewhere a w ≡ true) (eqb-true f.line.area area is) at))
    go true true at false is rest = ap (other_in area) (full_stays (n + 1) k f here ws) ∙ ap (λ s. cond s (Some here) (Some f)) is

pub other_named : (n : ℕ) (k : NetworkPrefix) (area : ℕ) (ws : List NetworkLine) →
    other_in area (lines_from n k None ws) ≡ first_at n (λ w. names_prefix k w && is_elsewhere area w) ws
other_named n k area [] = refl
other_named n k area (w ∷ ws) = go (names_prefix k w) (other_named (n + 1) k area ws)
  where
    here : Sighted
    here = record { place = n; line = w }

    more : Option Sighted
    more = first_at (n + 1) (elsewhere_of k area) ws

    go : (b : Bool) → other_in area (lines_from (n + 1) k None ws) ≡ more →
        other_in area (lines_from (n + 1) k (cond b (Some (noted n w None)) None) ws)
        ≡ cond (b && is_elsewhere area w) (Some here) more
    go true rest = open_other (n + 1) k area here ws ∙ cond_not (eqb w.area area) more (Some here)
    go false rest = rest

-- What the lines of a prefix tell.

pub first_found : (k : NetworkPrefix) (ws : List NetworkLine) (l : PrefixLines) → Some l ≡ lines_of_prefix k ws → Some l.first ≡ first_at 0 (names_prefix k) ws
first_found k ws l is = ap (option_map (λ found. found.first)) is ∙ first_named 0 k ws

pub first_lacks : (k : NetworkPrefix) (ws : List NetworkLine) → None ≡ lines_of_prefix k ws → None ≡ first_at 0 (names_prefix k) ws
first_lacks k ws is = ap (option_map (λ found. found.first)) is ∙ first_named 0 k ws

pub other_here : (k : NetworkPrefix) (area : ℕ) (ws : List NetworkLine) (l : PrefixLines) → Some l ≡ lines_of_prefix k ws → l.first.line.area ≡ area →
    l.other ≡ first_at 0 (λ w. names_prefix k w && is_elsewhere area w) ws
other_here k area ws l is same =
    sym (ap (λ b. cond b l.other (Some l.first)) (eq-eqb l.first.line.area area same)) ∙ ap (other_in area) is ∙ other_named 0 k area ws

pub first_elsewhere : (k : NetworkPrefix) (area : ℕ) (ws : List NetworkLine) (l : PrefixLines) → Some l ≡ lines_of_prefix k ws → l.first.line.area ≢ area →
    Some l.first ≡ first_at 0 (λ w. names_prefix k w && is_elsewhere area w) ws
first_elsewhere k area ws l is apart =
    sym (ap (λ b. cond b l.other (Some l.first)) (ne_eqb l.first.line.area area apart)) ∙ ap (other_in area) is ∙ other_named 0 k area ws

pub other_lacks : (k : NetworkPrefix) (area : ℕ) (ws : List NetworkLine) → None ≡ lines_of_prefix k ws →
    None ≡ first_at 0 (λ w. names_prefix k w && is_elsewhere area w) ws
other_lacks k area ws is = ap (other_in area) is ∙ other_named 0 k area ws

-- The first of two.

stays_first : (n m : ℕ) (w : NetworkLine) (test : NetworkLine → Bool) (ws : List NetworkLine) → n ≤ m →
    lesser (Some (record { place = n; line = w })) (first_at m test ws) ≡ Some (record { place = n; line = w })
stays_first n m w test [] before = refl
stays_first n m w test (v ∷ ws) before = go (test v) (stays_first n (m + 1) w test ws (omega (arith, before)))
  where
    here : Option Sighted
    here = Some (record { place = n; line = w })

    there : Option Sighted
    there = Some (record { place = m; line = v })

    go : (b : Bool) → lesser here (first_at (m + 1) test ws) ≡ here → lesser here (cond b there (first_at (m + 1) test ws)) ≡ here
    go true rest = ap (λ b. cond b there here) (le-ltb m n before)
    go false rest = rest

comes_first : (n m : ℕ) (w : NetworkLine) (test : NetworkLine → Bool) (ws : List NetworkLine) → n < m →
    lesser (first_at m test ws) (Some (record { place = n; line = w })) ≡ Some (record { place = n; line = w })
comes_first n m w test [] before = refl
comes_first n m w test (v ∷ ws) before = go (test v) (comes_first n (m + 1) w test ws (omega (arith, before)))
  where
    here : Option Sighted
    here = Some (record { place = n; line = w })

    there : Option Sighted
    there = Some (record { place = m; line = v })

    go : (b : Bool) → lesser (first_at (m + 1) test ws) here ≡ here → lesser (cond b there (first_at (m + 1) test ws)) here ≡ here
    go true rest = ap (λ b. cond b here there) (lt-ltb n m before)
    go false rest = rest

-- the first line that passes one of two tests is the first of those that pass each
pub first_of_two : (n : ℕ) (f g : NetworkLine → Bool) (ws : List NetworkLine) → first_at n (λ w. f w || g w) ws ≡ lesser (first_at n f ws) (first_at n g ws)
first_of_two n f g [] = refl
first_of_two n f g (w ∷ ws) = go (f w) (g w) (first_of_two (n + 1) f g ws)
  where
    here : Option Sighted
    here = Some (record { place = n; line = w })

    go : (a b : Bool) → first_at (n + 1) (λ v. f v || g v) ws ≡ lesser (first_at (n + 1) f ws) (first_at (n + 1) g ws) →
        cond (a || b) here (first_at (n + 1) (λ v. f v || g v) ws) ≡ lesser (cond a here (first_at (n + 1) f ws)) (cond b here (first_at (n + 1) g ws))
    go true true rest = sym (ap (λ b. cond b here here) (le-ltb n n (omega arith)))
    go true false rest = sym (stays_first n (n + 1) w g ws (omega arith))
    go false true rest = sym (comes_first n (n + 1) w f ws (omega arith))
    go false false rest = rest

pub first_same : (n : ℕ) (f g : NetworkLine → Bool) (ws : List NetworkLine) → ((w : NetworkLine) → f w ≡ g w) → first_at n f ws ≡ first_at n g ws
first_same n f g ws same = ap (λ test. first_at n test ws) (λ i w. same w i)

-- Lines that match an address, length by length.

-- a line with a length below a bound matches an address
abbrev pub covers_below : ℕ → ℕ → NetworkLine → Bool
covers_below bound address w = ltb w.length bound && contains w.address w.length address

pub covers_none : (address : ℕ) (w : NetworkLine) → covers_below 0 address w ≡ false
covers_none address w = ap (λ b. b && contains w.address w.length address) (le-ltb w.length 0 (omega arith))

pub covers_more : (m address : ℕ) (w : NetworkLine) → covers_below (m + 1) address w ≡ (covers_below m address w || names_prefix (prefix_of_length address m) w)
covers_more m address w =
    elim (cases_order w.length m) [
      | inl same ↦
          ap (λ b. b && inside) (lt-ltb w.length (m + 1) (omega (arith, same)))
          ∙ sym (ap (λ b. b || names_prefix (prefix_of_length address m) w)
          (ap (λ b. b && inside) (le-ltb w.length m (omega (arith, same))))
          ∙ ap (λ b. eqb own (subnet address m) && b) (eq-eqb w.length m same)
          ∙ and-true (eqb own (subnet address m)) ∙ ap (λ l. eqb own (subnet address l)) (sym same))
      | inr apart ↦ elim apart [
        | inl before ↦
            ap (λ b. b && inside) (lt-ltb w.length (m + 1) (omega (arith, before)))
            ∙ sym (ap (λ b. (b && inside) || names_prefix (prefix_of_length address m) w) (lt-ltb w.length m before)
            ∙ ap (λ b. inside || b) (other (λ e. omega (arith, e, before))) ∙ or-false inside)
        | inr after ↦
            ap (λ b. b && inside) (le-ltb w.length (m + 1) (omega (arith, after)))
            ∙ sym (ap (λ b. (b && inside) || names_prefix (prefix_of_length address m) w)
            (le-ltb w.length m (omega (arith, after))) ∙ other (λ e. omega (arith, e, after)))
      ]
    ]
  where
    own : ℕ
    own = subnet w.address w.length

    inside : Bool
    inside = contains w.address w.length address

    other : (w.length ≡ m → ⊥) → names_prefix (prefix_of_length address m) w ≡ false
    other apart = and_right (eqb own (subnet address m)) (eqb w.length m) (ne_eqb w.length m apart)

pub covers_all : (p : Prefix) (w : NetworkLine) → covers_below (p.length + 1) p.address w ≡ covers p w
covers_all p w =
    elim (cases_lt p.length w.length) [
      | inl long ↦ ap (λ b. b && contains w.address w.length p.address)
          (le-ltb w.length (p.length + 1) (omega (arith, long)) ∙ sym (lt-leb w.length p.length long))
      | inr short ↦ ap (λ b. b && contains w.address w.length p.address)
          (lt-ltb w.length (p.length + 1) (omega (arith, short)) ∙ sym (le-leb w.length p.length short))
    ]

pub never : (n : ℕ) (test : NetworkLine → Bool) (ws : List NetworkLine) → ((w : NetworkLine) → test w ≡ false) → first_at n test ws ≡ None
never n test [] none = refl
never n test (w ∷ ws) none = ap (λ b. cond b (Some (record { place = n; line = w })) (first_at (n + 1) test ws)) (none w) ∙ never (n + 1) test ws none

-- with the lines of one more length
pub next_length : (m address : ℕ) (ws : List NetworkLine) (found other : Option Sighted) →
    found ≡ first_at 0 (covers_below m address) ws → other ≡ first_at 0 (names_prefix (prefix_of_length address m)) ws →
    lesser found other ≡ first_at 0 (covers_below (m + 1) address) ws
next_length m address ws found other so_far here =
    ap (λ o. lesser o other) so_far ∙ ap (lesser (first_at 0 (covers_below m address) ws)) here
    ∙ sym (first_of_two 0 (covers_below m address) (names_prefix (prefix_of_length address m)) ws)
    ∙ first_same 0 (λ w. covers_below m address w || names_prefix (prefix_of_length address m) w)
    (covers_below (m + 1) address) ws (λ w. sym (covers_more m address w))

-- the same among the lines with another area
pub next_elsewhere : (m address area : ℕ) (ws : List NetworkLine) (found other : Option Sighted) →
    found ≡ first_at 0 (λ w. covers_below m address w && is_elsewhere area w) ws →
    other ≡ first_at 0 (λ w. names_prefix (prefix_of_length address m) w && is_elsewhere area w) ws →
    lesser found other ≡ first_at 0 (λ w. covers_below (m + 1) address w && is_elsewhere area w) ws
next_elsewhere m address area ws found other so_far here =
    ap (λ o. lesser o other) so_far ∙ ap (lesser (first_at 0 before ws)) here ∙ sym (first_of_two 0 before now ws)
    ∙ first_same 0 (λ w. before w || now w) (λ w. covers_below (m + 1) address w && is_elsewhere area w) ws
    (λ w. spread (covers_below m address w) (names_prefix (prefix_of_length address m) w) (is_elsewhere area w)
    ∙ ap (λ b. b && is_elsewhere area w) (sym (covers_more m address w)))
  where
    before : NetworkLine → Bool
    before w = covers_below m address w && is_elsewhere area w

    now : NetworkLine → Bool
    now w = names_prefix (prefix_of_length address m) w && is_elsewhere area w

    spread : (a b c : Bool) → ((a && c) || (b && c)) ≡ ((a || b) && c)
    spread true true true = refl
    spread true true false = refl
    spread true false true = refl
    spread true false false = refl
    spread false b c = refl

-- What the first line that matches tells.

pub any_first : (n : ℕ) (test : NetworkLine → Bool) (ws : List NetworkLine) → is_some (first_at n test ws) ≡ list_any test ws
any_first n test [] = refl
any_first n test (w ∷ ws) = go (test w) (any_first (n + 1) test ws)
  where
    go : (b : Bool) → is_some (first_at (n + 1) test ws) ≡ list_any test ws →
        is_some (cond b (Some (record { place = n; line = w })) (first_at (n + 1) test ws)) ≡ (b || list_any test ws)
    go true rest = refl
    go false rest = rest

pub area_first : (n : ℕ) (p : Prefix) (ws : List NetworkLine) → option_map (λ found. found.line.area) (first_at n (covers p) ws) ≡ area_among p ws
area_first n p [] = refl
area_first n p (w ∷ ws) = go (covers p w) (area_first (n + 1) p ws)
  where
    go : (b : Bool) → option_map (λ found. found.line.area) (first_at (n + 1) (covers p) ws) ≡ area_among p ws →
        option_map (λ found. found.line.area)
        (cond b (Some (record { place = n; line = w })) (first_at (n + 1) (covers p) ws))
        ≡ first_of (map (λ v. v.area) (cond b (w ∷ filter (covers p) ws) (filter (covers p) ws)))
    go true rest = refl
    go false rest = rest

pub area_found : (p : Prefix) (ws : List NetworkLine) (found : Option Sighted) → found ≡ first_at 0 (covers p) ws →
    option_map (λ first. first.line.area) found ≡ area_among p ws
area_found p ws found is = ap (option_map (λ first. first.line.area)) is ∙ area_first 0 p ws

-- the number of the first line that matches and has another area
abbrev pub elsewhere_first : ℕ → Prefix → List NetworkLine → ℕ → Option ℕ
elsewhere_first n p ws area = option_map (λ found. found.line.line) (first_at n (λ w. covers p w && is_elsewhere area w) ws)

clash_behind : (n : ℕ) (p : Prefix) (area : ℕ) (ws : List NetworkLine) → clash p (Some area) ws ≡ elsewhere_first n p ws area
clash_behind n p area [] = refl
clash_behind n p area (w ∷ ws) = go (covers p w && is_elsewhere area w) (clash_behind (n + 1) p area ws)
  where
    go : (b : Bool) → clash p (Some area) ws ≡ elsewhere_first (n + 1) p ws area →
        cond b (Some w.line) (clash p (Some area) ws) ≡ option_map (λ found. found.line.line)
        (cond b (Some (record { place = n; line = w })) (first_at (n + 1) (λ v. covers p v && is_elsewhere area v) ws))
    go true rest = refl
    go false rest = rest

-- the clash, from the first line that matches
abbrev pub clash_from : ℕ → Prefix → List NetworkLine → Option Sighted → Option ℕ
clash_from n p ws None = None
clash_from n p ws (Some found) = elsewhere_first n p ws found.line.area

pub clash_first : (n : ℕ) (p : Prefix) (ws : List NetworkLine) → clash p None ws ≡ clash_from n p ws (first_at n (covers p) ws)
clash_first n p [] = refl
clash_first n p (w ∷ ws) = go (covers p w) refl (clash_first (n + 1) p ws)
  where
    here : Sighted
    here = record { place = n; line = w }

    skip : (area : ℕ) → (covers p w && is_elsewhere area w) ≡ false → elsewhere_first (n + 1) p ws area ≡ elsewhere_first n p (w ∷ ws) area
    skip area e = sym (ap (λ b. option_map (λ found. found.line.line) (cond b (Some here) (first_at (n + 1) (λ v. covers p v && is_elsewhere area v) ws))) e)

    later : (o : Option Sighted) → covers p w ≡ false → clash_from (n + 1) p ws o ≡ clash_from n p (w ∷ ws) o
    later None e = refl
    later (Some found) e = skip found.line.area (ap (λ b. b && is_elsewhere found.line.area w) e)

    go : (b : Bool) → covers p w ≡ b → clash p None ws ≡ clash_from (n + 1) p ws (first_at (n + 1) (covers p) ws) →
        cond b (clash p (Some w.area) ws) (clash p None ws) ≡ clash_from n p (w ∷ ws) (cond b (Some here) (first_at (n + 1) (covers p) ws))
    go true e rest = clash_behind (n + 1) p w.area ws ∙ skip w.area (and_right (covers p w) (is_elsewhere w.area w) (ap not (eq-eqb w.area w.area refl)))
    go false e rest = rest ∙ later (first_at (n + 1) (covers p) ws) e

-- no line matches
pub clash_lacks : (p : Prefix) (ws : List NetworkLine) → None ≡ first_at 0 (covers p) ws → None ≡ clash p None ws
clash_lacks p ws none = ap (clash_from 0 p ws) none ∙ sym (clash_first 0 p ws)

-- the first line that matches and the first of another area are found
pub clash_found : (p : Prefix) (ws : List NetworkLine) (first : Sighted) (other : Option Sighted) → Some first ≡ first_at 0 (covers p) ws →
    other ≡ first_at 0 (λ w. covers p w && is_elsewhere first.line.area w) ws → option_map (λ found. found.line.line) other ≡ clash p None ws
clash_found p ws first other is other_is =
    ap (option_map (λ found. found.line.line)) other_is ∙ ap (clash_from 0 p ws) is ∙ sym (clash_first 0 p ws)
