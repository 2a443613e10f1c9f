-- The words of a wanted path.
use Rattle.std.specs.Prelude.{ℕ, List, [], ◌∷◌, ◌==◌, if◌then◌else◌, Option, Some, None}
use Rattle.request_reader.specs.WrittenRoutes.{Route}

-- a byte in front of the first of two pieces
abbrev pub with_front : ℕ → Option (List ℕ × List ℕ) → Option (List ℕ × List ℕ)
with_front c None = None
with_front c (Some pieces) = Some (c ∷ pieces.0, pieces.1)

-- a word before and after its first byte c
abbrev pub cut : ℕ → List ℕ → Option (List ℕ × List ℕ)
cut c [] = None
cut c (x ∷ xs) = if x == c then Some ([], xs) else with_front x (cut c xs)

-- the name of a router and that of an interface, where neither is empty
abbrev pub if_both : List ℕ → List ℕ → Option (List ℕ × List ℕ)
if_both [] interface = None
if_both (c ∷ router) [] = None
if_both (c ∷ router) (d ∷ interface) = Some (c ∷ router, d ∷ interface)

-- a hop from the pieces before and after a `:`
abbrev pub hop_of_cut : Option (List ℕ × List ℕ) → Option (List ℕ × List ℕ)
hop_of_cut None = None
hop_of_cut (Some pieces) = if_both pieces.0 pieces.1

-- a word R:IF, cut at its first `:`, of which neither part is empty
abbrev pub hop_of : List ℕ → Option (List ℕ × List ℕ)
hop_of word = hop_of_cut (cut 58 word)

-- a last word without `:`, as a route without hops
abbrev pub route_of_cut : List ℕ → Option (List ℕ × List ℕ) → Option Route
route_of_cut word None = Some (record { hops = []; last = word })
route_of_cut word (Some pieces) = None

-- a hop before a route
abbrev pub with_hop : Option (List ℕ × List ℕ) → Option Route → Option Route
with_hop (Some hop) (Some route) = Some (record { hops = hop ∷ route.hops; last = route.last })
with_hop _ _ = None

-- words R:IF, and a last word R without `:`
abbrev pub route_of : List (List ℕ) → Option Route
route_of [] = None
route_of (word ∷ []) = route_of_cut word (cut 58 word)
route_of (word ∷ next ∷ words) = with_hop (hop_of word) (route_of (next ∷ words))
