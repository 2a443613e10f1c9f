-- Words that are cut at a byte, and the words of a route, one after another.
use Rattle.std.specs.Prelude.{◌==◌, MatchOption, IfSome, is_none, is_some, not}
use Rattle.std.proofs.Common.{◌≡◌, ◌≢◌, ◌<◌, ℕ, refl, sym, ◌∙◌, ap, List, [], ◌∷◌, ◌++◌, length, Bool, true, false, cond, eqb, Option, Some, None, append_assoc, append-nil, eq-eqb, arith}
use Rattle.std.proofs.lemmas.Bool.{eqb-true}
use Rattle.text_lines.specs.Lines.{grow}
use Rattle.text_lines.specs.Numbers.{split}
use Rattle.request_reader.specs.WrittenRoutes.{Route}
use Rattle.request_reader.specs.Routes.{cut, with_front, hop_of, hop_of_cut, if_both, route_of, route_of_cut, with_hop}

-- a byte that doesn't stand in a text cuts nothing
pub cut_none : (c : ℕ) (xs : List ℕ) → split c xs ≡ xs ∷ [] → cut c xs ≡ None
cut_none c [] is = refl
cut_none c (x ∷ xs) is = cases (eqb x c) (split c xs) is (cut_none c xs)
  where
    cases : (b : Bool) (pieces : List (List ℕ)) → cond b ([] ∷ pieces) (grow x pieces) ≡ (x ∷ xs) ∷ [] →
        (pieces ≡ xs ∷ [] → cut c xs ≡ None) → cond b (Some ([], xs)) (with_front x (cut c xs)) ≡ None
    cases true pieces is later = cc
    cases false [] is later = let empty : [] ≡ xs = cc in ap (λ (ys : List ℕ). with_front x (cut c ys)) (sym empty)
    cases false (piece ∷ pieces) is later = let same : piece ∷ pieces ≡ xs ∷ [] = cc in ap (with_front x) (later same)

split_some : (c : ℕ) (xs : List ℕ) → split c xs ≢ []
split_some c [] is = cc
split_some c (x ∷ xs) is = cases (eqb x c) (split c xs) is
  where
    cases : (b : Bool) (pieces : List (List ℕ)) → cond b ([] ∷ pieces) (grow x pieces) ≢ []
    cases true pieces is = cc
    cases false [] is = cc
    cases false (piece ∷ pieces) is = cc

-- a text whose first piece is known is cut behind it
pub cut_some : (c : ℕ) (front back : List ℕ) → split c (front ++ c ∷ back) ≡ front ∷ split c back → cut c (front ++ c ∷ back) ≡ Some (front, back)
cut_some c [] back is = ap (λ (b : Bool). cond b (Some ([], back)) (with_front c (cut c back))) (eq-eqb c c refl)
cut_some c (x ∷ front) back is = cases (eqb x c) (split c (front ++ c ∷ back)) is (cut_some c front back)
  where
    cases : (b : Bool) (pieces : List (List ℕ)) → cond b ([] ∷ pieces) (grow x pieces) ≡ (x ∷ front) ∷ split c back →
        (pieces ≡ front ∷ split c back → cut c (front ++ c ∷ back) ≡ Some (front, back)) →
        cond b (Some ([], front ++ c ∷ back)) (with_front x (cut c (front ++ c ∷ back))) ≡ Some (x ∷ front, back)
    cases true pieces is later = cc
    cases false [] is later = let empty : split c back ≡ [] = cc in absurd (split_some c back empty)
    cases false (piece ∷ pieces) is later = let same : piece ∷ pieces ≡ front ∷ split c back = cc in ap (with_front x) (later same)

-- a word without `:` is no hop
pub hop_uncut : (word : List ℕ) → split 58 word ≡ word ∷ [] → hop_of word ≡ None
hop_uncut word is = ap hop_of_cut (cut_none 58 word is)

-- a word that is cut
pub hop_cut : (word router interface : List ℕ) → word ≡ router ++ 58 ∷ interface →
    split 58 word ≡ router ∷ split 58 interface → hop_of word ≡ if_both router interface
hop_cut word router interface is pieces = ap hop_of is ∙ ap hop_of_cut (cut_some 58 router interface (ap (split 58) (sym is) ∙ pieces))

-- an empty router or interface
pub no_router : (router interface : List ℕ) → (length router == 0) ≡ true → if_both router interface ≡ None
no_router [] interface empty = refl
no_router (c ∷ router) interface empty = absurd (omega (arith, eqb-true (length (c ∷ router)) 0 empty))

pub no_interface : (router interface : List ℕ) → (length interface == 0) ≡ true → if_both router interface ≡ None
no_interface [] interface empty = refl
no_interface (c ∷ router) [] empty = refl
no_interface (c ∷ router) (d ∷ interface) empty = absurd (omega (arith, eqb-true (length (d ∷ interface)) 0 empty))

both_there : (router interface : List ℕ) → (length router == 0) ≡ false → (length interface == 0) ≡ false → if_both router interface ≡ Some (router, interface)
both_there [] interface e f = cc
both_there (c ∷ router) [] e f = cc
both_there (c ∷ router) (d ∷ interface) e f = refl

-- a word whose two parts are named
pub hop_read : (word router interface r i : List ℕ) → word ≡ router ++ 58 ∷ interface →
    split 58 word ≡ router ∷ split 58 interface → (length router == 0) ≡ false → (length interface == 0) ≡ false →
    r ≡ router → i ≡ interface → hop_of word ≡ Some (r, i)
hop_read word router interface r i is pieces some_router some_interface first second =
    let both = both_there router interface some_router some_interface in
    let said = hop_cut word router interface is pieces in
    cc

-- whether a cut finds the byte
pub cut_tells : {A : Type 0} (o : Option A) (front back : A → List ℕ) (c : ℕ) (word : List ℕ) (none : Bool) →
    is_some o ≡ not none → MatchOption o (split c word ≡ word ∷ []) (λ p. split c word ≡ front p ∷ split c (back p)) →
    IfSome o (λ p. word ≡ front p ++ c ∷ back p) → none ≡ is_none (cut c word)
cut_tells None front back c word true is pieces parts = sym (ap is_none (cut_none c word pieces))
cut_tells None front back c word false is pieces parts = absurd (cc)
cut_tells (Some p) front back c word true is pieces parts = absurd (cc)
cut_tells (Some p) front back c word false is pieces parts =
    sym (ap (λ (w : List ℕ). is_none (cut c w)) parts ∙ ap is_none (cut_some c (front p) (back p) (ap (split c) (sym parts) ∙ pieces)))

-- hops before those of a route
abbrev pub with_hops : List (List ℕ × List ℕ) → Option Route → Option Route
with_hops hops None = None
with_hops hops (Some route) = Some (record { hops = hops ++ route.hops; last = route.last })

-- the hops stand for the words before this one, and these words are left
pub record RouteTo (all : List (List ℕ)) (word : List ℕ) (left : List (List ℕ)) (hops : List (List ℕ × List ℕ)) : Type 0 where
  pub same : route_of all ≡ with_hops hops (route_of (word ∷ left))

pub route_begin : (word : List ℕ) (left : List (List ℕ)) (hops : List (List ℕ × List ℕ)) → hops ≡ [] → RouteTo (word ∷ left) word left hops
route_begin word left hops none =
    record {
      same = alone (route_of (word ∷ left))
          ∙ ap (λ (h : List (List ℕ × List ℕ)). with_hops h (route_of (word ∷ left))) (sym none);
    }
  where
    alone : (o : Option Route) → o ≡ with_hops [] o
    alone None = refl
    alone (Some route) = refl

pub route_more : (all : List (List ℕ)) (word next : List ℕ) (left rest : List (List ℕ))
    (hops after : List (List ℕ × List ℕ)) (hop : List ℕ × List ℕ) → RouteTo all word left hops → left ≡ next ∷ rest →
    Some hop ≡ hop_of word → after ≡ hops ++ hop ∷ [] → RouteTo all next rest after
route_more all word next left rest hops after hop to is said added = record {
  same =
      to.same ∙ ap (λ (ws : List (List ℕ)). with_hops hops (route_of (word ∷ ws))) is
      ∙ ap (λ (o : Option (List ℕ × List ℕ)). with_hops hops (with_hop o (route_of (next ∷ rest)))) (sym said)
      ∙ joined (route_of (next ∷ rest))
      ∙ ap (λ (h : List (List ℕ × List ℕ)). with_hops h (route_of (next ∷ rest))) (sym added);
}
  where
    joined : (o : Option Route) → with_hops hops (with_hop (Some hop) o) ≡ with_hops (hops ++ hop ∷ []) o
    joined None = refl
    joined (Some route) = ap (λ (h : List (List ℕ × List ℕ)). Some (record { hops = h; last = route.last })) (sym (append_assoc hops (hop ∷ []) route.hops))

-- a word before the last that is no hop
pub route_off : (all : List (List ℕ)) (word next : List ℕ) (left rest : List (List ℕ)) (hops : List (List ℕ × List ℕ)) →
    RouteTo all word left hops → left ≡ next ∷ rest → None ≡ hop_of word → None ≡ route_of all
route_off all word next left rest hops to is off =
    sym (to.same ∙ ap (λ (ws : List (List ℕ)). with_hops hops (route_of (word ∷ ws))) is
    ∙ ap (λ (o : Option (List ℕ × List ℕ)). with_hops hops (with_hop o (route_of (next ∷ rest)))) (sym off))

-- the words behind the next one are fewer
pub rest_shorter : (next : List ℕ) (left rest : List (List ℕ)) → left ≡ next ∷ rest → length rest < length left
rest_shorter next left rest is = omega (arith, ap length is)

-- the last word has no `:`
pub route_done : (all : List (List ℕ)) (word last : List ℕ) (left : List (List ℕ)) (hops : List (List ℕ × List ℕ))
    (route : Route) → RouteTo all word left hops → left ≡ [] → split 58 word ≡ word ∷ [] → last ≡ word →
    route ≡ record { hops = hops; last = last } → Some route ≡ route_of all
route_done all word last left hops route to is whole last_is route_is =
    sym (to.same ∙ ap (λ (ws : List (List ℕ)). with_hops hops (route_of (word ∷ ws))) is
    ∙ ap (λ (o : Option (List ℕ × List ℕ)). with_hops hops (route_of_cut word o)) (cut_none 58 word whole)
    ∙ ap (λ (h : List (List ℕ × List ℕ)). Some (record { hops = h; last = word })) (append-nil hops)
    ∙ ap (λ (l : List ℕ). Some (record { hops = hops; last = l })) (sym last_is)
    ∙ ap Some (sym route_is))

-- the last word has a `:`
pub route_cut : (all : List (List ℕ)) (word front back : List ℕ) (left : List (List ℕ))
    (hops : List (List ℕ × List ℕ)) → RouteTo all word left hops → left ≡ [] → word ≡ front ++ 58 ∷ back →
    split 58 word ≡ front ∷ split 58 back → None ≡ route_of all
route_cut all word front back left hops to is parts pieces =
    sym (to.same ∙ ap (λ (ws : List (List ℕ)). with_hops hops (route_of (word ∷ ws))) is
    ∙ ap (λ (o : Option (List ℕ × List ℕ)). with_hops hops (route_of_cut word o))
    (ap (cut 58) parts ∙ cut_some 58 front back (ap (split 58) (sym parts) ∙ pieces)))
