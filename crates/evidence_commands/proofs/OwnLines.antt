-- The last lines of a router's interfaces, found from behind.
use Rattle.std.proofs.Common.{◌≡◌, ℕ, ◌-◌, ◌^◌, ◌<◌, ◌≤◌, refl, sym, ◌∙◌, ap, subst, List, [], ◌∷◌, ◌++◌, length, reverse, append_assoc, Bool, true, false, cond, arith}
use Rattle.std.specs.Prelude.{◌≢◌, ◌||◌, All, AllPairs}
use Rattle.std.specs.List.{list_any}
use Rattle.std.proofs.lemmas.Bool.{false≢true}
use Rattle.std.proofs.lemmas.List.{reverse-append}
use Rattle.std.proofs.lemmas.List.Elements.{All-nil, All-cons, All-head, All-tail, All-filter, filter_passes}
use Rattle.std.proofs.lemmas.List.Folds.{list_any-append}
use Rattle.std.proofs.lemmas.List.Kept.{AllPairs-cons}
use Rattle.cost_base.specs.Lists.{same_bytes}
use Rattle.cost_base.proofs.ByteLemmas.{same_bytes-refl, same_bytes-true}
use Rattle.design_problem.specs.declared.answer.CostLine.{CostLine}
use Rattle.design_problem.specs.Text.{FitsCostLine}
use Rattle.evidence_commands.specs.Rewrites.{own_lines, has_line_of, last_lines, AddsLine}

-- Of all lines some are left in front: the lines found are the last ones of those behind, in turned order, and the
-- interfaces seen are those that the router's lines behind name.
pub record LastSoFar (router : List ℕ) (lines left last : List CostLine) (seen : List (List ℕ)) : Type 0 where
  pub behind : List CostLine
  pub parts : lines ≡ left ++ behind
  pub found : reverse last ≡ last_lines (own_lines router behind)
  pub named : (name : List ℕ) → list_any (same_bytes name) seen ≡ has_line_of name (own_lines router behind)

one_behind : (lines left before behind : List CostLine) (line : CostLine) → left ≡ before ++ line ∷ [] →
    lines ≡ left ++ behind → lines ≡ before ++ line ∷ behind
one_behind lines left before behind line e parts = parts ∙ ap (λ (ls : List CostLine). ls ++ behind) e ∙ append_assoc before (line ∷ []) behind

-- the last line that is left is another router's
pub line_passed : (router : List ℕ) (lines left before last : List CostLine) (seen : List (List ℕ)) (line : CostLine) →
    left ≡ before ++ line ∷ [] → same_bytes line.router router ≡ false →
    LastSoFar router lines left last seen → LastSoFar router lines before last seen
line_passed router lines left before last seen line e other s =
    record {
      behind = line ∷ s.behind;
      parts = one_behind lines left before s.behind line e s.parts;
      found = s.found ∙ ap last_lines (sym same);
      named = λ name. s.named name ∙ ap (has_line_of name) (sym same);
    }
  where
    same : own_lines router (line ∷ s.behind) ≡ own_lines router s.behind
    same = ap (λ (b : Bool). cond b (line ∷ own_lines router s.behind) (own_lines router s.behind)) other

turned : (b : Bool) (last : List CostLine) (line : CostLine) → reverse (cond b last (last ++ line ∷ [])) ≡ cond b (reverse last) (line ∷ reverse last)
turned true last line = refl
turned false last line = reverse-append last (line ∷ [])

or_known : (p q : Bool) → (p ≡ true → q ≡ true) → q ≡ (p || q)
or_known true q h = h refl
or_known false q h = refl

or_swap : (p q : Bool) → (q || (p || false)) ≡ (p || q)
or_swap true true = refl
or_swap true false = refl
or_swap false true = refl
or_swap false false = refl

known : (b : Bool) (seen : List (List ℕ)) (interface name : List ℕ) → list_any (same_bytes interface) seen ≡ b →
    list_any (same_bytes name) (cond b seen (seen ++ interface ∷ [])) ≡ (same_bytes name interface || list_any (same_bytes name) seen)
known true seen interface name is =
    or_known (same_bytes name interface) (list_any (same_bytes name) seen)
    (λ same. ap (λ (n : List ℕ). list_any (same_bytes n) seen) (same_bytes-true name interface same) ∙ is)
known false seen interface name is =
    list_any-append (same_bytes name) seen (interface ∷ []) ∙ or_swap (same_bytes name interface) (list_any (same_bytes name) seen)

-- the last line that is left is the router's
pub line_added : (router : List ℕ) (lines left before last more : List CostLine) (seen now : List (List ℕ))
    (line : CostLine) → left ≡ before ++ line ∷ [] → same_bytes line.router router ≡ true →
    AddsLine last more seen now line → LastSoFar router lines left last seen → LastSoFar router lines before more now
line_added router lines left before last more seen now line e own added s =
    record {
      behind = line ∷ s.behind;
      parts = one_behind lines left before s.behind line e s.parts;
      found =
          ap reverse added.lines ∙ turned (list_any (same_bytes line.interface) seen) last line
          ∙ ap (λ (found : List CostLine). cond (list_any (same_bytes line.interface) seen) found (line ∷ found)) s.found
          ∙ ap (λ (b : Bool). cond b (last_lines (own_lines router s.behind)) (line ∷ last_lines (own_lines router s.behind))) (s.named line.interface)
          ∙ ap last_lines (sym same);
      named = λ name.
          ap (list_any (same_bytes name)) added.seen ∙ known (list_any (same_bytes line.interface) seen) seen line.interface name refl
          ∙ ap (λ (b : Bool). same_bytes name line.interface || b) (s.named name)
          ∙ ap (has_line_of name) (sym same);
    }
  where
    same : own_lines router (line ∷ s.behind) ≡ line ∷ own_lines router s.behind
    same = ap (λ (b : Bool). cond b (line ∷ own_lines router s.behind) (own_lines router s.behind)) own

-- What the last lines keep of all lines.

last_one : (P : CostLine → Type 0) (b : Bool) (line : CostLine) (last : List CostLine) → P line → All P last → All P (cond b last (line ∷ last))
last_one P true line last here rest = rest
last_one P false line last here rest = All-cons P line last here rest

last_all : (P : CostLine → Type 0) (lines : List CostLine) → All P lines → All P (last_lines lines)
last_all P [] h = All-nil P
last_all P (line ∷ lines) h =
    last_one P (has_line_of line.interface lines) line (last_lines lines) (All-head P line lines h) (last_all P lines (All-tail P line lines h))

own_all : (P : CostLine → Type 0) (router : List ℕ) (lines : List CostLine) → All P lines → All P (last_lines (own_lines router lines))
own_all P router lines h = last_all P (own_lines router lines) (All-filter (λ line. same_bytes line.router router) P lines h)

-- each is the router's
pub own_router : (router : List ℕ) (lines : List CostLine) → All (λ line. line.router ≡ router) (last_lines (own_lines router lines))
own_router router lines =
    last_all (λ line. line.router ≡ router) (own_lines router lines)
    (λ k d below. same_bytes-true _ router (filter_passes (λ line. same_bytes line.router router) lines k d below))

not_named : (interface : List ℕ) (lines : List CostLine) → has_line_of interface lines ≡ false → All (λ line. interface ≢ line.interface) lines
not_named interface [] none = All-nil (λ line. interface ≢ line.interface)
not_named interface (line ∷ lines) none =
    All-cons (λ other. interface ≢ other.interface) line lines
    (λ same. false≢true (sym none ∙ ap (λ (b : Bool). b || has_line_of interface lines)
    (subst (λ (n : List ℕ). same_bytes interface n ≡ true) same (same_bytes-refl interface))))
    (not_named interface lines (rest (same_bytes interface line.interface) (has_line_of interface lines) none))
  where
    rest : (p q : Bool) → (p || q) ≡ false → q ≡ false
    rest true q h = absurd (false≢true (sym h))
    rest false q h = h

-- no interface comes twice
last_apart : (lines : List CostLine) → AllPairs (λ a b. a.interface ≢ b.interface) (last_lines lines)
last_apart [] = λ i j d before below. absurd (omega arith)
last_apart (line ∷ lines) = by_named (has_line_of line.interface lines) refl (last_apart lines)
  where
    by_named : (b : Bool) → has_line_of line.interface lines ≡ b →
        AllPairs (λ a c. a.interface ≢ c.interface) (last_lines lines) →
        AllPairs (λ a c. a.interface ≢ c.interface) (cond b (last_lines lines) (line ∷ last_lines lines))
    by_named true is rest = rest
    by_named false is rest =
        AllPairs-cons (λ a c. a.interface ≢ c.interface) line (last_lines lines)
        (last_all (λ other. line.interface ≢ other.interface) lines (not_named line.interface lines is)) rest

own_apart : (router : List ℕ) (lines : List CostLine) → AllPairs (λ a b. a.interface ≢ b.interface) (last_lines (own_lines router lines))
own_apart router lines = last_apart (own_lines router lines)

-- there are no more than there were
last_fewer : (lines : List CostLine) → length (last_lines lines) ≤ length lines
last_fewer [] = omega arith
last_fewer (line ∷ lines) = by_named (has_line_of line.interface lines) (last_fewer lines)
  where
    by_named : (b : Bool) → length (last_lines lines) ≤ length lines → length (cond b (last_lines lines) (line ∷ last_lines lines)) ≤ length (line ∷ lines)
    by_named true rest = omega (arith, rest)
    by_named false rest = omega (arith, rest)

own_fewer : (router : List ℕ) (lines : List CostLine) → length (own_lines router lines) ≤ length lines
own_fewer router [] = omega arith
own_fewer router (line ∷ lines) = by_router (same_bytes line.router router) (own_fewer router lines)
  where
    by_router : (b : Bool) → length (own_lines router lines) ≤ length lines →
        length (cond b (line ∷ own_lines router lines) (own_lines router lines)) ≤ length (line ∷ lines)
    by_router true rest = omega (arith, rest)
    by_router false rest = omega (arith, rest)

last_few : (router : List ℕ) (lines : List CostLine) → length (last_lines (own_lines router lines)) ≤ length lines
last_few router lines = let a = last_fewer (own_lines router lines) in let b = own_fewer router lines in omega (arith, a)

-- The same of a list that is the last lines of a router's interfaces.

pub few_own : (router : List ℕ) (lines own : List CostLine) → own ≡ last_lines (own_lines router lines) → length lines < 2 ^ 32 - 1 → length own < 2 ^ 32 - 1
few_own router lines own is few = let most = last_few router lines in rw is (omega (arith, most, few))

pub routers_own : (router name : List ℕ) (lines own : List CostLine) → own ≡ last_lines (own_lines router lines) →
    router ≡ name → All (λ line. line.router ≡ name) own
routers_own router name lines own is same = rw (is, ← same) (own_router router lines)

pub costs_own : (router : List ℕ) (lines own : List CostLine) → own ≡ last_lines (own_lines router lines) →
    All FitsCostLine lines → All (λ line. 1 ≤ line.cost) own
costs_own router lines own is fit = rw is (own_all (λ line. 1 ≤ line.cost) router lines (λ k d below. let some = (fit k d below).cost in omega (arith, some)))

pub interfaces_own : (router : List ℕ) (lines own : List CostLine) → own ≡ last_lines (own_lines router lines) → AllPairs (λ a b. a.interface ≢ b.interface) own
interfaces_own router lines own is = rw is (own_apart router lines)
