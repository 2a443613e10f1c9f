-- What a line says keeps the rules of request files.
use Rattle.std.proofs.Common.{◌≡◌, ℕ, ◌≤◌, ◌<◌, refl, sym, subst, List, [], ◌∷◌, Bool, true, false, cond, ◌&&◌, Option, Some, None, arith}
use Rattle.std.specs.Prelude.{nat_le, ◌==◌, codes, Result, Ok, Err}
use Rattle.std.proofs.lemmas.Bool.{leb-true, eqb-false}
use Rattle.request_reader.specs.declared.reading.statement.Statement.{Statement}
use Rattle.request_reader.specs.declared.fault.RequestFault.{RequestFault}
use Rattle.request_reader.specs.declared.reading.statement.Bounds.{Bounds}
use Rattle.request_reader.specs.declared.Directive.TheVariants.{Fix, Symmetric, SymmetricAll}
use Rattle.request_reader.specs.declared.fault.RequestFault.TheVariants.{BadBounds}
use Rattle.request_reader.specs.declared.reading.statement.Statement.TheVariants.{DefaultCost, Ask}
use Rattle.request_reader.specs.WrittenRoutes.{Route}
use Rattle.request_reader.specs.declared.Excluded.{Excluded}
use Rattle.cost_base.specs.Lists.{same_bytes}
use Rattle.text_lines.specs.Numbers.{number, area}
use Rattle.request_reader.specs.Routes.{route_of}
use Rattle.request_reader.specs.ReadingLines.{bad_request_line, area_line_by, area_line, default_cost_read, default_cost_line, bound, bounds_of, bounds_said, free_all, free_one, is_router_word, free_line, fix_line, symmetric_line, to_without, behind_without, excluded_parts, path_said, path_line, request_statement_by, request_statement_of}
use Rattle.request_reader.specs.ReadingSteps.{KeepsRules}

-- bounds from 1 on that don't cross
abbrev KeepBounds : Result Bounds RequestFault → Type 0
KeepBounds (Ok b) = (1 ≤ b.low) × (b.low ≤ b.high)
KeepBounds (Err fault) = Unit {0}

either : (b : Bool) (s t : Statement) → KeepsRules s → KeepsRules t → KeepsRules (cond b s t)
either true s t first second = first
either false s t first second = second

bounds_keep : (lo hi : Option ℕ) → KeepBounds (bounds_of lo hi)
bounds_keep None hi = tt
bounds_keep (Some lo) None = tt
bounds_keep (Some lo) (Some hi) = by_test (nat_le 1 lo) (nat_le lo hi) (nat_le hi 65535) (leb-true 1 lo) (leb-true lo hi)
  where
    by_test : (a b c : Bool) → (a ≡ true → 1 ≤ lo) → (b ≡ true → lo ≤ hi) →
        KeepBounds (cond (a && b && c) (Ok (record { low = lo; high = hi })) (Err BadBounds))
    by_test true true true least ordered = (least refl, ordered refl)
    by_test true true false least ordered = tt
    by_test true false c least ordered = tt
    by_test false b c least ordered = tt

free_all_keeps : (r : Result Bounds RequestFault) → KeepBounds r → KeepsRules (free_all r)
free_all_keeps (Ok b) keep = keep
free_all_keeps (Err fault) keep = tt

free_one_keeps : (router interface : List ℕ) (r : Result Bounds RequestFault) → KeepBounds r → KeepsRules (free_one router interface r)
free_one_keeps router interface (Ok b) keep = keep
free_one_keeps router interface (Err fault) keep = tt

free_keeps : (ws : List (List ℕ)) → KeepsRules (free_line ws)
free_keeps [] = tt
free_keeps (a ∷ []) = tt
free_keeps (a ∷ b ∷ []) = tt
free_keeps (all ∷ lo ∷ hi ∷ []) =
    either (same_bytes all (codes "all")) (free_all (bounds_said lo hi)) bad_request_line
    (free_all_keeps (bounds_said lo hi) (bounds_keep (bound lo) (bound hi))) tt
free_keeps (router ∷ interface ∷ lo ∷ hi ∷ []) =
    either (is_router_word router) (free_one router interface (bounds_said lo hi)) bad_request_line
    (free_one_keeps router interface (bounds_said lo hi) (bounds_keep (bound lo) (bound hi))) tt
free_keeps (a ∷ b ∷ c ∷ d ∷ e ∷ more) = tt

fix_keeps : (ws : List (List ℕ)) → KeepsRules (fix_line ws)
fix_keeps [] = tt
fix_keeps (a ∷ []) = tt
fix_keeps (router ∷ interface ∷ []) = either (is_router_word router) (Ask (Fix router interface)) bad_request_line tt tt
fix_keeps (a ∷ b ∷ c ∷ more) = tt

symmetric_keeps : (ws : List (List ℕ)) → KeepsRules (symmetric_line ws)
symmetric_keeps [] = tt
symmetric_keeps (all ∷ []) = either (same_bytes all (codes "all")) (Ask SymmetricAll) bad_request_line tt tt
symmetric_keeps (router ∷ interface ∷ []) = either (is_router_word router) (Ask (Symmetric router interface)) bad_request_line tt tt
symmetric_keeps (a ∷ b ∷ c ∷ more) = tt

cost_keeps : (ws : List (List ℕ)) → KeepsRules (default_cost_line ws)
cost_keeps [] = tt
cost_keeps (word ∷ []) = said_keeps (number word 65535)
  where
    said_keeps : (n : Option ℕ) → KeepsRules (default_cost_read n)
    said_keeps None = tt
    said_keeps (Some n) = by_test (n == 0) (λ some. omega (arith, eqb-false n 0 some))
      where
        by_test : (b : Bool) → (b ≡ false → 0 < n) → KeepsRules (cond b bad_request_line (DefaultCost n))
        by_test true some = tt
        by_test false some = some refl
cost_keeps (a ∷ b ∷ more) = tt

area_keeps : (ws : List (List ℕ)) → KeepsRules (area_line ws)
area_keeps [] = tt
area_keeps (word ∷ []) = said_keeps (area word)
  where
    said_keeps : (n : Option ℕ) → KeepsRules (area_line_by n)
    said_keeps None = tt
    said_keeps (Some n) = tt
area_keeps (a ∷ b ∷ more) = tt

path_keeps : (ws : List (List ℕ)) → KeepsRules (path_line ws)
path_keeps [] = tt
path_keeps (word ∷ words) = said_keeps (route_of (word ∷ to_without words)) (excluded_parts (behind_without words))
  where
    said_keeps : (route : Option Route) (parts : Option (List Excluded)) → KeepsRules (path_said route parts)
    said_keeps None parts = tt
    said_keeps (Some route) None = tt
    said_keeps (Some route) (Some parts) = tt

line_keeps : (word : List ℕ) (ws : List (List ℕ)) → KeepsRules (request_statement_by word ws)
line_keeps word ws =
    one_of (same_bytes word (codes "path")) (same_bytes word (codes "free")) (same_bytes word (codes "fix"))
    (same_bytes word (codes "symmetric")) (same_bytes word (codes "area"))
    (same_bytes word (codes "default-cost"))
    (path_line ws) (free_line ws) (fix_line ws) (symmetric_line ws) (area_line ws) (default_cost_line ws)
    (path_keeps ws) (free_keeps ws) (fix_keeps ws) (symmetric_keeps ws) (area_keeps ws) (cost_keeps ws)
  where
    one_of :
        (a b c d e f : Bool) (p q r s t u : Statement) → KeepsRules p → KeepsRules q → KeepsRules r → KeepsRules s →
        KeepsRules t → KeepsRules u →
        KeepsRules (cond a p (cond b q (cond c r (cond d s (cond e t (cond f u bad_request_line))))))
    one_of a b c d e f p q r s t u kp kq kr ks kt ku =
        either a p _ kp (either b q _ kq (either c r _ kr (either d s _ ks (either e t _ kt (either f u bad_request_line ku tt)))))

pub statement_rules : (ws : List (List ℕ)) (said : Statement) → said ≡ request_statement_of ws → KeepsRules said
statement_rules [] said is = subst KeepsRules (sym is) tt
statement_rules (word ∷ ws) said is = subst KeepsRules (sym is) (line_keeps word ws)
