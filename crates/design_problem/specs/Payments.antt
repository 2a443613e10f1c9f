-- Which variables two paths pay, and how much more often the one pays them. No public clause cites it.
use Rattle.std.specs.Prelude.{◌≡◌, ℕ, ◌==◌, List, [], ◌∷◌, ◌++◌, Bool, true, false, not, ◌&&◌, ℤ, pos, negsuc, ◌-ℤ◌, count_by, MatchBool}
use Rattle.area_graph.specs.Area.{Area, edge_at}
use Rattle.area_graph.specs.declared.Price.{Price}
use Rattle.area_graph.specs.declared.Price.TheVariants.{Fixed, Var, Zero}
use Rattle.design_problem.specs.declared.balance.Balance.{Balance}
use Rattle.design_problem.specs.declared.form.Term.{Term}
use Rattle.design_problem.specs.declared.payments.Payment.{Payment}
use Rattle.design_problem.specs.Forms.{term_of}

-- the payment of a price, where it is a variable's
abbrev pub payment_of : Bool → Price → List Payment
payment_of by_rival (Fixed cost) = []
payment_of by_rival (Var v) = record { var = v; by_rival = by_rival } ∷ []
payment_of by_rival Zero = []

-- the payments of a path
abbrev pub payments_of : Area → Bool → List ℕ → List Payment
payments_of g by_rival [] = []
payments_of g by_rival (e ∷ es) = payment_of by_rival (edge_at g e).price ++ payments_of g by_rival es

-- how often the rival pays a variable
abbrev pub times_paid : List Payment → ℕ → ℕ
times_paid ps v = count_by (λ p. p.by_rival && (p.var == v)) ps

-- how often the wanted path pays a variable
abbrev pub times_saved : List Payment → ℕ → ℕ
times_saved ps v = count_by (λ p. not p.by_rival && (p.var == v)) ps

-- how much more often the rival pays a variable than the wanted path does
abbrev pub balance_of : List Payment → ℕ → ℤ
balance_of ps v = pos (times_paid ps v) -ℤ pos (times_saved ps v)

-- what one payment adds to a balance: 1 by the rival, -1 by the wanted path
abbrev pub one_payment : Bool → ℤ
one_payment true = pos 1
one_payment false = negsuc 0

-- a balance is kept where the next payment is of its variable; else its term comes to the end, and one of 0 begins
abbrev pub IsTurnedTo : Balance → ℕ → List Term → List Term → Balance → Type 0
IsTurnedTo balance var old_terms new_terms turned =
    MatchBool (balance.var == var) ((new_terms ≡ old_terms) × (turned ≡ balance))
    ((new_terms ≡ old_terms ++ term_of balance.var balance.sum) × (turned ≡ record { var = var; sum = pos 0 }))
