-- Equal lines are those of equal parts, part after part.
use Rattle.std.proofs.Common.{◌≡◌, ℕ, List, [], ◌∷◌, ◌++◌, All, length, map, get_or, codes, Bool, cond, true, false, Option, Some, None, refl, sym, ap, ◌∙◌, arith}
use Rattle.std.specs.Cmp.Lexicographic.{pointwise_decides}
use Rattle.std.proofs.lemmas.Bool.{true≢false}
use Rattle.std.proofs.lemmas.Bool.Decides.{Decides-eqb}
use Rattle.std.proofs.lemmas.List.{append_cancel_left}
use Rattle.std.proofs.lemmas.List.Elements.{All-nil, All-cons}
use Rattle.cost_base.specs.Decimal.{decimal}
use Rattle.cost_base.specs.Lists.{same_bytes}
use Rattle.cost_base.specs.Words.{HasNoSpace}
use Rattle.design_problem.specs.declared.form.Row.{Row}
use Rattle.design_problem.specs.declared.tree.Entry.{Entry}
use Rattle.design_problem.specs.declared.answer.Costs.{Costs}
use Rattle.design_problem.specs.declared.answer.CostLine.{CostLine}
use Rattle.design_problem.specs.declared.answer.Floor.{Floor}
use Rattle.design_problem.specs.declared.answer.CapTree.{CapTree}
use Rattle.design_problem.specs.Text.{cost_lines, costs_lines, row_line, entry_line, tree_lines, interface_line, answer_cost_line, floor_line, rows_lines, router_line}
use Rattle.text_lines.proofs.Printed.{decimal-same}
use Rattle.answer_lines.proofs.ListParts.{head-is, tail-is}
use Rattle.answer_lines.proofs.SpacedWords.{spaceless-from, decimal-spaceless}
use Rattle.evidence_reader.proofs.SameWords.{no_digits, second-same, later-same, floor-same, row-same, entry-same}

-- the first byte of the first line
abbrev first_byte : List (List ℕ) → ℕ
first_byte lines = get_or (get_or lines 0 []) 0 0

-- the router is that of the cost before
abbrev is_same : Option (List ℕ) → List ℕ → Bool
is_same None router = false
is_same (Some before) router = same_bytes before router

-- the lines of a cost, without or with its router's, and what follows
abbrev section : Bool → CostLine → List (List ℕ) → List (List ℕ)
section same line rest = cond same [] (router_line line.router ∷ []) ++ (interface_line line.interface ∷ answer_cost_line line.cost ∷ codes "exit" ∷ rest)

split-off : (before : Option (List ℕ)) (line : CostLine) (lines : List CostLine) (rest : List (List ℕ)) →
    cost_lines before (line ∷ lines) ++ rest ≡ section (is_same before line.router) line (cost_lines (Some line.router) lines ++ rest)
split-off before line lines rest = cases before
  where
    either : (same : Bool) → section same line (cost_lines (Some line.router) lines) ++ rest ≡ section same line (cost_lines (Some line.router) lines ++ rest)
    either true = refl
    either false = refl

    cases : (before : Option (List ℕ)) →
        cost_lines before (line ∷ lines) ++ rest ≡ section (is_same before line.router) line
        (cost_lines (Some line.router) lines ++ rest)
    cases None = refl
    cases (Some b) = either (same_bytes b line.router)

-- a line that is neither that of a router nor that of an interface
pub record IsNoSection (line : List ℕ) : Type 0 where
  pub router : (name : List ℕ) → router_line name ≡ line → ⊥
  pub interface : (name : List ℕ) → interface_line name ≡ line → ⊥

-- no section begins with such a line
no_section : (same : Bool) (line : CostLine) (rest : List (List ℕ)) (end : List ℕ) (others : List (List ℕ)) → IsNoSection end →
    section same line rest ≡ end ∷ others → ⊥
no_section true line rest end others other e = other.interface line.interface (head-is _ _ _ _ e)
no_section false line rest end others other e = other.router line.router (head-is _ _ _ _ e)

-- that of a floor is one
pub floor_ends : (floor : Floor) → IsNoSection (floor_line floor)
floor_ends floor = record {
  router = λ name e. omega (arith, ap (λ (line : List ℕ). get_or line 0 0) e);
  interface = λ name e. omega (arith, ap (λ (line : List ℕ). get_or line 0 0) e);
}

-- two routers that are that of the cost before
one-router : (before : Option (List ℕ)) (r s : List ℕ) → is_same before r ≡ true → is_same before s ≡ true → r ≡ s
one-router None r s first second = absurd (true≢false (sym first))
one-router (Some b) r s first second = sym ((pointwise_decides Decides-eqb b r).0 first) ∙ (pointwise_decides Decides-eqb b s).0 second

abbrev cost : List ℕ → List ℕ → ℕ → CostLine
cost router interface n = record { router = router; interface = interface; cost = n }

cost-same : (l m : CostLine) → l.router ≡ m.router → l.interface ≡ m.interface → l.cost ≡ m.cost → l ≡ m
cost-same l m first second third =
    ap (λ r. cost r l.interface l.cost) first ∙ ap (λ i. cost m.router i l.cost) second ∙ ap (cost m.router m.interface) third

-- the lines behind the router's
behind-router : (l m : CostLine) (r s : List (List ℕ)) → l.router ≡ m.router → section true l r ≡ section true m s → (l ≡ m) × (r ≡ s)
behind-router l m r s router e =
    let interface : l.interface ≡ m.interface = second-same (codes "interface") l.interface m.interface (head-is _ _ _ _ e) in
    let others = tail-is _ _ _ _ e in
    let number : l.cost ≡ m.cost =
    decimal-same l.cost m.cost
    (append_cancel_left (codes " ip ospf cost ") (decimal l.cost) (decimal m.cost) (head-is _ _ _ _ others)) in
    (cost-same l m router interface number, tail-is _ _ _ _ (tail-is _ _ _ _ others))

section-same : (before : Option (List ℕ)) (l m : CostLine) (r s : List (List ℕ)) (x y : Bool) →
    is_same before l.router ≡ x → is_same before m.router ≡ y → section x l r ≡ section y m s → (l ≡ m) × (r ≡ s)
section-same before l m r s true true first second e = behind-router l m r s (one-router before l.router m.router first second) e
section-same before l m r s false false first second e =
    behind-router l m r s (second-same (codes "router") l.router m.router (head-is _ _ _ _ e)) (tail-is _ _ _ _ e)
section-same before l m r s true false first second e = absurd (omega (arith, ap first_byte e))
section-same before l m r s false true first second e = absurd (omega (arith, ap first_byte e))

-- sections up to the lines that end them
pub sections-same : (before : Option (List ℕ)) (ls ms : List CostLine) (f g : List ℕ) (r s : List (List ℕ)) → IsNoSection f → IsNoSection g →
    cost_lines before ls ++ (f ∷ r) ≡ cost_lines before ms ++ (g ∷ s) → (ls ≡ ms) × (f ∷ r ≡ g ∷ s)
sections-same before [] [] f g r s first second e = (refl, e)
sections-same before [] (m ∷ ms) f g r s first second e =
    absurd (no_section (is_same before m.router) m _ f r first (sym (split-off before m ms (g ∷ s)) ∙ sym e))
sections-same before (l ∷ ls) [] f g r s first second e =
    absurd (no_section (is_same before l.router) l _ g s second (sym (split-off before l ls (f ∷ r)) ∙ e))
sections-same before (l ∷ ls) (m ∷ ms) f g r s first second e =
    let cut = section-same before l m (cost_lines (Some l.router) ls ++ (f ∷ r))
    (cost_lines (Some m.router) ms ++ (g ∷ s)) (is_same before l.router)
    (is_same before m.router) refl refl
    (sym (split-off before l ls (f ∷ r)) ∙ e ∙ split-off before m ms (g ∷ s)) in
    let rest = sections-same (Some l.router) ls ms f g r s first second
    (cut.1 ∙ ap (λ (line : CostLine). cost_lines (Some line.router) ms ++ (g ∷ s)) (sym cut.0)) in
    (ap (λ line. line ∷ ls) cut.0 ∙ ap (λ l. m ∷ l) rest.0, rest.1)

abbrev costs : ℕ → List CostLine → Option Costs
costs greatest lines = Some (record { greatest = greatest; lines = lines })

-- the costs and the floor behind them
pub costs-same : (c d : Option Costs) (f g : Floor) (r s : List (List ℕ)) →
    costs_lines c ++ (floor_line f ∷ r) ≡ costs_lines d ++ (floor_line g ∷ s) →
    (c ≡ d) × (floor_line f ∷ r ≡ floor_line g ∷ s)
costs-same None None f g r s e = (refl, tail-is _ _ _ _ e)
costs-same None (Some d) f g r s e =
    absurd (no_digits (codes "none") d.greatest refl
    (second-same (codes "costs") (codes "none") (decimal d.greatest) (head-is _ _ _ _ e)))
costs-same (Some c) None f g r s e =
    absurd (no_digits (codes "none") c.greatest refl
    (second-same (codes "costs") (codes "none") (decimal c.greatest) (sym (head-is _ _ _ _ e))))
costs-same (Some c) (Some d) f g r s e =
    let greatest : c.greatest ≡ d.greatest =
    decimal-same c.greatest d.greatest
    (second-same (codes "costs") (decimal c.greatest) (decimal d.greatest) (head-is _ _ _ _ e)) in
    let rest = sections-same None c.lines d.lines (floor_line f) (floor_line g) r s (floor_ends f) (floor_ends g) (tail-is _ _ _ _ e) in
    (ap (λ n. costs n c.lines) greatest ∙ ap (costs d.greatest) rest.0, rest.1)

pub floor_line-same : (f g : Floor) → floor_line f ≡ floor_line g → f ≡ g
floor_line-same f g e = floor-same f g (second-same (codes "floor") _ _ e)

-- equally many lines, of which each tells its own
each-same : {A : Type 0} (line : A → List ℕ) → ((x y : A) → line x ≡ line y → x ≡ y) → (xs ys : List A)
    (r s : List (List ℕ)) → length xs ≡ length ys → map line xs ++ r ≡ map line ys ++ s → (xs ≡ ys) × (r ≡ s)
each-same line tells [] [] r s counted e = (refl, e)
each-same line tells [] (y ∷ ys) r s counted e = absurd (omega (arith, counted))
each-same line tells (x ∷ xs) [] r s counted e = absurd (omega (arith, counted))
each-same line tells (x ∷ xs) (y ∷ ys) r s counted e =
    let one = tells x y (head-is _ _ _ _ e) in
    let fewer : length xs ≡ length ys = omega (arith, counted) in
    let rest = each-same line tells xs ys r s fewer (tail-is _ _ _ _ e) in
    (ap (λ z. z ∷ xs) one ∙ ap (λ l. y ∷ l) rest.0, rest.1)

pub rows-same : (xs ys : List Row) (r s : List (List ℕ)) → rows_lines xs ++ r ≡ rows_lines ys ++ s → (xs ≡ ys) × (r ≡ s)
rows-same xs ys r s e =
    let counted : length xs ≡ length ys = decimal-same (length xs) (length ys) (second-same (codes "rows") _ _ (head-is _ _ _ _ e)) in
    each-same row_line row-same xs ys r s counted (tail-is _ _ _ _ e)

entries-same : (xs ys : List Entry) (r s : List (List ℕ)) → length xs ≡ length ys → map entry_line xs ++ r ≡ map entry_line ys ++ s → (xs ≡ ys) × (r ≡ s)
entries-same xs ys r s counted e = each-same entry_line entry-same xs ys r s counted e

abbrev tree : ℕ → List Entry → Option CapTree
tree cap entries = Some (record { cap = cap; tree = entries })

no-tree-spaceless : (word : List ℕ) → HasNoSpace word → All HasNoSpace (word ∷ codes "none" ∷ [])
no-tree-spaceless word plain =
    All-cons HasNoSpace word (codes "none" ∷ []) plain
    (All-cons HasNoSpace (codes "none") [] (spaceless-from (codes "none") refl) (All-nil HasNoSpace))

tree-spaceless : (word : List ℕ) (t : CapTree) → HasNoSpace word → All HasNoSpace (word ∷ decimal t.cap ∷ decimal (length t.tree) ∷ [])
tree-spaceless word t plain =
    All-cons HasNoSpace word (decimal t.cap ∷ decimal (length t.tree) ∷ []) plain
    (All-cons HasNoSpace (decimal t.cap) (decimal (length t.tree) ∷ []) (decimal-spaceless t.cap)
    (All-cons HasNoSpace (decimal (length t.tree)) [] (decimal-spaceless (length t.tree)) (All-nil HasNoSpace)))

pub tree-same : (word : List ℕ) → HasNoSpace word → (t u : Option CapTree) (r s : List (List ℕ)) →
    tree_lines word t ++ r ≡ tree_lines word u ++ s → (t ≡ u) × (r ≡ s)
tree-same word plain None None r s e = (refl, tail-is _ _ _ _ e)
tree-same word plain None (Some u) r s e =
    absurd (cc (later-same word (codes "none" ∷ []) (decimal u.cap ∷ decimal (length u.tree) ∷ [])
    (no-tree-spaceless word plain) (tree-spaceless word u plain) (head-is _ _ _ _ e)))
tree-same word plain (Some t) None r s e =
    absurd (cc (later-same word (decimal t.cap ∷ decimal (length t.tree) ∷ []) (codes "none" ∷ [])
    (tree-spaceless word t plain) (no-tree-spaceless word plain) (head-is _ _ _ _ e)))
tree-same word plain (Some t) (Some u) r s e =
    let words = later-same word (decimal t.cap ∷ decimal (length t.tree) ∷ [])
    (decimal u.cap ∷ decimal (length u.tree) ∷ []) (tree-spaceless word t plain) (tree-spaceless word u plain)
    (head-is _ _ _ _ e) in
    let cap : t.cap ≡ u.cap = decimal-same t.cap u.cap (head-is _ _ _ _ words) in
    let counted : length t.tree ≡ length u.tree = decimal-same (length t.tree) (length u.tree) (head-is _ _ _ _ (tail-is _ _ _ _ words)) in
    let rest = entries-same t.tree u.tree r s counted (tail-is _ _ _ _ e) in
    (ap (λ n. tree n t.tree) cap ∙ ap (tree u.cap) rest.0, rest.1)
