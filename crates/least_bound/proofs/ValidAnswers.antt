-- The answers are valid or undecided, and their texts are in the grammar.
use Rattle.std.proofs.Common.{◌≡◌, ℕ, ◌+◌, ◌≤◌, refl, sym, ◌∙◌, subst, List, length, arith, Bool}
use Rattle.std.specs.Prelude.{All, AllPairs, Option, None, Some, slice_index_or}
use Rattle.area_graph.specs.Area.{FitsGraph}
use Rattle.design_problem.specs.declared.form.Row.{Row}
use Rattle.design_problem.specs.declared.tree.Entry.{Entry}
use Rattle.design_problem.specs.declared.answer.CapTree.{CapTree}
use Rattle.design_problem.specs.declared.answer.Costs.{Costs as CostsPart}
use Rattle.design_problem.specs.declared.answer.Floor.{Floor}
use Rattle.design_problem.specs.declared.answer.Floor.TheVariants.{Absent, Empty, Var}
use Rattle.design_problem.specs.declared.answer.Verdict.TheVariants.{Optimal, Impossible, Undecided}
use Rattle.design_problem.specs.Problems.{DesignProblem, IsProblem}
use Rattle.design_problem.specs.Boxes.{capped}
use Rattle.design_problem.specs.Rows.{IsFit, IsRow, LeadsEach, box_of, form_of_row, greatest_cost}
use Rattle.design_problem.specs.Trees.{entry_count}
use Rattle.design_problem.specs.Earnest.{IsFormOfRow}
use Rattle.design_problem.specs.Text.{FitsAnswer, row_line}
use Rattle.design_problem.specs.Answers.{GivesCosts, Proves, ShowsLeastGreatest, greatest_bound}
use Rattle.printed_rows.specs.NamedRows.{NamesBelow, TreeNamesBelow}
use Rattle.printed_rows.specs.NewNumbers.{AreKept, ArePrinted, named_in}
use Rattle.printed_rows.specs.PrintedCosts.{ArePrintedCosts}
use Rattle.printed_rows.specs.PrintedTrees.{IsPrintedTree}
use Rattle.printed_rows.proofs.AnswerLines.{CanPrintCosts, CanPrintTree, FitsFloor, answer_kept}
use Rattle.printed_rows.proofs.CapBoxes.{cost_bounds, low_below_greatest_bound, no_low_above}
use Rattle.printed_rows.proofs.RowLines.{rows_short}
use Rattle.printed_rows.proofs.SheetLaws.{trees_sheet}
use Rattle.printed_rows.proofs.TreeCopies.{IsCopy, all_printed, copy_closed, copy_printable, copy_printed, copy_used_up, proof_copy, search_names, undecided_copy}
use Rattle.printed_rows.specs.FittingTexts.{IsTextLine}
use Rattle.printed_rows.proofs.TreeLines.{IsPrintable}
use Rattle.cost_branching.specs.Pools.{Differ, IsRowPool, Pooled}
use Rattle.cost_branching.specs.Decisions.{IsTreeAt}
use Rattle.least_bound.specs.Answered.{IsAnswerSheet, IsDesignAnswer, ProofIsBelow, ProofIsPrinted, CostsAreAbove, UndecidedAt}
use Rattle.least_bound.specs.Caps.{CostsFound, IsKeptAt, IsTreeKeptBelow, IsRefuted, IsUndecidedAt}
use Rattle.least_bound.specs.Printing.{ArePrintedIfAny, IsFloorFor, ShowsFloor}

-- the parts that are printed together: some of a pool's rows, those that pass the test
pub record Sheet : Type 0 where
  pub rows : List Row
  pub named : ℕ → Bool

-- the sheet of a pool
pub record IsSheetOf (p : DesignProblem) (pool : Pooled) (sheet : Sheet) : Type 0 where
  pub problem : IsProblem p
  pub graph : FitsGraph p.graph
  pub is_pool : IsRowPool p pool
  pub kept : AreKept sheet.named pool.rows sheet.rows

-- the sheet of parts that were printed
abbrev pub sheet_of : Option CapTree → Option CapTree → List Row → Sheet
sheet_of proof undecided rows = record { rows = rows; named = named_in proof undecided }

is_sheet : (p : DesignProblem) (pool : Pooled) (old : List Row) (proof undecided : Option CapTree) (rows : List Row)
    (new_proof new_undecided : Option CapTree) → IsProblem p → FitsGraph p.graph → IsRowPool p pool → old ≡ pool.rows →
    ArePrinted old proof undecided rows new_proof new_undecided → IsSheetOf p pool (sheet_of proof undecided rows)
is_sheet p pool old proof undecided rows new_proof new_undecided problem graph is_pool same are = record {
  problem = problem;
  graph = graph;
  is_pool = is_pool;
  kept = subst (λ (rs : List Row). AreKept (named_in proof undecided) rs rows) same are.kept;
}

-- a tree of a pool names its rows
pub names_rows : (p : DesignProblem) (top cap : ℕ) (pool : Pooled) (rows : List Row) (tree : List Entry) →
    rows ≡ pool.rows → IsTreeAt p top cap pool tree → All (NamesBelow (length rows)) tree
names_rows p top cap pool rows tree same holds =
    subst (λ (rs : List Row). All (NamesBelow (length rs)) tree) (sym same)
    (search_names (LeadsEach p) top (form_of_row p) pool.rows (capped (box_of p) cap) tree holds)

-- and so does a kept one
pub kept_names : (p : DesignProblem) (top nodes : ℕ) (pool : Pooled) (rows : List Row) (cap : ℕ)
    (kept : Option CapTree) → rows ≡ pool.rows → IsTreeKeptBelow p top nodes pool cap kept →
    TreeNamesBelow (length rows) kept
kept_names p top nodes pool rows cap None same holds = tt
kept_names p top nodes pool rows cap (Some t) same holds = names_rows p top t.cap pool rows t.tree same holds.2.tree

sheet_rows : (p : DesignProblem) (pool : Pooled) (sheet : Sheet) → IsSheetOf p pool sheet → All (IsRow p) sheet.rows
sheet_rows p pool sheet is = all_printed (IsRow p) sheet.named pool.rows sheet.rows is.kept is.is_pool.rows

-- a tree of the pool as it is printed
abbrev IsCopied : Pooled → Sheet → CapTree → CapTree → Type 0
IsCopied pool sheet t u = (u.cap ≡ t.cap) × IsCopy sheet.named pool.rows sheet.rows t.tree u.tree

-- the trees of a pool as they are printed
abbrev pub IsPrintedBy : Pooled → Sheet → Option CapTree → Option CapTree → Type 0
IsPrintedBy pool sheet None None = Unit {0}
IsPrintedBy pool sheet (Some t) (Some u) = IsCopied pool sheet t u
IsPrintedBy pool sheet None (Some u) = ⊥
IsPrintedBy pool sheet (Some t) None = ⊥

proof_printed_by : (p : DesignProblem) (pool : Pooled) (old : List Row) (proof undecided : Option CapTree)
    (rows : List Row) (new_proof new_undecided : Option CapTree) → old ≡ pool.rows →
    TreeNamesBelow (length old) proof → ArePrinted old proof undecided rows new_proof new_undecided →
    IsPrintedBy pool (sheet_of proof undecided rows) proof new_proof
proof_printed_by p pool old None undecided rows None new_undecided same below are = tt
proof_printed_by p pool old None undecided rows (Some u) new_undecided same below are = are.proof_is
proof_printed_by p pool old (Some t) undecided rows None new_undecided same below are = are.proof_is
proof_printed_by p pool old (Some t) undecided rows (Some u) new_undecided same below are = (
  are.proof_is.0,
  subst (λ (rs : List Row). IsCopy (named_in (Some t) undecided) rs rows t.tree u.tree) same
      (proof_copy old rows t u undecided new_undecided are below),
)

undecided_printed_by : (p : DesignProblem) (pool : Pooled) (old : List Row) (proof undecided : Option CapTree)
    (rows : List Row) (new_proof new_undecided : Option CapTree) → old ≡ pool.rows →
    TreeNamesBelow (length old) undecided → ArePrinted old proof undecided rows new_proof new_undecided →
    IsPrintedBy pool (sheet_of proof undecided rows) undecided new_undecided
undecided_printed_by p pool old proof None rows new_proof None same below are = tt
undecided_printed_by p pool old proof None rows new_proof (Some u) same below are = are.undecided_is
undecided_printed_by p pool old proof (Some t) rows new_proof None same below are = are.undecided_is
undecided_printed_by p pool old proof (Some t) rows new_proof (Some u) same below are = (
  are.undecided_is.0,
  subst (λ (rs : List Row). IsCopy (named_in proof (Some t)) rs rows t.tree u.tree) same
      (undecided_copy old rows t u proof new_proof are below),
)

-- a sheet of a pool, and two of its trees as they are printed on it
pub record AreOnSheet (p : DesignProblem) (pool : Pooled) (proof undecided : Option CapTree) (rows : List Row)
    (new_proof new_undecided : Option CapTree) : Type 0 where
  pub sheet : IsSheetOf p pool (sheet_of proof undecided rows)
  pub proof_is : IsPrintedBy pool (sheet_of proof undecided rows) proof new_proof
  pub undecided_is : IsPrintedBy pool (sheet_of proof undecided rows) undecided new_undecided
  pub whole : IsAnswerSheet p rows new_proof new_undecided

pub on_sheet : (p : DesignProblem) (pool : Pooled) (old : List Row) (proof undecided : Option CapTree)
    (rows : List Row) (new_proof new_undecided : Option CapTree) → IsProblem p → FitsGraph p.graph → IsRowPool p pool →
    old ≡ pool.rows → TreeNamesBelow (length old) proof → TreeNamesBelow (length old) undecided →
    ArePrinted old proof undecided rows new_proof new_undecided → AreOnSheet p pool proof undecided rows new_proof new_undecided
on_sheet p pool old proof undecided rows new_proof new_undecided problem graph is_pool same proof_below undecided_below are = record {
  sheet = is_sheet p pool old proof undecided rows new_proof new_undecided problem graph is_pool same are;
  proof_is = proof_printed_by p pool old proof undecided rows new_proof new_undecided same proof_below are;
  undecided_is = undecided_printed_by p pool old proof undecided rows new_proof new_undecided same undecided_below are;
  whole = trees_sheet (IsRow p) Differ old rows proof undecided new_proof new_undecided
      (subst (All (IsRow p)) (sym same) is_pool.rows) (subst (AllPairs Differ) (sym same) is_pool.once) proof_below undecided_below are;
}

-- where the first of the trees is a kept one that was lent
pub kept_on_sheet : (p : DesignProblem) (top nodes cap : ℕ) (pool : Pooled) (old : List Row)
    (kept lent undecided : Option CapTree) (rows : List Row) (new_proof new_undecided : Option CapTree) →
    IsProblem p → FitsGraph p.graph → IsRowPool p pool → old ≡ pool.rows → lent ≡ kept →
    IsTreeKeptBelow p top nodes pool cap kept →
    TreeNamesBelow (length old) undecided → ArePrinted old lent undecided rows new_proof new_undecided →
    AreOnSheet p pool kept undecided rows new_proof new_undecided
kept_on_sheet p top nodes cap pool old kept lent undecided rows new_proof new_undecided problem graph is_pool same lent_is below undecided_below are =
    on_sheet p pool old kept undecided rows new_proof new_undecided problem graph is_pool same
    (kept_names p top nodes pool old cap kept same below) undecided_below
    (subst (λ (k : Option CapTree). ArePrinted old k undecided rows new_proof new_undecided) lent_is are)

at_new_cap : (p : DesignProblem) (top : ℕ) (pool : Pooled) (t u : CapTree) → u.cap ≡ t.cap → IsTreeAt p top t.cap pool t.tree → IsTreeAt p top u.cap pool t.tree
at_new_cap p top pool t u same holds = subst (λ (cap : ℕ). IsTreeAt p top cap pool t.tree) (sym same) holds

-- rows of the problem have true forms
true_forms : (p : DesignProblem) (rows : List Row) → All (IsRow p) rows → All (λ row. IsFormOfRow p (form_of_row p row)) rows
true_forms p rows all k d k_in = record { row = slice_index_or rows k d; is_row = all k d k_in; same = refl }

-- it is printed
tree_printed : (p : DesignProblem) (top nodes : ℕ) (pool : Pooled) (sheet : Sheet) (t u : CapTree) →
    IsSheetOf p pool sheet → IsCopied pool sheet t u → IsTreeAt p top t.cap pool t.tree → entry_count t.tree ≤ nodes →
    IsPrintedTree p top nodes sheet.rows u
tree_printed p top nodes pool sheet t u is copy holds few =
    copy_printed (LeadsEach p) (IsFormOfRow p) top nodes (form_of_row p) (capped (box_of p) u.cap) sheet.named pool.rows
    sheet.rows t.tree u.tree copy.1 (true_forms p pool.rows is.is_pool.rows)
    (at_new_cap p top pool t u copy.0 holds) few

-- and it can be printed
tree_printable : (p : DesignProblem) (top nodes : ℕ) (pool : Pooled) (sheet : Sheet) (t u : CapTree) →
    IsSheetOf p pool sheet → IsCopied pool sheet t u → greatest_cost p.low ≤ t.cap → t.cap ≤ 65535 → nodes ≤ 10000000 →
    IsTreeAt p top t.cap pool t.tree → entry_count t.tree ≤ nodes → IsPrintable u
tree_printable p top nodes pool sheet t u is copy from small budget holds few =
    copy_printable (LeadsEach p) top nodes u.cap (form_of_row p) (capped (box_of p) u.cap) sheet.named pool.rows sheet.rows t.tree u.tree copy.1
    (cost_bounds p u.cap is.problem (omega (arith, copy.0)) (omega (arith, copy.0))) (omega (arith, copy.0)) budget (at_new_cap p top pool t u copy.0 holds) few

-- a closed tree proves that no costs are fit at its cap
tree_proves : (p : DesignProblem) (top nodes : ℕ) (pool : Pooled) (sheet : Sheet) (t u : CapTree) →
    IsSheetOf p pool sheet → IsCopied pool sheet t u → greatest_cost p.low ≤ t.cap → IsRefuted p top nodes pool t →
    Proves p sheet.rows u.cap u
tree_proves p top nodes pool sheet t u is copy from refuted = record {
  at_cap = refl;
  no_higher = no_low_above p.low u.cap (omega (arith, copy.0));
  sound = (tree_printed p top nodes pool sheet t u is copy refuted.tree refuted.few).earnest.sound;
  closed = copy_closed sheet.named pool.rows sheet.rows t.tree u.tree copy.1 refuted.closed;
}

-- no costs are fit
pub impossible_answered : (p : DesignProblem) (top nodes : ℕ) (pool : Pooled) (sheet : Sheet) (t : CapTree)
    (proof undecided : Option CapTree) → IsSheetOf p pool sheet → IsPrintedBy pool sheet (Some t) proof →
    IsPrintedBy pool sheet None undecided → t.cap ≡ greatest_bound p → IsRefuted p top nodes pool t →
    IsAnswerSheet p sheet.rows proof undecided →
    IsDesignAnswer p top nodes (record { verdict = Impossible; costs = None; floor = Absent; rows = sheet.rows; proof = proof; undecided = undecided })
impossible_answered p top nodes pool sheet t None undecided is proof_is undecided_is cap_is refuted whole = absurd proof_is
impossible_answered p top nodes pool sheet t (Some u) (Some v) is proof_is undecided_is cap_is refuted whole = absurd undecided_is
impossible_answered p top nodes pool sheet t (Some u) None is proof_is undecided_is cap_is refuted whole =
    let from : greatest_cost p.low ≤ t.cap = let below = low_below_greatest_bound p is.problem in omega arith in
    let proves = tree_proves p top nodes pool sheet t u is proof_is from refuted in
    let same : u.cap ≡ greatest_bound p = proof_is.0 ∙ cap_is in
    record {
      holds = record { rows = sheet_rows p pool sheet is; finished = refl; claim = subst (λ (cap : ℕ). Proves p sheet.rows cap u) same proves };
      proof = tree_printed p top nodes pool sheet t u is proof_is refuted.tree refuted.few;
      sheet = whole;
    }

rows_kept : (p : DesignProblem) (pool : Pooled) (sheet : Sheet) → IsSheetOf p pool sheet → All (λ row. IsTextLine (row_line row)) sheet.rows
rows_kept p pool sheet is = rows_short p sheet.rows is.problem is.graph (sheet_rows p pool sheet is)

pub impossible_kept : (p : DesignProblem) (top nodes : ℕ) (pool : Pooled) (sheet : Sheet) (t : CapTree)
    (proof undecided : Option CapTree) → IsSheetOf p pool sheet → IsPrintedBy pool sheet (Some t) proof →
    IsPrintedBy pool sheet None undecided → t.cap ≡ greatest_bound p → t.cap ≤ 65535 → nodes ≤ 10000000 →
    IsRefuted p top nodes pool t →
    FitsAnswer (record { verdict = Impossible; costs = None; floor = Absent; rows = sheet.rows; proof = proof; undecided = undecided })
impossible_kept p top nodes pool sheet t None undecided is proof_is undecided_is cap_is small budget refuted = absurd proof_is
impossible_kept p top nodes pool sheet t (Some u) (Some v) is proof_is undecided_is cap_is small budget refuted = absurd undecided_is
impossible_kept p top nodes pool sheet t (Some u) None is proof_is undecided_is cap_is small budget refuted =
    let from : greatest_cost p.low ≤ t.cap = let below = low_below_greatest_bound p is.problem in omega arith in
    answer_kept (record {
      verdict = Impossible;
      costs = None;
      floor = Absent;
      rows = sheet.rows;
      proof = Some u;
      undecided = None;
    }) tt tt tt is.kept.few (rows_kept p pool sheet is)
    (tree_printable p top nodes pool sheet t u is proof_is from small budget refuted.tree refuted.few) tt

-- the printed costs are the costs that were found
gives : (p : DesignProblem) (w : List ℕ) (costs : CostsPart) → IsFit p w → ArePrintedCosts p w costs → GivesCosts p costs.greatest costs
gives p w costs fit printed = record { values = w; names = printed.names; fit = fit; greatest = sym printed.greatest; printed = refl }

floor_shows : (p : DesignProblem) (rows : List Row) (k : ℕ) (floor : Floor) → k ≡ greatest_cost p.low → ShowsFloor p.low floor →
    ShowsLeastGreatest p rows k floor None
floor_shows p rows k Absent is shows = absurd shows
floor_shows p rows k Empty is shows = shows
floor_shows p rows k (Var v) is shows = (shows.0, shows.1 ∙ sym is)

-- costs of the least greatest cost
pub optimal_answered : (p : DesignProblem) (top nodes : ℕ) (pool : Pooled) (sheet : Sheet) (w : List ℕ)
    (costs : CostsPart) (floor : Floor) (kept proof undecided : Option CapTree) → IsSheetOf p pool sheet →
    IsPrintedBy pool sheet kept proof → IsPrintedBy pool sheet None undecided → IsFit p w → ArePrintedCosts p w costs →
    IsFloorFor p kept floor →
    IsKeptAt p top nodes pool (greatest_cost w) kept → IsAnswerSheet p sheet.rows proof undecided →
    IsDesignAnswer p top nodes (record {
      verdict = Optimal costs.greatest;
      costs = Some costs;
      floor = floor;
      rows = sheet.rows;
      proof = proof;
      undecided = undecided;
    })
optimal_answered p top nodes pool sheet w costs floor None (Some u) undecided is proof_is undecided_is fit printed shows holds whole = absurd proof_is
optimal_answered p top nodes pool sheet w costs floor (Some t) None undecided is proof_is undecided_is fit printed shows holds whole = absurd proof_is
optimal_answered p top nodes pool sheet w costs floor None None (Some v) is proof_is undecided_is fit printed shows holds whole = absurd undecided_is
optimal_answered p top nodes pool sheet w costs floor (Some t) (Some u) (Some v) is proof_is undecided_is fit printed shows holds whole = absurd undecided_is
optimal_answered p top nodes pool sheet w costs floor None None None is proof_is undecided_is fit printed shows holds whole = record {
  holds = record {
    rows = sheet_rows p pool sheet is;
    finished = refl;
    claim = (gives p w costs fit printed, floor_shows p sheet.rows costs.greatest floor (printed.greatest ∙ holds) shows);
  };
  proof = tt;
  sheet = whole;
}
optimal_answered p top nodes pool sheet w costs floor (Some t) (Some u) None is proof_is undecided_is fit printed shows holds whole =
    let next : u.cap + 1 ≡ costs.greatest = omega (arith, proof_is.0, holds.0, printed.greatest) in
    let proves = tree_proves p top nodes pool sheet t u is proof_is holds.1 holds.2 in
    record {
      holds = record {
        rows = sheet_rows p pool sheet is;
        finished = refl;
        claim = (
          gives p w costs fit printed,
          subst (λ (f : Floor). ShowsLeastGreatest p sheet.rows costs.greatest f (Some u)) (sym shows)
              (u.cap, next, proves),
        );
      };
      proof = tree_printed p top nodes pool sheet t u is proof_is holds.2.tree holds.2.few;
      sheet = whole;
    }

floor_fits : (p : DesignProblem) (kept : Option CapTree) (floor : Floor) → IsProblem p → IsFloorFor p kept floor → FitsFloor floor
floor_fits p None Absent problem shows = tt
floor_fits p None Empty problem shows = tt
floor_fits p None (Var v) problem shows = omega (arith, problem.var_count, shows.0)
floor_fits p (Some t) floor problem shows = subst FitsFloor (sym shows) tt

kept_printable : (p : DesignProblem) (top nodes : ℕ) (pool : Pooled) (sheet : Sheet) (cap : ℕ)
    (kept proof : Option CapTree) → IsSheetOf p pool sheet → IsPrintedBy pool sheet kept proof →
    IsTreeKeptBelow p top nodes pool cap kept → cap ≤ 65535 → nodes ≤ 10000000 → CanPrintTree proof
kept_printable p top nodes pool sheet cap None None is proof_is holds small budget = tt
kept_printable p top nodes pool sheet cap None (Some u) is proof_is holds small budget = absurd proof_is
kept_printable p top nodes pool sheet cap (Some t) None is proof_is holds small budget = absurd proof_is
kept_printable p top nodes pool sheet cap (Some t) (Some u) is proof_is holds small budget =
    tree_printable p top nodes pool sheet t u is proof_is holds.1 (omega (arith, holds.0)) budget holds.2.tree holds.2.few

-- a tree at the cap below is one at a cap below
pub kept_below : (p : DesignProblem) (top nodes : ℕ) (pool : Pooled) (least cap : ℕ) (kept : Option CapTree) →
    least ≤ cap → IsKeptAt p top nodes pool least kept → IsTreeKeptBelow p top nodes pool cap kept
kept_below p top nodes pool least cap None small holds = tt
kept_below p top nodes pool least cap (Some t) small holds = (omega (arith, holds.0), holds.1, holds.2)

none_printable : (pool : Pooled) (sheet : Sheet) (undecided : Option CapTree) → IsPrintedBy pool sheet None undecided → CanPrintTree undecided
none_printable pool sheet None is = tt
none_printable pool sheet (Some v) is = absurd is

pub optimal_kept : (p : DesignProblem) (top nodes : ℕ) (pool : Pooled) (sheet : Sheet) (w : List ℕ) (costs : CostsPart)
    (floor : Floor) (kept proof undecided : Option CapTree) → IsSheetOf p pool sheet →
    IsPrintedBy pool sheet kept proof → IsPrintedBy pool sheet None undecided → ArePrintedCosts p w costs →
    IsFloorFor p kept floor → nodes ≤ 10000000 →
    IsKeptAt p top nodes pool (greatest_cost w) kept →
    FitsAnswer (record { verdict = Optimal costs.greatest; costs = Some costs; floor = floor; rows = sheet.rows; proof = proof; undecided = undecided })
optimal_kept p top nodes pool sheet w costs floor kept proof undecided is proof_is undecided_is printed shows budget holds =
    answer_kept (record {
      verdict = Optimal costs.greatest;
      costs = Some costs;
      floor = floor;
      rows = sheet.rows;
      proof = proof;
      undecided = undecided;
    }) printed.small (printed.named, printed.small)
    (floor_fits p kept floor is.problem shows) is.kept.few (rows_kept p pool sheet is)
    (kept_printable p top nodes pool sheet (greatest_cost w) kept proof is proof_is
    (kept_below p top nodes pool (greatest_cost w) (greatest_cost w) kept (omega arith) holds)
    (omega (arith, printed.greatest, printed.small)) budget)
    (none_printable pool sheet undecided undecided_is)

undecided_at : (p : DesignProblem) (top nodes : ℕ) (pool : Pooled) (sheet : Sheet) (t : CapTree)
    (undecided : Option CapTree) → IsSheetOf p pool sheet → IsPrintedBy pool sheet (Some t) undecided →
    IsUndecidedAt p top nodes pool t → UndecidedAt p top nodes sheet.rows t.cap undecided
undecided_at p top nodes pool sheet t None is copy used_up = absurd copy
undecided_at p top nodes pool sheet t (Some u) is copy used_up = (
  copy.0,
  copy_used_up (LeadsEach p) (IsFormOfRow p) top nodes (form_of_row p) (capped (box_of p) u.cap) sheet.named pool.rows
      sheet.rows t.tree u.tree copy.1 (true_forms p pool.rows is.is_pool.rows)
      (at_new_cap p top pool t u copy.0 used_up.tree) used_up.undone used_up.used_up,
)

proof_below : (p : DesignProblem) (top nodes : ℕ) (pool : Pooled) (sheet : Sheet) (cap : ℕ)
    (kept proof : Option CapTree) → IsSheetOf p pool sheet → IsPrintedBy pool sheet kept proof →
    IsTreeKeptBelow p top nodes pool cap kept → ProofIsBelow p sheet.rows cap proof
proof_below p top nodes pool sheet cap None None is proof_is holds = tt
proof_below p top nodes pool sheet cap None (Some u) is proof_is holds = absurd proof_is
proof_below p top nodes pool sheet cap (Some t) None is proof_is holds = absurd proof_is
proof_below p top nodes pool sheet cap (Some t) (Some u) is proof_is holds =
    (tree_proves p top nodes pool sheet t u is proof_is holds.1 holds.2, omega (arith, proof_is.0, holds.0))

proof_printed : (p : DesignProblem) (top nodes : ℕ) (pool : Pooled) (sheet : Sheet) (cap : ℕ)
    (kept proof : Option CapTree) → IsSheetOf p pool sheet → IsPrintedBy pool sheet kept proof →
    IsTreeKeptBelow p top nodes pool cap kept → ProofIsPrinted p top nodes sheet.rows proof
proof_printed p top nodes pool sheet cap None None is proof_is holds = tt
proof_printed p top nodes pool sheet cap None (Some u) is proof_is holds = absurd proof_is
proof_printed p top nodes pool sheet cap (Some t) None is proof_is holds = absurd proof_is
proof_printed p top nodes pool sheet cap (Some t) (Some u) is proof_is holds = tree_printed p top nodes pool sheet t u is proof_is holds.2.tree holds.2.few

costs_above : (p : DesignProblem) (cap : ℕ) (found : Option (List ℕ)) (costs : Option CostsPart) →
    CostsFound p cap found → ArePrintedIfAny p found costs → CostsAreAbove p cap costs
costs_above p cap None None holds printed = holds
costs_above p cap None (Some costs) holds printed = absurd printed
costs_above p cap (Some w) None holds printed = absurd printed
costs_above p cap (Some w) (Some costs) holds printed = (gives p w costs holds.0 printed, omega (arith, holds.1, printed.greatest))

-- the budget was used up
pub undecided_answered : (p : DesignProblem) (top nodes : ℕ) (pool : Pooled) (sheet : Sheet) (found : Option (List ℕ))
    (costs : Option CostsPart) (kept proof : Option CapTree) (t : CapTree) (undecided : Option CapTree) →
    IsSheetOf p pool sheet → IsPrintedBy pool sheet kept proof → IsPrintedBy pool sheet (Some t) undecided →
    greatest_cost p.low ≤ t.cap →
    CostsFound p t.cap found → ArePrintedIfAny p found costs → IsTreeKeptBelow p top nodes pool t.cap kept → IsUndecidedAt p top nodes pool t →
    IsAnswerSheet p sheet.rows proof undecided →
    IsDesignAnswer p top nodes (record { verdict = Undecided t.cap; costs = costs; floor = Absent; rows = sheet.rows; proof = proof; undecided = undecided })
undecided_answered p top nodes pool sheet found costs kept proof t undecided is proof_is undecided_is from holds printed below used_up whole = record {
  holds = record {
    rows = sheet_rows p pool sheet is;
    no_floor = refl;
    no_higher = no_low_above p.low t.cap from;
    undecided = undecided_at p top nodes pool sheet t undecided is undecided_is used_up;
    proof = proof_below p top nodes pool sheet t.cap kept proof is proof_is below;
    costs = costs_above p t.cap found costs holds printed;
  };
  proof = proof_printed p top nodes pool sheet t.cap kept proof is proof_is below;
  sheet = whole;
}

costs_printable : (p : DesignProblem) (found : Option (List ℕ)) (costs : Option CostsPart) → ArePrintedIfAny p found costs → CanPrintCosts costs
costs_printable p None None printed = tt
costs_printable p None (Some costs) printed = absurd printed
costs_printable p (Some w) None printed = absurd printed
costs_printable p (Some w) (Some costs) printed = (printed.named, printed.small)

used_up_printable : (p : DesignProblem) (top nodes : ℕ) (pool : Pooled) (sheet : Sheet) (t : CapTree)
    (undecided : Option CapTree) → IsSheetOf p pool sheet → IsPrintedBy pool sheet (Some t) undecided →
    greatest_cost p.low ≤ t.cap → t.cap ≤ 65535 → nodes ≤ 10000000 → IsUndecidedAt p top nodes pool t →
    CanPrintTree undecided
used_up_printable p top nodes pool sheet t None is copy from small budget used_up = absurd copy
used_up_printable p top nodes pool sheet t (Some u) is copy from small budget used_up =
    tree_printable p top nodes pool sheet t u is copy from small budget used_up.tree (omega (arith, used_up.used_up))

pub undecided_kept : (p : DesignProblem) (top nodes : ℕ) (pool : Pooled) (sheet : Sheet) (found : Option (List ℕ))
    (costs : Option CostsPart) (kept proof : Option CapTree) (t : CapTree) (undecided : Option CapTree) →
    IsSheetOf p pool sheet → IsPrintedBy pool sheet kept proof → IsPrintedBy pool sheet (Some t) undecided →
    greatest_cost p.low ≤ t.cap → t.cap ≤ 65535 → nodes ≤ 10000000 →
    ArePrintedIfAny p found costs → IsTreeKeptBelow p top nodes pool t.cap kept → IsUndecidedAt p top nodes pool t →
    FitsAnswer (record { verdict = Undecided t.cap; costs = costs; floor = Absent; rows = sheet.rows; proof = proof; undecided = undecided })
undecided_kept p top nodes pool sheet found costs kept proof t undecided is proof_is undecided_is from small budget printed below used_up =
    answer_kept (record {
      verdict = Undecided t.cap;
      costs = costs;
      floor = Absent;
      rows = sheet.rows;
      proof = proof;
      undecided = undecided;
    }) small (costs_printable p found costs printed) tt is.kept.few
    (rows_kept p pool sheet is)
    (kept_printable p top nodes pool sheet t.cap kept proof is proof_is below small budget)
    (used_up_printable p top nodes pool sheet t undecided is undecided_is from small budget used_up)
