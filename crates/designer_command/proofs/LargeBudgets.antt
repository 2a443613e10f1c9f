-- A budget of about twice as many entries as there are points can't be used up.
use Rattle.std.proofs.Common.{◌≡◌, ℕ, suc, ◌+◌, ◌-◌, ◌<◌, ◌≤◌, sym, ◌∙◌, ap, subst, arith, List, [], ◌∷◌, length, map}
use Rattle.std.specs.Prelude.{slice_index, min, All, Contains, Option, None, Some}
use Rattle.std.proofs.lemmas.List.{length-map, get_or-map}
use Rattle.design_problem.specs.declared.form.Form.{Form}
use Rattle.design_problem.specs.declared.tree.Entry.{Entry}
use Rattle.design_problem.specs.declared.tree.Entry.TheVariants.{Undone}
use Rattle.design_problem.specs.Problems.{DesignProblem, IsProblem}
use Rattle.design_problem.specs.Boxes.{capped, points, points_of}
use Rattle.design_problem.specs.Rows.{box_of, forms_of_rows, greatest_cost}
use Rattle.design_problem.specs.Trees.{IsSoundTree, entry_count}
use Rattle.design_problem.specs.Answers.{greatest_bound}
use Rattle.design_problem.proofs.ProblemTrees.{le_greatest}
use Rattle.design_problem.proofs.TreeShapes.{few_entries}
use Rattle.printed_rows.proofs.CapBoxes.{capped_box}
use Rattle.wide_fraction.specs.SearchLimits.{SearchLimits}
use Rattle.least_conflict.proofs.LargeBudgets.{large_suffice as conflict_large}
use Rattle.spread_sets.proofs.PrintedSets.{large_suffice as spread_large}
use Rattle.least_total.specs.Totals.{forms_within}
use Rattle.least_total.proofs.RoundLaws.{lows_below}
use Rattle.cost_base.specs.Histories.{Taken}
use Rattle.set_reader.specs.FaultNumbers.{set_fault_number}
use Rattle.set_reader.specs.Reading.{set_fault}
use Rattle.input_files.specs.declared.problem.View.TheVariants.{AsRequested}
use Rattle.input_files.specs.Inputs.{InputFiles}
use Rattle.input_files.specs.Readings.{EndsAs, Says, line_refused}
use Rattle.input_files.specs.Outcomes.{Input, outcome}
use Rattle.input_files.proofs.Readings.{said_unless, was_read}
use Rattle.input_files.proofs.ReadyInputs.{came_whole, ready_is}
use Rattle.least_change.proofs.InBoxes.{product_le}
use Rattle.path_commands.specs.SetFiles.{Sharing, sets_said, sets_read, spread_read}
use Rattle.designer_command.specs.Completeness.{IsLarge, LargeBudgetIsSufficient, LargeBudgetsSuffice}

-- higher ends, more points
points_of-le : (ls hs ks : List ℕ) → length hs ≡ length ks → ((k : ℕ) → k < length hs → slice_index hs k ≤ slice_index ks k) → points_of ls hs ≤ points_of ls ks
points_of-le [] hs ks same below = omega arith
points_of-le (l ∷ ls) [] [] same below = omega arith
points_of-le (l ∷ ls) [] (k ∷ ks) same below = absurd (omega arith)
points_of-le (l ∷ ls) (h ∷ hs) [] same below = absurd (omega arith)
points_of-le (l ∷ ls) (h ∷ hs) (k ∷ ks) same below =
    let here : h ≤ k = below 0 (omega arith) in
    product_le (h + 1 - l) (k + 1 - l) (points_of ls hs) (points_of ls ks) (omega arith)
    (points_of-le ls hs ks (omega arith) (λ i within. below (suc i) (omega arith)))

-- a cap cuts none of the ends where it is their greatest
pub capped-le : (p : DesignProblem) (cap : ℕ) → points (capped (box_of p) cap) ≤ points (capped (box_of p) (greatest_bound p))
capped-le p cap =
    points_of-le p.low (map (λ h. min h cap) p.high) (map (λ h. min h (greatest_bound p)) p.high)
    (length-map p.high (λ h. min h cap) ∙ sym (length-map p.high (λ h. min h (greatest_bound p))))
    (λ k within.
    let inside : k < length p.high = omega (arith, length-map p.high (λ h. min h cap)) in
    let one = get_or-map (λ h. min h cap) p.high k 0 0 inside in
    let other = get_or-map (λ h. min h (greatest_bound p)) p.high k 0 0 inside in
    let most : slice_index p.high k ≤ greatest_bound p = le_greatest p.high k inside in
    omega arith)

-- no tree over the box at such a cap has an undone entry and exactly as many entries
never_used_up : (limits : SearchLimits) (p : DesignProblem) (cap : ℕ) (forms : List Form) (tree : List Entry) → IsProblem p →
    IsLarge limits p → All (λ low. low ≤ cap) p.low → IsSoundTree forms (capped (box_of p) cap) tree → Contains tree Undone →
    entry_count tree ≡ limits.nodes → ⊥
never_used_up limits p cap forms tree kept large no_higher sound undone used_up =
    let few = (few_entries (length p.low) forms (capped (box_of p) cap) tree (capped_box p cap kept no_higher) sound).undecided undone in
    omega (arith, few, large, used_up, capped-le p cap)

-- for a problem a large budget is enough
enough : (limits : SearchLimits) (p : DesignProblem) → IsProblem p → IsLarge limits p → LargeBudgetIsSufficient limits p
enough limits p kept large = record {
  design = λ cap rows tree no_higher true_rows earnest undone used_up.
      never_used_up limits p cap (forms_of_rows p rows) tree kept large no_higher earnest.sound undone used_up;
  conflict = conflict_large p limits.top limits.nodes kept large;
  spread = λ sets. spread_large p sets limits.top limits.nodes kept large;
  total = λ w bound rows tree best true_rows earnest undone used_up.
      never_used_up limits p (greatest_cost w) (forms_within p bound rows) tree kept large (lows_below p w best.fit) earnest.sound undone used_up;
}

-- the input that is read before a file of sets
sharing_of : (file : List ℕ) (d : Input) (came : List Taken) (sharing : Sharing) → EndsAs (sets_read file d) came (Says sharing) → sharing.input ≡ d
sharing_of file d [] sharing is = absurd is
sharing_of file d (taken ∷ more) sharing is =
    came_whole taken.came (λ bytes. sets_said file d bytes) more sharing file is.2
    (λ bytes ends. ap (λ (s : Sharing). s.input)
    (said_unless (line_refused set_fault_number file) (record { input = d; bytes = bytes }) sharing (set_fault d.problem bytes) more ends).1)

sharing_kept : (names : InputFiles) (file : List ℕ) (came : List Taken) (sharing : Sharing) →
    EndsAs (spread_read names file) came (Says sharing) → IsProblem sharing.input.problem
sharing_kept names file came sharing is =
    let read = was_read (outcome AsRequested names) (sets_read file) came sharing is in
    subst (λ (d : Input). IsProblem d.problem) (sym (sharing_of file read.value read.later sharing read.then_said))
    (ready_is names read.value read.first read.said).kept

pub large_suffice : LargeBudgetsSuffice
large_suffice = (
  λ limits names came d ends large. enough limits d.problem (ready_is names d came ends).kept large,
  λ limits names file came sharing ends large.
      λ sets said. (enough limits sharing.input.problem (sharing_kept names file came sharing ends) large).spread sets,
)
