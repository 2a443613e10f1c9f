-- A tree that is gone through line by line, with the box of the next line and those that wait behind it.
use Rattle.std.proofs.Common.{◌≡◌, ℕ, suc, ◌+◌, refl, sym, ◌∙◌, ap, subst, List, [], ◌∷◌, ◌++◌, length, length-set, arith, inl, inr}
use Rattle.std.specs.Prelude.{false, Result, IfErr, All}
use Rattle.std.proofs.lemmas.List.Elements.{All-nil, All-cons, All-head, All-tail, All-append, All-same}
use Rattle.design_problem.specs.declared.tree.Side.TheVariants.{Low, High}
use Rattle.design_problem.specs.Boxes.{with_low, with_high}
use Rattle.evidence_checker.specs.declared.fault.CheckFault.{CheckFault}
use Rattle.cost_base.specs.Order.{FirstOf}
use Rattle.cost_base.specs.declared.refusal.Refusal.{Refusal}
use Rattle.design_problem.specs.Forms.{Form}
use Rattle.design_problem.specs.declared.boxes.CostBox.{CostBox}
use Rattle.design_problem.specs.declared.tree.Entry.{Entry}
use Rattle.design_problem.specs.declared.tree.Entry.TheVariants.{Tighten, Split, Halve, Refute, Undone}
use Rattle.design_problem.specs.Trees.{Sound, SoundAt, IsClosed, AreSeveralTrees, subboxes, subtree_count, is_undone}
use Rattle.evidence_checker.specs.Refusals.{FailedTest, StopsBy}
use Rattle.evidence_checker.specs.Tests.{line_tests, AtFirstLine}
use Rattle.evidence_checker.proofs.LineLaws.{sound_fails_none}

-- what is left tells of the whole tree: where it is sound, and its first line that fails a test
pub record Walks (forms : List Form) (start : List CostBox) (whole : List Entry) (box : CostBox) (boxes : List CostBox)
    (place : ℕ) (rest : List Entry) : Type 0 where
  pub sound : Sound forms (box ∷ boxes) rest → Sound forms start whole
  pub closed : IsClosed rest → IsClosed whole
  pub first : (f : FailedTest) → AtFirstLine forms (box ∷ boxes) place rest f → AtFirstLine forms start 0 whole f
  pub trees : AreSeveralTrees (suc (length boxes)) rest

pub walk_begins : (forms : List Form) (box : CostBox) (whole : List Entry) → AreSeveralTrees 1 whole → Walks forms (box ∷ []) whole box [] 0 whole
walk_begins forms box whole trees = record { sound = λ s. s; closed = λ c. c; first = λ f failed. failed; trees = trees }

subbox_count : (box : CostBox) (entry : Entry) (boxes : List CostBox) → length (subboxes box entry ++ boxes) ≡ subtree_count entry + length boxes
subbox_count box (Tighten var side value row) boxes = omega arith
subbox_count box (Split var value) boxes = omega arith
subbox_count box (Halve var value wide) boxes = omega arith
subbox_count box (Refute parts) boxes = omega arith
subbox_count box Undone boxes = omega arith

-- a line that is sound at its box, and the next box
pub walk_goes_on : (forms : List Form) (start : List CostBox) (whole : List Entry) (box : CostBox)
    (boxes : List CostBox) (place : ℕ) (entry : Entry) (rest : List Entry) (next : CostBox) (others : List CostBox) →
    Walks forms start whole box boxes place (entry ∷ rest) → SoundAt forms box entry → is_undone entry ≡ false →
    subboxes box entry ++ boxes ≡ next ∷ others → Walks forms start whole next others (place + 1) rest
walk_goes_on forms start whole box boxes place entry rest next others walks here closed e = record {
  sound = λ s. walks.sound (here, subst (λ (bs : List CostBox). Sound forms bs rest) (sym e) s);
  closed = λ c. walks.closed (closed, c);
  first = λ f failed. walks.first f
      (inr (
        sound_fails_none forms box entry here closed,
        subst (λ (bs : List CostBox). AtFirstLine forms bs (place + 1) rest f) (sym e) failed,
      ));
  trees = subst (λ (n : ℕ). AreSeveralTrees n rest) (sym (subbox_count box entry boxes) ∙ ap length e) walks.trees;
}

nothing_left : (rest : List Entry) → AreSeveralTrees 0 rest → rest ≡ []
nothing_left [] trees = refl
nothing_left (entry ∷ rest) trees = absurd trees

-- the last line
pub walk_ends : (forms : List Form) (start : List CostBox) (whole : List Entry) (box : CostBox) (boxes : List CostBox)
    (place : ℕ) (entry : Entry) (rest : List Entry) → Walks forms start whole box boxes place (entry ∷ rest) →
    SoundAt forms box entry → is_undone entry ≡ false → subboxes box entry ++ boxes ≡ [] →
    Sound forms start whole × IsClosed whole
walk_ends forms start whole box boxes place entry rest walks here closed e =
    let last = nothing_left rest (subst (λ (n : ℕ). AreSeveralTrees n rest) (sym (subbox_count box entry boxes) ∙ ap length e) walks.trees) in (
      walks.sound (here, subst (λ (bs : List CostBox). Sound forms bs rest) (sym e) (subst (λ (es : List Entry). Sound forms [] es) (sym last) tt)),
      walks.closed (closed, subst IsClosed (sym last) tt),
    )

-- a line that fails a test
pub walk_stops : (forms : List Form) (start : List CostBox) (whole : List Entry) (box : CostBox) (boxes : List CostBox)
    (place : ℕ) (entry : Entry) (rest : List Entry) (number : ℕ) →
    Walks forms start whole box boxes place (entry ∷ rest) → FirstOf (line_tests forms box entry) number →
    AtFirstLine forms start 0 whole (record { number = number; place = place })
walk_stops forms start whole box boxes place entry rest number walks failed = walks.first (record { number = number; place = place }) (inl (refl, failed))

-- what a tree's first line with a test is, at a box by its ends
abbrev pub StopsTree : List Form → CostBox → List Entry → Refusal CheckFault ℕ → Type 0
StopsTree forms box tree = StopsBy (AtFirstLine forms (box ∷ []) 0 tree ∷ [])

pub stop_moved : {T : Type 0} (r : Result T (Refusal CheckFault ℕ)) (forms : List Form) (here there : CostBox)
    (tree whole : List Entry) → here ≡ there → tree ≡ whole → IfErr r (StopsTree forms here tree) →
    IfErr r (StopsTree forms there whole)
stop_moved r forms here there tree whole boxes trees stops =
    subst (λ (es : List Entry). IfErr r (StopsTree forms there es)) trees
    (subst (λ (box : CostBox). IfErr r (StopsTree forms box tree)) boxes stops)

-- each open box has a lower end for each of n variables
abbrev pub HaveEnds : ℕ → List CostBox → Type 0
HaveEnds n boxes = All (λ box. length box.low ≡ n) boxes

both : (n : ℕ) (a b : CostBox) → length a.low ≡ n → length b.low ≡ n → HaveEnds n (a ∷ b ∷ [])
both n a b first second = All-cons (λ (box : CostBox). length box.low ≡ n) a (b ∷ []) first
    (All-cons (λ (box : CostBox). length box.low ≡ n) b [] second (All-nil (λ (box : CostBox). length box.low ≡ n)))

parts_have_ends : (n : ℕ) (box : CostBox) (entry : Entry) → length box.low ≡ n → HaveEnds n (subboxes box entry)
parts_have_ends n box (Tighten var Low value row) count =
    All-cons (λ (b : CostBox). length b.low ≡ n) (with_low box var value) [] (length-set box.low var value ∙ count)
    (All-nil (λ (b : CostBox). length b.low ≡ n))
parts_have_ends n box (Tighten var High value row) count =
    All-cons (λ (b : CostBox). length b.low ≡ n) (with_high box var value) [] count
    (All-nil (λ (b : CostBox). length b.low ≡ n))
parts_have_ends n box (Split var value) count =
    both n (with_high box var value) (with_low box var (value + 1)) count (length-set box.low var (value + 1) ∙ count)
parts_have_ends n box (Halve var value wide) count =
    both n (with_high box var value) (with_low box var (value + 1)) count (length-set box.low var (value + 1) ∙ count)
parts_have_ends n box (Refute parts) count = All-nil (λ (b : CostBox). length b.low ≡ n)
parts_have_ends n box Undone count = All-nil (λ (b : CostBox). length b.low ≡ n)

pub next_have_ends : (n : ℕ) (box : CostBox) (boxes : List CostBox) (entry : Entry) (next : CostBox)
    (others : List CostBox) → HaveEnds n (box ∷ boxes) → subboxes box entry ++ boxes ≡ next ∷ others →
    HaveEnds n (next ∷ others)
next_have_ends n box boxes entry next others have e =
    All-same (λ (b : CostBox). length b.low ≡ n) (next ∷ others) (subboxes box entry ++ boxes) (sym e)
    (All-append (λ (b : CostBox). length b.low ≡ n) (subboxes box entry) boxes
    (parts_have_ends n box entry (All-head (λ (b : CostBox). length b.low ≡ n) box boxes have))
    (All-tail (λ (b : CostBox). length b.low ≡ n) box boxes have))
