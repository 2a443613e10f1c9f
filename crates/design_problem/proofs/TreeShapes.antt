-- Lists of entries as whole trees.
use Rattle.std.proofs.Common.{◌≡◌, ℕ, zero, suc, ◌+◌, ◌<◌, refl, sym, ◌∙◌, ap, subst, List, [], ◌∷◌, ◌++◌, append-nil, append_assoc, length, arith, ◌↔◌}
use Rattle.std.specs.Prelude.{Contains, slice_index_or}
use Rattle.design_problem.specs.declared.form.Form.{Form}
use Rattle.design_problem.specs.declared.boxes.CostBox.{CostBox}
use Rattle.design_problem.specs.declared.tree.Entry.{Entry}
use Rattle.design_problem.specs.declared.tree.Entry.TheVariants.{Tighten, Split, Halve, Refute, Undone}
use Rattle.design_problem.specs.Boxes.{IsBox, with_low, with_high}
use Rattle.design_problem.specs.Trees.{Sound, IsSoundTree, AreSeveralTrees, IsSingleTree, subtree_count, tightened}
use Rattle.design_problem.specs.BranchingTrees.{BranchingTree, tighten, split, halve, refute, undone, preorder}
use Rattle.design_problem.specs.ProblemLaws.{IsPreorder, HasFewEntries}
use Rattle.design_problem.proofs.CaseTrees.{preorders}
use Rattle.design_problem.proofs.TreeCounts.{undone_mark, tree_entries-le}

as_many : (n m : ℕ) (entries : List Entry) → n ≡ m → AreSeveralTrees n entries → AreSeveralTrees m entries
as_many n m entries e whole = subst (λ (k : ℕ). AreSeveralTrees k entries) e whole

-- entries that are sound over open boxes are as many whole trees
pub whole_from_sound : (forms : List Form) (boxes : List CostBox) (entries : List Entry) → Sound forms boxes entries → AreSeveralTrees (length boxes) entries
whole_from_sound forms [] [] sound = tt
whole_from_sound forms (box ∷ boxes) [] sound = absurd sound
whole_from_sound forms [] (entry ∷ entries) sound = absurd sound
whole_from_sound forms (box ∷ boxes) (Tighten i side v row ∷ entries) sound =
    as_many (suc (length boxes)) (1 + length boxes) entries (omega arith) (whole_from_sound forms (tightened box side i v ∷ boxes) entries sound.1)
whole_from_sound forms (box ∷ boxes) (Split i v ∷ entries) sound =
    as_many (suc (suc (length boxes))) (2 + length boxes) entries (omega arith)
    (whole_from_sound forms (with_high box i v ∷ with_low box i (v + 1) ∷ boxes) entries sound.1)
whole_from_sound forms (box ∷ boxes) (Halve i v wide ∷ entries) sound =
    as_many (suc (suc (length boxes))) (2 + length boxes) entries (omega arith)
    (whole_from_sound forms (with_high box i v ∷ with_low box i (v + 1) ∷ boxes) entries sound.1)
whole_from_sound forms (box ∷ boxes) (Refute parts ∷ entries) sound =
    as_many (length boxes) (0 + length boxes) entries (omega arith) (whole_from_sound forms boxes entries sound.1)
whole_from_sound forms (box ∷ boxes) (Undone ∷ entries) sound =
    as_many (length boxes) (0 + length boxes) entries (omega arith) (whole_from_sound forms boxes entries sound.1)

-- a sound tree's entries are one whole tree
pub sound_whole : (forms : List Form) (box : CostBox) (tree : List Entry) → IsSoundTree forms box tree → IsSingleTree tree
sound_whole forms box tree sound = whole_from_sound forms (box ∷ []) tree sound

-- a tree's preorder, and then some whole trees, are one more whole tree
pub whole_preorder : (t : BranchingTree) (n : ℕ) (rest : List Entry) → AreSeveralTrees n rest → AreSeveralTrees (suc n) (preorder t ++ rest)
whole_preorder (tighten i side v row t) n rest whole = as_many (suc n) (1 + n) (preorder t ++ rest) (omega arith) (whole_preorder t n rest whole)
whole_preorder (split i v t u) n rest whole =
    subst (λ (es : List Entry). AreSeveralTrees (2 + n) es) (sym (append_assoc (preorder t) (preorder u) rest))
    (as_many (suc (suc n)) (2 + n) (preorder t ++ (preorder u ++ rest)) (omega arith)
    (whole_preorder t (suc n) (preorder u ++ rest) (whole_preorder u n rest whole)))
whole_preorder (halve i v wide t u) n rest whole =
    subst (λ (es : List Entry). AreSeveralTrees (2 + n) es) (sym (append_assoc (preorder t) (preorder u) rest))
    (as_many (suc (suc n)) (2 + n) (preorder t ++ (preorder u ++ rest)) (omega arith)
    (whole_preorder t (suc n) (preorder u ++ rest) (whole_preorder u n rest whole)))
whole_preorder (refute parts) n rest whole = as_many n (0 + n) rest (omega arith) whole
whole_preorder undone n rest whole = as_many n (0 + n) rest (omega arith) whole

-- so many trees, whose preorders are the entries
record Trees (n : ℕ) (entries : List Entry) : Type 0 where
  trees : List BranchingTree
  same : preorders trees ≡ entries
  count : length trees ≡ n

one_under : (n : ℕ) (entry : Entry) (entries : List Entry) (build : BranchingTree → BranchingTree) →
    ((t : BranchingTree) → preorder (build t) ≡ entry ∷ preorder t) → Trees (1 + n) entries → Trees (suc n) (entry ∷ entries)
one_under n entry entries build heads found = go found.trees found.same found.count
  where
    go : (ts : List BranchingTree) → preorders ts ≡ entries → length ts ≡ 1 + n → Trees (suc n) (entry ∷ entries)
    go [] same count = absurd (omega arith)
    go (t ∷ ts) same count = record {
      trees = build t ∷ ts;
      same = ap (λ es. es ++ preorders ts) (heads t) ∙ ap (λ es. entry ∷ es) same;
      count = omega arith;
    }

two_under : (n : ℕ) (entry : Entry) (entries : List Entry) (build : BranchingTree → BranchingTree → BranchingTree) →
    ((t u : BranchingTree) → preorder (build t u) ≡ entry ∷ (preorder t ++ preorder u)) → Trees (2 + n) entries →
    Trees (suc n) (entry ∷ entries)
two_under n entry entries build heads found = go found.trees found.same found.count
  where
    go : (ts : List BranchingTree) → preorders ts ≡ entries → length ts ≡ 2 + n → Trees (suc n) (entry ∷ entries)
    go [] same count = absurd (omega arith)
    go (t ∷ []) same count = absurd (omega arith)
    go (t ∷ u ∷ ts) same count = record {
      trees = build t u ∷ ts;
      same = ap (λ es. es ++ preorders ts) (heads t u) ∙ ap (λ es. entry ∷ es) (append_assoc (preorder t) (preorder u) (preorders ts) ∙ same);
      count = omega arith;
    }

none_under : (n : ℕ) (entry : Entry) (entries : List Entry) (leaf : BranchingTree) → preorder leaf ≡ entry ∷ [] →
    Trees (0 + n) entries → Trees (suc n) (entry ∷ entries)
none_under n entry entries leaf head found = record {
  trees = leaf ∷ found.trees;
  same = ap (λ es. es ++ preorders found.trees) head ∙ ap (λ es. entry ∷ es) found.same;
  count = omega (arith, found.count);
}

trees_from_whole : (n : ℕ) (entries : List Entry) → AreSeveralTrees n entries → Trees n entries
trees_from_whole zero [] whole = record { trees = []; same = refl; count = refl }
trees_from_whole (suc n) [] whole = absurd whole
trees_from_whole zero (entry ∷ entries) whole = absurd whole
trees_from_whole (suc n) (Tighten i side v row ∷ entries) whole =
    one_under n (Tighten i side v row) entries (tighten i side v row) (λ t. refl)
    (trees_from_whole (1 + n) entries whole)
trees_from_whole (suc n) (Split i v ∷ entries) whole = two_under n (Split i v) entries (split i v) (λ t u. refl) (trees_from_whole (2 + n) entries whole)
trees_from_whole (suc n) (Halve i v wide ∷ entries) whole =
    two_under n (Halve i v wide) entries (halve i v wide) (λ t u. refl) (trees_from_whole (2 + n) entries whole)
trees_from_whole (suc n) (Refute parts ∷ entries) whole = none_under n (Refute parts) entries (refute parts) refl (trees_from_whole (0 + n) entries whole)
trees_from_whole (suc n) (Undone ∷ entries) whole = none_under n Undone entries undone refl (trees_from_whole (0 + n) entries whole)

-- a list is one whole tree exactly where it is the preorder of a tree
pub whole-iff : (entries : List Entry) → IsSingleTree entries ↔ IsPreorder entries
whole-iff entries = (
  λ whole. let found = trees_from_whole 1 entries whole in go found.trees found.same found.count,
  λ order. subst (λ (es : List Entry). AreSeveralTrees 1 es) (append-nil (preorder order.tree) ∙ order.same) (whole_preorder order.tree 0 [] tt),
)
  where
    go : (ts : List BranchingTree) → preorders ts ≡ entries → length ts ≡ 1 → IsPreorder entries
    go [] same count = absurd (omega arith)
    go (t ∷ []) same count = record { tree = t; same = sym (append-nil (preorder t)) ∙ same }
    go (t ∷ u ∷ ts) same count = absurd (omega arith)

-- no whole trees go on
pub whole_end : (n : ℕ) (entries more : List Entry) → AreSeveralTrees n entries → AreSeveralTrees n (entries ++ more) → more ≡ []
whole_end zero [] [] whole longer = refl
whole_end zero [] (e ∷ more) whole longer = absurd longer
whole_end (suc n) [] more whole longer = absurd whole
whole_end zero (e ∷ entries) more whole longer = absurd whole
whole_end (suc n) (e ∷ entries) more whole longer = whole_end (subtree_count e + n) entries more whole longer

-- an Undone of the list is counted
marked : (entries : List Entry) (k : ℕ) → k < length entries → slice_index_or entries k Undone ≡ Undone → undone_mark entries ≡ 1
marked [] k k_in same = absurd (omega arith)
marked (Undone ∷ entries) k k_in same = refl
marked (Tighten i side v row ∷ entries) zero k_in same = cc
marked (Tighten i side v row ∷ entries) (suc k) k_in same = marked entries k (omega arith) same
marked (Split i v ∷ entries) zero k_in same = cc
marked (Split i v ∷ entries) (suc k) k_in same = marked entries k (omega arith) same
marked (Halve i v wide ∷ entries) zero k_in same = cc
marked (Halve i v wide ∷ entries) (suc k) k_in same = marked entries k (omega arith) same
marked (Refute parts ∷ entries) zero k_in same = cc
marked (Refute parts ∷ entries) (suc k) k_in same = marked entries k (omega arith) same

pub has_mark : (entries : List Entry) → Contains entries Undone → undone_mark entries ≡ 1
has_mark entries has = marked entries has.0 has.1 has.2

-- a sound tree has few entries
pub few_entries : (n : ℕ) (forms : List Form) (box : CostBox) (tree : List Entry) → IsBox n box → IsSoundTree forms box tree → HasFewEntries box tree
few_entries n forms box tree kept sound =
    let few = tree_entries-le n forms box tree kept sound in
    record {
      count = omega arith;
      undecided = λ has. let mark = has_mark tree has in omega arith;
    }

-- a preorder decides its tree, and where it ends
pub same_preorder : (t u : BranchingTree) (rest more : List Entry) → preorder t ++ rest ≡ preorder u ++ more → (t ≡ u) × (rest ≡ more)
same_preorder (tighten i side v row t) (tighten j other x line u) rest more same =
    let tails : preorder t ++ rest ≡ preorder u ++ more = cc in
    let below = same_preorder t u rest more tails in
    ((cc below.0), below.1)
same_preorder (split i v t a) (split j x u b) rest more same =
    let tails : (preorder t ++ preorder a) ++ rest ≡ (preorder u ++ preorder b) ++ more = cc in
    let first = same_preorder t u (preorder a ++ rest) (preorder b ++ more)
    (sym (append_assoc (preorder t) (preorder a) rest) ∙ tails ∙ append_assoc (preorder u) (preorder b) more) in
    let second = same_preorder a b rest more first.1 in
    ((cc (first.0, second.0)), second.1)
same_preorder (halve i v wide t a) (halve j x broad u b) rest more same =
    let tails : (preorder t ++ preorder a) ++ rest ≡ (preorder u ++ preorder b) ++ more = cc in
    let first = same_preorder t u (preorder a ++ rest) (preorder b ++ more)
    (sym (append_assoc (preorder t) (preorder a) rest) ∙ tails ∙ append_assoc (preorder u) (preorder b) more) in
    let second = same_preorder a b rest more first.1 in
    ((cc (first.0, second.0)), second.1)
same_preorder (refute parts) (refute others) rest more same = ((cc), (cc))
same_preorder undone undone rest more same = (refl, (cc))
same_preorder (tighten i side v row t) (split j x u b) rest more same = cc
same_preorder (tighten i side v row t) (halve j x broad u b) rest more same = cc
same_preorder (tighten i side v row t) (refute others) rest more same = cc
same_preorder (tighten i side v row t) undone rest more same = cc
same_preorder (split i v t a) (tighten j other x line u) rest more same = cc
same_preorder (split i v t a) (halve j x broad u b) rest more same = cc
same_preorder (split i v t a) (refute others) rest more same = cc
same_preorder (split i v t a) undone rest more same = cc
same_preorder (halve i v wide t a) (tighten j other x line u) rest more same = cc
same_preorder (halve i v wide t a) (split j x u b) rest more same = cc
same_preorder (halve i v wide t a) (refute others) rest more same = cc
same_preorder (halve i v wide t a) undone rest more same = cc
same_preorder (refute parts) (tighten j other x line u) rest more same = cc
same_preorder (refute parts) (split j x u b) rest more same = cc
same_preorder (refute parts) (halve j x broad u b) rest more same = cc
same_preorder (refute parts) undone rest more same = cc
same_preorder undone (tighten j other x line u) rest more same = cc
same_preorder undone (split j x u b) rest more same = cc
same_preorder undone (halve j x broad u b) rest more same = cc
same_preorder undone (refute others) rest more same = cc

-- the list decides the tree
pub preorder_decides : (t u : BranchingTree) → preorder t ≡ preorder u → t ≡ u
preorder_decides t u same = (same_preorder t u [] [] (ap (λ es. es ++ []) same)).0
