-- Branching trees with their subtrees, and their entries in preorder.
use Rattle.std.proofs.Common.{◌≡◌, ◌+◌, refl, sym, ◌∙◌, ap, subst, List, [], ◌∷◌, ◌++◌, append-nil, append_assoc, ◌↔◌}
use Rattle.design_problem.specs.declared.form.Form.{Form}
use Rattle.design_problem.specs.declared.boxes.CostBox.{CostBox}
use Rattle.design_problem.specs.declared.tree.Entry.{Entry}
use Rattle.design_problem.specs.declared.tree.Entry.TheVariants.{Tighten, Split, Halve, Refute, Undone}
use Rattle.design_problem.specs.Boxes.{with_low, with_high}
use Rattle.design_problem.specs.BranchingTrees.{BranchingTree, tighten, split, halve, refute, undone, preorder, SoundOver, IsTreeOver}
use Rattle.design_problem.specs.Trees.{Sound, IsSoundTree, tightened}

-- the entries of a sound tree, and then entries that are sound over the boxes behind it
pub sound_preorder : (forms : List Form) (box : CostBox) (t : BranchingTree) (boxes : List CostBox) (rest : List Entry) →
    SoundOver forms box t → Sound forms boxes rest → Sound forms (box ∷ boxes) (preorder t ++ rest)
sound_preorder forms box (tighten i side v row t) boxes rest sound more =
    (sound.0, sound_preorder forms (tightened box side i v) t boxes rest sound.1 more)
sound_preorder forms box (split i v t u) boxes rest sound more = (
  sound.0,
  subst (λ (es : List Entry). Sound forms (with_high box i v ∷ with_low box i (v + 1) ∷ boxes) es) (sym (append_assoc (preorder t) (preorder u) rest))
      (sound_preorder forms (with_high box i v) t (with_low box i (v + 1) ∷ boxes) (preorder u ++ rest) sound.1
      (sound_preorder forms (with_low box i (v + 1)) u boxes rest sound.2 more)),
)
sound_preorder forms box (halve i v wide t u) boxes rest sound more = (
  sound.0,
  subst (λ (es : List Entry). Sound forms (with_high box i v ∷ with_low box i (v + 1) ∷ boxes) es) (sym (append_assoc (preorder t) (preorder u) rest))
      (sound_preorder forms (with_high box i v) t (with_low box i (v + 1) ∷ boxes) (preorder u ++ rest) sound.1
      (sound_preorder forms (with_low box i (v + 1)) u boxes rest sound.2 more)),
)
sound_preorder forms box (refute parts) boxes rest sound more = (sound, more)
sound_preorder forms box undone boxes rest sound more = (tt, more)

-- trees over some boxes, one for each
abbrev pub SoundEach : List Form → List CostBox → List BranchingTree → Type 0
SoundEach forms [] [] = Unit {0}
SoundEach forms (box ∷ boxes) [] = ⊥
SoundEach forms [] (t ∷ ts) = ⊥
SoundEach forms (box ∷ boxes) (t ∷ ts) = SoundOver forms box t × SoundEach forms boxes ts

abbrev pub preorders : List BranchingTree → List Entry
preorders [] = []
preorders (t ∷ ts) = preorder t ++ preorders ts

pub record AreTrees (forms : List Form) (boxes : List CostBox) (entries : List Entry) : Type 0 where
  pub trees : List BranchingTree
  pub same : preorders trees ≡ entries
  pub sound : SoundEach forms boxes trees

one_less : (forms : List Form) (box : CostBox) (boxes : List CostBox) (entry : Entry) (entries : List Entry)
    (build : BranchingTree → BranchingTree) → ((t : BranchingTree) → preorder (build t) ≡ entry ∷ preorder t) → (sub : CostBox) →
    ((t : BranchingTree) → SoundOver forms sub t → SoundOver forms box (build t)) → AreTrees forms (sub ∷ boxes) entries →
    AreTrees forms (box ∷ boxes) (entry ∷ entries)
one_less forms box boxes entry entries build heads sub keeps found = go found.trees found.same found.sound
  where
    go : (ts : List BranchingTree) → preorders ts ≡ entries → SoundEach forms (sub ∷ boxes) ts → AreTrees forms (box ∷ boxes) (entry ∷ entries)
    go [] same sound = absurd sound
    go (t ∷ ts) same sound = record {
      trees = build t ∷ ts;
      same = ap (λ es. es ++ preorders ts) (heads t) ∙ ap (λ es. entry ∷ es) same;
      sound = (keeps t sound.0, sound.1);
    }

two_less : (forms : List Form) (box : CostBox) (boxes : List CostBox) (entry : Entry) (entries : List Entry)
    (build : BranchingTree → BranchingTree → BranchingTree) →
    ((t u : BranchingTree) → preorder (build t u) ≡ entry ∷ (preorder t ++ preorder u)) → (low high : CostBox) →
    ((t u : BranchingTree) → SoundOver forms low t → SoundOver forms high u → SoundOver forms box (build t u)) →
    AreTrees forms (low ∷ high ∷ boxes) entries → AreTrees forms (box ∷ boxes) (entry ∷ entries)
two_less forms box boxes entry entries build heads low high keeps found = go found.trees found.same found.sound
  where
    go : (ts : List BranchingTree) → preorders ts ≡ entries → SoundEach forms (low ∷ high ∷ boxes) ts → AreTrees forms (box ∷ boxes) (entry ∷ entries)
    go [] same sound = absurd sound
    go (t ∷ []) same sound = absurd sound.1
    go (t ∷ u ∷ ts) same sound = record {
      trees = build t u ∷ ts;
      same = ap (λ es. es ++ preorders ts) (heads t u) ∙ ap (λ es. entry ∷ es) (append_assoc (preorder t) (preorder u) (preorders ts) ∙ same);
      sound = (keeps t u sound.0 sound.1.0, sound.1.1);
    }

-- entries that are sound over open boxes are the preorders of sound trees
pub trees_from_sound : (forms : List Form) (boxes : List CostBox) (entries : List Entry) → Sound forms boxes entries → AreTrees forms boxes entries
trees_from_sound forms [] [] sound = record { trees = []; same = refl; sound = tt }
trees_from_sound forms (box ∷ boxes) [] sound = absurd sound
trees_from_sound forms [] (entry ∷ entries) sound = absurd sound
trees_from_sound forms (box ∷ boxes) (Tighten i side v row ∷ entries) sound =
    one_less forms box boxes (Tighten i side v row) entries (tighten i side v row) (λ t. refl) (tightened box side i v) (λ t h. (sound.0, h))
    (trees_from_sound forms (tightened box side i v ∷ boxes) entries sound.1)
trees_from_sound forms (box ∷ boxes) (Split i v ∷ entries) sound =
    two_less forms box boxes (Split i v) entries (split i v) (λ t u. refl) (with_high box i v) (with_low box i (v + 1)) (λ t u h k. (sound.0, h, k))
    (trees_from_sound forms (with_high box i v ∷ with_low box i (v + 1) ∷ boxes) entries sound.1)
trees_from_sound forms (box ∷ boxes) (Halve i v wide ∷ entries) sound =
    two_less forms box boxes (Halve i v wide) entries (halve i v wide) (λ t u. refl) (with_high box i v) (with_low box i (v + 1)) (λ t u h k. (sound.0, h, k))
    (trees_from_sound forms (with_high box i v ∷ with_low box i (v + 1) ∷ boxes) entries sound.1)
trees_from_sound forms (box ∷ boxes) (Refute parts ∷ entries) sound =
    let found = trees_from_sound forms boxes entries sound.1 in
    record { trees = refute parts ∷ found.trees; same = ap (λ es. Refute parts ∷ es) found.same; sound = (sound.0, found.sound) }
trees_from_sound forms (box ∷ boxes) (Undone ∷ entries) sound =
    let found = trees_from_sound forms boxes entries sound.1 in
    record { trees = undone ∷ found.trees; same = ap (λ es. Undone ∷ es) found.same; sound = (tt, found.sound) }

-- the two forms of a sound tree are one
pub one_tree : (forms : List Form) (box : CostBox) (entries : List Entry) → IsSoundTree forms box entries ↔ IsTreeOver forms box entries
one_tree forms box entries = (
  λ sound. let found = trees_from_sound forms (box ∷ []) entries sound in go found.trees found.same found.sound,
  λ over. subst (λ (es : List Entry). Sound forms (box ∷ []) es) (append-nil (preorder over.tree) ∙ over.same)
      (sound_preorder forms box over.tree [] [] over.sound tt),
)
  where
    go : (ts : List BranchingTree) → preorders ts ≡ entries → SoundEach forms (box ∷ []) ts → IsTreeOver forms box entries
    go [] same sound = absurd sound
    go (t ∷ []) same sound = record { tree = t; same = sym (append-nil (preorder t)) ∙ same; sound = sound.0 }
    go (t ∷ u ∷ ts) same sound = absurd sound.1
