-- Marks that are set one after another, and what they were before.
use Rattle.std.proofs.Common.{◌≡◌, ℕ, ◌+◌, ◌<◌, ◌≤◌, sym, ◌∙◌, ap, subst, inl, inr, List, [], ◌∷◌, length, get_or, take, set, length-set, get_or-set_same, get_or-set_other, replicate, All, Bool, true, false, ◌||◌, refl, arith}
use Rattle.std.specs.Prelude.{◌==◌}
use Rattle.std.specs.List.{list_any}
use Rattle.std.proofs.Math.Bool.{or_assoc, or-false}
use Rattle.std.proofs.lemmas.List.{ext_get_or, get_or-replicate, length-replicate, take_all}
use Rattle.std.proofs.lemmas.Bool.{eq-eqb, eqb-true, false≢true, ne_eqb, or_cases, or_left, or_right}
use Rattle.std.proofs.lemmas.List.Folds.{list_any_at, list_any_more}
use native.Mathlib.Decide.{ℕ_discrete}
use Rattle.cost_base.specs.Lists.{Has}
use Rattle.cost_base.specs.Marks.{AreMarked, is_marked, is_one_of}

-- marks of one test, and then of another one
pub marked_then : (f g h : ℕ → Bool) (a b c : List Bool) → ((k : ℕ) → h k ≡ (f k || g k)) → AreMarked f a b → AreMarked g b c → AreMarked h a c
marked_then f g h a b c both first then = record {
  counted = then.counted ∙ first.counted;
  marked = λ k.
      then.marked k
      ∙ ap (λ (x : Bool). x || g k) (first.marked k)
      ∙ or_assoc (is_marked a k) (f k) (g k)
      ∙ ap (λ (x : Bool). is_marked a k || x) (sym (both k));
}

-- a step of a loop that marks what its items name
pub marked_more : {X : Type 0} (p : ℕ → X → Bool) (first old new : List Bool) (xs : List X) (i : ℕ) (x : X) → i < length xs → x ≡ get_or xs i x
    → AreMarked (λ k. list_any (p k) (take i xs)) first old → AreMarked (λ k. p k x) old new → AreMarked (λ k. list_any (p k) (take (i + 1) xs)) first new
marked_more p first old new xs i x within is so_far here =
    marked_then (λ k. list_any (p k) (take i xs)) (λ k. p k x) (λ k. list_any (p k) (take (i + 1) xs)) first old new
    (λ k. list_any_more (p k) xs i x within ∙ ap (λ (y : _). list_any (p k) (take i xs) || p k y) (sym is)) so_far here

-- at the end of such a loop
pub all_marked : {X : Type 0} (p : ℕ → X → Bool) (first now : List Bool) (xs : List X) (i : ℕ) → length xs ≤ i →
    AreMarked (λ k. list_any (p k) (take i xs)) first now → AreMarked (λ k. list_any (p k) xs) first now
all_marked {X} p first now xs i past so_far = subst (λ (ys : List X). AreMarked (λ k. list_any (p k) ys) first now) (take_all i xs past) so_far

-- a mark behind one that was set, where that is a mark of the list
pub written_mark : (marks : List Bool) (place k : ℕ) → (k ≡ place → place < length marks) →
    is_marked (set marks place true) k ≡ (is_marked marks k || (place == k))
written_mark marks place k within = elim (ℕ_discrete k place) [
  | yes same ↦
      ap (λ (j : ℕ). get_or (set marks place true) j false) same ∙ get_or-set_same marks place true false (within same)
      ∙ sym (or_right (is_marked marks k) (place == k) (eq-eqb place k (sym same)))
  | no other ↦
      get_or-set_other marks place k true false other
      ∙ sym (ap (λ (b : Bool). is_marked marks k || b) (ne_eqb place k (λ same. other (sym same))) ∙ or-false (is_marked marks k))
]

-- what was marked stays so
pub marked_stays : (test : ℕ → Bool) (old new : List Bool) (k : ℕ) → AreMarked test old new → is_marked old k ≡ true → is_marked new k ≡ true
marked_stays test old new k are is = are.marked k ∙ or_left (is_marked old k) (test k) is

-- what passes the test is marked
pub marked_comes : (test : ℕ → Bool) (old new : List Bool) (k : ℕ) → AreMarked test old new → test k ≡ true → is_marked new k ≡ true
marked_comes test old new k are is = are.marked k ∙ or_right (is_marked old k) (test k) is

-- each of some numbers is marked, where these were
pub each_marked : (numbers : List ℕ) (old new : List Bool) → AreMarked (is_one_of numbers) old new → All (λ k. is_marked new k ≡ true) numbers
each_marked numbers old new are i d within =
    let k = get_or numbers i d in
    marked_comes (is_one_of numbers) old new k are (list_any_at (λ n. n == k) numbers i d within (eq-eqb k k refl))

-- a number that stands in a list is one of its numbers
pub has_one_of : (xs : List ℕ) (x : ℕ) → Has xs x → is_one_of xs x ≡ true
has_one_of [] x has = absurd has
has_one_of (y ∷ ys) x has = elim has [
  | inl here ↦ or_left (y == x) (is_one_of ys x) (eq-eqb y x (sym here))
  | inr later ↦ or_right (y == x) (is_one_of ys x) (has_one_of ys x later)
]

-- and one of its numbers stands in it
pub one_of_has : (xs : List ℕ) (x : ℕ) → is_one_of xs x ≡ true → Has xs x
one_of_has [] x is = absurd (false≢true is)
one_of_has (y ∷ ys) x is = elim (or_cases (y == x) (is_one_of ys x) is) [
  | inl here ↦ inl (sym (eqb-true y x here))
  | inr later ↦ inr (one_of_has ys x later)
]

-- the marks of no numbers are those that were
pub marked_none : (old new : List Bool) → AreMarked (is_one_of []) old new → new ≡ old
marked_none old new are = ext_get_or false new old are.counted (λ k within. are.marked k ∙ or-false (is_marked old k))

-- behind the mark of the first number the others are set
pub marked_rest : (n : ℕ) (numbers : List ℕ) (old new : List Bool) → n < length old → AreMarked (is_one_of (n ∷ numbers)) old new →
    AreMarked (is_one_of numbers) (set old n true) new
marked_rest n numbers old new within are = record {
  counted = are.counted ∙ sym (length-set old n true);
  marked = λ k. are.marked k ∙ sym (or_assoc (is_marked old k) (n == k) (is_one_of numbers k))
      ∙ ap (λ (b : Bool). b || is_one_of numbers k) (sym (written_mark old n k (λ same. within)));
}

-- marks of a test where none was set before
pub marks_from_none : (test : ℕ → Bool) (none marks : List Bool) (k : ℕ) → ((k : ℕ) → is_marked none k ≡ false) → AreMarked test none marks →
    is_marked marks k ≡ test k
marks_from_none test none marks k empty are = are.marked k ∙ ap (λ (b : Bool). b || test k) (empty k)

-- marks of which none is set
pub clear_marks : (marks : List Bool) (n : ℕ) → length marks ≡ n → ((k : ℕ) → is_marked marks k ≡ false) → marks ≡ replicate n false
clear_marks marks n counted none =
    ext_get_or false marks (replicate n false) (counted ∙ sym (length-replicate n false))
    (λ k within. none k ∙ sym (get_or-replicate n k false false (omega (arith, counted))))
