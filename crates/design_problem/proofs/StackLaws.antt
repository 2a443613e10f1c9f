-- One box and a stack of the ends that were changed tell the open boxes: changes that are put onto the stack, and put
-- back.
use Rattle.std.proofs.Common.{◌≡◌, ℕ, ◌+◌, sym, ◌∙◌, ap, subst, List, [], ◌∷◌, ◌++◌, length, reverse}
use Rattle.std.specs.Prelude.{Some, slice_index, slice_set, All}
use Rattle.std.proofs.lemmas.List.{reverse-append, set-get_or, set-set}
use Rattle.std.proofs.lemmas.List.Elements.{All-pop, All-push}
use Rattle.design_problem.specs.declared.boxes.CostBox.{CostBox}
use Rattle.design_problem.specs.declared.open_boxes.Change.{Change}
use Rattle.design_problem.specs.declared.open_boxes.Change.TheVariants.{Low, High, Second}
use Rattle.design_problem.specs.Boxes.{with_low, with_high}
use Rattle.design_problem.specs.Stack.{OpenBoxes, waiting, open_boxes_of, IsChange, IsStack}

-- a write and the old value again leave a list as it was
set_back : (xs : List ℕ) (i v : ℕ) → slice_set (slice_set xs i v) i (slice_index xs i) ≡ xs
set_back xs i v = set-set xs i v (slice_index xs i) ∙ set-get_or xs i 0

-- a lower bound that is put back gives the box again
pub low_back : (box : CostBox) (var value : ℕ) → with_low (with_low box var value) var (slice_index box.low var) ≡ box
low_back box var value = λ i. record { low = set_back box.low var value i; high = box.high }

-- so does an upper bound
pub high_back : (box : CostBox) (var value : ℕ) → with_high (with_high box var value) var (slice_index box.high var) ≡ box
high_back box var value = λ i. record { low = box.low; high = set_back box.high var value i }

-- the last change is the first that is put back
pub waiting_pushed : (box : CostBox) (changes more : List Change) (change : Change) → more ≡ changes ++ change ∷ [] →
    waiting box (reverse more) ≡ waiting box (change ∷ reverse changes)
waiting_pushed box changes more change e = ap (λ (cs : List Change). waiting box (reverse cs)) e ∙ ap (waiting box) (reverse-append changes (change ∷ []))

pub low_pushed : (box : CostBox) (changes more : List Change) (var value was : ℕ) → more ≡ changes ++ Low var was ∷ [] →
    was ≡ slice_index box.low var → waiting (with_low box var value) (reverse more) ≡ waiting box (reverse changes)
low_pushed box changes more var value was e old =
    waiting_pushed (with_low box var value) changes more (Low var was) e
    ∙ ap (λ (n : ℕ). waiting (with_low (with_low box var value) var n) (reverse changes)) old
    ∙ ap (λ (b : CostBox). waiting b (reverse changes)) (low_back box var value)

pub high_pushed : (box : CostBox) (changes more : List Change) (var value was : ℕ) →
    more ≡ changes ++ High var was ∷ [] → was ≡ slice_index box.high var →
    waiting (with_high box var value) (reverse more) ≡ waiting box (reverse changes)
high_pushed box changes more var value was e old =
    waiting_pushed (with_high box var value) changes more (High var was) e
    ∙ ap (λ (n : ℕ). waiting (with_high (with_high box var value) var n) (reverse changes)) old
    ∙ ap (λ (b : CostBox). waiting b (reverse changes)) (high_back box var value)

pub second_pushed : (box : CostBox) (changes more : List Change) (var value was : ℕ) →
    more ≡ changes ++ Second var value was ∷ [] → was ≡ slice_index box.high var →
    waiting (with_high box var value) (reverse more) ≡ with_low box var (value + 1) ∷ waiting box (reverse changes)
second_pushed box changes more var value was e old =
    waiting_pushed (with_high box var value) changes more (Second var value was) e
    ∙ ap (λ (n : ℕ). with_low (with_high (with_high box var value) var n) var (value + 1)
    ∷ waiting (with_high (with_high box var value) var n) (reverse changes)) old
    ∙ ap (λ (b : CostBox). with_low b var (value + 1) ∷ waiting b (reverse changes)) (high_back box var value)

-- a stack stays one where a box of the same numbers of ends has one change more or less
pub stack_pushed : (box next : CostBox) (changes more : List Change) (change : Change) → more ≡ changes ++ change ∷ [] →
    length next.low ≡ length box.low → length next.high ≡ length box.high → IsChange (length box.low) change →
    IsStack box changes → IsStack next more
stack_pushed box next changes more change e lows highs here stack = record {
  counts = lows ∙ stack.counts ∙ sym highs;
  known = subst (λ (n : ℕ). All (IsChange n) more) (sym lows)
      (subst (λ (cs : List Change). All (IsChange (length box.low)) cs) (sym e)
      (All-push (IsChange (length box.low)) changes change stack.known here));
}

pub stack_popped : (box next : CostBox) (changes popped : List Change) (change : Change) →
    changes ≡ popped ++ change ∷ [] → length next.low ≡ length box.low → length next.high ≡ length box.high →
    IsStack box changes → IsStack next popped
stack_popped box next changes popped change e lows highs stack = record {
  counts = lows ∙ stack.counts ∙ sym highs;
  known = subst (λ (n : ℕ). All (IsChange n) popped) (sym lows) ((All-pop (IsChange (length box.low)) changes popped (Some change) e stack.known).0);
}

pub popped_change : (box : CostBox) (changes popped : List Change) (change was : Change) →
    changes ≡ popped ++ change ∷ [] → change ≡ was → IsStack box changes → IsChange (length box.low) was
popped_change box changes popped change was e is stack =
    subst (IsChange (length box.low)) is
    (All-pop (IsChange (length box.low)) changes popped (Some change) e stack.known).1

-- the open boxes after a change
pub told_low : (box : CostBox) (changes more : List Change) (var value was : ℕ) → more ≡ changes ++ Low var was ∷ [] →
    was ≡ slice_index box.low var →
    open_boxes_of (with_low box var value) more
    ≡ (let b : OpenBoxes = record { present = with_low box var value; behind = waiting box (reverse changes) } in b)
told_low box changes more var value was e old = λ i. record { present = with_low box var value; behind = low_pushed box changes more var value was e old i }

pub told_high : (box : CostBox) (changes more : List Change) (var value was : ℕ) → more ≡ changes ++ High var was ∷ [] →
    was ≡ slice_index box.high var →
    open_boxes_of (with_high box var value) more
    ≡ (let b : OpenBoxes = record { present = with_high box var value; behind = waiting box (reverse changes) } in b)
told_high box changes more var value was e old = λ i. record { present = with_high box var value; behind = high_pushed box changes more var value was e old i }

pub told_second : (box : CostBox) (changes more : List Change) (var value was : ℕ) →
    more ≡ changes ++ Second var value was ∷ [] → was ≡ slice_index box.high var →
    open_boxes_of (with_high box var value) more
    ≡ (let b : OpenBoxes = record {
      present = with_high box var value;
      behind = with_low box var (value + 1) ∷ waiting box (reverse changes);
    } in b)
told_second box changes more var value was e old =
    λ i. record { present = with_high box var value; behind = second_pushed box changes more var value was e old i }

-- the same, where the changed ends are a list that code has written
pub moved_low : (box : CostBox) (lows : List ℕ) (changes more : List Change) (var value was : ℕ) →
    lows ≡ slice_set box.low var value → more ≡ changes ++ Low var was ∷ [] → was ≡ slice_index box.low var →
    open_boxes_of (record { low = lows; high = box.high }) more
    ≡ (let b : OpenBoxes = record { present = with_low box var value; behind = (open_boxes_of box changes).behind } in b)
moved_low box lows changes more var value was written e old =
    ap (λ (ls : List ℕ). open_boxes_of (record { low = ls; high = box.high }) more) written ∙ told_low box changes more var value was e old

pub moved_high : (box : CostBox) (highs : List ℕ) (changes more : List Change) (var value was : ℕ) →
    highs ≡ slice_set box.high var value → more ≡ changes ++ High var was ∷ [] → was ≡ slice_index box.high var →
    open_boxes_of (record { low = box.low; high = highs }) more
    ≡ (let b : OpenBoxes = record { present = with_high box var value; behind = (open_boxes_of box changes).behind } in b)
moved_high box highs changes more var value was written e old =
    ap (λ (hs : List ℕ). open_boxes_of (record { low = box.low; high = hs }) more) written ∙ told_high box changes more var value was e old

pub moved_second : (box : CostBox) (highs : List ℕ) (changes more : List Change) (var value was : ℕ) →
    highs ≡ slice_set box.high var value → more ≡ changes ++ Second var value was ∷ [] →
    was ≡ slice_index box.high var → open_boxes_of (record { low = box.low; high = highs }) more
    ≡ (let b : OpenBoxes = record {
      present = with_high box var value;
      behind = with_low box var (value + 1) ∷ (open_boxes_of box changes).behind;
    } in b)
moved_second box highs changes more var value was written e old =
    ap (λ (hs : List ℕ). open_boxes_of (record { low = box.low; high = hs }) more) written ∙ told_second box changes more var value was e old

-- a second part that is gone on with
pub second_next : (box : CostBox) (lows highs : List ℕ) (popped more : List Change) (var value was low : ℕ) →
    highs ≡ slice_set box.high var was → lows ≡ slice_set box.low var (value + 1) → more ≡ popped ++ Low var low ∷ [] →
    low ≡ slice_index box.low var →
    waiting box (Second var value was ∷ reverse popped) ≡ (let b : CostBox = record { low = lows; high = highs } in b)
    ∷ waiting (record { low = lows; high = highs }) (reverse more)
second_next box lows highs popped more var value was low highs_are lows_are e old =
    let first : CostBox = with_high box var was in
    let same : with_low first var (value + 1) ≡ (let b : CostBox = record { low = lows; high = highs } in b) =
    λ i. record { low = sym lows_are i; high = sym highs_are i } in
    ap (λ (bs : List CostBox). with_low first var (value + 1) ∷ bs) (sym (low_pushed first popped more var (value + 1) low e old))
    ∙ ap (λ (b : CostBox). b ∷ waiting b (reverse more)) same

-- an end that is put back: the boxes that wait stay the same
pub low_popped : (box : CostBox) (lows : List ℕ) (popped changes : List Change) (change : Change) (var was : ℕ) →
    changes ≡ popped ++ change ∷ [] → change ≡ Low var was → lows ≡ slice_set box.low var was →
    waiting (record { low = lows; high = box.high }) (reverse popped) ≡ waiting box (reverse changes)
low_popped box lows popped changes change var was e is written =
    ap (λ (ls : List ℕ). waiting (record { low = ls; high = box.high }) (reverse popped)) written
    ∙ sym (waiting_pushed box popped changes change e ∙ ap (λ (c : Change). waiting box (c ∷ reverse popped)) is)

pub high_popped : (box : CostBox) (highs : List ℕ) (popped changes : List Change) (change : Change) (var was : ℕ) →
    changes ≡ popped ++ change ∷ [] → change ≡ High var was → highs ≡ slice_set box.high var was →
    waiting (record { low = box.low; high = highs }) (reverse popped) ≡ waiting box (reverse changes)
high_popped box highs popped changes change var was e is written =
    ap (λ (hs : List ℕ). waiting (record { low = box.low; high = hs }) (reverse popped)) written
    ∙ sym (waiting_pushed box popped changes change e ∙ ap (λ (c : Change). waiting box (c ∷ reverse popped)) is)
