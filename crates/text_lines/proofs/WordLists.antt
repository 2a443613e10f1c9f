-- What words say, word by word.
use Rattle.std.proofs.Common.{◌≡◌, ℕ, ◌+◌, length, refl, sym, ◌∙◌, ap, List, [], ◌∷◌, ◌++◌, Option, Some, None, append_assoc, append-nil}
use Rattle.text_lines.specs.WordLists.{with_first, all_said}

-- what words take, each with a byte behind it
abbrev pub room : List (List ℕ) → ℕ
room [] = 0
room (word ∷ words) = length word + 1 + room words

-- some things before others, where those are there
abbrev pub before_others : {X : Type 0} → List X → Option (List X) → Option (List X)
before_others done None = None
before_others done (Some more) = Some (done ++ more)

-- the things stand for the words that were read, and these words are left
pub record SaidTo {X : Type 0} (say : List ℕ → Option X) (all left : List (List ℕ)) (done : List X) : Type 0 where
  pub same : all_said say all ≡ before_others done (all_said say left)

pub said_begin : {X : Type 0} (say : List ℕ → Option X) (all : List (List ℕ)) (done : List X) → done ≡ [] → SaidTo say all all done
said_begin {X} say all done none = record { same = alone (all_said say all) ∙ ap (λ (xs : List X). before_others xs (all_said say all)) (sym none) }
  where
    alone : (o : Option (List X)) → o ≡ before_others [] o
    alone None = refl
    alone (Some more) = refl

pub said_more :
    {X : Type 0} (say : List ℕ → Option X) (all : List (List ℕ)) (word : List ℕ) (left rest : List (List ℕ)) (done after : List X) (x : X) →
    SaidTo say all left done → left ≡ word ∷ rest → Some x ≡ say word → after ≡ done ++ x ∷ [] → SaidTo say all rest after
said_more {X} say all word left rest done after x to is said added = record {
  same =
      to.same ∙ ap (λ (ws : List (List ℕ)). before_others done (all_said say ws)) is
      ∙ ap (λ (o : Option X). before_others done (with_first o (all_said say rest))) (sym said)
      ∙ joined (all_said say rest)
      ∙ ap (λ (xs : List X). before_others xs (all_said say rest)) (sym added);
}
  where
    joined : (o : Option (List X)) → before_others done (with_first (Some x) o) ≡ before_others (done ++ x ∷ []) o
    joined None = refl
    joined (Some more) = ap Some (sym (append_assoc done (x ∷ []) more))

-- a word that says nothing
pub said_off :
    {X : Type 0} (say : List ℕ → Option X) (all : List (List ℕ)) (word : List ℕ) (left rest : List (List ℕ)) (done : List X) →
    SaidTo say all left done → left ≡ word ∷ rest → None ≡ say word → None ≡ all_said say all
said_off {X} say all word left rest done to is off =
    sym (to.same ∙ ap (λ (ws : List (List ℕ)). before_others done (all_said say ws)) is
    ∙ ap (λ (o : Option X). before_others done (with_first o (all_said say rest))) (sym off))

pub said_done :
    {X : Type 0} (say : List ℕ → Option X) (all left : List (List ℕ)) (done listed : List X) →
    SaidTo say all left done → left ≡ [] → listed ≡ done → Some listed ≡ all_said say all
said_done say all left done listed to is same =
    sym (to.same ∙ ap (λ (ws : List (List ℕ)). before_others done (all_said say ws)) is ∙ ap Some (append-nil done) ∙ ap Some (sym same))
