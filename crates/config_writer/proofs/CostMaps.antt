-- Costs that are looked up by names in a map.
use Rattle.std.proofs.Common.{◌≡◌, ℕ, List, [], ◌∷◌, Bool, cond, true, false, refl, sym, ap, ◌∙◌, map, Option, Some, Bor}
use Rattle.std.proofs.lemmas.Bool.{false≢true}
use Rattle.cost_base.specs.Lists.{same_bytes}
use Rattle.cost_base.proofs.ByteLemmas.{same_bytes-true}
use Rattle.std.specs.Map.{lookup}
use Rattle.indexmap.specs.IndexMap.{insert_entry}
use Rattle.config_writer.specs.Writing.{look_up}

-- an entry by its name's bytes
abbrev pub entry_of : Bor (List ℕ) × ℕ → List ℕ × ℕ
entry_of entry = (entry.0.now, entry.1)

-- the map's own look-up
pub looked_up : (name : List ℕ) (entries : List (Bor (List ℕ) × ℕ)) → lookup (λ key. same_bytes name key.now) entries ≡ look_up name (map entry_of entries)
looked_up name [] = refl
looked_up name (e ∷ es) = ap (cond (same_bytes name e.0.now) (Some e.1)) (looked_up name es)

-- an entry more
pub look_up-insert : (entries : List (Bor (List ℕ) × ℕ)) (key : Bor (List ℕ)) (n : ℕ) (name : List ℕ) →
    look_up name (map entry_of (insert_entry (λ a b. same_bytes a.now b.now) entries key n))
    ≡ cond (same_bytes name key.now) (Some n) (look_up name (map entry_of entries))
look_up-insert [] key n name = refl
look_up-insert (e ∷ es) key n name = cases (same_bytes key.now e.0.now) refl (look_up-insert es key n name)
  where
    there : (b : Bool) (rest : Option ℕ) → cond b (Some n) rest ≡ cond b (Some n) (cond b (Some e.1) rest)
    there true rest = refl
    there false rest = refl

    other : (p q : Bool) → same_bytes key.now e.0.now ≡ false → same_bytes name e.0.now ≡ p →
        same_bytes name key.now ≡ q → (rest : Option ℕ) →
        cond p (Some e.1) (cond q (Some n) rest) ≡ cond q (Some n) (cond p (Some e.1) rest)
    other true true apart at_entry at_key rest =
        absurd (false≢true (sym apart ∙ ap (λ bytes. same_bytes bytes e.0.now) (sym (same_bytes-true name key.now at_key)) ∙ at_entry))
    other true false apart at_entry at_key rest = refl
    other false true apart at_entry at_key rest = refl
    other false false apart at_entry at_key rest = refl

    cases : (b : Bool) → same_bytes key.now e.0.now ≡ b →
        look_up name (map entry_of (insert_entry (λ a b. same_bytes a.now b.now) es key n))
        ≡ cond (same_bytes name key.now) (Some n) (look_up name (map entry_of es)) →
        look_up name (map entry_of (cond b ((e.0, n) ∷ es) (e ∷ insert_entry (λ a b. same_bytes a.now b.now) es key n)))
        ≡ cond (same_bytes name key.now) (Some n)
        (cond (same_bytes name e.0.now) (Some e.1) (look_up name (map entry_of es)))
    cases true same later =
        there (same_bytes name e.0.now) (look_up name (map entry_of es))
        ∙ ap (λ bytes. cond (same_bytes name bytes) (Some n)
        (cond (same_bytes name e.0.now) (Some e.1) (look_up name (map entry_of es))))
        (sym (same_bytes-true key.now e.0.now same))
    cases false apart later =
        ap (cond (same_bytes name e.0.now) (Some e.1)) later
        ∙ other (same_bytes name e.0.now) (same_bytes name key.now) apart refl refl (look_up name (map entry_of es))
