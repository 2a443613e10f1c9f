-- Bytes fall into LSAs in one way.
use Rattle.std.proofs.Common.{◌≡◌, ℕ, List, [], ◌∷◌, ◌++◌, length, None, Some, Option, is_some, true, Result, refl, sym, ap, ◌∙◌, append_assoc, arith}
use Rattle.std.specs.List.{concat, AllByRecursion}
use Rattle.lsa_bytes.specs.declared.fault.LsaFault.{LsaFault}
use Rattle.lsa_bytes.specs.declared.Lsa.{Lsa}
use Rattle.lsa_bytes.specs.Faults.{form_fault, rest_fault}
use Rattle.lsa_bytes.specs.Files.{BreaksOff, ComesTo, IsLsa, decided, instances_in}
use Rattle.lsa_bytes.proofs.Lengths.{is_whole, fault_in_front, own_fault, same_front}

-- no LSA begins bytes that break off
nothing_begins : (rest lsa more : List ℕ) → BreaksOff rest → rest ≡ lsa ++ more → IsLsa lsa → ⊥
nothing_begins [] [] more over is one = absurd (omega (arith, (is_whole [] one).header))
nothing_begins [] (byte ∷ lsa) more over is one = absurd (cc)
nothing_begins (byte ∷ bytes) lsa more over is one =
    let whole = is_whole lsa one in
    let none : form_fault (byte ∷ bytes) ≡ None = ap form_fault is ∙ fault_in_front lsa more whole ∙ sym (own_fault lsa whole) ∙ one.1 in
    no_fault (form_fault (byte ∷ bytes)) over none
  where
    no_fault : (found : Option LsaFault) → is_some found ≡ true → found ≡ None → ⊥
    no_fault None some none = absurd (cc)
    no_fault (Some fault) some none = absurd (cc)

-- two ways to cut bytes are one
one_way : (xs ys : List (List ℕ)) (r s : List ℕ) → AllByRecursion IsLsa xs → AllByRecursion IsLsa ys → BreaksOff r → BreaksOff s →
    concat xs ++ r ≡ concat ys ++ s → (xs ≡ ys) × (r ≡ s)
one_way [] [] r s first second r_over s_over same = (refl, same)
one_way [] (y ∷ ys) r s first second r_over s_over same =
    absurd (nothing_begins r y (concat ys ++ s) r_over (same ∙ append_assoc y (concat ys) s) second.0)
one_way (x ∷ xs) [] r s first second r_over s_over same =
    absurd (nothing_begins s x (concat xs ++ r) s_over (sym same ∙ append_assoc x (concat xs) r) first.0)
one_way (x ∷ xs) (y ∷ ys) r s first second r_over s_over same =
    let front = same_front x y (concat xs ++ r) (concat ys ++ s) (is_whole x first.0) (is_whole y second.0)
    (sym (append_assoc x (concat xs) r) ∙ same ∙ append_assoc y (concat ys) s) in
    let rest = one_way xs ys r s first.1 second.1 r_over s_over front.1 in
    (ap (λ (z : List ℕ). z ∷ xs) front.0 ∙ ap (λ (zs : List (List ℕ)). y ∷ zs) rest.0, rest.1)

-- bytes come to one thing
pub one_outcome : (bytes : List ℕ) (a b : Result (List Lsa) (LsaFault × ℕ)) → ComesTo bytes a → ComesTo bytes b → a ≡ b
one_outcome bytes a b x y =
    let way = one_way x.pieces y.pieces x.rest y.rest x.cut.lsas y.cut.lsas x.cut.over y.cut.over (sym x.cut.whole ∙ y.cut.whole) in
    x.is
    ∙ ap (λ (pieces : List (List ℕ)). decided (instances_in 0 pieces) (rest_fault (length (concat pieces)) x.rest)) way.0
    ∙ ap (λ (rest : List ℕ). decided (instances_in 0 y.pieces) (rest_fault (length (concat y.pieces)) rest)) way.1
    ∙ sym y.is
