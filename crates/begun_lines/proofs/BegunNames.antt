-- Bytes that begin lines that end in a name.
use Rattle.std.proofs.Common.{◌≡◌, ◌≢◌, ℕ, ◌<◌, ◌≤◌, ◌⊎◌, ◌↔◌, Bool, true, false, IsTrue, MatchOption, Option, Some, None, is_some, Bor, List, [], ◌∷◌, ◌++◌, All, length, eqb, codes, refl, sym, ap, subst, ◌∙◌, arith, inl, inr, append-nil, length-append}
use Rattle.std.proofs.lemmas.List.{get_or_append_left, nil_from_length, append_cancel_left}
use Rattle.std.proofs.lemmas.List.Elements.{All-nil, All-cons, All-push}
use Rattle.std.proofs.lemmas.Bool.Decides.{Decides-eqb}
use Rattle.std.specs.Cmp.Lexicographic.{pointwise, pointwise_decides}
use Rattle.cost_base.specs.Words.{IsOneWord, ends_a_word}
use Rattle.design_problem.specs.Text.{router_line}
use Rattle.begun_lines.specs.Begun.{IsLineFront, BeginsName, BeginsRouter, IsRouterOf}
use Rattle.begun_lines.proofs.Beginnings.{GoesInto, two_parts, front-longer, front-whole}
use Rattle.answer_lines.proofs.ListParts.{not-both, head-is}

-- some first bytes of a word are a word
word-front : (name cut more : List ℕ) → IsOneWord name → cut ++ more ≡ name → cut ≢ [] → IsOneWord cut
word-front name cut more word e some =
    let whole : All (λ c. ends_a_word c ≡ false) (cut ++ more) = subst (λ w. All (λ c. ends_a_word c ≡ false) w) (sym e) word.whole in
    record {
      some = some;
      whole = λ k d lt. subst (λ c. ends_a_word c ≡ false) (get_or_append_left cut more d k lt) (whole k d (omega (arith, length-append cut more)));
    }

letter : (c : ℕ) → ends_a_word c ≡ false → IsOneWord (c ∷ [])
letter c e = record { some = λ none. cc; whole = All-cons (λ x. ends_a_word x ≡ false) c [] e (All-nil (λ x. ends_a_word x ≡ false)) }

-- a name may follow where the front is begun
pub name-started : (rest front : List ℕ) → length front < 65536 → IsLineFront rest front → BeginsName rest front
name-started rest front small begun = (97 ∷ [], letter 97 refl, front-longer rest front (97 ∷ []) begun, omega (arith, length-append front (97 ∷ [])))

-- where the front isn't begun, the name behind it tells
pub name-tested : (rest front : List ℕ) (found : Option (Bor (List ℕ))) → length rest ≤ 65536 → (IsLineFront rest front → ⊥) →
    MatchOption found ((name : List ℕ) → IsOneWord name → rest ≢ front ++ name)
    (λ name. IsOneWord name.now × (rest ≡ front ++ name.now)) → IsTrue (is_some found) ↔ BeginsName rest front
name-tested rest front None short unbegun h = (
  λ yes. absurd (cc),
  λ begun. absurd
      (elim (two_parts rest begun.2.0 front begun.0 begun.2.1) [
        | inl before ↦ unbegun before
        | inr into ↦ h into.cut (word-front begun.0 into.cut begun.2.0 begun.1 into.left into.some) into.is
      ]),
)
name-tested rest front (Some name) short unbegun h =
    (λ yes. (name.now, h.0, front-whole rest (front ++ name.now) h.1, omega (arith, ap length h.1)), λ begun. refl)

-- of two names one isn't that of the cost line before
other_name : (before : Option (List ℕ)) (a b : List ℕ) → a ≢ b → (before ≢ Some a) ⊎ (before ≢ Some b)
other_name None a b differ = inl (λ e. cc)
other_name (Some x) a b differ = cases (pointwise eqb x a) refl
  where
    cases : (r : Bool) → pointwise eqb x a ≡ r → (Some x ≢ Some a) ⊎ (Some x ≢ Some b)
    cases true is =
        let same : x ≡ a = (pointwise_decides Decides-eqb x a).0 is in
        inr (λ e. let other : x ≡ b = cc in differ (sym same ∙ other))
    cases false is = inl (λ e. let same : x ≡ a = cc in not-both (pointwise eqb x a) ((pointwise_decides Decides-eqb x a).1 same) is)

-- where one byte more has room, another router may stand
pub router-open : (rest : List ℕ) (before : Option (List ℕ)) → BeginsName rest (codes "router ") → length rest < 65536 → BeginsRouter before rest
router-open rest before begun room = elim (two_parts rest begun.2.0 (codes "router ") begun.0 begun.2.1) [ inl started ↦ early started | inr into ↦ late into ]
  where
    early : IsLineFront rest (codes "router ") → BeginsRouter before rest
    early started =
        elim (other_name before (97 ∷ []) (98 ∷ []) (λ e. let letters : 97 ≡ 98 = head-is 97 98 [] [] e in omega arith)) [
          | inl other ↦ (97 ∷ [], letter 97 refl, other, front-longer rest (codes "router ") (97 ∷ []) started, omega arith)
          | inr other ↦ (98 ∷ [], letter 98 refl, other, front-longer rest (codes "router ") (98 ∷ []) started, omega arith)
        ]

    late : GoesInto rest begun.2.0 (codes "router ") begun.0 → BeginsRouter before rest
    late into =
        let word : IsOneWord into.cut = word-front begun.0 into.cut begun.2.0 begun.1 into.left into.some in
        elim (other_name before into.cut (into.cut ++ 97 ∷ []) (λ e. omega (arith, ap length e, length-append into.cut (97 ∷ [])))) [
          | inl other ↦ (into.cut, word, other, front-whole rest (router_line into.cut) into.is, omega (arith, ap length into.is))
          | inr other ↦ (
            into.cut ++ 97 ∷ [],
            record {
              some = λ none. omega (arith, ap length none, length-append into.cut (97 ∷ []));
              whole = All-push (λ c. ends_a_word c ≡ false) into.cut 97 word.whole refl;
            },
            other,
            (97 ∷ [], ap (λ bytes. bytes ++ 97 ∷ []) into.is),
            omega (arith, ap length into.is, length-append into.cut (97 ∷ [])),
          )
        ]

-- a line that has room for no further byte is begun by itself alone
full : (rest line : List ℕ) → 65536 ≤ length rest → length line ≤ 65536 → IsLineFront rest line → rest ≡ line
full rest line much short begun =
    let none : begun.0 ≡ [] = nil_from_length begun.0 (omega (arith, length-append rest begun.0, ap length begun.1)) in
    sym (append-nil rest) ∙ ap (λ more. rest ++ more) (sym none) ∙ begun.1

-- where no byte more has room, the router is another one
pub router-full : (rest : List ℕ) (before : Option (List ℕ)) → BeginsName rest (codes "router ") → 65536 ≤ length rest →
    (IsRouterOf before rest → ⊥) → BeginsRouter before rest
router-full rest before begun much other =
    (begun.0, begun.1, λ e. other (begun.0, e, full rest (router_line begun.0) much begun.3 begun.2), begun.2, begun.3)

pub router-same : (rest : List ℕ) (before : Option (List ℕ)) → BeginsRouter before rest → 65536 ≤ length rest → IsRouterOf before rest → ⊥
router-same rest before begun much router =
    let line : rest ≡ router_line begun.0 = full rest (router_line begun.0) much begun.4 begun.3 in
    let same : router.0 ≡ begun.0 = append_cancel_left (codes "router ") router.0 begun.0 (sym router.2 ∙ line) in
    begun.2 (router.1 ∙ ap Some same)
