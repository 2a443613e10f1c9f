-- What `ip ospf cost` lines say, and no other lines do.
use Rattle.std.proofs.Common.{◌≡◌, ℕ, List, [], ◌∷◌, length, Bool, cond, true, false, ◌&&◌, eqb, refl, sym, ap, ◌∙◌, Option, Some, None}
use Rattle.std.specs.Prelude.{codes, nat_le}
use Rattle.std.proofs.lemmas.Bool.{and_parts}
use Rattle.cost_base.specs.Lists.{same_bytes}
use Rattle.cost_base.proofs.ByteLemmas.{same_bytes-true}
use Rattle.text_lines.specs.Numbers.{number, prefix, area, Prefix}
use Rattle.interface_model.specs.declared.Kind.TheVariants.{PointToPoint, Broadcast}
use Rattle.config_reader.specs.declared.fault.ConfigFault.TheVariants.{BadNumber, Unsupported}
use Rattle.config_reader.specs.Statements.{Statement, CostIs, KindIs, PassiveIs, Refused, Unread, begin_with, word_at, ip_ospf, no, alone, address_statement, area_statement, cost_statement, priority_statement, switch_statement, is_unsupported, interface_statement}
use Rattle.config_reader.specs.Settings.{cost_set}
use Rattle.config_reader.specs.FaultList.{refused}

-- words that begin with `ip ospf cost`
begins_cost : (ws : List (List ℕ)) → begin_with (ip_ospf (codes "cost")) ws ≡ true →
    (more : List (List ℕ)) × (ws ≡ codes "ip" ∷ codes "ospf" ∷ codes "cost" ∷ more)
begins_cost [] begins = absurd (cc)
begins_cost (a ∷ []) begins = let parts = and_parts (same_bytes (codes "ip") a) false begins in absurd (cc)
begins_cost (a ∷ b ∷ []) begins =
    let parts = and_parts (same_bytes (codes "ip") a) (same_bytes (codes "ospf") b && false) begins in
    let rest = and_parts (same_bytes (codes "ospf") b) false parts.1 in
    absurd (cc)
begins_cost (a ∷ b ∷ c ∷ more) begins =
    let parts = and_parts (same_bytes (codes "ip") a) (same_bytes (codes "ospf") b && (same_bytes (codes "cost") c && true)) begins in
    let rest = and_parts (same_bytes (codes "ospf") b) (same_bytes (codes "cost") c && true) parts.1 in
    let last = and_parts (same_bytes (codes "cost") c) true rest.1 in (
      more,
      ap (λ x. x ∷ b ∷ c ∷ more) (sym (same_bytes-true (codes "ip") a parts.0))
          ∙ ap (λ x. codes "ip" ∷ x ∷ c ∷ more) (sym (same_bytes-true (codes "ospf") b rest.0))
          ∙ ap (λ x. codes "ip" ∷ codes "ospf" ∷ x ∷ more) (sym (same_bytes-true (codes "cost") c last.0)),
    )

-- a line of a cost that isn't refused
cost_given : (last : Bool) (o : Option ℕ) → refused (cost_statement last o) ≡ None → (n : ℕ) × (cost_statement last o ≡ CostIs n)
cost_given last None fine = absurd (cc)
cost_given last (Some n) fine = cases (eqb n 0) last fine
  where
    cases : (z l : Bool) → refused (cond z (Refused BadNumber) (alone l (CostIs n))) ≡ None →
        (m : ℕ) × (cond z (Refused BadNumber) (alone l (CostIs n)) ≡ CostIs m)
    cases true l fine = absurd (cc)
    cases false true fine = (n, refl)
    cases false false fine = absurd (cc)

-- an `ip ospf cost` line that isn't refused sets a cost
pub sets_cost : (ws : List (List ℕ)) → begin_with (ip_ospf (codes "cost")) ws ≡ true →
    refused (interface_statement ws) ≡ None → (n : ℕ) × (interface_statement ws ≡ CostIs n)
sets_cost ws begins fine =
    let found = begins_cost ws begins in
    let says : interface_statement ws
    ≡ cost_statement (nat_le (length (codes "ip" ∷ codes "ospf" ∷ codes "cost" ∷ found.0)) 4)
    (number (word_at (codes "ip" ∷ codes "ospf" ∷ codes "cost" ∷ found.0) 3) 65535) =
    ap interface_statement found.1 in
    let given =
    cost_given (nat_le (length (codes "ip" ∷ codes "ospf" ∷ codes "cost" ∷ found.0)) 4)
    (number (word_at (codes "ip" ∷ codes "ospf" ∷ codes "cost" ∷ found.0) 3) 65535)
    (ap refused (sym says) ∙ fine) in
    (given.0, says ∙ given.1)

-- choices between statements that set no cost
neither : (b : Bool) (s t : Statement) → cost_set s ≡ None → cost_set t ≡ None → cost_set (cond b s t) ≡ None
neither true s t one two = one
neither false s t one two = two

alone_quiet : (last : Bool) (s : Statement) → cost_set s ≡ None → cost_set (alone last s) ≡ None
alone_quiet true s quiet = quiet
alone_quiet false s quiet = refl

no_address : (o : Option Prefix) → cost_set (address_statement o) ≡ None
no_address None = refl
no_address (Some p) = refl

no_area : (last : Bool) (o : Option ℕ) → cost_set (area_statement last o) ≡ None
no_area true None = refl
no_area false None = refl
no_area true (Some a) = refl
no_area false (Some a) = refl

no_priority : (last : Bool) (o : Option ℕ) → cost_set (priority_statement last o) ≡ None
no_priority true None = refl
no_priority false None = refl
no_priority true (Some n) = refl
no_priority false (Some n) = refl

no_switch : (ws : List (List ℕ)) → cost_set (switch_statement ws) ≡ None
no_switch ws =
    neither (begin_with (ip_ospf (codes "passive")) ws) _ _ (alone_quiet (nat_le (length ws) 3) (PassiveIs true) refl)
    (neither (begin_with (no (ip_ospf (codes "passive"))) ws) _ _ (alone_quiet (nat_le (length ws) 4) (PassiveIs false) refl)
    (neither (begin_with (codes "shutdown" ∷ []) ws) _ _ refl
    (neither (begin_with (no (codes "shutdown" ∷ [])) ws) _ _ refl (neither (is_unsupported ws) (Refused Unsupported) Unread refl refl))))

-- a line of an interface that doesn't begin with `ip ospf cost` sets no cost
pub sets_none : (ws : List (List ℕ)) → begin_with (ip_ospf (codes "cost")) ws ≡ false → cost_set (interface_statement ws) ≡ None
sets_none ws other =
    neither (begin_with (codes "ip" ∷ codes "address" ∷ []) ws) _ _
    (neither (same_bytes (word_at ws 3) (codes "peer")) (Refused Unsupported)
    (address_statement (prefix (word_at ws 2))) refl (no_address (prefix (word_at ws 2))))
    (neither (begin_with (ip_ospf (codes "area")) ws) _ _ (no_area (nat_le (length ws) 4) (area (word_at ws 3)))
    (ap (λ b. cost_set (cond b (cost_statement (nat_le (length ws) 4) (number (word_at ws 3) 65535)) (behind ws))) other
    ∙ neither (begin_with (ip_ospf (codes "network")) ws) _ _ (no_kind ws)
    (neither (begin_with (ip_ospf (codes "priority")) ws) _ _ (no_priority (nat_le (length ws) 4) (number (word_at ws 3) 255)) (no_switch ws))))
  where
    kind_of_words : List (List ℕ) → Statement
    kind_of_words vs = cond (same_bytes (word_at vs 3) (codes "point-to-point")) (KindIs PointToPoint)
        (cond (same_bytes (word_at vs 3) (codes "broadcast")) (KindIs Broadcast) (Refused Unsupported))

    behind : List (List ℕ) → Statement
    behind vs = cond (begin_with (ip_ospf (codes "network")) vs) (kind_of_words vs)
        (cond (begin_with (ip_ospf (codes "priority")) vs)
        (priority_statement (nat_le (length vs) 4) (number (word_at vs 3) 255)) (switch_statement vs))

    no_kind : (vs : List (List ℕ)) → cost_set (kind_of_words vs) ≡ None
    no_kind vs =
        neither (same_bytes (word_at vs 3) (codes "point-to-point")) (KindIs PointToPoint)
        (cond (same_bytes (word_at vs 3) (codes "broadcast")) (KindIs Broadcast) (Refused Unsupported)) refl
        (neither (same_bytes (word_at vs 3) (codes "broadcast")) (KindIs Broadcast) (Refused Unsupported) refl refl)
