-- The tests of a line of a tree: the first that fails, and none at a sound line.
use Rattle.std.proofs.Common.{◌≡◌, ℕ, ◌^◌, ◌<◌, ◌≤◌, refl, sym, ap, subst, List, length, arith, inl, inr}
use Rattle.std.specs.Prelude.{IsTrue, Option, None, Some, MatchOption, ◌⊎◌, ℤ, pos, ◌≤ℤ◌, ◌<ℤ◌, All, Any, sum_by, false, true}
use Rattle.std.proofs.lemmas.Int.{ints}
use Rattle.cost_base.specs.Order.{FirstOf, NoneOf}
use Rattle.design_problem.specs.Forms.{Form}
use Rattle.design_problem.specs.declared.boxes.CostBox.{CostBox}
use Rattle.design_problem.specs.declared.tree.Entry.{Entry}
use Rattle.design_problem.specs.declared.tree.Entry.TheVariants.{Tighten, Split, Halve, Refute, Undone}
use Rattle.design_problem.specs.Boxes.{greatest, Refutes}
use Rattle.design_problem.specs.Forms.{weighted, form_at}
use Rattle.design_problem.specs.declared.tree.Side.{Side}
use Rattle.design_problem.specs.Trees.{IsSmaller, SoundAt, TightensAt, is_undone, removed}
use lib.Signed.{lt_z}
use Rattle.evidence_checker.proofs.Sizes.{negative_iff}
use Rattle.evidence_checker.specs.declared.fault.CheckFault.{CheckFault}
use Rattle.evidence_checker.specs.Numbers.{check_fault_number}
use Rattle.evidence_checker.specs.Tests.{line_tests}

pub nothing_refuted : (forms : List Form) (box : CostBox) (parts : List (ℕ × ℕ)) →
    sum_by (λ part. part.1) parts < 2 ^ 100 → Any (λ part. length forms ≤ part.0) parts
    ⊎ (pos 0 ≤ℤ greatest (weighted forms parts) box) → FirstOf (line_tests forms box (Refute parts)) 43
nothing_refuted forms box parts small nothing = inr (λ n failed. absurd (omega (arith, failed.1)), inl (refl, nothing))

any_past : (n : ℕ) (parts : List (ℕ × ℕ)) → All (λ part. part.0 < n) parts → Any (λ part. n ≤ part.0) parts → ⊥
any_past n parts known past = absurd (omega (arith, known past.0 past.1 past.2, ap (λ (p : ℕ × ℕ). p.0) past.3, past.4))

true_false : true ≡ false → ⊥
true_false e = cc

-- a sound line that isn't open fails no test
pub sound_fails_none : (forms : List Form) (box : CostBox) (entry : Entry) → SoundAt forms box entry →
    is_undone entry ≡ false → NoneOf (line_tests forms box entry)
sound_fails_none forms box (Tighten var side value row) sound closed = (
  λ n failed. failed.1,
  (λ n failed. failed.1, (λ n failed. failed.1 sound, (λ n failed. failed.1, tt))),
)
sound_fails_none forms box (Split var value) sound closed = (
  λ n failed. failed.1,
  (λ n failed. failed.1, (λ n failed. failed.1 sound, (λ n failed. failed.1, tt))),
)
sound_fails_none forms box (Halve var value wide) sound closed = (
  λ n failed. failed.1,
  (λ n failed. failed.1, (λ n failed. failed.1 sound, (λ n failed. failed.1, tt))),
)
sound_fails_none forms box (Refute parts) sound closed = (
  λ n failed. absurd (omega (arith, failed.1, sound.sum)),
  (
    λ n failed. elim (failed.1) [ inl past ↦ any_past (length forms) parts sound.rows past | inr above ↦ absurd (omega (arith, ints, above, sound.negative)) ],
    (λ n failed. failed.1, (λ n failed. failed.1, tt)),
  ),
)
sound_fails_none forms box Undone sound closed = absurd (true_false closed)

-- a Refute, as it stands among the lines
pub refute_line : (forms : List Form) (box : CostBox) (entry : Entry) (parts : List (ℕ × ℕ)) (r : Option CheckFault) →
    entry ≡ Refute parts → MatchOption r (Refutes forms parts box)
    (λ f. FirstOf (line_tests forms box (Refute parts)) (check_fault_number f)) →
    MatchOption r (SoundAt forms box entry × (is_undone entry ≡ false))
    (λ f. FirstOf (line_tests forms box entry) (check_fault_number f))
refute_line forms box entry parts None e failed = subst (λ (x : Entry). SoundAt forms box x × (is_undone x ≡ false)) (sym e) (failed, refl)
refute_line forms box entry parts (Some f) e failed = subst (λ (x : Entry). FirstOf (line_tests forms box x) (check_fault_number f)) (sym e) failed

pub false_true : IsTrue false → ⊥
false_true e = cc

-- whether a bound that makes the range smaller is a sound step, by the greatest value over the removed part
pub tightens_iff : (forms : List Form) (box : CostBox) (side : Side) (var value row : ℕ) (form : Form) (x : ℤ) →
    var < length box.low → row < length forms → IsSmaller box side var value → form_at forms row ≡ form →
    x ≡ greatest form (removed box side var value) → (IsTrue (lt_z x (pos 0)) → TightensAt forms box side var value row)
    × (TightensAt forms box side var value row → IsTrue (lt_z x (pos 0)))
tightens_iff forms box side var value row form x var_in row_in smaller form_is e =
    let both = negative_iff x (greatest form (removed box side var value)) e in (
      λ yes. record {
        var_known = var_in;
        smaller = smaller;
        row_known = row_in;
        refuted = subst (λ (f : Form). greatest f (removed box side var value) <ℤ pos 0) (sym form_is)
            (both.0 yes);
      },
      λ step. both.1 (subst (λ (f : Form). greatest f (removed box side var value) <ℤ pos 0) form_is step.refuted),
    )
