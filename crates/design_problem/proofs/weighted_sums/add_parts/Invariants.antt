use Rattle.std.proofs.Common.{◌≡◌, ℕ, ◌*◌, ◌^◌, ◌<◌, ◌≤◌, drop, take, length, get_or}
use Rattle.std.specs.Prelude.{pos, ◌+ℤ◌, nat_abs, sum_by}
use Rattle.design_problem.specs.Forms.{weighted}
use Rattle.design_problem.proofs.weighted_sums.add_parts.Given as goal

abbrev pub invariant-loop-part : goal.invariant-loop-part
invariant-loop-part l =
    let forms = l.forms in
    let used = sum_by (λ part. part.1) (take l.part-index l.parts) in
    record {
      constant : (l.constant +ℤ (weighted forms (drop l.part-index l.parts)).constant) ≡ (weighted forms l.parts).constant;
      each : (i : ℕ) → i < length l.initial.sums →
          (get_or l.sums i (pos 0) +ℤ get_or (weighted forms (drop l.part-index l.parts)).coefficients i (pos 0))
          ≡ get_or (weighted forms l.parts).coefficients i (pos 0);
      constant_size : nat_abs l.constant ≤ used * 2 ^ 27;
      each_size : (i : ℕ) → i < length l.initial.sums → nat_abs (get_or l.sums i (pos 0)) ≤ used * 2 ^ 27;
    }
