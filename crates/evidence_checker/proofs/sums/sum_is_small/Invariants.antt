use Rattle.std.proofs.Common.{◌≡◌, ◌+◌, ◌^◌, ◌<◌, drop}
use Rattle.std.specs.Prelude.{sum_by}
use Rattle.evidence_checker.proofs.sums.sum_is_small.Given as goal

abbrev pub invariant-loop-part : goal.invariant-loop-part
invariant-loop-part l = record {
  left : sum_by (λ part. part.1) l.parts + l.room ≡ 2 ^ 100 + sum_by (λ part. part.1) (drop l.part-index l.parts);
  some : 0 < l.room;
}
