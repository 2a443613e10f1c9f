use Rattle.std.proofs.Common.{◌^◌, arith, sym, length-take}
use Rattle.std.proofs.lemmas.List.{take_all}
use Rattle.cut_advisors.proofs.widest_first.countable.Goals as goal

pub slice_bounds-result-end : goal.slice_bounds-result-end
slice_bounds-result-end c = let h = c.if-candidates.false in simp length-take (omega arith)

pub returns-then-candidates : goal.returns-then-candidates
returns-then-candidates c = sym (take_all (2 ^ 32) c.args.candidates.now c.if-candidates.true)
