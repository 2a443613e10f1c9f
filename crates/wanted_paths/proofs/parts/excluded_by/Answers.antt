use Rattle.std.proofs.Common.{◌+◌, refl, drop}
use Rattle.wanted_paths.specs.LineFaults.{part_faults, parts_faults}
use Rattle.wanted_paths.specs.Excluded.{excluded_by, excluded_by_all}
use Rattle.wanted_paths.proofs.LoopSteps.{no_fault, added, none_at_all, all_made}
use Rattle.wanted_paths.proofs.parts.excluded_by.Goals as goal

pub loop-part-preserved : goal.loop-part-preserved
loop-part-preserved c =
    let d = c.args.names.now in
    let g = c.args.graph.now in
    let line = c.args.line in
    let parts = c.args.parts.now in
    let i = c.loop-part.part-index in
    let part = c.part-item.result in
    let within = c.loop-part-test.true in
    let is = c.part-item.is in record {
      faults =
          no_fault (parts_faults d line) parts i part (part_faults d line part) (parts_faults d line parts) (parts_faults d line (drop (i + 1) parts)) within is
          refl
          c.in_ok-push_part.ensures.made c.loop-part.invariant.faults;
      excluded =
          added (excluded_by_all d g) parts i part c.loop-part.excluded.items (excluded_by d g part) c.push_part.new.excluded.items (excluded_by_all d g parts)
          (excluded_by_all d g (drop (i + 1) parts)) within is refl c.in_ok-push_part.ensures.excluded c.loop-part.invariant.excluded;
    }

pub returns-clause-made : goal.returns-clause-made
returns-clause-made c =
    let d = c.args.names.now in
    let parts = c.args.parts.now in
    let i = c.loop-part.part-index in (
      none_at_all (parts_faults d c.args.line) parts i refl c.loop-part-test.false c.loop-part.invariant.faults,
      all_made (excluded_by_all d c.args.graph.now) parts i c.loop-part.excluded.items refl c.loop-part-test.false c.loop-part.invariant.excluded,
    )
