use Rattle.std.proofs.Common.{◌≡◌, map, take}
use Rattle.least_total.specs.Moving.{moved_entry}
use Rattle.least_total.proofs.moving.Move.entries.Given as goal

abbrev pub invariant-loop-entry : goal.invariant-loop-entry
invariant-loop-entry l = l.new.items ≡ map (moved_entry l.self.place l.self.others) (take l.entry-index l.entries)
