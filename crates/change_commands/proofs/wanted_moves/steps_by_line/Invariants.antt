-- the steps of the links so far
use Rattle.std.proofs.Common.{◌≡◌, ◌∷◌, [], map, take}
use Rattle.change_commands.proofs.wanted_moves.steps_by_line.Given as goal

abbrev pub invariant-loop-link : goal.invariant-loop-link
invariant-loop-link l = l.steps.items ≡ map (λ m. m ∷ []) (take l.link-index l.moved)
