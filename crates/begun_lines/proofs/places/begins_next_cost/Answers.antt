use Rattle.std.proofs.Common.{refl}
use Rattle.begun_lines.proofs.TruthLaws.{either-first, either-second}
use Rattle.begun_lines.proofs.places.begins_next_cost.Goals as goal

pub returns-then-begins_router : goal.returns-then-begins_router
returns-then-begins_router c = λ text. either-first c.begins_router.result c.begins_router.result c.begins_router.ensures c.if-begins_router.true refl

pub returns-else-begins_router : goal.returns-else-begins_router
returns-else-begins_router c =
    λ text.
    either-second c.begins_router.result c.begins_interface_again.result c.begins_interface_again.result
    c.begins_router.ensures (c.begins_interface_again.ensures text) c.if-begins_router.false refl
