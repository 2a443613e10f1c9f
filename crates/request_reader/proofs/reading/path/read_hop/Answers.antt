use Rattle.std.proofs.Common.{◌≡◌, ◌∙◌, sym, None}
use Rattle.request_reader.specs.Routes.{if_both}
use Rattle.request_reader.proofs.ReadingRoutes.{hop_uncut, hop_cut, no_router, no_interface, hop_read}
use Rattle.request_reader.proofs.reading.path.read_hop.Goals as goal
use Rattle.request_reader.proofs.reading.path.read_hop.Goals.{then-is_empty-via-then-is_empty, then-is_empty-via-else-is_empty+then-is_empty-2}

pub returns-in_default : goal.returns-in_default
returns-in_default c = sym (hop_uncut c.args.word.now c.in_default.ensures.pieces)

pub returns-then-is_empty : goal.returns-then-is_empty
returns-then-is_empty c =
    let router = c.in-Some.router.now in
    let interface = c.in-Some.interface.now in
    let none : if_both router interface ≡ None = elim c.then-is_empty.branch [
      | then-is_empty-via-then-is_empty w ↦ no_router router interface (sym c.is_empty.ensures ∙ w.if-is_empty.true)
      | then-is_empty-via-else-is_empty+then-is_empty-2 w ↦ no_interface router interface (sym w.is_empty-else-is_empty.ensures ∙ w.if-is_empty-2.true)
    ] in
    sym (hop_cut c.args.word.now router interface c.in-Some.ensures.parts c.in-Some.ensures.pieces ∙ none)

pub returns : goal.returns
returns c =
    sym (hop_read c.args.word.now c.in-Some.router.now c.in-Some.interface.now c.in_ok-router.router
    c.in_ok-interface.interface c.in-Some.ensures.parts c.in-Some.ensures.pieces
    (sym c.is_empty.ensures ∙ c.if-is_empty.false) (sym c.is_empty-else-is_empty.ensures ∙ c.if-is_empty-2.false)
    c.in_ok-router.ensures c.in_ok-interface.ensures)
