use Rattle.std.proofs.Common.{◌+◌, ap, ◌∙◌}
use Rattle.std.specs.Option.{option_and_then}
use Rattle.json.specs.Json.{object}
use Rattle.live_reader.specs.Places.{members_at}
use Rattle.live_reader.specs.JsonLinks.{link_kind_of, link_of_kind}
use Rattle.live_reader.proofs.links.link_said.Goals as goal

pub returns-in_err-text : goal.returns-in_err-text
returns-in_err-text c ms stands =
    c.from_residual.ensures
    ∙ ap (option_and_then (λ text. link_of_kind (link_kind_of text) (members_at (c.args.place + 1) ms))) (c.in_err-text.ensures (object ms) stands)

pub returns : goal.returns
returns c ms stands =
    let members = members_at (c.args.place + 1) ms in
    c.link_of_kind.ensures ms stands
    ∙ ap (λ kind. link_of_kind kind members) (c.link_kind_of.ensures ∙ ap link_kind_of c.as_bytes.ensures.value)
    ∙ ap (option_and_then (λ text. link_of_kind (link_kind_of text) members)) (c.in_ok-text.ensures (object ms) stands)
