use Rattle.std.proofs.Common.{◌+◌, Some, None, Option, cond, sym, ap, ◌∙◌}
use Rattle.std.specs.Prelude.{option_map}
use Rattle.std.proofs.lemmas.Bool.{ne_eqb}
use Rattle.lsa_bytes.specs.declared.LsaLink.{LsaLink}
use Rattle.json.specs.Json.{object}
use Rattle.live_reader.specs.Places.{members_at}
use Rattle.live_reader.specs.JsonLinks.{link_with}
use Rattle.live_reader.proofs.links.link_of_kind.Goals as goal

pub returns-in-Some : goal.returns-in-Some
returns-in-Some c ms stands =
    let members = members_at (c.args.place + 1) ms in
    ap (option_map {U = Option LsaLink} Some) (c.in-Some.ensures (object ms) stands)
    ∙ sym (ap (λ b. cond b (Some None) (option_map Some (link_with c.args.kind members))) (ne_eqb c.args.kind 0 c.if-kind-eq0.false))

pub returns-in-None : goal.returns-in-None
returns-in-None c ms stands =
    let members = members_at (c.args.place + 1) ms in
    ap (option_map {U = Option LsaLink} Some) (c.in-None.ensures (object ms) stands)
    ∙ sym (ap (λ b. cond b (Some None) (option_map Some (link_with c.args.kind members))) (ne_eqb c.args.kind 0 c.if-kind-eq0.false))
