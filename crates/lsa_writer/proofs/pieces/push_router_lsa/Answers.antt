use Rattle.std.proofs.Common.{◌∙◌, ◌+◌, ◌*◌, List, ℕ, ◌∷◌, ap, ◌++◌, length}
use Rattle.std.specs.Prelude.{flat_map}
use Rattle.std.specs.Int.{w16, to_be_bytes}
use Rattle.lsa_bytes.specs.Written.{header, link_bytes}
use Rattle.lsa_writer.specs.WrittenLsas.{links_alone}
use Rattle.lsa_writer.proofs.WritingSteps.{three_added, router_bytes}
use Rattle.lsa_writer.proofs.pieces.push_router_lsa.Goals as goal

pub returns : goal.returns
returns c =
    let old = c.args.bytes.now.items in
    let links = c.args.links.now in
    three_added old (header 1 c.args.id c.args.id (24 + 12 * length links)) (0 ∷ 0 ∷ to_be_bytes w16 (length links)) (flat_map link_bytes (links_alone links))
    c.push_header.new.bytes.items c.push_count.new.bytes.items c.push_links.new.bytes.items c.in_ok-push_header.ensures
    c.in_ok-push_count.ensures c.in_ok-push_links.ensures
    ∙ ap (λ (bytes : List ℕ). old ++ bytes) (router_bytes c.args.id links)
