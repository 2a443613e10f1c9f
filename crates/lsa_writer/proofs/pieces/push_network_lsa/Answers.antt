use Rattle.std.proofs.Common.{◌∙◌, ◌+◌, ◌*◌, List, ℕ, ap, ◌++◌, length}
use Rattle.std.specs.Prelude.{flat_map}
use Rattle.std.specs.Int.{w32, to_be_bytes}
use Rattle.lsa_bytes.specs.Written.{header}
use Rattle.lsa_writer.specs.Ends.{member_ends}
use Rattle.lsa_writer.specs.WrittenLsas.{mask_of, routers_in}
use Rattle.lsa_writer.proofs.WritingSteps.{three_added, network_bytes}
use Rattle.lsa_writer.proofs.pieces.push_network_lsa.Goals as goal

pub returns : goal.returns
returns c =
    let old = c.args.bytes.now.items in
    let from = c.args.from in
    let members = c.args.members.now in
    let ends = c.args.ends.now in
    three_added old (header 2 from.address from.router (24 + 4 * length members))
    (to_be_bytes w32 (mask_of from.length)) (flat_map (to_be_bytes w32) (routers_in (member_ends ends members)))
    c.push_header.new.bytes.items c.push_mask.new.bytes.items c.push_members.new.bytes.items c.in_ok-push_header.ensures
    c.in_ok-push_mask.ensures c.in_ok-push_members.ensures
    ∙ ap (λ (bytes : List ℕ). old ++ bytes) (network_bytes from ends members)
