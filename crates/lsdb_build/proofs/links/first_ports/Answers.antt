use Rattle.std.proofs.Common.{◌+◌, ◌++◌, ◌∷◌, cond, drop, take, reverse, map, ap, sym, ◌∙◌, append_assoc}
use Rattle.lsdb_build.specs.Neighbours.{first_members}
use Rattle.lsdb_build.specs.Tallies.{same_subnet, subnet_of}
use Rattle.lsdb_build.proofs.FirstPlaces.{first_members-more}
use Rattle.lsdb_build.proofs.Tallies.{tally_on, tally_few}
use Rattle.lsdb_build.proofs.links.first_ports.Goals as goal
use Rattle.lsdb_build.proofs.links.first_ports.Goals.{then-is_first_member+in_ok-push, else-is_first_member}

pub add-requires : goal.add-requires
add-requires c = record {
  few = tally_few same_subnet subnet_of c.loop-port.seen.counts c.args.links.now
      c.loop-port.port-index c.loop-port.invariant.seen c.requires.few c.subnet_of.result;
}

pub loop-port-preserved : goal.loop-port-preserved
loop-port-preserved c =
    let links = c.args.links.now in
    let i = c.loop-port.port-index in
    let p = c.port-item.result in
    let before = reverse (take i links) in
    let more = first_members-more links i p c.loop-port-test.true c.port-item.is c.is_first_member.result
    (c.is_first_member.ensures before c.loop-port.invariant.seen) in
    let rest = first_members (reverse (take (i + 1) links)) (drop (i + 1) links) in
    record {
      seen = tally_on same_subnet subnet_of c.add.new.self.counts links i p c.loop-port-test.true c.port-item.is
          c.subnet_of.result c.subnet_of.ensures
          (c.in_ok-add.ensures.added (map subnet_of before) c.loop-port.invariant.seen);
      left = elim c.if-is_first_member.branch [
        | then-is_first_member+in_ok-push w ↦
            rw (w.found-is, w.in_ok-push.ensures.items, w.again.ensures, append_assoc)
            (ap (λ xs. c.loop-port.found.items ++ xs) (sym (more ∙ ap (λ b. cond b (p ∷ rest) rest) w.if-is_first_member.true)) ∙ c.loop-port.invariant.left)
        | else-is_first_member w ↦
            rw w.found-is (ap (λ xs. c.loop-port.found.items ++ xs)
            (sym (more ∙ ap (λ b. cond b (p ∷ rest) rest) w.if-is_first_member.false))
            ∙ c.loop-port.invariant.left)
      ];
    }
