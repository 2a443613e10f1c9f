use Rattle.std.proofs.Common.{inl, inr, ap, sym, ◌∙◌, subst, arith}
use Rattle.std.proofs.lemmas.Bool.{cases_order}
use Rattle.lsdb_build.specs.declared.port.Subnet.{Subnet}
use Rattle.lsdb_build.specs.Neighbours.{Port}
use Rattle.lsdb_build.specs.Tallies.{subnet_of_length}
use Rattle.lsdb_build.specs.Owners.{IsOwnerNoted}
use Rattle.lsdb_build.proofs.overlaps.note_prefixes.Goals as goal

pub loop-length-preserved : goal.loop-length-preserved
loop-length-preserved c =
    let owners = c.note.new.self.by_prefix in
    let p = c.args.port.now in
    let here = subst (λ (q : Port). IsOwnerNoted owners q.router c.prefix_of.result) c.port.view_is c.in_ok-note.ensures.noted in
    record {
      noted = λ k below. elim (cases_order k c.loop-length.length) [
        | inl same ↦ subst (λ (s : Subnet). IsOwnerNoted owners p.router s) (c.prefix_of.ensures ∙ ap (subnet_of_length p) (sym same)) here
        | inr (inl before) ↦ c.in_ok-note.ensures.kept p.router (subnet_of_length p k) (c.loop-length.invariant.noted k before)
        | inr (inr after) ↦ absurd (omega arith)
      ];
      kept = λ router key there. c.in_ok-note.ensures.kept router key (c.loop-length.invariant.kept router key there);
    }
