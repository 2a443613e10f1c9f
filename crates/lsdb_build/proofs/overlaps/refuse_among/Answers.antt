use Rattle.std.proofs.Common.{◌≡◌, false, take, reverse, All, ap, sym, ◌∙◌, subst}
use Rattle.std.proofs.lemmas.Bool.{false≢true, false_from_ne_true}
use Rattle.std.proofs.lemmas.List.Elements.{All-cons, All-weaker}
use Rattle.lsdb_build.specs.declared.port.Subnet.{Subnet}
use Rattle.lsdb_build.specs.Neighbours.{Port}
use Rattle.lsdb_build.specs.Tallies.{subnet_of, subnet_of_length}
use Rattle.lsdb_build.specs.Owners.{IsOwnerNoted, HasSubnet, HasPrefixes}
use Rattle.lsdb_build.specs.Topology.{is_overlap, at_port}
use Rattle.lsdb_build.proofs.FirstPlaces.{left_on, first_met, none_met, list_any-reverse, reverse_more}
use Rattle.lsdb_build.proofs.overlaps.refuse_among.Goals as goal
use Rattle.lsdb_build.specs.declared.fault.TopologyFault.TheVariants.{OverlapPrefix}
use Rattle.lsdb_build.proofs.overlaps.refuse_among.Goals.{else-may_overlap-via-then-may_overlap+else-is_overlap, else-may_overlap-via-else-may_overlap}

pub loop-i-preserved : goal.loop-i-preserved
loop-i-preserved c =
    let ports = c.args.ports.now in
    let i = c.loop-i.i in
    let p = c.index-ports-i.result in
    let before = reverse (take i ports) in
    let seen = HasSubnet c.loop-i.seen.by_prefix in
    let more = HasSubnet c.note.new.self.by_prefix in
    let old = HasPrefixes c.loop-i.enclosing.by_prefix in
    let new = HasPrefixes c.note_prefixes.new.enclosing.by_prefix in
    let here : more p = subst (λ (s : Subnet). IsOwnerNoted c.note.new.self.by_prefix p.router s) c.subnet_of.ensures
    (subst (λ (q : Port). IsOwnerNoted c.note.new.self.by_prefix q.router c.subnet_of.result) c.port.view_is c.in_ok-note.ensures.noted) in
    let fails : is_overlap before p ≡ false = elim c.else-may_overlap.branch [
      | else-may_overlap-via-then-may_overlap+else-is_overlap w ↦ list_any-reverse _ (take i ports) ∙ sym w.is_overlap.ensures ∙ w.if-is_overlap.false
      | else-may_overlap-via-else-may_overlap w ↦ false_from_ne_true (is_overlap before p)
          (λ does. false≢true (sym w.if-may_overlap.false
          ∙ c.may_overlap.ensures before c.loop-i.invariant.seen c.loop-i.invariant.noted does))
    ] in
    record {
      seen = subst (All more) (reverse_more ports i p c.loop-i-test.true c.index-ports-i.is)
          (All-cons more p before here (All-weaker seen more (λ q has. c.in_ok-note.ensures.kept q.router (subnet_of q) has) before c.loop-i.invariant.seen));
      noted = subst (All new) (reverse_more ports i p c.loop-i-test.true c.index-ports-i.is)
          (All-cons new p before c.in_ok-note_prefixes.ensures.noted
          (All-weaker old new (λ q has l below. c.in_ok-note_prefixes.ensures.kept q.router (subnet_of_length q l)
          (has l below)) before c.loop-i.invariant.noted));
      left = left_on is_overlap ports i c.loop-i.invariant.left p c.loop-i-test.true c.index-ports-i.is fails;
    }

pub returns-then-is_overlap : goal.returns-then-is_overlap
returns-then-is_overlap c =
    let ports = c.args.ports.now in
    let i = c.loop-i.i in
    rw c.refusal_at.ensures
    (ap (at_port OverlapPrefix) (first_met is_overlap ports i c.loop-i.invariant.left c.index-ports-i.result
    c.loop-i-test.true c.index-ports-i.is (list_any-reverse _ (take i ports) ∙ sym c.is_overlap.ensures
    ∙ c.if-is_overlap.true)))

pub returns : goal.returns
returns c = ap (at_port OverlapPrefix) (none_met is_overlap c.args.ports.now c.loop-i.i c.loop-i.invariant.left c.loop-i-test.false)
