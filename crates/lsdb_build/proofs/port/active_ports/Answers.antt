use Rattle.std.proofs.Common.{◌≡◌, ℕ, ◌+◌, ◌<◌, ◌++◌, List, length, get_or, drop, ap, sym, ◌∙◌, arith, append_assoc, subst}
use Rattle.std.proofs.lemmas.List.{at_drop_more, take_all}
use Rattle.std.proofs.lemmas.List.Elements.{All-more, All-same}
use Rattle.interface_model.specs.Records.{Router, IsRouter}
use Rattle.lsdb_build.specs.Neighbours.{ports_of, ports_from}
use Rattle.lsdb_build.proofs.port.active_ports.Goals as goal

-- the interfaces from a router on: its own, then those from the next one on
ports_from-more : (area n : ℕ) (routers : List Router) (i : ℕ) (r : Router) → i < length routers →
    r ≡ get_or routers i r → ports_from area n (drop i routers) ≡ ports_of area n r.interfaces
    ++ ports_from area (n + 1) (drop (i + 1) routers)
ports_from-more area n routers i r within is =
    at_drop_more (ports_from area n) routers i r within
    ∙ ap (λ (x : Router). ports_of area n x.interfaces ++ ports_from area (n + 1) (drop (i + 1) routers)) (sym is)

pub loop-config-preserved : goal.loop-config-preserved
loop-config-preserved c =
    let more = ports_from-more c.args.area c.loop-config.router c.args.configs.now c.loop-config.config-index
    c.config-item.result c.loop-config-test.true c.config-item.is in
    record {
      found = rw (c.in_ok-push_ports.ensures.pushed, append_assoc, ← more) c.loop-config.invariant.found;
      place = omega arith;
      valid = All-more IsRouter c.args.configs.now c.loop-config.config-index c.config-item.result
          c.loop-config-test.true c.loop-config.invariant.valid
          (subst IsRouter c.config-item.is c.push_ports.ensures.valid);
    }

pub returns-clause-valid : goal.returns-clause-valid
returns-clause-valid c = All-same IsRouter c.args.configs.now _
    (sym (take_all c.loop-config.config-index c.args.configs.now c.loop-config-test.false))
    c.loop-config.invariant.valid
