use Rattle.std.proofs.Common.{◌+◌, refl, drop}
use Rattle.wanted_paths.specs.LineFaults.{interface_faults, hop_faults}
use Rattle.wanted_paths.proofs.LoopSteps.{no_fault, hop_known}
use Rattle.wanted_paths.proofs.routes.check_words.Goals as goal

pub loop-hop-preserved : goal.loop-hop-preserved
loop-hop-preserved c =
    let d = c.args.names.now in
    let line = c.args.line in
    let hops = c.args.hops.now in
    let i = c.loop-hop.hop-index in
    let hop = c.hop-item.result in
    let last = c.args.last.now in
    no_fault (λ hs. hop_faults d line hs last) hops i hop (interface_faults d line hop.0 hop.1) (hop_faults d line hops last)
    (hop_faults d line (drop (i + 1) hops) last)
    c.loop-hop-test.true c.hop-item.is refl (hop_known d line hop.0 hop.1 c.as_bytes.result.now c.as_bytes-in-loop-hop.result.now c.as_bytes.ensures
    c.as_bytes-in-loop-hop.ensures c.in_ok-link.ensures.made.0) c.loop-hop.invariant
