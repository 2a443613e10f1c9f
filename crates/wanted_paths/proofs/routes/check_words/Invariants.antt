use Rattle.std.proofs.Common.{◌≡◌, drop}
use Rattle.wanted_paths.specs.LineFaults.{hop_faults}
use Rattle.wanted_paths.proofs.routes.check_words.Given as goal

abbrev pub invariant-loop-hop : goal.invariant-loop-hop
invariant-loop-hop l = hop_faults l.names l.line (drop l.hop-index l.hops) l.last ≡ hop_faults l.names l.line l.hops l.last
