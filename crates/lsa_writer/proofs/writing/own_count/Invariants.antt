-- all before are of the router
use Rattle.std.proofs.Common.{◌≡◌, ◌+◌, drop}
use Rattle.lsa_writer.specs.Places.{own_count}
use Rattle.lsa_writer.proofs.writing.own_count.Given as goal

abbrev pub invariant-loop-place : goal.invariant-loop-place
invariant-loop-place l = l.place + own_count l.router (drop l.place l.said) ≡ own_count l.router l.said
