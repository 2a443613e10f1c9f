use Rattle.std.proofs.Common.{take}
use Rattle.lsa_bytes.specs.Vertices.{HasFound}
use Rattle.lsa_bytes.proofs.vertices.Found.among.Given as goal

-- the LSAs before this one are found
abbrev pub invariant-loop-place : goal.invariant-loop-place
invariant-loop-place l = HasFound l.kind (take l.place l.lsas) l.found
