-- none before has the name
use Rattle.std.proofs.Common.{◌≡◌, drop}
use Rattle.lsa_writer.specs.Ends.{interface_named}
use Rattle.lsa_writer.proofs.ends.place_of.Given as goal

abbrev pub invariant-loop-place : goal.invariant-loop-place
invariant-loop-place l = interface_named l.name (drop l.place l.interfaces) ≡ interface_named l.name l.interfaces
