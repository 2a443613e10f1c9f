use Rattle.std.proofs.Common.{◌≡◌, drop}
use Rattle.live_reader.specs.LiveFiles.{begins_object}
use Rattle.live_reader.proofs.reader.begins_object.Given as goal

-- the bytes that are left tell what all tell
abbrev pub invariant-loop-byte : goal.invariant-loop-byte
invariant-loop-byte l = begins_object (drop l.byte-index l.bytes) ≡ begins_object l.fn.bytes
