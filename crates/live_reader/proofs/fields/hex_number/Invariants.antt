use Rattle.std.proofs.Common.{◌≡◌, ◌<◌, ◌^◌, drop}
use Rattle.live_reader.specs.Fields.{hex_behind}
use Rattle.live_reader.proofs.fields.hex_number.Given as goal

-- the value and the digits that are left tell what all digits tell
abbrev pub invariant-loop-byte : goal.invariant-loop-byte
invariant-loop-byte l = record {
  told : hex_behind l.value (drop l.byte-index l.text) ≡ hex_behind 0 l.fn.text;
  small : l.value < 16 ^ l.byte-index;
}
