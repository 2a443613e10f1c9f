use Rattle.std.proofs.Common.{◌≡◌, ◌++◌, take}
use Rattle.evidence_text.proofs.line_buffer.LineBuffer.push_bytes.Given as goal

abbrev pub invariant-loop-byte : goal.invariant-loop-byte
invariant-loop-byte l = l.self ≡ l.initial.self ++ take l.byte-index l.piece
