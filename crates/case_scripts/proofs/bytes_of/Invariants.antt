use Rattle.std.proofs.Common.{◌≡◌, ◌++◌, drop}
use Rattle.case_scripts.specs.Escapes.{all_unescaped, bytes_of}
use Rattle.case_scripts.proofs.Pieces.{texts_of}
use Rattle.case_scripts.proofs.bytes_of.Given as goal

abbrev pub invariant-loop-piece : goal.invariant-loop-piece
invariant-loop-piece l = l.bytes.items ++ all_unescaped (texts_of (drop l.piece-index l.others)) ≡ bytes_of l.text
