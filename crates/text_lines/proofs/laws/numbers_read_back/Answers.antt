use Rattle.text_lines.proofs.Digits.{length-decimal-le}
use Rattle.text_lines.proofs.Printed.{decimal-same}
use Rattle.text_lines.proofs.WordLaws.{decimal-word}
use Rattle.text_lines.proofs.NumberLaws.{number-decimal}
use Rattle.text_lines.proofs.laws.numbers_read_back.Goals as goal

pub returns : goal.returns
returns c = (decimal-word, length-decimal-le, number-decimal, decimal-same)
