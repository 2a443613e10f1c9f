use Rattle.std.proofs.Common.{◌≡◌, true, take}
use Rattle.std.specs.List.{list_all}
use Rattle.cost_base.specs.Decimal.{is_digit, decimal_value}
use Rattle.text_lines.proofs.number_reader.digits_value.Given as goal

-- the bytes so far are digits, of this value
abbrev pub invariant-loop-byte : goal.invariant-loop-byte
invariant-loop-byte l =
    record {
      digits : list_all is_digit (take l.byte-index l.text) ≡ true;
      value : l.value ≡ decimal_value (take l.byte-index l.text);
    }
