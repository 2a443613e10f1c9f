use Rattle.std.proofs.Common.{◌≡◌, ◌+◌, drop}
use Rattle.live_reader.specs.declared.text.Within.TheVariants.{Blank}
use Rattle.live_reader.specs.Texts.{token_start}
use Rattle.live_reader.proofs.text.token_start.Given as goal

-- what is left tells where the token begins
abbrev pub invariant-loop-offset : goal.invariant-loop-offset
invariant-loop-offset l = l.offset + token_start l.within l.left (drop l.offset l.text) ≡ token_start Blank l.fn.number l.fn.text
