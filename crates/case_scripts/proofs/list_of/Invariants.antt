use Rattle.case_scripts.specs.Words.{comma_parts}
use Rattle.case_scripts.proofs.Listing.{IsListedSoFar}
use Rattle.case_scripts.proofs.list_of.Given as goal

abbrev pub invariant-loop-part : goal.invariant-loop-part
invariant-loop-part g l = IsListedSoFar g.T.FromStr.from_str_gives l.part-index l.part-items l.list.items (comma_parts l.word)
