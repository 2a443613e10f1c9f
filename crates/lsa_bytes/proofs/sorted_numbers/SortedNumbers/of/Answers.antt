use Rattle.std.proofs.Common.{sym, nat_eq}
use Rattle.std.proofs.lemmas.List.Sorted.{list_any-IsPermutation}
use Rattle.lsa_bytes.proofs.sorted_numbers.SortedNumbers.of.Goals as goal

pub returns : goal.returns
returns c = λ number.
    sym (list_any-IsPermutation (λ other. nat_eq other number) c.args.numbers.items c.sort_unstable.new.self.items c.sort_unstable.ensures.permutation)
