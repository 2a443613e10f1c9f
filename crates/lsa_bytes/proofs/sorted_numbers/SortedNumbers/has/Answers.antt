use Rattle.std.proofs.Common.{ap, sym, subst, ◌∙◌, IsSorted, nat_eq}
use Rattle.std.specs.List.{list_any}
use Rattle.std.specs.Ordering.{nat_cmp}
use Rattle.lsa_bytes.proofs.MemberLaws.{found_by_halving}
use Rattle.lsa_bytes.proofs.sorted_numbers.SortedNumbers.has.Goals as goal

pub returns : goal.returns
returns c =
    c.is_ok.ensures.value
    ∙ found_by_halving c.deref.result.now c.args.number c.binary_search.result
    (subst (IsSorted nat_cmp) (sym c.deref.ensures.value) c.self.invariant) c.binary_search.ensures.position
    ∙ ap (list_any (λ other. nat_eq other c.args.number)) (c.deref.ensures.value ∙ c.self.view_is)
