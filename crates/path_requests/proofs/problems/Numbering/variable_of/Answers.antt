use Rattle.std.proofs.Common.{◌∙◌, ap, sym, subst, ℕ, rules}
use Rattle.std.specs.Prelude.{count_by, nat_lt}
use Rattle.std.specs.List.Sorted.{IsPartitionedBy}
use Rattle.std.proofs.lemmas.List.Sorted.{IsPartitionPoint-from_clause}
use Rattle.path_requests.specs.Meaning.{owner_at, owners}
use Rattle.path_requests.proofs.OwnerPlaces.{owners_partitioned, count_at_point}
use Rattle.path_requests.proofs.problems.Numbering.variable_of.Goals as goal

pub returns : goal.returns
returns c =
    let a = c.args.self.now.choices.now.asked in
    let d = c.args.self.now.choices.now.database in
    let test = λ (m : ℕ). nat_lt m c.owner-owner.result in
    let parted = subst (IsPartitionedBy test) (sym c.args.self.now.all) (owners_partitioned a d c.owner-owner.result) in
    let point = IsPartitionPoint-from_clause test c.args.self.now.own.now _ c.partition_point.ensures.partitioned parted (λ a r q k. search rules) in
    sym (count_at_point test c.args.self.now.own.now _ c.partition_point.ensures.bound point)
    ∙ ap (count_by test) c.args.self.now.all
    ∙ ap (λ (o : ℕ). count_by (λ m. nat_lt m o) (owners a d)) (c.owner-owner.ensures
    ∙ ap (owner_at a d c.args.number) (sym c.requires))
