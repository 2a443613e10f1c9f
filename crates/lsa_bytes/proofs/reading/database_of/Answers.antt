use Rattle.std.proofs.Common.{◌∙◌, ◌^◌, ◌-◌, sym, ap, length, subst, List, arith}
use Rattle.std.proofs.lemmas.Result.{err_from_is_err_and}
use Rattle.lsa_bytes.specs.declared.instances.Instance.{Instance}
use Rattle.lsa_bytes.specs.Newest.{HasNewest}
use Rattle.lsa_bytes.proofs.Counting.{IsMidway, midway_begin, type_of_first, midway_counts, midway_passes, midway_told, midway_end, counted_database}
use Rattle.lsa_bytes.proofs.reading.database_of.Goals as goal

pub loop-instance-init : goal.loop-instance-init
loop-instance-init c = record {
  midway = midway_begin c.args.instances.items c.into_iter-instance-iterator.result.rest.items c.new-reader.result (2 ^ 32 - 2)
      c.requires c.into_iter-instance-iterator.ensures.into_iter_gives.0 c.new-reader.ensures;
  long = omega (
    arith,
    c.into_iter-instance-iterator.ensures.into_iter_gives.1,
    ap length c.into_iter-instance-iterator.ensures.into_iter_gives.0,
    c.as_slice.ensures.len,
    ap length c.as_slice.ensures.value,
  );
}

pub with-requires : goal.with-requires
with-requires c =
    type_of_first c.args.instances.items c.next.new.self.rest.items c.in-Some.instance c.loop-instance.reader
    (subst (λ (rest : List Instance). IsMidway c.args.instances.items rest c.loop-instance.reader) c.in-Some.ensures.steps.0 c.loop-instance.invariant.midway)

pub returns-in_err-reader : goal.returns-in_err-reader
returns-in_err-reader c =
    let all = c.args.instances.items in
    let midway = subst (λ (rest : List Instance). IsMidway all rest c.loop-instance.reader) c.in-Some.ensures.steps.0 c.loop-instance.invariant.midway in
    let has = subst (HasNewest c.in_ok-newest.newest.by_name) c.as_slice.ensures.value c.in_ok-newest.ensures in
    let p = err_from_is_err_and c.from_residual-in_err-reader.result c.from_residual-in_err-reader.ensures.1 in
    rw (p.1, p.2) (midway_told all c.next.new.self.rest.items c.in-Some.instance c.loop-instance.reader c.in_err-reader.field-0.0
    midway (sym (c.counts.ensures all has) ∙ c.if-counts.true) c.in_err-reader.ensures)

pub loop-instance-preserved-then-counts : goal.loop-instance-preserved-then-counts
loop-instance-preserved-then-counts c =
    let all = c.args.instances.items in
    let midway = subst (λ (rest : List Instance). IsMidway all rest c.loop-instance.reader) c.in-Some.ensures.steps.0 c.loop-instance.invariant.midway in
    let has = subst (HasNewest c.in_ok-newest.newest.by_name) c.as_slice.ensures.value c.in_ok-newest.ensures in
    record {
      midway = midway_counts all c.next.new.self.rest.items c.in-Some.instance c.loop-instance.reader c.in_ok-reader.reader
          midway (sym (c.counts.ensures all has) ∙ c.if-counts.true) c.in_ok-reader.ensures.0 c.in_ok-reader.ensures.1;
      long = omega (arith, c.loop-instance.invariant.long, ap length c.in-Some.ensures.steps.0, c.in-Some.ensures.steps.1);
    }

pub loop-instance-preserved-else-counts : goal.loop-instance-preserved-else-counts
loop-instance-preserved-else-counts c =
    let all = c.args.instances.items in
    let midway = subst (λ (rest : List Instance). IsMidway all rest c.loop-instance.reader) c.in-Some.ensures.steps.0 c.loop-instance.invariant.midway in
    let has = subst (HasNewest c.in_ok-newest.newest.by_name) c.as_slice.ensures.value c.in_ok-newest.ensures in
    record {
      midway = midway_passes all c.next.new.self.rest.items c.in-Some.instance c.loop-instance.reader
          midway (sym (c.counts.ensures all has) ∙ c.if-counts.false);
      long = omega (arith, c.loop-instance.invariant.long, ap length c.in-Some.ensures.steps.0, c.in-Some.ensures.steps.1);
    }

pub loop-instance-preserved : goal.loop-instance-preserved
loop-instance-preserved c =
    let all = c.args.instances.items in
    let midway = subst (λ (rest : List Instance). IsMidway all rest c.loop-instance.reader) c.in-Some.ensures.steps.0 c.loop-instance.invariant.midway in
    let has = subst (HasNewest c.in_ok-newest.newest.by_name) c.as_slice.ensures.value c.in_ok-newest.ensures in
    record {
      midway = midway_passes all c.next.new.self.rest.items c.in-Some.instance c.loop-instance.reader
          midway (sym (c.counts.ensures all has) ∙ c.if-counts.false);
      long = omega (arith, c.loop-instance.invariant.long, ap length c.in-Some.ensures.steps.0, c.in-Some.ensures.steps.1);
    }

pub from_items-requires : goal.from_items-requires
from_items-requires c =
    counted_database c.args.instances.items c.loop-instance.reader c.into_lsas.result.items c.requires
    (midway_end c.args.instances.items c.loop-instance.instance-iterator.rest.items c.loop-instance.reader c.loop-instance.invariant.midway
    (sym c.loop-instance.invariant.long ∙ c.in-None.ensures.steps.0)).1
    c.into_lsas.ensures.lsas c.into_lsas.ensures.faultless

pub returns : goal.returns
returns c =
    let end = midway_end c.args.instances.items c.loop-instance.instance-iterator.rest.items c.loop-instance.reader
    c.loop-instance.invariant.midway (sym c.loop-instance.invariant.long ∙ c.in-None.ensures.steps.0) in
    (end.0, c.from_items.ensures ∙ c.into_lsas.ensures.lsas ∙ end.1)
