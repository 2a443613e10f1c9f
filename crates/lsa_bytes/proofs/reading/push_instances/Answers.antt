use Rattle.std.proofs.Common.{ℕ, ◌∙◌, ap, take, drop, length, ◌-◌, List, ◌++◌, refl, arith}
use Rattle.std.proofs.lemmas.Result.{err_from_is_err_and}
use Rattle.lsa_bytes.specs.declared.instances.Instance.{Instance}
use Rattle.lsa_bytes.proofs.Lengths.{begins_whole}
use Rattle.lsa_bytes.proofs.ReadSoFar.{next, body_refused}
use Rattle.lsa_bytes.proofs.reading.push_instances.Goals as goal

pub returns-in_err-said_at : goal.returns-in_err-said_at
returns-in_err-said_at c =
    let rest = c.loop-rest.rest.now in
    let p = err_from_is_err_and c.from_residual-in_err-said_at.result c.from_residual-in_err-said_at.ensures.1 in
    rw (p.1, p.2) (body_refused c.args.bytes.now rest c.split_at.result.0.now c.split_at.result.1.now c.loop-rest.instances.items
    (length c.args.bytes.now - length rest) c.in_err-said_at.field-0.0 c.loop-rest.invariant refl
    (record {
      lsa_is = c.split_at.ensures.front ∙ ap (λ (n : ℕ). take n rest) c.in_ok-length.ensures.1;
      behind_is = c.split_at.ensures.back ∙ ap (λ (n : ℕ). drop n rest) c.in_ok-length.ensures.1;
      begins = begins_whole rest c.in_ok-length.ensures.0;
    }) c.in_err-said_at.ensures)

pub loop-rest-preserved : goal.loop-rest-preserved
loop-rest-preserved c =
    let rest = c.loop-rest.rest.now in
    let place = length c.args.bytes.now - length rest in
    next c.args.bytes.now rest c.split_at.result.0.now c.split_at.result.1.now c.loop-rest.instances.items
    c.push_some.new.things.items place c.loop-rest.invariant
    (record {
      lsa_is = c.split_at.ensures.front ∙ ap (λ (n : ℕ). take n rest) c.in_ok-length.ensures.1;
      behind_is = c.split_at.ensures.back ∙ ap (λ (n : ℕ). drop n rest) c.in_ok-length.ensures.1;
      begins = begins_whole rest c.in_ok-length.ensures.0;
    })
    refl c.in_ok-said_at.ensures.0
    (c.in_ok-push_some.ensures.added ∙ ap (λ (said : List Instance). c.loop-rest.instances.items ++ said) c.in_ok-said_at.ensures.1)
