use Rattle.std.proofs.Common.{length, ap}
use Rattle.std.specs.Prelude.{not}
use Rattle.std.specs.Option.{option_copied}
use Rattle.std.proofs.lemmas.Bool.{lt-ltb, not_from_false, false_from_ne_true}
use Rattle.begun_lines.proofs.BegunNames.{router-open, router-full, router-same}
use Rattle.answer_lines.proofs.ListParts.{not-both}
use Rattle.begun_lines.proofs.places.begins_router.Goals as goal

pub returns-then-rest-lt-LONGEST : goal.returns-then-rest-lt-LONGEST
returns-then-rest-lt-LONGEST c = (
  λ yes. router-open c.args.rest.now (option_copied c.args.before) (c.begins_name.ensures.0 c.if-begins_name.true) c.if-rest-lt-LONGEST.true,
  λ begun. lt-ltb (length c.args.rest.now) 65536 c.if-rest-lt-LONGEST.true,
)

pub returns-else-rest-lt-LONGEST : goal.returns-else-rest-lt-LONGEST
returns-else-rest-lt-LONGEST c = (
  λ yes.
      router-full c.args.rest.now (option_copied c.args.before) (c.begins_name.ensures.0 c.if-begins_name.true) c.if-rest-lt-LONGEST.false
      (λ router. not-both (not c.is_router_line.result) yes (ap not (c.is_router_line.ensures.1 router))),
  λ begun.
      not_from_false c.is_router_line.result
      (false_from_ne_true c.is_router_line.result
      (λ is. router-same c.args.rest.now (option_copied c.args.before) begun c.if-rest-lt-LONGEST.false (c.is_router_line.ensures.0 is))),
)
