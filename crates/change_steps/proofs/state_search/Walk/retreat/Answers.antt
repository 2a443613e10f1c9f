use Rattle.change_steps.proofs.WalkLaws.{round_goes_back, round_ends}
use Rattle.change_steps.proofs.state_search.Walk.retreat.Goals as goal

pub returns-then-go_back : goal.returns-then-go_back
returns-then-go_back c = λ nodes is.
    round_goes_back c.args.held_rollout.now nodes c.args.self.now c.go_back.new.self is c.go_back.ensures.walk c.go_back.ensures.tested
    c.if-go_back.ensures.order

pub returns-else-go_back : goal.returns-else-go_back
returns-else-go_back c = λ nodes is.
    round_ends c.args.held_rollout.now nodes c.args.self.now c.go_back.new.self is c.go_back.ensures.walk c.go_back.ensures.tested c.if-go_back.ensures.order
    c.if-go_back.ensures.next
