use Rattle.form_search.proofs.watch.Watch.learn_form.Goals as goal

pub returns-in_err-push_last : goal.returns-in_err-push_last
returns-in_err-push_last c n before = let kept = c.loop-term.invariant n before in record { lists = kept.lists; low = kept.low; high = kept.high }

pub returns : goal.returns
returns c n before = let kept = c.loop-term.invariant n before in record { lists = kept.lists; low = kept.low; high = kept.high }
