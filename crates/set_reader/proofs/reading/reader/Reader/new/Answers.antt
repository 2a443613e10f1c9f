use Rattle.std.proofs.Common.{rules, ◌≡◌, length}
use Rattle.set_reader.proofs.SetLaws.{sets_begin}
use Rattle.set_reader.proofs.reading.reader.Reader.new.Goals as goal

pub invariant_of-result : goal.invariant_of-result
invariant_of-result c =
    let counted : length c.in_ok-taken.taken.items ≡ length c.args.problem.now.requests = search rules in
    sets_begin c.args.problem.now _ c.in_ok-taken.taken.items (search rules) counted c.in_ok-taken.ensures.none
