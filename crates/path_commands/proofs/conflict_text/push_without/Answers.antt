-- One member more, with the costs without it.
use Rattle.std.proofs.Common.{refl, arith}
use Rattle.path_commands.proofs.ConflictTexts.{without_more}
use Rattle.path_commands.proofs.conflict_text.push_without.Goals as goal

pub loop-place-preserved : goal.loop-place-preserved
loop-place-preserved c =
    without_more c.args.problem.now c.args.members.now c.args.without.now c.loop-place.place 0 _ _ _
    c.loop-place.text.items c.push_without_one.new.text.items _
    (omega (arith, c.loop-place-test.true, c.requires.counted)) c.loop-place-test.true refl
    c.index-without-place.is c.in_ok-push_without_one.ensures c.loop-place.invariant
