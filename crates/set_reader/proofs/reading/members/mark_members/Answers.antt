use Rattle.set_reader.proofs.SetLaws.{members_marked}
use Rattle.set_reader.proofs.reading.members.mark_members.Goals as goal

pub returns-clause-marks : goal.returns-clause-marks
returns-clause-marks c = λ earlier are.
    members_marked earlier c.args.members.now c.args.taken.now.items c.mark_all.new.marks.items c.requires c.mark_all.ensures are

pub returns-clause-count : goal.returns-clause-count
returns-clause-count c = c.mark_all.ensures.counted
