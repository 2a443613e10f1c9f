use Rattle.std.proofs.Common.{length}
use Rattle.spf_ties.specs.Searches.{numbers_in_use}
use Rattle.spf_ties.proofs.LeastCosts.{least_at, length_either, lesser_is_near}
use Rattle.spf_ties.proofs.TightPaths.{tight_paths}
use Rattle.spf_ties.proofs.room.Room.distances_within.Goals as goal

pub returns-clause-least : goal.returns-clause-least
returns-clause-least c = λ v start.
    let near = c.min-self-inside.result in
    let d = numbers_in_use c.find_in_either-self-inside.result c.find_in_either-self-inside.new.front.numbers.items c.find_in_either-self-inside.new.wide.items
    in
    let count = length_either c.find_in_either-self-inside.result c.find_in_either-self-inside.new.front.numbers.items
    c.find_in_either-self-inside.new.wide.items (length c.args.graph.now.vertices)
    c.find_in_either-self-inside.ensures.front.count c.find_in_either-self-inside.ensures.wide in
    least_at c.args.graph.now c.args.point.now c.args.aim.now.excluded.now c.args.aim.now.target v c.args.aim.now.limit near d
    c.keeps_conditions.ensures.fits c.keeps_conditions.ensures.metrics c.requires.fits
    (lesser_is_near c.args.point.now c.args.aim.now.limit near c.min-self-inside.ensures) c.requires.target count start
    c.find_in_either-self-inside.ensures.distances.reached c.find_in_either-self-inside.ensures.distances.settled

pub returns-clause-tight : goal.returns-clause-tight
returns-clause-tight c = λ v path is less.
    let near = c.min-self-inside.result in
    let d = numbers_in_use c.find_in_either-self-inside.result c.find_in_either-self-inside.new.front.numbers.items c.find_in_either-self-inside.new.wide.items
    in
    let count = length_either c.find_in_either-self-inside.result c.find_in_either-self-inside.new.front.numbers.items
    c.find_in_either-self-inside.new.wide.items (length c.args.graph.now.vertices)
    c.find_in_either-self-inside.ensures.front.count c.find_in_either-self-inside.ensures.wide in
    tight_paths c.args.graph.now c.args.point.now c.args.aim.now.excluded.now c.args.aim.now.target c.args.aim.now.limit near
    c.mark_excluded.new.marks.items c.self.inside.path.items d c.keeps_conditions.ensures.fits
    c.keeps_conditions.ensures.metrics c.requires.fits
    (lesser_is_near c.args.point.now c.args.aim.now.limit near c.min-self-inside.ensures) count
    c.find_in_either-self-inside.ensures.distances.reached c.find_in_either-self-inside.ensures.distances.settled v path is less
