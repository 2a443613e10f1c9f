use Rattle.std.proofs.Common.{arith}
use Rattle.live_reader.proofs.TapeLaws.{link_end, linked_passes, alone}
use Rattle.live_reader.proofs.tree.after.Goals as goal

pub returns-in_default : goal.returns-in_default
returns-in_default c =
    record {
      value = λ j stands. alone c.nodes.result.now c.args.tape.now c.args.place j c.nodes.ensures.tokens c.requires c.in_default.not-Object
          c.in_default.not-Array stands;
      later = (omega arith, omega arith);
    }

pub returns-in-Object-clause-value : goal.returns-in-Object-clause-value
returns-in-Object-clause-value c j stands =
    link_end c.args.tape.now c.args.place c.in-Object.end j
    (linked_passes c.nodes.result.now c.args.tape.now c.args.place c.in-Object.end c.nodes.ensures.tokens c.nodes.ensures.links c.requires c.in-Object.is)
    stands

pub returns-in-Object-clause-later : goal.returns-in-Object-clause-later
returns-in-Object-clause-later c =
    let passes = linked_passes c.nodes.result.now c.args.tape.now c.args.place c.in-Object.end c.nodes.ensures.tokens c.nodes.ensures.links c.requires
    c.in-Object.is in
    (passes.2, passes.3)

pub returns-in-Object-2-clause-value : goal.returns-in-Object-2-clause-value
returns-in-Object-2-clause-value c j stands =
    link_end c.args.tape.now c.args.place c.in-Object.end j
    (linked_passes c.nodes.result.now c.args.tape.now c.args.place c.in-Object.end c.nodes.ensures.tokens c.nodes.ensures.links c.requires c.in-Object.is)
    stands

pub returns-in-Object-2-clause-later : goal.returns-in-Object-2-clause-later
returns-in-Object-2-clause-later c =
    let passes = linked_passes c.nodes.result.now c.args.tape.now c.args.place c.in-Object.end c.nodes.ensures.tokens c.nodes.ensures.links c.requires
    c.in-Object.is in
    (passes.2, passes.3)
