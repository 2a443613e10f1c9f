use Rattle.begun_lines.proofs.places.begins_interface_again.Goals as goal

pub returns-in-Some : goal.returns-in-Some
returns-in-Some c = λ text. rw c.in-Some.is (c.begins_interface.ensures text c.in-Some.field-0.now)
