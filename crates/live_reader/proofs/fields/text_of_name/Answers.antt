use Rattle.std.specs.Prelude.{option_map}
use Rattle.json.specs.Find.{as_str}
use Rattle.live_reader.proofs.FieldLaws.{read_named}
use Rattle.live_reader.proofs.fields.text_of_name.Goals as goal

pub returns : goal.returns
returns c j stands =
    read_named c.args.tape.now c.args.name.now c.args.place c.in_ok-member.member j (option_map (λ s. s.now) c.text_at.result) (λ place v. as_str v) stands
    (c.in_ok-member.ensures j stands) c.text_at.ensures
