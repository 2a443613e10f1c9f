use Rattle.refusal_sentences.specs.declared.place.Place.TheVariants as place
use Rattle.refusal_sentences.specs.Meanings.{configuration_sayings, request_sayings, line_sayings, byte_sayings, spot_sayings, row_sayings, tree_sayings, cost_sayings, path_sayings, whole_sayings}
use Rattle.refusal_sentences.proofs.Meant.{meant_said, meant_or}
use Rattle.refusal_sentences.proofs.meaning.meaning_of.Goals as goal

pub returns : goal.returns
returns c =
    let one = meant_said place.Line configuration_sayings c.args.number c.at.result c.said_of_configuration.result c.at.ensures c.said_of_configuration.ensures
    in
    let of_request = meant_said place.Line request_sayings c.args.number c.at-2.result c.said_of_request.result c.at-2.ensures c.said_of_request.ensures in
    let or_request = meant_or c.at.result c.at-2.result c.or.result _ _ c.or.ensures one of_request in
    let of_line = meant_said place.Line line_sayings c.args.number c.at-3.result c.said_of_line.result c.at-3.ensures c.said_of_line.ensures in
    let or_line = meant_or c.or.result c.at-3.result c.or-2.result _ _ c.or-2.ensures or_request of_line in
    let of_byte = meant_said place.Byte byte_sayings c.args.number c.at-4.result c.said_of_byte.result c.at-4.ensures c.said_of_byte.ensures in
    let or_byte = meant_or c.or-2.result c.at-4.result c.or-3.result _ _ c.or-3.ensures or_line of_byte in
    let of_spot = meant_said place.Spot spot_sayings c.args.number c.at-5.result c.said_of_spot.result c.at-5.ensures c.said_of_spot.ensures in
    let or_spot = meant_or c.or-3.result c.at-5.result c.or-4.result _ _ c.or-4.ensures or_byte of_spot in
    let of_row = meant_said place.Row row_sayings c.args.number c.at-6.result c.said_of_row.result c.at-6.ensures c.said_of_row.ensures in
    let or_row = meant_or c.or-4.result c.at-6.result c.or-5.result _ _ c.or-5.ensures or_spot of_row in
    let of_tree_line = meant_said place.TreeLine tree_sayings c.args.number c.at-7.result c.said_of_tree_line.result c.at-7.ensures c.said_of_tree_line.ensures
    in
    let or_tree_line = meant_or c.or-5.result c.at-7.result c.or-6.result _ _ c.or-6.ensures or_row of_tree_line in
    let of_variable = meant_said place.Variable cost_sayings c.args.number c.at-8.result c.said_of_variable.result c.at-8.ensures c.said_of_variable.ensures in
    let or_variable = meant_or c.or-6.result c.at-8.result c.or-7.result _ _ c.or-7.ensures or_tree_line of_variable in
    let of_path = meant_said place.Path path_sayings c.args.number c.at-9.result c.said_of_path.result c.at-9.ensures c.said_of_path.ensures in
    let or_path = meant_or c.or-7.result c.at-9.result c.or-8.result _ _ c.or-8.ensures or_variable of_path in
    let of_whole = meant_said place.Nothing whole_sayings c.args.number c.at-10.result c.said_of_whole.result c.at-10.ensures c.said_of_whole.ensures in
    meant_or c.or-8.result c.at-10.result c.or-9.result _ _ c.or-9.ensures or_path of_whole
