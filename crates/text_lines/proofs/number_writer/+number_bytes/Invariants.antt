use Rattle.text_lines.proofs.number_writer.+number_bytes.Given as goal

abbrev pub decreases-number_bytes : goal.decreases-number_bytes
decreases-number_bytes l = l.value
