-- The lines that a run writes beside an answer.
use Rattle.std.specs.Prelude.{ℕ, List, [], ◌∷◌, codes}
use Rattle.cost_base.specs.Decimal.{decimal}
use Rattle.line_builder.specs.Words.{line_of_words}
use Rattle.input_files.specs.Readings.{InputRefusal}
use Rattle.report_writer.specs.declared.rejection.Rejection.{Rejection}

-- the line `refused NUMBER FILE PLACE` of a refusal, with an LF
abbrev pub refused_line : InputRefusal → List ℕ
refused_line r = line_of_words (codes "refused" ∷ decimal r.number ∷ r.file ∷ decimal r.line ∷ [])

-- the line `read fault FILE`, with an LF
abbrev pub read_fault_line : List ℕ → List ℕ
read_fault_line file = line_of_words (codes "read" ∷ codes "fault" ∷ file ∷ [])

-- the line `rejected NUMBER PLACE` of a rejection, with an LF
abbrev pub rejected_line : Rejection → List ℕ
rejected_line r = line_of_words (codes "rejected" ∷ decimal r.number ∷ decimal r.place ∷ [])
