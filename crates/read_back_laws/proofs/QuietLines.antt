-- Lines that hold no LF and open no section.
use Rattle.std.proofs.Common.{◌≡◌, ℕ, refl, List, [], ◌∷◌, ◌++◌, length, map, true, Option}
use Rattle.std.specs.Prelude.{codes}
use Rattle.cost_base.specs.Decimal.{decimal}
use Rattle.config_reader.proofs.PrintedLines.{lacks_end, all_lack_end}
use Rattle.design_problem.specs.declared.form.Row.{Row}
use Rattle.design_problem.specs.declared.answer.CapTree.{CapTree}
use Rattle.design_problem.specs.Text.{row_line, tree_lines, rows_line, rows_lines}
use Rattle.read_back_laws.proofs.PrintedText.{all_append, all_cons, decimals_lack, rows_lack, spaced_lacks, tree_lacks}
use Rattle.read_back_laws.proofs.PrintedSections.{all_other, starts_other, other_open, other_proof, other_rows, others_append, others_cons}

pub record AreQuiet (shown : List (List ℕ)) : Type 0 where
  pub lack : all_lack_end shown ≡ true
  pub other : all_other shown ≡ true

pub none_quiet : AreQuiet []
none_quiet = record { lack = refl; other = refl }

pub quiet_append : (ls more : List (List ℕ)) → AreQuiet ls → AreQuiet more → AreQuiet (ls ++ more)
quiet_append ls more first later = record {
  lack = all_append ls more first.lack later.lack;
  other = others_append ls more first.other later.other;
}

pub quiet_cons : (line : List ℕ) (ls : List (List ℕ)) → lacks_end line ≡ true → starts_other line ≡ true → AreQuiet ls → AreQuiet (line ∷ ls)
quiet_cons line ls lack other later = record {
  lack = all_cons line ls lack later.lack;
  other = others_cons line ls other later.other;
}

pub rows_quiet : (rows : List Row) → AreQuiet (rows_lines rows)
rows_quiet rows = record {
  lack = all_cons (rows_line (length rows)) (map row_line rows)
      (spaced_lacks (codes "rows" ∷ decimal (length rows) ∷ []) (decimals_lack (length rows ∷ []))) (rows_lack rows);
  other = other_rows rows;
}

pub proof_quiet : (tree : Option CapTree) → AreQuiet (tree_lines (codes "proof") tree)
proof_quiet tree = record { lack = tree_lacks (codes "proof") tree refl; other = other_proof tree }

pub open_quiet : (tree : Option CapTree) → AreQuiet (tree_lines (codes "open") tree)
open_quiet tree = record { lack = tree_lacks (codes "open") tree refl; other = other_open tree }
