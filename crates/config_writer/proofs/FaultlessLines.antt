-- Lines without faults, and the lines that stand for them.
use Rattle.std.proofs.Common.{◌≡◌, ℕ, ◌≤◌, List, [], ◌∷◌, ◌++◌, length, Bool, true, false, refl, sym, ap, ◌∙◌, subst, arith, Option, Some, None, append-nil, append_assoc}
use Rattle.std.specs.List.{filter_map}
use Rattle.std.proofs.lemmas.Bool.{le-leb}
use Rattle.text_lines.specs.Lines.{words, kind_of}
use Rattle.text_lines.proofs.Digits.{length-decimal-le}
use Rattle.config_reader.specs.declared.fault.ConfigFault.{ConfigFault}
use Rattle.config_reader.specs.Statements.{Statement, CostIs, Network, Block, OfInterface, statement_in}
use Rattle.config_reader.specs.Settings.{said, networks_said, network_said}
use Rattle.config_reader.specs.FaultList.{refused}
use Rattle.config_reader.specs.Reading.{open_block}
use Rattle.config_reader.specs.Sections.{cost_after, section_cost_line}
use Rattle.config_writer.specs.Rewriting.{is_replaced, cost_behind}
use Rattle.config_writer.proofs.NewLines.{lines_for, relined}
use Rattle.config_reader.proofs.SectionLaw.{cost_said_there}
use Rattle.config_reader.proofs.FineLines.{block_by, statement_by, LineFine, AllFine, all_push}
use Rattle.config_writer.proofs.SameStatements.{SameRest}
use Rattle.config_writer.proofs.Recosted.{Alike, recosted, kept, opened, dropped, opened_here}

module _ (second : Block → Statement → Option ConfigFault) (twice : List Network → Block → Statement → Option ConfigFault) where
  -- a line without faults stays so
  fine_moved : (file_name : List ℕ) (old new : List (List ℕ)) (line : List ℕ) → SameRest file_name old new →
      LineFine second twice old line → LineFine second twice new line
  fine_moved file_name old new line same fine = record {
    short = fine.short;
    own = ap (λ block. refused (statement_by (kind_of line) block (words line))) same.block ∙ fine.own;
    address = ap (λ block. second (block_by (kind_of line) block) (statement_by (kind_of line) block (words line))) same.block ∙ fine.address;
    area =
        ap (λ said. twice (filter_map network_said said) (block_by (kind_of line) (open_block new))
        (statement_by (kind_of line) (open_block new) (words line))) same.router
        ∙ ap (λ block. twice (networks_said (said old)) (block_by (kind_of line) block) (statement_by (kind_of line) block (words line))) same.block
        ∙ fine.area;
  }

  module _ (quiet_second : (h : List ℕ) (n : ℕ) → second (OfInterface h) (CostIs n) ≡ None)
      (quiet_twice : (ns : List Network) (h : List ℕ) (n : ℕ) → twice ns (OfInterface h) (CostIs n) ≡ None) where
    -- a new cost line has no fault
    cost_fine : (front : List (List ℕ)) (h : List ℕ) (n : ℕ) → open_block front ≡ OfInterface h → 1 ≤ n → n ≤ 65535 →
        LineFine second twice front (section_cost_line n)
    cost_fine front h n here from to = record {
      short = le-leb (length (section_cost_line n)) 4096 (omega (arith, length-decimal-le 5 n (omega arith) (omega arith)));
      own = ap (λ block. refused (statement_in block (words (section_cost_line n)))) here ∙ ap refused (cost_said_there n from to);
      address = ap (λ block. second block (statement_in block (words (section_cost_line n)))) here
          ∙ ap (second (OfInterface h)) (cost_said_there n from to) ∙ quiet_second h n;
      area =
          ap (λ block. twice (networks_said (said front)) block (statement_in block (words (section_cost_line n)))) here
          ∙ ap (twice (networks_said (said front)) (OfInterface h)) (cost_said_there n from to)
          ∙ quiet_twice (networks_said (said front)) h n;
    }

    module _ (costs : List (List ℕ × ℕ)) (file_name : List ℕ) (bounds : (old : List (List ℕ)) (line : List ℕ) (n : ℕ) →
        cost_behind costs old line ≡ Some n → (1 ≤ n) × (n ≤ 65535)) where
      -- lines and those that stand for them say the same but for the costs, and none of these has a fault
      pub record Walked (old new : List (List ℕ)) : Type 0 where
        pub alike : Alike costs file_name old new
        pub fine : AllFine second twice [] new

      step : (old new : List (List ℕ)) (line : List ℕ) → Walked old new → LineFine second twice old line →
          Walked (old ++ line ∷ []) (new ++ lines_for (is_replaced costs old line) (cost_behind costs old line) line)
      step old new line walked fine = cases (is_replaced costs old line) (cost_behind costs old line) refl refl
        where
          both : AllFine second twice [] (new ++ line ∷ [])
          both = all_push second twice [] new line walked.fine (fine_moved file_name old new line walked.alike.rest fine)

          cases : (r : Bool) (o : Option ℕ) → is_replaced costs old line ≡ r → cost_behind costs old line ≡ o →
              Walked (old ++ line ∷ []) (new ++ lines_for r o line)
          cases true o out behind = subst (λ ls. Walked (old ++ line ∷ []) ls) (sym (append-nil new))
              (record { alike = dropped costs file_name old new line walked.alike out fine.own; fine = walked.fine })
          cases false None stays alone = record { alike = kept costs file_name old new line walked.alike stays alone; fine = both }
          cases false (Some n) stays behind =
              let within = bounds old line n behind in
              let here = opened_here costs old new line n behind in
              subst (λ ls. Walked (old ++ line ∷ []) ls) (append_assoc new (line ∷ []) (section_cost_line n ∷ []))
              (record {
                alike = opened costs file_name old new line n walked.alike behind within.0 within.1;
                fine = all_push second twice [] (new ++ line ∷ []) (section_cost_line n) both (cost_fine (new ++ line ∷ []) here.0 n here.1 within.0 within.1);
              })

      walk : (rest old new : List (List ℕ)) → Walked old new → AllFine second twice old rest → Walked (old ++ rest) (new ++ relined costs old rest)
      walk [] old new walked all = subst (λ ls. Walked ls (new ++ [])) (sym (append-nil old)) (subst (λ ls. Walked old ls) (sym (append-nil new)) walked)
      walk (line ∷ rest) old new walked all =
          let next = walk rest (old ++ line ∷ [])
          (new ++ lines_for (is_replaced costs old line) (cost_behind costs old line) line)
          (step old new line walked all.0) all.1 in
          subst (λ ls. Walked ls (new ++ relined costs old (line ∷ rest))) (append_assoc old (line ∷ []) rest)
          (subst (λ ls. Walked ((old ++ line ∷ []) ++ rest) ls)
          (append_assoc new (lines_for (is_replaced costs old line) (cost_behind costs old line) line)
          (relined costs (old ++ line ∷ []) rest)) next)

      nothing : Walked [] []
      nothing = record {
        alike = record {
          rest = record { block = refl; heads = refl; router = refl; name = refl };
          own = λ name. none (cost_after costs name None);
        };
        fine = tt;
      }
        where
          none : (o : Option ℕ) → [] ≡ recosted o false []
          none None = refl
          none (Some n) = refl

      -- a whole file
      pub walked : (file : List (List ℕ)) → AllFine second twice [] file → Walked file (relined costs [] file)
      walked file all = walk file [] [] nothing all
