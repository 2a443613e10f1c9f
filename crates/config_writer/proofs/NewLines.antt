-- The lines of a rewritten text.
use Rattle.std.proofs.Common.{◌≡◌, ℕ, ◌+◌, List, [], ◌∷◌, ◌++◌, length, map, Bool, cond, true, false, refl, sym, ap, ◌∙◌, subst, Option, Some, None, append-nil, append_assoc}
use Rattle.std.specs.Prelude.{◌==◌}
use Rattle.std.specs.List.{concat}
use Rattle.std.proofs.lemmas.Bool.{eqb-true}
use Rattle.std.proofs.lemmas.List.Elements.{All-nil, All-cons}
use Rattle.cost_base.specs.Decimal.{decimal}
use Rattle.cost_base.specs.Lists.{numbers_from}
use Rattle.text_lines.specs.Lines.{lines, grow, IsOneLine}
use Rattle.text_lines.specs.Reading.{line_end}
use Rattle.text_lines.proofs.LineLaws.{lines-cons, lines-one, lines-some}
use Rattle.config_reader.proofs.PrintedLines.{one_line, word_lacks_end}
use Rattle.text_lines.proofs.WordLaws.{decimal-word}
use Rattle.config_reader.specs.Sections.{section_cost_line}
use Rattle.config_writer.specs.Rewriting.{is_replaced, cost_behind, whole_lines, written_for, written_at, rewritten}
use Rattle.config_writer.proofs.WholeLines.{IsCut, whole_first, ended-line}
use Rattle.config_reader.proofs.FaultlessFiles.{one_more}
use Rattle.config_writer.proofs.WrittenLines.{written_here}

-- the lines that stand for a line
abbrev pub lines_for : Bool → Option ℕ → List ℕ → List (List ℕ)
lines_for true behind line = []
lines_for false None line = line ∷ []
lines_for false (Some n) line = line ∷ section_cost_line n ∷ []

-- the lines that stand for some lines behind others
abbrev pub relined : List (List ℕ × ℕ) → List (List ℕ) → List (List ℕ) → List (List ℕ)
relined costs front [] = []
relined costs front (line ∷ rest) = lines_for (is_replaced costs front line) (cost_behind costs front line) line ++ relined costs (front ++ line ∷ []) rest

-- the first line of a text, and what is left behind it
pub record Cut (bytes line : List ℕ) (rest : List (List ℕ)) : Type 0 where
  pub end : Bool
  pub left : List ℕ
  pub cut : IsCut bytes line end left
  pub behind : lines left ≡ rest

moved : (bytes l m : List ℕ) (ls ms : List (List ℕ)) → l ∷ ls ≡ m ∷ ms → Cut bytes l ls → Cut bytes m ms
moved bytes l m ls ms same cut =
    let first : l ≡ m = cc in
    let others : ls ≡ ms = cc in
    subst (λ x. Cut bytes x ms) first (subst (λ xs. Cut bytes l xs) others cut)

no_lines : (bytes : List ℕ) → lines bytes ≡ [] → bytes ≡ []
no_lines [] none = refl
no_lines (c ∷ cs) none = absurd (lines-some c cs none)

pub cut_of : (bytes line : List ℕ) (rest : List (List ℕ)) → lines bytes ≡ line ∷ rest → Cut bytes line rest
cut_of [] line rest is = absurd (cc)
cut_of (c ∷ cs) line rest is = cases (c == 10) refl (lines cs) refl (λ l more at. cut_of cs l more at) is
  where
    cases : (b : Bool) → (c == 10) ≡ b → (ls : List (List ℕ)) → lines cs ≡ ls → ((l : List ℕ) (more : List (List ℕ)) → lines cs ≡ l ∷ more → Cut cs l more) →
        cond b ([] ∷ ls) (grow c ls) ≡ line ∷ rest → Cut (c ∷ cs) line rest
    cases true end ls at later is =
        moved (c ∷ cs) [] line ls rest is
        (record {
          end = true;
          left = cs;
          cut = record { one = All-nil (λ x. (x == 10) ≡ false); parts = ap (λ x. x ∷ cs) (eqb-true c 10 end); last = λ open_ended. absurd (cc) };
          behind = at;
        })
    cases false other [] at later is =
        moved (c ∷ cs) (c ∷ []) line [] rest is
        (record {
          end = false;
          left = [];
          cut =
              record {
                one = All-cons (λ x. (x == 10) ≡ false) c [] other (All-nil (λ x. (x == 10) ≡ false));
                parts = ap (λ xs. c ∷ xs) (no_lines cs at);
                last = λ open_ended. (λ e. cc, refl);
              };
          behind = refl;
        })
    cases false other (l ∷ more) at later is =
        let cut = later l more at in
        moved (c ∷ cs) (c ∷ l) line more rest is
        (record {
          end = cut.end;
          left = cut.left;
          cut =
              record {
                one = All-cons (λ x. (x == 10) ≡ false) c l other cut.cut.one;
                parts = ap (λ xs. c ∷ xs) cut.cut.parts;
                last = λ open_ended. (λ e. cc, (cut.cut.last open_ended).1);
              };
          behind = cut.behind;
        })

cost_line-one : (n : ℕ) → IsOneLine (section_cost_line n)
cost_line-one n = one_line (section_cost_line n) (word_lacks_end (decimal n) (decimal-word n).whole)

two_lines : (a b more : List ℕ) → ((a ++ 10 ∷ []) ++ (b ++ 10 ∷ [])) ++ more ≡ a ++ 10 ∷ (b ++ 10 ∷ more)
two_lines a b more =
    append_assoc (a ++ 10 ∷ []) (b ++ 10 ∷ []) more
    ∙ append_assoc a (10 ∷ []) ((b ++ 10 ∷ []) ++ more)
    ∙ ap (λ rest. a ++ 10 ∷ rest) (append_assoc b (10 ∷ []) more)

-- a line with its end, and what follows
kept_line : (bytes line : List ℕ) (end : Bool) (left more : List ℕ) → IsCut bytes line end left →
    (end ≡ false → more ≡ []) → lines ((line ++ line_end end) ++ more) ≡ line ∷ lines more
kept_line bytes line true left more cut done = ap lines (append_assoc line (10 ∷ []) more) ∙ lines-cons line more cut.one
kept_line bytes line false left more cut done =
    ap (λ m. lines ((line ++ []) ++ m)) (done refl)
    ∙ ap lines (append-nil (line ++ []) ∙ append-nil line)
    ∙ lines-one line (cut.last refl).0 cut.one
    ∙ ap (λ m. line ∷ lines m) (sym (done refl))

-- the lines of what is written for a line, and of what follows
lines-written_for : (replaced : Bool) (behind : Option ℕ) (bytes line : List ℕ) (end : Bool) (left more : List ℕ) →
    IsCut bytes line end left → (end ≡ false → more ≡ []) →
    lines (written_for replaced behind (line ++ line_end end) ++ more) ≡ lines_for replaced behind line ++ lines more
lines-written_for true behind bytes line end left more cut done = refl
lines-written_for false None bytes line end left more cut done = kept_line bytes line end left more cut done
lines-written_for false (Some n) bytes line end left more cut done =
    ap (λ l. lines ((l ++ (section_cost_line n ++ 10 ∷ [])) ++ more)) (ended-line bytes line end left cut)
    ∙ ap lines (two_lines line (section_cost_line n) more)
    ∙ lines-cons line (section_cost_line n ++ 10 ∷ more) cut.one
    ∙ ap (λ ls. line ∷ ls) (lines-cons (section_cost_line n) more (cost_line-one n))

lines-written_from : (costs : List (List ℕ × ℕ)) (bytes : List ℕ) (front fronts ls : List (List ℕ)) (left : List ℕ) →
    lines left ≡ ls → lines bytes ≡ front ++ ls → whole_lines bytes ≡ fronts ++ whole_lines left → length fronts ≡ length front →
    lines (concat (map (written_at costs bytes) (numbers_from (length front) (length ls)))) ≡ relined costs front ls
lines-written_from costs bytes front fronts [] left at split wholes same = refl
lines-written_from costs bytes front fronts (line ∷ rest) left at split wholes same =
    let cut = cut_of left line rest at in
    let whole : whole_lines bytes ≡ fronts ++ (line ++ line_end cut.end) ∷ whole_lines cut.left =
    wholes ∙ ap (λ ws. fronts ++ ws) (whole_first left line cut.end cut.left cut.cut) in
    let next =
    lines-written_from costs bytes (front ++ line ∷ []) (fronts ++ (line ++ line_end cut.end) ∷ []) rest cut.left cut.behind
    (split ∙ sym (append_assoc front (line ∷ []) rest))
    (whole ∙ sym (append_assoc fronts ((line ++ line_end cut.end) ∷ []) (whole_lines cut.left)))
    (one_more fronts (line ++ line_end cut.end) ∙ ap (λ n. n + 1) same ∙ sym (one_more front line)) in
    let none : cut.end ≡ false → concat (map (written_at costs bytes) (numbers_from (length front + 1) (length rest))) ≡ [] =
    λ open_ended. ap (λ (ls : List (List ℕ)).
    concat (map (written_at costs bytes) (numbers_from (length front + 1) (length ls)))) (sym cut.behind
    ∙ ap lines (cut.cut.last open_ended).1) in
    ap (λ piece. lines (piece ++ concat (map (written_at costs bytes) (numbers_from (length front + 1) (length rest)))))
    (written_here costs bytes front line rest fronts (line ++ line_end cut.end) (whole_lines cut.left) split whole same)
    ∙ lines-written_for (is_replaced costs front line) (cost_behind costs front line) left line cut.end cut.left
    (concat (map (written_at costs bytes) (numbers_from (length front + 1) (length rest)))) cut.cut none
    ∙ ap (λ ls. lines_for (is_replaced costs front line) (cost_behind costs front line) line ++ ls)
    (ap (λ n. lines (concat (map (written_at costs bytes) (numbers_from n (length rest))))) (sym (one_more front line)) ∙ next)

-- the lines of the whole text
pub lines-rewritten : (costs : List (List ℕ × ℕ)) (bytes : List ℕ) → lines (rewritten costs bytes) ≡ relined costs [] (lines bytes)
lines-rewritten costs bytes = lines-written_from costs bytes [] [] (lines bytes) bytes refl refl refl refl
