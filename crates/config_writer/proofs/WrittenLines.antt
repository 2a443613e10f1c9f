-- What is written for the lines so far, with one more line.
use Rattle.std.proofs.Common.{◌≡◌, ℕ, suc, ◌+◌, List, [], ◌∷◌, ◌++◌, length, map, take, get_or, Bool, cond, true, false, ◌&&◌, not, refl, sym, ap, ◌∙◌, arith, Option, None, is_some, append-nil, append_assoc}
use Rattle.std.specs.Prelude.{codes, position}
use Rattle.std.specs.List.{concat, list_any}
use Rattle.std.proofs.lemmas.Bool.{and_right}
use Rattle.std.proofs.lemmas.List.{take_at, get_or_at, map-append}
use Rattle.std.proofs.lemmas.List.Folds.{concat-append}
use Rattle.cost_base.specs.Lists.{numbers_from, same_bytes}
use Rattle.cost_base.proofs.ListLemmas.{length-push, numbers_from-more}
use Rattle.text_lines.specs.Lines.{lines, words, kind_of, is_head_kind}
use Rattle.text_lines.specs.Reading.{IsLineRead, line_end}
use Rattle.text_lines.specs.TextLeft.{TextLeft}
use Rattle.text_lines.specs.declared.line_reader.Line.{Line}
use Rattle.text_lines.specs.declared.LineKind.{LineKind}
use Rattle.text_lines.specs.declared.LineKind.TheVariants.{Blank, Comment, Head, Indented}
use Rattle.config_reader.specs.Statements.{Block, OfInterface, OfRouter, OfOther, block_of, begin_with, ip_ospf}
use Rattle.config_reader.specs.Configs.{first_heads, name_with_line, name_opened}
use Rattle.config_reader.specs.Reading.{open_block}
use Rattle.config_reader.specs.Sections.{cost_after}
use Rattle.text_lines.proofs.Images.{map-unless, position-map}
use Rattle.config_reader.proofs.SaidSteps.{opened_from}
use Rattle.config_reader.proofs.HeadSteps.{first_heads-push, heads_with as first_heads_with, is_headed, unless_known}
use Rattle.config_reader.proofs.BlockFacts.{open_block-push, block_with}
use Rattle.config_writer.specs.Rewriting.{new_cost, headed, is_replaced, is_cost_line, is_indented_kind, is_first_block, cost_behind, whole_lines, written_for, written_at, costs_of, first_missing}
use Rattle.config_writer.specs.Writing.{look_up, block_cost, cost_after_line, heads_after_line, named_after_line, put_for, GoesOverLine, OpensHead}
use Rattle.design_problem.specs.declared.answer.CostLine.{CostLine}
use Rattle.config_writer.specs.declared.writer.Writer.{Writer}
use Rattle.config_writer.proofs.WholeLines.{IsCut, first_cut, whole_first, put_written}

-- the interface that a line of a kind opens
abbrev pub opened_by : LineKind → ℕ → Block → Option (List ℕ × ℕ)
opened_by Head n block = name_with_line n (name_opened block)
opened_by _ n block = None

opened_kind : (i : ℕ) (line : List ℕ) → opened_from i line ≡ opened_by (kind_of line) (i + 1) (block_of (words line))
opened_kind i line = cases (kind_of line)
  where
    cases : (kind : LineKind) → cond (is_head_kind kind) (name_with_line (i + 1) (name_opened (block_of (words line)))) None
        ≡ opened_by kind (i + 1) (block_of (words line))
    cases Blank = refl
    cases Comment = refl
    cases Head = refl
    cases Indented = refl

-- the names of first heads, with one more
names_with : (name : List ℕ) (n : ℕ) (heads : List (List ℕ × ℕ)) →
    map (λ head. head.0) (heads ++ unless_known (is_headed name heads) (name, n))
    ≡ cond (list_any (same_bytes name) (map (λ head. head.0) heads)) (map (λ head. head.0) heads) (map (λ head. head.0) heads ++ name ∷ [])
names_with name n heads = ap (map (λ (head : List ℕ × ℕ). head.0)) (unless (is_headed name heads))
    ∙ map-unless (same_bytes name) (λ (head : List ℕ × ℕ). head.0) heads (name, n)
  where
    unless : (b : Bool) → heads ++ unless_known b (name, n) ≡ cond b heads (heads ++ (name, n) ∷ [])
    unless true = append-nil heads
    unless false = refl

pub headed-push : (front : List (List ℕ)) (line : List ℕ) → headed (front ++ line ∷ []) ≡ heads_after_line (kind_of line) (headed front) (block_of (words line))
headed-push front line =
    ap (map (λ (head : List ℕ × ℕ). head.0)) (first_heads-push front line ∙ ap (λ o. first_heads_with o (first_heads front)) (opened_kind (length front) line))
    ∙ cases (kind_of line) (block_of (words line))
  where
    cases : (kind : LineKind) (block : Block) →
        map (λ head. head.0) (first_heads_with (opened_by kind (length front + 1) block) (first_heads front)) ≡ heads_after_line kind (headed front) block
    cases Head (OfInterface name) = names_with name (length front + 1) (first_heads front)
    cases Head OfRouter = refl
    cases Head OfOther = refl
    cases Blank block = refl
    cases Comment block = refl
    cases Indented block = refl

module _ (costs known : List (List ℕ × ℕ)) (agree : (name : List ℕ) → look_up name known ≡ cost_after costs name None) where
  -- the new cost of a block, by the map
  block_known : (block : Block) → block_cost known block ≡ new_cost costs block
  block_known (OfInterface name) = agree name
  block_known OfRouter = refl
  block_known OfOther = refl

  -- whether the open block has a new cost, with one more line
  pub named-push : (front : List (List ℕ)) (line : List ℕ) →
      is_some (new_cost costs (open_block (front ++ line ∷ []))) ≡ named_after_line (kind_of line) known
      (is_some (new_cost costs (open_block front))) (block_of (words line))
  named-push front line = ap (λ block. is_some (new_cost costs block)) (open_block-push front line) ∙ cases (kind_of line)
    where
      cases : (kind : LineKind) → is_some (new_cost costs (block_with (is_head_kind kind) line (open_block front)))
          ≡ named_after_line kind known (is_some (new_cost costs (open_block front))) (block_of (words line))
      cases Head = ap is_some (sym (block_known (block_of (words line))))
      cases Blank = refl
      cases Comment = refl
      cases Indented = refl

  -- the cost behind a line, by the map
  pub behind_known : (front : List (List ℕ)) (line : List ℕ) →
      cost_after_line (kind_of line) known (headed front) (block_of (words line)) ≡ cost_behind costs front line
  behind_known front line = cases (kind_of line) (block_of (words line))
    where
      first : (b : Bool) (name : List ℕ) → cond b None (look_up name known) ≡ cond (true && not b) (cost_after costs name None) None
      first true name = refl
      first false name = agree name

      cases : (kind : LineKind) (block : Block) →
          cost_after_line kind known (headed front) block ≡ cond (is_head_kind kind && is_first_block front block)
          (new_cost costs block) None
      cases Head (OfInterface name) = first (list_any (same_bytes name) (headed front)) name
      cases Head OfRouter = refl
      cases Head OfOther = refl
      cases Blank block = refl
      cases Comment block = refl
      cases Indented block = refl

-- what is written for a line at its place
pub written_here : (costs : List (List ℕ × ℕ)) (bytes : List ℕ) (front : List (List ℕ)) (line : List ℕ)
    (rest fronts : List (List ℕ)) (whole : List ℕ) (rests : List (List ℕ)) →
    lines bytes ≡ front ++ line ∷ rest → whole_lines bytes ≡ fronts ++ whole ∷ rests → length fronts ≡ length front →
    written_at costs bytes (length front) ≡ written_for (is_replaced costs front line) (cost_behind costs front line) whole
written_here costs bytes front line rest fronts whole rests split wholes same =
    ap (λ before. at before (get_or (lines bytes) (length front) []) (get_or (whole_lines bytes) (length front) []))
    (ap (take (length front)) split ∙ take_at front (line ∷ rest) (length front) refl)
    ∙ ap (λ l. at front l (get_or (whole_lines bytes) (length front) [])) (ap (λ ls. get_or ls (length front) []) split
    ∙ get_or_at front line rest [] (length front) refl)
    ∙ ap (at front line) (ap (λ ls. get_or ls (length front) []) wholes ∙ get_or_at fronts whole rests [] (length front) same)
  where
    at : List (List ℕ) → List ℕ → List ℕ → List ℕ
    at before l w = written_for (is_replaced costs before l) (cost_behind costs before l) w

-- what is written for one line more
pub written_more : (f : ℕ → List ℕ) (n : ℕ) → concat (map f (numbers_from 0 (suc n))) ≡ concat (map f (numbers_from 0 n)) ++ f n
written_more f n =
    ap (λ numbers. concat (map f numbers)) (numbers_from-more 0 n)
    ∙ ap concat (map-append f (numbers_from 0 n) ((0 + n) ∷ []))
    ∙ concat-append (map f (numbers_from 0 n)) (f (0 + n) ∷ [])
    ∙ ap (λ last. concat (map f (numbers_from 0 n)) ++ last) (append-nil (f (0 + n)) ∙ ap f (zero_more n))
  where
    zero_more : (m : ℕ) → 0 + m ≡ m
    zero_more m = omega arith

-- a writer has written what the lines before what is left ask for
pub record WrittenTo (costs : List (List ℕ × ℕ)) (bytes : List ℕ) (left : TextLeft) (writer : Writer) : Type 0 where
  pub front : List (List ℕ)
  pub fronts : List (List ℕ)
  pub split : lines bytes ≡ front ++ lines left.bytes
  pub wholes : whole_lines bytes ≡ fronts ++ whole_lines left.bytes
  pub same : length fronts ≡ length front
  pub agree : (name : List ℕ) → look_up name writer.costs ≡ cost_after costs name None
  pub heads : writer.heads ≡ headed front
  pub named : writer.in_named_block ≡ is_some (new_cost costs (open_block front))
  pub out : writer.out.items ≡ concat (map (written_at costs bytes) (numbers_from 0 (length front)))

pub written_none : (costs : List (List ℕ × ℕ)) (bytes : List ℕ) (left : TextLeft) (writer : Writer) → left.bytes ≡ bytes →
    ((name : List ℕ) → look_up name writer.costs ≡ cost_after costs name None) → writer.heads ≡ [] →
    writer.in_named_block ≡ false → writer.out.items ≡ [] → WrittenTo costs bytes left writer
written_none costs bytes left writer whole agree heads named out = record {
  front = [];
  fronts = [];
  split = ap lines (sym whole);
  wholes = ap whole_lines (sym whole);
  same = refl;
  agree = agree;
  heads = heads;
  named = named;
  out = out;
}

-- one line more
pub written_step : (costs : List (List ℕ × ℕ)) (bytes : List ℕ) (old new : TextLeft) (writer next : Writer) (line : Line) →
    WrittenTo costs bytes old writer → IsLineRead old new line → GoesOverLine writer next line.text.now new.ended → WrittenTo costs bytes new next
written_step costs bytes old new writer next line so_far is_line step = record {
  front = so_far.front ++ text ∷ [];
  fronts = so_far.fronts ++ (text ++ line_end new.ended) ∷ [];
  split = split ∙ sym (append_assoc so_far.front (text ∷ []) (lines new.bytes));
  wholes = wholes ∙ sym (append_assoc so_far.fronts ((text ++ line_end new.ended) ∷ []) (whole_lines new.bytes));
  same = length-push so_far.fronts (text ++ line_end new.ended) ∙ ap suc so_far.same ∙ sym (length-push so_far.front text);
  agree = λ name. ap (look_up name) step.costs ∙ so_far.agree name;
  heads = step.heads ∙ ap (λ heads. heads_after_line (kind_of text) heads (block_of (words text))) so_far.heads ∙ sym (headed-push so_far.front text);
  named = step.named ∙ ap (λ named. named_after_line (kind_of text) writer.costs named (block_of (words text)))
      so_far.named ∙ sym (named-push costs writer.costs so_far.agree so_far.front text);
  out = out;
}
  where
    text : List ℕ
    text = line.text.now

    cut : IsCut old.bytes text new.ended new.bytes
    cut = first_cut old.bytes text new.ended new.bytes is_line.0.first

    split : lines bytes ≡ so_far.front ++ text ∷ lines new.bytes
    split = so_far.split ∙ ap (λ ls. so_far.front ++ ls) is_line.0.first.first

    wholes : whole_lines bytes ≡ so_far.fronts ++ (text ++ line_end new.ended) ∷ whole_lines new.bytes
    wholes = so_far.wholes ∙ ap (λ ls. so_far.fronts ++ ls) (whole_first old.bytes text new.ended new.bytes cut)

    put : put_for (writer.in_named_block && is_cost_line text)
        (cost_after_line (kind_of text) writer.costs writer.heads (block_of (words text))) text new.ended
        ≡ written_at costs bytes (length so_far.front)
    put =
        put_written (writer.in_named_block && is_cost_line text)
        (cost_after_line (kind_of text) writer.costs writer.heads (block_of (words text))) old.bytes text new.ended
        new.bytes cut
        ∙ ap (λ named. written_for (named && is_cost_line text)
        (cost_after_line (kind_of text) writer.costs writer.heads (block_of (words text)))
        (text ++ line_end new.ended)) so_far.named
        ∙ ap (λ behind. written_for (is_replaced costs so_far.front text) behind (text ++ line_end new.ended))
        (ap (λ heads. cost_after_line (kind_of text) writer.costs heads (block_of (words text))) so_far.heads
        ∙ behind_known costs writer.costs so_far.agree so_far.front text)
        ∙ sym (written_here costs bytes so_far.front text (lines new.bytes) so_far.fronts (text ++ line_end new.ended)
        (whole_lines new.bytes) split wholes so_far.same)

    out : next.out.items ≡ concat (map (written_at costs bytes) (numbers_from 0 (length (so_far.front ++ text ∷ []))))
    out =
        step.out
        ∙ ap (λ items. items ++ put_for (writer.in_named_block && is_cost_line text)
        (cost_after_line (kind_of text) writer.costs writer.heads (block_of (words text))) text
        new.ended) so_far.out
        ∙ ap (λ more. concat (map (written_at costs bytes) (numbers_from 0 (length so_far.front))) ++ more) put
        ∙ sym (written_more (written_at costs bytes) (length so_far.front))
        ∙ ap (λ n. concat (map (written_at costs bytes) (numbers_from 0 n))) (sym (length-push so_far.front text))

-- a head is gone over: its block is opened, and it is put
pub head_excluded : (old opened next : Writer) (line : List ℕ) (end : Bool) (behind : Option ℕ) → kind_of line ≡ Head →
    OpensHead old opened (block_of (words line)) behind →
    next.costs ≡ opened.costs → next.heads ≡ opened.heads → next.in_named_block ≡ opened.in_named_block →
    next.out.items ≡ opened.out.items ++ put_for false behind line end → GoesOverLine old next line end
head_excluded old opened next line end behind head opens costs heads named out = record {
  out =
      out
      ∙ ap (λ items. items ++ put_for false behind line end) opens.out
      ∙ ap (λ b. old.out.items ++ put_for false b line end) (opens.behind_is
      ∙ ap (λ kind. cost_after_line kind old.costs old.heads (block_of (words line))) (sym head))
      ∙ ap (λ replaced. old.out.items ++ put_for replaced (cost_after_line (kind_of line) old.costs old.heads (block_of (words line))) line end) (sym kept);
  heads = heads ∙ opens.heads ∙ ap (λ kind. heads_after_line kind old.heads (block_of (words line))) (sym head);
  named = named ∙ opens.named ∙ ap (λ kind. named_after_line kind old.costs old.in_named_block (block_of (words line))) (sym head);
  costs = costs ∙ opens.costs;
}
  where
    kept : (old.in_named_block && is_cost_line line) ≡ false
    kept = and_right old.in_named_block (is_cost_line line) (ap (λ kind. is_indented_kind kind && begin_with (ip_ospf (codes "cost")) (words line)) head)

-- the first line whose interface isn't among the heads
pub first_absent : (heads : List (List ℕ)) (bytes : List ℕ) (costs : List CostLine) → heads ≡ headed (lines bytes) →
    position (λ line. not (list_any (same_bytes line.interface) heads)) costs ≡ first_missing (costs_of costs) bytes
first_absent heads bytes costs all =
    ap (λ names. position (λ (line : CostLine). not (list_any (same_bytes line.interface) names)) costs) all
    ∙ position-map (λ (cost : List ℕ × ℕ). not (list_any (same_bytes cost.0) (headed (lines bytes)))) (λ (line : CostLine). (line.interface, line.cost)) costs
