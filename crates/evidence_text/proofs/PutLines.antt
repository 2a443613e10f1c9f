-- Lines put one after another.
use Rattle.std.proofs.Common.{◌≡◌, ℕ, ◌+◌, ◌<◌, ◌≤◌, List, [], ◌∷◌, ◌++◌, length, map, get_or, drop, refl, sym, ap, ◌∙◌, subst, append_assoc, append-nil, arith, Option, Some, Result, Ok, Err}
use Rattle.std.proofs.lemmas.List.{at_drop_more}
use Rattle.std.proofs.lemmas.Bool.{false≢true}
use Rattle.std.specs.Result.{IsErr}
use Rattle.cost_base.specs.Outside.{GotAll, GotPart}
use Rattle.cost_base.specs.HistoryLaws.{handed_more, handed_none}
use Rattle.cost_base.proofs.PutPieces.{whole_part, part_more}
use Rattle.design_problem.specs.declared.answer.CostLine.{CostLine}
use Rattle.design_problem.specs.declared.answer.CapTree.{CapTree}
use Rattle.design_problem.specs.declared.tree.Entry.{Entry}
use Rattle.design_problem.specs.Text.{router_lines, cost_lines, tree_lines, entry_line, interface_lines}
use Rattle.evidence_text.specs.declared.TreePart.{TreePart}
use Rattle.evidence_text.specs.Parts.{tree_line, part_word}
use Rattle.text_lines.specs.Lines.{with_ends}
use Rattle.evidence_text.specs.Lines.{AreShort, IsPieceHanded}
use Rattle.text_lines.proofs.LineLaws.{with_ends-append}
use Rattle.evidence_text.proofs.TextLaws.{short_front, short_rest}

-- of the whole text the sink got all but the lines that are left, which are short
pub record IsUnderway (before now : Option (List ℕ)) (faults_before faults_now : ℕ) (left : List (List ℕ)) (total : List ℕ) : Type 0 where
  pub so_far : List ℕ
  pub got : GotAll before now so_far
  pub later : faults_before ≤ faults_now
  pub same : so_far ++ with_ends left ≡ total
  pub short : AreShort left

-- the lines that come next are short
pub next_short : {a b : Option (List ℕ)} {f0 f1 : ℕ} {left : List (List ℕ)} {total : List ℕ}
    (lines rest : List (List ℕ)) → left ≡ lines ++ rest → IsUnderway a b f0 f1 left total → AreShort lines
next_short lines rest e u = short_front lines rest (subst AreShort e u.short)

-- before the first line
pub begin : (a : Option (List ℕ)) (f : ℕ) (lines : List (List ℕ)) → AreShort lines → IsUnderway a a f f lines (with_ends lines)
begin a f lines short = record { so_far = []; got = handed_none a; later = omega arith; same = refl; short = short }

-- what was put, the next lines and the rest are the whole
joined : (so_far total : List ℕ) (left lines rest : List (List ℕ)) → left ≡ lines ++ rest →
    so_far ++ with_ends left ≡ total → (so_far ++ with_ends lines) ++ with_ends rest ≡ total
joined so_far total left lines rest e same =
    append_assoc so_far (with_ends lines) (with_ends rest)
    ∙ ap (λ bytes. so_far ++ bytes) (sym (with_ends-append lines rest) ∙ ap with_ends (sym e))
    ∙ same

-- the next lines were put
pub turn : {T E : Type 0} {a b c : Option (List ℕ)} {f0 f1 f2 : ℕ} {left : List (List ℕ)} {total : List ℕ} {x : T}
    (lines rest : List (List ℕ)) → left ≡ lines ++ rest → IsUnderway a b f0 f1 left total →
    IsPieceHanded {T = T} {E = E} b c f1 f2 (with_ends lines) (Ok x) → IsUnderway a c f0 f2 rest total
turn {T} {E} {a} {b} {c} {f0} {f1} {f2} {left} {total} {x} lines rest e u p =
    record {
      so_far = u.so_far ++ with_ends lines;
      got = handed_more a b c u.so_far (with_ends lines) u.got p.whole;
      later = omega (arith, u.later, p.cause.later);
      same = joined u.so_far total left lines rest e u.same;
      short = short_rest lines rest (subst AreShort e u.short);
    }

-- the sink refused one of the next lines
pub stop : {T E F : Type 0} {a b c : Option (List ℕ)} {f0 f1 f2 : ℕ} {left : List (List ℕ)} {total : List ℕ} {x : E}
    {y : F} (lines rest : List (List ℕ)) → left ≡ lines ++ rest → IsUnderway a b f0 f1 left total →
    IsPieceHanded {T = T} {E = E} b c f1 f2 (with_ends lines) (Err x) → IsPieceHanded {T = T} {E = F} a c f0 f2 total (Err y)
stop {T} {E} {F} {a} {b} {c} {f0} {f1} {f2} {left} {total} {x} {y} lines rest e u p =
    record {
      whole = tt;
      part = subst (λ bytes. GotPart a c bytes) (joined u.so_far total left lines rest e u.same)
          (part_more a c (u.so_far ++ with_ends lines) (with_ends rest)
          (whole_part a b c u.so_far (with_ends lines) u.got p.part));
      cause = record { later = omega (arith, u.later, p.cause.later); failed = omega (arith, u.later, p.cause.failed) };
    }

-- every line was put
pub finish : {T E : Type 0} {a b : Option (List ℕ)} {f0 f1 : ℕ} {total : List ℕ} {x : T} →
    IsUnderway a b f0 f1 [] total → IsPieceHanded {T = T} {E = E} a b f0 f1 total (Ok x)
finish {T} {E} {a} {b} {f0} {f1} {total} {x} u =
    record {
      whole = subst (λ bytes. GotAll a b bytes) (sym (append-nil u.so_far) ∙ u.same) u.got;
      part = tt;
      cause = record { later = u.later; failed = tt };
    }

-- the last lines are put, or refused
pub last : {T E : Type 0} {a b c : Option (List ℕ)} {f0 f1 f2 : ℕ} {left : List (List ℕ)} {total : List ℕ}
    (result : Result T E) (lines : List (List ℕ)) → left ≡ lines → IsUnderway a b f0 f1 left total →
    IsPieceHanded b c f1 f2 (with_ends lines) result → IsPieceHanded a c f0 f2 total result
last (Ok x) lines e u p = finish (turn lines [] (e ∙ sym (append-nil lines)) u p)
last (Err x) lines e u p = stop lines [] (e ∙ sym (append-nil lines)) u p

-- at the exit of a `?`: the sink refused one of the next lines
pub stop_at : {T E F : Type 0} {a b c : Option (List ℕ)} {f0 f1 f2 : ℕ} {left : List (List ℕ)} {total : List ℕ} {x : E}
    (result : Result T F) → IsErr result → (lines rest : List (List ℕ)) → left ≡ lines ++ rest →
    IsUnderway a b f0 f1 left total → IsPieceHanded {T = T} {E = E} b c f1 f2 (with_ends lines) (Err x) →
    IsPieceHanded a c f0 f2 total result
stop_at (Ok x) h lines rest e u p = absurd (false≢true h)
stop_at (Err y) h lines rest e u p = stop lines rest e u p

-- a line under its other name
pub put_as : {T E : Type 0} {a b : Option (List ℕ)} {f0 f1 : ℕ} {written line : List ℕ} {result : Result T E} →
    written ≡ line → IsPieceHanded a b f0 f1 (with_ends (written ∷ [])) result → IsPieceHanded a b f0 f1 (with_ends (line ∷ [])) result
put_as {T} {E} {a} {b} {f0} {f1} {written} {line} {result} e p = subst (λ (bytes : List ℕ). IsPieceHanded a b f0 f1 (with_ends (bytes ∷ [])) result) e p

-- the lines of the items that are left, one more item taken
pub items_turn : {X : Type 0} (f : X → List ℕ) (xs : List X) (i : ℕ) (item : X) → i < length xs →
    item ≡ get_or xs i item → map f (drop i xs) ≡ f item ∷ map f (drop (i + 1) xs)
items_turn f xs i item h e = at_drop_more (λ rest. map f rest) xs i item h ∙ ap (λ x. f x ∷ map f (drop (i + 1) xs)) (sym e)

-- the lines of the costs that are left, one more cost taken
pub costs_turn : (before : Option (List ℕ)) (costs : List CostLine) (i : ℕ) (item : CostLine) → i < length costs →
    item ≡ get_or costs i item →
    cost_lines before (drop i costs) ≡ (router_lines before item.router ++ interface_lines item)
    ++ cost_lines (Some item.router) (drop (i + 1) costs)
costs_turn before costs i item h e =
    at_drop_more (λ rest. cost_lines before rest) costs i item h
    ∙ ap (λ (x : CostLine). router_lines before x.router ++ (interface_lines x ++ cost_lines (Some x.router) (drop (i + 1) costs))) (sym e)
    ∙ sym (append_assoc (router_lines before item.router) (interface_lines item) (cost_lines (Some item.router) (drop (i + 1) costs)))

-- the lines of a tree: the first, as it was written, and those of the entries
pub tree_turn :
    (part : TreePart) (tree : CapTree) (entries : List Entry) (line : List ℕ) → entries ≡ tree.tree → line ≡ tree_line part tree.cap (length entries) →
    tree_lines (part_word part) (Some tree) ≡ (line ∷ []) ++ map entry_line tree.tree
tree_turn part tree entries line same written =
    ap (λ (l : List ℕ). l ∷ map entry_line tree.tree) (sym (written ∙ ap (λ (es : List Entry). tree_line part tree.cap (length es)) same))
