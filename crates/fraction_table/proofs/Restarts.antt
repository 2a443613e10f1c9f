-- The lines of the starting basis, as they are made again.
use Rattle.std.proofs.Common.{◌≡◌, ℕ, zero, suc, ◌+◌, ◌-◌, ◌^◌, ◌<◌, ◌≤◌, refl, sym, ◌∙◌, add-one, drop-cons, ap, subst, List, [], ◌∷◌, ◌++◌, map, take, drop, length, arith, zero-add, inl, inr}
use Rattle.std.specs.Prelude.{ℤ, pos, negsuc, ◌-ℤ◌, nat_abs, slice_index, slice_index_or, slice_set, All}
use Rattle.std.proofs.lemmas.List.{append_assoc, at_drop_all, get_or-map, get_or-set_other, length-append, length-map, length-set}
use Rattle.cost_base.specs.Lists.{numbers_from}
use Rattle.cost_base.proofs.ListLemmas.{length-map-numbers_from, get_or-map-numbers_from}
use Rattle.whole_numbers.specs.Fractions.{Fraction, whole}
use Rattle.design_problem.specs.declared.form.Form.{Form}
use Rattle.design_problem.specs.declared.boxes.CostBox.{CostBox}
use Rattle.wide_fraction.specs.Widths.{IsTop}
use Rattle.design_problem.specs.declared.tree.Member.{Member}
use Rattle.design_problem.specs.declared.tree.Member.TheVariants.{Low, High}
use Rattle.design_problem.specs.declared.form.Term.{Term}
use Rattle.design_problem.specs.Forms.{terms_from, value_for_costs, no_term}
use Rattle.design_problem.proofs.TermLaws.{rising_from}
use Rattle.fraction_lines.proofs.TermSums.{term_in}
use Rattle.design_problem.specs.Basis.{IsFormOf, entry, low_member, member_form, unit}
use Rattle.fraction_lines.specs.TableLines.{AreTableNumbers, blank_line, nothing}
use Rattle.fraction_lines.proofs.BlankLines.{blank_entry, blank_size, cleared_set}
use Rattle.fraction_table.specs.Tableaus.{FitsBox, Held, IsRebased, moved_basis, rebased, starting}
use Rattle.fraction_table.specs.declared.stage.Stage.{Stage}
use Rattle.fraction_table.specs.declared.stage.Stage.TheVariants.{Open}
use Rattle.fraction_table.proofs.Pivots.{members_long}
use Rattle.fraction_table.specs.ValidTables.{IsTableauOf, IsTableau, held_of, members_of_box, starting_line}
use Rattle.fraction_table.specs.Moves.{HasShape, IsMoved, KeepsAllButLines, KeepsTableLines}
use Rattle.fraction_table.specs.Pivots.{member_at}
use Rattle.fraction_lines.specs.Turns.{AreTableLines}
use Rattle.fraction_table.specs.declared.table.Table.{Table}
use Rattle.design_problem.specs.Boxes.{IsBox}
use Rattle.fraction_table.proofs.StartingTables.{whole_start}
use Rattle.fraction_table.proofs.BetweenBoxes.{all_written, written_next}
use Rattle.fraction_lines.proofs.SmallNumbers.{whole_number}
use Rattle.fraction_table.proofs.theory.Units.{high_value, low_value}
use Rattle.fraction_table.proofs.IntegralTurns.{coefficients_long}

-- the line with each of the terms put into its column
abbrev pub with_terms : List Fraction → List Term → List Fraction
with_terms line [] = line
with_terms line (t ∷ ts) = with_terms (slice_set line (suc t.var) (whole t.coefficient)) ts

set_seam : (qs : List Fraction) (old new : Fraction) (rest : List Fraction) (k : ℕ) → length qs ≡ k → slice_set (qs ++ old ∷ rest) k new ≡ qs ++ new ∷ rest
set_seam [] old new rest zero long = refl
set_seam [] old new rest (suc k) long = absurd (omega arith)
set_seam (q ∷ qs) old new rest zero long = absurd (omega arith)
set_seam (q ∷ qs) old new rest (suc k) long = ap (λ (ps : List Fraction). q ∷ ps) (set_seam qs old new rest k (omega arith))

-- one more column, which is put where the coefficient isn't 0
column_put : (constant : Fraction) (first a : ℕ) (qs : List Fraction) (c : ℤ) (cs : List ℤ) →
    with_terms (constant ∷ ((qs ++ whole c ∷ []) ++ map (λ column. nothing) (numbers_from (a + 1) (length cs))))
    (terms_from (suc first) cs) ≡ constant ∷ ((qs ++ whole c ∷ []) ++ map whole cs) →
    with_terms (constant ∷ (qs ++ whole c ∷ map (λ column. nothing) (numbers_from (a + 1) (length cs))))
    (terms_from (suc first) cs) ≡ constant ∷ (qs ++ whole c ∷ map whole cs)
column_put constant first a qs c cs rest =
    ap (λ (ps : List Fraction). with_terms (constant ∷ ps) (terms_from (suc first) cs))
    (sym (append_assoc qs (whole c ∷ []) (map (λ column. nothing) (numbers_from (a + 1) (length cs)))))
    ∙ rest
    ∙ ap (λ (ps : List Fraction). constant ∷ ps) (append_assoc qs (whole c ∷ []) (map whole cs))

one_longer : (qs : List Fraction) (q : Fraction) (k : ℕ) → length qs ≡ k → length (qs ++ q ∷ []) ≡ suc k
one_longer qs q k long = omega (arith, length-append qs (q ∷ []), long)

-- in a line whose columns from `first` on are 0
terms_put : (constant : Fraction) (first a : ℕ) (qs : List Fraction) (cs : List ℤ) → length qs ≡ first →
    with_terms (constant ∷ (qs ++ map (λ column. nothing) (numbers_from a (length cs)))) (terms_from first cs)
    ≡ constant ∷ (qs ++ map whole cs)
terms_put constant first a qs [] long = refl
terms_put constant first a qs (pos zero ∷ cs) long =
    column_put constant first a qs (pos 0) cs (terms_put constant (suc first) (a + 1) (qs ++ whole (pos 0) ∷ []) cs (one_longer qs (whole (pos 0)) first long))
terms_put constant first a qs (pos (suc n) ∷ cs) long =
    ap (λ (ps : List Fraction). with_terms (constant ∷ ps) (terms_from (suc first) cs))
    (set_seam qs nothing (whole (pos (suc n))) (map (λ column. nothing) (numbers_from (a + 1) (length cs)))
    first long)
    ∙ column_put constant first a qs (pos (suc n)) cs
    (terms_put constant (suc first) (a + 1) (qs ++ whole (pos (suc n)) ∷ []) cs
    (one_longer qs (whole (pos (suc n))) first long))
terms_put constant first a qs (negsuc n ∷ cs) long =
    ap (λ (ps : List Fraction). with_terms (constant ∷ ps) (terms_from (suc first) cs))
    (set_seam qs nothing (whole (negsuc n)) (map (λ column. nothing) (numbers_from (a + 1) (length cs))) first long)
    ∙ column_put constant first a qs (negsuc n) cs
    (terms_put constant (suc first) (a + 1) (qs ++ whole (negsuc n) ∷ []) cs
    (one_longer qs (whole (negsuc n)) first long))

-- What a line is on its way to that of a form: with the terms from the counter on it is that line, and it has 0 from
-- the next term's variable on.
pub record IsPutTo (constant : ℤ) (cs : List ℤ) (ts : List Term) (index : ℕ) (line : List Fraction) : Type 0 where
  pub long : length line ≡ suc (length cs)
  pub left : with_terms line (drop index ts) ≡ whole constant ∷ map whole cs
  pub blank : (later : ℕ) → index < length ts → (term_in ts index).var ≤ later → entry line (suc later) ≡ nothing

pub put_first : (constant : ℤ) (cs : List ℤ) (ts : List Term) (old cleared now : List Fraction) (q : Fraction) →
    ts ≡ terms_from 0 cs → length old ≡ suc (length cs) →
    cleared ≡ blank_line (length old - 1) → q ≡ whole constant →
    now ≡ slice_set cleared 0 q → IsPutTo constant cs ts 0 now
put_first constant cs ts old cleared now q ts_are long cleared_are q_is now_is =
    let n = length cs in
    let now_are : now ≡ whole constant ∷ map (λ column. nothing) (numbers_from 0 n) =
    cleared_set old cleared now n q long cleared_are now_is
    ∙ ap (λ (p : Fraction). p ∷ map (λ column. nothing) (numbers_from 0 n)) q_is in
    record {
      long = ap length now_are ∙ blank_size n;
      left = ap (λ (line : List Fraction). with_terms line ts) now_are
          ∙ ap (with_terms (whole constant ∷ map (λ column. nothing) (numbers_from 0 n))) ts_are
          ∙ terms_put (whole constant) 0 0 [] cs refl;
      blank = λ later index_in from. ap (λ (line : List Fraction). entry line (suc later)) now_are ∙ blank_entry n (suc later);
    }

pub put_next : (constant : ℤ) (cs : List ℤ) (ts : List Term) (index : ℕ) (line now : List Fraction) (q : Fraction) →
    ts ≡ terms_from 0 cs → index < length ts → q ≡ whole (term_in ts index).coefficient →
    now ≡ slice_set line (suc (term_in ts index).var) q → IsPutTo constant cs ts index line →
    IsPutTo constant cs ts (index + 1) now
put_next constant cs ts index line now q ts_are index_in q_is now_is put =
    let t = term_in ts index in
    let now_are : now ≡ slice_set line (suc t.var) (whole t.coefficient) = now_is ∙ ap (slice_set line (suc t.var)) q_is in
    let next : drop index ts ≡ t ∷ drop (index + 1) ts = rw (add-one, drop-cons ts index no_term) refl in
    record {
      long = ap length now_is ∙ length-set line (suc t.var) q ∙ put.long;
      left = ap (λ (l : List Fraction). with_terms l (drop (index + 1) ts)) now_are ∙ sym (ap (with_terms line) next) ∙ put.left;
      blank = λ later next_in from.
          (let rises : t.var < (term_in ts (index + 1)).var = rising ts ts_are index (index + 1) next_in (omega arith) in
          ap (λ (l : List Fraction). entry l (suc later)) now_is
          ∙ get_or-set_other line (suc t.var) (suc later) q nothing (λ same. absurd (omega (arith, same, rises, from)))
          ∙ put.blank later index_in (omega (arith, rises, from)));
    }
  where
    rising : (ts : List Term) → ts ≡ terms_from 0 cs → (i j : ℕ) → j < length ts → i < j → (term_in ts i).var < (term_in ts j).var
    rising ts ts_are i j j_in before =
        subst (λ (us : List Term). j < length us → (term_in us i).var < (term_in us j).var) (sym ts_are)
        (λ inside. rising_from 0 cs i j no_term before inside) j_in

pub put_all : (constant : ℤ) (cs : List ℤ) (ts : List Term) (index : ℕ) (line : List Fraction) →
    IsPutTo constant cs ts index line → length ts ≤ index → line ≡ whole constant ∷ map whole cs
put_all constant cs ts index line put past = sym (at_drop_all (with_terms line) ts index past) ∙ put.left

-- the starting lines of the members
pub low_starts : (costs : CostBox) (rows : List Form) (v bound : ℕ) (now : List Fraction) →
    IsFormOf costs rows (Low v bound) → now ≡ whole (pos 0) ∷ map whole (unit (length costs.low) v (pos 1)) →
    now ≡ starting_line costs rows (Low v bound)
low_starts costs rows v bound now is now_is =
    now_is ∙ ap (λ z. whole z ∷ map whole (unit (length costs.low) v (pos 1))) (sym (low_value costs.low rows v is.0))
    ∙ ap (λ (b : ℕ). starting_line costs rows (Low v b)) (sym is.1)

pub high_starts : (costs : CostBox) (rows : List Form) (v bound low : ℕ) (range : ℤ) (now : List Fraction) →
    IsFormOf costs rows (High v bound) → low ≡ slice_index costs.low v → range ≡ (pos bound -ℤ pos low) →
    now ≡ whole range ∷ map whole (unit (length costs.low) v (negsuc 0)) → now ≡ starting_line costs rows (High v bound)
high_starts costs rows v bound low range now is low_is range_is now_is =
    now_is ∙ ap (λ z. whole z ∷ map whole (unit (length costs.low) v (negsuc 0)))
    (range_is ∙ ap (λ (l : ℕ). pos bound -ℤ pos l) low_is ∙ sym (high_value costs.low rows v bound is.0))

-- the numbers of a form that fits the box are ones of the table
pub form_numbers : (top : ℕ) (costs : CostBox) (f : Form) (line : List Fraction) → IsTop top → FitsBox costs f →
    line ≡ whole (value_for_costs f costs.low) ∷ map whole f.coefficients → AreTableNumbers top line
form_numbers top costs f line is_top fits line_is =
    subst (AreTableNumbers top) (sym line_is) (whole_number top (value_for_costs f costs.low) is_top fits.corner, all f.coefficients fits.sizes)
  where
    all : (cs : List ℤ) → All (λ c. nat_abs c ≤ 2 ^ 26) cs → AreTableNumbers top (map whole cs)
    all [] small = tt
    all (c ∷ cs) small =
        let first : nat_abs c ≤ 2 ^ 26 = small 0 (pos 0) (omega arith) in
        let below : nat_abs c < 2 ^ 27 = omega (arith, first) in
        (whole_number top c is_top below, all cs (λ k d k_in. small (suc k) d (omega (arith, k_in))))

-- one more member of the starting basis
pub start_next : (costs : CostBox) (initial basis : List Member) (low : List ℕ) (v : ℕ) →
    length initial ≡ length costs.low → low ≡ costs.low → v < length costs.low →
    basis ≡ take v (starting costs) ++ drop v initial →
    slice_set basis v (Low v (slice_index low v)) ≡ take (v + 1) (starting costs) ++ drop (v + 1) initial
start_next costs initial basis low v long low_is v_in basis_is =
    ap (λ (ms : List Member). slice_set ms v (Low v (slice_index low v))) basis_is
    ∙ written_next initial (starting costs) v (Low 0 0) (Low v (slice_index low v)) (omega (arith, long, v_in))
    (omega (arith, length-map-numbers_from (low_member costs) 0 (length costs.low), v_in))
    (ap (λ (bs : List ℕ). Low v (slice_index bs v)) low_is
    ∙ sym (get_or-map-numbers_from (low_member costs) 0 (length costs.low) v (Low 0 0) v_in
    ∙ ap (low_member costs) (zero-add v)))

pub start_all : (costs : CostBox) (initial basis : List Member) (v : ℕ) → length initial ≡ length costs.low →
    v ≡ length costs.low → basis ≡ take v (starting costs) ++ drop v initial → basis ≡ starting costs
start_all costs initial basis v long v_is basis_is =
    basis_is ∙ all_written initial (starting costs) v (long ∙ sym v_is) (length-map-numbers_from (low_member costs) 0 (length costs.low) ∙ sym v_is)

-- how long the starting line of a member is
pub line_long : (costs : CostBox) (rows : List Form) (member : Member) → All (FitsBox costs) rows →
    IsFormOf costs rows member → length (starting_line costs rows member) ≡ suc (length costs.low)
line_long costs rows member fit is =
    ap suc (length-map (member_form (length costs.low) rows member).coefficients whole ∙ coefficients_long costs rows member fit is)

-- one more line of a table is started
pub started_next : (initial t : Table) (costs : CostBox) (line : ℕ) (now : List (List Fraction)) →
    KeepsAllButLines initial t → initial.costs ≡ costs →
    length initial.lines.items ≡ length (members_of_box costs (length initial.rows.items)) →
    line < length initial.lines.items →
    t.lines.items ≡ take line (map (starting_line costs initial.rows.items)
    (members_of_box costs (length initial.rows.items))) ++ drop line initial.lines.items →
    now ≡ slice_set t.lines.items line (starting_line costs t.rows.items (member_at t line)) →
    now ≡ take (line + 1) (map (starting_line costs initial.rows.items) (members_of_box costs (length initial.rows.items)))
    ++ drop (line + 1) initial.lines.items
started_next initial t costs line now keeps costs_are many line_in lines_are now_is =
    let rows = initial.rows.items in
    let ms = members_of_box costs (length rows) in
    let start = starting_line costs rows in
    now_is ∙ ap (λ (ls : List (List Fraction)). slice_set ls line (starting_line costs t.rows.items (member_at t line))) lines_are
    ∙ written_next initial.lines.items (map start ms) line [] (starting_line costs t.rows.items (member_at t line))
    line_in (omega (arith, length-map ms start, many, line_in))
    (ap (λ (vec : List Form). starting_line costs vec (slice_index_or (members_of_box t.costs (length vec)) line (Low 0 0))) (ap (λ v. v.items) keeps.rows)
    ∙ ap (λ (box : CostBox). start (slice_index_or (members_of_box box (length rows)) line (Low 0 0))) (keeps.costs ∙ costs_are)
    ∙ sym (get_or-map start ms line (Low 0 0) [] (omega (arith, many, line_in))))

-- and all are
pub started_all : (initial : Table) (costs : CostBox) (line : ℕ) (lines : List (List Fraction)) →
    length initial.lines.items ≡ length (members_of_box costs (length initial.rows.items)) →
    line ≡ length initial.lines.items →
    lines ≡ take line (map (starting_line costs initial.rows.items) (members_of_box costs (length initial.rows.items)))
    ++ drop line initial.lines.items →
    lines ≡ map (starting_line costs initial.rows.items) (members_of_box costs (length initial.rows.items))
started_all initial costs line lines many line_is lines_are =
    let start = starting_line costs initial.rows.items in
    let ms = members_of_box costs (length initial.rows.items) in
    lines_are ∙ all_written initial.lines.items (map start ms) line (sym line_is) (length-map ms start ∙ sym many ∙ sym line_is)

-- a table at the starting basis, by its lines
pub restarted : (s : Table) (costs : CostBox) (rows : List Form) → s.costs ≡ costs → s.rows.items ≡ rows →
    s.basis.items ≡ starting costs → s.lines.items ≡ map (starting_line costs rows) (members_of_box costs (length rows)) →
    HasShape s → IsBox (length costs.low) costs → All (FitsBox costs) rows → IsTableau s
restarted s costs rows costs_are rows_are basis_is lines_are shape box fit =
    let numbers : AreTableLines s.top (suc (length costs.low)) (map (starting_line costs rows) (members_of_box costs (length rows))) =
    subst (AreTableLines s.top (suc (length costs.low))) lines_are
    (subst (λ (c : CostBox). AreTableLines s.top (suc (length c.low)) s.lines.items) costs_are shape.lines) in
    let start = whole_start s.top costs rows box fit numbers in
    let whole : IsTableauOf s.top s.costs s.rows.items s.basis.items s.lines.items = rw (costs_are, rows_are, basis_is, lines_are) start in
    whole

pub keeps_lines : (old t s : Table) → KeepsAllButLines old t → KeepsAllButLines t s → KeepsAllButLines old s
keeps_lines old t s first second =
    record {
      top = second.top ∙ first.top;
      costs = second.costs ∙ first.costs;
      rows = second.rows ∙ first.rows;
      basis = second.basis ∙ first.basis;
      quotients = second.quotients ∙ first.quotients;
      scratch = second.scratch ∙ first.scratch;
    }

-- a box by its bounds
pub bounds_are : (costs : CostBox) (low high : List ℕ) → low ≡ costs.low → high ≡ costs.high → record { low = low; high = high } ≡ costs
bounds_are costs low high low_is high_is =
    ap (λ (bs : List ℕ). record { low = bs; high = high }) low_is ∙ ap (λ (bs : List ℕ). record { low = costs.low; high = bs }) high_is

pub starting_many : (costs : CostBox) → length (starting costs) ≡ length costs.low
starting_many costs = length-map-numbers_from (low_member costs) 0 (length costs.low)

-- boxes of as many variables have as many members
pub members_same : (costs next : CostBox) (rows : ℕ) → length costs.low ≡ length next.low →
    length (members_of_box costs rows) ≡ length (members_of_box next rows)
members_same costs next rows width = omega (arith, members_long costs rows, members_long next rows, width)

-- what is held of a table that has moved, or that was started anew
pub held_is : (old new : Table) (costs : CostBox) (basis : List Member) → KeepsTableLines old new → new.costs ≡ costs →
    new.basis.items ≡ basis → held_of new Open ≡ rebased (held_of old Open) costs basis
held_is old new costs basis keeps costs_are basis_is =
    ap (λ (top : ℕ). record { top = top; costs = new.costs; rows = new.rows.items; basis = new.basis.items; stage = Open }) keeps.top
    ∙ ap (λ (box : CostBox). record { top = old.top; costs = box; rows = new.rows.items; basis = new.basis.items; stage = Open }) costs_are
    ∙ ap (λ (rows : List Form). record { top = old.top; costs = costs; rows = rows; basis = new.basis.items; stage = Open }) keeps.rows
    ∙ ap (λ (ms : List Member). record { top = old.top; costs = costs; rows = old.rows.items; basis = ms; stage = Open }) basis_is

pub moved_rebased : (old new : Table) (costs : CostBox) → KeepsTableLines old new → IsMoved old costs new →
    held_of new Open ≡ rebased (held_of old Open) costs (moved_basis costs old.basis.items)
moved_rebased old new costs keeps is = held_is old new costs (moved_basis costs old.basis.items) keeps is.costs_are is.basis

-- the stage plays no part in a move
pub any_stage : (t : Table) (stage : Stage) (costs : CostBox) (new : Held) → IsRebased (held_of t Open) costs new → IsRebased (held_of t stage) costs new
any_stage t stage costs new (inl is) = inl is
any_stage t stage costs new (inr is) =
    inr (
      record {
        var = is.0.var;
        var_in = is.0.var_in;
        step = is.0.step;
        left = is.0.left;
        right = is.0.right;
        is_step = is.0.is_step;
        passes = is.0.passes;
      },
      is.1,
    )
