-- One more row: the table stays whole with the row's line at its end.
use Rattle.std.proofs.Common.{◌≡◌, ◌≢◌, ℕ, zero, suc, ◌+◌, ◌<◌, ◌≤◌, refl, sym, ◌∙◌, ap, subst, List, [], ◌∷◌, ◌++◌, map, length, arith, zero-add}
use Rattle.std.specs.Prelude.{ℤ, pos, All, slice_index_or}
use Rattle.std.specs.List.{AllZip}
use Rattle.std.proofs.Math.Seq.{get_or-append_seam}
use Rattle.std.proofs.lemmas.List.{append_assoc, get_or_append_left, length-append, map-append}
use Rattle.std.proofs.lemmas.List.Elements.{All-append}
use Rattle.cost_base.specs.Lists.{numbers_from}
use Rattle.whole_numbers.specs.Fractions.{Fraction}
use Rattle.cost_base.proofs.ListLemmas.{numbers_from-push, zip_push}
use Rattle.design_problem.specs.declared.form.Form.{Form}
use Rattle.design_problem.specs.declared.boxes.CostBox.{CostBox}
use Rattle.design_problem.specs.declared.tree.Member.{Member}
use Rattle.design_problem.specs.declared.tree.Member.TheVariants.{Low, High, Row}
use Rattle.design_problem.specs.Forms.{no_form}
use Rattle.design_problem.specs.Basis.{IsFormOf, forms_of, low_member, member_form}
use Rattle.fraction_lines.specs.TableLines.{AreTableNumbers}
use Rattle.fraction_table.specs.Tableaus.{FitsBox}
use Rattle.fraction_table.specs.ValidTables.{AreMixtures, IsTableLine, IsTableauOf, Stand, high_member, low_forms, members_of_box, number_of_form, numbers_of_form}
use Rattle.fraction_table.proofs.StartingTables.{members_are}

pub one_all : {X : Type 0} (P : X → Type 0) (x : X) → P x → All P (x ∷ [])
one_all P x p zero d k_in = p
one_all P x p (suc k) d k_in = absurd (omega arith)

-- a form of the box stays the same one
pub form_kept : (n : ℕ) (costs : CostBox) (rows : List Form) (f : Form) (member : Member) → IsFormOf costs rows member →
    member_form n (rows ++ f ∷ []) member ≡ member_form n rows member
form_kept n costs rows f (Low var bound) is = refl
form_kept n costs rows f (High var bound) is = refl
form_kept n costs rows f (Row row) is = get_or_append_left rows (f ∷ []) no_form row is

pub member_kept : (costs : CostBox) (rows : List Form) (f : Form) (member : Member) → IsFormOf costs rows member → IsFormOf costs (rows ++ f ∷ []) member
member_kept costs rows f (Low var bound) is = is
member_kept costs rows f (High var bound) is = is
member_kept costs rows f (Row row) is = omega (arith, length-append rows (f ∷ []), is)

pub forms_kept : (costs : CostBox) (rows : List Form) (f : Form) (basis : List Member) →
    All (IsFormOf costs rows) basis → forms_of costs (rows ++ f ∷ []) basis ≡ forms_of costs rows basis
forms_kept costs rows f [] are = refl
forms_kept costs rows f (member ∷ members) are =
    cc (
      form_kept (length costs.low) costs rows f member (are 0 member (omega arith)),
      forms_kept costs rows f members (λ k d k_in. are (suc k) d (omega (arith, k_in))),
    )

line_kept : (top D : ℕ) (costs : CostBox) (rows : List Form) (f : Form) (lows : List (List ℤ)) (member : Member)
    (line : List Fraction) → IsFormOf costs rows member → IsTableLine top D costs rows lows member line →
    IsTableLine top D costs (rows ++ f ∷ []) lows member line
line_kept top D costs rows f lows member line is l =
    record {
      numbers = l.numbers;
      stand = subst (λ (g : Form). Stand D line (numbers_of_form (length costs.low) D costs.low lows g))
          (sym (form_kept (length costs.low) costs rows f member is)) l.stand;
    }

lines_kept : (top D : ℕ) (costs : CostBox) (rows : List Form) (f : Form) (lows : List (List ℤ)) (members : List Member)
    (table : List (List Fraction)) → All (IsFormOf costs rows) members →
    AllZip (IsTableLine top D costs rows lows) members table →
    AllZip (IsTableLine top D costs (rows ++ f ∷ []) lows) members table
lines_kept top D costs rows f lows [] [] are all = tt
lines_kept top D costs rows f lows [] (line ∷ table) are all = absurd all
lines_kept top D costs rows f lows (member ∷ members) [] are all = absurd all
lines_kept top D costs rows f lows (member ∷ members) (line ∷ table) are all = (
  line_kept top D costs rows f lows member line (are 0 member (omega arith)) all.0,
  lines_kept top D costs rows f lows members table (λ k d k_in. are (suc k) d (omega (arith, k_in))) all.1,
)

-- the row's member comes last
pub members_more : (costs : CostBox) (rows : ℕ) → members_of_box costs (rows + 1) ≡ members_of_box costs rows ++ Row rows ∷ []
members_more costs rows =
    let lows = map (low_member costs) (numbers_from 0 (length costs.low)) in
    let highs = map (high_member costs) (numbers_from 0 (length costs.low)) in
    let own : List ℕ → List Member = map (λ row. Row row) in
    ap (λ (ks : List ℕ). (lows ++ highs) ++ own ks) (numbers_from-push 0 rows)
    ∙ ap (λ (ms : List Member). (lows ++ highs) ++ ms) (map-append (λ row. Row row) (numbers_from 0 rows) ((0 + rows) ∷ []))
    ∙ ap (λ (k : ℕ). (lows ++ highs) ++ (own (numbers_from 0 rows) ++ Row k ∷ [])) (zero-add rows)
    ∙ sym (append_assoc (lows ++ highs) (own (numbers_from 0 rows)) (Row rows ∷ []))

-- With a form that fits, and with its line, the table is whole.
pub whole_more : (top : ℕ) (costs : CostBox) (rows : List Form) (basis : List Member) (table : List (List Fraction))
    (f : Form) (line : List Fraction) (w : IsTableauOf top costs rows basis table) → FitsBox costs f → AreTableNumbers top line →
    Stand w.unboxed.common line (numbers_of_form (length costs.low) w.unboxed.common costs.low w.unboxed.lows f) →
    IsTableauOf top costs (rows ++ f ∷ []) basis (table ++ line ∷ [])
whole_more top costs rows basis table f line w fits numbers stand =
    let n = length costs.low in
    let more = rows ++ f ∷ [] in
    let same = sym (forms_kept costs rows f basis w.unboxed.members) in
    let counted : length rows + 1 ≡ length more = omega (arith, length-append rows (f ∷ [])) in
    let last : IsTableLine top w.unboxed.common costs more w.unboxed.lows (Row (length rows)) line =
    record {
      numbers = numbers;
      stand = subst
          (λ (g : Form). Stand w.unboxed.common line (numbers_of_form n w.unboxed.common costs.low w.unboxed.lows g))
          (sym (get_or-append_seam rows f [] no_form)) stand;
    } in
    record {
      box = w.box;
      fit = All-append (FitsBox costs) rows (f ∷ []) w.fit (one_all (FitsBox costs) f fits);
      unboxed = record {
        high_count = w.unboxed.high_count;
        counts = All-append (λ (row : Form). length row.coefficients ≡ n) rows (f ∷ []) w.unboxed.counts
            (one_all (λ (row : Form). length row.coefficients ≡ n) f fits.count);
        count = w.unboxed.count;
        members = λ k d k_in. member_kept costs rows f _ (w.unboxed.members k d k_in);
        common = w.unboxed.common;
        positive = w.unboxed.positive;
        lows = w.unboxed.lows;
        long = w.unboxed.long;
        mixtures = subst (λ (bs : List Form). AreMixtures w.unboxed.common bs (low_forms n 0 costs.low) w.unboxed.lows) same w.unboxed.mixtures;
        own = subst (λ (bs : List Form). (k : ℕ) → k < n →
            number_of_form w.unboxed.common costs.low w.unboxed.lows (slice_index_or bs k no_form) (suc k)
            ≡ pos w.unboxed.common) same w.unboxed.own;
        elsewhere = subst (λ (bs : List Form). (k place : ℕ) → k < n → place ≤ n → place ≢ suc k →
            number_of_form w.unboxed.common costs.low w.unboxed.lows (slice_index_or bs k no_form) place ≡ pos 0) same
            w.unboxed.elsewhere;
        lead = w.unboxed.lead;
        lines =
            subst (λ (members : List Member). AllZip (IsTableLine top w.unboxed.common costs more w.unboxed.lows) members
            (table ++ line ∷ [])) (sym (members_more costs (length rows)) ∙ ap (members_of_box costs) counted)
            (zip_push (IsTableLine top w.unboxed.common costs more w.unboxed.lows) (members_of_box costs (length rows)) table (Row (length rows)) line
            (lines_kept top w.unboxed.common costs rows f w.unboxed.lows (members_of_box costs (length rows)) table (members_are costs rows) w.unboxed.lines)
            last);
      };
    }
