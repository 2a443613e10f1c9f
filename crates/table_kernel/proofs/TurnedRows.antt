-- Kernels of which lines have changed, one after the other; and lines that have turned.
use Rattle.std.specs.declared.alloc.Global.{Global}
use Prim.Native.Nat.{◌∣◌}
use native.Mathlib.Nat.{dvd-mul_right}
use Rattle.std.proofs.Common.{Vec, ◌≡◌, ◌≢◌, ℕ, ◌+◌, ◌*◌, ◌/◌, ◌^◌, ◌<◌, ◌≤◌, refl, sym, ◌∙◌, ap, subst, List, length, arith, inl, inr, get_or-set_same, get_or-set_other}
use Rattle.std.specs.Prelude.{ℤ, pos, ◌<ℤ◌, nat_abs, slice_index_or, slice_set, All}
use Rattle.std.proofs.lemmas.Bool.{cases_eq}
use Rattle.std.proofs.lemmas.List.{get_or_default, length-set}
use Rattle.std.proofs.lemmas.Nat.Gcd.{le_of_dvd}
use Rattle.whole_numbers.proofs.Divisors.{quotient_positive}
use Rattle.whole_numbers.proofs.Sizes.{size_positive}
use Rattle.whole_numbers.specs.Lists.{number_at}
use Rattle.fraction_table.specs.declared.table.Table.{Table}
use Rattle.integer_pivots.specs.declared.line.Line.{Line}
use Rattle.integer_pivots.specs.declared.turned_line.Turn.{Turn}
use Rattle.integer_pivots.specs.Lines.{IsLine, no_line}
use Rattle.integer_pivots.specs.Turns.{IsTurnedLine, MayLineTurn, denominator_after, turn_at}
use Rattle.table_kernel.specs.declared.kernel.Kernel.{Kernel}
use Rattle.table_kernel.specs.Kernels.{width_of}
use Rattle.table_kernel.specs.Numbers.{share_of}
use Rattle.table_kernel.specs.Turns.{AreLinesTurned, IsLineReady, IsLineTurned, IsReadyToTurn, KeepsAllButLows, StaysSmallThroughout, line_of, next_common, no_turn, turn_of_line}
use Rattle.table_kernel.proofs.CommonSteps.{after_some, common_grows, each_goes_in}
use Rattle.table_kernel.proofs.StayingWithin.{stays, within_share}
use Rattle.table_kernel.proofs.TurnArgs.{line_ready}

-- the denominators after the pivot are positive, and so is their common multiple
pub afters_some : (k : Kernel) (column : ℕ) → IsReadyToTurn k column → All (λ (line : Line). 0 < denominator_after k.entering column line) k.lows.items
afters_some k column r v d v_in = after_some k.entering (slice_index_or k.lows.items v d) column (r.lines v d v_in) r.pivot

pub next_some : (k : Kernel) (column : ℕ) → IsReadyToTurn k column → 0 < next_common k column
next_some k column r =
    let some = size_positive k.common r.common.0 in
    let more : nat_abs k.common ≤ next_common k column = common_grows k.entering column k.lows.items (nat_abs k.common) some (afters_some k column r) in
    omega (arith, some, more)

pub others_kept : (k m h : Kernel) → KeepsAllButLows k m → KeepsAllButLows m h → KeepsAllButLows k h
others_kept k m h first second =
    record {
      table = second.table ∙ first.table;
      common = second.common ∙ first.common;
      leads = second.leads ∙ first.leads;
      constants = second.constants ∙ first.constants;
      uses = second.uses ∙ first.uses;
      turns = second.turns ∙ first.turns;
      left = second.left ∙ first.left;
      entering = second.entering ∙ first.entering;
    }

-- the lines before a bound have changed, so that a fact holds of each, and the others are as before
pub record AreChangedBefore (Fact : ℕ → Line → Type 0) (old new : Kernel) (bound : ℕ) : Type 0 where
  pub keeps : KeepsAllButLows old new
  pub count : length new.lows.items ≡ length old.lows.items
  pub each : (v : ℕ) → v < bound → Fact v (line_of new v)
  pub rest : (v : ℕ) → bound ≤ v → line_of new v ≡ line_of old v

pub none_changed : (Fact : ℕ → Line → Type 0) (k : Kernel) → AreChangedBefore Fact k k 0
none_changed Fact k = record {
  keeps = record { table = refl; common = refl; leads = refl; constants = refl; uses = refl; turns = refl; left = refl; entering = refl };
  count = refl;
  each = λ v before. absurd (omega (arith, before));
  rest = λ v behind. refl;
}

-- one more has
pub one_more_changed : (Fact : ℕ → Line → Type 0) (old mid new : Kernel) (v : ℕ) → AreChangedBefore Fact old mid v → KeepsAllButLows mid new →
    length new.lows.items ≡ length mid.lows.items → ((u : ℕ) → u ≢ v → line_of new u ≡ line_of mid u) → Fact v (line_of new v) →
    AreChangedBefore Fact old new (v + 1)
one_more_changed Fact old mid new v b keeps count others here = record {
  keeps = others_kept old mid new b.keeps keeps;
  count = count ∙ b.count;
  each = λ u before. elim (cases_eq u v) [
    | inl same ↦ subst (λ (w : ℕ). Fact w (line_of new w)) (sym same) here
    | inr other ↦ subst (Fact u) (sym (others u other)) (b.each u (omega (arith, before, other)))
  ];
  rest = λ u behind. others u (apart u behind) ∙ b.rest u (omega (arith, behind));
}
  where
    apart : (u : ℕ) → v + 1 ≤ u → u ≡ v → ⊥
    apart u behind same = omega (arith, behind, same)

-- what holds of the entering line and of one whose turn it is held before the others changed
pub before_change : (Fact : ℕ → Line → Type 0) (P : Line → Line → Type 0) (old mid : Kernel) (v : ℕ) → AreChangedBefore Fact old mid v →
    P mid.entering (line_of mid v) → P old.entering (line_of old v)
before_change Fact P old mid v b holds =
    subst (λ (e : Line). P e (line_of old v)) b.keeps.entering (subst (P mid.entering) (b.rest v (omega arith)) holds)

pub after_change : (Fact : ℕ → Line → Type 0) (P : Line → Line → Type 0) (old mid : Kernel) (v : ℕ) → AreChangedBefore Fact old mid v →
    P old.entering (line_of old v) → P mid.entering (line_of mid v)
after_change Fact P old mid v b holds =
    subst (λ (e : Line). P e (line_of mid v)) (sym b.keeps.entering) (subst (P old.entering) (sym (b.rest v (omega arith))) holds)

-- a line has turned: it is small, and where it had no number at the column, it is as before
pub record IsTurnedIn (column : ℕ) (entering old new : Line) : Type 0 where
  pub line : IsLine new
  pub turned : IsTurnedLine (turn_at entering column old) column entering old new
  pub divides : nat_abs new.denominator ∣ denominator_after entering column old
  pub stays : (turn_at entering column old).factor ≡ pos 0 → new ≡ old

-- the lines before a bound have turned
abbrev pub AreTurnedBefore : Kernel → Kernel → ℕ → ℕ → Type 0
AreTurnedBefore old new column bound = AreChangedBefore (λ v line. IsTurnedIn column old.entering (line_of old v) line) old new bound

pub none_turned : (k : Kernel) (column : ℕ) → AreTurnedBefore k k column 0
none_turned k column = none_changed (λ v line. IsTurnedIn column k.entering (line_of k v) line) k

-- one more has
pub one_more_turned : (old mid new : Kernel) (column v : ℕ) → AreTurnedBefore old mid column v → IsLineTurned mid new column v →
    KeepsAllButLows mid new → AreTurnedBefore old new column (v + 1)
one_more_turned old mid new column v b t keeps =
    let Fact : ℕ → Line → Type 0 = λ u line. IsTurnedIn column old.entering (line_of old u) line in
    one_more_changed Fact old mid new v b keeps t.count t.others
    (before_change Fact (λ (e l : Line). IsTurnedIn column e l (line_of new v)) old mid v b
    (record { line = t.line; turned = t.turned; divides = t.divides; stays = t.stays }))

-- and then all
pub all_turned : (old new : Kernel) (column : ℕ) → AreTurnedBefore old new column (length old.lows.items) → AreLinesTurned old new column
all_turned old new column b = record {
  turned = record { count = b.count; each = λ v v_in. (b.each v v_in).turned };
  lines = λ v d v_in. subst IsLine (get_or_default new.lows.items v no_line d v_in) (b.each v (omega (arith, v_in, b.count))).line;
  divides = λ v v_in. (b.each v v_in).divides;
  stays = λ v v_in. (b.each v v_in).stays;
}

-- the next line is ready to turn
pub ready_between : (Fact : ℕ → Line → Type 0) (old mid : Kernel) (column v : ℕ) → IsReadyToTurn old column → AreChangedBefore Fact old mid v →
    v < length old.lows.items → IsLineReady mid column v
ready_between Fact old mid column v r b v_in =
    let o = line_ready old column v r v_in in
    let own : line_of mid v ≡ line_of old v = b.rest v (omega arith) in
    let width : width_of mid ≡ width_of old = ap (λ (t : Table). length t.costs.low) b.keeps.table in
    record {
      inside = omega (arith, o.inside, width);
      among = omega (arith, v_in, b.count);
      line = subst IsLine (sym own) o.line;
      count = ap (λ (l : Line). length l.numbers) own ∙ o.count ∙ sym width;
      entering = subst IsLine (sym b.keeps.entering) o.entering;
      long = ap (λ (l : Line). length l.numbers) b.keeps.entering ∙ o.long ∙ sym width;
      pivot = subst (λ (l : Line). pos 0 <ℤ number_at l.numbers column) (sym b.keeps.entering) o.pivot;
      limit = subst (λ (z : ℤ). nat_abs (line_of mid v).constant * share_of (nat_abs z) (line_of mid v) ≤ 2 ^ 44) (sym b.keeps.common)
          (subst (λ (l : Line). nat_abs l.constant * share_of (nat_abs old.common) l ≤ 2 ^ 44) (sym own) o.limit);
      held = subst (λ (ts : Vec Turn Global). v < length ts.items) (sym b.keeps.turns) o.held;
      turn = ap (λ (ts : Vec Turn Global). slice_index_or ts.items v no_turn) b.keeps.turns
          ∙ o.turn
          ∙ ap (λ (e : Line). turn_at e column (line_of old v)) (sym b.keeps.entering)
          ∙ ap (turn_at mid.entering column) (sym own);
    }

-- and may, where no number passes the bounds
may_turn_line : (k : Kernel) (column v : ℕ) → IsReadyToTurn k column → StaysSmallThroughout k column → v < length k.lows.items →
    MayLineTurn (turn_of_line k column v) (line_of k v) k.entering
may_turn_line k column v r m v_in =
    let after = denominator_after k.entering column (line_of k v) in
    let goes_in = each_goes_in k.entering column k.lows.items (nat_abs k.common) v v_in in
    let some = next_some k column r in
    let least : after ≤ next_common k column = le_of_dvd some goes_in in
    record {
      small = m.lines v v_in;
      constant = within_share _ (next_common k column / after) (quotient_positive (next_common k column) after some goes_in) (m.constants v v_in);
      denominator = omega (arith, least, m.common);
    }

pub may_between : (old mid : Kernel) (column v : ℕ) → IsReadyToTurn old column → AreTurnedBefore old mid column v →
    v < length old.lows.items → StaysSmallThroughout old column → MayLineTurn (turn_of_line mid column v) (line_of mid v) mid.entering
may_between old mid column v r b v_in may =
    let m = may_turn_line old column v r may v_in in
    after_change (λ u line. IsTurnedIn column old.entering (line_of old u) line) (λ (e l : Line). MayLineTurn (turn_at e column l) l e) old mid v b m

-- a line that is put in its place stands there, and no other changes
pub put_here : (k h : Kernel) (v : ℕ) (new : Line) → v < length k.lows.items → h.lows.items ≡ slice_set k.lows.items v new → line_of h v ≡ new
put_here k h v new v_in put = ap (λ (ls : List Line). slice_index_or ls v no_line) put ∙ get_or-set_same k.lows.items v new no_line v_in

pub put_others : (k h : Kernel) (v : ℕ) (new : Line) → h.lows.items ≡ slice_set k.lows.items v new → (u : ℕ) → u ≢ v → line_of h u ≡ line_of k u
put_others k h v new put u other = ap (λ (ls : List Line). slice_index_or ls u no_line) put ∙ get_or-set_other k.lows.items v u new no_line other

pub put_count : (k h : Kernel) (v : ℕ) (new : Line) → h.lows.items ≡ slice_set k.lows.items v new → length h.lows.items ≡ length k.lows.items
put_count k h v new put = ap length put ∙ length-set k.lows.items v new

-- it has turned where what was read has
pub turned_here : (k h : Kernel) (column v : ℕ) (line new : Line) (turn : Turn) → line_of h v ≡ new → line ≡ line_of k v → turn ≡ turn_of_line k column v →
    IsTurnedLine turn column k.entering line new → IsTurnedLine (turn_of_line k column v) column k.entering (line_of k v) (line_of h v)
turned_here k h column v line new turn own line_is turn_is turned =
    subst (IsTurnedLine (turn_of_line k column v) column k.entering (line_of k v)) (sym own)
    (subst (λ (l : Line). IsTurnedLine (turn_of_line k column v) column k.entering l new) line_is
    (subst (λ (t : Turn). IsTurnedLine t column k.entering line new) turn_is turned))

-- a line that is put in its place has turned
pub line_put : (k h : Kernel) (column v : ℕ) (line new : Line) (turn : Turn) → v < length k.lows.items → h.lows.items ≡ slice_set k.lows.items v new →
    line ≡ line_of k v → turn ≡ turn_of_line k column v → IsLine new → IsTurnedLine turn column k.entering line new →
    nat_abs new.denominator ∣ (nat_abs line.denominator * nat_abs turn.multiplier) → ((turn_of_line k column v).factor ≡ pos 0 → ⊥) →
    IsLineTurned k h column v
line_put k h column v line new turn v_in put line_is turn_is small turned divides some =
    let own = put_here k h v new v_in put in
    record {
      count = put_count k h v new put;
      line = subst IsLine (sym own) small;
      turned = turned_here k h column v line new turn own line_is turn_is turned;
      divides = subst (λ (l : Line). nat_abs l.denominator ∣ denominator_after k.entering column (line_of k v)) (sym own)
          (subst (λ (l : Line). nat_abs new.denominator ∣ (nat_abs l.denominator * nat_abs (turn_of_line k column v).multiplier)) line_is
          (subst (λ (t : Turn). nat_abs new.denominator ∣ (nat_abs line.denominator * nat_abs t.multiplier)) turn_is divides));
      stays = λ none. absurd (some none);
      others = put_others k h v new put;
    }

-- and so has one without a factor as it is
pub line_stays : (k : Kernel) (column v : ℕ) → IsLineReady k column v → (turn_of_line k column v).factor ≡ pos 0 → IsLineTurned k k column v
line_stays k column v r none = record {
  count = refl;
  line = r.line;
  turned = stays k.entering (line_of k v) column none r.line;
  divides = dvd-mul_right (nat_abs (line_of k v).denominator) (nat_abs (turn_of_line k column v).multiplier);
  stays = λ none. refl;
  others = λ u other. refl;
}
