-- A path behind other statements, unless it is one too many.
use Rattle.std.proofs.Common.{◌≡◌, ℕ, ◌+◌, ◌≤◌, ◌<◌, refl, sym, ◌∙◌, ap, subst, List, [], ◌∷◌, ◌++◌, Bool, true, false, cond, ◌&&◌, Option, Some, None, All, arith}
use Rattle.std.specs.Prelude.{nat_le, count_by}
use Rattle.std.proofs.lemmas.Bool.{le-leb, lt-leb}
use Rattle.std.proofs.lemmas.List.Elements.{All-nil, All-cons, All-append}
use Rattle.std.proofs.lemmas.List.Sums.{sum_by-append}
use Rattle.cost_base.specs.declared.refusal.Refusal.{Refusal}
use Rattle.text_lines.specs.LineFaults.{TellsFault, fault_at, fault_in_line}
use Rattle.request_reader.specs.declared.DirectiveLine.{DirectiveLine}
use Rattle.request_reader.specs.declared.Directive.{Directive}
use Rattle.request_reader.specs.declared.fault.RequestFault.{RequestFault}
use Rattle.request_reader.specs.declared.fault.RequestFault.TheVariants.{TooManyPaths}
use Rattle.request_reader.specs.declared.reading.statement.Statement.TheVariants.{Ask}
use Rattle.request_reader.specs.Asked.{HasGoodBounds, is_path, is_path_directive}
use Rattle.request_reader.specs.Reading.{Told, fault_said}
use Rattle.request_reader.specs.ReadingSteps.{KeepsTold}

abbrev told_of : Option ℕ → Option ℕ → List DirectiveLine → Told
told_of area default items = record { area = area; default_cost = default; items = items }

-- so many paths were read
pub counted_now : (area default : Option ℕ) (items : List DirectiveLine) (told : Told) (paths : ℕ) →
    record { area = area; default_cost = default; items = items } ≡ told → count_by is_path items ≡ paths →
    count_by is_path told.items ≡ paths
counted_now area default items told paths view counted =
    ap (λ (t : Told). count_by is_path t.items) (sym view) ∙ counted

many_test : (is : Bool) (n : ℕ) → is ≡ true → 10000 ≤ n → (is && nat_le 10000 n) ≡ true
many_test true n path many = le-leb 10000 n many
many_test false n path many = absurd (cc)

few_test : (is : Bool) (n : ℕ) → n < 10000 → (is && nat_le 10000 n) ≡ false
few_test true n few = lt-leb 10000 n few
few_test false n few = refl

-- one path too many is told
pub path_refused : (told : Told) (line : ℕ) (what : Directive) (paths : ℕ) (stop : Refusal RequestFault ℕ) →
    count_by is_path told.items ≡ paths → 10000 ≤ paths → is_path_directive what ≡ true →
    TellsFault (Some (fault_at line TooManyPaths)) stop →
    TellsFault (fault_in_line line (fault_said told (Ask what))) stop
path_refused told line what paths stop counted many path tells =
    let test = many_test (is_path_directive what) (count_by is_path told.items) path (omega (arith, counted, many)) in
    subst (λ (b : Bool). TellsFault (fault_in_line line (cond b (Some TooManyPaths) None)) stop) (sym test) tells

-- a path that isn't one too many has no fault
pub path_lawful : (told : Told) (what : Directive) (paths : ℕ) → count_by is_path told.items ≡ paths → paths < 10000 →
    fault_said told (Ask what) ≡ None
path_lawful told what paths counted few =
    let test = few_test (is_path_directive what) (count_by is_path told.items) (omega (arith, counted, few)) in
    ap (λ (b : Bool). cond b (Some TooManyPaths) None) test

-- one path more keeps the rules
pub path_kept : (default : Option ℕ) (paths : ℕ) (items after : List DirectiveLine) (item : DirectiveLine) → KeepsTold default paths items →
    HasGoodBounds item.what → is_path item ≡ true → paths < 10000 → after ≡ items ++ item ∷ [] →
    KeepsTold default (paths + 1) after
path_kept default paths items after item kept bounds path few added =
    let one : ◌≡◌ {A = ℕ} (cond (is_path item) 1 0) 1 = ap (λ (b : Bool). cond b 1 0) path in
    let counted : count_by is_path (items ++ item ∷ []) ≡ count_by is_path items + (0 + cond (is_path item) 1 0)
    = sum_by-append (λ (i : DirectiveLine). cond (is_path i) 1 0) items (item ∷ []) in
    let all : count_by is_path (items ++ item ∷ []) ≡ paths + 1 = omega (arith, counted, one, kept.counted) in
    record {
      bounds = subst (All (λ (i : DirectiveLine). HasGoodBounds i.what)) (sym added)
          (All-append (λ (i : DirectiveLine). HasGoodBounds i.what) items (item ∷ []) kept.bounds
          (All-cons (λ (i : DirectiveLine). HasGoodBounds i.what) item [] bounds (All-nil (λ (i : DirectiveLine). HasGoodBounds i.what))));
      default = kept.default;
      counted = ap (λ (is : List DirectiveLine). count_by is_path is) added ∙ all;
      few = omega (arith, few);
    }

-- what was said, with one item more
pub line_told : (area default : Option ℕ) (items after : List DirectiveLine) (item : DirectiveLine) (told : Told) →
    record { area = area; default_cost = default; items = items } ≡ told → after ≡ items ++ item ∷ [] →
    record { area = area; default_cost = default; items = after } ≡ record told { items = told.items ++ item ∷ [] }
line_told area default items after item told view added =
    ap (λ (is : List DirectiveLine). told_of area default is) added
    ∙ ap (λ (t : Told). told_of t.area t.default_cost (t.items ++ item ∷ [])) view
