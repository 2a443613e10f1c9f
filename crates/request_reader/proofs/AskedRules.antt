-- What a request file without a fault asks for keeps the rules of requests.
use Rattle.std.proofs.Common.{◌≡◌, ℕ, ◌+◌, ◌≤◌, ◌<◌, refl, sym, subst, List, [], ◌∷◌, ◌++◌, Bool, true, false, cond, ◌&&◌, Some, None, All, arith}
use Rattle.std.specs.Prelude.{nat_le, IfSome, count_by}
use Rattle.std.proofs.lemmas.Bool.{leb-false}
use Rattle.std.proofs.lemmas.List.Elements.{All-nil, All-cons, All-append}
use Rattle.std.proofs.lemmas.List.Sums.{sum_by-append}
use Rattle.cost_base.proofs.ListLemmas.{append-none, none_first}
use Rattle.text_lines.specs.Lines.{lines}
use Rattle.text_lines.specs.Statements.{text_faults}
use Rattle.text_lines.proofs.StatementLaws.{lawful_statements}
use Rattle.request_reader.specs.declared.DirectiveLine.{DirectiveLine}
use Rattle.request_reader.specs.declared.Directive.{Directive}
use Rattle.request_reader.specs.declared.fault.RequestFault.TheVariants.{TooManyPaths}
use Rattle.request_reader.specs.declared.reading.statement.Statement.{Statement}
use Rattle.request_reader.specs.declared.reading.statement.Statement.TheVariants.{Area, DefaultCost, Ask, Refused}
use Rattle.request_reader.specs.Asked.{IsAsked, HasGoodBounds, is_path, is_path_directive}
use Rattle.request_reader.specs.ReadingLines.{request_statement_of}
use Rattle.request_reader.specs.Reading.{Told, told_by, fault_said, request_rules, area_faults, request_faults, request_fault, asked_by}
use Rattle.request_reader.specs.ReadingSteps.{told_with, KeepsRules}
use Rattle.request_reader.proofs.ReadingLaws.{told_next}
use Rattle.request_reader.proofs.ReadingRules.{statement_rules}

-- what some statements say together keeps the rules
record ToldKeeps (told : Told) : Type 0 where
  bounds : All (λ item. HasGoodBounds item.what) told.items
  default : IfSome told.default_cost (λ cost. 0 < cost)
  paths : count_by is_path told.items ≤ 10000

-- one path more, where there weren't too many
one_path_more : (is many : Bool) (n : ℕ) → many ≡ nat_le 10000 n → n ≤ 10000 →
    cond (is && many) (Some TooManyPaths) None ≡ None → n + cond is 1 0 ≤ 10000
one_path_more true true n few_is few none = absurd (cc)
one_path_more true false n few_is few none = let below : n < 10000 = leb-false 10000 n (sym few_is) in omega arith
one_path_more false many n few_is few none = omega arith

-- so they do with one more line that asks for something, which has no fault
kept_directive : (told : Told) (n : ℕ) (directive : Directive) → ToldKeeps told → HasGoodBounds directive →
    fault_said told (Ask directive) ≡ None → ToldKeeps (told_with told n (Ask directive))
kept_directive told n directive kept bounds none =
    let item : DirectiveLine = record { line = n; what = directive } in
    let counted : count_by is_path (told.items ++ item ∷ []) ≡ count_by is_path told.items + (0 + cond (is_path_directive directive) 1 0)
    = sum_by-append (λ (i : DirectiveLine). cond (is_path i) 1 0) told.items (item ∷ []) in
    let more = one_path_more (is_path_directive directive) (nat_le 10000 (count_by is_path told.items)) (count_by is_path told.items) refl kept.paths none in
    record {
      bounds = All-append (λ (i : DirectiveLine). HasGoodBounds i.what) told.items (item ∷ []) kept.bounds
          (All-cons (λ (i : DirectiveLine). HasGoodBounds i.what) item [] bounds (All-nil (λ (i : DirectiveLine). HasGoodBounds i.what)));
      default = kept.default;
      paths = omega (arith, counted, more);
    }

-- so it does with one statement more that has no fault
kept_more : (told : Told) (n : ℕ) (said : Statement) → ToldKeeps told → KeepsRules said → fault_said told said ≡ None →
    ToldKeeps (told_with told n said)
kept_more told n (Area a) kept rules none = record { bounds = kept.bounds; default = kept.default; paths = kept.paths }
kept_more told n (DefaultCost cost) kept rules none = record { bounds = kept.bounds; default = rules; paths = kept.paths }
kept_more told n (Ask directive) kept rules none = kept_directive told n directive kept rules none
kept_more told n (Refused fault) kept rules none = kept

-- a request file without a fault asks for lawful bounds, a positive default cost and at most 10,000 paths
pub asked_keeps : (bytes : List ℕ) → request_fault bytes ≡ None → IsAsked (asked_by bytes)
asked_keeps bytes none =
    let file = lines bytes in
    let parts = append-none (text_faults request_rules file) (area_faults file) (none_first (request_faults file) none) in
    let kept = lawful_statements request_rules (λ before. ToldKeeps (told_by before)) file
    (record { bounds = All-nil (λ (i : DirectiveLine). HasGoodBounds i.what); default = tt; paths = omega arith })
    (λ before s kept lawful. subst ToldKeeps (told_next before s lawful)
    (kept_more (told_by before) s.line (request_statement_of s.words) kept (statement_rules s.words (request_statement_of s.words) refl) lawful)) parts.0 in
    record { bounds = kept.bounds; default = kept.default; paths = kept.paths }
