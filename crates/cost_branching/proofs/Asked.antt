-- Requests that are asked one after another.
use Rattle.std.proofs.Common.{◌≡◌, ℕ, ◌+◌, ◌<◌, ◌≤◌, refl, sym, ◌∙◌, ap, subst, inl, inr, get_or, List, [], ◌∷◌, ◌++◌, length, arith, append_assoc, append-nil}
use Rattle.std.specs.Prelude.{pos, ◌<ℤ◌, ◌≤ℤ◌, ◌⊎◌, All, Bool, None, Option, Some, false, slice_get, true}
use Rattle.std.specs.Int.Signed.{clash_ℤ}
use Rattle.std.proofs.lemmas.Bool.{cases_lt}
use Rattle.std.proofs.lemmas.List.{get_or-map, length-map, map-append}
use Rattle.std.proofs.lemmas.Option.{slice_get-get_or}
use Rattle.std.proofs.lemmas.List.Elements.{All-from_get_or, All-push, All-weaker}
use Rattle.std.proofs.lemmas.List.Quantifiers.{all_pairs_push}
use Rattle.area_graph.specs.declared.Point.{Point}
use Rattle.area_graph.specs.Costs.{LeadsBy, cost}
use Rattle.design_problem.specs.declared.form.Row.{Row}
use Rattle.design_problem.specs.declared.problem.Request.{Request}
use Rattle.design_problem.specs.Forms.{Form, AreMet}
use Rattle.design_problem.specs.Forms.{no_form, value_at}
use Rattle.design_problem.specs.Problems.{DesignProblem, IsProblem, request_ends, no_request, request_at, IsProblemOnGraph}
use Rattle.design_problem.specs.Rows.{IsRivalOf, IsRow, LeadsEach, form_of_row, forms_of_rows, path_edges}
use Rattle.rival_separation.specs.Askers.{AreCheapestRivals, IsCheapestIfAny, RequestLeads}
use Rattle.rival_separation.specs.Rivals.{IsCheapestRival}
use Rattle.form_search.specs.Sources.{Grows, IsSourceAnswer}
use Rattle.form_search.specs.declared.source.Asked.{Asked}
use Rattle.form_search.specs.declared.source.Asked.TheVariants.{Nothing, Added}
use Rattle.form_search.proofs.SourceLaws.{grows_none}
use Rattle.cost_branching.specs.Pools.{ArePoolRows, Differ, IsRowPool}
use Rattle.cost_branching.specs.Rivals.{BeginWith, IsRivalTooCheap, IsTrueRowForm, KnownRows}
use Rattle.cost_branching.specs.Asking.{AnswersRequestsBelow, AreAllRequestsAsked, AreRequestsAsked, AreAskedAmong, IsRequestAsked, NoRivalRow, OneRivalRow}
use Rattle.cost_branching.specs.SourceLaws.{rival_row_met}
use Rattle.cost_branching.proofs.NewForms.{between_negative, grows_more, new_form}

-- where the forms of rows are at least 0, each of them is
rows_met : (p : DesignProblem) (rows : List Row) (forms : List Form) (point : Point) → forms ≡ forms_of_rows p rows →
    AreMet forms point → All (λ row. pos 0 ≤ℤ value_at (form_of_row p row) point) rows
rows_met p rows forms point same met k d k_in =
    let met_here = subst (λ (fs : List Form). AreMet fs point) same met k no_form (omega (arith, length-map rows (form_of_row p))) in
    subst (λ (f : Form). pos 0 ≤ℤ value_at f point) (get_or-map (form_of_row p) rows k d no_form k_in) met_here

-- no request was asked yet
pub none_asked : (point : Point) (old : KnownRows) (forms : List Form) →
    IsRowPool old.problem (record { rows = old.rows; forms = forms }) → AreMet forms point →
    AreRequestsAsked point 0 old forms old forms Nothing
none_asked point old forms in_step met = record {
  problem = refl;
  in_step = in_step;
  grows = grows_none (IsTrueRowForm old.problem) forms;
  apart = λ k d k_in. inr (rows_met old.problem old.rows forms point in_step.forms met k d k_in);
  answer = (refl, λ k k_in. absurd (omega arith));
}

-- one request more, whose path leads
answers_more : (p : DesignProblem) (point : Point) (requests : ℕ) (old_forms forms : List Form) (asked : Asked) →
    AnswersRequestsBelow p point requests old_forms forms asked → RequestLeads p.graph point (request_at p.requests requests) →
    AnswersRequestsBelow p point (requests + 1) old_forms forms asked
answers_more p point requests old_forms forms Nothing answer leads = (
  answer.0,
  λ k k_in. elim (cases_lt k requests) [
    | inl before ↦ answer.1 k before
    | inr last ↦ subst (λ (i : ℕ). RequestLeads p.graph point (request_at p.requests i)) (let e : requests ≡ k = omega arith in e) leads
  ],
)
answers_more p point requests old_forms forms Added answer leads = answer

abbrev Apart : DesignProblem → Point → ℕ → Row → Type 0
Apart p point requests row = (row.request < requests) ⊎ (pos 0 ≤ℤ value_at (form_of_row p row) point)

apart_more : (p : DesignProblem) (point : Point) (requests : ℕ) (row : Row) → Apart p point requests row → Apart p point (requests + 1) row
apart_more p point requests row (inl before) = inl (omega arith)
apart_more p point requests row (inr met) = inr met

pub more_lead : (point : Point) (requests : ℕ) (old : KnownRows) (old_forms : List Form) (now : KnownRows)
    (forms : List Form) (new : KnownRows) (new_forms : List Form) (asked : Asked) →
    AreRequestsAsked point requests old old_forms now forms asked → NoRivalRow point requests now forms new new_forms →
    AreRequestsAsked point (requests + 1) old old_forms new new_forms asked
more_lead point requests old old_forms now forms new new_forms asked are one =
    subst (λ (s : KnownRows). AreRequestsAsked point (requests + 1) old old_forms s new_forms asked) (sym one.rows)
    (subst (λ (fs : List Form). AreRequestsAsked point (requests + 1) old old_forms now fs asked) (sym one.forms)
    (record {
      problem = are.problem;
      in_step = are.in_step;
      grows = are.grows;
      apart = All-weaker (Apart old.problem point requests) (Apart old.problem point (requests + 1)) (apart_more old.problem point requests) now.rows are.apart;
      answer = answers_more old.problem point requests old_forms forms asked are.answer
          (subst (λ (p : DesignProblem). RequestLeads p.graph point (request_at p.requests requests)) are.problem one.leads);
    }))

-- one request more, of which a row came

-- the same request and edges under other names
pub too_cheap_as : (p : DesignProblem) (point : Point) (k l : ℕ) (edges others : List ℕ) → l ≡ k → others ≡ edges →
    IsRivalTooCheap p point k edges → IsRivalTooCheap p point l others
too_cheap_as p point k l edges others same_request same_edges too_cheap =
    subst (λ (i : ℕ). IsRivalTooCheap p point i others) (sym same_request) (subst (λ (es : List ℕ). IsRivalTooCheap p point k es) (sym same_edges) too_cheap)

-- the cheapest rival of a request's path, where it is cheap
too_cheap_of : (p : DesignProblem) (point : Point) (k : ℕ) (es : List ℕ) → k < length p.requests →
    IsCheapestRival p.graph point (request_ends (request_at p.requests k)) (request_at p.requests k).path.edges es →
    IsRivalTooCheap p point k es
too_cheap_of p point k es known cheapest =
    let here : slice_get p.requests k ≡ Some (request_at p.requests k) = slice_get-get_or p.requests k no_request known in
    record {
      rival = subst (λ (r : Option Request). IsRivalOf p.graph r es) (sym here) cheapest.rival;
      cheap = subst (λ (r : Option Request). cost p.graph point es < cost p.graph point (path_edges r) + point.scale) (sym here) cheapest.cheap;
    }

-- what is told of a request: that rival is too cheap, or the path leads
pub told_cheap : (p : DesignProblem) (point : Point) (k : ℕ) (rivals : List (Option (List ℕ))) (rival : Option (List ℕ))
    (es : List ℕ) → AreCheapestRivals p.graph point p.requests rivals → k < length p.requests → rival ≡ get_or rivals k None →
    rival ≡ Some es → IsRivalTooCheap p point k es
told_cheap p point k rivals rival es are known told is =
    too_cheap_of p point k es known
    (subst (IsCheapestIfAny p.graph point (request_at p.requests k)) (sym told ∙ is) (are.each k known))

pub told_leads : (p : DesignProblem) (point : Point) (k : ℕ) (rivals : List (Option (List ℕ))) (rival : Option (List ℕ)) →
    AreCheapestRivals p.graph point p.requests rivals → k < length p.requests → rival ≡ get_or rivals k None → rival ≡ None →
    RequestLeads p.graph point (request_at p.requests k)
told_leads p point k rivals rival are known told is =
    subst (IsCheapestIfAny p.graph point (request_at p.requests k)) (sym told ∙ is) (are.each k known)

-- the rows still begin with those
pub begun_more : (first : List Row) (point : Point) (request : ℕ) (old : KnownRows) (forms : List Form)
    (new : KnownRows) (new_forms : List Form) (asked : Bool) → BeginWith first old.rows →
    IsRequestAsked point request old forms new new_forms asked → BeginWith first new.rows
begun_more first point request old forms new new_forms true begun one = record {
  more = begun.more ++ one.row ∷ [];
  same = ap (λ (s : KnownRows). s.rows) one.rows ∙ ap (λ (rows : List Row). rows ++ one.row ∷ []) begun.same ∙ append_assoc first begun.more (one.row ∷ []);
}
begun_more first point request old forms new new_forms false begun one =
    record { more = begun.more; same = ap (λ (s : KnownRows). s.rows) one.rows ∙ begun.same }

row_negative : (p : DesignProblem) (point : Point) (row : Row) → IsProblem p → length point.values ≡ length p.low →
    IsRivalTooCheap p point row.request row.rival → value_at (form_of_row p row) point <ℤ pos 0
row_negative p point row kept count cheap =
    between_negative p point (path_edges (slice_get p.requests row.request)) row.rival kept count cheap.cheap

same_row_form : (p : DesignProblem) (a b : Row) → a.request ≡ b.request → a.rival ≡ b.rival → form_of_row p a ≡ form_of_row p b
same_row_form p a b same_request same_edges = cc

-- a row that came differs from each that is apart
differs : (p : DesignProblem) (point : Point) (requests : ℕ) (a row : Row) → row.request ≡ requests →
    value_at (form_of_row p row) point <ℤ pos 0 → Apart p point requests a → Differ a row
differs p point requests a row here negative (inl before) same_request same_edges = omega arith
differs p point requests a row here negative (inr met) same_request same_edges =
    clash_ℤ negative (subst (λ (f : Form). pos 0 ≤ℤ value_at f point) (same_row_form p a row same_request same_edges) met)

-- a pool with one row more
pool_more : (p : DesignProblem) (point : Point) (requests : ℕ) (rows : List Row) (forms : List Form) (row : Row) →
    IsRowPool p (record { rows = rows; forms = forms }) → All (Apart p point requests) rows → row.request ≡ requests →
    IsRivalTooCheap p point row.request row.rival → value_at (form_of_row p row) point <ℤ pos 0 →
    IsRowPool p (record { rows = rows ++ row ∷ []; forms = forms ++ form_of_row p row ∷ [] })
pool_more p point requests rows forms row pool apart here cheap negative = record {
  rows = All-push (IsRow p) rows row pool.rows cheap.rival;
  once = all_pairs_push Differ rows row pool.once (λ k d k_in. differs p point requests (get_or rows k d) row here negative (apart k d k_in));
  forms = ap (λ (fs : List Form). fs ++ form_of_row p row ∷ []) pool.forms ∙ sym (map-append (form_of_row p) rows (row ∷ []));
}

row_added : (point : Point) (requests : ℕ) (old : KnownRows) (old_forms : List Form) (now : KnownRows)
    (forms : List Form) (asked : Asked) (row : Row) → AreRequestsAsked point requests old old_forms now forms asked →
    AreMet old_forms point → length point.values ≡ length old.problem.low → IsProblemOnGraph old.problem →
    row.request ≡ requests → IsRivalTooCheap old.problem point row.request row.rival →
    AreRequestsAsked point (requests + 1) old old_forms (record now { rows = now.rows ++ row ∷ [] })
    (forms ++ form_of_row old.problem row ∷ []) Added
row_added point requests old old_forms now forms asked row are met count kept here cheap =
    let p = old.problem in
    let negative = row_negative p point row kept.problem count cheap in
    record {
      problem = are.problem;
      in_step = pool_more p point requests now.rows forms row are.in_step are.apart here cheap negative;
      grows = grows_more (IsTrueRowForm p) old_forms forms (form_of_row p row) are.grows
          (record { kept = kept; of_row = record { row = row; is_row = cheap.rival; same = refl } });
      apart = All-push (Apart p point (requests + 1)) now.rows row
          (All-weaker (Apart p point requests) (Apart p point (requests + 1)) (apart_more p point requests) now.rows
          are.apart) (inl (omega arith));
      answer = (
        λ leads. clash_ℤ negative (rival_row_met p point row kept.problem count cheap.rival leads),
        new_form point old_forms forms (form_of_row p row) met negative,
      );
    }

pub one_added : (point : Point) (requests : ℕ) (old : KnownRows) (old_forms : List Form) (now : KnownRows)
    (forms : List Form) (new : KnownRows) (new_forms : List Form) (asked : Asked) →
    AreRequestsAsked point requests old old_forms now forms asked → AreMet old_forms point →
    length point.values ≡ length old.problem.low → OneRivalRow point requests now forms new new_forms →
    AreRequestsAsked point (requests + 1) old old_forms new new_forms Added
one_added point requests old old_forms now forms new new_forms asked are met count one =
    subst (λ (s : KnownRows). AreRequestsAsked point (requests + 1) old old_forms s new_forms Added) (sym one.rows)
    (subst (λ (fs : List Form). AreRequestsAsked point (requests + 1) old old_forms (record now { rows = now.rows ++ one.row ∷ [] }) fs Added)
    (sym (one.forms ∙ ap (λ (p : DesignProblem). forms ++ form_of_row p one.row ∷ []) are.problem))
    (row_added point requests old old_forms now forms asked one.row are met count (subst IsProblemOnGraph are.problem one.kept)
    one.request_is (subst (λ (p : DesignProblem). IsRivalTooCheap p point one.row.request one.row.rival)
    are.problem one.cheap)))

-- where the paths of all requests lead, each path leads
pub all_lead : (p : DesignProblem) (point : Point) (requests : ℕ) → length p.requests ≤ requests →
    ((k : ℕ) → k < requests → RequestLeads p.graph point (request_at p.requests k)) → LeadsEach p point
all_lead p point requests all lead =
    All-from_get_or (λ r. LeadsBy point.scale p.graph point (request_ends r) r.path.edges) p.requests no_request (λ k k_in. lead k (omega arith))

-- all requests were asked
pub all_asked : (point : Point) (requests : ℕ) (old : KnownRows) (old_forms : List Form) (new : KnownRows)
    (new_forms : List Form) (asked : Asked) → length old.problem.requests ≤ requests →
    AreRequestsAsked point requests old old_forms new new_forms asked →
    IsSourceAnswer (LeadsEach old.problem) point old_forms new_forms asked
all_asked point requests old old_forms new new_forms asked all are = by_answer asked are.answer
  where
    by_answer : (asked : Asked) → AnswersRequestsBelow old.problem point requests old_forms new_forms asked →
        IsSourceAnswer (LeadsEach old.problem) point old_forms new_forms asked
    by_answer Nothing answer = (all_lead old.problem point requests all answer.1, answer.0)
    by_answer Added answer = answer

-- Requests that are asked where the pool may hold other forms besides those of the rows.

-- the rows, with their own forms
pub pool_of_rows : (p : DesignProblem) (rows : List Row) → ArePoolRows p rows → IsRowPool p (record { rows = rows; forms = forms_of_rows p rows })
pool_of_rows p rows are = record { rows = are.0; once = are.1; forms = refl }

pub none_asked_among : (point : Point) (old : KnownRows) (forms : List Form) → ArePoolRows old.problem old.rows →
    AreMet (forms_of_rows old.problem old.rows) point → AreAskedAmong point 0 old forms old forms Nothing
none_asked_among point old forms are met = record {
  own = none_asked point old (forms_of_rows old.problem old.rows) (pool_of_rows old.problem old.rows are) met;
  more = [];
  rows = sym (append-nil (forms_of_rows old.problem old.rows));
  forms = sym (append-nil forms);
  grows = grows_none (IsTrueRowForm old.problem) forms;
}

pub more_lead_among : (point : Point) (requests : ℕ) (old : KnownRows) (old_forms : List Form) (now : KnownRows)
    (forms : List Form) (new : KnownRows) (new_forms : List Form) (asked : Asked) →
    AreAskedAmong point requests old old_forms now forms asked → NoRivalRow point requests now forms new new_forms →
    AreAskedAmong point (requests + 1) old old_forms new new_forms asked
more_lead_among point requests old old_forms now forms new new_forms asked are one =
    let own = forms_of_rows old.problem now.rows in
    let same : forms_of_rows old.problem new.rows ≡ own = ap (λ (s : KnownRows). forms_of_rows old.problem s.rows) one.rows in
    record {
      own = more_lead point requests old (forms_of_rows old.problem old.rows) now own new
          (forms_of_rows old.problem new.rows) asked are.own
          (record { leads = one.leads; rows = one.rows; forms = same });
      more = are.more;
      rows = same ∙ are.rows;
      forms = one.forms ∙ are.forms;
      grows = subst (λ (fs : List Form). Grows (IsTrueRowForm old.problem) old_forms fs) (sym one.forms) are.grows;
    }

pub one_added_among : (point : Point) (requests : ℕ) (old : KnownRows) (old_forms : List Form) (now : KnownRows)
    (forms : List Form) (new : KnownRows) (new_forms : List Form) (asked : Asked) →
    AreAskedAmong point requests old old_forms now forms asked → AreMet (forms_of_rows old.problem old.rows) point →
    length point.values ≡ length old.problem.low → OneRivalRow point requests now forms new new_forms →
    AreAskedAmong point (requests + 1) old old_forms new new_forms Added
one_added_among point requests old old_forms now forms new new_forms asked are met count one =
    let p = old.problem in
    let own = forms_of_rows p now.rows in
    let form = form_of_row p one.row in
    let row_form : form_of_row now.problem one.row ≡ form = ap (λ (q : DesignProblem). form_of_row q one.row) are.own.problem in
    let grown : forms_of_rows p new.rows ≡ own ++ form ∷ [] = ap (λ (s : KnownRows). forms_of_rows p s.rows) one.rows
    ∙ map-append (form_of_row p) now.rows (one.row ∷ []) in
    record {
      own = one_added point requests old (forms_of_rows p old.rows) now own new (forms_of_rows p new.rows) asked are.own met count
          (record {
            kept = one.kept;
            row = one.row;
            request_is = one.request_is;
            cheap = one.cheap;
            rows = one.rows;
            forms = grown ∙ ap (λ (f : Form). own ++ f ∷ []) (sym row_form);
          });
      more = are.more ++ form ∷ [];
      rows = grown ∙ ap (λ (fs : List Form). fs ++ form ∷ []) are.rows ∙ append_assoc (forms_of_rows p old.rows) are.more (form ∷ []);
      forms = one.forms ∙ ap (λ (f : Form). forms ++ f ∷ []) row_form
          ∙ ap (λ (fs : List Form). fs ++ form ∷ []) are.forms ∙ append_assoc old_forms are.more (form ∷ []);
      grows = subst (λ (fs : List Form). Grows (IsTrueRowForm p) old_forms fs) (sym (one.forms ∙ ap (λ (f : Form). forms ++ f ∷ []) row_form))
          (grows_more (IsTrueRowForm p) old_forms forms form are.grows
          (record {
            kept = subst IsProblemOnGraph are.own.problem one.kept;
            of_row = record {
              row = one.row;
              is_row = (subst (λ (q : DesignProblem). IsRivalTooCheap q point one.row.request one.row.rival)
                  are.own.problem one.cheap).rival;
              same = refl;
            };
          }));
    }

pub all_asked_among : (point : Point) (requests : ℕ) (old : KnownRows) (old_forms : List Form) (new : KnownRows)
    (new_forms : List Form) (asked : Asked) → length old.problem.requests ≤ requests →
    AreAskedAmong point requests old old_forms new new_forms asked → AreAllRequestsAsked point old old_forms new new_forms asked
all_asked_among point requests old old_forms new new_forms asked all are = record {
  problem = are.own.problem;
  are_rows = (are.own.in_step.rows, are.own.in_step.once);
  more = are.more;
  rows = are.rows;
  forms = are.forms;
  answer = all_asked point requests old (forms_of_rows old.problem old.rows) new (forms_of_rows old.problem new.rows) asked all are.own;
}
