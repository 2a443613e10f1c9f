-- Links found by the ends of linked interfaces.
use Rattle.std.proofs.Common.{◌≡◌, ◌||◌, ℕ, Bool, true, false, cond, nat_eq, List, [], ◌∷◌, ◌++◌, Option, None, Some, is_some, refl, sym, ap, subst, ◌∙◌}
use Rattle.std.specs.List.{list_any}
use Rattle.std.specs.Option.{option_or}
use Rattle.std.proofs.lemmas.Bool.{and_parts, eqb-true, false≢true}
use Rattle.std.proofs.lemmas.List.Folds.{list_any-append}
use Rattle.indexmap.specs.IndexMap.{IndexMap, get}
use Rattle.lsa_writer.specs.declared.ends.LinkEnd.{LinkEnd}
use Rattle.live_area.specs.declared.links.LiveLink.{LiveLink}
use Rattle.live_area.specs.declared.metrics.LinkName.{LinkName}
use Rattle.live_area.specs.LiveLinks.{is_end_named, is_link_named_so, metric_at, name_of_end, name_of_link, same_link}
use Rattle.live_area.specs.Indexes.{HasLinkMetrics, metric_named, metric_noted}

-- the metric of a name, with one link more behind
metric_push : (name : LinkName) (links : List LiveLink) (link : LiveLink) →
    metric_named name (links ++ link ∷ []) ≡ option_or (metric_named name links) (cond (is_link_named_so name link) (Some link.metric) None)
metric_push name [] link = refl
metric_push name (first ∷ links) link = by_test (is_link_named_so name first) (metric_push name links link)
  where
    by_test : (b : Bool) → metric_named name (links ++ link ∷ []) ≡
        option_or (metric_named name links) (cond (is_link_named_so name link) (Some link.metric) None) →
        cond b (Some first.metric) (metric_named name (links ++ link ∷ []))
        ≡ option_or (cond b (Some first.metric) (metric_named name links)) (cond (is_link_named_so name link) (Some link.metric) None)
    by_test true rest = refl
    by_test false rest = rest

same_is : (name other : LinkName) → same_link name other ≡ true → name ≡ other
same_is name other same =
    let parts = and_parts (nat_eq name.router other.router) (nat_eq name.address other.address) same in
    let router = eqb-true name.router other.router parts.0 in
    let address = eqb-true name.address other.address parts.1 in
    λ i. record { router = router i; address = address i }

-- what is noted of a name behind a link, by whether the link has the name and an end has it
note_is : (b e : Bool) (found : Option ℕ) (metric : ℕ) →
    cond b (metric_noted (cond e (Some found) None) metric) (cond e (Some found) None) ≡ cond e (Some (option_or found (cond b (Some metric) None))) None
note_is true true None metric = refl
note_is true true (Some first) metric = refl
note_is true false found metric = refl
note_is false true None metric = refl
note_is false true (Some first) metric = refl
note_is false false found metric = refl

metrics_added : {S : Type 0} (old new : IndexMap LinkName (Option ℕ) S) (ends : List LinkEnd) (links : List LiveLink) (link : LiveLink) →
    HasLinkMetrics old ends links →
    ((name : LinkName) → get same_link new name
    ≡ cond (same_link (name_of_link link) name) (metric_noted (get same_link old name) link.metric) (get same_link old name)) →
    HasLinkMetrics new ends (links ++ link ∷ [])
metrics_added old new ends links link has updates name =
    updates name
    ∙ ap (λ (found : Option (Option ℕ)). cond (same_link (name_of_link link) name) (metric_noted found link.metric) found) (has name)
    ∙ note_is (same_link (name_of_link link) name) (list_any (is_end_named name) ends) (metric_named name links) link.metric
    ∙ sym (ap (λ (found : Option ℕ). cond (list_any (is_end_named name) ends) (Some found) None) (metric_push name links link))

-- the look-up with a metric noted
pub metric_put : {S : Type 0} (old new : IndexMap LinkName (Option ℕ) S) (ends : List LinkEnd) (links : List LiveLink) (link : LiveLink) (metric : Option ℕ) →
    metric_noted (get same_link old (name_of_link link)) link.metric ≡ Some metric →
    ((name : LinkName) → get same_link new name ≡ cond (same_link (name_of_link link) name) (Some metric) (get same_link old name)) →
    HasLinkMetrics old ends links → HasLinkMetrics new ends (links ++ link ∷ [])
metric_put old new ends links link metric is updates has =
    metrics_added old new ends links link has (λ name. updates name ∙ by_test name (same_link (name_of_link link) name) refl)
  where
    by_test : (name : LinkName) (b : Bool) → same_link (name_of_link link) name ≡ b →
        cond b (Some metric) (get same_link old name) ≡ cond b (metric_noted (get same_link old name) link.metric) (get same_link old name)
    by_test name true same = sym is ∙ ap (λ (n : LinkName). metric_noted (get same_link old n) link.metric) (same_is (name_of_link link) name same)
    by_test name false other = refl

-- and where nothing is noted
pub nothing_put : {S : Type 0} (old : IndexMap LinkName (Option ℕ) S) (ends : List LinkEnd) (links : List LiveLink) (link : LiveLink) →
    metric_noted (get same_link old (name_of_link link)) link.metric ≡ None → HasLinkMetrics old ends links → HasLinkMetrics old ends (links ++ link ∷ [])
nothing_put old ends links link is has =
    metrics_added old old ends links link has (λ name. by_test name (same_link (name_of_link link) name) refl)
  where
    unknown : (found : Option (Option ℕ)) → metric_noted found link.metric ≡ None → found ≡ metric_noted found link.metric
    unknown None none = refl
    unknown (Some None) none = absurd (false≢true (subst (λ (o : Option (Option ℕ)). is_some o ≡ true) none refl))
    unknown (Some (Some first)) none = refl

    by_test : (name : LinkName) (b : Bool) → same_link (name_of_link link) name ≡ b →
        get same_link old name ≡ cond b (metric_noted (get same_link old name) link.metric) (get same_link old name)
    by_test name true same =
        unknown (get same_link old name)
        (sym (ap (λ (n : LinkName). metric_noted (get same_link old n) link.metric) (same_is (name_of_link link) name same)) ∙ is)
    by_test name false other = refl

-- the look-up with an end more
pub end_put : {S : Type 0} (old new : IndexMap LinkName (Option ℕ) S) (ends : List LinkEnd) (end : LinkEnd) → HasLinkMetrics old ends [] →
    ((name : LinkName) → get same_link new name ≡ cond (same_link (name_of_end end) name) (Some None) (get same_link old name)) →
    HasLinkMetrics new (ends ++ end ∷ []) []
end_put old new ends end has updates name =
    updates name
    ∙ ap (λ (found : Option (Option ℕ)). cond (same_link (name_of_end end) name) (Some None) found) (has name)
    ∙ by_tests (same_link (name_of_end end) name) (list_any (is_end_named name) ends)
    ∙ sym (ap (λ (b : Bool). cond b (Some None) None) (list_any-append (is_end_named name) ends (end ∷ [])))
  where
    nothing : Option (Option ℕ)
    nothing = Some None

    by_tests : (b e : Bool) → cond b nothing (cond e nothing None) ≡ cond (e || (b || false)) nothing None
    by_tests true true = refl
    by_tests true false = refl
    by_tests false true = refl
    by_tests false false = refl

-- the first link of an end's name is the end's link
pub metric_is : (end : LinkEnd) (links : List LiveLink) → metric_named (name_of_end end) links ≡ metric_at end links
metric_is end [] = refl
metric_is end (link ∷ links) = ap (λ (found : Option ℕ). cond (is_link_named_so (name_of_end end) link) (Some link.metric) found) (metric_is end links)

-- what is found is there exactly where an end has the name
pub found_end : {S : Type 0} (by_name : IndexMap LinkName (Option ℕ) S) (ends : List LinkEnd) (links : List LiveLink) (link : LiveLink) →
    HasLinkMetrics by_name ends links → is_some (get same_link by_name (name_of_link link)) ≡ list_any (is_end_named (name_of_link link)) ends
found_end by_name ends links link has =
    ap (λ (found : Option (Option ℕ)). is_some found) (has (name_of_link link)) ∙ by_test (list_any (is_end_named (name_of_link link)) ends)
  where
    by_test : (b : Bool) → is_some (cond b (Some (metric_named (name_of_link link) links)) None) ≡ b
    by_test true = refl
    by_test false = refl
