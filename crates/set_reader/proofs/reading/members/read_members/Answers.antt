use Rattle.std.proofs.Common.{rules, ◌≡◌, ◌∙◌, ◌++◌, ◌∷◌, [], ℕ, List, Bor, map, get_or, refl, sym, subst, ap, true, false}
use Rattle.std.specs.List.{list_any}
use Rattle.std.proofs.lemmas.Bool.{not-true, not-false}
use Rattle.cost_base.specs.Lists.{same_bytes}
use Rattle.design_problem.specs.declared.problem.Request.{Request}
use Rattle.set_reader.specs.ReadingSteps.{is_out_of_place}
use Rattle.set_reader.proofs.MemberLaws.{edges_at, members_begin, members_wrong, members_more, members_ordered, members_known, members_done, out_is_wrong, seen_is_wrong}
use Rattle.set_reader.proofs.reading.members.read_members.Goals as goal

pub loop-number-init : goal.loop-number-init
loop-number-init c =
    members_begin c.args.requests.now c.args.taken.now c.args.numbers.now c.new-members.result.items
    (map {A = Bor (List ℕ)} {B = List ℕ} (λ edges. edges.now) c.new-seen.result.keys)
    c.new-members.ensures.items (ap (map {A = Bor (List ℕ)} {B = List ℕ} (λ edges. edges.now)) c.new-seen.ensures.empty)

pub returns-in_default-clause-refused : goal.returns-in_default-clause-refused
returns-in_default-clause-refused c = λ earlier are.
    let requests = c.args.requests.now in
    let taken = c.args.taken.now in
    let members = c.loop-number.members.items in
    let n = get_or c.args.numbers.now c.loop-number.number-index 0 in
    let wrong = out_is_wrong requests taken earlier members n c.requires.count are
    (subst (λ (ms : List ℕ). is_out_of_place requests taken ms n ≡ true) c.as_slice.ensures.value c.in_default.ensures.found) in
    rw (
      members_wrong requests taken c.args.numbers.now c.loop-number.number-index n members
          (map {A = Bor (List ℕ)} {B = List ℕ} (λ edges. edges.now) c.loop-number.seen.keys) earlier
          c.loop-number.invariant c.loop-number-test.true refl are wrong,
      c.at.ensures,
    )
    refl

pub returns-then-not-branch-clause-refused : goal.returns-then-not-branch-clause-refused
returns-then-not-branch-clause-refused c = λ earlier are.
    let requests = c.args.requests.now in
    let taken = c.args.taken.now in
    let members = c.loop-number.members.items in
    let edges = map {A = Bor (List ℕ)} {B = List ℕ} (λ edges. edges.now) c.loop-number.seen.keys in
    let n = get_or c.args.numbers.now c.loop-number.number-index 0 in
    let seen : list_any (same_bytes (edges_at requests n)) edges ≡ true =
    ap (λ (r : Request). list_any (same_bytes r.path.edges) edges) (sym c.in-Some.ensures.found.0)
    ∙ not-false (list_any (same_bytes c.in-Some.request.now.path.edges) edges) (sym c.in_ok-see.ensures.new ∙ c.if-not-branch.true) in
    let wrong = seen_is_wrong requests earlier members edges n c.loop-number.invariant.edges_are seen in
    rw (
      members_wrong requests taken c.args.numbers.now c.loop-number.number-index n members edges earlier
          c.loop-number.invariant c.loop-number-test.true refl are wrong,
      c.at-then-not-branch.ensures,
    )
    refl

pub loop-number-preserved : goal.loop-number-preserved
loop-number-preserved c =
    let requests = c.args.requests.now in
    let taken = c.args.taken.now in
    let members = c.loop-number.members.items in
    let edges = map {A = Bor (List ℕ)} {B = List ℕ} (λ edges. edges.now) c.loop-number.seen.keys in
    let n = get_or c.args.numbers.now c.loop-number.number-index 0 in
    let unseen : list_any (same_bytes (edges_at requests n)) edges ≡ false =
    ap (λ (r : Request). list_any (same_bytes r.path.edges) edges) (sym c.in-Some.ensures.found.0)
    ∙ not-true (list_any (same_bytes c.in-Some.request.now.path.edges) edges) (sym c.in_ok-see.ensures.new ∙ c.if-not-branch.false) in
    let more = members_more requests taken c.args.numbers.now c.loop-number.number-index n members edges
    c.loop-number.invariant c.requires.count c.loop-number-test.true refl
    (subst (λ (ms : List ℕ). is_out_of_place requests taken ms n ≡ false) c.as_slice.ensures.value c.in-Some.ensures.found.1) unseen in
    let added = c.in_ok-see.ensures.added (c.if-not-branch.false) ∙ ap (λ (r : Request). edges ++ r.path.edges ∷ []) c.in-Some.ensures.found.0 in
    rw (c.in_ok-push_last.ensures.added, added) more

pub returns-clause-made : goal.returns-clause-made
returns-clause-made c =
    members_ordered c.args.requests.now c.args.taken.now c.args.numbers.now c.loop-number.number-index
    c.loop-number.members.items (map {A = Bor (List ℕ)} {B = List ℕ} (λ edges. edges.now) c.loop-number.seen.keys)
    c.sort_unstable.new.self.items
    c.loop-number.invariant (search rules) c.sort_unstable.ensures.permutation c.sort_unstable.ensures.sorted

pub returns-clause-lawful : goal.returns-clause-lawful
returns-clause-lawful c = λ earlier are.
    members_done c.args.requests.now c.args.taken.now c.args.numbers.now c.loop-number.number-index
    c.loop-number.members.items (map {A = Bor (List ℕ)} {B = List ℕ} (λ edges. edges.now) c.loop-number.seen.keys)
    c.loop-number.invariant (search rules) earlier are

pub returns-clause-known : goal.returns-clause-known
returns-clause-known c =
    members_known c.args.requests.now c.args.taken.now c.args.numbers.now c.loop-number.number-index
    c.loop-number.members.items (map {A = Bor (List ℕ)} {B = List ℕ} (λ edges. edges.now) c.loop-number.seen.keys)
    c.sort_unstable.new.self.items
    c.loop-number.invariant c.sort_unstable.ensures.permutation
