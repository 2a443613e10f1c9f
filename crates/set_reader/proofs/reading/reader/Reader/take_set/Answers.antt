use Rattle.std.proofs.Common.{◌≡◌, ◌∙◌, ◌++◌, ◌∷◌, [], ◌<◌, ℕ, List, length, sym, ap, subst, All, false, arith}
use Rattle.std.specs.List.{concat}
use Rattle.std.proofs.lemmas.List.Elements.{All-weaker}
use Rattle.area_graph.specs.Distances.{AreEdgeMarks}
use Rattle.design_problem.specs.Problems.{DesignProblem}
use Rattle.design_problem.specs.declared.problem.Request.{Request}
use Rattle.set_reader.specs.Reading.{is_wrong_set}
use Rattle.set_reader.specs.ReadingSteps.{KeepsSets}
use Rattle.set_reader.proofs.SetLaws.{sets_more}
use Rattle.set_reader.proofs.reading.reader.Reader.take_set.Goals as goal

pub mark_members-requires : goal.mark_members-requires
mark_members-requires c =
    let members = c.in_ok-members.members.items in
    let taken = c.self.inside.taken.items in
    let requests : c.as_slice-requests.result.now ≡ c.self.inside.problem.now.requests = c.as_slice-requests.ensures
    ∙ ap (λ (p : DesignProblem). p.requests) c.problem.view_is in
    let known : All (λ member. member < length taken) members =
    All-weaker (λ member. member < length c.as_slice-requests.result.now) (λ member. member < length taken)
    (λ member below. let count = ap length requests in omega (arith, below, count, c.self.invariant.count)) members c.in_ok-members.ensures.known in
    subst (All (λ member. member < length taken)) (sym (c.as_slice-2.ensures ∙ c.from_items-set.ensures)) known

pub invariant_of-self-2 : goal.invariant_of-self-2
invariant_of-self-2 c =
    let members = c.in_ok-members.members.items in
    let sets = c.self.inside.sets.items in
    let taken = c.self.inside.taken.items in
    let numbers = c.args.numbers.now in
    let requests : c.as_slice-requests.result.now ≡ c.self.inside.problem.now.requests = c.as_slice-requests.ensures
    ∙ ap (λ (p : DesignProblem). p.requests) c.problem.view_is in
    let lawful : is_wrong_set c.self.inside.problem.now.requests (concat sets) numbers ≡ false =
    subst (λ (rs : List Request). is_wrong_set rs (concat sets) numbers ≡ false) requests
    (c.in_ok-members.ensures.lawful (concat sets) (subst (AreEdgeMarks (concat sets)) (sym c.as_slice.ensures.value) c.self.invariant.marks)) in
    let set : c.as_slice-2.result.now ≡ members = c.as_slice-2.ensures ∙ c.from_items-set.ensures in
    let marks = c.mark_members.ensures.marks (concat sets) c.self.invariant.marks in
    let after = subst (λ (ms : List ℕ). AreEdgeMarks (concat sets ++ ms) c.mark_members.new.taken.items) set marks in
    let kept = sets_more c.self.inside.problem.now sets numbers members taken c.mark_members.new.taken.items
    c.self.invariant c.requires.several lawful c.in_ok-members.ensures.made after c.mark_members.ensures.count in
    subst (λ (ss : List (List ℕ)). KeepsSets c.self.inside.problem.now ss c.mark_members.new.taken.items)
    (sym (c.push_reserved.ensures.items
    ∙ ap (λ (ss : List (List ℕ)). ss ++ c.from_items-set.result ∷ []) c.reserve.ensures.items
    ∙ ap (λ (s : List ℕ). sets ++ s ∷ []) c.from_items-set.ensures)) kept
