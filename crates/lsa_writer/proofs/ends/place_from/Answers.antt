use Rattle.std.proofs.Common.{◌≡◌, List, sym, ◌∙◌, ap, ◌++◌, take}
use Rattle.std.proofs.lemmas.List.{take-append-drop}
use Rattle.interface_model.specs.declared.Interface.{Interface}
use Rattle.lsa_writer.proofs.WritingSteps.{found_behind, found_before}
use Rattle.lsa_writer.proofs.ends.place_from.Goals as goal

pub returns-in-Some : goal.returns-in-Some
returns-in-Some c =
    let xs = c.args.interfaces.now in
    let parts : xs ≡ c.split_at.result.0.now ++ c.split_at.result.1.now =
    sym (ap (λ (b : List Interface). b ++ c.split_at.result.1.now) c.split_at.ensures.front
    ∙ ap (λ (b : List Interface). take c.min.result xs ++ b) c.split_at.ensures.back
    ∙ take-append-drop c.min.result xs) in
    found_behind c.args.name.now xs c.split_at.result.0.now c.split_at.result.1.now c.in-Some.place parts c.requires
    c.in-Some.ensures.within c.in-Some.ensures.found

pub returns-in-None : goal.returns-in-None
returns-in-None c =
    let xs = c.args.interfaces.now in
    let parts : xs ≡ c.split_at.result.0.now ++ c.split_at.result.1.now =
    sym (ap (λ (b : List Interface). b ++ c.split_at.result.1.now) c.split_at.ensures.front
    ∙ ap (λ (b : List Interface). take c.min.result xs ++ b) c.split_at.ensures.back
    ∙ take-append-drop c.min.result xs) in
    found_before c.args.name.now xs c.split_at.result.0.now c.split_at.result.1.now c.place_of-in-None.result parts
    c.in-None.ensures.found c.place_of-in-None.ensures.within c.place_of-in-None.ensures.found
