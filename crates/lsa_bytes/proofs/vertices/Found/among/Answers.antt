use Rattle.std.proofs.Common.{ℕ, List, Option, subst, sym, ◌∙◌, ap, arith, take, ◌++◌, ◌∷◌, []}
use Rattle.std.proofs.lemmas.List.{length-take-le, take_more}
use Rattle.lsa_bytes.specs.declared.Lsa.{Lsa}
use Rattle.lsa_bytes.specs.Vertices.{HasFound, AddsLsa}
use Rattle.lsa_bytes.proofs.Spots.{found_push}
use Rattle.lsa_bytes.proofs.vertices.Found.among.Goals as goal

pub loop-place-preserved : goal.loop-place-preserved
loop-place-preserved c =
    let place = c.loop-place.place in
    let lsas = c.args.lsas.now in
    let lsa = c.index-lsas-place.result in
    let adds : AddsLsa c.loop-place.found c.add.new.self _ place =
    subst (λ (name : Option ℕ). AddsLsa c.loop-place.found c.add.new.self name place) c.name_as.ensures
    c.in_ok-add.ensures in
    subst (λ (ls : List Lsa). HasFound c.args.kind ls c.add.new.self)
    (ap (λ (l : Lsa). take place lsas ++ l ∷ []) c.index-lsas-place.is ∙ sym (take_more lsas place lsa c.loop-place-test.true))
    (found_push c.args.kind (take place lsas) lsa c.loop-place.found c.add.new.self place c.loop-place.invariant adds
    (sym (length-take-le place lsas (omega (arith, c.loop-place-test.true)))))
