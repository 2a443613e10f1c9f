use Rattle.std.proofs.Common.{length, sym, ap, ◌∙◌, subst, arith}
use Rattle.std.specs.Prelude.{Ok}
use Rattle.std.proofs.lemmas.Result.{err_from_is_err_and}
use Rattle.live_reader.specs.JsonLsas.{live_lsas}
use Rattle.live_reader.specs.LiveFiles.{TellsSaid, lacking_in, read_in}
use Rattle.live_reader.proofs.ReaderLaws.{lack_tells, text_stands, text_small}
use Rattle.live_reader.proofs.TextLaws.{tokens_few}
use Rattle.live_reader.proofs.reader.read_value.Goals as goal

pub live_lsas-requires : goal.live_lsas-requires
live_lsas-requires c = omega (arith, ap length c.in-Ok.ensures.ok.0, tokens_few c.args.text.now, c.requires)

pub decide-requires-clause-small : goal.decide-requires-clause-small
decide-requires-clause-small c =
    text_small c.args.text.now c.in-Ok.tape c.args.area c.in-Ok-live_lsas.instances.items c.requires c.in-Ok.ensures.ok.0 c.in-Ok.ensures.ok.1
    c.in-Ok.ensures.value c.in-Ok-live_lsas.ensures

pub returns-in_err-database-in-Ok-live_lsas : goal.returns-in_err-database-in-Ok-live_lsas
returns-in_err-database-in-Ok-live_lsas c =
    let p = err_from_is_err_and c.from_residual.result c.from_residual.ensures.1 in
    rw (p.1, p.2) (λ j is.
    subst (λ r. TellsSaid r c.in_err-database-in-Ok-live_lsas.field-0.0)
    (sym (ap (read_in c.args.text.now) (c.in-Ok-live_lsas.ensures j (text_stands c.args.text.now c.in-Ok.tape j c.in-Ok.ensures.ok.0 is))
    ∙ ap (λ text. read_in text (Ok c.in-Ok-live_lsas.instances.items)) (sym c.as_bytes.ensures.value)))
    c.in_err-database-in-Ok-live_lsas.ensures)

pub returns-in-Ok-live_lsas : goal.returns-in-Ok-live_lsas
returns-in-Ok-live_lsas c j is =
    ap (read_in c.args.text.now) (c.in-Ok-live_lsas.ensures j (text_stands c.args.text.now c.in-Ok.tape j c.in-Ok.ensures.ok.0 is))
    ∙ ap (λ text. read_in text (Ok c.in-Ok-live_lsas.instances.items)) (sym c.as_bytes.ensures.value)
    ∙ c.in_ok-database-in-Ok-live_lsas.ensures

pub returns : goal.returns
returns c j is =
    subst (TellsSaid (read_in c.args.text.now (live_lsas c.args.area j)))
    (sym (c.lacking.ensures ∙ ap (λ text. lacking_in text c.in-Err.refusal) c.as_bytes-in-Err.ensures.value))
    (lack_tells c.args.text.now (live_lsas c.args.area j) c.in-Err.refusal
    (c.in-Err.ensures j (text_stands c.args.text.now c.in-Ok.tape j c.in-Ok.ensures.ok.0 is)))
