-- The LSAs of the network were written.
use Rattle.std.proofs.Common.{◌≡◌, ◌∙◌, ◌<◌, List, ℕ, sym, ap, subst, length, map, All, []}
use Rattle.std.proofs.lemmas.List.{length-map}
use Rattle.interface_model.specs.Records.{Router}
use Rattle.lsdb_build.specs.Graphs.{Database}
use Rattle.path_requests.specs.Meaning.{present_cost}
use Rattle.request_reader.specs.Asked.{Asked}
use Rattle.lsa_bytes.specs.Ids.{first_id_fault}
use Rattle.lsa_bytes.specs.Written.{bytes_of_all}
use Rattle.lsa_writer.specs.WrittenLsas.{written_lsas}
use Rattle.lsa_writer.specs.OneGraph.{IsDatabaseOf}
use Rattle.database_commands.proofs.LsasRuns.{costs_above, is_built, wrote}
use Rattle.database_commands.proofs.lsas.lsas_bytes.Goals as goal

pub lsas_of-requires-clause-built : goal.lsas_of-requires-clause-built
lsas_of-requires-clause-built c =
    let read = c.requires in
    subst (λ (rs : List Router). IsDatabaseOf rs c.args.network.now.lsdb) (sym c.deref.ensures.value)
    (is_built read.names c.args.network.now read.said read.is.network_is)

pub lsas_of-requires-clause-ids : goal.lsas_of-requires-clause-ids
lsas_of-requires-clause-ids c =
    let read = c.requires in
    ap (first_id_fault [] 0) (c.deref.ensures.value ∙ read.is.network_is.configs) ∙ read.is.identified

pub lsas_of-requires-clause-one_each : goal.lsas_of-requires-clause-one_each
lsas_of-requires-clause-one_each c =
    ap length (c.deref-2.ensures.value ∙ c.in_ok-costs.ensures)
    ∙ length-map c.args.network.now.lsdb.links (present_cost c.args.network.now.request_file)

pub lsas_of-requires-clause-priced : goal.lsas_of-requires-clause-priced
lsas_of-requires-clause-priced c =
    let network = c.args.network.now in
    let read = c.requires in
    subst (λ (cs : List ℕ). All (λ cost. 0 < cost) cs)
    (sym (c.deref-2.ensures.value ∙ c.in_ok-costs.ensures
    ∙ ap (λ (a : Asked). map (present_cost a) network.lsdb.links) read.is.network_is.request_file
    ∙ ap (λ (d : Database). map (present_cost read.said.asked) d.links) read.is.network_is.lsdb))
    (costs_above read.names network read.said read.is.network_is)

pub returns : goal.returns
returns c =
    let network = c.args.network.now in
    wrote network c.deref.result.now c.deref-2.result.now c.lsas_of.result c.deref.ensures.value
    (c.deref-2.ensures.value ∙ c.in_ok-costs.ensures) c.lsas_of.ensures.written c.lsas_of.ensures.one_graph
