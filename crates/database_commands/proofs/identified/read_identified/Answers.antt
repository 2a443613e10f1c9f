-- The network was read, and its router IDs were tested.
use Rattle.std.proofs.Common.{◌∙◌, [], sym, ap, arith, length, Ok, Err}
use Rattle.std.proofs.lemmas.Result.{err_from_is_err_and}
use Rattle.input_files.specs.declared.problem.View.TheVariants.{AtPresent}
use Rattle.input_files.specs.declared.network.Network.{Network}
use Rattle.input_files.specs.Outcomes.{outcome, routers_of}
use Rattle.input_files.specs.Readings.{unless_refused}
use Rattle.input_files.specs.Networks.{IsNetworkOf}
use Rattle.input_files.specs.Stops.{files_named}
use Rattle.input_files.proofs.Stops.{gave_stop, gave_made}
use Rattle.lsa_bytes.specs.Ids.{first_id_fault}
use Rattle.database_commands.specs.Identified.{IsIdentified}
use Rattle.database_commands.specs.Lsas.{id_refused}
use Rattle.database_commands.proofs.LsasRuns.{few_configs, identified, ids_refused}
use Rattle.database_commands.proofs.identified.read_identified.Goals as goal

pub returns-in_err-network : goal.returns-in_err-network
returns-in_err-network g c =
    let names = files_named c.args.words in
    let p = err_from_is_err_and c.from_residual.result c.from_residual.ensures.1 in
    rw (p.1, p.2) (gave_stop (g.S.Shelf.gave c.args.shelf.now c.read_network.new.shelf) (outcome AtPresent names)
    (λ d. unless_refused (id_refused names) d (first_id_fault [] 0 (routers_of d.files))) _ c.in_err-network.ensures.read)

pub check_router_ids-requires : goal.check_router_ids-requires
check_router_ids-requires g c =
    let read = c.in_ok-network.ensures.read.so in
    omega (arith, ap length c.deref.ensures.value, few_configs (files_named c.args.words) c.in_ok-network.network read.said read.fits)

pub returns-in-Err : goal.returns-in-Err
returns-in-Err g c =
    let names = files_named c.args.words in
    gave_made (g.S.Shelf.gave c.args.shelf.now c.read_network.new.shelf) (outcome AtPresent names)
    (λ d. unless_refused (id_refused names) d (first_id_fault [] 0 (routers_of d.files)))
    (IsNetworkOf AtPresent names) (λ (n : Network) d. IsIdentified names n d) c.in_ok-network.network
    (Err c.in-Err.stop) c.in_ok-network.ensures.read
    (λ d is. ids_refused names d c.deref.result.now _ (sym is.configs ∙ sym c.deref.ensures.value)
    (c.in-Err.ensures d (sym is.configs ∙ sym c.deref.ensures.value)))

pub returns-in-Ok : goal.returns-in-Ok
returns-in-Ok g c =
    let names = files_named c.args.words in
    gave_made (g.S.Shelf.gave c.args.shelf.now c.read_network.new.shelf) (outcome AtPresent names)
    (λ d. unless_refused (id_refused names) d (first_id_fault [] 0 (routers_of d.files)))
    (IsNetworkOf AtPresent names) (λ (n : Network) d. IsIdentified names n d) c.in_ok-network.network
    (Ok c.in_ok-network.network) c.in_ok-network.ensures.read
    (λ d is.
    (let same = sym is.configs ∙ sym c.deref.ensures.value in
    identified names d c.deref.result.now c.in_ok-network.network c.in-Ok.field-0 same is
    (c.in-Ok.ensures d same)))
