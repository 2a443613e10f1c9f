-- What was read and made so far is what the files say.
use Rattle.std.proofs.Common.{◌≡◌, [], subst, refl, sym}
use Rattle.std.proofs.lemmas.Result.{err_from_is_err_and}
use Rattle.request_reader.specs.Asked.{Asked}
use Rattle.input_files.specs.Outcomes.{topology_read}
use Rattle.input_files.specs.Stops.{StopsAs, IsReadAndMade, files_named}
use Rattle.input_files.proofs.Layouts.{asked_stops, files_stop, base_stops, area_is}
use Rattle.input_files.proofs.Problems.{routers_of_vector}
use Rattle.input_files.proofs.layout.read_area.Goals as goal

pub returns-in_err-request_file : goal.returns-in_err-request_file
returns-in_err-request_file g c =
    let p = err_from_is_err_and c.from_residual.result c.from_residual.ensures.1 in
    rw (p.1, p.2) (asked_stops (g.S.Shelf.gave c.args.shelf.now c.read_request.new.shelf) (files_named c.args.words) _ c.in_err-request_file.ensures)

pub returns-in_err-configs : goal.returns-in_err-configs
returns-in_err-configs g c =
    let a = c.args.shelf.now in
    let b = c.read_request.new.shelf in
    let d = c.read_configs.new.shelf in
    let p = err_from_is_err_and c.from_residual-in_err-configs.result c.from_residual-in_err-configs.ensures.1 in
    rw (p.1, p.2) (files_stop (g.S.Shelf.gave a b) (g.S.Shelf.gave b d) (g.S.Shelf.gave a d) (files_named c.args.words)
    c.in_ok-request_file.request_file _ (g.met.S.Shelf.gave_more a b d) c.in_ok-request_file.ensures c.in_err-configs.ensures)

pub returns-in_err-lsdb : goal.returns-in_err-lsdb
returns-in_err-lsdb g c =
    let a = c.args.shelf.now in
    let b = c.read_request.new.shelf in
    let d = c.read_configs.new.shelf in
    let names = files_named c.args.words in
    let routers = c.deref.result.now in
    let p = err_from_is_err_and c.from_residual-in_err-lsdb.result c.from_residual-in_err-lsdb.ensures.1 in
    rw (p.1, p.2) (base_stops (g.S.Shelf.gave a b) (g.S.Shelf.gave b d) (g.S.Shelf.gave a d) names
    c.in_ok-request_file.request_file routers _ (g.met.S.Shelf.gave_more a b d) c.in_ok-request_file.ensures
    (routers_of_vector (g.S.Shelf.gave b d) names c.in_ok-configs.configs routers c.deref.ensures.value c.in_ok-configs.ensures)
    (subst (λ (x : Asked). StopsAs (topology_read names x.area routers) [] c.in_err-lsdb.field-0.0) c.request_file.view_is c.in_err-lsdb.ensures))

pub returns : goal.returns
returns g c =
    let a = c.args.shelf.now in
    let b = c.read_request.new.shelf in
    let d = c.read_configs.new.shelf in
    let names = files_named c.args.words in
    let routers = c.deref.result.now in
    area_is (g.S.Shelf.gave a b) (g.S.Shelf.gave b d) (g.S.Shelf.gave a d) names _
    c.in_ok-request_file.request_file routers c.in_ok-lsdb.lsdb (g.met.S.Shelf.gave_more a b d)
    (record { request_file = refl; configs = sym c.deref.ensures.value; lsdb = refl })
    c.in_ok-request_file.ensures
    (routers_of_vector (g.S.Shelf.gave b d) names c.in_ok-configs.configs routers c.deref.ensures.value c.in_ok-configs.ensures)
    (subst (λ (x : Asked). IsReadAndMade (topology_read names x.area routers) [] (λ made read. made ≡ read) c.in_ok-lsdb.lsdb)
    c.request_file.view_is c.in_ok-lsdb.ensures)
