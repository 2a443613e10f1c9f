-- What was read, made and resolved so far says what the files say.
use Rattle.std.proofs.Common.{◌≡◌, [], subst, refl, sym, Err}
use Rattle.std.proofs.lemmas.Result.{err_from_is_err_and}
use Rattle.lsdb_build.specs.Graphs.{Database, IsAreaDatabase}
use Rattle.request_reader.specs.Asked.{Asked, IsAsked as IsLawful}
use Rattle.input_files.specs.Outcomes.{topology_read}
use Rattle.input_files.specs.Stops.{StopsAs, IsReadAndMade, files_named}
use Rattle.input_files.proofs.Networks.{network_is}
use Rattle.input_files.proofs.Problems.{request_stops, configs_stop, topology_stops, problem_is, routers_of_vector}
use Rattle.input_files.proofs.network.read_network.Goals as goal

pub returns-in_err-request_file-clause-read : goal.returns-in_err-request_file-clause-read
returns-in_err-request_file-clause-read g c =
    let p = err_from_is_err_and c.from_residual.result c.from_residual.ensures.1 in
    rw (p.1, p.2) (request_stops (g.S.Shelf.gave c.args.shelf.now c.read_request.new.shelf) c.args.view (files_named c.args.words) _
    c.in_err-request_file.ensures)

pub returns-in_err-configs-clause-read : goal.returns-in_err-configs-clause-read
returns-in_err-configs-clause-read g c =
    let a = c.args.shelf.now in
    let b = c.read_request.new.shelf in
    let d = c.read_configs.new.shelf in
    let p = err_from_is_err_and c.from_residual-in_err-configs.result c.from_residual-in_err-configs.ensures.1 in
    rw (p.1, p.2) (configs_stop (g.S.Shelf.gave a b) (g.S.Shelf.gave b d) (g.S.Shelf.gave a d) c.args.view
    (files_named c.args.words) c.in_ok-request_file.request_file _ (g.met.S.Shelf.gave_more a b d)
    c.in_ok-request_file.ensures c.in_err-configs.ensures)

pub returns-in_err-lsdb-clause-read : goal.returns-in_err-lsdb-clause-read
returns-in_err-lsdb-clause-read g c =
    let a = c.args.shelf.now in
    let b = c.read_request.new.shelf in
    let d = c.read_configs.new.shelf in
    let names = files_named c.args.words in
    let routers = c.deref.result.now in
    let p = err_from_is_err_and c.from_residual-in_err-lsdb.result c.from_residual-in_err-lsdb.ensures.1 in
    rw (p.1, p.2) (topology_stops (g.S.Shelf.gave a b) (g.S.Shelf.gave b d) (g.S.Shelf.gave a d) c.args.view names
    c.in_ok-request_file.request_file routers _ (g.met.S.Shelf.gave_more a b d) c.in_ok-request_file.ensures
    (routers_of_vector (g.S.Shelf.gave b d) names c.in_ok-configs.configs routers c.deref.ensures.value c.in_ok-configs.ensures)
    (subst (λ (x : Asked). StopsAs (topology_read names x.area routers) [] c.in_err-lsdb.field-0.0) c.request_file.view_is c.in_err-lsdb.ensures))

pub returns-in_err-problem-clause-read : goal.returns-in_err-problem-clause-read
returns-in_err-problem-clause-read g c =
    let a = c.args.shelf.now in
    let b = c.read_request.new.shelf in
    let d = c.read_configs.new.shelf in
    let names = files_named c.args.words in
    let routers = c.deref.result.now in
    let p = err_from_is_err_and c.from_residual-in_err-problem.result c.from_residual-in_err-problem.ensures.1 in
    rw (p.1, p.2) (problem_is (g.S.Shelf.gave a b) (g.S.Shelf.gave b d) (g.S.Shelf.gave a d) c.args.view names
    c.in_ok-request_file.request_file routers c.in_ok-lsdb.lsdb (Err c.in_err-problem.field-0.0)
    (g.met.S.Shelf.gave_more a b d)
    (subst (λ (e : Database). IsAreaDatabase e) c.lsdb.view_is c.lsdb.invariant)
    c.in_ok-request_file.ensures
    (routers_of_vector (g.S.Shelf.gave b d) names c.in_ok-configs.configs routers c.deref.ensures.value c.in_ok-configs.ensures)
    (subst (λ (x : Asked). IsReadAndMade (topology_read names x.area routers) [] (λ made read. made ≡ read) c.in_ok-lsdb.lsdb)
    c.request_file.view_is c.in_ok-lsdb.ensures)
    c.in_err-problem.ensures.read)

pub returns-clause-read : goal.returns-clause-read
returns-clause-read g c =
    let a = c.args.shelf.now in
    let b = c.read_request.new.shelf in
    let d = c.read_configs.new.shelf in
    let names = files_named c.args.words in
    let routers = c.deref.result.now in
    network_is (g.S.Shelf.gave a b) (g.S.Shelf.gave b d) (g.S.Shelf.gave a d) c.args.view names _
    c.in_ok-request_file.request_file routers c.in_ok-lsdb.lsdb c.in_ok-problem.problem (g.met.S.Shelf.gave_more a b d)
    (subst (λ (e : Database). IsAreaDatabase e) c.lsdb.view_is c.lsdb.invariant)
    (subst (λ (x : Asked). IsLawful x) c.request_file.view_is c.request_file.invariant)
    (record { request_file = refl; configs = sym c.deref.ensures.value; lsdb = refl; problem = refl })
    c.in_ok-request_file.ensures
    (routers_of_vector (g.S.Shelf.gave b d) names c.in_ok-configs.configs routers c.deref.ensures.value c.in_ok-configs.ensures)
    (subst (λ (x : Asked). IsReadAndMade (topology_read names x.area routers) [] (λ made read. made ≡ read) c.in_ok-lsdb.lsdb)
    c.request_file.view_is c.in_ok-lsdb.ensures)
    c.in_ok-problem.ensures.read
