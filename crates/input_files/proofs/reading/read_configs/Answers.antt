-- What stops a configuration stops all, and what was read goes on by one.
use Rattle.std.proofs.Common.{List, [], ◌++◌, sym, subst, length, drop, ◌+◌, ◌<◌, rules}
use Rattle.std.specs.Prelude.{String}
use Rattle.std.specs.declared.alloc.Global.{Global}
use Rattle.std.proofs.lemmas.List.{drop_all}
use Rattle.std.proofs.lemmas.Result.{err_from_is_err_and}
use Rattle.interface_model.specs.Records.{Router}
use Rattle.text_lines.specs.Arguments.{texts}
use Rattle.input_files.proofs.Configs.{Progress, progress_begins, progress_stops, progress_goes, progress_ends, progress_next, progress_wanting}
use Rattle.input_files.proofs.reading.read_configs.Goals as goal

pub loop-name-init : goal.loop-name-init
loop-name-init g c = record {
  came = [];
  given = g.met.S.Shelf.gave_none c.args.shelf.now;
  so = subst (λ (rs : List Router). Progress (texts c.args.names.now) (texts c.args.names.now) rs [])
      (sym c.new-configs.ensures.items) (progress_begins (texts c.args.names.now));
}

pub returns-in_err-config : goal.returns-in_err-config
returns-in_err-config g c =
    let before = c.loop-name.invariant in
    let now = c.in_err-config.ensures in
    let names = c.args.names.now in
    let i = c.loop-name.name-index in
    let name = c.as_str.result.now in
    let below : i < length names = search rules in
    let next = progress_next names i c.name-item.result name c.loop-name.configs.items before.came below c.name-item.is c.as_str.ensures.value before.so in
    let p = err_from_is_err_and c.from_residual.result c.from_residual.ensures.1 in
    record {
      came = before.came ++ now.came;
      given = g.met.S.Shelf.gave_more c.args.shelf.now c.loop-name.shelf c.read_config.new.shelf before.came now.came before.given now.given;
      so = rw (p.1, p.2) (progress_stops (texts names) (texts (drop (i + 1) names)) name c.loop-name.configs.items before.came now.came _ next now.so);
    }

pub loop-name-preserved : goal.loop-name-preserved
loop-name-preserved g c =
    let before = c.loop-name.invariant in
    let now = c.in_ok-config.ensures in
    let names = c.args.names.now in
    let i = c.loop-name.name-index in
    let name = c.as_str.result.now in
    let below : i < length names = search rules in
    let next = progress_next names i c.name-item.result name c.loop-name.configs.items before.came below c.name-item.is c.as_str.ensures.value before.so in
    record {
      came = before.came ++ now.came;
      given = g.met.S.Shelf.gave_more c.args.shelf.now c.loop-name.shelf c.read_config.new.shelf before.came now.came before.given now.given;
      so = rw c.in-Ok.ensures.items (progress_goes (texts names) (texts (drop (i + 1) names)) name
          c.loop-name.configs.items c.in_ok-config.config before.came now.came next now.so);
    }

pub returns-in-Err : goal.returns-in-Err
returns-in-Err g c =
    let before = c.loop-name.invariant in
    let now = c.in_ok-config.ensures in
    let names = c.args.names.now in
    let i = c.loop-name.name-index in
    let name = c.as_str.result.now in
    let below : i < length names = search rules in
    let next = progress_next names i c.name-item.result name c.loop-name.configs.items before.came below c.name-item.is c.as_str.ensures.value before.so in
    record {
      came = before.came ++ now.came;
      given = g.met.S.Shelf.gave_more c.args.shelf.now c.loop-name.shelf c.read_config.new.shelf before.came now.came before.given now.given;
      so = progress_wanting (texts names) (texts (drop (i + 1) names)) name c.loop-name.configs.items c.in_ok-config.config before.came now.came next now.so;
    }

pub returns : goal.returns
returns g c =
    let before = c.loop-name.invariant in
    let same = drop_all c.loop-name.name-index c.args.names.now c.loop-name-test.false in
    let all = progress_ends (texts c.args.names.now) c.loop-name.configs.items before.came
    (subst (λ (l : List (String Global)).
    Progress (texts c.args.names.now) (texts l) c.loop-name.configs.items before.came) same before.so) in
    record { came = before.came; given = before.given; so = record { said = all.0; ends = all.1.0; fits = all.1.1 } }
