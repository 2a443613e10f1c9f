use Rattle.std.proofs.Common.{◌≡◌, ◌∙◌, sym, map, None, Option}
use Rattle.std.proofs.lemmas.Result.{IfOk-weaker, IfErr-weaker}
use Rattle.interface_model.specs.Records.{Router}
use Rattle.config_reader.specs.Configs.{config_of}
use Rattle.config_reader.specs.FaultList.{Fault, config_fault, TellsConfigFault}
use Rattle.config_reader.specs.Heards.{head_heard, said_of}
use Rattle.config_reader.specs.Drafting.{id_after, finished}
use Rattle.config_reader.proofs.WholeConfig.{read_is, fault_is, config_as}
use Rattle.config_reader.proofs.config.checked.Goals as goal

pub returns-in-Some-clause-refused : goal.returns-in-Some-clause-refused
returns-in-Some-clause-refused c = λ bytes parts.
    let read = read_is c.args.file_name.now bytes c.args.parts.now c.args.networks.now c.args.drafts
    (head_heard c.router_name-name.result) c.as_bytes.result.now parts c.requires.networks c.requires.drafts
    c.router_name-name.ensures c.as_bytes.ensures.value in
    rw c.at.ensures (sym (fault_is c.args.file_name.now bytes c.args.parts.now c.args.networks.now c.args.drafts
    (head_heard c.router_name-name.result) read) ∙ sym c.in-Some.ensures)

pub made-requires : goal.made-requires
made-requires c =
    let bytes = c.requires.read.0 in
    let read = read_is c.args.file_name.now bytes c.args.parts.now c.args.networks.now c.args.drafts
    (head_heard c.router_name-name.result) c.as_bytes.result.now c.requires.read.1 c.requires.networks c.requires.drafts
    c.router_name-name.ensures c.as_bytes.ensures.value in
    (config_as c.args.file_name.now bytes c.args.parts.now c.args.networks.now c.args.drafts
    (head_heard c.router_name-name.result) read c.deref.result.now c.deref.ensures.value (sym c.in_default.ensures)).kept

pub returns-clause-made : goal.returns-clause-made
returns-clause-made c = λ bytes parts.
    let read = read_is c.args.file_name.now bytes c.args.parts.now c.args.networks.now c.args.drafts
    (head_heard c.router_name-name.result) c.as_bytes.result.now parts c.requires.networks c.requires.drafts
    c.router_name-name.ensures c.as_bytes.ensures.value in
    IfOk-weaker c.made.result
    (λ (r : Router). r ≡ record {
      name = c.router_name-name.result.name.now;
      router_id = id_after None (map said_of c.deref.result.now);
      interfaces = map (finished c.args.networks.now) c.args.drafts.drafts.items;
    })
    (λ (r : Router). (config_fault c.args.file_name.now bytes ≡ None) × (r ≡ config_of c.args.file_name.now bytes))
    (λ r same. (
      sym (fault_is c.args.file_name.now bytes c.args.parts.now c.args.networks.now c.args.drafts
          (head_heard c.router_name-name.result) read) ∙ sym c.in_default.ensures,
      same ∙ (config_as c.args.file_name.now bytes c.args.parts.now c.args.networks.now c.args.drafts
          (head_heard c.router_name-name.result) read c.deref.result.now c.deref.ensures.value
          (sym c.in_default.ensures)).same,
    ))
    c.made.ensures.made

pub returns-clause-refused : goal.returns-clause-refused
returns-clause-refused c = λ bytes parts.
    IfErr-weaker c.made.result (λ r. (fault : Option Fault) → TellsConfigFault fault r)
    (TellsConfigFault (config_fault c.args.file_name.now bytes)) (λ r tells. tells (config_fault c.args.file_name.now bytes))
    c.made.ensures.refused
