-- The configuration is rewritten with the last lines of its router's interfaces.
use Rattle.std.proofs.Common.{◌≡◌, ◌<◌, ℕ, length, arith, sym, ◌∙◌, ap, List}
use Rattle.interface_model.specs.Records.{Router}
use Rattle.config_reader.specs.Configs.{config_of}
use Rattle.input_files.specs.Outcomes.{ConfigFile}
use Rattle.evidence_commands.proofs.OwnLines.{few_own, routers_own, costs_own, interfaces_own}
use Rattle.evidence_commands.proofs.Revisions.{rewritten_by, missing_by}
use Rattle.evidence_commands.proofs.rewrite.revised_by_lines.Goals as goal

pub rewrite-requires-clause-numbered : goal.rewrite-requires-clause-numbered
rewrite-requires-clause-numbered c =
    let few : length c.deref-2.result.now < 4294967295 = few_own _ c.args.lines.now _ (c.deref-2.ensures.value ∙ c.in_ok-own.ensures) c.requires.few in
    omega (arith, few)

-- the name of the router that the configuration says
name_of : (said : Router) (name asked bytes read : List ℕ) → said ≡ config_of name bytes → asked ≡ name → read ≡ bytes → said.name ≡ (config_of asked read).name
name_of said name asked bytes read says named text =
    ap (λ (r : Router). r.name) says ∙ ap (λ (n : List ℕ). (config_of n bytes).name) (sym named) ∙ ap (λ (b : List ℕ). (config_of asked b).name) (sym text)

pub rewrite-requires-clause-lines : goal.rewrite-requires-clause-lines
rewrite-requires-clause-lines c =
    let named = ap (λ (file : ConfigFile). file.name) c.config.view_is in
    let text = c.deref.ensures.value ∙ ap (λ (file : ConfigFile). file.bytes) c.config.view_is in
    let own_are = c.deref-2.ensures.value ∙ c.in_ok-own.ensures in
    record {
      own = routers_own _ _ c.args.lines.now _ own_are (name_of _ _ _ _ _ (c.behind-config.view_is ∙ c.said.ensures) named text);
      from = costs_own _ c.args.lines.now _ own_are c.requires.fit;
      apart = interfaces_own _ c.args.lines.now _ own_are;
    }

pub returns-in-Ok : goal.returns-in-Ok
returns-in-Ok c bytes said =
    let named = ap (λ (file : ConfigFile). file.name) c.config.view_is in
    let text = c.deref.ensures.value ∙ ap (λ (file : ConfigFile). file.bytes) c.config.view_is in
    rewritten_by c.args.config.now _ bytes c.args.lines.now _ _ _ c.in-Ok.text.items
    (c.behind-config.view_is ∙ c.said.ensures) (c.deref-2.ensures.value ∙ c.in_ok-own.ensures)
    named text said c.in-Ok.ensures.headed c.in-Ok.ensures.written c.in-Ok.ensures.read_back

pub returns : goal.returns
returns c bytes said =
    let text = c.deref.ensures.value ∙ ap (λ (file : ConfigFile). file.bytes) c.config.view_is in
    c.unwritten.ensures (record { config = c.args.config.now; bytes = bytes }) c.args.lines.now said
    (missing_by c.args.config.now _ c.args.lines.now _ _ c.in-Err.stop (c.behind-config.view_is ∙ c.said.ensures)
    (c.deref-2.ensures.value ∙ c.in_ok-own.ensures) text c.in-Err.ensures.missing)
