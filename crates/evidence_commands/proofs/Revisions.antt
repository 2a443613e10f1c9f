-- What a rewrite makes of a configuration and cost lines.
use Rattle.std.proofs.Common.{◌≡◌, ℕ, ◌∙◌, ap, subst, List}
use Rattle.std.specs.Prelude.{Some, None}
use Rattle.interface_model.specs.Records.{Router}
use Rattle.config_reader.specs.Configs.{config_of}
use Rattle.design_problem.specs.declared.answer.CostLine.{CostLine}
use Rattle.config_writer.specs.declared.RewriteStop.{RewriteStop}
use Rattle.config_writer.specs.Rewriting.{costs_of, rewritten, first_missing, TellsMissing, ReadsBack}
use Rattle.input_files.specs.Outcomes.{ConfigFile}
use Rattle.sections_reader.specs.Texts.{SaysCosts}
use Rattle.evidence_commands.specs.Rewrites.{own_lines, last_lines, new_costs, IsRewritten}

-- the lines that a configuration is rewritten with are the last ones of its router's interfaces
own_of : (config : ConfigFile) (said : Router) (lines own : List CostLine) →
    said ≡ config_of config.name config.bytes → own ≡ last_lines (own_lines said.name lines) →
    own ≡ last_lines (own_lines (config_of config.name config.bytes).name lines)
own_of config said lines own says is = is ∙ ap (λ (r : Router). last_lines (own_lines r.name lines)) says

-- what was rewritten with these lines is what a rewrite writes
pub rewritten_by : (config : ConfigFile) (said : Router) (bytes : List ℕ) (lines own : List CostLine) (name read out : List ℕ) →
    said ≡ config_of config.name config.bytes → own ≡ last_lines (own_lines said.name lines) →
    name ≡ config.name → read ≡ config.bytes → SaysCosts bytes (Some lines) →
    first_missing (costs_of own) read ≡ None → out ≡ rewritten (costs_of own) read →
    ReadsBack name (costs_of own) read out → IsRewritten (record { config = config; bytes = bytes }) out
rewritten_by config said bytes lines own name read out says is named text printed headed written back =
    let same = own_of config said lines own says is in
    record {
      costs = lines;
      said = printed;
      headed = subst (λ (ls : List CostLine). first_missing (costs_of ls) config.bytes ≡ None) same
          (subst (λ (b : List ℕ). first_missing (costs_of own) b ≡ None) text headed);
      written = subst (λ (ls : List CostLine). out ≡ rewritten (costs_of ls) config.bytes) same
          (subst (λ (b : List ℕ). out ≡ rewritten (costs_of own) b) text written);
      read_back =
          subst (λ (ls : List CostLine). ReadsBack config.name (costs_of ls) config.bytes out) same
          (subst (λ (b : List ℕ). ReadsBack config.name (costs_of own) b out) text (subst (λ (n : List ℕ). ReadsBack n (costs_of own) read out) named back));
    }

-- a stop of a rewrite with these lines tells of the new costs
pub missing_by : (config : ConfigFile) (said : Router) (lines own : List CostLine) (read : List ℕ) (stop : RewriteStop) →
    said ≡ config_of config.name config.bytes → own ≡ last_lines (own_lines said.name lines) → read ≡ config.bytes →
    TellsMissing (first_missing (costs_of own) read) stop → TellsMissing (first_missing (new_costs config lines) config.bytes) stop
missing_by config said lines own read stop says is text missing =
    subst (λ (ls : List CostLine). TellsMissing (first_missing (costs_of ls) config.bytes) stop) (own_of config said lines own says is)
    (subst (λ (b : List ℕ). TellsMissing (first_missing (costs_of own) b) stop) text missing)
