-- What `compare` made of the network and the live file that it read.
use Rattle.std.proofs.Common.{◌≡◌, refl, sym, ◌∙◌, ap, subst, List, Bool, true, false, cond, map}
use Rattle.cost_base.specs.declared.Status.{Status}
use Rattle.cost_base.specs.declared.Status.TheVariants.{Done, Impossible}
use Rattle.interface_model.specs.Records.{Router}
use Rattle.lsdb_build.specs.Graphs.{Database}
use Rattle.request_reader.specs.Asked.{Asked}
use Rattle.path_requests.specs.Meaning.{present_cost}
use Rattle.input_files.specs.declared.problem.View.TheVariants.{AtPresent}
use Rattle.input_files.specs.declared.network.Network.{Network}
use Rattle.input_files.specs.Inputs.{InputFiles}
use Rattle.input_files.specs.Networks.{IsNetworkOf}
use Rattle.input_files.specs.Outcomes.{routers_of}
use Rattle.report_writer.specs.declared.report.Report.{Report}
use Rattle.report_writer.specs.Reports.{bytes_in}
use Rattle.lsa_bytes.specs.declared.Lsa.{Lsa}
use Rattle.live_area.specs.declared.Difference.{Difference}
use Rattle.live_area.specs.Differences.{difference_lines}
use Rattle.database_commands.specs.Compares.{Comparison, MayCompare, are_alike, difference_text, differences_of}
use Rattle.database_commands.specs.Compared.{ReportsLines}

-- the lines of the network are those of what was read
lines_are : (names : InputFiles) (network : Network) (c : Comparison) (live : List Lsa) → IsNetworkOf AtPresent names network c.input → live ≡ c.live →
    difference_lines network.configs.items network.lsdb (map (present_cost network.request_file) network.lsdb.links) live ≡ differences_of c
lines_are names network c live is same =
    ap (λ (ls : List Lsa). difference_lines network.configs.items network.lsdb (map (present_cost network.request_file) network.lsdb.links) ls) same
    ∙ ap (λ (rs : List Router). difference_lines rs network.lsdb (map (present_cost network.request_file) network.lsdb.links) c.live) is.configs
    ∙ ap (λ (a : Asked). difference_lines (routers_of c.input.files) network.lsdb (map (present_cost a) network.lsdb.links) c.live) is.request_file
    ∙ ap (λ (d : Database). difference_lines (routers_of c.input.files) d (map (present_cost c.input.asked) d.links) c.live) is.lsdb

-- what a report of these lines says
may : (c : Comparison) (d : Database) (lines : List Difference) (report : Report) → d ≡ c.input.database → lines ≡ differences_of c →
    ReportsLines d lines report → MayCompare c report.status (bytes_in report.text)
may c d lines report base is reports =
    subst (λ (s : Status). MayCompare c s (bytes_in report.text)) (sym status) (by_alike (are_alike (differences_of c)) refl)
  where
    status : report.status ≡ cond (are_alike (differences_of c)) Done Impossible
    status = reports.status ∙ ap (λ (ls : List Difference). cond (are_alike ls) Done Impossible) is

    text : bytes_in report.text ≡ difference_text c.input.database (differences_of c)
    text = reports.text ∙ ap (λ (b : Database). difference_text b lines) base ∙ ap (difference_text c.input.database) is

    by_alike : (b : Bool) → are_alike (differences_of c) ≡ b → MayCompare c (cond b Done Impossible) (bytes_in report.text)
    by_alike true alike = (alike, text)
    by_alike false differ = (differ, text)

-- the report of what was read
pub compared : (names : InputFiles) (network : Network) (c : Comparison) (live : List Lsa) (report : Report) →
    IsNetworkOf AtPresent names network c.input → live ≡ c.live →
    ReportsLines network.lsdb (difference_lines network.configs.items network.lsdb (map (present_cost network.request_file) network.lsdb.links) live) report →
    MayCompare c report.status (bytes_in report.text)
compared names network c live report is same reports =
    may c network.lsdb _ report is.lsdb (lines_are names network c live is same) reports
