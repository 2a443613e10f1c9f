-- A configuration without a fault says the records of a router.
use Rattle.std.proofs.Common.{◌≡◌, ℕ, List, [], None}
use Rattle.text_lines.specs.Lines.{lines}
use Rattle.interface_model.specs.Records.{IsRouter}
use Rattle.config_reader.specs.Settings.{said}
use Rattle.config_reader.specs.Configs.{config_of, first_heads}
use Rattle.config_reader.specs.FaultList.{second_address, area_twice, config_fault}
use Rattle.config_reader.proofs.RouterFacts.{router_kept}
use Rattle.config_reader.proofs.FaultlessFiles.{faultless, short_all}
use Rattle.config_reader.proofs.SectionFaults.{all_short}

pub accepted_keeps : (file_name bytes : List ℕ) → config_fault file_name bytes ≡ None → IsRouter (config_of file_name bytes)
accepted_keeps file_name bytes accepted =
    let file = lines bytes in
    let kept = faultless file_name file accepted in
    router_kept file_name bytes
    (all_short file (short_all (second_address (said file)) (area_twice (said file) (first_heads file)) file [] kept.fine)) kept.name
