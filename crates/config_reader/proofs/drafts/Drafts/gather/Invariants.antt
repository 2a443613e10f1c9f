use Rattle.std.proofs.Common.{◌≡◌, map, drop}
use Rattle.config_reader.specs.Heards.{said_of}
use Rattle.config_reader.specs.Drafting as drafting
use Rattle.config_reader.specs.Gathered.{NamesApart}
use Rattle.config_reader.proofs.drafts.Drafts.gather.Given as goal

-- what is left makes of the drafts what the whole makes of the opened ones
abbrev pub invariant-loop-line : goal.invariant-loop-line
invariant-loop-line l = record {
  drafts : map (drafting.draft_after l.networks (map said_of (drop l.line-index l.said))) l.drafts.items
      ≡ map (drafting.draft_after l.networks (map said_of l.said)) l.initial.drafts.items;
  names : l.names ≡ map (λ d. d.interface.name) l.drafts.items;
  apart : NamesApart l.names;
}
