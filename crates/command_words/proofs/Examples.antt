-- Words, and the jobs that they ask for.
use Rattle.std.proofs.Common.{◌≡◌, refl, [], ◌∷◌, Some, None}
use Rattle.std.specs.Prelude.{codes, ◌-◌, ◌^◌}
use Rattle.clap.proofs.OnLiterals.{clap_on_literals}
use Rattle.command_words.specs.Jobs.{Design, Check, Audit, Change, Steps, Compare, Route, Help, Version}
use Rattle.wide_fraction.specs.SearchLimits.{SearchLimits}
use Rattle.command_words.specs.declared.job.StepUnit.TheVariants.{Line, Router}
use Rattle.command_words.specs.declared.job.CommandName.TheVariants as name
use Rattle.command_words.specs.Commands.{job_of, job_of_row, command_named, commands}

abbrev usual : SearchLimits
usual = record { nodes = 100000; top = 2 ^ 127 - 1 }

no_words : job_of [] ≡ None
unfolding job_of
no_words = refl

plain_design : job_of (codes "design" ∷ codes "--request" ∷ codes "F" ∷ codes "A" ∷ codes "B" ∷ [])
    ≡ Some (Design (record { request = codes "F"; limits = usual; configs = codes "A" ∷ codes "B" ∷ [] }))
unfolding job_of job_of_row command_named commands clap_on_literals
plain_design = refl

-- options in any order and between the CONFIG words
mixed_design : job_of (codes "design" ∷ codes "A" ∷ codes "--nodes=5" ∷ codes "--request" ∷ codes "F" ∷ codes "B" ∷ codes "--bits" ∷ codes "28" ∷ [])
    ≡ Some (Design (record { request = codes "F"; limits = record { nodes = 5; top = 2 ^ 28 - 1 }; configs = codes "A" ∷ codes "B" ∷ [] }))
unfolding job_of job_of_row command_named commands clap_on_literals
mixed_design = refl

-- no option stands behind `--`, and an option's value may be empty
dashes : job_of (codes "check" ∷ codes "--request=" ∷ codes "--answer" ∷ codes "-" ∷ codes "--" ∷ codes "--help" ∷ [])
    ≡ Some (Check [] (codes "-") (codes "--help" ∷ []))
unfolding job_of job_of_row command_named commands clap_on_literals
dashes = refl

fewest_changes : job_of (codes "change" ∷ codes "A" ∷ codes "--request" ∷ codes "F" ∷ [])
    ≡ Some (Change (record { request = codes "F"; limits = usual; configs = codes "A" ∷ [] }))
unfolding job_of job_of_row command_named commands clap_on_literals
fewest_changes = refl

-- a step is a cost line where `--by` isn't given
steps_by_line : job_of (codes "steps" ∷ codes "--answer=A" ∷ codes "--request=F" ∷ codes "B" ∷ codes "C" ∷ [])
    ≡ Some (Steps (codes "F") (codes "A") 100000 Line (codes "B" ∷ codes "C" ∷ []))
unfolding job_of job_of_row command_named commands clap_on_literals
steps_by_line = refl

steps_by_router : job_of (codes "steps" ∷ codes "--by=router" ∷ codes "--nodes=7" ∷ codes "--answer=A"
    ∷ codes "--request=F" ∷ codes "B" ∷ [])
    ≡ Some (Steps (codes "F") (codes "A") 7 Router (codes "B" ∷ []))
unfolding job_of job_of_row command_named commands clap_on_literals
steps_by_router = refl

steps_by_link : job_of (codes "steps" ∷ codes "--by" ∷ codes "link" ∷ codes "--answer=A" ∷ codes "--request=F"
    ∷ codes "B" ∷ [])
    ≡ None
unfolding job_of job_of_row command_named commands clap_on_literals
steps_by_link = refl

no_request : job_of (codes "design" ∷ codes "A.conf" ∷ []) ≡ None
unfolding job_of job_of_row command_named commands clap_on_literals
no_request = refl

too_many_blocks : job_of (codes "trial" ∷ codes "--blocks" ∷ codes "126" ∷ []) ≡ None
unfolding job_of job_of_row command_named commands clap_on_literals
too_many_blocks = refl

routed : job_of (codes "route" ∷ codes "--lsas" ∷ codes "L" ∷ codes "--to" ∷ codes "0.0.1.0" ∷ codes "--from" ∷ codes "0.0.0.2" ∷ [])
    ≡ Some (Route (codes "L") 2 256)
unfolding job_of job_of_row command_named commands clap_on_literals
routed = refl

two_configs : job_of (codes "rewrite" ∷ codes "--answer" ∷ codes "A" ∷ codes "B" ∷ codes "C" ∷ []) ≡ None
unfolding job_of job_of_row command_named commands clap_on_literals
two_configs = refl

asks_for_help : job_of (codes "trial" ∷ codes "--blocks" ∷ codes "3" ∷ codes "-h" ∷ []) ≡ None
unfolding job_of job_of_row command_named commands clap_on_literals
asks_for_help = refl

twice : job_of (codes "trial" ∷ codes "--blocks" ∷ codes "3" ∷ codes "--blocks" ∷ codes "3" ∷ []) ≡ None
unfolding job_of job_of_row command_named commands clap_on_literals
twice = refl

audit_of_files : job_of (codes "audit" ∷ codes "--request" ∷ codes "F" ∷ codes "A" ∷ [])
    ≡ Some (Audit (codes "F") None (codes "A" ∷ []))
unfolding job_of job_of_row command_named commands clap_on_literals
audit_of_files = refl

audit_of_area : job_of (codes "audit" ∷ codes "--live" ∷ codes "L" ∷ codes "--request" ∷ codes "F" ∷ codes "A" ∷ [])
    ≡ Some (Audit (codes "F") (Some (codes "L")) (codes "A" ∷ []))
unfolding job_of job_of_row command_named commands clap_on_literals
audit_of_area = refl

audit_of_nothing : job_of (codes "audit" ∷ codes "--request" ∷ codes "F" ∷ codes "A" ∷ codes "--live" ∷ []) ≡ None
unfolding job_of job_of_row command_named commands clap_on_literals
audit_of_nothing = refl

compared : job_of (codes "compare" ∷ codes "A" ∷ codes "--request=F" ∷ codes "--live=L" ∷ codes "B" ∷ [])
    ≡ Some (Compare (codes "L") (codes "F") (codes "A" ∷ codes "B" ∷ []))
unfolding job_of job_of_row command_named commands clap_on_literals
compared = refl

helped : job_of (codes "help" ∷ []) ≡ Some (Help None)
unfolding job_of job_of_row command_named commands clap_on_literals
helped = refl

helped_on_help : job_of (codes "help" ∷ codes "help" ∷ []) ≡ Some (Help (Some name.Help))
unfolding job_of job_of_row command_named commands clap_on_literals
helped_on_help = refl

helped_on_two : job_of (codes "help" ∷ codes "design" ∷ codes "check" ∷ []) ≡ None
unfolding job_of job_of_row command_named commands clap_on_literals
helped_on_two = refl

helped_on_nothing : job_of (codes "help" ∷ codes "nosuch" ∷ []) ≡ None
unfolding job_of job_of_row command_named commands clap_on_literals
helped_on_nothing = refl

versioned : job_of (codes "version" ∷ []) ≡ Some Version
unfolding job_of job_of_row command_named commands clap_on_literals
versioned = refl

version_of_words : job_of (codes "version" ∷ codes "design" ∷ []) ≡ None
unfolding job_of job_of_row command_named commands clap_on_literals
version_of_words = refl
