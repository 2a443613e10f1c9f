-- What the files of a network say, whatever its interfaces cost.
use Rattle.std.specs.Prelude.{◌≡◌, List}
use Rattle.cost_base.specs.Lists.{first_of}
use Rattle.lsdb_build.specs.Graphs.{Database}
use Rattle.request_reader.specs.Asked.{Asked}
use Rattle.wanted_paths.specs.LineFaults.{line_faults}
use Rattle.input_files.specs.declared.layout.Layout.{Layout}
use Rattle.input_files.specs.Inputs.{InputFiles}
use Rattle.input_files.specs.Readings.{Reading, Ready, ◌>>=◌, unless_refused}
use Rattle.input_files.specs.Outcomes.{ConfigFile, request_read, configs_read, routers_of, topology_read, resolution_refused}

-- what is asked of a network, its configurations, and the database of its area
pub record LaidOut : Type 0 where
  pub asked : Asked
  pub files : List ConfigFile
  pub database : Database

-- what files say of an area and ask of it
abbrev pub area_read : InputFiles → Reading LaidOut
area_read names =
    request_read names.request >>= λ asked.
    configs_read names.configs >>= λ files.
    topology_read names asked.area (routers_of files) >>= λ d.
    Ready (record { asked = asked; files = files; database = d })

-- the lines of the request file, each looked up in the database; or the first fault of one
abbrev pub lines_read : InputFiles → Asked → Database → Reading (Unit {0})
lines_read names asked d = unless_refused (resolution_refused names d) tt (first_of (line_faults d asked.items))

-- what the files of a network say but for its costs: the request file, each configuration, the topology, the lines of
-- the request file
abbrev pub layout_read : InputFiles → Reading LaidOut
layout_read names = area_read names >>= λ laid. lines_read names laid.asked laid.database >>= λ _. Ready laid

-- the layout is that of what the files say
pub record IsLayoutOf (layout : Layout) (laid : LaidOut) : Type 0 where
  pub request_file : layout.request_file ≡ laid.asked
  pub configs : layout.configs.items ≡ routers_of laid.files
  pub lsdb : layout.lsdb ≡ laid.database
