-- The layout that was made is that of what the files say.
use Rattle.std.proofs.Common.{◌≡◌, refl, sym, ◌∙◌, ap, subst, List, [], ◌++◌, Ok, Err}
use Rattle.cost_base.specs.Histories.{Taken}
use Rattle.cost_base.specs.Lists.{first_of}
use Rattle.interface_model.specs.Records.{Router}
use Rattle.lsdb_build.specs.Graphs.{Database}
use Rattle.request_reader.specs.Asked.{Asked}
use Rattle.wanted_paths.specs.LineFaults.{line_faults}
use Rattle.input_files.specs.declared.layout.Layout.{Layout}
use Rattle.input_files.specs.declared.stop.Stop.{Stop}
use Rattle.input_files.specs.Inputs.{InputFiles}
use Rattle.input_files.specs.Readings.{Reading, Ready, ◌>>=◌, Says, EndsAs, Gave}
use Rattle.input_files.specs.Outcomes.{ConfigFile, request_read, configs_read, routers_of, topology_read, resolution_refused}
use Rattle.input_files.specs.Layouts.{LaidOut, IsLayoutOf, area_read, layout_read, lines_read}
use Rattle.input_files.specs.Stops.{StopsAs, IsReadAndMade}
use Rattle.input_files.proofs.Problems.{IsAsked, AreRouters}
use Rattle.input_files.proofs.Readings.{says_unless}
use Rattle.input_files.proofs.Stops.{stops_first, read_then, gave_then, gave_made, gave_stop}

-- The rest of a reading behind each step.

abbrev pub laid_out : Asked → List ConfigFile → Database → LaidOut
laid_out asked files d = record { asked = asked; files = files; database = d }

abbrev pub after_files : InputFiles → Asked → List ConfigFile → Reading LaidOut
after_files names asked files = topology_read names asked.area (routers_of files) >>= λ d. Ready (laid_out asked files d)

abbrev pub after_asked : InputFiles → Asked → Reading LaidOut
after_asked names asked = configs_read names.configs >>= λ files. after_files names asked files

abbrev pub after_area : InputFiles → LaidOut → Reading LaidOut
after_area names laid = lines_read names laid.asked laid.database >>= λ _. Ready laid

-- what stops the request file stops all
pub asked_stops : (Given : List Taken → Type 0) (names : InputFiles) (stop : Stop) →
    Gave Given (λ came. StopsAs (request_read names.request) came stop) → Gave Given (λ came. StopsAs (area_read names) came stop)
asked_stops Given names stop a = gave_stop Given (request_read names.request) (after_asked names) stop a

-- what stops the configurations stops all
pub files_stop : (First Later Both : List Taken → Type 0) (names : InputFiles) (request_file : Asked) (stop : Stop) →
    ((xs ys : List Taken) → First xs → Later ys → Both (xs ++ ys)) →
    Gave First (λ came. IsReadAndMade (request_read names.request) came IsAsked request_file) →
    Gave Later (λ came. StopsAs (configs_read names.configs) came stop) → Gave Both (λ came. StopsAs (area_read names) came stop)
files_stop First Later Both names request_file stop more a b =
    gave_then First Later Both (request_read names.request) (after_asked names) IsAsked IsLayoutOf request_file (Err stop) more a
    (λ asked same. gave_stop Later (configs_read names.configs) (after_files names asked) stop b)

-- what stops the topology stops all
pub base_stops : (First Later Both : List Taken → Type 0) (names : InputFiles) (request_file : Asked) (routers : List Router) (stop : Stop) →
    ((xs ys : List Taken) → First xs → Later ys → Both (xs ++ ys)) →
    Gave First (λ came. IsReadAndMade (request_read names.request) came IsAsked request_file) →
    Gave Later (λ came. IsReadAndMade (configs_read names.configs) came AreRouters routers) →
    StopsAs (topology_read names request_file.area routers) [] stop → Gave Both (λ came. StopsAs (area_read names) came stop)
base_stops First Later Both names request_file routers stop more a b h =
    gave_then First Later Both (request_read names.request) (after_asked names) IsAsked IsLayoutOf request_file (Err stop) more a
    (λ asked same. gave_made Later (configs_read names.configs) (after_files names asked) AreRouters IsLayoutOf routers (Err stop) b
    (λ files are. stops_first (topology_read names asked.area (routers_of files)) (λ d. Ready (laid_out asked files d)) [] stop
    (subst (λ (x : Asked). StopsAs (topology_read names x.area (routers_of files)) [] stop) same
    (subst (λ (rs : List Router). StopsAs (topology_read names request_file.area rs) [] stop) are h))))

-- what was read and made
pub record AreAreaParts (layout : Layout) (asked : Asked) (routers : List Router) (d : Database) : Type 0 where
  pub request_file : layout.request_file ≡ asked
  pub configs : layout.configs.items ≡ routers
  pub lsdb : layout.lsdb ≡ d

pub area_is : (First Later Both : List Taken → Type 0) (names : InputFiles) (layout : Layout) (request_file : Asked)
    (routers : List Router) (d : Database) → ((xs ys : List Taken) → First xs → Later ys → Both (xs ++ ys)) →
    AreAreaParts layout request_file routers d →
    Gave First (λ came. IsReadAndMade (request_read names.request) came IsAsked request_file) →
    Gave Later (λ came. IsReadAndMade (configs_read names.configs) came AreRouters routers) →
    IsReadAndMade (topology_read names request_file.area routers) [] (λ made read. made ≡ read) d →
    Gave Both (λ came. IsReadAndMade (area_read names) came IsLayoutOf layout)
area_is First Later Both names layout request_file routers d more parts a b made =
    gave_then First Later Both (request_read names.request) (after_asked names) IsAsked IsLayoutOf request_file (Ok layout) more a
    (λ asked same. gave_made Later (configs_read names.configs) (after_files names asked) AreRouters IsLayoutOf routers (Ok layout) b
    (λ files are. read_then (topology_read names asked.area (routers_of files)) (λ e. Ready (laid_out asked files e))
    [] [] (λ m read. m ≡ read) IsLayoutOf d (Ok layout)
    (subst (λ (x : Asked). IsReadAndMade (topology_read names x.area (routers_of files)) [] (λ m read. m ≡ read) d) same
    (subst (λ (rs : List Router). IsReadAndMade (topology_read names request_file.area rs) [] (λ m read. m ≡ read) d) are made))
    (λ read is. record {
      said = laid_out asked files read;
      ends = refl;
      fits = record { request_file = parts.request_file ∙ same; configs = parts.configs ∙ are; lsdb = parts.lsdb ∙ is };
    })))

-- Lines of which each can be resolved.

pub lines_ready : (names : InputFiles) (asked : Asked) (d : Database) → line_faults d asked.items ≡ [] → EndsAs (lines_read names asked d) [] (Says tt)
lines_ready names asked d none =
    says_unless (resolution_refused names d) tt (first_of (line_faults d asked.items)) (ap first_of none)

-- what stops the lines stops all
pub lines_stop : (Given : List Taken → Type 0) (names : InputFiles) (layout : Layout) (stop : Stop) →
    Gave Given (λ came. IsReadAndMade (area_read names) came IsLayoutOf layout) →
    StopsAs (lines_read names layout.request_file layout.lsdb) [] stop → Gave Given (λ came. StopsAs (layout_read names) came stop)
lines_stop Given names layout stop a h =
    gave_made Given (area_read names) (after_area names) IsLayoutOf IsLayoutOf layout (Err stop) a
    (λ laid is. stops_first (lines_read names laid.asked laid.database) (λ _. Ready laid) [] stop
    (subst (λ (x : Asked). StopsAs (lines_read names x laid.database) [] stop) is.request_file
    (subst (λ (d : Database). StopsAs (lines_read names layout.request_file d) [] stop) is.lsdb h)))

-- lines without a fault leave the layout
pub layout_is : (Given : List Taken → Type 0) (names : InputFiles) (layout : Layout) (done : Unit {0}) →
    Gave Given (λ came. IsReadAndMade (area_read names) came IsLayoutOf layout) →
    IsReadAndMade (lines_read names layout.request_file layout.lsdb) [] (λ (_ : Unit {0}) none. none ≡ tt) done →
    Gave Given (λ came. IsReadAndMade (layout_read names) came IsLayoutOf layout)
layout_is Given names layout done a h =
    gave_made Given (area_read names) (after_area names) IsLayoutOf IsLayoutOf layout (Ok layout) a
    (λ laid is. read_then (lines_read names laid.asked laid.database) (λ _. Ready laid) [] [] (λ (_ : Unit {0}) none. none ≡ tt) IsLayoutOf done (Ok layout)
    (subst (λ (x : Asked). IsReadAndMade (lines_read names x laid.database) [] (λ (_ : Unit {0}) none. none ≡ tt) done) is.request_file
    (subst (λ (d : Database). IsReadAndMade (lines_read names layout.request_file d) [] (λ (_ : Unit {0}) none. none ≡ tt) done) is.lsdb h))
    (λ _ _. record { said = laid; ends = refl; fits = is }))
