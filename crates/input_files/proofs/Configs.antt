-- Configurations read one after another.
use Rattle.std.proofs.Common.{◌≡◌, ℕ, suc, ◌+◌, ◌<◌, refl, sym, ◌∙◌, ap, subst, List, [], ◌∷◌, ◌++◌, length, get_or, drop, append_assoc, append-nil, add-one, drop-cons}
use Rattle.std.specs.Prelude.{String, string_bytes}
use Rattle.std.proofs.lemmas.List.{map-append}
use Rattle.std.specs.declared.alloc.Global.{Global}
use Rattle.cost_base.specs.Histories.{Taken}
use Rattle.interface_model.specs.Records.{Router}
use Rattle.config_reader.specs.Configs.{config_of}
use Rattle.text_lines.specs.Arguments.{texts}
use Rattle.input_files.specs.declared.stop.Stop.{Stop}
use Rattle.input_files.specs.declared.stop.Stop.TheVariants as stops
use Rattle.input_files.specs.Readings.{Reading, Ready, ◌>>=◌, End, Says, Faulty, Failed, EndsAs, Begins}
use Rattle.input_files.specs.Outcomes.{ConfigFile, config_read, configs_read, routers_of}
use Rattle.input_files.specs.Stops.{StopsAs, IsReadAndMade, refusal_in}
use Rattle.input_files.proofs.Readings.{begins_first, begins_then, ends_begin, ends_then, ends_faulty, ends_failed, bind_assoc, bind_ready}

-- Of all configurations some are left. Those that were read, of which this came, have these routers; and whatever ends
-- the reading of the others ends that of all.
pub record Progress (all left : List (List ℕ)) (routers : List Router) (came : List Taken) : Type 0 where
  pub files : List ConfigFile
  pub said : routers ≡ routers_of files
  pub goes : (more : List Taken) (end : End (List ConfigFile)) →
      EndsAs (configs_read left >>= λ others. Ready (files ++ others)) more end →
      EndsAs (configs_read all) (came ++ more) end
  pub begins : (more : List Taken) → Begins (configs_read left >>= λ others. Ready (files ++ others)) more → Begins (configs_read all) (came ++ more)

-- at first all are left
pub progress_begins : (all : List (List ℕ)) → Progress all all [] []
progress_begins all = record {
  files = [];
  said = refl;
  goes = λ more end h. subst (λ (m : Reading (List ConfigFile)). EndsAs m more end) (sym (bind_ready (configs_read all))) h;
  begins = λ more h. subst (λ (m : Reading (List ConfigFile)). Begins m more) (sym (bind_ready (configs_read all))) h;
}

-- the configurations from a place on, behind those that were read
abbrev rest_read : List (List ℕ) → List ConfigFile → ConfigFile → Reading (List ConfigFile)
rest_read names files file = configs_read names >>= λ others. Ready (files ++ (file ∷ others))

rest_is : (name : List ℕ) (names : List (List ℕ)) (files : List ConfigFile) →
    (configs_read (name ∷ names) >>= λ others. Ready (files ++ others)) ≡ (config_read name >>= rest_read names files)
rest_is name names files =
    bind_assoc (config_read name) (λ file. configs_read names >>= λ others. Ready (file ∷ others)) (λ others. Ready (files ++ others))
    ∙ ap (λ (f : ConfigFile → Reading (List ConfigFile)). config_read name >>= f)
    (λ i file. bind_assoc (configs_read names) (λ others. Ready (file ∷ others)) (λ others. Ready (files ++ others)) i)

-- the next configuration was read
pub progress_goes : (all names : List (List ℕ)) (name : List ℕ) (routers : List Router) (router : Router) (came xs : List Taken) →
    Progress all (name ∷ names) routers came →
    IsReadAndMade (config_read name) xs (λ (r : Router) file. r ≡ config_of file.name file.bytes) router →
    Progress all names (routers ++ router ∷ []) (came ++ xs)
progress_goes all names name routers router came xs p ready = record {
  files = p.files ++ ready.said ∷ [];
  said = ap (λ rs. rs ++ router ∷ []) p.said ∙ ap (λ x. routers_of p.files ++ x ∷ []) ready.fits
      ∙ sym (map-append (λ (file : ConfigFile). config_of file.name file.bytes) p.files (ready.said ∷ []));
  goes = λ more end h.
      let last : EndsAs (rest_read names p.files ready.said) more end =
      subst (λ (f : List ConfigFile → List ConfigFile).
      EndsAs (configs_read names >>= λ others. Ready (f others)) more end)
      (λ i others. append_assoc p.files (ready.said ∷ []) others i) h in
      let here = ends_then (config_read name) (rest_read names p.files) xs more ready.said end ready.ends last in
      subst (λ (l : List Taken). EndsAs (configs_read all) l end) (sym (append_assoc came xs more))
      (p.goes (xs ++ more) end (subst (λ (m : Reading (List ConfigFile)). EndsAs m (xs ++ more) end) (sym (rest_is name names p.files)) here));
  begins = λ more h.
      let last : Begins (rest_read names p.files ready.said) more =
      subst (λ (f : List ConfigFile → List ConfigFile).
      Begins (configs_read names >>= λ others. Ready (f others)) more)
      (λ i others. append_assoc p.files (ready.said ∷ []) others i) h in
      let here = begins_then (config_read name) (rest_read names p.files) xs more ready.said ready.ends last in
      subst (λ (l : List Taken). Begins (configs_read all) l) (sym (append_assoc came xs more))
      (p.begins (xs ++ more) (subst (λ (m : Reading (List ConfigFile)). Begins m (xs ++ more)) (sym (rest_is name names p.files)) here));
}

-- none is left
pub progress_ends : (all : List (List ℕ)) (routers : List Router) (came : List Taken) → Progress all [] routers came →
    (files : List ConfigFile) × (EndsAs (configs_read all) came (Says files) × (routers ≡ routers_of files))
progress_ends all routers came p = (
  p.files,
  (
    subst (λ (l : List Taken). EndsAs (configs_read all) l (Says p.files)) (append-nil came)
        (p.goes [] (Says p.files) (ap (λ (fs : List ConfigFile). Says fs) (sym (append-nil p.files)))),
    p.said,
  ),
)

-- what stops the next configuration stops all
pub progress_stops : (all names : List (List ℕ)) (name : List ℕ) (routers : List Router) (came xs : List Taken)
    (stop : Stop) → Progress all (name ∷ names) routers came → StopsAs (config_read name) xs stop →
    StopsAs (configs_read all) (came ++ xs) stop
progress_stops all names name routers came xs (stops.Refused number file line) p h =
    let r = refusal_in number file line in
    p.goes xs (Faulty r) (subst (λ (m : Reading (List ConfigFile)). EndsAs m xs (Faulty r))
    (sym (rest_is name names p.files)) (ends_faulty (config_read name) (rest_read names p.files) xs r h))
progress_stops all names name routers came xs (stops.ReadFault file) p h =
    p.goes xs (Failed file.now) (subst (λ (m : Reading (List ConfigFile)). EndsAs m xs (Failed file.now))
    (sym (rest_is name names p.files)) (ends_failed (config_read name) (rest_read names p.files) xs file.now h))
progress_stops all names name routers came xs stops.OutOfMemory p h =
    p.begins xs (subst (λ (m : Reading (List ConfigFile)). Begins m xs) (sym (rest_is name names p.files))
    (begins_first (config_read name) (rest_read names p.files) xs h))

-- so does want of memory for one that was read
pub progress_wanting : (all names : List (List ℕ)) (name : List ℕ) (routers : List Router) (router : Router) (came xs : List Taken) →
    Progress all (name ∷ names) routers came →
    IsReadAndMade (config_read name) xs (λ (r : Router) file. r ≡ config_of file.name file.bytes) router →
    StopsAs (configs_read all) (came ++ xs) stops.OutOfMemory
progress_wanting all names name routers router came xs p ready =
    progress_stops all names name routers came xs stops.OutOfMemory p (ends_begin (config_read name) xs (Says ready.said) ready.ends)

-- the words from a place on begin with the word there
texts_from : (words : List (String Global)) (i : ℕ) (word : String Global) → i < length words →
    word ≡ get_or words i word → texts (drop i words) ≡ string_bytes word ∷ texts (drop (i + 1) words)
texts_from words i word h e =
    ap texts (drop-cons words i word h) ∙ (rw add-one (ap (λ (w : String Global). string_bytes w ∷ texts (drop (suc i) words)) (sym e)))

-- the configuration at a place is the next one
pub progress_next : (words : List (String Global)) (i : ℕ) (word : String Global) (name : List ℕ)
    (routers : List Router) (came : List Taken) → i < length words → word ≡ get_or words i word →
    name ≡ string_bytes word →
    Progress (texts words) (texts (drop i words)) routers came → Progress (texts words) (name ∷ texts (drop (i + 1) words)) routers came
progress_next words i word name routers came within is named so =
    subst (λ (names : List (List ℕ)). Progress (texts words) names routers came)
    (texts_from words i word within is ∙ ap (λ (n : List ℕ). n ∷ texts (drop (i + 1) words)) (sym named)) so
