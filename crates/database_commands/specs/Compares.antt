-- What `compare` writes: where the running area differs from its configurations.
use Rattle.std.specs.Prelude.{◌≡◌, ℕ, ◌==◌, ◌&&◌, List, [], ◌∷◌, flat_map, length, codes, slice_index_or, Bool, true, false}
use Rattle.std.specs.List.{list_all}
use Rattle.cost_base.specs.Decimal.{decimal}
use Rattle.cost_base.specs.declared.Status.{Status}
use Rattle.cost_base.specs.declared.Status.TheVariants as status
use Rattle.line_builder.specs.Words.{dotted_quad, line_of_words}
use Rattle.lsdb_build.specs.Graphs.{Database}
use Rattle.lsdb_build.specs.LinkNames.{link_interface, link_router}
use Rattle.input_files.specs.Inputs.{InputFiles}
use Rattle.input_files.specs.Readings.{Reading, Ready, ◌>>=◌}
use Rattle.input_files.specs.Outcomes.{Input, routers_of}
use Rattle.lsa_bytes.specs.declared.Lsa.{Lsa}
use Rattle.live_area.specs.declared.Difference.{Difference}
use Rattle.live_area.specs.declared.Difference.TheVariants.{Absent, Cost, Missing, Stranger, Unknown, Same}
use Rattle.live_area.specs.Differences.{difference_lines}
use Rattle.live_input.specs.LiveReadings.{live_read}
use Rattle.present_costs.specs.PresentCosts.{present_of_links}
use Rattle.database_commands.specs.Lsas.{identified_read}

-- what is compared: what well-formed input says, and the LSAs of its area that count by a live file
pub record Comparison : Type 0 where
  pub input : Input
  pub live : List Lsa

-- what the files of a comparison say, read in their order: those of `lsas`, with router IDs, and then the live file
abbrev pub compare_read : InputFiles → List ℕ → Reading Comparison
compare_read names live =
    identified_read names >>= λ d.
    live_read live d.asked.area >>= λ lsas.
    Ready (record { input = d; live = lsas })

-- where the running area differs from its configurations at present costs
abbrev pub differences_of : Comparison → List Difference
differences_of c = difference_lines (routers_of c.input.files) c.input.database (present_of_links c.input.asked c.input.database) c.live

-- the name of a router by its number
abbrev pub router_named : Database → ℕ → List ℕ
router_named d router = slice_index_or d.routers router []

-- a line of a linked interface: a word, its router and its name, and further words
abbrev pub linked_words : List ℕ → Database → ℕ → List (List ℕ) → List (List ℕ)
linked_words word d link further = word ∷ link_router d link ∷ link_interface d link ∷ further

-- the words of a line: routers and interfaces by their names, router IDs and addresses as dotted quads
abbrev pub difference_words : Database → Difference → List (List ℕ)
difference_words d (Absent router) = codes "absent" ∷ router_named d router ∷ []
difference_words d (Cost link file live) = linked_words (codes "cost") d link (codes "file" ∷ decimal file ∷ codes "live" ∷ decimal live ∷ [])
difference_words d (Missing link) = linked_words (codes "missing") d link []
difference_words d (Stranger router) = codes "stranger" ∷ dotted_quad router ∷ []
difference_words d (Unknown router address live) = codes "unknown" ∷ dotted_quad router ∷ dotted_quad address ∷ codes "live" ∷ decimal live ∷ []
difference_words d (Same same linked) = codes "same" ∷ decimal same ∷ codes "of" ∷ decimal linked ∷ []

-- the text of a comparison, line by line
abbrev pub difference_text : Database → List Difference → List ℕ
difference_text d lines = flat_map (λ line. line_of_words (difference_words d line)) lines

-- the line counts all linked interfaces as those with a link of their present cost
abbrev pub counts_all : Difference → Bool
counts_all (Absent router) = false
counts_all (Cost link file live) = false
counts_all (Missing link) = false
counts_all (Stranger router) = false
counts_all (Unknown router address live) = false
counts_all (Same same linked) = same == linked

-- there is no line but the count, and the same number stands in it twice
abbrev pub are_alike : List Difference → Bool
are_alike lines = length lines == 1 && list_all counts_all lines

-- what `compare` may write of what its files say: exactly these lines, and whether they tell of a difference
abbrev pub MayCompare : Comparison → Status → List ℕ → Type 0
MayCompare c status.Done bytes = (are_alike (differences_of c) ≡ true) × (bytes ≡ difference_text c.input.database (differences_of c))
MayCompare c status.Impossible bytes = (are_alike (differences_of c) ≡ false) × (bytes ≡ difference_text c.input.database (differences_of c))
MayCompare c end bytes = ⊥
