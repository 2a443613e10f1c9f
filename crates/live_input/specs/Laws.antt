-- What reading goes by is what bytes come to.
use Rattle.std.specs.Prelude.{◌≡◌, ◌↔◌, ℕ, List, Result}
use Rattle.lsa_bytes.specs.declared.Lsa.{Lsa}
use Rattle.lsa_bytes.specs.declared.fault.LsaFault.{LsaFault}
use Rattle.lsa_bytes.specs.Files.{ComesTo}
use Rattle.live_reader.specs.declared.fault.LiveFault.{LiveFault}
use Rattle.live_reader.specs.LiveFiles.{LiveComesTo}
use Rattle.live_input.specs.LsaFiles.{lsas_in}
use Rattle.live_input.specs.LiveReadings.{live_in}

-- read LSA by LSA, bytes come to what they fall into, and to nothing else
abbrev pub LsaFilesComeTo : Type 0
LsaFilesComeTo = (bytes : List ℕ) (outcome : Result (List Lsa) (LsaFault × ℕ)) → ComesTo bytes outcome ↔ (lsas_in bytes ≡ outcome)

-- read as JSON or LSA by LSA, a live file comes for an area to what its bytes say, and to nothing else
abbrev pub LiveFilesComeTo : Type 0
LiveFilesComeTo =
    (area : ℕ) (bytes : List ℕ) (outcome : Result (List Lsa) (LiveFault × ℕ)) → LiveComesTo area bytes outcome ↔ (live_in area bytes ≡ outcome)
