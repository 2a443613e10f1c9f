-- What a file of LSAs says, read LSA by LSA.
use Rattle.std.specs.Prelude.{ℕ, zero, suc, ◌+◌, List, [], ◌∷◌, ◌++◌, length, take, drop, Option, Some, None, Result}
use Rattle.input_files.specs.Readings.{Reading, ◌>>=◌, or_refused, place_refused}
use Rattle.input_files.specs.Outcomes.{file_read}
use Rattle.lsa_bytes.specs.declared.fault.LsaFault.{LsaFault}
use Rattle.lsa_bytes.specs.declared.Lsa.{Lsa}
use Rattle.lsa_bytes.specs.declared.instances.Instance.{Instance}
use Rattle.lsa_bytes.specs.Faults.{form_fault}
use Rattle.lsa_bytes.specs.Files.{decided}
use Rattle.lsa_bytes.specs.Grammar.{length_of, said_at}
use Rattle.lsa_bytes.specs.Numbers.{lsa_fault_number}

-- 64 MiB: the greatest length of a file of LSAs, and of a live file
abbrev pub longest_database : ℕ
longest_database = 67108864

-- an LSA that is off the grammar ends the reading
abbrev pub by_fault : List Instance → ℕ → Option LsaFault → Result (List Lsa) (LsaFault × ℕ) → Result (List Lsa) (LsaFault × ℕ)
by_fault before offset (Some fault) later = decided before (Some (fault, offset))
by_fault before offset None later = later

-- what at most so many LSAs from an offset on come to, behind the instances before it
abbrev pub lsas_behind : ℕ → List Instance → ℕ → List ℕ → Result (List Lsa) (LsaFault × ℕ)
lsas_behind zero before offset rest = decided before None
lsas_behind (suc most) before offset [] = decided before None
lsas_behind (suc most) before offset (byte ∷ bytes) =
    let rest = byte ∷ bytes in
    by_fault before offset (form_fault rest)
    (lsas_behind most (before ++ said_at offset (take (length_of rest) rest)) (offset + length_of rest) (drop (length_of rest) rest))

-- the LSAs of the bytes that count, or the first fault and its offset
abbrev pub lsas_in : List ℕ → Result (List Lsa) (LsaFault × ℕ)
lsas_in bytes = lsas_behind (length bytes) [] 0 bytes

-- a file of LSAs: its size, and then its LSAs up to the first fault, whose offset stands for a line
abbrev pub lsas_read : List ℕ → Reading (List Lsa)
lsas_read file = file_read longest_database file >>= λ bytes. or_refused (place_refused lsa_fault_number file) (lsas_in bytes)
