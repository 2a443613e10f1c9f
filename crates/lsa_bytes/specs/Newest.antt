-- The newest instance of each LSA, found by what names it.
use Rattle.std.specs.Prelude.{◌≡◌, List}
use Rattle.indexmap.specs.IndexMap.{IndexMap, get}
use Rattle.lsa_bytes.specs.declared.instances.LsaName.{LsaName}
use Rattle.lsa_bytes.specs.declared.instances.Stamp.{Stamp}
use Rattle.lsa_bytes.specs.declared.instances.Instance.{Instance}
use Rattle.lsa_bytes.specs.Instances.{newest, same_name, stamps_of}

-- the look-up has the newest instance of each LSA among these
abbrev pub HasNewest : {S : Type 0} → IndexMap LsaName Stamp S → List Instance → Type 0
HasNewest by_name all = (name : LsaName) → get same_name by_name name ≡ newest (stamps_of name all)
