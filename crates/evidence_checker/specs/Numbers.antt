-- The numbers of the checker's tests.
use Rattle.std.specs.Prelude.{ℕ}
use Rattle.evidence_checker.specs.declared.fault.CheckFault.{CheckFault}
use Rattle.evidence_checker.specs.declared.fault.CheckFault.TheVariants.{NothingClaimed, WrongShape, WrongPlaces, UnequalEnds, OutOfBounds, WrongGreatest, NotOnlyCheapest, FalseFloor, NotAPath, NotARival, GreatMultipliers, NothingRefuted, UnsoundEntry, OpenLeaf}

-- the number by which a failed test is printed
abbrev pub check_fault_number : CheckFault → ℕ
check_fault_number NothingClaimed = 49
check_fault_number WrongShape = 51
check_fault_number WrongPlaces = 50
check_fault_number UnequalEnds = 53
check_fault_number OutOfBounds = 45
check_fault_number WrongGreatest = 47
check_fault_number NotOnlyCheapest = 46
check_fault_number FalseFloor = 52
check_fault_number NotAPath = 40
check_fault_number NotARival = 41
check_fault_number GreatMultipliers = 48
check_fault_number NothingRefuted = 43
check_fault_number UnsoundEntry = 42
check_fault_number OpenLeaf = 44
