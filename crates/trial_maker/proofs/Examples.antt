-- An example of one block, and the sides that start 1 chooses.
use Rattle.std.proofs.Common.{◌≡◌, [], ◌∷◌, true, false, refl, map}
use Rattle.std.specs.Prelude.{codes}
use Rattle.trial_maker.specs.TrialTexts.{made_trial, takes_upper, begins_block, joint_config, side_config}

names : (made_trial 1 1).names ≡ codes "j0.conf" ∷ codes "u0.conf" ∷ codes "l0.conf" ∷ codes "j1.conf" ∷ []
names = refl

request : (made_trial 1 1).request ≡ codes "ospfcost request 1\narea 0\nfree all 1 65535\npath j0:e0 u0:e1 j1\npath j0:e0 u0:e1 j1\n"
request = refl

sides : map (takes_upper 1) (0 ∷ 1 ∷ 2 ∷ 3 ∷ 4 ∷ []) ≡ true ∷ true ∷ false ∷ false ∷ false ∷ []
sides = refl

first_config : begins_block 0 ≡ codes
    "interface e0\n ip address 10.0.0.0/31\n ip ospf area 0\n ip ospf network point-to-point\nexit\ninterface e1\n ip address 10.0.0.4/31\n ip ospf area 0\n ip ospf network point-to-point\nexit\n"
first_config = refl

-- a router between two blocks has two interfaces on each
middle_config : joint_config 2 0
    ≡ codes
    "interface e0\n ip address 10.0.0.3/31\n ip ospf area 0\n ip ospf network point-to-point\nexit\ninterface e1\n ip address 10.0.0.7/31\n ip ospf area 0\n ip ospf network point-to-point\nexit\ninterface e2\n ip address 10.0.0.8/31\n ip ospf area 0\n ip ospf network point-to-point\nexit\ninterface e3\n ip address 10.0.0.12/31\n ip ospf area 0\n ip ospf network point-to-point\nexit\n"
middle_config = refl

upper_config : side_config 0 ≡ codes
    "interface e0\n ip address 10.0.0.1/31\n ip ospf area 0\n ip ospf network point-to-point\nexit\ninterface e1\n ip address 10.0.0.2/31\n ip ospf area 0\n ip ospf network point-to-point\nexit\n"
upper_config = refl
