-- The table of refusals: what each number says, and what its place is.
use Rattle.std.specs.Prelude.{ℕ, List, [], ◌∷◌, ◌==◌, Option, None, find, fold, codes}
use Rattle.std.specs.Option.{option_map, option_or}
use Rattle.refusal_sentences.specs.declared.meaning.Meaning.{Meaning}
use Rattle.refusal_sentences.specs.declared.place.Place.{Place}
use Rattle.refusal_sentences.specs.declared.place.Place.TheVariants.{Line, Byte, Spot, Variable, Path, Row, TreeLine, Nothing}

-- what the numbers say whose place is a line of a configuration
abbrev pub configuration_sayings : List (ℕ × List ℕ)
configuration_sayings =
    (1, codes "the line has more than 4,096 bytes")
    ∷ (2, codes "an address or router ID is missing or off its form A.B.C.D/M or A.B.C.D")
    ∷ (3, codes "a cost that isn't 1 to 65535, or a priority that isn't 0 to 255")
    ∷ (4, codes "an area is missing, or neither a number nor a dotted quad")
    ∷ (5, codes "this setting isn't modelled, so an answer could be wrong about the network")
    ∷ (6, codes "the interface has a second, different address")
    ∷ (7, codes "network lines of two areas match this interface")
    ∷ (8, codes "the router's name is missing, or has other characters than letters, digits, - _ .")
    ∷ (10, codes "an earlier configuration has the same router name")
    ∷ (11, codes "an earlier interface has the same address")
    ∷ (12, codes "an earlier interface on this subnet has another network kind")
    ∷ (13, codes "this is the third interface on a point-to-point subnet")
    ∷ (14, codes "the router has two interfaces on this subnet")
    ∷ (15, codes "every router on this subnet has priority 0, so none becomes designated")
    ∷ (16, codes "this subnet and that of another router overlap without being equal")
    ∷ (17, codes "more than 1,000 configurations or 4,000 active interfaces")
    ∷ []

-- what the numbers say whose place is a line of the request file
abbrev pub request_sayings : List (ℕ × List ℕ)
request_sayings =
    (20, codes "this is no line of a request, or the header or the area is missing")
    ∷ (21, codes "no configuration has a router of this name")
    ∷ (22, codes "the router has no interface of this name with a neighbour in the area")
    ∷ (23, codes "an interface of the path doesn't lead to the router of the next word")
    ∷ (24, codes "the path comes to a router or a subnet twice")
    ∷ (25, codes "bounds go from a number of 1 or more to one that is no smaller, at most 65535")
    ∷ (26, codes "an interface has no cost, and the request file no default")
    ∷ (27, codes "more than 10,000 paths, or more than 1,000 variables")
    ∷ (28, codes "this interface is on a broadcast subnet, so no link is symmetric there")
    ∷ (29, codes "the ends of the symmetric link aren't both free with the same bounds")
    ∷ []

-- what the numbers say whose place is a line of a text with costs or evidence, of a file of sets or of JSON, or a line
-- whose words behind `without` are refused
abbrev pub line_sayings : List (ℕ × List ℕ)
line_sayings =
    (30, codes "this is no line that may stand here in such a text")
    ∷ (31, codes "the text ends before its `end` line")
    ∷ (32, codes "something stands behind the `end` line")
    ∷ (70, codes "the words behind `without` take the wanted path itself away")
    ∷ (71, codes "this is no line of a file of sets, or its header is missing")
    ∷ (72, codes "a set has numbers of path lines with the same ends, each in one set alone")
    ∷ (81, codes "the file is neither LSAs nor JSON, or nests deeper than 64")
    ∷ (82, codes "a member of this object is missing or off its form")
    ∷ []

-- what the numbers say whose place is a byte of a file of LSAs
abbrev pub byte_sayings : List (ℕ × List ℕ)
byte_sayings =
    (73, codes "the file ends within this LSA")
    ∷ (74, codes "the length of this LSA is below 20")
    ∷ (75, codes "the body of this LSA is off its form")
    ∷ (76, codes "an earlier LSA that counts has the same name and another origin")
    ∷ []

-- what the numbers say whose place is a byte of LSAs, or a line of JSON
abbrev pub spot_sayings : List (ℕ × List ℕ)
spot_sayings =
    (77, codes "a link has metric 0")
    ∷ (80, codes "more than 1,000 router-LSAs count")
    ∷ []

-- what the numbers say whose place is a row of a text with evidence
abbrev pub row_sayings : List (ℕ × List ℕ)
row_sayings =
    (40, codes "its edges aren't a simple path of its request, or there is no such request")
    ∷ (41, codes "it is the wanted path itself, not a rival")
    ∷ []

-- what the numbers say whose place is a line of the tree
abbrev pub tree_sayings : List (ℕ × List ℕ)
tree_sayings =
    (42, codes "this tighten, split or halve doesn't follow")
    ∷ (43, codes "this refute doesn't close its box")
    ∷ (44, codes "the proof is left open here")
    ∷ (48, codes "the multipliers of this refute add up to 2^100 or more")
    ∷ []

-- what the numbers say whose place is a variable
abbrev pub cost_sayings : List (ℕ × List ℕ)
cost_sayings =
    (45, codes "its cost is outside its bounds")
    ∷ (53, codes "the two ends of the symmetric link have different costs")
    ∷ []

-- what the numbers say whose place is a wanted path
abbrev pub path_sayings : List (ℕ × List ℕ)
path_sayings =
    (46, codes "it isn't the only cheapest path under these costs")
    ∷ []

-- what the numbers say whose place is a file as a whole
abbrev pub whole_sayings : List (ℕ × List ℕ)
whole_sayings =
    (9, codes "the file is too long")
    ∷ (47, codes "the greatest of the costs isn't the one that the text names")
    ∷ (49, codes "the text claims nothing, or has no costs")
    ∷ (50, codes "the cost lines aren't those of the interfaces that may change")
    ∷ (51, codes "the parts of the text don't fit its verdict")
    ∷ (52, codes "the floor names no variable whose lower bound is the greatest cost")
    ∷ (54, codes "a cost line names an interface that an earlier line names")
    ∷ (78, codes "a configuration has no ospf router-id, or no LSA is of the router asked for")
    ∷ (79, codes "an earlier configuration has the same router ID")
    ∷ []

-- the saying of a number in a table
abbrev pub saying_of : List (ℕ × List ℕ) → ℕ → Option (List ℕ)
saying_of sayings number = option_map (λ saying. saying.1) (find (λ saying. saying.0 == number) sayings)

-- what a number means: what its place is, and what is at fault there
pub record Meant : Type 0 where
  pub place : Place
  pub says : List ℕ

-- what a number means, as a value of the code tells it
abbrev pub meant_in : Meaning → Meant
meant_in meaning = record { place = meaning.place; says = meaning.says.now }

-- the meaning of a number in a table of sayings whose places are of one kind
abbrev pub meant_at : Place → List (ℕ × List ℕ) → ℕ → Option Meant
meant_at place sayings number = option_map (λ says. record { place = place; says = says }) (saying_of sayings number)

-- what the number of a refusal means
abbrev pub meant_by : ℕ → Option Meant
meant_by number =
    fold option_or None (meant_at Line configuration_sayings number
    ∷ meant_at Line request_sayings number
    ∷ meant_at Line line_sayings number
    ∷ meant_at Byte byte_sayings number
    ∷ meant_at Spot spot_sayings number
    ∷ meant_at Row row_sayings number
    ∷ meant_at TreeLine tree_sayings number
    ∷ meant_at Variable cost_sayings number
    ∷ meant_at Path path_sayings number
    ∷ meant_at Nothing whole_sayings number
    ∷ [])
