-- What the code's statements, blocks and lines mean. No public clause cites it.
use Rattle.text_lines.specs.Numbers.{Prefix}
use Rattle.config_reader.specs.declared.statements.AddressPrefix.{AddressPrefix}
use Rattle.config_reader.specs.declared.statements.Statement.{Statement as Spoken}
use Rattle.config_reader.specs.declared.statements.Statement.TheVariants as spoken
use Rattle.config_reader.specs.declared.statements.Block.{Block as SpokenBlock}
use Rattle.config_reader.specs.declared.statements.Block.TheVariants.{Interface, Router, Other}
use Rattle.config_reader.specs.Statements.{Block, OfInterface, OfRouter, OfOther, Statement, AddressIs, AreaIs, CostIs, KindIs, PriorityIs, PassiveIs, DownIs, RouterIdIs, NetworkIs, PassiveInterfaceIs, Refused, Unread}

-- a prefix as the code keeps it
abbrev pub prefix_spoken : AddressPrefix → Prefix
prefix_spoken p = record { address = p.address; length = p.length }

-- what a statement means that the code keeps
abbrev pub statement_of : Spoken → Statement
statement_of (spoken.Address p) = AddressIs (prefix_spoken p)
statement_of (spoken.Area a) = AreaIs a
statement_of (spoken.Cost n) = CostIs n
statement_of (spoken.Network kind) = KindIs kind
statement_of (spoken.Priority n) = PriorityIs n
statement_of (spoken.Passive b) = PassiveIs b
statement_of (spoken.Down b) = DownIs b
statement_of (spoken.RouterId id) = RouterIdIs id
statement_of (spoken.NetworkArea p a) = NetworkIs (record { prefix = prefix_spoken p; area = a })
statement_of (spoken.PassiveInterface name) = PassiveInterfaceIs name.now
statement_of (spoken.Refused fault) = Refused fault
statement_of spoken.Unread = Unread

-- what a block means that the code keeps
abbrev pub block_spoken : SpokenBlock → Block
block_spoken (Interface name) = OfInterface name.now
block_spoken Router = OfRouter
block_spoken Other = OfOther
