-- What the code's reader keeps. No public clause cites it.
use Rattle.std.specs.Prelude.{ℕ, List}
use Rattle.config_reader.specs.declared.reader.Said.{Said as SpokenLine}
use Rattle.config_reader.specs.declared.reader.NamedHead.{NamedHead}
use Rattle.config_reader.specs.declared.reader.LineFault.{LineFault}
use Rattle.config_reader.specs.Settings.{Said}
use Rattle.config_reader.specs.FaultList.{Fault}
use Rattle.config_reader.specs.Spoken.{statement_of, block_spoken}

-- what a line that the reader keeps says
abbrev pub said_of : SpokenLine → Said
said_of s = record { number = s.number; block = block_spoken s.block; statement = statement_of s.statement }

-- a head of an interface that the reader keeps: its name and its line
abbrev pub head_heard : NamedHead → List ℕ × ℕ
head_heard h = (h.name.now, h.line)

-- a fault that the reader keeps, with its line
abbrev pub fault_heard : LineFault → Fault
fault_heard f = record { line = f.line; fault = f.fault }
