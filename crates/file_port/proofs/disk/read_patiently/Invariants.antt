-- The reads so far were interrupted, and took nothing off.
use Rattle.std.specs.Io.KnownBytes.{Keeps}
use Rattle.file_port.proofs.disk.read_patiently.Given as goal

abbrev pub invariant-loop : goal.invariant-loop
invariant-loop g l = Keeps (g.F.Read.remaining l.initial.file) (g.F.Read.remaining l.file)
