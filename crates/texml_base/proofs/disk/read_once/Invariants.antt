use Rattle.std.specs.Io.KnownBytes.{Keeps}
use Rattle.texml_base.proofs.disk.read_once.Given as goal

abbrev pub invariant-tries : goal.invariant-tries
invariant-tries g l = Keeps (g.F.Read.remaining l.fn.file) (g.F.Read.remaining l.file)
