use Rattle.writer.proofs.Looked.{looked-nothing}
use Rattle.writer.proofs.stored.StoredDefault.default.Goals as goal

pub invariant_of-result : goal.invariant_of-result
invariant_of-result c = rw (c.default.ensures, c.default-2.ensures, c.default-3.ensures) looked-nothing
