use Rattle.writer.proofs.Packing.{packs_none}
use Rattle.writer.proofs.packer.Packer.new.Goals as goal

pub returns-clause-packs : goal.returns-clause-packs
returns-clause-packs c = packs_none 0 _
