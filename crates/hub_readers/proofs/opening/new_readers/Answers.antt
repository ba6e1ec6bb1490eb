use Rattle.hub_readers.proofs.Keeping.{admits}
use Rattle.hub_readers.proofs.opening.new_readers.Goals as goal

pub reader-requires : goal.reader-requires
reader-requires g c = admits g.N.StateName.opening g.N.ReaderName.shown
