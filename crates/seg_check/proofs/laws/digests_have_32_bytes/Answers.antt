use Rattle.seg_check.proofs.Digests.{digest-length, digest-IsBytes}
use Rattle.seg_check.proofs.laws.digests_have_32_bytes.Goals as goal

pub returns-clause-digest : goal.returns-clause-digest
returns-clause-digest c = digest-length

pub returns-clause-bytes : goal.returns-clause-bytes
returns-clause-bytes c = digest-IsBytes
