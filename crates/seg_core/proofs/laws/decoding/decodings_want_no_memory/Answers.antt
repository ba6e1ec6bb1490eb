use Rattle.seg_core.specs.Request.{request_decoding}
use Rattle.seg_core.specs.Registration.{registration_decoding}
use Rattle.seg_core.specs.Segment.{segment_decoding}
use Rattle.seg_core.proofs.Refusals.{no_memory, within_segment, within_registration, within_request}
use Rattle.seg_core.proofs.laws.decoding.decodings_want_no_memory.Goals as goal

pub returns-clause-segment : goal.returns-clause-segment
returns-clause-segment c = λ message. no_memory (segment_decoding message) (within_segment message)

pub returns-clause-registration : goal.returns-clause-registration
returns-clause-registration c = λ message. no_memory (registration_decoding message) (within_registration message)

pub returns-clause-request : goal.returns-clause-request
returns-clause-request c = λ message. no_memory (request_decoding message) (within_request message)
