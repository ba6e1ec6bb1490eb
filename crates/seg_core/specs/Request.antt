-- Reading a request for segments.
use Rattle.std.specs.Prelude.{ℕ, List, Result, Ok}
use Rattle.seg_core.specs.declared.error.SegError.{SegError}
use Rattle.seg_core.specs.Shapes.{request_shape}
use Rattle.seg_core.specs.Steps.{◌>>=◌}
use Rattle.seg_core.specs.Message.{message_fields, number_field}

-- The ISD-AS numbers of the source and of the destination.
unfoldable pub request_decoding : List ℕ → Result (ℕ × ℕ) SegError
request_decoding message = do
  fs ← message_fields request_shape message
  Ok (number_field 1 fs, number_field 2 fs)
