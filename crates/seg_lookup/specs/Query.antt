-- What a lookup asks for.
use Rattle.std.specs.Prelude.{ℕ, Result, Ok, Err}
use Rattle.isd_as.specs.IsdAs.{isd_as_number}
use Rattle.seg_core.specs.declared.seg_type.SegType.{SegType}
use Rattle.seg_lookup.specs.declared.error.LookupError.{LookupError}
use Rattle.seg_lookup.specs.declared.query.Query.{Query}

-- A query: segments of one type, from one AS to another by the order of their entries.
pub record QueryView : Type 0 where
  -- The type of the segments.
  pub kind : SegType
  -- The pattern that covers the AS of the first entry.
  pub start : ℕ
  -- The pattern that covers the AS of the last entry.
  pub end : ℕ

-- A query as contracts see it.
abbrev pub query_view : Query → QueryView
query_view query = record { kind = query.kind; start = isd_as_number query.start; end = isd_as_number query.end }

-- The result of a classification as contracts see it.
abbrev pub query_result : Result Query LookupError → Result QueryView LookupError
query_result (Ok query) = Ok (query_view query)
query_result (Err e) = Err e
