-- The lemmas that other crates cite, which is all that they take from these proofs.

-- how long a varint is, for functions that count the bytes of one before they write it
pub use Rattle.pw_wire.proofs.Encoding.{limit, encoding-last, encoding-goes_on, varint_encoding-mono}
pub use Rattle.pw_wire.proofs.Varints.{varint_encoding_is, varint_encoding_shortest}
-- that a message without a fault is its fields, for laws of what was read of it
pub use Rattle.pw_wire.proofs.Messages.{whole}
-- what encoded fields are read as, for laws that what was written is read back
pub use Rattle.pw_wire.proofs.Messages.{fields-nil, fault-nil, fields-varint_field, fault-varint_field, fields-bytes_field, fault-bytes_field}
