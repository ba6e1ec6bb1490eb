-- The front of the buffer is one piece, and the bytes after it are moved to the front.
use Rattle.std.proofs.Common.{sym, arith}
use Rattle.std.proofs.lemmas.List.{length-take-le}
use Rattle.store_open.proofs.RowWrites.{moved_behind}
use Rattle.store_open.proofs.laying.write_piece.Goals as goal

pub slice_bounds-write-end-2 : goal.slice_bounds-write-end-2
slice_bounds-write-end-2 g c = sym (length-take-le 131072 c.args.buffer.now (omega (arith, c.requires.used, c.requires.buffer)))

pub write-requires-clause-whole : goal.write-requires-clause-whole
write-requires-clause-whole g c = omega (arith, length-take-le 131072 c.args.buffer.now (omega (arith, c.requires.used, c.requires.buffer)))

pub write-requires-clause-inside : goal.write-requires-clause-inside
write-requires-clause-inside g c = omega (arith, c.requires.inside, length-take-le 131072 c.args.buffer.now (omega (arith, c.requires.used, c.requires.buffer)))

pub returns-clause-rest : goal.returns-clause-rest
returns-clause-rest g c = moved_behind 131072 c.args.used c.args.buffer.now c.copy_within.new.self c.requires.used c.requires.buffer c.copy_within.ensures.after
