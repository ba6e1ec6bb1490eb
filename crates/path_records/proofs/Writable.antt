-- Commands and rows that are read can be written: for `record_laws` and `command_records`.
use Rattle.std.proofs.Common.{◌≡◌, ℕ, zero, suc, ◌+◌, ◌*◌, ◌^◌, ◌<◌, Bool, true, false, List, [], ◌∷◌, length, drop, refl, ap, subst, arith, Ok, Err, if◌then◌else◌}
use Rattle.std.specs.Prelude.{nat_le, ◌==◌}
use Rattle.std.specs.Int.{w64, from_be_bytes}
use Rattle.std.proofs.lemmas.Bool.{eqb-true, leb-true}
use Rattle.std.proofs.lemmas.List.{length-drop}
use Rattle.std.proofs.lemmas.List.Sums.{sum_by-cons}
use Rattle.byte_lists.specs.Content.{AreBytes, part}
use Rattle.byte_lists.specs.Numbers.{eight_at}
use Rattle.byte_lists.proofs.Contents.{bytes-part}
use Rattle.seg_core.specs.Encoding.{segment_encoding}
use Rattle.seg_core.specs.Registration.{type_of}
use Rattle.path_records.specs.declared.error.DbError.TheVariants.{BadRecord}
use Rattle.path_db.specs.declared.command.Command.{Command}
use Rattle.path_db.specs.declared.command.Command.TheVariants.{Register, Purge, Remove}
use Rattle.row_map.specs.Database.{RowView, AreWhole}
use Rattle.path_records.specs.RecordSteps.{◌>>=◌, demand}
use Rattle.path_records.specs.RowRecord.{row_size, record_of, row_decoding}
use Rattle.path_records.specs.CommandRecord.{segments_len, items_decoding, registration_record_decoding, purge_decoding, removal_decoding, command_decoding}
use Rattle.path_records.specs.RecordLaws.{HasCommandRecord, ReadCommandsCanBeWritten}
use Rattle.path_records.proofs.RowsBack.{row_takes}
use Rattle.path_records.proofs.Spelled.{went, checked, row_whole, bytes_drop, tail_bytes}

-- eight bytes have a number below 2^64
eight_small : (bytes : List ℕ) → AreBytes bytes → from_be_bytes w64 bytes < 2 ^ 64
eight_small bytes each = omega (arith, each 0, each 1, each 2, each 3, each 4, each 5, each 6, each 7)

items_whole : (count : ℕ) (bytes : List ℕ) (rows : List RowView) → AreBytes bytes → items_decoding count bytes ≡ Ok rows → AreWhole rows
unfolding items_decoding
items_whole zero [] rows each read = let none : [] ≡ rows = cc in subst AreWhole none tt
items_whole zero (b ∷ bytes) rows each read = absurd cc
items_whole (suc count) bytes rows each read =
    let behind = drop (row_size bytes) bytes in
    let a = went (row_decoding bytes) (λ row. items_decoding count behind >>= λ rows. Ok (row ∷ rows)) rows read in
    let b = went (items_decoding count behind) (λ rows. Ok (a.value ∷ rows)) rows a.others in
    let same : (a.value ∷ b.value) ≡ rows = cc (b.others) in
    subst AreWhole same (row_whole bytes a.value each a.first, items_whole count behind b.value (bytes_drop (row_size bytes) bytes each) b.first)

-- the number of rows that are read, and the length of their segments' encodings
pub items_size : (count : ℕ) (bytes : List ℕ) (rows : List RowView) → items_decoding count bytes ≡ Ok rows → (length rows ≡ count) × (segments_len rows + 5 * count ≡ length bytes)
unfolding items_decoding
items_size zero [] rows read = let none : [] ≡ rows = cc in subst (λ (l : List RowView). (length l ≡ 0) × (segments_len l + 0 ≡ 0)) none (refl, refl)
items_size zero (b ∷ bytes) rows read = absurd cc
items_size (suc count) bytes rows read =
    let behind = drop (row_size bytes) bytes in
    let a = went (row_decoding bytes) (λ row. items_decoding count behind >>= λ rows. Ok (row ∷ rows)) rows read in
    let b = went (items_decoding count behind) (λ rows. Ok (a.value ∷ rows)) rows a.others in
    let same : (a.value ∷ b.value) ≡ rows = cc (b.others) in
    let takes = row_takes bytes a.value a.first in
    let later = items_size count behind b.value b.first in
    let sum = sum_by-cons (λ (row : RowView). length (segment_encoding row.1)) a.value b.value in
    let sized : segments_len (a.value ∷ b.value) + 5 * suc count ≡ length bytes = omega (arith, sum, takes.0, takes.1, later.1, length-drop (row_size bytes) bytes) in
    subst (λ (l : List RowView). (length l ≡ suc count) × (segments_len l + 5 * suc count ≡ length bytes)) same (ap suc later.0, sized)

registration_can : (removals : Bool) (body : List ℕ) (command : Command) → AreBytes body → registration_record_decoding body ≡ Ok command → HasCommandRecord removals command
unfolding registration_record_decoding
registration_can removals [] command each read = absurd cc
registration_can removals (count ∷ items) command each read =
    let a = checked (nat_le count 16) (demand (nat_le (length items) (131072 + 5 * count)) BadRecord >>= λ _. items_decoding count items >>= λ rows. Ok (Register rows)) command read in
    let b = checked (nat_le (length items) (131072 + 5 * count)) (items_decoding count items >>= λ rows. Ok (Register rows)) command a.1 in
    let r = went (items_decoding count items) (λ rows. Ok (Register rows)) command b.1 in
    let same : Register r.value ≡ command = cc (r.others) in
    let are = tail_bytes count items each in
    let so = items_size count items r.value r.first in
    let few = leb-true count 16 a.0 in
    let short = leb-true (length items) (131072 + 5 * count) b.0 in
    subst (HasCommandRecord removals) same (record {
      limits = (omega (arith, so.0, few), omega (arith, so.1, short));
      whole = items_whole count items r.value are r.first;
      widths = tt;
      allowed = tt;
    })

purge_can : (removals : Bool) (body : List ℕ) (command : Command) → AreBytes body → purge_decoding body ≡ Ok command → HasCommandRecord removals command
unfolding purge_decoding
purge_can removals body command each read =
    let a = checked (length body == 8) (Ok (Purge (eight_at 0 body))) command read in
    let same : Purge (eight_at 0 body) ≡ command = cc (a.1) in
    subst (HasCommandRecord removals) same (record { limits = tt; whole = tt; widths = eight_small (part 0 8 body) (bytes-part 0 8 body each); allowed = tt })

removal_can : (body : List ℕ) (command : Command) → removal_decoding body ≡ Ok command → HasCommandRecord true command
unfolding removal_decoding
removal_can [] command read = absurd cc
removal_can (kind ∷ id) command read =
    let k = went (record_of (type_of kind)) (λ kind. demand (length id == 32) BadRecord >>= λ _. Ok (Remove kind id)) command read in
    let a = checked (length id == 32) (Ok (Remove k.value id)) command k.others in
    let same : Remove k.value id ≡ command = cc (a.1) in
    subst (HasCommandRecord true) same (record { limits = tt; whole = tt; widths = eqb-true (length id) 32 a.0; allowed = refl })

by_kind : (a b d removals : Bool) (body : List ℕ) (command : Command) → AreBytes body
    → (if a then registration_record_decoding body else if b then purge_decoding body else if d then (if removals then removal_decoding body else Err BadRecord) else Err BadRecord) ≡ Ok command
    → HasCommandRecord removals command
by_kind true b d removals body command each read = registration_can removals body command each read
by_kind false true d removals body command each read = purge_can removals body command each read
by_kind false false true true body command each read = removal_can body command read
by_kind false false true false body command each read = absurd cc
by_kind false false false removals body command each read = absurd cc

pub command_can : ReadCommandsCanBeWritten
unfolding command_decoding
command_can removals [] command each read = absurd cc
command_can removals (kind ∷ body) command each read = by_kind (kind == 1) (kind == 2) (kind == 3) removals body command (tail_bytes kind body each) read
