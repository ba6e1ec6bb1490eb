-- Records, one after the other: for `records`.
use Rattle.std.proofs.Common.{◌≡◌, ◌≢◌, ℕ, zero, suc, ◌+◌, ◌<◌, ◌≤◌, Bool, cond, leb, List, [], ◌∷◌, ◌++◌, length, drop, Some, None, Option, Ok, Err, Result, refl, sym, ◌∙◌, ap, subst, arith, append_assoc, le-leb}
use Rattle.byte_lists.specs.Content.{part}
use Rattle.std.proofs.lemmas.Bool.{lt-leb}
use Rattle.std.proofs.lemmas.List.{append-nil}
use Rattle.std.specs.Result.{result_ok}
use Rattle.path_db.specs.declared.command.Command.{Command}
use Rattle.path_records.specs.declared.error.DbError.{DbError}
use Rattle.path_records.specs.declared.error.DbError.TheVariants.{NoMemory as RecordWantsMemory, BadRecord as RecordIsBad, Order}
use Rattle.path_records.specs.CommandRecord.{command_decoding}
use Rattle.store_layout.specs.Limits.{Limits, limits_of}
use Rattle.store_layout.specs.GroupReading.{JournalRefusal, record_size, first_command, with_first, commands_in}
use Rattle.store_layout.specs.GroupReading.{BadRecord as IsBadRecord}
use Rattle.gate_journal.specs.declared.error.JournalError.{JournalError}
use Rattle.gate_journal.specs.declared.error.JournalError.TheVariants.{NoMemory, BadHeader, BadRecord, Gap, PastEnd}
use Rattle.gate_journal.specs.Commands.{command_format}
use Rattle.gate_journal.specs.Reading.{Refuses, found_in_records}
use Rattle.gate_journal.specs.RecordError.{error_of_record}

-- the record at the front, by its command's bytes
module _ (version : ℕ) (bytes : List ℕ) (size : ℕ) (sized : size ≡ record_size bytes) (inside : 4 + size ≤ length bytes) where
  first_is : first_command command_format (limits_of version) bytes ≡ result_ok (command_decoding (limits_of version).removals (part 4 size bytes))
  first_is =
      ap (λ (n : ℕ). cond (leb (4 + n) (length bytes)) (result_ok (command_decoding (limits_of version).removals (part 4 n bytes))) None) (sym sized)
      ∙ ap (λ (b : Bool). cond b (result_ok (command_decoding (limits_of version).removals (part 4 size bytes))) None) (le-leb (4 + size) (length bytes) inside)

  told : (e : DbError) (reading : Result Command DbError) → (e ≢ RecordWantsMemory → reading ≡ Err e) → Refuses (error_of_record e) (found_in_records (result_ok reading))
  told RecordWantsMemory reading so = tt
  told RecordIsBad reading so = ap (λ (r : Result Command DbError). found_in_records (result_ok r)) (so (λ is. cc))
  told Order reading so = ap (λ (r : Result Command DbError). found_in_records (result_ok r)) (so (λ is. cc))

  pub first_refused : (removals : Bool) (taken : List ℕ) (e : DbError) → removals ≡ (limits_of version).removals → taken ≡ part 4 size bytes → (e ≢ RecordWantsMemory → command_decoding removals taken ≡ Err e)
      → Refuses (error_of_record e) (found_in_records (first_command command_format (limits_of version) bytes))
  first_refused removals taken e allowed same so =
      subst (λ (first : Option Command). Refuses (error_of_record e) (found_in_records first))
      (sym (first_is ∙ ap (λ (b : Bool). result_ok (command_decoding b (part 4 size bytes))) (sym allowed) ∙ ap (λ (t : List ℕ). result_ok (command_decoding removals t)) (sym same)))
      (told e (command_decoding removals taken) so)

  pub first_read : (taken : List ℕ) (command : Command) → taken ≡ part 4 size bytes → command_decoding (limits_of version).removals taken ≡ Ok command
      → found_in_records (first_command command_format (limits_of version) bytes) ≡ Ok command
  first_read taken command same is =
      ap found_in_records (first_is ∙ ap (λ (t : List ℕ). result_ok (command_decoding (limits_of version).removals t)) (sym same))
      ∙ ap (λ (r : Result Command DbError). found_in_records (result_ok r)) is

-- a record that does not end within the bytes
pub first_short : (limits : Limits) (bytes : List ℕ) → length bytes < 4 + record_size bytes → found_in_records (first_command command_format limits bytes) ≡ Err IsBadRecord
first_short limits bytes short =
    ap (λ (b : Bool). found_in_records (cond b (result_ok (command_decoding limits.removals (part 4 (record_size bytes) bytes))) None)) (lt-leb (4 + record_size bytes) (length bytes) short)

-- commands in front of those that were found
abbrev pub appended : List Command → Option (List Command) → Option (List Command)
appended before None = None
appended before (Some found) = Some (before ++ found)

one_more : (before : List Command) (command : Command) (more : Option (List Command))
    → appended before (with_first (Some command) more) ≡ appended (before ++ command ∷ []) more
one_more before command None = refl
one_more before command (Some found) = ap (λ (list : List Command). Some list) (sym (append_assoc before (command ∷ []) found))

found_first : (first : Option Command) (command : Command) → found_in_records first ≡ Ok command → first ≡ Some command
found_first None command is = cc
found_first (Some other) command is = cc

module _ (limits : Limits) (all : Option (List Command)) (before : List Command) where
  -- the next record was read
  pub record_next : (n m : ℕ) (command : Command) (rest : List ℕ) → n ≡ suc m → found_in_records (first_command command_format limits rest) ≡ Ok command
      → all ≡ appended before (commands_in command_format limits n rest)
      → all ≡ appended (before ++ command ∷ []) (commands_in command_format limits m (drop (4 + record_size rest) rest))
  record_next n m command rest counted read so =
      let behind = commands_in command_format limits m (drop (4 + record_size rest) rest) in
      so
      ∙ ap (λ (k : ℕ). appended before (commands_in command_format limits k rest)) counted
      ∙ ap (λ (first : Option Command). appended before (with_first first behind)) (found_first (first_command command_format limits rest) command read)
      ∙ one_more before command behind

  -- it was refused
  none_first : (more : Option (List Command)) → appended before (with_first None more) ≡ None
  none_first more = refl

  pub record_bad : (n m : ℕ) (rest : List ℕ) → n ≡ suc m → first_command command_format limits rest ≡ None → all ≡ appended before (commands_in command_format limits n rest) → all ≡ None
  record_bad n m rest counted bad so =
      let behind = commands_in command_format limits m (drop (4 + record_size rest) rest) in
      so
      ∙ ap (λ (k : ℕ). appended before (commands_in command_format limits k rest)) counted
      ∙ ap (λ (first : Option Command). appended before (with_first first behind)) bad

  -- all were read
  pub records_done : (n : ℕ) (rest : List ℕ) → n ≡ 0 → length rest ≡ 0 → all ≡ appended before (commands_in command_format limits n rest) → all ≡ Some before
  records_done zero [] none empty so = so ∙ ap (λ (list : List Command). Some list) (append-nil before)
  records_done zero (byte ∷ rest) none empty so = absurd (omega (arith, empty))
  records_done (suc n) rest none empty so = absurd (omega (arith, none))

  -- bytes are left over
  pub records_left : (n : ℕ) (rest : List ℕ) → n ≡ 0 → 0 < length rest → all ≡ appended before (commands_in command_format limits n rest) → all ≡ None
  records_left zero [] none some so = absurd (omega (arith, some))
  records_left zero (byte ∷ rest) none some so = so
  records_left (suc n) rest none some so = absurd (omega (arith, none))

none_appended : (before : List Command) (all : Option (List Command)) → appended before all ≡ None → all ≡ None
none_appended before None is = refl
none_appended before (Some found) is = cc

-- what was found where commands are in front of it
pub some_appended : (before new : List Command) (all : Option (List Command)) → appended before all ≡ Some new
    → (found : List Command) × (found_in_records all ≡ Ok found) × (new ≡ before ++ found)
some_appended before new None is = cc
some_appended before new (Some found) is = (found, refl, cc)

pub bad_appended : (before : List Command) (all : Option (List Command)) → appended before all ≡ None → found_in_records all ≡ Err IsBadRecord
bad_appended before all is = ap found_in_records (none_appended before all is)

bad_first : (first : Option Command) → found_in_records first ≡ Err IsBadRecord → first ≡ None
bad_first None is = refl
bad_first (Some command) is = cc

other_first : (first : Option Command) (refusal : JournalRefusal) → found_in_records first ≡ Err refusal → refusal ≡ IsBadRecord
other_first None refusal is = cc
other_first (Some command) refusal is = cc

-- a refusal of a record is one of all
pub record_refused : (e : JournalError) (first : Option Command) (all : Option (List Command)) → Refuses e (found_in_records first)
    → (first ≡ None → found_in_records all ≡ Err IsBadRecord) → Refuses e (found_in_records all)
record_refused NoMemory first all is so = tt
record_refused BadRecord first all is so = so (bad_first first is)
record_refused BadHeader first all is so = let same = other_first first _ is in absurd cc
record_refused (Gap place) first all is so = let same = other_first first _ is in absurd cc
record_refused PastEnd first all is so = let same = other_first first _ is in absurd cc

-- what holds of the bytes of the first record holds of it later too
pub first_or : (P : List ℕ → Type 0) (n : ℕ) (rest bytes : List ℕ) → (n ≡ 0 → rest ≡ bytes) → (0 < n → P bytes) → P rest → P bytes
first_or P zero rest bytes first later here = subst P (first refl) here
first_or P (suc n) rest bytes first later here = later (omega arith)
