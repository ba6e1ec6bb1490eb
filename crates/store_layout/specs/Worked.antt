-- Worked values of the definitions, byte by byte.
use Rattle.std.specs.Prelude.{◌≡◌, ℕ, Bool, List, [], ◌∷◌, ◌++◌, replicate, take, Result, Ok, Some, unwrap_or}
use Rattle.std.proofs.Common.{sym, ap}
use Rattle.store_layout.specs.Limits.{limits_of}
use Rattle.store_layout.specs.CommandFormat.{CommandFormat}
use Rattle.store_layout.specs.Group.{group_encoding}
use Rattle.store_layout.specs.GroupReading.{JournalRefusal}
use Rattle.store_layout.specs.Journal.{Reading}
use Rattle.store_layout.specs.JournalReading.{journal_scan}

-- A format of commands that are any bytes, and are their own encoding.
abbrev pub raw_format : CommandFormat (List ℕ)
raw_format = record {
  encoding = λ command. command;
  decoding = λ limits bytes. Some bytes;
  spelled = λ limits bytes command each is. sym (ap (λ found. unwrap_or found command) is);
  grows = λ small large bytes command larger is. is;
}

-- A command of nine bytes: kind 2, and the moment 5.
abbrev pub purge_command : List ℕ
purge_command = 2 ∷ 0 ∷ 0 ∷ 0 ∷ 0 ∷ 0 ∷ 0 ∷ 0 ∷ 5 ∷ []

-- The group of this one command at place 0.
abbrev pub purge_payload : List ℕ
purge_payload =
    (1 ∷ 1 ∷ 0 ∷ 0 ∷ 0 ∷ 0 ∷ 0 ∷ 13 ∷ 0 ∷ 0 ∷ 0 ∷ 0 ∷ 0 ∷ 0 ∷ 0 ∷ 0 ∷ 0 ∷ 0 ∷ 0 ∷ 9 ∷ purge_command) ++ replicate 483 0

-- A seal at place 257.
abbrev pub seal_payload : List ℕ
seal_payload = (2 ∷ 0 ∷ 0 ∷ 0 ∷ 0 ∷ 0 ∷ 0 ∷ 0 ∷ 0 ∷ 0 ∷ 0 ∷ 0 ∷ 0 ∷ 0 ∷ 1 ∷ 1 ∷ []) ++ replicate 496 0

-- A sector with an open gate.
abbrev pub open_sector : List ℕ
open_sector = 0xA7 ∷ replicate 511 0

-- A sector with a closed gate.
abbrev pub closed_sector : List ℕ
closed_sector = replicate 512 0

-- The payload of the group with another last byte.
abbrev pub marked_payload : List ℕ
marked_payload = take 511 purge_payload ++ 1 ∷ []

-- A group of nine commands at place 0.
abbrev pub nine_payload : List ℕ
nine_payload = group_encoding raw_format 0 (replicate 9 purge_command)

-- A journal of these sectors is read with this result in a version, from a place on.
abbrev pub reads_as : ℕ → ℕ → List ℕ → Result (Reading (List ℕ)) JournalRefusal → Type 0
reads_as version place bytes result = journal_scan raw_format (limits_of version) bytes place ≡ result

-- The reading of a journal.
abbrev pub reading : List (List ℕ) → ℕ → Bool → ℕ → Result (Reading (List ℕ)) JournalRefusal
reading commands tail sealed place = Ok (record { commands = commands; tail = tail; sealed = sealed; place = place })
