-- The encoding of the commands of a journal. A journal is defined for any format of commands that
-- satisfies these laws.
use Rattle.std.specs.Prelude.{◌≡◌, ℕ, List, Option, Some}
use Rattle.byte_lists.specs.Content.{AreBytes}
use Rattle.store_layout.specs.Limits.{Limits, AreAsLarge}

-- A format of commands.
pub record CommandFormat (C : Type 0) : Type 0 where
  -- The encoding of a command.
  pub encoding : C → List ℕ
  -- The command as which bytes are read under limits, if any.
  pub decoding : Limits → List ℕ → Option C
  -- The encoding of a command that is read is the bytes.
  pub spelled : (limits : Limits) (bytes : List ℕ) (command : C) → AreBytes bytes → decoding limits bytes ≡ Some command
      → encoding command ≡ bytes
  -- The bytes are read as the same command under larger limits.
  pub grows : (small large : Limits) (bytes : List ℕ) (command : C) → AreAsLarge small large → decoding small bytes ≡ Some command
      → decoding large bytes ≡ Some command

-- The limits allow a command: its encoding is read as the command under these limits.
abbrev pub IsAllowed : {C : Type 0} → CommandFormat C → Limits → C → Type 0
IsAllowed format limits command = format.decoding limits (format.encoding command) ≡ Some command
