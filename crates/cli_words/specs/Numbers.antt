-- Numbers among the options of a command that was met.
use Rattle.std.specs.Prelude.{List, codes, IfSome}
use Rattle.std.specs.List.{AllPass}
use Rattle.clap.specs.Lexer.{is_digit}
use Rattle.clap.specs.Words.{Row, Text, first_of}

-- The value of an option, where it has one, is decimal digits alone.
abbrev pub IsPlainNumber : List Row → Text → Type 0
IsPlainNumber rows name = IfSome (first_of name rows) (AllPass is_digit)

-- Each option whose value is a number has such a value, where it has one.
pub record HasPlainNumbers (rows : List Row) : Type 0 where
  pub now : IsPlainNumber rows (codes "now")
  pub checkpoint : IsPlainNumber rows (codes "checkpoint")
  pub journal : IsPlainNumber rows (codes "journal")
  pub room : IsPlainNumber rows (codes "rows")
  pub sessions : IsPlainNumber rows (codes "sessions")
  pub peer_sessions : IsPlainNumber rows (codes "peer-sessions")
  pub idle : IsPlainNumber rows (codes "idle")
  pub leave : IsPlainNumber rows (codes "leave")
  pub future : IsPlainNumber rows (codes "future")
  pub spare : IsPlainNumber rows (codes "spare")
  pub lookup_seats : IsPlainNumber rows (codes "lookup-seats")
  pub purge : IsPlainNumber rows (codes "purge")
  pub purge_grace : IsPlainNumber rows (codes "purge-grace")
  pub grace : IsPlainNumber rows (codes "grace")
  pub final_status : IsPlainNumber rows (codes "final-status")
  pub timeout : IsPlainNumber rows (codes "timeout")
  pub wait : IsPlainNumber rows (codes "wait")
