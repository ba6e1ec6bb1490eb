-- What contracts see of what a state has left.
use Rattle.std.specs.Prelude.{List}
use Rattle.atomic_table.specs.Seated.{TableId}
use Rattle.command_log.specs.declared.rule.Claim.{Claim}
use Rattle.path_db.specs.declared.command.Command.{Command}
use Rattle.command_log.specs.Log.{Log}

-- A log and claims of its commands.
pub record LeftView : Type 0 where
  -- The table of the log, which claims of it have too.
  pub table : TableId
  -- All commands that the state accepted.
  pub log : Log
  -- The claims of commands that were acknowledged, in the order in which they were handed in.
  pub acknowledged : List Claim
  -- The commands after which sessions looked last, in the order in which these were handed in.
  pub looked : List (List Command)
