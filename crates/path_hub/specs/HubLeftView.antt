-- What contracts see of what a hub leaves.
use Rattle.std.specs.Prelude.{List}
use Rattle.atomic_table.specs.Seated.{TableId}
use Rattle.path_db.specs.declared.command.Command.{Command}
use Rattle.command_log.specs.Log.{Log}
use Rattle.command_log.specs.declared.rule.Claim.{Claim}
use Rattle.command_queue.specs.declared.ghosts.rule.SenderList.{SenderList}
use Rattle.command_queue.specs.declared.ghosts.rule.SentCommand.{SentCommand}

-- What a hub leaves.
pub record HubLeftView : Type 0 where
  -- The table of its state's log.
  pub table : TableId
  -- The log of its state.
  pub log : Log
  -- The commands whose claims were handed in as acknowledged.
  pub acknowledged : List Claim
  -- For each look that was handed in, the commands that were shown.
  pub looked : List (List Command)
  -- All commands that were handed in at its queue, with the numbers of their senders.
  pub queued : List SentCommand
  -- What each sender handed in that was given back.
  pub senders : List SenderList
