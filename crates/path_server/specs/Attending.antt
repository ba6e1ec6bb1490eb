-- What a session of a hub has read, answered and sent when it ends.
use Rattle.std.specs.Prelude.{◌≡◌, ◌&&◌, ◌++◌, ℕ, Bool, List, Option, Result}
use Rattle.path_db.specs.declared.command.Command.{Command}
use Rattle.row_map.specs.Database.{RowView}
use Rattle.store_layout.specs.Journal.{all_of}
use Rattle.store_layout.specs.Opening.{StoreValue}
use Rattle.group_core.specs.declared.submit_error.SubmitError.{SubmitError}
use Rattle.command_log.specs.declared.rule.Claim.{Claim}
use Rattle.command_queue.specs.Handed.{Handed}
use Rattle.seg_check.specs.Signatures.{Verdicts}
use Rattle.seg_lookup.specs.Roster.{RosterView}
use Rattle.session_core.specs.declared.error.FrameError.{FrameError}
use Rattle.session_core.specs.declared.message_kinds.Kinds.{Kinds}
use Rattle.session_core.specs.declared.source.TheConstants.{MOST_READS}
use Rattle.session_core.specs.HandedIn.{HandsInFromSource}
use Rattle.server_front.specs.declared.role.Role.{Role}
use Rattle.server_front.specs.Roles.{takes_commands}
use Rattle.hub_readers.specs.Sight.{Sight}
use Rattle.path_session.specs.Serving.{Serving, beginning}
use Rattle.path_session.specs.Answered.{HubAnswers}
use Rattle.path_session.specs.Acknowledged.{AreClaimed}
use Rattle.path_session.specs.Sending.{HandsInAtMost}
use Rattle.session_limits.specs.Limits.{LimitedView, LimitedAnswers}
use Rattle.paced_stream.specs.Connection.{IsConnectionServed}

-- The commands of a role's sessions need room, where room is shared.
abbrev pub shares_room : Role → Bool → Bool
shares_room role shared = takes_commands role && shared

-- A limited service over a hub that has answered no message, by the bound of its times, whether its
-- commands need room, and whether they are taken.
abbrev pub limited_beginning : Option ℕ → Bool → Bool → Serving → LimitedView Serving
limited_beginning future shares commands serving = record { future = future; shares = shares; commands = commands; moment = 0; inner = serving }

-- A limited service over a hub served a session over a connection, of messages of these kinds. The
-- hub opened with this value. It is known for which reasons its commands were refused, and whether a
-- reader's seat was not let in.
pub record IsHubServed {T : Type 0} (kinds : Kinds) (opening : StoreValue (List RowView)) (refused : Command → Option SubmitError → Bool) (shut : Bool) (given taken : T → List ℕ) (is_at_end : T → Type 0) (future : Option ℕ) (shares commands : Bool) (roster : RosterView) (verifies : Verdicts) (left : Bool)
    (input input_left output output_left : T) (result : Result ℕ FrameError) (claims : List Claim) (look : List Command) : Type 0 where
  -- The reader by which the service began.
  pub reader : Sight
  -- The service after the last message.
  pub last : LimitedView Serving
  -- The messages that the connection gave, the replies to them, and the bytes that it took.
  pub connection : IsConnectionServed kinds (LimitedAnswers (HubAnswers opening refused shut)) given taken is_at_end
      (limited_beginning future shares commands (beginning roster verifies reader left)) last input input_left output output_left result
  -- The claims are those of the acknowledgements among the replies: each is of its message's
  -- command, at its place.
  pub acknowledged : AreClaimed opening connection.served.exchanges claims
  -- The look is at all commands after which the last lookup or list was answered.
  pub looked : look ≡ all_of last.inner.groups

-- A sender handed in at most the command of each message that a connection gave, once and in the
-- order of the messages, and nothing else.
abbrev pub HandsInCommands : {T : Type 0} → Kinds → (T → List ℕ) → T → T → Handed → Handed → Type 0
HandsInCommands kinds given input input_left =
    HandsInFromSource kinds (λ old message new. HandsInAtMost message old new) (λ old bytes new. given new ≡ given old ++ bytes) MOST_READS input input_left
