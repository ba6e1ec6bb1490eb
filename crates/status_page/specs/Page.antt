-- The page of a server's numbers, as tables of its rows.
use Rattle.std.specs.Prelude.{ℕ, List, [], ◌∷◌, ◌++◌, ◌==◌, Option, Some, None, codes}
use Rattle.std.specs.List.{concat, flat_map}
use Rattle.std.specs.Fmt.{decimal}
use Rattle.hex.specs.Hex.{encode_lower}
use Rattle.group_core.specs.declared.numbers.Numbers.{Numbers}
use Rattle.store_layout.specs.Limits.{latest}
use Rattle.store_loops.specs.declared.commits.CommitTimes.{CommitTimes}
use Rattle.status_page.specs.declared.build.TheConstants.{VERSION}
use Rattle.status_page.specs.declared.counts.Counts.{Counts}
use Rattle.status_page.specs.declared.counts.CallTime.{CallTime}
use Rattle.status_page.specs.declared.counts.CodeCount.{CodeCount}
use Rattle.status_page.specs.declared.counts.LookupTimes.{LookupTimes}
use Rattle.status_page.specs.declared.counts.Usage.{Usage}
use Rattle.status_page.specs.declared.lines.Kind.TheVariants.{Gauge, Counter}
use Rattle.status_page.specs.declared.lines.Value.TheVariants.{Number, Time, TimeIf, Truth}
use Rattle.status_page.specs.declared.names.TheConstants.{ROWS, ROWS_HELP, ROWS_BY_TYPE, ROWS_BY_TYPE_HELP, ROW_BYTES, ROW_BYTES_HELP, MOST_BYTES, MOST_BYTES_HELP, COMMANDS, COMMANDS_HELP, PENDING, PENDING_HELP, STOPPED, STOPPED_HELP, EPOCH, EPOCH_HELP, FORMAT, FORMAT_HELP, SEALED, SEALED_HELP, JOURNAL, JOURNAL_HELP, JOURNAL_USED, JOURNAL_USED_HELP, FLUSHER, FLUSHER_HELP, CHECKPOINTER, CHECKPOINTER_HELP, CALLS, CALLS_HELP, GROUPS, GROUPS_HELP, SEALS, SEALS_HELP, CHECKPOINTS, CHECKPOINTS_HELP, CHECKPOINT_TIME, CHECKPOINT_TIME_HELP, WAITS, WAITS_HELP, COMMITS, COMMITS_HELP, SESSIONS, SESSIONS_HELP, STARTED, STARTED_HELP, REFUSED, REFUSED_HELP, ENDS, ENDS_HELP, REPLIES, REPLIES_HELP, OUTCOMES, OUTCOMES_HELP, PURGES_RESTING, PURGES_RESTING_HELP, OWN_PURGED, OWN_PURGED_HELP, LOOKUPS, LOOKUPS_HELP, DROPPED, DROPPED_HELP, UPTIME, UPTIME_HELP, BEGUN, BEGUN_HELP, MEMORY, MEMORY_HELP, PROCESSOR, PROCESSOR_HELP, OPEN_FILES, OPEN_FILES_HELP, MOST_FILES, MOST_FILES_HELP, BUILD, BUILD_HELP, REFUSALS, REFUSALS_HELP}
use Rattle.status_page.specs.Calls.{call_number}
use Rattle.status_page.specs.Phases.{flush_number, check_number}
use Rattle.status_page.specs.Lines.{heading, labelled}
use Rattle.status_page.specs.Rows.{plain}
use Rattle.status_page.specs.Histogram.{histogram}

-- The lines of a store's numbers.
unfoldable pub store_lines : Numbers → List ℕ
store_lines numbers = concat (
    plain ROWS.now Gauge ROWS_HELP.now (Number numbers.rows)
    ∷ heading ROWS_BY_TYPE.now Gauge ROWS_BY_TYPE_HELP.now
    ∷ labelled ROWS_BY_TYPE.now (codes "type=\"up\"") (Number numbers.up)
    ∷ labelled ROWS_BY_TYPE.now (codes "type=\"core\"") (Number numbers.core)
    ∷ labelled ROWS_BY_TYPE.now (codes "type=\"down\"") (Number numbers.down)
    ∷ plain ROW_BYTES.now Gauge ROW_BYTES_HELP.now (Number numbers.bytes)
    ∷ plain MOST_BYTES.now Gauge MOST_BYTES_HELP.now (Number numbers.most_bytes)
    ∷ plain COMMANDS.now Counter COMMANDS_HELP.now (Number numbers.place)
    ∷ plain PENDING.now Gauge PENDING_HELP.now (Number numbers.pending)
    ∷ plain STOPPED.now Gauge STOPPED_HELP.now (Truth numbers.stopped)
    ∷ plain EPOCH.now Gauge EPOCH_HELP.now (Number numbers.epoch)
    ∷ plain FORMAT.now Gauge FORMAT_HELP.now (Number numbers.version)
    ∷ plain SEALED.now Gauge SEALED_HELP.now (Truth numbers.sealed)
    ∷ plain JOURNAL.now Gauge JOURNAL_HELP.now (Number numbers.journal_sectors)
    ∷ plain JOURNAL_USED.now Gauge JOURNAL_USED_HELP.now (Number numbers.journal_used)
    ∷ [])

-- The lines of the flusher's phases: 1 for the one that has this number, and 0 for each other.
unfoldable pub flush_lines : ℕ → List ℕ
flush_lines now = concat (
    heading FLUSHER.now Gauge FLUSHER_HELP.now
    ∷ labelled FLUSHER.now (codes "phase=\"resting\"") (Truth (now == 0))
    ∷ labelled FLUSHER.now (codes "phase=\"staged\"") (Truth (now == 1))
    ∷ labelled FLUSHER.now (codes "phase=\"written\"") (Truth (now == 2))
    ∷ labelled FLUSHER.now (codes "phase=\"stable\"") (Truth (now == 3))
    ∷ labelled FLUSHER.now (codes "phase=\"opened\"") (Truth (now == 4))
    ∷ labelled FLUSHER.now (codes "phase=\"doubtful\"") (Truth (now == 5))
    ∷ labelled FLUSHER.now (codes "phase=\"durable\"") (Truth (now == 6))
    ∷ labelled FLUSHER.now (codes "phase=\"following\"") (Truth (now == 7))
    ∷ labelled FLUSHER.now (codes "phase=\"followed\"") (Truth (now == 8))
    ∷ labelled FLUSHER.now (codes "phase=\"durable_followed\"") (Truth (now == 9))
    ∷ [])

-- The lines of the checkpointer's phases: 1 for the one that has this number, and 0 for each other.
unfoldable pub check_lines : ℕ → List ℕ
check_lines now = concat (
    heading CHECKPOINTER.now Gauge CHECKPOINTER_HELP.now
    ∷ labelled CHECKPOINTER.now (codes "phase=\"ready\"") (Truth (now == 0))
    ∷ labelled CHECKPOINTER.now (codes "phase=\"sealed\"") (Truth (now == 1))
    ∷ labelled CHECKPOINTER.now (codes "phase=\"planned\"") (Truth (now == 2))
    ∷ labelled CHECKPOINTER.now (codes "phase=\"laid\"") (Truth (now == 3))
    ∷ labelled CHECKPOINTER.now (codes "phase=\"switched\"") (Truth (now == 4))
    ∷ labelled CHECKPOINTER.now (codes "phase=\"switch_failed\"") (Truth (now == 5))
    ∷ labelled CHECKPOINTER.now (codes "phase=\"live\"") (Truth (now == 6))
    ∷ labelled CHECKPOINTER.now (codes "phase=\"closing\"") (Truth (now == 7))
    ∷ labelled CHECKPOINTER.now (codes "phase=\"close_failed\"") (Truth (now == 8))
    ∷ [])

-- The lines of a store's numbers, and of the phases of its two actors.
unfoldable pub store_text : Numbers → List ℕ
store_text numbers =
    store_lines numbers ++ (flush_lines (flush_number numbers.flush) ++ check_lines (check_number numbers.check))

-- The lines of all calls: the time of the one that has this number, and 0 for each other.
unfoldable pub call_lines : ℕ → ℕ → List ℕ
call_lines now time = concat (
    heading CALLS.now Gauge CALLS_HELP.now
    ∷ labelled CALLS.now (codes "call=\"write_group\"") (TimeIf (now == 1) time)
    ∷ labelled CALLS.now (codes "call=\"sync_group\"") (TimeIf (now == 2) time)
    ∷ labelled CALLS.now (codes "call=\"open_gate\"") (TimeIf (now == 3) time)
    ∷ labelled CALLS.now (codes "call=\"sync_gate\"") (TimeIf (now == 4) time)
    ∷ labelled CALLS.now (codes "call=\"begin\"") (TimeIf (now == 5) time)
    ∷ labelled CALLS.now (codes "call=\"write_chunk\"") (TimeIf (now == 6) time)
    ∷ labelled CALLS.now (codes "call=\"sync_chunks\"") (TimeIf (now == 7) time)
    ∷ labelled CALLS.now (codes "call=\"open_half\"") (TimeIf (now == 8) time)
    ∷ labelled CALLS.now (codes "call=\"sync_half\"") (TimeIf (now == 9) time)
    ∷ labelled CALLS.now (codes "call=\"close_half\"") (TimeIf (now == 10) time)
    ∷ labelled CALLS.now (codes "call=\"sync_close\"") (TimeIf (now == 11) time)
    ∷ labelled CALLS.now (codes "call=\"write_following\"") (TimeIf (now == 12) time)
    ∷ labelled CALLS.now (codes "call=\"sync_followed\"") (TimeIf (now == 13) time)
    ∷ [])

-- The lines of all calls, of which one or none is under way.
abbrev pub call_text : Option CallTime → List ℕ
call_text None = call_lines 0 0
call_text (Some time) = call_lines (call_number time.call) time.microseconds

-- The lines of what both actors have done, and whether they wait for memory.
unfoldable pub actor_lines : Counts → List ℕ
actor_lines counts = concat (
    plain GROUPS.now Counter GROUPS_HELP.now (Number counts.groups)
    ∷ plain SEALS.now Counter SEALS_HELP.now (Number counts.seals)
    ∷ plain CHECKPOINTS.now Counter CHECKPOINTS_HELP.now (Number counts.checkpoints)
    ∷ plain CHECKPOINT_TIME.now Counter CHECKPOINT_TIME_HELP.now (Time counts.checkpoint_time)
    ∷ heading WAITS.now Gauge WAITS_HELP.now
    ∷ labelled WAITS.now (codes "actor=\"flusher\"") (Truth counts.waits.flusher)
    ∷ labelled WAITS.now (codes "actor=\"checkpointer\"") (Truth counts.waits.checkpointer)
    ∷ [])

-- The lines of how long commits took.
unfoldable pub commit_text : CommitTimes → List ℕ
commit_text times = histogram COMMITS.now COMMITS_HELP.now times.buckets times.count times.microseconds

-- The lines of the sessions.
unfoldable pub session_lines : Counts → List ℕ
session_lines counts = concat (
    plain SESSIONS.now Gauge SESSIONS_HELP.now (Number counts.sessions)
    ∷ plain STARTED.now Counter STARTED_HELP.now (Number counts.started)
    ∷ heading REFUSED.now Counter REFUSED_HELP.now
    ∷ labelled REFUSED.now (codes "reason=\"seats\"") (Number counts.refused.seats)
    ∷ labelled REFUSED.now (codes "reason=\"address\"") (Number counts.refused.address)
    ∷ labelled REFUSED.now (codes "reason=\"thread\"") (Number counts.refused.thread)
    ∷ heading ENDS.now Counter ENDS_HELP.now
    ∷ labelled ENDS.now (codes "cause=\"closed\"") (Number counts.ended.closed)
    ∷ labelled ENDS.now (codes "cause=\"idle\"") (Number counts.ended.idle)
    ∷ labelled ENDS.now (codes "cause=\"frame\"") (Number counts.ended.frame)
    ∷ labelled ENDS.now (codes "cause=\"connection\"") (Number counts.ended.connection)
    ∷ labelled ENDS.now (codes "cause=\"memory\"") (Number counts.ended.memory)
    ∷ labelled ENDS.now (codes "cause=\"server\"") (Number counts.ended.server)
    ∷ [])

-- The lines of the replies by their kinds, except refusals, and of what acknowledged commands did.
unfoldable pub reply_lines : Counts → List ℕ
reply_lines counts = concat (
    heading REPLIES.now Counter REPLIES_HELP.now
    ∷ labelled REPLIES.now (codes "kind=\"found\"") (Number counts.found)
    ∷ labelled REPLIES.now (codes "kind=\"listed\"") (Number counts.listed)
    ∷ labelled REPLIES.now (codes "kind=\"registered\"") (Number counts.registered)
    ∷ labelled REPLIES.now (codes "kind=\"purged\"") (Number counts.purged)
    ∷ labelled REPLIES.now (codes "kind=\"removed\"") (Number counts.removed)
    ∷ heading OUTCOMES.now Counter OUTCOMES_HELP.now
    ∷ labelled OUTCOMES.now (codes "outcome=\"inserted\"") (Number counts.outcomes.inserted)
    ∷ labelled OUTCOMES.now (codes "outcome=\"updated\"") (Number counts.outcomes.updated)
    ∷ labelled OUTCOMES.now (codes "outcome=\"kept\"") (Number counts.outcomes.kept)
    ∷ labelled OUTCOMES.now (codes "outcome=\"removed\"") (Number counts.outcomes.removed)
    ∷ [])

-- The lines of the server's own purges: whether they rest, and the rows that they have dropped.
unfoldable pub own_purge_lines : Counts → List ℕ
own_purge_lines counts = concat (
    plain PURGES_RESTING.now Gauge PURGES_RESTING_HELP.now (Truth counts.own_purges.resting)
    ∷ plain OWN_PURGED.now Counter OWN_PURGED_HELP.now (Number counts.own_purges.rows)
    ∷ [])

-- The lines of how long lookups took.
unfoldable pub lookup_text : LookupTimes → List ℕ
lookup_text times = histogram LOOKUPS.now LOOKUPS_HELP.now times.buckets times.count times.microseconds

-- The lines of what was replied, and of the server's own purges.
unfoldable pub answer_text : Counts → List ℕ
answer_text counts = reply_lines counts ++ (own_purge_lines counts ++ lookup_text counts.lookups)

-- The lines of the notices that were dropped, how long the process has run, and when it began.
unfoldable pub age_lines : Counts → List ℕ
age_lines counts = concat (
    plain DROPPED.now Counter DROPPED_HELP.now (Number counts.dropped)
    ∷ plain UPTIME.now Gauge UPTIME_HELP.now (Number counts.seconds)
    ∷ plain BEGUN.now Gauge BEGUN_HELP.now (Number counts.begun)
    ∷ [])

-- The lines of what the process uses.
unfoldable pub usage_lines : Usage → List ℕ
usage_lines usage = concat (
    plain MEMORY.now Gauge MEMORY_HELP.now (Number usage.memory)
    ∷ plain PROCESSOR.now Counter PROCESSOR_HELP.now (Time usage.processor)
    ∷ plain OPEN_FILES.now Gauge OPEN_FILES_HELP.now (Number usage.open_files)
    ∷ plain MOST_FILES.now Gauge MOST_FILES_HELP.now (Number usage.most_files)
    ∷ [])

-- The lines of what the process uses, or none where that is not known.
abbrev pub usage_text : Option Usage → List ℕ
usage_text None = []
usage_text (Some usage) = usage_lines usage

-- The version of the program, and the greatest version of the format.
unfoldable pub build_label : List ℕ → List ℕ
build_label version = codes "version=\"" ++ (version ++ (codes "\",format=\"" ++ (decimal latest ++ codes "\"")))

-- The lines of the program of this version.
unfoldable pub build_text : List ℕ → List ℕ
build_text version = heading BUILD.now Gauge BUILD_HELP.now ++ labelled BUILD.now (build_label version) (Number 1)

-- The lines of the process.
unfoldable pub process_text : Counts → List ℕ
process_text counts = age_lines counts ++ (usage_text counts.usage ++ build_text VERSION.now)

-- The lines of what the server has done.
unfoldable pub work_text : Counts → List ℕ
work_text counts =
    actor_lines counts ++ (commit_text counts.commits ++ (session_lines counts ++ (answer_text counts ++ process_text counts)))

-- The label with a code, in hexadecimal digits.
unfoldable pub refusal_label : ℕ → List ℕ
refusal_label code = codes "code=\"" ++ (encode_lower (code ∷ []) ++ codes "\"")

-- The line of the refusals with one code.
unfoldable pub refusal_line : CodeCount → List ℕ
refusal_line refusal = labelled REFUSALS.now (refusal_label refusal.code) (Number refusal.count)

-- The lines of the refusals by their codes.
unfoldable pub refusals_text : List CodeCount → List ℕ
refusals_text counted = heading REFUSALS.now Counter REFUSALS_HELP.now ++ flat_map refusal_line counted

-- The page: the numbers of a state, the call of its device that is under way, what the server has
-- done, and how many messages it refused with which codes.
abbrev pub page_text : Numbers → Counts → List CodeCount → List ℕ
page_text numbers counts refused =
    store_text numbers ++ (call_text counts.call ++ (work_text counts ++ refusals_text refused))
