use Rattle.std.proofs.Common.{rules, arith, ◌≡◌, ◌+◌, ◌-◌, [], ◌∷◌, ◌++◌, None, Err}
use Rattle.store_layout.specs.Limits.{limits_of}
use Rattle.store_layout.specs.GroupReading.{first_command, commands_in}
use Rattle.store_layout.specs.GroupReading.{BadRecord as IsBadRecord}
use Rattle.gate_journal.specs.declared.error.JournalError.{JournalError}
use Rattle.gate_journal.specs.Commands.{command_format}
use Rattle.gate_journal.specs.Reading.{Refuses, found_in_records, FirstWantsMemory}
use Rattle.gate_journal.proofs.Found.{record_next, record_bad, bad_appended, record_refused, first_or}
use Rattle.gate_journal.proofs.records.read_records.Goals as goal

pub returns-in_err-command-clause-reading : goal.returns-in_err-command-clause-reading
returns-in_err-command-clause-reading c =
    let first = first_command command_format (limits_of c.args.version) c.loop.rest.now in
    let all = commands_in command_format (limits_of c.args.version) c.args.count c.args.bytes.now in
    let bad : first ≡ None → found_in_records all ≡ Err IsBadRecord =
    λ none. bad_appended c.args.commands.now.items all
    (record_bad (limits_of c.args.version) _ c.loop.commands.items (c.args.count - c.loop.counter) (c.args.count - (c.loop.counter + 1)) c.loop.rest.now (omega arith) none c.loop.invariant.reading) in
    let refused : (e : JournalError) → Refuses e (found_in_records first) → Refuses e (found_in_records all) = λ e is. record_refused e first all is bad in
    search (rules, refused)

pub loop-preserved : goal.loop-preserved
loop-preserved c =
    let pushed : c.push.new.self.items ≡ c.loop.commands.items ++ c.in_ok-command.command ∷ [] = c.in_ok-push.ensures.items in
    record {
      reading = rw (pushed, c.in_ok-command.ensures.behind)
          (record_next (limits_of c.args.version) _ c.loop.commands.items (c.args.count - c.loop.counter) (c.args.count - (c.loop.counter + 1)) c.in_ok-command.command c.loop.rest.now
          (omega arith) c.in_ok-command.ensures.first c.loop.invariant.reading);
      first = λ none. absurd (omega (arith, none));
      wanted = λ some. first_or (FirstWantsMemory (limits_of c.args.version)) c.loop.counter c.loop.rest.now c.args.bytes.now c.loop.invariant.first c.loop.invariant.wanted
          c.in_ok-command.ensures.some;
    }
