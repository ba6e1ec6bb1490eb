use Rattle.std.proofs.Common.{rules, arith, ◌≡◌, ℕ, ◌+◌, ◌-◌, true, take, drop, ap, subst}
use Rattle.std.proofs.lemmas.Result.{IfErr-weaker}
use Rattle.byte_lists.specs.Content.{part}
use Rattle.store_layout.specs.Limits.{limits_of}
use Rattle.store_layout.specs.GroupReading.{are_zeros}
use Rattle.gate_journal.specs.declared.error.JournalError.{JournalError}
use Rattle.gate_journal.specs.Reading.{padding_of, FirstWantsMemory}
use Rattle.gate_journal.proofs.records.read_payload.Goals as goal

-- all is well after the records, where they are read
pub returns-clause-memory : goal.returns-clause-memory
returns-clause-memory c =
    let padding : are_zeros (padding_of c.args.size c.args.payload.now) ≡ true = search rules in
    let records : take (16 + c.args.size - 16) (drop 16 c.args.payload.now) ≡ part 16 c.args.size c.args.payload.now =
    ap (λ (n : ℕ). take n (drop 16 c.args.payload.now)) (omega arith) in
    IfErr-weaker c.read_records.result _ _ (λ (e : JournalError) wants same. record {
      padding = padding;
      first = subst (FirstWantsMemory (limits_of c.args.version)) records (wants same);
    }) c.read_records.ensures.memory
