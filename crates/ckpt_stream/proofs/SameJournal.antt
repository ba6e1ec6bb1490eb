-- A journal that is read up to a gate, as any other journal with the same contents.
use Rattle.std.proofs.Common.{◌≡◌, ℕ, ◌+◌, ◌*◌, ◌≤◌, true, List, [], ◌∷◌, ◌++◌, length, take, drop, Ok, refl, sym, ◌∙◌, ap, subst, arith, length-append}
use Rattle.std.proofs.lemmas.List.{take-take}
use Rattle.byte_lists.specs.Content.{part}
use Rattle.byte_lists.specs.Sectors.{whole_sectors, sector_at, IsOpenGate}
use Rattle.path_db.specs.declared.command.Command.{Command}
use Rattle.store_layout.specs.Limits.{Limits, limits_of}
use Rattle.store_layout.specs.Group.{group_sectors}
use Rattle.store_layout.specs.Journal.{IsGroupChain, JournalEndsAs, HasGroupAfterGate, HasSeal, all_of}
use Rattle.store_layout.specs.JournalReading.{journal_scan}
use Rattle.store_layout.proofs.Exports.{payload_group, payload_seal, journal_read}
use Rattle.gate_journal.specs.declared.scanner.Stage.{Stage}
use Rattle.gate_journal.specs.declared.scanner.Stage.TheVariants.{AtGate, AtHeader, AtPayload}
use Rattle.gate_journal.specs.Commands.{command_format}
use Rattle.gate_journal.specs.Reading.{header_reading}
use Rattle.gate_journal.specs.ScannerView.{ScannerView}
use Rattle.gate_journal.specs.Scanning.{IsKnown, IsReadUpTo}
use Rattle.ckpt_stream.specs.Preparation.{SealedContents, HasSealedJournal, sealed_reading}

-- one payload has one group, and is no seal
one_group : (bytes : List ℕ) (limits : Limits) (gate place : ℕ) (one other : List Command) → HasGroupAfterGate command_format limits bytes gate place one
    → HasGroupAfterGate command_format limits bytes gate place other → one ≡ other
one_group bytes limits gate place one other first second =
    let a = payload_group command_format limits bytes gate place one first in
    let b = payload_group command_format limits bytes gate place other second in
    cc

no_group : (bytes : List ℕ) (limits : Limits) (gate place : ℕ) (commands : List Command) → HasGroupAfterGate command_format limits bytes gate place commands → HasSeal bytes gate place → ⊥
no_group bytes limits gate place commands group seal =
    let a = payload_group command_format limits bytes gate place commands group in
    let b = payload_seal command_format limits bytes gate place seal in
    cc

-- the first sector after a gate
first_sector : (bytes : List ℕ) (gate n : ℕ) → 1 ≤ n → sector_at (gate + 1) bytes ≡ take 512 (part (512 * (gate + 1)) (512 * n) bytes)
first_sector bytes gate n some = sym (take-take 512 (512 * n) (drop (512 * (gate + 1)) bytes) (omega (arith, some)))

module _ (limits : Limits) (xs ys : List ℕ) (sectors : whole_sectors ys ≡ whole_sectors xs) where
  -- both have an open gate, and the same sector after it
  abbrev Alike : ℕ → Type 0
  Alike gate = IsOpenGate (sector_at gate ys) × (sector_at (gate + 1) ys ≡ sector_at (gate + 1) xs)

  abbrev Chain : List ℕ → ℕ → ℕ → List (List Command) → ℕ → Type 0
  Chain bytes gate place groups tail = IsGroupChain command_format limits bytes gate place groups tail

  abbrev Ends : List ℕ → ℕ → ℕ → List (List Command) → Type 0
  Ends bytes tail place groups = JournalEndsAs true bytes tail (place + length (all_of groups))

  group_alike : (gate place : ℕ) (commands : List Command) → HasGroupAfterGate command_format limits xs gate place commands → HasGroupAfterGate command_format limits ys gate place commands
      → sector_at (gate + 1) ys ≡ sector_at (gate + 1) xs
  group_alike gate place commands x y =
      first_sector ys gate (group_sectors command_format commands) (omega arith)
      ∙ ap (take 512) (y.group.spelled ∙ sym x.group.spelled)
      ∙ sym (first_sector xs gate (group_sectors command_format commands) (omega arith))

  alike : (gate place : ℕ) (groups : List (List Command)) (tail : ℕ) → Chain xs gate place groups tail → Ends xs tail place groups → Chain ys gate place groups tail → Ends ys tail place groups → Alike gate
  alike gate place [] tail x x_ends y y_ends =
      subst Alike (sym x) (y_ends.0, y_ends.1.seal.spelled ∙ sym x_ends.1.seal.spelled)
  alike gate place (commands ∷ more) tail x x_ends y y_ends = (y.0, group_alike gate place commands x.1 y.1)

  known : (stage : Stage) (gate place : ℕ) → Alike gate → IsKnown stage limits xs gate place → IsKnown stage limits ys gate place
  known AtGate gate place both is = tt
  known AtHeader gate place both is = both.0
  known (AtPayload count size) gate place both is = (both.0, (λ i. header_reading limits (both.1 i) gate place (sectors i)) ∙ is.1)

  -- the groups that were read are groups of the other journal too
  same_groups : (stage : Stage) (gate place : ℕ) (read groups : List (List Command)) (reached tail : ℕ)
      → Chain xs gate place groups tail → Ends xs tail place groups → Chain ys gate place groups tail → Ends ys tail place groups
      → Chain xs gate place read reached → IsKnown stage limits xs reached (place + length (all_of read))
      → Chain ys gate place read reached × IsKnown stage limits ys reached (place + length (all_of read))
  same_groups stage gate place [] groups reached tail x x_ends y y_ends chain is =
      (chain, known stage reached (place + 0) (subst Alike chain (alike gate place groups tail x x_ends y y_ends)) is)
  same_groups stage gate place (commands ∷ more) [] reached tail x x_ends y y_ends chain is =
      let here : place ≡ place + 0 = omega arith in
      absurd (no_group xs limits gate place commands chain.1
      (subst (λ (n : ℕ). HasSeal xs gate n) (sym here) (subst (λ (n : ℕ). HasSeal xs n (place + 0)) (sym x) x_ends.1)))
  same_groups stage gate place (commands ∷ more) (first ∷ rest) reached tail x x_ends y y_ends chain is =
      let same : first ≡ commands = one_group xs limits gate place first commands x.1 chain.1 in
      let x2 = subst (λ (l : List Command). Chain xs gate place (l ∷ rest) tail) same x in
      let y2 = subst (λ (l : List Command). Chain ys gate place (l ∷ rest) tail) same y in
      let on : place + length (first ++ all_of rest) ≡ place + length commands + length (all_of rest) = omega (arith, length-append first (all_of rest), ap length same) in
      let far : place + length (commands ++ all_of more) ≡ place + length commands + length (all_of more) = omega (arith, length-append commands (all_of more)) in
      let so = same_groups stage (gate + 1 + group_sectors command_format commands) (place + length commands) more rest reached tail x2.2
      (subst (λ (n : ℕ). JournalEndsAs true xs tail n) on x_ends) y2.2 (subst (λ (n : ℕ). JournalEndsAs true ys tail n) on y_ends) chain.2
      (subst (λ (n : ℕ). IsKnown stage limits xs reached n) far is) in
      ((y2.0, y2.1, so.0), subst (λ (n : ℕ). IsKnown stage limits ys reached n) (sym far) so.1)

-- A scanner has read up to its gate of each journal with these contents.
pub read_alike : (contents : SealedContents) (scanner : ScannerView) (xs ys : List ℕ) → scanner.version ≡ contents.checkpoint.head.version
    → HasSealedJournal contents xs → HasSealedJournal contents ys → whole_sectors ys ≡ whole_sectors xs
    → IsReadUpTo scanner xs contents.checkpoint.head.place → IsReadUpTo scanner ys contents.checkpoint.head.place
read_alike contents scanner xs ys version x y sectors read =
    let place = contents.checkpoint.head.place in
    let same : limits_of contents.checkpoint.head.version ≡ limits_of scanner.version = ap limits_of (sym version) in
    let chain_x = subst (λ (l : Limits). IsGroupChain command_format l xs 0 place contents.groups contents.gate) same x.chain in
    let chain_y = subst (λ (l : Limits). IsGroupChain command_format l ys 0 place contents.groups contents.gate) same y.chain in
    let so = same_groups (limits_of scanner.version) xs ys sectors scanner.stage 0 place read.groups contents.groups scanner.gate contents.gate chain_x x.ends chain_y y.ends read.chain
    (subst (λ (n : ℕ). IsKnown scanner.stage (limits_of scanner.version) xs scanner.gate n) read.place read.known) in
    record {
      size = sectors ∙ read.size;
      groups = read.groups;
      chain = so.0;
      commands = read.commands;
      place = read.place;
      known = subst (λ (n : ℕ). IsKnown scanner.stage (limits_of scanner.version) ys scanner.gate n) (sym read.place) so.1;
    }

-- and is read as these contents
pub scanned_as : (contents : SealedContents) (bytes : List ℕ) → HasSealedJournal contents bytes → 1 ≤ whole_sectors bytes
    → journal_scan command_format (limits_of contents.checkpoint.head.version) bytes contents.checkpoint.head.place ≡ Ok (sealed_reading contents)
scanned_as contents bytes has some =
    journal_read command_format (limits_of contents.checkpoint.head.version) bytes contents.checkpoint.head.place (sealed_reading contents) some
    (record { groups = contents.groups; chain = has.chain; commands = refl; place = refl; ends = has.ends })
