-- What serving leaves of the file of a store: for `serve_site`.
use Rattle.std.proofs.Common.{◌≡◌, refl, Bool, IsTrue, Option, Some, IfSome, sym, ap, ◌∙◌, subst}
use Rattle.sector_dev.specs.Disk.{Disk, IsHonest, reads_of}
use Rattle.sector_dev.specs.FileDevice.{front, CoversImages}
use Rattle.sector_dev.specs.Image.{EveryImage, IsFromImage}
use Rattle.sector_dev.specs.PositionedFile.{FileState}
use Rattle.sector_dev.specs.Stretch.{Stretch}
use Rattle.store_open.specs.Open.{IsOpened, OpensAlike}
use Rattle.store_open.specs.Store.{StoreView}
use Rattle.group_core.specs.Starting.{value_of_store}
use Rattle.logged_state.specs.Kept.{AllClaimsKept, AllShownKept}
use Rattle.logged_state.specs.Left.{OpensToFrontOf, OpensToLog}
use Rattle.logged_state.specs.LeftView.{LeftView}
use Rattle.command_queue.specs.Orders.{QueuedView, commands_of, IsWithin, AreAllOf}
use Rattle.path_hub.specs.HubLeftView.{HubLeftView}
use Rattle.prefix_recovery.specs.servers.Survival.{ServerView}
use Rattle.cli_program.specs.Serving.{ServesFile}

-- the clauses of a server that has ended, over its trace
pub serves_file : (start : Disk) (store : StoreView) (left : LeftView) (queued : QueuedView) (file : FileState) (end : Disk)
    → (IsHonest start → IsOpened (reads_of start) store)
    → Stretch start store.disk (IsFromImage start.history.now OpensAlike)
    → Stretch store.disk end (OpensToFrontOf (value_of_store store) left.log.commands 0)
    → (IsHonest store.disk → AllClaimsKept (value_of_store store) left.log end.history left.acknowledged)
    → (IsHonest store.disk → AllShownKept (value_of_store store) left.log end.history left.looked)
    → IsWithin left.log.commands (commands_of queued.history)
    → AreAllOf queued.history queued.senders
    → (IsHonest end → EveryImage end.history.now (OpensToLog (value_of_store store) left.log))
    → end.is_honest ≡ file.is_honest
    → CoversImages file end
    → ServesFile start (record { start = store; left = left; end = end }) queued file end
serves_file start store left queued file end opened alike moments since looked within sent now same covers = record {
  opens = opened;
  alike = alike;
  served = record { moments = moments; since = since; looked = looked };
  ends = refl;
  within = within;
  sent = sent;
  leaves = λ honest content is. now (subst (λ (b : Bool). IsTrue b) (sym same) honest) (front end.sectors content) (covers honest content is);
}

-- the same of what a hub has left, if something is left: its parts, and the trace that is made of them
pub serves_left : (start : Disk) (store begun : StoreView) (found : HubLeftView) (some : Option HubLeftView) (left : LeftView) (queued : QueuedView) (trace : ServerView)
    (file : FileState) (end last : Disk)
    → some ≡ Some found
    → begun ≡ store
    → left ≡ (record { table = found.table; log = found.log; acknowledged = found.acknowledged; looked = found.looked })
    → queued ≡ (record { history = found.queued; senders = found.senders })
    → trace ≡ (record { start = begun; left = left; end = last })
    → last ≡ end
    → (IsHonest start → IsOpened (reads_of start) store)
    → Stretch start store.disk (IsFromImage start.history.now OpensAlike)
    → IfSome some (λ left. Stretch store.disk end (OpensToFrontOf (value_of_store store) left.log.commands 0))
    → IfSome some (λ left. IsHonest store.disk → AllClaimsKept (value_of_store store) left.log end.history left.acknowledged)
    → IfSome some (λ left. IsHonest store.disk → AllShownKept (value_of_store store) left.log end.history left.looked)
    → IfSome some (λ left. IsWithin left.log.commands (commands_of left.queued))
    → IfSome some (λ left. AreAllOf left.queued left.senders)
    → IfSome some (λ left. IsHonest end → EveryImage end.history.now (OpensToLog (value_of_store store) left.log))
    → end.is_honest ≡ file.is_honest
    → CoversImages file end
    → ServesFile start trace queued file end
serves_left start store begun found some left queued trace file end last is begins parts others made ends opened alike moments since looked within sent now same covers =
    let of_found : LeftView = record { table = found.table; log = found.log; acknowledged = found.acknowledged; looked = found.looked } in
    let of_queue : QueuedView = record { history = found.queued; senders = found.senders } in
    let whole : trace ≡ (record { start = store; left = of_found; end = end }) =
    made ∙ ap (λ s. record { start = s; left = left; end = last }) begins ∙ ap (λ l. record { start = store; left = l; end = last }) parts
    ∙ ap (λ d. record { start = store; left = of_found; end = d }) ends in
    subst (λ (t : ServerView). ServesFile start t queued file end) (sym whole)
    (subst (λ (q : QueuedView). ServesFile start (record { start = store; left = of_found; end = end }) q file end) (sym others)
    (serves_file start store of_found of_queue file end opened alike
    (subst (λ o. IfSome o (λ left. Stretch store.disk end (OpensToFrontOf (value_of_store store) left.log.commands 0))) is moments)
    (subst (λ o. IfSome o (λ left. IsHonest store.disk → AllClaimsKept (value_of_store store) left.log end.history left.acknowledged)) is since)
    (subst (λ o. IfSome o (λ left. IsHonest store.disk → AllShownKept (value_of_store store) left.log end.history left.looked)) is looked)
    (subst (λ o. IfSome o (λ left. IsWithin left.log.commands (commands_of left.queued))) is within)
    (subst (λ o. IfSome o (λ left. AreAllOf left.queued left.senders)) is sent)
    (subst (λ o. IfSome o (λ left. IsHonest end → EveryImage end.history.now (OpensToLog (value_of_store store) left.log))) is now)
    same covers))

-- what covers the images of a device covers those of the same device
pub covers_same : (file same : FileState) (end last : Disk) → file ≡ same → end ≡ last → CoversImages file end → CoversImages same last
covers_same file same end last is at covers = subst (λ (f : FileState). CoversImages f last) is (subst (λ (d : Disk). CoversImages file d) at covers)
