-- A front that is refused, as the checkpoint that it begins.
use Rattle.std.proofs.Common.{ℕ, List}
use Rattle.row_map.specs.Database.{RowView}
use Rattle.store_layout.specs.declared.half.Half.{Half}
use Rattle.store_layout.specs.Checkpoint.{Checkpoint}
use Rattle.store_layout.specs.CheckpointReading.{checkpoint_in}
use Rattle.store_layout.specs.Layout.{Geometry, area_of}
use Rattle.ckpt_pair.specs.declared.error.PairError.{PairError}
use Rattle.store_layout.specs.Limits.{latest}
use Rattle.ckpt_pair.specs.Rows.{rows_format}
use Rattle.std.specs.Prelude.{Err}
use Rattle.store_open.specs.declared.error.OpenError.{OpenError}
use Rattle.store_open.specs.declared.error.OpenError.TheVariants.{NotAStore, Device, Pair, Journal, NoMemory}
use Rattle.store_open.specs.Refusals.{error_of_pair, PairSo}
use Rattle.ckpt_stream.specs.OldArea.{FrontSo}

no_checkpoint : {X : Type 0} (see : X → Checkpoint (List RowView)) (e : OpenError) (geometry : Geometry) (half : Half) (reads : List ℕ)
    → PairSo see (Err e) (checkpoint_in rows_format latest (area_of geometry half reads)) → FrontSo (Err e) geometry half reads
no_checkpoint see NotAStore geometry half reads so = so
no_checkpoint see Device geometry half reads so = tt
no_checkpoint see (Pair e) geometry half reads so = record { refusal = so.1.refusal; is = so.1.is }
no_checkpoint see (Journal e) geometry half reads so = so
no_checkpoint see NoMemory geometry half reads so = tt

-- the errors of a front
pub front_is_none : {X : Type 0} (see : X → Checkpoint (List RowView)) (e : PairError) (geometry : Geometry) (half : Half) (reads : List ℕ)
    → PairSo see (Err (error_of_pair e)) (checkpoint_in rows_format latest (area_of geometry half reads)) → FrontSo (Err (error_of_pair e)) geometry half reads
front_is_none see e geometry half reads so = no_checkpoint see (error_of_pair e) geometry half reads so
