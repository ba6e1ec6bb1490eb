-- How far a piece is made.
use Rattle.std.proofs.Common.{◌≡◌, ◌+◌, ◌*◌, ◌<◌, ◌≤◌, ◌⊎◌, [], ◌∷◌, length}
use Rattle.byte_lists.specs.Content.{part}
use Rattle.sector_dev.specs.Disk.{IsHonest, reads_of}
use Rattle.sector_dev.specs.Calls.{Keeps}
use Rattle.ckpt_stream.specs.declared.plan.Edit.TheVariants.{Keep}
use Rattle.ckpt_stream.specs.Rewriting.{untaken, untaken_len, edits_end, left_to_keep}
use Rattle.ckpt_stream.specs.Making.{reads_left}
use Rattle.ckpt_stream.proofs.making.make_piece.Given as goal

-- The device is as it was, as many bytes are not taken as before, and making stopped for one of
-- these reasons.
abbrev pub invariant-pieces : goal.invariant-pieces
invariant-pieces g l = record {
  keeps : Keeps (g.D.Device.disk l.fn.device) (g.D.Device.disk l.device);
  faults : (g.D.Device.disk l.device).faults ≡ (g.D.Device.disk l.fn.device).faults;
  history : IsHonest (g.D.Device.disk l.fn.device) → (g.D.Device.disk l.device).history ≡ (g.D.Device.disk l.fn.device).history;
  window : length l.window ≡ 131072;
  end : edits_end l.rewrite ≡ l.fn.size;
  len : untaken_len l.rewrite ≡ untaken_len l.fn.rewrite;
  same : IsHonest (g.D.Device.disk l.fn.device) → untaken l.rewrite (part (512 * l.fn.area + 32) l.fn.size (reads_of (g.D.Device.disk l.fn.device)))
      ≡ untaken l.fn.rewrite (part (512 * l.fn.area + 32) l.fn.size (reads_of (g.D.Device.disk l.fn.device)));
  stopped : (131072 ≤ length l.rewrite.out) ⊎ ((l.rewrite.edits ≡ Keep 0 ∷ []) ⊎ (0 < left_to_keep l.rewrite));
}

abbrev pub decreases-pieces : goal.decreases-pieces
decreases-pieces g l = reads_left l.rewrite
