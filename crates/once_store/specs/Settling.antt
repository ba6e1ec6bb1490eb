-- Committing what is held.
use Rattle.std.specs.Prelude.{◌≡◌, Some, None}
use Rattle.group_core.specs.StateView.{StateView}
use Rattle.once_store.specs.declared.committing.Held.{Held}
use Rattle.once_store.specs.OnceView.{once_view, IsLone}

-- Nothing is held any more, and the layer above sees no change.
pub record IsNothingHeld (old new : StateView) : Type 0 where
  pub lone : IsLone new None
  pub same : once_view new ≡ once_view old

-- The command is still held, and the layer above sees no change.
pub record IsUnsettled (held : Held) (old new : StateView) : Type 0 where
  pub lone : IsLone new (Some held)
  pub same : once_view new ≡ once_view old
