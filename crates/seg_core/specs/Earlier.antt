-- Which types have had an entry in a map.
use Rattle.std.specs.Prelude.{◌≡◌, List, Bool, true}
use Rattle.seg_core.specs.declared.earlier.Earlier.{Earlier}
use Rattle.seg_core.specs.declared.seg_type.SegType.{SegType}
use Rattle.seg_core.specs.declared.seg_type.SegType.TheVariants.{Up, Down, Core}
use Rattle.seg_core.specs.Registration.{MapEntry, has_type}

-- Whether a type has had an entry.
abbrev pub is_in : Earlier → SegType → Bool
is_in seen Up = seen.up
is_in seen Down = seen.down
is_in seen Core = seen.core

-- The types that have had an entry, and one more.
abbrev pub with_type : Earlier → SegType → Earlier
with_type seen Up = record seen { up = true }
with_type seen Down = record seen { down = true }
with_type seen Core = record seen { core = true }

-- The types that are noted are exactly those of these entries.
abbrev pub AreIn : List MapEntry → Earlier → Type 0
AreIn entries seen = (kind : SegType) → is_in seen kind ≡ has_type entries kind
