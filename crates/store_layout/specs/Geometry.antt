-- The sizes of a store, as the definitions of its layout take them.
use Rattle.store_layout.specs.Layout as laws
use Rattle.store_layout.specs.declared.geometry.Geometry.{Geometry}

-- Both sizes of a store, in sectors, as contracts see them.
abbrev pub geometry_view : Geometry → laws.Geometry
geometry_view geometry = record { checkpoint = geometry.checkpoint; journal = geometry.journal }
