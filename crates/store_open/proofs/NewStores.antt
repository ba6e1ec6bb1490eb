-- A new store is a formatted one, for any databases and commands.
use Rattle.std.proofs.Common.{◌≡◌, ℕ, ◌+◌, List, [], ◌++◌, length, take, get_or, sym, ◌∙◌, ap, arith}
use Rattle.std.proofs.lemmas.List.{take-take}
use Rattle.std.specs.Int.{w32, to_be_bytes}
use Rattle.byte_lists.specs.Content.{AreBytes}
use Rattle.byte_lists.specs.Sectors.{IsOpenGate, closed_gate}
use Rattle.store_layout.specs.declared.half.Half.TheVariants.{First}
use Rattle.store_layout.specs.Layout.{Geometry, area_of}
use Rattle.store_layout.specs.Checkpoint.{checkpoint_head_encoding, first_checkpoint, IsCheckpoint, CanBeCheckpoint}
use Rattle.store_layout.specs.StoreFormat.{StoreFormat}
use Rattle.store_open.specs.NewStore.{first_head, IsNewStore, IsEmptyStore, IsFormattedInAny}
use Rattle.store_layout.specs.Limits.{latest}
use Rattle.store_layout.proofs.TakeOver.{opens_empty}
use Rattle.row_map.specs.Database.{RowView}
use Rattle.path_db.specs.declared.command.Command.{Command}
use Rattle.store_open.specs.PathStores.{store_format}

-- a closed gate is not open
closed : (sector : List ℕ) → sector ≡ closed_gate → IsOpenGate sector → ⊥
closed sector is opened = omega (arith, ap (λ (list : List ℕ). get_or list 0 0) is, opened)

no_bytes : AreBytes []
no_bytes i = omega arith

module _ {Db C : Type 0} (format : StoreFormat Db C) where
  -- the empty database has no bytes and no rows
  no_row_bytes : format.rows.encoding format.empty ≡ []
  no_row_bytes = format.rows.spelled 0 [] format.empty no_bytes format.none

  no_rows : format.rows.count format.empty ≡ 0
  no_rows = format.rows.counted 0 [] format.empty no_bytes format.none

  can : CanBeCheckpoint format.rows (first_checkpoint format latest)
  can = record {
    head = record { some = omega arith; version = omega arith; epoch = omega arith; place = omega arith };
    size = omega (arith, ap length no_row_bytes);
    count = omega (arith, no_rows);
    storable = (λ i. format.rows.decoding (no_rows i) (no_row_bytes i)) ∙ format.none;
  }

  begins : (geometry : Geometry) (image : List ℕ) → IsNewStore geometry image → IsCheckpoint format.rows (area_of geometry First image) (first_checkpoint format latest)
  begins geometry image is = record {
    can = can;
    spelled =
        ap (λ (bytes : List ℕ). take (32 + length bytes) (area_of geometry First image)) no_row_bytes
        ∙ sym (take-take 32 512 (area_of geometry First image) (omega arith)) ∙ ap (take 32) is.begins
        ∙ sym (λ i. checkpoint_head_encoding first_head ++ (to_be_bytes w32 (length (no_row_bytes i)) ++ (to_be_bytes w32 (no_rows i) ++ no_row_bytes i)));
  }

pub formatted_in_any : (Db C : Type 0) → IsFormattedInAny Db C
formatted_in_any Db C format geometry image is = record {
  store = is.store;
  gate = ap (λ (list : List ℕ). get_or list 0 0) is.gate;
  begins = begins format geometry image is;
  journal = closed _ is.journal;
  second = closed _ is.second_gate;
}

-- so it opens to no rows
pub empty_store : (geometry : Geometry) (image : List ℕ) → IsNewStore geometry image → IsEmptyStore geometry image
empty_store geometry image is = record {
  new = is;
  opens = opens_empty (List RowView) Command store_format latest latest geometry image (omega arith) (formatted_in_any (List RowView) Command store_format geometry image is);
}
