-- The rows after a purge and after a removal: for `command_laws`.
use Rattle.std.proofs.Common.{◌≡◌, Bool, true, false, not, refl, sym, ap}
use Rattle.std.proofs.lemmas.Bool.{ltb-true, lt-ltb, false≢true}
use Rattle.seg_check.specs.Expiry.{expiry_of}
use Rattle.row_map.specs.Database.{key, is_under}
use Rattle.path_db.specs.Command.{database_after}
use Rattle.row_map.specs.Drops.{is_valid_beyond}
use Rattle.path_db.specs.CommandLaws.{PurgeLeavesValid, RemoveLeavesOthers}
use Rattle.row_map.proofs.Exports.{another_key, under_other}
use Rattle.path_db.proofs.Elements.{kept_passes, passing_kept}

pub purge_leaves_valid : PurgeLeavesValid
unfolding database_after
purge_leaves_valid rows moment row = (
  (λ found. let so = kept_passes (is_valid_beyond moment) rows row found in (so.0, ltb-true moment (expiry_of row.1) so.1)),
  (λ both. passing_kept (is_valid_beyond moment) rows row both.0 (lt-ltb moment (expiry_of row.1) both.1)),
)

not_false : (b : Bool) → not b ≡ true → b ≡ false
not_false true e = absurd (false≢true e)
not_false false e = refl

pub remove_leaves_others : RemoveLeavesOthers
unfolding database_after
remove_leaves_others rows kind id row = (
  (λ found.
      let so = kept_passes (λ r. not (is_under (key kind id) r)) rows row found in
      (so.0, λ same. another_key (key kind id) row (not_false (is_under (key kind id) row) so.1) (sym same))),
  (λ both. passing_kept (λ r. not (is_under (key kind id) r)) rows row both.0 (ap not (under_other (key kind id) row (is_under (key kind id) row) refl (λ same. both.1 (sym same))))),
)
