-- What is prepared of a sealed half.
use Rattle.std.proofs.Common.{◌≡◌, ◌*◌, ◌≤◌, inl, inr, Err, ℕ, List, length, sym, subst}
use Rattle.std.specs.Prelude.{Result, IfErr}
use Rattle.byte_lists.specs.Content.{AreBytes}
use Rattle.store_open.specs.declared.error.SealedError.{SealedError}
use Rattle.store_open.specs.declared.error.SealedError.TheVariants.{Damaged}
use Rattle.store_layout.specs.declared.half.Half.{Half}
use Rattle.store_layout.specs.Layout.{Geometry, IsGeometry, image_sectors}
use Rattle.ckpt_stream.specs.declared.half_read.HalfRead.{HalfRead}
use Rattle.ckpt_stream.specs.HalfRead.{IsHalfRead, IsWithin, IsReadOn}
use Rattle.ckpt_stream.specs.Preparation.{SealedContents, PreparationView, IsUnread, IsReadFrom, IsPreparedFrom, IsPreparedFor}
use Rattle.ckpt_stream.proofs.Contents.{read_on_half}

-- A preparation of which nothing is read is of any contents.
pub unread_from : (preparation : PreparationView) → IsUnread preparation → (geometry : Geometry) (contents : SealedContents) → IsPreparedFrom geometry contents preparation
unread_from preparation unread geometry contents = record {
  within = subst (λ (r : HalfRead). IsWithin geometry r) (sym unread) tt;
  from = subst (λ (r : HalfRead). IsReadFrom geometry contents r) (sym unread) tt;
}

-- What is prepared for a half is of the half as it is read.
pub prepared_on : (geometry : Geometry) (half : Half) (reads : List ℕ) → IsGeometry geometry → AreBytes reads → 512 * image_sectors geometry ≤ length reads
    → (preparation : PreparationView) → IsHalfRead preparation.read → IsPreparedFor geometry half reads preparation → IsReadOn geometry half reads preparation.read
prepared_on geometry half reads allowed each room preparation is (inl unread) = subst (λ (r : HalfRead). IsReadOn geometry half reads r) (sym unread) tt
prepared_on geometry half reads allowed each room preparation is (inr has) =
    read_on_half geometry half reads allowed each room has.contents has.has preparation.read is has.from.from

-- what an error says where it is that of a damaged half
pub if_damaged : {A : Type 0} (result : Result A SealedError) (e : SealedError) → result ≡ Err e → (P : Type 0) → (e ≡ Damaged → P) → IfErr result (λ x. x ≡ Damaged → P)
if_damaged {A} result e is P so = subst (λ (r : Result A SealedError). IfErr r (λ x. x ≡ Damaged → P)) (sym is) so
