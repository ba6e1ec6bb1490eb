-- The lengths of hops and of ids.
use Rattle.std.proofs.Common.{◌≡◌, ℕ, zero, suc, ◌*◌, List, length, refl, ◌∙◌, arith, length-append}
use Rattle.std.specs.Prelude.{slice_index}
use Rattle.std.specs.Int.{w32, to_be_bytes}
use Rattle.sha2.specs.Sha256.{digest_bytes, sha256}
use Rattle.pw_wire.specs.Decoding.{IsBytes}
use Rattle.seg_core.specs.SegmentView.{EntryView, SegmentView}
use Rattle.seg_core.proofs.Bytes.{bytes-nil, bytes-append}
use Rattle.seg_core.specs.Digest.{hop_bytes, segment_digest}

-- a hop has 12 bytes
pub hop-length : (e : EntryView) → length (hop_bytes e) ≡ 12
hop-length e = refl

digest_bytes-length : (h : List ℕ) (n : ℕ) → length (digest_bytes h n) ≡ 4 * n
unfolding digest_bytes
digest_bytes-length h zero = refl
digest_bytes-length h (suc n) = length-append (digest_bytes h n) _ ∙ omega (arith, digest_bytes-length h n)

word-bytes : (n : ℕ) → IsBytes (to_be_bytes w32 n)
word-bytes n zero = omega arith
word-bytes n (suc zero) = omega arith
word-bytes n (suc (suc zero)) = omega arith
word-bytes n (suc (suc (suc zero))) = omega arith
word-bytes n (suc (suc (suc (suc i)))) = omega arith

digest_bytes-IsBytes : (h : List ℕ) (n : ℕ) → IsBytes (digest_bytes h n)
unfolding digest_bytes
digest_bytes-IsBytes h zero = bytes-nil
digest_bytes-IsBytes h (suc n) = bytes-append (digest_bytes h n) _ (digest_bytes-IsBytes h n) (word-bytes (slice_index h n))

-- SHA-256 has 32 bytes
pub sha256-length : (message : List ℕ) → length (sha256 message) ≡ 32
unfolding sha256
sha256-length message = digest_bytes-length _ 8

pub sha256-IsBytes : (message : List ℕ) → IsBytes (sha256 message)
unfolding sha256
sha256-IsBytes message = digest_bytes-IsBytes _ 8

-- the id of a segment has 32 bytes
pub digest-length : (s : SegmentView) → length (segment_digest s) ≡ 32
unfolding segment_digest
digest-length s = sha256-length _

pub digest-IsBytes : (s : SegmentView) → IsBytes (segment_digest s)
unfolding segment_digest
digest-IsBytes s = sha256-IsBytes _
