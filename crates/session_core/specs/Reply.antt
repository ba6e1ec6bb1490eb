-- Replies, and their frames.
use Rattle.std.specs.Prelude.{ℕ, Bool, true, false, List, [], ◌∷◌, ◌++◌, ◌≤◌, length}
use Rattle.std.specs.Int.{w32, w64, to_be_bytes}
use Rattle.seg_core.specs.declared.seg_type.SegType.{SegType}
use Rattle.seg_core.specs.SegmentView.{SegmentView}
use Rattle.seg_core.specs.Registration.{typed_segments}
use Rattle.seg_core.specs.Encoding.{response_encoding}
use Rattle.session_core.specs.declared.service.Ack.{Ack}
use Rattle.hex.specs.Hex.{encode_lower}
use Rattle.session_core.specs.declared.reply.Form.{Form}
use Rattle.session_core.specs.declared.format.TheConstants.{MOST_REPLY}
use Rattle.session_core.specs.declared.reply.Form.TheVariants.{Frames, Lines}
use Rattle.session_core.specs.Frames.{frame_encoding}

-- A command's acknowledgement, a lookup's segments of one type, a page of them and whether more
-- follow, or the code of a refusal.
pub data ReplyView : Type 0 where
  Registered : (ack : Ack) → ReplyView
  Found : (kind : SegType) (segments : List SegmentView) → ReplyView
  Purged : (ack : Ack) → ReplyView
  Removed : (ack : Ack) → ReplyView
  Listed : (more : Bool) (kind : SegType) (segments : List SegmentView) → ReplyView
  Refused : (code : ℕ) → ReplyView

-- The bytes of an acknowledgement: the place in eight bytes, and four counts in four bytes each,
-- all big-endian.
abbrev pub ack_encoding : Ack → List ℕ
ack_encoding ack =
    to_be_bytes w64 ack.place
    ++ (to_be_bytes w32 ack.outcome.inserted
    ++ (to_be_bytes w32 ack.outcome.updated
    ++ (to_be_bytes w32 ack.outcome.kept ++ to_be_bytes w32 ack.outcome.purged)))

-- The byte that says whether more segments follow those of a page.
abbrev pub more_byte : Bool → ℕ
more_byte true = 1
more_byte false = 0

-- The content of a reply's frame: the kind, and the bytes that belong to it.
abbrev pub reply_content : ReplyView → List ℕ
reply_content (Registered ack) = 0x81 ∷ ack_encoding ack
reply_content (Found kind segments) = 0x82 ∷ response_encoding (typed_segments kind segments)
reply_content (Purged ack) = 0x83 ∷ ack_encoding ack
reply_content (Removed ack) = 0x84 ∷ ack_encoding ack
reply_content (Listed more kind segments) = 0x85 ∷ (more_byte more ∷ response_encoding (typed_segments kind segments))
reply_content (Refused code) = 0xff ∷ code ∷ []

-- The frame of a reply.
unfoldable pub reply_frame : ReplyView → List ℕ
reply_frame reply = frame_encoding (reply_content reply)

-- The bytes in which a reply is written: its frame, or a line of the frame's hexadecimal digits in
-- lower case.
abbrev pub told_as : Form → ReplyView → List ℕ
told_as Frames reply = reply_frame reply
told_as Lines reply = encode_lower (reply_frame reply) ++ 0x0a ∷ []

-- The reply fits into a frame.
abbrev pub HasReplySize : ReplyView → Type 0
HasReplySize reply = length (reply_content reply) ≤ MOST_REPLY
