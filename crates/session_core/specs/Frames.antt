-- A stream of frames. A frame is a length of four bytes, big-endian, and that number of bytes,
-- which are a kind and a body.
use Rattle.std.specs.Prelude.{◌≡◌, ℕ, ◌+◌, ◌^◌, ◌<◌, ◌≤◌, ◌⊎◌, List, [], ◌∷◌, ◌++◌, length, take, slice_index, Option, Some, None, IfSome}
use Rattle.std.specs.List.{flat_map, AllByRecursion}
use Rattle.std.specs.Int.{w32, w64, to_be_bytes, from_be_bytes}
use Rattle.session_core.specs.declared.message.Message.{Message}
use Rattle.session_core.specs.declared.list_request.ListRequest.{ListRequest}
use Rattle.session_core.specs.declared.message_kinds.Kinds.{Kinds}
use Rattle.session_core.specs.declared.message_kinds.Kinds.TheVariants.{Base, WithLists}
use Rattle.session_core.specs.declared.message.Message.TheVariants.{Register, Lookup, Purge, Remove}
use Rattle.session_core.specs.declared.message.Message.TheVariants as message
use Rattle.session_core.specs.declared.format.TheConstants.{MOST_LENGTH}

-- A message with the bytes of its body.
abbrev pub MessageView : Type 0
MessageView = Message (List ℕ)

-- The kind of a message, in one byte.
abbrev pub message_kind : MessageView → ℕ
message_kind (Register body) = 1
message_kind (Lookup body) = 2
message_kind (Purge moment) = 3
message_kind (Remove kind id) = 4
message_kind (message.List request) = 5

-- The bytes of the id after which a page begins, if there is one.
abbrev pub id_bytes : Option (List ℕ) → List ℕ
id_bytes None = []
id_bytes (Some id) = id

-- The body of a list: the number of the type, both sides, and the id if there is one.
abbrev pub list_body : ListRequest → List ℕ
list_body request = request.kind ∷ (to_be_bytes w64 request.start ++ (to_be_bytes w64 request.end ++ id_bytes request.after))

-- The body of a message.
abbrev pub message_body : MessageView → List ℕ
message_body (Register body) = body
message_body (Lookup body) = body
message_body (Purge moment) = to_be_bytes w64 moment
message_body (Remove kind id) = kind ∷ id
message_body (message.List request) = list_body request

-- The frame of a content: its length in four bytes, big-endian, and the content.
abbrev pub frame_encoding : List ℕ → List ℕ
frame_encoding content = to_be_bytes w32 (length content) ++ content

-- The frame of a message.
abbrev pub message_frame : MessageView → List ℕ
message_frame message = frame_encoding (message_kind message ∷ message_body message)

-- The length at the front of four bytes or more.
abbrev pub length_at : List ℕ → ℕ
length_at bytes = from_be_bytes w32 (take 4 bytes)

-- The kind at the front of five bytes or more.
abbrev pub frame_kind_at : List ℕ → ℕ
frame_kind_at bytes = slice_index bytes 4

-- The length is one that a frame may have.
abbrev pub IsFrameLength : ℕ → Type 0
IsFrameLength len = (1 ≤ len) × (len ≤ MOST_LENGTH)

-- The greatest kind of a message: 5 is that of lists.
abbrev pub greatest_kind : Kinds → ℕ
greatest_kind Base = 4
greatest_kind WithLists = 5

-- The kind is one that a message may have.
abbrev pub IsMessageKind : Kinds → ℕ → Type 0
IsMessageKind kinds kind = (1 ≤ kind) × (kind ≤ greatest_kind kinds)

-- The length is one that a list's frame may have: with an id, or without.
abbrev pub IsListLength : ℕ → Type 0
IsListLength len = (len ≡ 18) ⊎ (len ≡ 50)

-- The length is one that a frame of this kind may have: all frames of purges have one length, so
-- have all frames of removals, and those of lists have two.
abbrev pub IsLengthOf : ℕ → ℕ → Type 0
IsLengthOf kind len = (kind ≡ 3 → len ≡ 9) × ((kind ≡ 4 → len ≡ 34) × (kind ≡ 5 → IsListLength len))

-- The numbers of a list and its id fit their bytes.
pub record FitsList (request : ListRequest) : Type 0 where
  pub kind_fits : request.kind < 256
  pub start_fits : request.start < 2 ^ 64
  pub end_fits : request.end < 2 ^ 64
  pub id_fits : IfSome request.after (λ id. length id ≡ 32)

-- How a stream ends after its last whole frame: with less than a frame, or with a fault.
pub data Ending : Type 0 where
  Rest : (bytes : List ℕ) → Ending
  BadLength : Ending
  BadKind : Ending

module _ (kinds : Kinds) where
  -- The message is of a kind that there is, its frame is not too long, and its numbers fit their
  -- bytes.
  abbrev pub FitsFrame : MessageView → Type 0
  FitsFrame (Register body) = IsFrameLength (1 + length body)
  FitsFrame (Lookup body) = IsFrameLength (1 + length body)
  FitsFrame (Purge moment) = moment < 2 ^ 64
  FitsFrame (Remove kind id) = (kind < 256) × (length id ≡ 32)
  FitsFrame (message.List request) = IsMessageKind kinds 5 × FitsList request

  -- The bytes are the frames of these messages, one after the other, followed by the rest.
  pub record AreWholeFrames (bytes : List ℕ) (messages : List MessageView) (rest : List ℕ) : Type 0 where
    pub joined : bytes ≡ flat_map message_frame messages ++ rest
    pub sized : AllByRecursion FitsFrame messages

  -- Four bytes or more begin with the length of a frame. Where the kind of a message follows, it is
  -- the length of a frame of that kind.
  pub record HasRightLength (bytes : List ℕ) : Type 0 where
    pub in_range : IsFrameLength (length_at bytes)
    pub of_kind : 5 ≤ length bytes → IsMessageKind kinds (frame_kind_at bytes) → IsLengthOf (frame_kind_at bytes) (length_at bytes)

  -- The bytes are less than a whole frame, without a fault. The length is checked once four bytes
  -- have arrived, and again with the kind once five bytes have.
  pub record IsPartial (bytes : List ℕ) : Type 0 where
    -- Four bytes or more begin with the right length of a frame.
    pub length_is_right : 4 ≤ length bytes → HasRightLength bytes
    -- Five bytes or more have the kind of a message.
    pub kind_is_right : 5 ≤ length bytes → IsMessageKind kinds (frame_kind_at bytes)
    -- The bytes are less than the frame.
    pub incomplete : 4 ≤ length bytes → length bytes < 4 + length_at bytes

  -- The bytes begin with a length that no frame has, or that no frame of the kind after it has.
  pub record HasBadLength (bytes : List ℕ) : Type 0 where
    pub long : 4 ≤ length bytes
    pub bad : ¬ HasRightLength bytes

  -- The bytes begin with the length of a frame, and a kind that no message has.
  pub record HasBadKind (bytes : List ℕ) : Type 0 where
    pub long : 5 ≤ length bytes
    pub length_is_right : HasRightLength bytes
    pub bad : ¬ IsMessageKind kinds (frame_kind_at bytes)

  -- The bytes after the last whole frame are those of this ending.
  abbrev pub FramesEndAs : List ℕ → Ending → Type 0
  FramesEndAs bytes (Rest rest) = (bytes ≡ rest) × IsPartial bytes
  FramesEndAs bytes BadLength = HasBadLength bytes
  FramesEndAs bytes BadKind = HasBadKind bytes

  -- The stream is the frames of these messages, one after the other, followed by this ending.
  pub record AreFrames (bytes : List ℕ) (messages : List MessageView) (ending : Ending) : Type 0 where
    pub rest : List ℕ
    pub whole : AreWholeFrames bytes messages rest
    pub ends : FramesEndAs rest ending
