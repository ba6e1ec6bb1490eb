-- Which commands a session has acknowledged.
use Rattle.std.specs.Prelude.{◌≡◌, ℕ, ◌+◌, List, [], ◌∷◌, Option, Some, None, Ok}
use Rattle.seg_core.specs.declared.seg_type.SegType.{SegType}
use Rattle.seg_core.specs.Registration.{registration_decoding, type_of}
use Rattle.path_db.specs.declared.command.Command.{Command}
use Rattle.path_db.specs.declared.command.Command.TheVariants as command
use Rattle.row_map.specs.Database.{RowView}
use Rattle.store_layout.specs.Opening.{StoreValue}
use Rattle.command_log.specs.declared.rule.Claim.{Claim}
use Rattle.session_core.specs.declared.message.Message.TheVariants.{Register, Lookup, Purge, Remove}
use Rattle.session_core.specs.declared.message.Message.TheVariants as message
use Rattle.session_core.specs.declared.service.Ack.{Ack}
use Rattle.session_core.specs.Frames.{MessageView}
use Rattle.session_core.specs.Reply as reply
use Rattle.session_core.specs.Reply.{ReplyView}
use Rattle.session_core.specs.Service.{Exchange}

-- The acknowledgement that a reply is, if it is one.
abbrev pub ack_in : ReplyView → Option Ack
ack_in (reply.Registered ack) = Some ack
ack_in (reply.Purged ack) = Some ack
ack_in (reply.Removed ack) = Some ack
ack_in _ = None

-- A message is read as a registration of these segments.
pub record IsRegistrationOf (body : List ℕ) (c : Command) : Type 0 where
  pub rows : List RowView
  pub read : registration_decoding body ≡ Ok rows
  pub is : c ≡ command.Register rows

-- A message is read as a removal of a segment of this type.
pub record IsRemovalOf (number : ℕ) (id : List ℕ) (c : Command) : Type 0 where
  pub kind : SegType
  pub read : type_of number ≡ Ok kind
  pub is : c ≡ command.Remove kind id

-- A message is read as this command.
abbrev pub IsReadAs : MessageView → Command → Type 0
IsReadAs (Register body) c = IsRegistrationOf body c
IsReadAs (Lookup body) c = ⊥
IsReadAs (Purge moment) c = c ≡ command.Purge moment
IsReadAs (Remove number id) c = IsRemovalOf number id c
IsReadAs (message.List request) c = ⊥

-- At a hub that opened with this value.
module _ (opening : StoreValue (List RowView)) where
  -- An acknowledgement of a message is of the claimed command: that is the message's, and the
  -- acknowledgement has its place.
  pub record Acknowledges (message : MessageView) (ack : Ack) (claim : Claim) : Type 0 where
    pub command : IsReadAs message claim.command
    pub place : ack.place ≡ opening.place + claim.index

  -- Where the first reply is an acknowledgement, the first claim is of it. The others are of the
  -- other replies.
  abbrev pub FirstIsClaimed : MessageView → Option Ack → (List Claim → Type 0) → List Claim → Type 0
  FirstIsClaimed message None others claims = others claims
  FirstIsClaimed message (Some ack) others [] = ⊥
  FirstIsClaimed message (Some ack) others (claim ∷ claims) = Acknowledges message ack claim × others claims

  -- The claims are those of the acknowledgements among the replies, in their order.
  abbrev pub AreClaimed : List Exchange → List Claim → Type 0
  AreClaimed [] claims = claims ≡ []
  AreClaimed (exchange ∷ exchanges) claims = FirstIsClaimed exchange.message (ack_in exchange.reply) (AreClaimed exchanges) claims
