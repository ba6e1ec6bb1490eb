-- The replies of a session where memory suffices: for the laws.
use Rattle.std.proofs.Common.{◌≡◌, ℕ, suc, inl, inr, List, [], ◌∷◌, ◌++◌, Option, Some, None, refl, sym, ap, subst, ◌∙◌, arith}
use Rattle.std.specs.List.{FoldsTo, flat_map, concat}
use Rattle.std.specs.Io.KnownBytes.{Consumes, Appends, IsAtEnd}
use Rattle.std.proofs.KnownBytes.{Consumes-nil, Consumes-trans}
use Rattle.std.proofs.lemmas.List.{append-nil}
use Rattle.std.proofs.lemmas.List.Folds.{flat_map-map}
use Rattle.session_core.specs.declared.message_kinds.Kinds.TheVariants.{Base}
use Rattle.session_core.specs.Frames.{MessageView, Rest, AreWholeFrames, AreFrames}
use Rattle.session_core.specs.Reply.{ReplyView, reply_frame}
use Rattle.session_core.specs.Service.{Exchange, messages_of, replies_of, AreAnswered}
use Rattle.session_core.proofs.AtOnce.{nothing_is_partial}
use Rattle.session_core.proofs.OneDecoding.{one_decoding_of}
use Rattle.cli_once.specs.Memory.{Served, message_step, Answers}
use Rattle.cli_once.specs.SessionLaws.{replies_from, HasMemory, OnlyReplies, WholeSession}

-- ---- replies

replies_of_steps : (old : Served) (exchanges : List Exchange) (left : Served) → AreAnswered Answers old exchanges left → HasMemory exchanges
    → replies_of exchanges ≡ replies_from old (messages_of exchanges)
replies_of_steps old [] left answered enough = refl
replies_of_steps old (e ∷ es) left (next, inl out, rest) enough = absurd (enough (0, omega arith, out.refused))
replies_of_steps old (e ∷ es) left (next, inr step, rest) enough =
    let others = replies_of_steps next es left rest (λ c. enough (suc c.0, omega (arith, c.1), c.2)) in
    ap (λ (r : ReplyView). r ∷ replies_of es) step.replied
    ∙ ap (λ (rs : List ReplyView). (message_step old e.message).0 ∷ rs) (others ∙ ap (λ (s : Served). replies_from s (messages_of es)) step.left)

pub only_replies_of : OnlyReplies
only_replies_of start exchanges left answered enough = replies_of_steps start exchanges left answered enough

-- ---- what was read

module _ {R : Type 0} (remaining : R → Option (List ℕ)) where
  joined_reads : (old : R) (pieces : List (List ℕ)) (new : R) → FoldsTo (λ old bytes new. Consumes (remaining old) (remaining new) bytes) old pieces new
      → Consumes (remaining old) (remaining new) (concat pieces)
  joined_reads old [] new same = subst (λ (r : R). Consumes (remaining old) (remaining r) []) same (Consumes-nil (remaining old))
  joined_reads old (piece ∷ pieces) new (next, first, rest) =
      Consumes-trans (remaining old) (remaining next) (remaining new) piece (concat pieces) first (joined_reads next pieces new rest)

read_all : (input read : List ℕ) (left : Option (List ℕ)) → Consumes (Some input) left read → IsAtEnd left → input ≡ read
read_all input read None c end = absurd c
read_all input read (Some rest) c end = c ∙ ap (λ (t : List ℕ). read ++ t) end ∙ append-nil read

all_frames : (bytes rest : List ℕ) (messages : List MessageView) → AreWholeFrames Base bytes messages rest → rest ≡ [] → AreFrames Base bytes messages (Rest [])
all_frames bytes rest messages framed none = record { rest = []; whole = subst (AreWholeFrames Base bytes messages) none framed; ends = (refl, nothing_is_partial) }

-- ---- a session

wrote : (output written : List ℕ) (left : Option (List ℕ)) → Appends (Some output) left written → left ≡ Some (output ++ written)
wrote output written None a = absurd a
wrote output written (Some all) a = ap Some a

pub whole_session_of : {R : Type 0} (remaining : R → Option (List ℕ)) → WholeSession remaining
whole_session_of remaining turns start input output old new output_left count session from enough messages framed =
    let s = session.served in
    let read = subst (λ (o : Option (List ℕ)). Consumes o (remaining new) (concat s.pieces)) from (joined_reads remaining old s.pieces new s.read.made) in
    let all = read_all input (concat s.pieces) (remaining new) read s.ended.at_end in
    let same = one_decoding_of Base (concat s.pieces) (messages_of s.exchanges) messages (Rest []) (Rest [])
    (all_frames (concat s.pieces) s.rest (messages_of s.exchanges) s.framed s.ended.whole)
    (subst (λ (t : List ℕ). AreFrames Base t messages (Rest [])) all framed) in
    let replies = only_replies_of start s.exchanges session.left s.answered enough ∙ ap (replies_from start) same.0 in
    wrote output s.written output_left s.appended
    ∙ ap (λ (t : List ℕ). Some (output ++ t)) (s.told ∙ sym (flat_map-map reply_frame (λ (e : Exchange). e.reply) s.exchanges))
    ∙ ap (λ (rs : List ReplyView). Some (output ++ flat_map reply_frame rs)) replies
