-- What a sealed sink tells after one more write: for `Replies`.
use Rattle.std.proofs.Common.{◌≡◌, ℕ, Bool, true, false, List, [], ◌∷◌, ◌++◌, Option, sym, ap, subst, ◌∙◌, append_assoc}
use Rattle.std.proofs.lemmas.List.{flat_map_more}
use Rattle.std.specs.Io.KnownBytes.{Appends}
use Rattle.std.proofs.KnownBytes.{Appends-trans}
use Rattle.whole_writes.specs.Written.{IsWrittenInPart}
use Rattle.session_core.specs.declared.reply.Form.{Form}
use Rattle.session_core.specs.Reply.{ReplyView, told_as}
use Rattle.session_core.specs.Told.{Told, Telling, and_told, bytes_told, TellsReplies}

-- the bytes of one more reply come after those of the others
more : (told : List Told) (form : Form) (reply : ReplyView) → bytes_told told ++ told_as form reply ≡ bytes_told (told ++ record { form = form; reply = reply } ∷ [])
more told form reply = flat_map_more (λ (t : Told). told_as t.form t.reply) [] told (record { form = form; reply = reply })

more_whole : (telling : Telling) (contents contents_left : Option (List ℕ)) (form : Form) (reply : ReplyView)
    → TellsReplies telling false contents → Appends contents contents_left (told_as form reply) → TellsReplies (and_told telling form reply) false contents_left
more_whole telling contents contents_left form reply t appended = record {
  written = t.written ++ told_as form reply;
  appended = Appends-trans telling.start contents contents_left t.written (told_as form reply) t.appended appended;
  told_is = ap (λ (w : List ℕ). w ++ told_as form reply) t.told_is ∙ more telling.told form reply;
}

more_in_part : (telling : Telling) (contents contents_left : Option (List ℕ)) (form : Form) (reply : ReplyView)
    → TellsReplies telling false contents → IsWrittenInPart contents contents_left (told_as form reply) → TellsReplies (and_told telling form reply) true contents_left
more_in_part telling contents contents_left form reply t part = record {
  written = t.written ++ part.front;
  appended = Appends-trans telling.start contents contents_left t.written part.front t.appended part.appended;
  told_is = (
    part.rest,
    sym (more telling.told form reply) ∙ ap (λ (b : List ℕ). bytes_told telling.told ++ b) part.begins
        ∙ sym (append_assoc (bytes_told telling.told) part.front part.rest) ∙ ap (λ (w : List ℕ). (w ++ part.front) ++ part.rest) (sym t.told_is),
  );
}

-- a reply was written, to a sink to which no write had failed
pub tells_more : (telling : Telling) (is_cut : Bool) (contents contents_left : Option (List ℕ)) (form : Form) (reply : ReplyView)
    → is_cut ≡ false → TellsReplies telling is_cut contents → Appends contents contents_left (told_as form reply) → TellsReplies (and_told telling form reply) is_cut contents_left
tells_more telling is_cut contents contents_left form reply whole t appended =
    subst (λ (cut : Bool). TellsReplies (and_told telling form reply) cut contents_left) (sym whole)
    (more_whole telling contents contents_left form reply (subst (λ (cut : Bool). TellsReplies telling cut contents) whole t) appended)

-- a front of a reply was written
pub tells_part : (telling : Telling) (is_cut : Bool) (contents contents_left : Option (List ℕ)) (form : Form) (reply : ReplyView)
    → is_cut ≡ false → TellsReplies telling is_cut contents → IsWrittenInPart contents contents_left (told_as form reply) → TellsReplies (and_told telling form reply) true contents_left
tells_part telling is_cut contents contents_left form reply whole t part =
    more_in_part telling contents contents_left form reply (subst (λ (cut : Bool). TellsReplies telling cut contents) whole t) part
