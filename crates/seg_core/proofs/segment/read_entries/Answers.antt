use Rattle.std.proofs.Common.{length}
use Rattle.pw_wire.specs.Fields.{fields}
use Rattle.seg_core.specs.Message.{bytes_fields}
use Rattle.seg_core.proofs.PiecesKept.{IsPut, AllWithin-more, decoding-more, put-more, room-more}
use Rattle.seg_core.proofs.segment.read_entries.Goals as goal

pub loop-message-preserved : goal.loop-message-preserved
loop-message-preserved c =
    let all = bytes_fields c.args.messages.field_number (fields c.args.messages.rest.now) in
    let rest = bytes_fields c.loop-message.message-iterator.field_number (fields c.loop-message.message-iterator.rest.now) in
    let left = bytes_fields c.next.new.self.field_number (fields c.next.new.self.rest.now) in
    let message = c.in-Some.message.now in
    let bytes = c.loop-message.out.items in
    let more = c.read_entry.new.out.items in
    let es = c.loop-message.marked.items in
    let e = c.in_ok-read_entry.field-0 in
    let was = c.loop-message.invariant in
    let pushed = c.in_ok-push.ensures.items in
    let one : IsPut bytes more e = record { put = c.in_ok-read_entry.ensures.put; within = c.in_ok-read_entry.ensures.within } in
    rw pushed (record {
      decoding = decoding-more all rest left message bytes more es e one was.within c.in-Some.ensures.steps c.in_ok-read_entry.ensures.decoding was.decoding;
      put = put-more c.args.out.now.items bytes more es e one was.within was.put;
      within = AllWithin-more bytes more es e one was.within;
      room = room-more rest left message (length bytes) (length more) c.in-Some.ensures.steps c.in_ok-read_entry.ensures.short was.room;
    })
