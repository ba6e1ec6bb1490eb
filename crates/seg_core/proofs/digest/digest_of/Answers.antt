use Rattle.std.proofs.Common.{◌++◌, ◌∷◌, [], take, ap, subst, ◌∙◌, sym}
use Rattle.std.specs.List.{flat_map}
use Rattle.std.proofs.lemmas.List.{take_all, take_more, flat_map_more}
use Rattle.std.proofs.lemmas.List.Folds.{flat_map-map}
use Rattle.sha2.specs.Sha256.{sha256}
use Rattle.sha2.specs.Hashers.{Holds256}
use Rattle.seg_core.specs.declared.entry.Entry.{Entry}
use Rattle.seg_core.specs.EntryView.{entry_view}
use Rattle.seg_core.specs.Digest.{hop_bytes}
use Rattle.seg_core.proofs.digest.digest_of.Goals as goal

-- one more hop
pub loop-entry-preserved : goal.loop-entry-preserved
loop-entry-preserved c =
    let hops = λ (e : Entry). hop_bytes (entry_view e) in
    let entries = c.args.entries.now in
    let earlier = take c.loop-entry.entry-index entries in
    let entry = c.entry-item.result in
    let more = take_more entries c.loop-entry.entry-index entry c.loop-entry-test.true ∙ ap (λ e. earlier ++ e ∷ []) (sym c.entry-item.is) in
    let step = flat_map_more hops [] earlier entry ∙ ap (flat_map hops) (sym more) in
    subst (Holds256 c.update.new.self) (ap (λ hop. flat_map hops earlier ++ hop) c.hop_bytes.ensures ∙ step) (c.update.ensures _ c.loop-entry.invariant)

-- all hops
pub returns : goal.returns
returns c =
    let hops = λ (e : Entry). hop_bytes (entry_view e) in
    let entries = c.args.entries.now in
    c.finalize.ensures _ c.loop-entry.invariant
    ∙ ap (λ l. sha256 (flat_map hops l)) (take_all c.loop-entry.entry-index entries c.loop-entry-test.false)
    ∙ ap sha256 (sym (flat_map-map hop_bytes entry_view entries))
