use Rattle.std.proofs.Common.{rules, ap, ◌∙◌, subst, sym, length}
use Rattle.std.proofs.lemmas.Fn.{filter_same}
use Rattle.rising_map.specs.Slots.{entries_of, AreRisingSlots}
use Rattle.rising_map.proofs.Holes.{is_full, same_entries, all_full, still_rising}
use Rattle.rising_map.proofs.slots.close_holes.Goals as goal

pub returns : goal.returns
returns g c =
    let left = filter_same _ is_full _ (λ s b f' k. search rules) c.args.slots.now.items _ c.retain.ensures.filtered in
    record {
      entries = ap entries_of left ∙ same_entries c.args.slots.now.items;
      rising = subst AreRisingSlots (sym left) (still_rising c.args.slots.now.items c.requires);
      full = ap length left ∙ all_full c.args.slots.now.items;
    }
