use Rattle.std.proofs.Common.{rules, tests, sym, ap, ◌∙◌}
use Rattle.std.specs.Prelude.{min}
use Rattle.std.specs.List.{reduce}
use Rattle.std.specs.Option.{unwrap_or}
use Rattle.std.proofs.lemmas.Iterator.{YieldsList-from_slice, YieldsList-from_map}
use Rattle.std.proofs.lemmas.Iterator.Consumers.{YieldsList-at, min_from_yields_List}
use Rattle.std.proofs.lemmas.Iterator.Adapters.{option_map_id}
use Rattle.seg_core.specs.declared.entry.Entry.{Entry}
use Rattle.seg_check.proofs.Expiries.{exp_times-views}
use Rattle.seg_check.proofs.expiring.least_exp_time.Goals as goal

pub returns : goal.returns
returns c =
    let least = min_from_yields_List _ _ c.min.ensures.ran (YieldsList-from_map _ (λ (e : Entry). e.exp_time) (YieldsList-at c.map.ensures.source (YieldsList-from_slice c.args.entries.now cc)) c.map.ensures.closure (λ x r q k. search (rules, tests))) in
    c.unwrap_or.ensures ∙ ap (λ r. unwrap_or r 0) (sym (option_map_id _) ∙ least ∙ ap (reduce min) (exp_times-views c.args.entries.now))
