-- What lookups of a run are answered from.
use Rattle.std.specs.Prelude.{◌≡◌, List, [], ◌∷◌}
use Rattle.path_db.specs.Answer.{segments_of}
use Rattle.seg_lookup.specs.Answer.{answer_to}
use Rattle.seg_lookup.specs.Query.{query_view}
use Rattle.group_recovery.specs.declared.events.Event.{Event}
use Rattle.group_recovery.specs.declared.events.Event.TheVariants as event
use Rattle.group_recovery.specs.declared.events.Reply.{Reply}
use Rattle.group_recovery.specs.declared.events.Reply.TheVariants as reply
use Rattle.group_recovery.specs.RunSteps.{RunView}

-- A lookup is answered from the rows that are committed in the run after it.
abbrev pub IsServedFrom : Event → Reply → RunView → Type 0
IsServedFrom (event.Lookup query now) (reply.Answer found) run =
    found.items ≡ segments_of (answer_to run.state.value.db (query_view query) now)
IsServedFrom _ _ run = Unit {0}

-- Each event with its reply, and the run after it.
abbrev pub LookupsAreServed : List Event → List Reply → List RunView → Type 0
LookupsAreServed [] [] [] = Unit {0}
LookupsAreServed (e ∷ events) (r ∷ replies) (run ∷ later) = IsServedFrom e r run × LookupsAreServed events replies later
LookupsAreServed _ _ _ = ⊥
