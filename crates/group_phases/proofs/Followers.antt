-- What stays of a group that follows: where the tail's journal is untouched, under larger limits,
-- and where more commands come.
use Rattle.std.proofs.Common.{◌≡◌, ℕ, zero, suc, ◌≤◌, List, [], ◌∷◌, ◌++◌, length, take, drop, refl, sym, ◌∙◌, ap, subst, arith, length-append, length-drop}
use Rattle.sector_dev.specs.Disk.{Moment}
use Rattle.store_layout.specs.Limits.{Limits, AreAsLarge}
use Rattle.store_layout.specs.CommandFormat.{CommandFormat}
use Rattle.store_layout.specs.Layout.{Geometry}
use Rattle.group_phases.specs.declared.phases.Flush.{Flush}
use Rattle.group_phases.specs.declared.phases.Flush.TheVariants.{Following, Followed, DurableFollowed}
use Rattle.group_phases.specs.StoreConfig.{HasTitle}
use Rattle.group_phases.specs.Tail.{Commands, Tail, tail_after}
use Rattle.group_phases.specs.FollowerPart.{FollowerPart, Follower, IsFollowed}
use Rattle.group_phases.specs.Kept.{IsTailUntouched}
use Rattle.group_phases.proofs.CheckpointerSteps.{load_larger}
use Rattle.group_phases.proofs.FollowingSteps.{keeps_follower}

-- a front of a list stays where the list grows after it, and so does what is after a front of it
pub take_front : {A : Type 0} (n : ℕ) (front behind : List A) → n ≤ length front → take n (front ++ behind) ≡ take n front
take_front zero front behind inside = refl
take_front (suc n) [] behind inside = absurd (omega arith)
take_front (suc n) (x ∷ front) behind inside = ap (λ (list : List _). x ∷ list) (take_front n front behind (omega arith))

pub drop_front : {A : Type 0} (n : ℕ) (front behind : List A) → n ≤ length front → drop n (front ++ behind) ≡ drop n front ++ behind
drop_front zero front behind inside = refl
drop_front (suc n) [] behind inside = absurd (omega arith)
drop_front (suc n) (x ∷ front) behind inside = drop_front n front behind (omega arith)

module _ {C : Type 0} (format : CommandFormat C) (limits : Limits) (geometry : Geometry) (tail : Tail C) (pending : List C) (taken following : ℕ) where
  abbrev commands : List C
  commands = take taken pending

  abbrev next : List C
  next = take following (drop taken pending)

  module _ (old new : Moment) (title : HasTitle geometry old) (same : IsTailUntouched geometry tail.half old new) where
    kept : (phase : Flush) → Follower phase format limits geometry tail pending taken following old → Follower phase format limits geometry tail pending taken following new
    kept phase has = record {
      some = has.some;
      inside = has.inside;
      part = keeps_follower C phase format limits geometry tail commands next old new title same has.part;
    }

  module _ (large : Limits) (moment : Moment) (larger : AreAsLarge limits large) where
    under_larger : (phase : Flush) → Follower phase format limits geometry tail pending taken following moment → Follower phase format large geometry tail pending taken following moment
    under_larger phase has = record {
      some = has.some;
      inside = has.inside;
      part = record { can = load_larger format limits large geometry (tail_after format tail commands) (Commands next) larger has.part.can; facts = has.part.facts };
    }

  module _ (more : List C) (moment : Moment) where
    before_more : (phase : Flush) → Follower phase format limits geometry tail pending taken following moment → Follower phase format limits geometry tail (pending ++ more) taken following moment
    before_more phase has = record {
      some = has.some;
      inside = omega (arith, has.inside, length-append pending more);
      part = subst (λ (list : List C). FollowerPart phase format limits geometry tail list (take following (drop taken (pending ++ more))) moment)
          (sym (take_front taken pending more (omega (arith, has.inside))))
          (subst (λ (list : List C). FollowerPart phase format limits geometry tail commands list moment) (sym next_same) has.part);
    }
      where
        next_same : take following (drop taken (pending ++ more)) ≡ next
        next_same = ap (take following) (drop_front taken pending more (omega (arith, has.inside)))
            ∙ take_front following (drop taken pending) more (omega (arith, has.inside, length-drop taken pending))

pub keeps_followed : {C : Type 0} (phase : Flush) (format : CommandFormat C) (limits : Limits) (geometry : Geometry) (tail : Tail C) (pending : List C) (taken following : ℕ) (old new : Moment)
    → HasTitle geometry old → IsTailUntouched geometry tail.half old new
    → IsFollowed phase format limits geometry tail pending taken following old → IsFollowed phase format limits geometry tail pending taken following new
keeps_followed Following format limits geometry tail pending taken following old new title same has = kept format limits geometry tail pending taken following old new title same Following has
keeps_followed Followed format limits geometry tail pending taken following old new title same has = kept format limits geometry tail pending taken following old new title same Followed has
keeps_followed DurableFollowed format limits geometry tail pending taken following old new title same has = kept format limits geometry tail pending taken following old new title same DurableFollowed has
keeps_followed _ format limits geometry tail pending taken following old new title same has = tt

pub follows_under_larger_limits : {C : Type 0} (phase : Flush) (format : CommandFormat C) (small large : Limits) (geometry : Geometry) (tail : Tail C) (pending : List C) (taken following : ℕ) (moment : Moment)
    → AreAsLarge small large
    → IsFollowed phase format small geometry tail pending taken following moment → IsFollowed phase format large geometry tail pending taken following moment
follows_under_larger_limits Following format small large geometry tail pending taken following moment larger has = under_larger format small geometry tail pending taken following large moment larger Following has
follows_under_larger_limits Followed format small large geometry tail pending taken following moment larger has = under_larger format small geometry tail pending taken following large moment larger Followed has
follows_under_larger_limits DurableFollowed format small large geometry tail pending taken following moment larger has = under_larger format small geometry tail pending taken following large moment larger DurableFollowed has
follows_under_larger_limits _ format small large geometry tail pending taken following moment larger has = tt

pub follows_before_more : {C : Type 0} (phase : Flush) (format : CommandFormat C) (limits : Limits) (geometry : Geometry) (tail : Tail C) (pending more : List C) (taken following : ℕ) (moment : Moment)
    → IsFollowed phase format limits geometry tail pending taken following moment → IsFollowed phase format limits geometry tail (pending ++ more) taken following moment
follows_before_more Following format limits geometry tail pending more taken following moment has = before_more format limits geometry tail pending taken following more moment Following has
follows_before_more Followed format limits geometry tail pending more taken following moment has = before_more format limits geometry tail pending taken following more moment Followed has
follows_before_more DurableFollowed format limits geometry tail pending more taken following moment has = before_more format limits geometry tail pending taken following more moment DurableFollowed has
follows_before_more _ format limits geometry tail pending more taken following moment has = tt
