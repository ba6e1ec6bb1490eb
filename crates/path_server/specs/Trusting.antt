-- Which moments of a clock a server's own purges trust. All are in half seconds.
use Rattle.std.specs.Prelude.{◌≡◌, ℕ, ◌+◌, ◌-◌, ◌/◌, ◌^◌, if◌then◌else◌, nat_lt, min, Bool, Option, Some, None, Result, Ok, Err}
use Rattle.std.specs.Int.{abs_diff}
use Rattle.path_db.specs.declared.command.Command.{Command}
use Rattle.path_db.specs.declared.command.Command.TheVariants.{Purge}
use Rattle.group_core.specs.declared.submit_error.SubmitError.{SubmitError}
use Rattle.hub_claims.specs.Committed.{RefusesHandingIn, EndsWaiting}
use Rattle.path_server.specs.declared.anchor.TheConstants.{LEEWAY, LONGEST_PAUSE}
use Rattle.path_server.specs.declared.anchor.Doubt.{Doubt}
use Rattle.path_server.specs.declared.anchor.Doubt.TheVariants.{Unknown, Ahead, Behind}
use Rattle.path_server.specs.declared.anchor.Reading.{Reading}
use Rattle.path_server.specs.declared.purger.NotPurged.{NotPurged}
use Rattle.path_server.specs.declared.purger.NotPurged.TheVariants.{Rests, Refused}

-- The moment that is expected of a clock by an anchor, when a steady clock gives this moment: that
-- of the anchor, and the steady time since.
abbrev pub expected : Reading → ℕ → ℕ
expected anchor steady = min (anchor.moment + (steady - anchor.steady)) (2 ^ 64 - 1)

-- A reading of both clocks.
abbrev pub reading : ℕ → ℕ → Reading
reading moment steady = record { moment = moment; steady = steady }

-- A reading with the moment that is trusted where this one is expected: the earlier one of both,
-- where they differ by no more than a minute.
abbrev pub judged_by : ℕ → Reading → Result Reading Doubt
judged_by due now =
    if nat_lt LEEWAY (now.moment - due) then Err (Ahead ((now.moment - due) / 2))
    else if nat_lt LEEWAY (due - now.moment) then Err (Behind ((due - now.moment) / 2))
    else Ok (reading (min now.moment due) now.steady)

-- A reading with the moment that is trusted by an anchor, if there is one.
abbrev pub judged : Option Reading → Reading → Result Reading Doubt
judged None now = Err Unknown
judged (Some anchor) now = judged_by (expected anchor now.steady) now

-- The anchor after a reading was judged: what was trusted of it, or the one before.
abbrev pub anchor_after : Option Reading → Result Reading Doubt → Option Reading
anchor_after anchor (Ok trusted) = Some trusted
anchor_after anchor (Err doubt) = anchor

-- The first anchor: a reading at most a day after the newest timestamp of a store.
abbrev pub begun : ℕ → Reading → Option Reading
begun newest now = if nat_lt LONGEST_PAUSE (now.moment - newest) then None else Some now

-- An anchor by the moment of a purge that a session asked for: a reading within a minute of it.
abbrev pub confirmed : ℕ → Reading → Option Reading
confirmed asked now = if nat_lt LEEWAY (abs_diff now.moment asked) then None else Some now

-- The anchor where there is one, or else the other.
abbrev pub or_else : Option Reading → Option Reading → Option Reading
or_else (Some anchor) other = Some anchor
or_else None other = other

-- The purge of a moment that is trusted: by that moment less a grace, or by this one where that is
-- before it.
abbrev pub own_purge : ℕ → ℕ → Reading → Command
own_purge most grace trusted = Purge (min most (trusted.moment - grace))

-- Of the purge of a trusted reading it is known for which reasons it was refused.
module _ (refused : Reading → Option SubmitError → Bool) where
  -- Why a purge is not handed in: the reading is not trusted, or the hub refused the purge.
  abbrev pub WhyNotHandedIn : Result Reading Doubt → NotPurged → Type 0
  WhyNotHandedIn (Ok trusted) (Refused e) = RefusesHandingIn (refused trusted) e
  WhyNotHandedIn (Err doubt) (Rests why) = why ≡ doubt
  WhyNotHandedIn _ _ = ⊥

  -- Why a purge has no receipt: the reading is not trusted, or the hub refused the purge, or who
  -- waited for its answer has left.
  abbrev pub WhyNotPurged : Bool → Result Reading Doubt → NotPurged → Type 0
  WhyNotPurged left (Ok trusted) (Refused e) = EndsWaiting (refused trusted) left e
  WhyNotPurged left (Err doubt) (Rests why) = why ≡ doubt
  WhyNotPurged left _ _ = ⊥
