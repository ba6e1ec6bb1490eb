-- The server's action after an accept that failed.
use Rattle.std.specs.Prelude.{ℕ, ℤ, pos, negsuc, ◌*◌, min, max, Bool, false, List, [], ◌∷◌, Option, Some, None, if◌then◌else◌, ◌||◌, ◌==◌}
use Rattle.server_front.specs.declared.accepting.AcceptFailure.{AcceptFailure}
use Rattle.server_front.specs.declared.accepting.AcceptFailure.TheVariants.{Nobody, Pause, Broken}

-- A number is among others.
abbrev pub is_among : List ℕ → ℕ → Bool
is_among [] number = false
is_among (one ∷ more) number = (number == one) || is_among more number

-- Linux's numbers of the errors of accept(2) after which no more accepts of this listener can
-- succeed: EBADF, EFAULT, EINVAL, ENOTSOCK. EOPNOTSUPP may also be an error of a new connection.
abbrev pub of_the_listener : List ℕ
of_the_listener = 9 ∷ 14 ∷ 22 ∷ 88 ∷ []

-- Linux's number of the error EAGAIN, by which an accept ends after the time of its listener.
abbrev pub timed_out : ℕ
timed_out = 11

-- The action after the error of this number.
abbrev pub failure_of : ℤ → AcceptFailure
failure_of (negsuc number) = Pause
failure_of (pos number) = if is_among of_the_listener number then Broken else if number == timed_out then Nobody else Pause

-- The action after an error. An error without a number is the peer's.
abbrev pub failure_after : Option ℤ → AcceptFailure
failure_after None = Pause
failure_after (Some number) = failure_of number

-- The pause in milliseconds after one more accept that failed, where the one before was this, and
-- 0 where there was none: it doubles from 50 up to 1,000.
abbrev pub next_pause : ℕ → ℕ
next_pause pause = min 1000 (max 50 (2 * pause))
