-- A moment as a date and a time of UTC.
use Rattle.std.specs.Prelude.{ℕ, ◌+◌, ◌-◌, ◌*◌, ◌/◌, ◌%◌, List, ◌++◌, codes, if◌then◌else◌, nat_eq, nat_lt}
use Rattle.std.specs.Fmt.{decimal}
use Rattle.row_lines.specs.declared.date.TheConstants.{DAY, ERA, BEFORE}

-- A number below 100 as two digits.
abbrev pub two_digits : ℕ → List ℕ
two_digits number = decimal (number / 10) ++ decimal (number % 10)

-- The time of a second of a day.
unfoldable pub time_text : ℕ → List ℕ
time_text second =
    two_digits (second / 3600) ++ (codes ":" ++ (two_digits (second / 60 % 60) ++ (codes ":" ++ two_digits (second % 60))))

-- The year, from 0 on, that a day of 400 years is in. Each fourth year has a day more, but for each
-- hundredth one, and again each four hundredth.
unfoldable pub year_of_era : ℕ → ℕ
year_of_era day = (day - day / 1460 + day / 36524 - day / 146096) / 365

-- The number of such a day in its year, from 0 on.
unfoldable pub day_of_year : ℕ → ℕ
day_of_year day = day + year_of_era day / 100 - (365 * year_of_era day + year_of_era day / 4)

-- The month of a day of a year that begins in March: 0 is March. Five months have 153 days.
abbrev pub month_of : ℕ → ℕ
month_of day = (day * 5 + 2) / 153

-- The day of its month, from 1 on.
abbrev pub day_of_month : ℕ → ℕ
day_of_month day = day - (month_of day * 153 + 2) / 5 + 1

-- A year, a month and a day of it.
abbrev pub ymd_text : ℕ → ℕ → ℕ → List ℕ
ymd_text year month day = decimal year ++ (codes "-" ++ (two_digits month ++ (codes "-" ++ two_digits day)))

-- The date of a day of a year that begins in March.
abbrev pub date_in : ℕ → ℕ → List ℕ
date_in year day =
    if nat_lt (month_of day) 10
    then ymd_text year (month_of day + 3) (day_of_month day)
    else ymd_text (year + 1) (month_of day - 9) (day_of_month day)

-- The date of a day, whose number is 0 on 1 January 1970.
unfoldable pub day_text : ℕ → List ℕ
day_text number = date_in ((number + BEFORE) / ERA * 400 + year_of_era ((number + BEFORE) % ERA)) (day_of_year ((number + BEFORE) % ERA))

-- What follows the time: nothing, or half a second, and the zone.
abbrev pub half_text : ℕ → List ℕ
half_text moment = if nat_eq (moment % 2) 0 then codes "Z" else codes ".5Z"

-- A moment in half seconds since 1970, as `2023-11-14T22:13:20Z`.
unfoldable pub date_text : ℕ → List ℕ
date_text moment = day_text (moment / (2 * DAY)) ++ (codes "T" ++ (time_text (moment / 2 % DAY) ++ half_text moment))
