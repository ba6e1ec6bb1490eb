-- What the sessions of a listener may ask for.
use Rattle.std.specs.Prelude.{Bool, true, false}
use Rattle.server_front.specs.declared.role.Role.{Role}
use Rattle.server_front.specs.declared.role.Role.TheVariants.{All, Lookups}

-- The sessions of a role may have their commands taken.
abbrev pub takes_commands : Role → Bool
takes_commands All = true
takes_commands Lookups = false

-- The other role.
abbrev pub other_of : Role → Role
other_of All = Lookups
other_of Lookups = All
