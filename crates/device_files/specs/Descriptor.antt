-- The descriptors of files.
use Rattle.std.specs.Prelude.{pos, ◌<ℤ◌}
use Rattle.std.specs.Fd.{file_raw_fd}
use Rattle.std.specs.declared.fs.File.{File}

-- The descriptor of a file is above 2, that of standard error. What is printed does not go into it.
abbrev pub IsAboveStandard : File → Type 0
IsAboveStandard file = pos 2 <ℤ file_raw_fd file
