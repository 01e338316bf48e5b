-- Document 01, "Sizes" and "Lines": the limits, each by its name.
-- Assumes nothing.
use Rattle.std.specs.Prelude.{ℕ}

-- "Frame length F: 1 to 1,000,000"
abbrev pub max_frame : ℕ
max_frame = 1000000

-- "Cores m: 1 to 16, numbered from 0"
abbrev pub max_cores : ℕ
max_cores = 16

-- "Tasks n: 0 to 64, numbered from 0"
abbrev pub max_tasks : ℕ
max_tasks = 64

-- "A table: at most 95 pieces, each (core, task, start, length)"
abbrev pub max_pieces : ℕ
max_pieces = 95

-- "Jobs in one walk: 0 to 4,096"
abbrev pub max_jobs : ℕ
max_jobs = 4096

-- "Release 0 to 1,000,000,000,000"
abbrev pub max_release : ℕ
max_release = 1000000000000

-- "units 0 to 1,000,000"
abbrev pub max_units : ℕ
max_units = 1000000

-- "So is any of more than 3,072 digits"
abbrev pub max_digits : ℕ
max_digits = 3072

-- "An output slice below 1,906 bytes is refused with 6"
abbrev pub least_output : ℕ
least_output = 1906
