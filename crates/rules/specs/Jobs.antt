-- Document 01, "The job walker", answers 9 and 10: a bad job list, and a walked task without units.
-- Assumes nothing.
use Rattle.std.specs.Prelude.{ℕ, zero, suc, Bool, false, cond, not, ◌||◌, List, eqb, ltb, length, get_or}
use Rattle.rules.specs.Sizes.{max_jobs, max_release, max_units}
use Rattle.rules.specs.Sum.{lowest}

-- "releases and units differ in number, or more than 4,096 jobs (both carry job 0)"
unfoldable pub bad_job_count : List ℕ → List ℕ → Bool
bad_job_count releases units = not (eqb (length releases) (length units)) || ltb max_jobs (length releases)

-- a release "below the one before it"; the first has none before it
unfoldable pub early : List ℕ → ℕ → Bool
early releases zero = false
early releases (suc k) = ltb (get_or releases (suc k) 0) (get_or releases k 0)

-- "a release below the one before it, a release above the limit or units above the limit": 1 if job k has one of these faults
unfoldable pub bad_job : List ℕ → List ℕ → ℕ → ℕ
bad_job releases units k = cond (early releases k || ltb max_release (get_or releases k 0) || ltb max_units (get_or units k 0)) 1 0

-- "otherwise the first job with" such a fault; the number of jobs where there is none
unfoldable pub first_bad_job : List ℕ → List ℕ → ℕ
first_bad_job releases units = lowest (length releases) (bad_job releases units)

-- "a job asks units": the first such job; the number of jobs where there is none
unfoldable pub first_asking : List ℕ → ℕ
first_asking units = lowest (length units) (λ k. get_or units k 0)
