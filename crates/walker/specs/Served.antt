-- A task's own stretches of a frame, where each starts and how long it is, and the units that they give.
-- Assumes nothing.
use Rattle.std.specs.Prelude.{cond, ◌&&◌, List, ℕ, ◌+◌, ◌-◌, ◌%◌, ◌≤◌, ◌<◌, min, leb, ltb, length, get_or}
use Rattle.rules.specs.Sum.{sum_to}
use Rattle.walker.specs.declared.span.Span.{Span}

-- where the i-th starts, and how long it is
abbrev pub no_span : Span
no_span = record { start = 0; len = 0 }

abbrev pub start_at : List Span → ℕ → ℕ
start_at spans i = (get_or spans i no_span).start

abbrev pub len_at : List Span → ℕ → ℕ
len_at spans i = (get_or spans i no_span).len

-- 1 if the stretch of len units from start on covers the instant t of the frame, else 0
unfoldable pub inside : ℕ → ℕ → ℕ → ℕ
inside start len t = cond (leb start t && ltb t (start + len)) 1 0

-- how many of the first c stretches cover the instant t of the frame
unfoldable pub unit_to : List Span → ℕ → ℕ → ℕ
unit_to spans c t = sum_to c (λ i. inside (start_at spans i) (len_at spans i) t)

-- the units of the first c stretches before the instant r of the frame
unfoldable pub served_to : List Span → ℕ → ℕ → ℕ
served_to spans c r = sum_to c (λ i. min (len_at spans i) (r - start_at spans i))

-- the units of all stretches before the instant e, the frame repeated from instant 0
unfoldable pub units_of : ℕ → List Span → ℕ → ℕ
units_of F spans e = sum_to e (λ t. unit_to spans (length spans) (t % F))

-- stretches within the frame, in order of start, that do not overlap
pub record Sorted (F : ℕ) (spans : List Span) : Type 0 where
  pub few : length spans ≤ 95
  pub ends : (i : ℕ) → i < length spans → start_at spans i + len_at spans i ≤ F
  pub order : (i k : ℕ) → i < k → k < length spans → start_at spans i + len_at spans i ≤ start_at spans k
