-- A field as it is read: any position and any width may be asked for.
-- Assumes nothing.
use Rattle.std.specs.Prelude.{ℕ, ◌+◌, ◌*◌, Bool, cond, ◌&&◌, List, Option, Some, None, leb, length}
use Rattle.rules.specs.Line.{field}

-- n places from p on end at e or before
unfoldable pub ends_by : ℕ → ℕ → ℕ → Bool
ends_by p n e = leb (p + n) e

-- the field of w bytes at byte p has at most 8 bytes, and the line holds it
unfoldable pub holds_field : List ℕ → ℕ → ℕ → Bool
holds_field l p w = leb w 8 && leb (2 * (p + w)) (length l)

-- that field, where the line holds it
unfoldable pub field_of : List ℕ → ℕ → ℕ → Option ℕ
field_of l p w = cond (holds_field l p w) (Some (field l p w)) None

-- that field, where the line holds it; else 0
unfoldable pub held_field : List ℕ → ℕ → ℕ → ℕ
held_field l p w = cond (holds_field l p w) (field l p w) 0

-- the byte past that field, where the line holds it; else p
unfoldable pub past_field : List ℕ → ℕ → ℕ → ℕ
past_field l p w = cond (holds_field l p w) (p + w) p
