-- A text that comes in chunks: each is taken from the line on that the chunks before it left begun.
-- Assumes nothing.
use Rattle.std.specs.Prelude.{ℕ, List, [], ◌∷◌, ◌++◌}
use Rattle.stream.specs.Lines.{Lines}

-- the text that the chunks make up
abbrev pub whole_text : List (List ℕ) → List ℕ
whole_text [] = []
whole_text (t ∷ ts) = t ++ whole_text ts

-- Chunks A l ts o k: after the begun line l come the chunks ts; o is what is written, and k is the line that is begun at their end
pub data Chunks (A : List ℕ → List ℕ → Type 0) : List ℕ → List (List ℕ) → List ℕ → List ℕ → Type 0 where
  no_chunk : {l : List ℕ} → Chunks A l [] [] l
  chunk : {l t o k p j : List ℕ} {ts : List (List ℕ)} → Lines A l t o k → Chunks A k ts p j → Chunks A l (t ∷ ts) (o ++ p) j
