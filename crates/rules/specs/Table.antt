-- Document 01, "From allocation to table": from the starts to the pieces. "The table is fixed by the allocation."
-- Assumes nothing.
use Rattle.std.specs.Prelude.{ℕ, zero, suc, ◌+◌, ◌-◌, ◌*◌, ◌%◌, true, false, List, [], ◌∷◌, ◌++◌, leb, get_or}
use Rattle.rules.specs.Piece.{Piece}
use Rattle.rules.specs.Moves.{insert}
use Rattle.rules.specs.Layout.{Walk, stretch, layout}

-- the units of the first n tasks on the first m cores, task after task, and how such a list is read
unfoldable pub row : ℕ → (ℕ → ℕ) → List ℕ
row zero f = []
row (suc m) f = row m f ++ (f m ∷ [])

unfoldable pub cells : ℕ → ℕ → (ℕ → ℕ → ℕ) → List ℕ
cells zero m x = []
cells (suc n) m x = cells n m x ++ row m (x n)

abbrev pub cell_at : ℕ → List ℕ → ℕ → ℕ → ℕ
cell_at m l i j = get_or l (i * m + j) 0

-- "A stretch that crosses the end becomes two pieces": the stretch of len units from s on, s being below F
unfoldable pub cut : ℕ → ℕ → ℕ → ℕ → ℕ → List Piece
cut F core task s len =
    elim (leb (s + len) F) [
      | true ↦ record { core = core; task = task; start = s; len = len } ∷ []
      | false ↦
          record { core = core; task = task; start = s; len = F - s } ∷
          record { core = core; task = task; start = 0; len = (s + len) - F } ∷ []
    ]

unfoldable pub insert_all : List Piece → List Piece → List Piece
insert_all [] l = l
insert_all (p ∷ ps) l = insert_all ps (insert p l)

module _ (F n m : ℕ) (x : ℕ → ℕ → ℕ) (w : Walk) where
  -- "All instants are then taken modulo F": the pieces of task t on core j, none where it has no units
  unfoldable pub pieces_on : ℕ → ℕ → List Piece
  pieces_on j t = elim (x t j) [ zero ↦ [] | suc v ↦ cut F j t (stretch n m x w t j % F) (suc v) ]

  -- the pieces of the tasks below c on core j, by start
  unfoldable pub core_to : ℕ → ℕ → List Piece
  core_to j zero = []
  core_to j (suc c) = insert_all (pieces_on j c) (core_to j c)

  -- "Pieces are listed by core, then by start": the pieces of the cores below c
  unfoldable pub cores_to : ℕ → List Piece
  cores_to zero = []
  cores_to (suc c) = cores_to c ++ core_to c n

-- the table of a list of cells
unfoldable pub table_of_cells : ℕ → ℕ → ℕ → List ℕ → List Piece
table_of_cells F n m l = cores_to F n m (cell_at m l) (layout n m (cell_at m l)) m

-- the table of an allocation
unfoldable pub table_of : ℕ → ℕ → ℕ → (ℕ → ℕ → ℕ) → List Piece
table_of F n m x = table_of_cells F n m (cells n m x)
