-- Membership in a list of pieces, through the rules' lists: the first pieces of a lent list, and a task's pieces by start.
-- Assumes nothing.
use mathlib.Core.Path.{◌≡◌, refl, sym, ◌∙◌, ap}
use mathlib.Core.Bool.{Bool, true}
use mathlib.Core.List.{List, [], ◌∷◌, ◌++◌}
use mathlib.Core.Logic.{◌⊎◌, inl, inr, ⊎_elim}
use Prim.Native.Nat.{ℕ, zero, suc, ◌<◌}
use native.Mathlib.Nat.{not-suc-le-zero, le_refl}
use native.Mathlib.Decide.{ℕ_discrete, dec_le}
use native.Mathlib.Omega.{arith}
use borrow.Author.Tests.{eq-eqb, ne_eqb}
use Rattle.rules.specs.Piece.{Piece, piece_at, first_pieces}
use Rattle.rules.specs.FrameTable.{every}
use Rattle.rules.specs.Moves.{insert, by_start}
use Rattle.sums.proofs.Both.{and_left, and_right}
use Rattle.sums.proofs.Inserted.{insert_later, insert_here}

-- p stands in the list
abbrev pub In : Piece → List Piece → Type 0
In p [] = ⊥
In p (q ∷ l) = (p ≡ q) ⊎ In p l

-- by_start, as equations
module _ (t : ℕ) (p : Piece) (l : List Piece) where
  pub by_start_own : p.task ≡ t → by_start t (p ∷ l) ≡ insert p (by_start t l)
  unfolding by_start
  by_start_own e = rw (by_start, eq-eqb _ _ e)

  pub by_start_other : (p.task ≡ t → ⊥) → by_start t (p ∷ l) ≡ by_start t l
  unfolding by_start
  by_start_other e = rw (by_start, ne_eqb _ _ e)

pub in_insert : (p r : Piece) (l : List Piece) → In r (insert p l) → (r ≡ p) ⊎ In r l
unfolding insert
in_insert p r [] h = h
in_insert p r (q ∷ l) h =
    elim (dec_le q.start p.start) [
      | yes a ↦ later (in_insert p r l) (rw (insert_later p q l a) at h)
      | no a ↦ rw (insert_here p q l (omega arith)) at h
    ]
  where
    later : (In r (insert p l) → (r ≡ p) ⊎ In r l) → In r (q ∷ insert p l) → (r ≡ p) ⊎ In r (q ∷ l)
    later f (inl e) = inr (inl e)
    later f (inr i) = ⊎_elim (λ e. inl e) (λ j. inr (inr j)) (f i)

pub insert_new : (p : Piece) (l : List Piece) → In p (insert p l)
unfolding insert
insert_new p [] = inl refl
insert_new p (q ∷ l) =
    elim (dec_le q.start p.start) [
      | yes a ↦ rw (insert_later p q l a) (inr (insert_new p l))
      | no a ↦ rw (insert_here p q l (omega arith)) (inl refl)
    ]

pub insert_old : (p r : Piece) (l : List Piece) → In r l → In r (insert p l)
insert_old p r [] i = absurd i
insert_old p r (q ∷ l) i =
    elim (dec_le q.start p.start) [
      | yes a ↦ rw (insert_later p q l a) (⊎_elim (λ e. inl e) (λ j. inr (insert_old p r l j)) i)
      | no a ↦ rw (insert_here p q l (omega arith)) (inr i)
    ]

-- "list its pieces by start": the task's pieces, and no others
pub in_by_start : (t : ℕ) (r : Piece) (ps : List Piece) → In r (by_start t ps) → In r ps × (r.task ≡ t)
unfolding by_start
in_by_start t r [] i = absurd i
in_by_start t r (p ∷ ps) i =
    elim (ℕ_discrete p.task t) [
      | yes e ↦
          ⊎_elim (λ d. (inl d, ap (λ (q : Piece). q.task) d ∙ e)) (λ j. later (in_by_start t r ps j))
          (in_insert p r (by_start t ps) (rw (by_start_own t p ps e) at i))
      | no e ↦ later (in_by_start t r ps (rw (by_start_other t p ps e) at i))
    ]
  where
    later : In r ps × (r.task ≡ t) → In r (p ∷ ps) × (r.task ≡ t)
    later h = (inr h.0, h.1)

pub by_start_in : (t : ℕ) (r : Piece) (ps : List Piece) → In r ps → r.task ≡ t → In r (by_start t ps)
by_start_in t r [] i e = absurd i
by_start_in t r (p ∷ ps) i e =
    elim (ℕ_discrete p.task t) [
      | yes d ↦
          rw (by_start_own t p ps d)
          (⊎_elim (λ s. rw s (insert_new p (by_start t ps))) (λ j. insert_old p r (by_start t ps) (by_start_in t r ps j e)) i)
      | no d ↦
          rw (by_start_other t p ps d)
          (⊎_elim (λ s. absurd (d (ap (λ (q : Piece). q.task) (sym s) ∙ e))) (λ j. by_start_in t r ps j e) i)
    ]

pub in_append : (r : Piece) (a b : List Piece) → In r (a ++ b) → In r a ⊎ In r b
in_append r [] b i = inr i
in_append r (q ∷ a) b (inl e) = inl (inl e)
in_append r (q ∷ a) b (inr i) = ⊎_elim (λ j. inl (inr j)) (λ j. inr j) (in_append r a b i)

pub append_left : (r : Piece) (a b : List Piece) → In r a → In r (a ++ b)
append_left r [] b i = absurd i
append_left r (q ∷ a) b (inl e) = inl e
append_left r (q ∷ a) b (inr i) = inr (append_left r a b i)

pub append_right : (r : Piece) (a b : List Piece) → In r b → In r (a ++ b)
append_right r [] b i = i
append_right r (q ∷ a) b i = inr (append_right r a b i)

-- the first c pieces of a lent list are the pieces below c
pub in_first : (l : List ℕ) (c : ℕ) (r : Piece) → In r (first_pieces l c) → (k : ℕ) × (k < c) × (r ≡ piece_at l k)
unfolding first_pieces
in_first l zero r i = absurd i
in_first l (suc c) r i =
    ⊎_elim (λ j. earlier (in_first l c r j)) (⊎_elim (λ e. (c, le_refl _, e)) (λ n. absurd n))
    (in_append r (first_pieces l c) (piece_at l c ∷ []) i)
  where
    earlier : (k : ℕ) × (k < c) × (r ≡ piece_at l k) → (k : ℕ) × (k < suc c) × (r ≡ piece_at l k)
    earlier h = (h.0, omega arith, h.2)

pub first_in : (l : List ℕ) (c k : ℕ) → k < c → In (piece_at l k) (first_pieces l c)
unfolding first_pieces
first_in l zero k h = absurd (not-suc-le-zero h)
first_in l (suc c) k h =
    elim (ℕ_discrete k c) [
      | yes e ↦ append_right (piece_at l k) (first_pieces l c) (piece_at l c ∷ []) (inl (ap (piece_at l) e))
      | no e ↦ append_left (piece_at l k) (first_pieces l c) (piece_at l c ∷ []) (first_in l c k (omega arith))
    ]

-- a test that every piece of a list passes, at one of them
pub every_in : (t : Piece → Bool) (ps : List Piece) (p : Piece) → every t ps ≡ true → In p ps → t p ≡ true
unfolding every
every_in t [] p e i = absurd i
every_in t (q ∷ ps) p e (inl d) = ap t d ∙ and_left (t q) (every t ps) e
every_in t (q ∷ ps) p e (inr i) = every_in t ps p (and_right (t q) (every t ps) e) i
