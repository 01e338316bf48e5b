-- Laws on lists of pieces: what holds of each and of every two, as pieces are put in by start and lists are joined.
-- Assumes nothing.
use mathlib.Core.Path.{◌≡◌, refl, ◌∙◌}
use mathlib.Core.Bool.{Bool, true}
use mathlib.Core.List.{List, [], ◌∷◌, ◌++◌}
use Prim.Native.Nat.{ℕ, ◌+◌, ◌≤◌}
use native.Mathlib.Decide.{dec_le}
use native.Mathlib.Omega.{arith}
use lib.ListN.{length}
use Rattle.rules.specs.Piece.{Piece}
use Rattle.rules.specs.Moves.{insert}
use Rattle.rules.specs.Table.{insert_all}
use Rattle.rules.specs.FrameTable.{every, every_two}
use Rattle.sums.proofs.Inserted.{insert_later, insert_here}

-- each piece has the property
abbrev pub Every : (Piece → Type 0) → List Piece → Type 0
Every P [] = Unit {0}
Every P (a ∷ l) = P a × Every P l

-- each two pieces, the earlier first, stand so to each other
abbrev pub Pairs : (Piece → Piece → Type 0) → List Piece → Type 0
Pairs R [] = Unit {0}
Pairs R (a ∷ l) = Every (R a) l × Pairs R l

module _ (P : Piece → Type 0) where
  pub every_append : (a b : List Piece) → Every P a → Every P b → Every P (a ++ b)
  every_append [] b u v = v
  every_append (p ∷ a) b u v = (u.0, every_append a b u.1 v)

  pub every_insert : (p : Piece) (l : List Piece) → P p → Every P l → Every P (insert p l)
  unfolding insert
  every_insert p [] h u = (h, tt)
  every_insert p (q ∷ l) h u =
      elim (dec_le q.start p.start) [
        | yes s ↦ rw (insert_later p q l s) (u.0, every_insert p l h u.1)
        | no g ↦ rw (insert_here p q l (omega arith)) (h, u)
      ]

  pub every_insert_all : (ps l : List Piece) → Every P ps → Every P l → Every P (insert_all ps l)
  unfolding insert_all
  every_insert_all [] l u v = v
  every_insert_all (p ∷ ps) l u v = every_insert_all ps (insert p l) u.1 (every_insert p l u.0 v)

pub every_map : (P Q : Piece → Type 0) (l : List Piece) → ((p : Piece) → P p → Q p) → Every P l → Every Q l
every_map P Q [] f u = tt
every_map P Q (a ∷ l) f u = (f a u.0, every_map P Q l f u.1)

pub every_true : (f : Piece → Bool) (l : List Piece) → Every (λ p. f p ≡ true) l → every f l ≡ true
unfolding every
every_true f [] u = refl
every_true f (a ∷ l) u = rw u.0 (every_true f l u.1)

module _ (R : Piece → Piece → Type 0) where
  pub pairs_append : (a b : List Piece) → Pairs R a → Pairs R b → Every (λ p. Every (R p) b) a → Pairs R (a ++ b)
  pairs_append [] b u v c = v
  pairs_append (p ∷ a) b u v c = (every_append (R p) a b u.0 c.0, pairs_append a b u.1 v c.1)

  pub pairs_true : (r : Piece → Piece → Bool) (l : List Piece) → ((a b : Piece) → R a b → r a b ≡ true) → Pairs R l → every_two r l ≡ true
  unfolding every_two
  pairs_true r [] f u = refl
  pairs_true r (a ∷ l) f u = rw (every_true (r a) l (every_map (R a) (λ b. r a b ≡ true) l (f a) u.0)) (pairs_true r l f u.1)

  module _ (turn : (a b : Piece) → R a b → R b a) where
    pub pairs_insert : (p : Piece) (l : List Piece) → Every (R p) l → Pairs R l → Pairs R (insert p l)
    unfolding insert
    pairs_insert p [] u v = (tt, tt)
    pairs_insert p (q ∷ l) u v =
        elim (dec_le q.start p.start) [
          | yes s ↦ rw (insert_later p q l s) (every_insert (R q) p l (turn p q u.0) v.0, pairs_insert p l u.1 v.1)
          | no g ↦ rw (insert_here p q l (omega arith)) (u, v)
        ]

    pub pairs_insert_all : (ps l : List Piece) → Pairs R ps → Every (λ p. Every (R p) l) ps → Pairs R l → Pairs R (insert_all ps l)
    unfolding insert_all
    pairs_insert_all [] l u c v = v
    pairs_insert_all (p ∷ ps) l u c v =
        pairs_insert_all ps (insert p l) u.1 (joined p ps l u.0 c.1) (pairs_insert p l c.0 v)
      where
        joined : (p : Piece) (ps l : List Piece) → Every (R p) ps → Every (λ q. Every (R q) l) ps → Every (λ q. Every (R q) (insert p l)) ps
        joined p [] l u c = tt
        joined p (q ∷ ps) l u c = (every_insert (R q) p l (turn p q u.0) c.0, joined p ps l u.1 c.1)

pub pairs_map : (P : Piece → Type 0) (R S : Piece → Piece → Type 0) (l : List Piece) → ((a b : Piece) → P a → P b → R a b → S a b)
    → Every P l → Pairs R l → Pairs S l
pairs_map P R S [] f h u = tt
pairs_map P R S (a ∷ l) f h u = (two h.0 l h.1 u.0, pairs_map P R S l f h.1 u.1)
  where
    two : P a → (l : List Piece) → Every P l → Every (R a) l → Every (S a) l
    two k [] h u = tt
    two k (b ∷ l) h u = (f a b k h.0 u.0, two k l h.1 u.1)

-- by start
abbrev pub NoLater : Piece → Piece → Type 0
NoLater a b = a.start ≤ b.start

pub sorted_insert : (p : Piece) (l : List Piece) → Pairs NoLater l → Pairs NoLater (insert p l)
unfolding insert
sorted_insert p [] u = (tt, tt)
sorted_insert p (q ∷ l) u =
    elim (dec_le q.start p.start) [
      | yes s ↦ rw (insert_later p q l s) (every_insert (NoLater q) p l s u.0, sorted_insert p l u.1)
      | no g ↦ rw (insert_here p q l (omega arith)) ((omega arith, every_map (NoLater q) (NoLater p) l (λ b h. omega arith) u.0), u)
    ]

pub sorted_insert_all : (ps l : List Piece) → Pairs NoLater l → Pairs NoLater (insert_all ps l)
unfolding insert_all
sorted_insert_all [] l u = u
sorted_insert_all (p ∷ ps) l u = sorted_insert_all ps (insert p l) (sorted_insert p l u)

-- a number that each piece adds
unfoldable pub total : (Piece → ℕ) → List Piece → ℕ
total f [] = 0
total f (p ∷ l) = f p + total f l

module _ (f : Piece → ℕ) where
  pub total_append : (a b : List Piece) → total f (a ++ b) ≡ total f a + total f b
  unfolding total
  total_append [] b = omega arith
  total_append (p ∷ a) b = omega (arith, total_append a b)

  pub total_insert : (p : Piece) (l : List Piece) → total f (insert p l) ≡ f p + total f l
  unfolding total insert
  total_insert p [] = refl
  total_insert p (q ∷ l) =
      elim (dec_le q.start p.start) [
        | yes s ↦ rw (insert_later p q l s) (omega (arith, total_insert p l))
        | no g ↦ rw (insert_here p q l (omega arith))
      ]

  pub total_insert_all : (ps l : List Piece) → total f (insert_all ps l) ≡ total f ps + total f l
  unfolding total insert_all
  total_insert_all [] l = omega arith
  total_insert_all (p ∷ ps) l = total_insert_all ps (insert p l) ∙ omega (arith, total_insert p l)

pub total_length : (l : List Piece) → length l ≡ total (λ p. 1) l
unfolding total
total_length [] = refl
total_length (p ∷ l) = omega (arith, total_length l)
