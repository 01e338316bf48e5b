-- Laws on the first place where a test passes.
-- Assumes nothing.
use mathlib.Core.Path.{◌≡◌, refl, ◌∙◌, ap}
use mathlib.Core.Bool.{Bool, true, false}
use mathlib.Core.List.{List, [], ◌∷◌}
use Prim.Native.Nat.{ℕ, zero, suc, ◌≤◌, ◌<◌}
use native.Mathlib.Omega.{arith}
use lib.ListN.{length, get_or}
use Rattle.rules.specs.Sum.{first_at}

module _ (p : ℕ → Bool) where
  first_cons_hit : (a : ℕ) (l : List ℕ) → p a ≡ true → first_at p (a ∷ l) ≡ 0
  unfolding first_at
  first_cons_hit a l e = rw (e, first_at)

  first_cons_miss : (a : ℕ) (l : List ℕ) → p a ≡ false → first_at p (a ∷ l) ≡ suc (first_at p l)
  unfolding first_at
  first_cons_miss a l e = rw (e, first_at)

  first_nil : first_at p [] ≡ 0
  unfolding first_at
  first_nil = refl

-- the first place is one where the test passes, nothing before it does, and no other place is so
module _ (p : ℕ → Bool) where
  nowhere : {i : ℕ} → i < 0 → ⊥
  nowhere l = omega arith

  pub first_passes : (s : List ℕ) → first_at p s < length s → p (get_or s (first_at p s) 0) ≡ true
  first_passes [] l = absurd (nowhere l)
  first_passes (a ∷ s) l = by (p a) refl (first_passes s)
    where
      by : (b : Bool) → p a ≡ b → (first_at p s < length s → p (get_or s (first_at p s) 0) ≡ true) → p (get_or (a ∷ s) (first_at p (a ∷ s)) 0) ≡ true
      by true e later = rw (first_cons_hit p a s e) e
      by false e later = rw (first_cons_miss p a s e) (later (omega (arith, l, first_cons_miss p a s e)))

  pub first_before : (s : List ℕ) (k : ℕ) → k < first_at p s → p (get_or s k 0) ≡ false
  first_before [] k l = absurd (nowhere (rw (first_nil p) at l))
  first_before (a ∷ s) k l = by (p a) refl k l (first_before s)
    where
      by : (b : Bool) → p a ≡ b → (k : ℕ) → k < first_at p (a ∷ s) → ((j : ℕ) → j < first_at p s → p (get_or s j 0) ≡ false) → p (get_or (a ∷ s) k 0) ≡ false
      by true e k l later = absurd (nowhere (rw (first_cons_hit p a s e) at l))
      by false e zero l later = e
      by false e (suc k) l later = later k (omega (arith, l, first_cons_miss p a s e))

  pub first_is : (s : List ℕ) (i : ℕ) → i < length s → p (get_or s i 0) ≡ true → ((k : ℕ) → k < i → p (get_or s k 0) ≡ false) → first_at p s ≡ i
  first_is [] i l e h = absurd (nowhere l)
  first_is (a ∷ s) zero l e h = first_cons_hit p a s e
  first_is (a ∷ s) (suc i) l e h =
      first_cons_miss p a s (h 0 (omega arith)) ∙ ap suc (first_is s i (omega arith) e (λ k g. h (suc k) (omega arith)))

  pub first_nowhere : (s : List ℕ) → ((k : ℕ) → k < length s → p (get_or s k 0) ≡ false) → length s ≤ first_at p s
  first_nowhere [] h = omega arith
  first_nowhere (a ∷ s) h = omega (arith, first_nowhere s (λ k l. h (suc k) (omega arith)), first_cons_miss p a s (h 0 (omega arith)))
