-- Laws for `fitting`: what each test finds decides a part of `Fits`.
-- Assumes nothing.
use mathlib.Core.Path.{◌≡◌, refl, ◌∙◌, ap}
use mathlib.Core.Bool.{Bool, true, false, not, true≢false, false≢true}
use mathlib.Core.List.{List}
use Prim.Native.Nat.{ℕ, zero, suc, ◌+◌, ◌≤◌, ◌<◌}
use native.Mathlib.Decide.{ℕ_discrete, dec_le}
use native.Mathlib.Omega.{arith}
use lib.Dec.{leb, eqb}
use lib.ListN.{length, get_or, take, drop}
use mir.Val.{bool_byte}
use Rattle.std.proofs.lemmas.List.{get_or-take, get_or-drop, length-take}
use Rattle.std.specs.List.{fold, list_all, range_with_len, sum_by}
use Rattle.std.proofs.Common.{add-zero, zero-add}
use borrow.Author.Tests.{le-leb, lt-leb, ne_eqb}
use Rattle.rules.specs.Sizes.{max_cores}
use Rattle.rules.specs.Sum.{positive, sum_to}
use Rattle.sums.proofs.SumLoops.{sum_none, sum_more}
use Rattle.fitting.specs.Fits.{Tells}
use Rattle.fitting.specs.Fitting.{AtMost, row_of, used_of, Counted}

-- a number of the part of a list that begins at a
pub row_get : (l : List ℕ) (a k i : ℕ) → i < length (take k (drop a l)) → get_or (take k (drop a l)) i 0 ≡ get_or l (a + i) 0
row_get l a k i h = get_or-take k (drop a l) i 0 (omega (arith, length-take k (drop a l))) ∙ get_or-drop a l i 0

-- whether units are used, as a number
one_if : (v : ℕ) → bool_byte (not (eqb v 0)) ≡ positive v
one_if zero = refl
one_if (suc v) = rw (ne_eqb (suc v) 0 (omega arith))

pub used_as_number : {r v u : ℕ} → r ≡ bool_byte (not (eqb v 0)) → v ≡ u → r ≡ positive u
used_as_number e g = e ∙ one_if _ ∙ ap positive g

pub used_below : {r : ℕ} (b : Bool) → r ≡ bool_byte b → r ≤ 1
used_below false e = omega arith
used_below true e = omega arith

-- a test that said yes or no
says_yes : {P : Type 0} → P → Tells P true
says_yes p = record { yes = λ e. p; no = λ e. absurd (true≢false e) }

says_no : {P : Type 0} → (P → ⊥) → Tells P false
says_no n = record { yes = λ e. absurd (false≢true e); no = λ e. n }

-- one value after another is held against F
module _ (F : ℕ) (f : ℕ → ℕ) where
  most_none : AtMost F 0 f
  most_none i l = absurd (omega arith)

  most_more : (i v most : ℕ) → AtMost F i f → most ≡ F → v ≡ f i → v ≤ most → AtMost F (i + 1) f
  most_more i v most h e d l k b =
      elim (ℕ_discrete k i) [
        | yes s ↦ omega (arith, ap f s)
        | no ne ↦ h k (omega arith)
      ]

-- the rows, task by task, with their used cells
module _ (F m : ℕ) (x : ℕ → ℕ → ℕ) where
  pub counted_none : Counted F 0 m x 0
  counted_none = record { rows = most_none F (row_of m x); used = sum_none (used_of m x); few = omega arith }

  pub counted_more : (t u most s k : ℕ) → Counted F t m x u → most ≡ F → s ≡ row_of m x t → k ≡ used_of m x t → k ≤ max_cores → s ≤ most → Counted F (t + 1) m x (u + k)
  counted_more t u most s k h e d g l b =
      record { rows = most_more F (row_of m x) t s most h.rows e d b; used = sum_more (used_of m x) u t k h.used g; few = omega (arith, h.few) }

-- a test at each number of a range
pub all_told : (F : ℕ) (f : ℕ → ℕ) (n a : ℕ) → Tells ((i : ℕ) → a ≤ i → i < a + n → f i ≤ F) (list_all (λ j. leb (f j) F) (range_with_len a n))
all_told F f zero a = says_yes (λ i l h. absurd (omega arith))
all_told F f (suc n) a =
    elim (dec_le (f a) F) [
      | yes h ↦ rw (le-leb (f a) F h) (rest h (all_told F f n (a + 1)))
      | no g ↦ rw (lt-leb (f a) F (omega arith)) (says_no (λ p. g (p a (omega arith) (omega arith))))
    ]
  where
    next : f a ≤ F → ((i : ℕ) → a + 1 ≤ i → i < a + 1 + n → f i ≤ F) → (i : ℕ) → a ≤ i → i < a + suc n → f i ≤ F
    next h p i l k =
        elim (ℕ_discrete i a) [
          | yes e ↦ rw e h
          | no ne ↦ p i (omega arith) (omega arith)
        ]

    rest : {r : Bool} → f a ≤ F → Tells ((i : ℕ) → a + 1 ≤ i → i < a + 1 + n → f i ≤ F) r → Tells ((i : ℕ) → a ≤ i → i < a + suc n → f i ≤ F) r
    rest h t = record { yes = λ e. next h (t.yes e); no = λ e p. t.no e (λ i l k. p i (omega arith) (omega arith)) }

pub columns_told : (F : ℕ) (f : ℕ → ℕ) (n : ℕ) {r : Bool} → r ≡ list_all (λ j. leb (f j) F) (range_with_len 0 n) → Tells (AtMost F n f) r
columns_told F f n e =
    rw e (let t = all_told F f n 0 in record { yes = λ y i l. t.yes y i (omega arith) (omega arith); no = λ y p. t.no y (λ i a l. p i (omega arith)) })

-- the sum over a range
sum_from : (f : ℕ → ℕ) (n a v : ℕ) → v ≡ sum_to a f → fold (λ s i. s + f i) v (range_with_len a n) ≡ sum_to (a + n) f
sum_from f zero a v e = rw add-zero e
sum_from f (suc n) a v e = sum_from f n (a + 1) (v + f a) (sum_more f v a (f a) e refl) ∙ ap (λ (k : ℕ). sum_to k f) (moved a)
  where
    moved : (a : ℕ) → a + 1 + n ≡ a + suc n
    moved a = omega arith

pub sum_by_range : (f : ℕ → ℕ) (n : ℕ) → sum_by f (range_with_len 0 n) ≡ sum_to n f
sum_by_range f n = sum_from f n 0 0 (sum_none f) ∙ ap (λ (k : ℕ). sum_to k f) (zero-add n)
