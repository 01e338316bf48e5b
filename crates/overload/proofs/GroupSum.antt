-- Laws for the code that adds up a group's budgets and its cores' capacity.
-- Assumes nothing.
use mathlib.Core.Path.{◌≡◌, sym, ◌∙◌, ap}
use mathlib.Core.Bool.{Bool, true, false, cond}
use mathlib.Core.List.{List, [], ◌∷◌}
use Prim.Native.Nat.{ℕ, suc, min, ◌+◌, ◌*◌, ◌^◌, ◌≤◌, ◌<◌}
use native.Mathlib.Nat.{mul-le-mul_right, mul_comm, le_trans, le_of_eq, one-mul, zero-mul, add-zero, zero-add}
use native.Mathlib.Numerals.{add-one}
use native.Mathlib.Decide.{ℕ_discrete, dec_le}
use native.Mathlib.Omega.{arith}
use borrow.Author.Tests.{eq-eqb, ne_eqb}
use lib.Dec.{eqb}
use lib.ListN.{length, get_or, take, length-take}
use lib.Seq.{get_or-take}
use lib.Count.{ones}
use Rattle.std.specs.List.{filter, fold, sum_by, enumerate_from}
use Rattle.rules.specs.Allocation.{limit_of}
use Rattle.rules.specs.Sum.{sum_to}
use Rattle.rules.specs.Sets.{has}
use Rattle.rules.specs.Plan.{at}
use Rattle.rules.specs.Excess.{group_budget, capacity}
use Rattle.sums.proofs.Sum.{sum_cong, sum_le, sum_const, sum_scale, sum_rest}
use Rattle.sums.proofs.Sets.{has_above, has_zero, has_le_one, ones_has}

-- whether the group has the task of a budget
abbrev pub named : ℕ → ℕ × ℕ → Bool
named g p = eqb (has g p.0) 1

pub named_is : (b : Bool) (h : ℕ) → cond b 1 0 ≡ h → b ≡ eqb h 1
named_is true h e = sym (eq-eqb h 1 (sym e))
named_is false h e = sym (ne_eqb h 1 (omega arith))

-- the budgets of the group among values that stand from n on, each with its task
abbrev pub group_from : ℕ → ℕ → List ℕ → List (ℕ × ℕ)
group_from g n l = filter (named g) (enumerate_from n l)

module _ (g : ℕ) (f : ℕ → ℕ) where
  -- f is what each value adds to the sum
  abbrev Adds : ℕ → List ℕ → Type 0
  Adds n l = (k : ℕ) → k < length l → f (n + k) ≡ has g (n + k) * get_or l k 0

  count_on : (n v : ℕ) → v ≡ f n → sum_to n f + v ≡ sum_to (n + 1) f
  unfolding sum_to
  count_on n v e = rw (add-one n) (ap (λ (k : ℕ). sum_to n f + k) e)

  along : (n k : ℕ) → n + 1 + k ≡ n + suc k
  along n k = omega arith

  later : (n b : ℕ) (l : List ℕ) → Adds n (b ∷ l) → Adds (n + 1) l
  later n b l h k s = rw (along n k) (h (suc k) (omega arith))

  added : (n : ℕ) (l : List ℕ) → Adds n l → fold (λ a p. a + p.1) (sum_to n f) (group_from g n l) ≡ sum_to (n + length l) f
  added n [] h = ap (λ (k : ℕ). sum_to k f) (sym (add-zero n))
  added n (b ∷ l) h =
      let all = added (n + 1) l (later n b l h) in
      elim (ℕ_discrete (has g n) 1) [
        | yes e ↦ rw (eq-eqb (has g n) 1 e) (from (sum_to n f + b) (count_on n b (sym (here ∙ ap (λ (k : ℕ). k * b) e ∙ one-mul b))) all)
        | no ne ↦
            rw (ne_eqb (has g n) 1 ne)
            (from (sum_to n f) (sym (add-zero (sum_to n f)) ∙ count_on n 0 (sym (here ∙ ap (λ (k : ℕ). k * b) (has_zero g n ne) ∙ zero-mul b))) all)
      ]
    where
      here : f n ≡ has g n * b
      here = rw (add-zero n) at (h 0 (omega arith))

      from : (a : ℕ) → a ≡ sum_to (n + 1) f → fold (λ a p. a + p.1) (sum_to (n + 1) f) (group_from g (n + 1) l) ≡ sum_to (n + 1 + length l) f
          → fold (λ a p. a + p.1) a (group_from g (n + 1) l) ≡ sum_to (n + suc (length l)) f
      from a e all = rw e (all ∙ ap (λ (k : ℕ). sum_to k f) (along n (length l)))

-- a group below 2^w names no task from w on, so the sum up to there is the whole
sum_named : (w n g : ℕ) (f : ℕ → ℕ) → g < 2 ^ w → sum_to (min w n) (λ k. has g k * f k) ≡ sum_to n (λ k. has g k * f k)
sum_named w n g f h =
    elim (dec_le n w) [
      | yes l ↦ ap (λ (c : ℕ). sum_to c (λ k. has g k * f k)) (low l)
      | no s ↦ ap (λ (c : ℕ). sum_to c (λ k. has g k * f k)) (high s) ∙ sum_rest w n (λ k. has g k * f k) (omega arith) (λ k a. ap (λ (b : ℕ). b * f k) (has_above w h a) ∙ zero-mul (f k))
    ]
  where
    low : n ≤ w → min w n ≡ n
    low l = omega arith

    high : (n ≤ w → ⊥) → min w n ≡ w
    high s = omega arith

module _ (w : ℕ) (l : List ℕ) (g : ℕ) where
  -- the budgets of the group among the first w
  abbrev pub group_budgets : List (ℕ × ℕ)
  group_budgets = group_from g 0 (take w l)

  members_to : sum_by (λ p. p.1) group_budgets ≡ sum_to (min w (length l)) (λ k. has g k * at l k)
  unfolding sum_to
  members_to =
      added g (λ k. has g k * at l k) 0 (take w l) (λ k s. rw (zero-add k) (ap (λ (b : ℕ). has g k * b) (sym (get_or-take w l k 0 (omega (arith, length-take w l))))))
      ∙ ap (λ (n : ℕ). sum_to n (λ k. has g k * at l k)) (zero-add (length (take w l)) ∙ length-take w l)

  pub group_sum : g < 2 ^ w → sum_by (λ p. p.1) group_budgets ≡ group_budget (length l) (at l) g
  unfolding group_budget
  group_sum h = members_to ∙ sum_named w (length l) g (at l) h

  pub group_sum_fits : w ≤ 64 → ((i : ℕ) → get_or l i 0 < 2 ^ 32) → sum_by (λ p. p.1) group_budgets < 2 ^ 64
  group_sum_fits few h =
      omega (arith, members_to, sum_le (min w (length l)) {f = λ k. has g k * at l k} {g = λ k. 4294967295} (λ k s. le_trans (mul-le-mul_right (at l k) (has_le_one g k)) (le_trans (le_of_eq (one-mul (at l k))) (below (h k)))), sum_const (min w (length l)) 4294967295)
    where
      below : {a : ℕ} → a < 2 ^ 32 → a ≤ 4294967295
      below h = omega arith

-- the capacity of cores that all have one limit, by the count of ones
pub capacity_ones : (F c : ℕ) → c < 2 ^ 16 → F * ones c ≡ capacity 16 (limit_of F) c
unfolding capacity
capacity_ones F c l =
    ap (λ (k : ℕ). F * k) (ones_has 16 c l) ∙ sym (sum_scale 16 F (has c)) ∙ sum_cong 16 (λ j k. mul_comm F (has c j))
