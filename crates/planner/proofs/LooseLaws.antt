-- For peel of peel.rt: what is found on a side holds of the graph, and one vertex after another goes.
-- Assumes nothing.
use mathlib.Core.Path.{◌≡◌, sym, ◌∙◌, subst}
use Prim.Native.Nat.{ℕ, ◌+◌, ◌≤◌, ◌<◌}
use native.Mathlib.Omega.{arith}
use native.Mathlib.Nat.{le_trans}
use Rattle.rules.specs.Sum.{sum_to}
use Rattle.sets.specs.Joined.{joined}
use Rattle.sets.proofs.Members.{joined_in}
use Rattle.forest.specs.Stripping.{there, links, Fast, Stripping}
use Rattle.planner.specs.Loose.{FastBelow, LooseAt}
use Rattle.forest.proofs.Strip.{strip_task, strip_core, fewer_there}

-- what was found on a side holds of the graph that it shows
pub on_side : (P : ℕ → ℕ → (ℕ → ℕ → ℕ) → Type 0) {a b n m : ℕ} {x y : ℕ → ℕ → ℕ} → (a ≡ n) × (b ≡ m) → x ≡ y → P a b x → P n m y
on_side P {a} {b} {n} {m} {x} {y} (e, f) g p = subst (λ (k : ℕ). P k m y) e (subst (λ (k : ℕ). P a k y) f (subst (λ (k : ℕ → ℕ → ℕ). P a b k) g p))

module _ (n m : ℕ) (x : ℕ → ℕ → ℕ) (g h : ℕ) (s : Stripping n m x g h) where
  pub peel_task : (w r b : ℕ) → LooseAt n g (links m h x) r → n ≤ w → b ≡ joined w g r → Stripping n m x b h
  peel_task w r b f a e = subst (λ (k : ℕ). Stripping n m x k h) (sym (e ∙ joined_in w g r (le_trans f.within a))) (strip_task n m x g h r s f.within f.there_still f.loose)

  pub peel_core : (w r b : ℕ) → LooseAt m h (links n g (λ j i. x i j)) r → m ≤ w → b ≡ joined w h r → Stripping n m x g b
  peel_core w r b f a e = subst (λ (k : ℕ). Stripping n m x g k) (sym (e ∙ joined_in w h r (le_trans f.within a))) (strip_core n m x g h r s f.within f.there_still f.loose)

pub task_less : (w n m g h r b : ℕ) (count : ℕ → ℕ) → LooseAt n g count r → n ≤ w → b ≡ joined w g r
    → sum_to n (there b) + sum_to m (there h) < sum_to n (there g) + sum_to m (there h)
task_less w n m g h r b count f a e = rw (e ∙ joined_in w g r (le_trans f.within a)) (lift _ (fewer_there n g r f.within f.there_still))
  where
    lift : {a b : ℕ} (c : ℕ) → a < b → a + c < b + c
    lift c p = omega arith

pub core_less : (w n m g h r b : ℕ) (count : ℕ → ℕ) → LooseAt m h count r → m ≤ w → b ≡ joined w h r
    → sum_to n (there g) + sum_to m (there b) < sum_to n (there g) + sum_to m (there h)
core_less w n m g h r b count f a e = rw (e ∙ joined_in w h r (le_trans f.within a)) (lift _ (fewer_there m h r f.within f.there_still))
  where
    lift : {a b : ℕ} (c : ℕ) → a < b → c + a < c + b
    lift c p = omega arith

pub all_fast : (n m : ℕ) (x : ℕ → ℕ → ℕ) (g h : ℕ) → FastBelow g (links m h x) n → FastBelow h (links n g (λ j i. x i j)) m → Fast n m x g h
all_fast n m x g h a b = record { tasks_fast = a; cores_fast = b }
