-- Laws on the input while it is read in chunks and its answers are written: each case of what is handed out, as the code comes to it.
-- Assumes nothing.
use mathlib.Core.Path.{◌≡◌, refl, ap}
use mathlib.Core.Bool.{true, false}
use mathlib.Core.List.{List}
use Prim.Native.Nat.{ℕ, ◌+◌, ◌≤◌, ◌<◌, min}
use native.Mathlib.Omega.{arith}
use lib.ListN.{length, set, length-set}
use lib.Seq.{get_or-set_same}
use Rattle.stream.specs.Reading.{ahead, stopped_at, Last, none_begun, given_its_feed, no_place, Read, came, ended, failed, stopped, rest, read, Handed, Passed, written, lost}
use Rattle.stream.specs.declared.input.Source.{Source}

-- the end of the input
module _ (s t : Source) (input : List ℕ) (e : t ≡ stopped_at s) where
  pub last_fed : s.begun ≡ true → 0 < length input → Last s (set input 0 10) (record { left = t.left; at = t.at; end = 1; begun = false; unread = t.unread; unwritten = t.unwritten })
  last_fed b h = given_its_feed b (simp length-set h) (get_or-set_same input 0 10 0 h) (ap (λ (x : Source). record { left = x.left; at = x.at; end = 1; begun = false; unread = x.unread; unwritten = x.unwritten }) e)

  pub last_no_place : s.begun ≡ true → length input ≤ 0 → Last s input t
  last_no_place b h = no_place b (omega arith) e

  pub last_none : s.begun ≡ false → Last s input t
  last_none b = none_begun b e

  pub read_failed : Read s input (record { left = t.left; at = t.at; end = t.end; begun = t.begun; unread = true; unwritten = t.unwritten })
  read_failed = failed (ap (λ (x : Source). record { left = x.left; at = x.at; end = x.end; begun = x.begun; unread = true; unwritten = x.unwritten }) e)

-- what is handed out stands in the buffer, and no more bytes may be taken than before
module _ (s : Source) (was input : List ℕ) (r : Source) where
  last_handed : 0 < s.left → Last s input r → (r.at ≤ r.end) × (r.end ≤ length input) × (ahead r ≤ ahead s)
  last_handed some (none_begun b e) = rw e (omega arith, omega arith, omega arith)
  last_handed some (given_its_feed b h f e) = rw e (omega arith, omega arith, omega arith)
  last_handed some (no_place b h e) = rw e (omega arith, omega arith, omega arith)

  read_handed : Read s input r → (r.at ≤ r.end) × (r.end ≤ length input) × (ahead r ≤ ahead s)
  read_handed (came n h g f e) = rw e (omega arith, omega arith, omega arith)
  read_handed (ended some l) = last_handed some l
  read_handed (failed e) = rw e (omega arith, omega arith, omega arith)
  read_handed (stopped h e) = rw e (omega arith, omega arith, omega arith)

  pub handed_read : (s.at < s.end → s.end ≤ length was → ⊥) → Read s input r → Handed s was input r
  handed_read h q = let b = read_handed q in record { order = b.0; within = b.1; no_more = b.2; next = read h q }

pub some_left : (s : Source) (was : List ℕ) → s.at < s.end → s.end ≤ length was → Handed s was was s
some_left s was h g = record { order = omega arith; within = g; no_more = omega arith; next = rest h g refl refl }

-- nothing came: the input has ended
pub read_ended : (s r : Source) (input : List ℕ) → (s.left ≡ 0 → ⊥) → Last s input r → Read s input r
read_ended s r input h l = ended (omega arith) l

-- the answers of the bytes taken were written, or not
pub passed_written : (s : Source) (taken n : ℕ) → n ≡ min (s.at + taken) s.end
    → Passed s taken (record { left = s.left; at = n; end = s.end; begun = s.begun; unread = s.unread; unwritten = s.unwritten })
passed_written s taken n e = written (ap (λ (x : ℕ). record { left = s.left; at = x; end = s.end; begun = s.begun; unread = s.unread; unwritten = s.unwritten }) e)

-- a turn of a program's loop takes a byte at least, so fewer may still be taken after it
pub turn_less : (s h r : Source) (taken : ℕ) → ahead h ≤ ahead s → h.at ≤ h.end → (h.at ≡ h.end → ⊥) → 1 ≤ taken → Passed h taken r → ahead r < ahead s
turn_less s h r taken few order some one (written e) = rw e (omega arith)
turn_less s h r taken few order some one (lost e) = rw e (omega arith)
