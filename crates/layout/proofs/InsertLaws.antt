-- Laws for `insert_piece` and `add_stretch` of `pieces`: making room in a table and writing a piece there is putting the piece in by its start.
-- Assumes nothing.
use mathlib.Core.Path.{◌≡◌, refl, sym, ◌∙◌, ap, ap₂}
use mathlib.Core.List.{List, [], ◌∷◌, ◌++◌, append_assoc}
use Prim.Native.Nat.{ℕ, suc, ◌+◌, ◌-◌, ◌*◌, ◌≤◌, ◌<◌}
use native.Mathlib.Nat.{le_refl}
use native.Mathlib.Decide.{ℕ_discrete}
use native.Mathlib.Omega.{arith}
use lib.ListN.{length, get_or, take, drop, length-append}
use borrow.Rule.Slice.PartMut.{put_mid, Post-is}
use lib.Seq.{slice, take-append-le, take-take, take_at, drop_at, drop-drop, get_or-append-add, drop-append-add, length-take-le}
use Rattle.rules.specs.Piece.{Piece, numbers_of}
use Rattle.rules.specs.Moves.{insert}
use Rattle.rules.specs.Table.{cut, insert_all}
use Rattle.layout.specs.Pieces.{Room, Placed, gap, Inserts}
use Rattle.sums.proofs.Inserted.{insert_later, insert_here, length_insert}
use Rattle.stretches.proofs.Numbers.{numbers_append}
use Rattle.rules.proofs.Numbers.{length_numbers}
use Rattle.stretches.proofs.Cuts.{cut_fits, cut_crosses}

-- the list with a piece put in at the place r
abbrev placed_in : List ℕ → ℕ → ℕ → Piece → List ℕ
placed_in l r c p = take (4 * r) l ++ (numbers_of (p ∷ []) ++ (slice (4 * r) (4 * c) l ++ drop (4 * c + 4) l))

-- a piece in the place of four numbers
pub piece_written : (l : List ℕ) (i : ℕ) (p : Piece) (ys : List ℕ) → ys ≡ numbers_of (p ∷ []) → put_mid i (i + 4 - i) l ys ≡ take i l ++ (numbers_of (p ∷ []) ++ drop (i + 4) l)
piece_written l i p ys e = ap₂ (λ (s t : List ℕ). take i l ++ (s ++ t)) e (Post-is i (i + 4) l (omega arith))

gap_written : (l : List ℕ) (i c : ℕ) (p : Piece) → i ≤ c → c + 4 ≤ length l
    → take i (gap l i c) ++ (numbers_of (p ∷ []) ++ drop (i + 4) (gap l i c)) ≡ take i l ++ (numbers_of (p ∷ []) ++ (slice i c l ++ drop (c + 4) l))
unfolding gap
gap_written l i c p h k =
    ap₂ (λ (s t : List ℕ). s ++ (numbers_of (p ∷ []) ++ t))
    (take-append-le i (take (i + 4) l) (slice i c l ++ drop (c + 4) l) (omega (arith, length-take-le (i + 4) l (omega arith))) ∙ take-take i (i + 4) l (omega arith))
    (drop_at (take (i + 4) l) (slice i c l ++ drop (c + 4) l) (i + 4) (length-take-le (i + 4) l (omega arith)))

module _ (rest : List ℕ) (p : Piece) where
  put_here : (a b : List Piece) → placed_in (numbers_of a ++ (numbers_of b ++ rest)) (length a) (length a + length b) p ≡ numbers_of a ++ (numbers_of (p ∷ b) ++ drop 4 rest)
  put_here a b = ap₂ ◌++◌ front (ap (λ (l : List ℕ). numbers_of (p ∷ []) ++ l) (ap₂ ◌++◌ middle back))
    where
      front : take (4 * length a) (numbers_of a ++ (numbers_of b ++ rest)) ≡ numbers_of a
      front = take_at (numbers_of a) (numbers_of b ++ rest) (4 * length a) (length_numbers a)

      both : length (numbers_of a ++ numbers_of b) ≡ 4 * (length a + length b)
      both = length-append (numbers_of a) (numbers_of b) ∙ omega (arith, length_numbers a, length_numbers b)

      joined : numbers_of a ++ (numbers_of b ++ rest) ≡ (numbers_of a ++ numbers_of b) ++ rest
      joined = sym (append_assoc (numbers_of a) (numbers_of b) rest)

      middle : slice (4 * length a) (4 * (length a + length b)) (numbers_of a ++ (numbers_of b ++ rest)) ≡ numbers_of b
      middle =
          ap (drop (4 * length a)) (ap (take (4 * (length a + length b))) joined ∙ take_at (numbers_of a ++ numbers_of b) rest (4 * (length a + length b)) both)
          ∙ drop_at (numbers_of a) (numbers_of b) (4 * length a) (length_numbers a)

      back : drop (4 * (length a + length b) + 4) (numbers_of a ++ (numbers_of b ++ rest)) ≡ drop 4 rest
      back =
          ap (drop (4 * (length a + length b) + 4)) joined ∙ ap (λ (k : ℕ). drop (k + 4) ((numbers_of a ++ numbers_of b) ++ rest)) (sym both) ∙ drop-append-add (numbers_of a ++ numbers_of b) rest 4

  start_at : (a b : List Piece) (q : Piece) → get_or (numbers_of a ++ (numbers_of (q ∷ b) ++ rest)) (4 * length a + 2) 0 ≡ q.start
  start_at a b q = ap (λ (k : ℕ). get_or (numbers_of a ++ (numbers_of (q ∷ b) ++ rest)) (k + 2) 0) (sym (length_numbers a)) ∙ get_or-append-add (numbers_of a) (numbers_of (q ∷ b) ++ rest) 2 0

  put_in : (b a : List Piece) (r : ℕ) (l : List ℕ) → l ≡ numbers_of a ++ (numbers_of b ++ rest) → Placed l (length a) (length a + length b) p.start r
      → placed_in l r (length a + length b) p ≡ numbers_of a ++ (numbers_of (insert p b) ++ drop 4 rest)
  unfolding insert
  put_in [] a r l e h =
      ap₂ (λ (k : ℕ) (t : List ℕ). placed_in t k (length a + 0) p) (only h.low h.high) e ∙ put_here a []
    where
      only : {r n : ℕ} → n ≤ r → r ≤ n + 0 → r ≡ n
      only a b = omega arith
  put_in (q ∷ b) a r l e h =
      elim (ℕ_discrete r (length a)) [
        | yes d ↦
            ap₂ (λ (k : ℕ) (t : List ℕ). placed_in t k (length a + length (q ∷ b)) p) d e ∙ put_here a (q ∷ b)
            ∙ ap (λ (s : List Piece). numbers_of a ++ (numbers_of s ++ drop 4 rest)) (sym (insert_here p q b (first d)))
        | no ne ↦
            ap (λ (k : ℕ). placed_in l r k p) moved ∙ put_in b (a ++ (q ∷ [])) r l (e ∙ regroup) (later ne)
            ∙ again ∙ ap (λ (s : List Piece). numbers_of a ++ (numbers_of s ++ drop 4 rest)) (sym (insert_later p q b (passed ne)))
      ]
    where
      value : get_or l (4 * length a + 2) 0 ≡ q.start
      value = ap (λ (t : List ℕ). get_or t (4 * length a + 2) 0) e ∙ start_at a b q

      first : r ≡ length a → p.start < q.start
      first d = omega (arith, value, h.here (omega arith), ap (λ (k : ℕ). get_or l (4 * k + 2) 0) d)

      passed : (r ≡ length a → ⊥) → q.start ≤ p.start
      passed ne = omega (arith, value, h.before (length a) (le_refl _) (omega (arith, h.low)))

      one_more : length (a ++ (q ∷ [])) ≡ suc (length a)
      one_more = length-append a (q ∷ []) ∙ omega arith

      moved : length a + length (q ∷ b) ≡ length (a ++ (q ∷ [])) + length b
      moved = omega (arith, one_more)

      front : numbers_of (a ++ (q ∷ [])) ≡ numbers_of a ++ (q.core ∷ q.task ∷ q.start ∷ q.len ∷ [])
      front = numbers_append a (q ∷ [])

      regroup : numbers_of a ++ (numbers_of (q ∷ b) ++ rest) ≡ numbers_of (a ++ (q ∷ [])) ++ (numbers_of b ++ rest)
      regroup = sym (ap (λ (t : List ℕ). t ++ (numbers_of b ++ rest)) front ∙ append_assoc (numbers_of a) (q.core ∷ q.task ∷ q.start ∷ q.len ∷ []) (numbers_of b ++ rest))

      again : numbers_of (a ++ (q ∷ [])) ++ (numbers_of (insert p b) ++ drop 4 rest) ≡ numbers_of a ++ (numbers_of (q ∷ insert p b) ++ drop 4 rest)
      again = ap (λ (t : List ℕ). t ++ (numbers_of (insert p b) ++ drop 4 rest)) front ∙ append_assoc (numbers_of a) (q.core ∷ q.task ∷ q.start ∷ q.len ∷ []) (numbers_of (insert p b) ++ drop 4 rest)

      later : (r ≡ length a → ⊥) → Placed l (length (a ++ (q ∷ []))) (length (a ++ (q ∷ [])) + length b) p.start r
      later ne =
          record {
            low = omega (arith, one_more, h.low);
            high = omega (arith, one_more, h.high);
            before = λ k u v. h.before k (omega (arith, one_more)) v;
            here = λ u. h.here (omega (arith, one_more));
          }

pub insert_done : (l t u : List ℕ) (from count : ℕ) (p : Piece) (r : ℕ) → Room (count + 1) (length l) → Placed l from count p.start r → t ≡ gap l (4 * r) (4 * count)
    → u ≡ take (4 * r) t ++ (numbers_of (p ∷ []) ++ drop (4 * r + 4) t) → Inserts from count (p ∷ []) l u
unfolding insert_all
insert_done l t u from count p r room h e f a b rest la lb d =
    f ∙ ap (λ (t : List ℕ). take (4 * r) t ++ (numbers_of (p ∷ []) ++ drop (4 * r + 4) t)) e ∙ gap_written l (4 * r) (4 * count) p (omega (arith, h.high)) (omega (arith, room.room_for))
    ∙ ap (λ (k : ℕ). placed_in l r k p) (sym lb)
    ∙ put_in rest p b a r l d (record { low = omega (arith, h.low); high = omega (arith, h.high); before = λ k u v. h.before k (omega arith) v; here = λ u. h.here (omega arith) })

-- the room for the pieces of a stretch
pub room_one : (F core task s len count n : ℕ) → s + len ≤ F → Room (count + length (cut F core task s len)) n → Room (count + 1) n
room_one F core task s len count n h r = rw (ap length (cut_fits F core task s len h)) at r

pub room_two : (F core task s len count n : ℕ) → F < s + len → Room (count + length (cut F core task s len)) n → Room (count + 1 + 1) n
room_two F core task s len count n h r =
    record { few = omega (arith, r.few, ap length (cut_crosses F core task s len h)); room_for = omega (arith, r.room_for, ap length (cut_crosses F core task s len h)) }

pub room_less : {k n : ℕ} → Room (k + 1) n → Room k n
room_less r = record { few = omega (arith, r.few); room_for = omega (arith, r.room_for) }

pub inserts_then : (from count : ℕ) (p q : Piece) (l t u : List ℕ) → Inserts from count (p ∷ []) l t → Inserts from (count + 1) (q ∷ []) t u → Inserts from count (p ∷ q ∷ []) l u
unfolding insert_all
inserts_then from count p q l t u h k a b rest la lb e =
    k a (insert p b) (drop 4 rest) la (omega (arith, length_insert p b)) (h a b rest la lb e)
    ∙ ap (λ (s : List ℕ). numbers_of a ++ (numbers_of (insert q (insert p b)) ++ s)) (drop-drop 4 4 rest)

pub cut_one : (F core task s len from count : ℕ) (l u : List ℕ) → s + len ≤ F → Inserts from count (record { core = core; task = task; start = s; len = len } ∷ []) l u
    → (count + 1 ≡ count + length (cut F core task s len)) × Inserts from count (cut F core task s len) l u
cut_one F core task s len from count l u h k = rw (cut_fits F core task s len h) (refl, k)

pub cut_two : (F core task s len from count : ℕ) (l t u : List ℕ) → F < s + len → Inserts from count (record { core = core; task = task; start = s; len = F - s } ∷ []) l t
    → Inserts from (count + 1) (record { core = core; task = task; start = 0; len = (s + len) - F } ∷ []) t u
    → (count + 2 ≡ count + length (cut F core task s len)) × Inserts from count (cut F core task s len) l u
cut_two F core task s len from count l t u h j k = rw (cut_crosses F core task s len h) (refl, inserts_then from count _ _ l t u j k)
