-- The task's pieces from an instant on: the search for the next piece finds the first of them, and the rest follow its end.
-- Assumes nothing.
use mathlib.Core.Path.{◌≡◌, refl, sym, ◌∙◌, ap}
use mathlib.Core.Bool.{true, cond, true≢false}
use mathlib.Core.List.{List, [], ◌∷◌}
use mathlib.Core.Logic.{inl, inr, ⊎_elim}
use Prim.Native.Nat.{ℕ, zero, suc, ◌+◌, ◌≤◌, ◌<◌}
use native.Mathlib.Nat.{not-suc-le-zero, le_refl}
use native.Mathlib.Decide.{ℕ_discrete, dec_lt, dec_le}
use native.Mathlib.Numerals.{add-one}
use native.Mathlib.Omega.{arith}
use lib.Dec.{leb}
use borrow.Author.Tests.{le-leb, lt-leb, lt-ltb, le-ltb}
use Rattle.rules.specs.Piece.{Piece, piece_at, pieces_of, whole_pieces}
use Rattle.rules.specs.FrameTable.{frame_table}
use Rattle.rules.specs.Moves.{by_start}
use Rattle.moves.specs.Next.{next_to, next_piece}
use Rattle.std.specs.Prelude.{Option, None, Some, is_some, unwrap_or}
use Rattle.moves.proofs.Next.{sooner_task, sooner_early, sooner_first, sooner_start, next_better, next_same}
use Rattle.moves.proofs.Member.{In, in_by_start, by_start_in, in_first, first_in}
use Rattle.moves.proofs.Order.{Chain, chain_start, chain_of_table}

pub some_same : (a b : ℕ) → Some a ≡ Some b → a ≡ b
some_same a b e = ap (λ (o : Option ℕ). unwrap_or o 0) e

pub some_not_none : (a : ℕ) → Some a ≡ None → ⊥
some_not_none a e = true≢false (ap is_some e)

-- the pieces of the list that start at e or later
unfoldable pub rest : ℕ → List Piece → List Piece
rest e [] = []
rest e (q ∷ l) = cond (leb e q.start) (q ∷ rest e l) (rest e l)

module _ (e : ℕ) (q : Piece) (l : List Piece) where
  pub rest_in : e ≤ q.start → rest e (q ∷ l) ≡ q ∷ rest e l
  unfolding rest
  rest_in h = rw (le-leb _ _ h)

  pub rest_out : q.start < e → rest e (q ∷ l) ≡ rest e l
  unfolding rest
  rest_out h = rw (lt-leb _ _ h)

pub rest_all : (e b : ℕ) (l : List Piece) → Chain b l → e ≤ b → rest e l ≡ l
unfolding rest
rest_all e b [] c h = refl
rest_all e b (q ∷ l) c h =
    rest_in e q l (omega (arith, c.0)) ∙ ap (λ (r : List Piece). q ∷ r) (rest_all e (q.start + q.len) l c.2 (omega (arith, c.0)))

pub rest_nothing : (e : ℕ) (l : List Piece) → ((r : Piece) → In r l → e ≤ r.start → ⊥) → rest e l ≡ []
unfolding rest
rest_nothing e [] f = refl
rest_nothing e (q ∷ l) f =
    elim (dec_le e q.start) [
      | yes h ↦ absurd (f q (inl refl) h)
      | no h ↦ rest_out e q l (omega arith) ∙ rest_nothing e l (λ r i. f r (inr i))
    ]

-- q starts first among those from e on
pub rest_first : (e b : ℕ) (s : List Piece) (q : Piece) → Chain b s → In q s → e ≤ q.start
    → ((r : Piece) → In r s → e ≤ r.start → q.start ≤ r.start) → rest e s ≡ q ∷ rest (q.start + q.len) s
rest_first e b [] q c i h f = absurd i
rest_first e b (a ∷ l) q c i h f =
    elim (dec_le e a.start) [
      | yes g ↦ ⊎_elim (λ d. here g d) (λ j. absurd (late g (chain_start (a.start + a.len) l q c.2 j))) i
      | no g ↦
          ⊎_elim (λ d. absurd (g (omega (arith, ap (λ (r : Piece). r.start) d))))
          (λ j. later (omega arith) (chain_start (a.start + a.len) l q c.2 j) (rest_first e (a.start + a.len) l q c.2 j h (λ r k. f r (inr k)))) i
    ]
  where
    here : e ≤ a.start → q ≡ a → rest e (a ∷ l) ≡ q ∷ rest (q.start + q.len) (a ∷ l)
    here g d =
        rw d
        (rest_in e a l g ∙ ap (λ (r : List Piece). a ∷ r)
        (rest_all e (a.start + a.len) l c.2 (omega arith) ∙ sym (rest_out (a.start + a.len) a l (omega (arith, c.1)) ∙ rest_all (a.start + a.len) (a.start + a.len) l c.2 (le_refl _))))

    late : e ≤ a.start → a.start + a.len ≤ q.start → ⊥
    late g k = omega (arith, f a (inl refl) g, c.1)

    later : a.start < e → a.start + a.len ≤ q.start → rest e l ≡ q ∷ rest (q.start + q.len) l → rest e (a ∷ l) ≡ q ∷ rest (q.start + q.len) (a ∷ l)
    later g k r = rest_out e a l g ∙ r ∙ ap (λ (s : List Piece). q ∷ s) (sym (rest_out (q.start + q.len) a l (omega (arith, c.1))))

-- what the search among the first c pieces finds
module _ (l : List ℕ) (task from : ℕ) where
  -- piece k is one of the task's from the instant on
  abbrev pub Fits : ℕ → Type 0
  Fits k = ((piece_at l k).task ≡ task) × (from ≤ (piece_at l k).start)

  pub data Found (c : ℕ) (r : Option ℕ) : Type 0 where
    nothing : r ≡ None → ((k : ℕ) → k < c → Fits k → ⊥) → Found c r
    piece : (b : ℕ) → r ≡ Some b → b < c → Fits b → ((k : ℕ) → k < c → Fits k → (piece_at l b).start ≤ (piece_at l k).start) → Found c r

  -- one piece more: it is the best then, or it does not fit, or it starts no sooner
  found_new : (c : ℕ) (r : Option ℕ) → Some c ≡ r → Fits c → ((k : ℕ) → k < c → Fits k → (piece_at l c).start ≤ (piece_at l k).start) → Found (c + 1) r
  found_new c r e i f =
      piece c (sym e) (omega arith) i (λ k n j. elim (ℕ_discrete k c) [ yes x ↦ rw x (le_refl _) | no x ↦ f k (omega arith) j ])

  found_unfit : (c : ℕ) (best r : Option ℕ) → Found c best → best ≡ r → (Fits c → ⊥) → Found (c + 1) r
  found_unfit c best r (nothing e f) d g =
      nothing (sym d ∙ e) (λ k h i. elim (ℕ_discrete k c) [ yes x ↦ g (rw x at i) | no x ↦ f k (omega arith) i ])
  found_unfit c best r (piece b e h i f) d g =
      piece b (sym d ∙ e) (omega arith) i
      (λ k j n. elim (ℕ_discrete k c) [ yes x ↦ absurd (g (rw x at n)) | no x ↦ f k (omega arith) n ])

  found_later : (c b : ℕ) (best r : Option ℕ) → best ≡ Some b → b < c → Fits b → ((k : ℕ) → k < c → Fits k → (piece_at l b).start ≤ (piece_at l k).start)
      → best ≡ r → (piece_at l b).start ≤ (piece_at l c).start → Found (c + 1) r
  found_later c b best r e h i f d g =
      piece b (sym d ∙ e) (omega arith) i (λ k j n. elim (ℕ_discrete k c) [ yes x ↦ rw x g | no x ↦ f k (omega arith) n ])

  found_more : (c : ℕ) (best : Option ℕ) → best ≡ next_to l task from c → Found c best → Found (c + 1) (next_to l task from (c + 1))
  found_more c best e g =
      elim (ℕ_discrete (piece_at l c).task task) [
        | no t ↦ found_unfit c best _ g (next_same l task from best c e (sooner_task l task from best c t)) (λ i. t i.0)
        | yes t ↦
            elim (dec_le from (piece_at l c).start) [
              | no n ↦ found_unfit c best _ g (next_same l task from best c e (sooner_early l task from best c t (omega arith))) (λ i. n i.1)
              | yes n ↦ in_question g t n
            ]
      ]
    where
      in_question : Found c best → (piece_at l c).task ≡ task → from ≤ (piece_at l c).start → Found (c + 1) (next_to l task from (c + 1))
      in_question (nothing d f) t n =
          found_new c _ (next_better l task from best c e (sooner_first l task from best c t n d)) (t, n) (λ k h i. absurd (f k h i))
      in_question (piece b d r i f) t n =
          elim (dec_lt (piece_at l c).start (piece_at l b).start) [
            | yes s ↦
                found_new c _ (next_better l task from best c e (sooner_start l task from best c t n b d ∙ lt-ltb _ _ s)) (t, n)
                (λ k h j. omega (arith, f k h j))
            | no s ↦
                found_later c b best _ d r i f
                (next_same l task from best c e (sooner_start l task from best c t n b d ∙ le-ltb (piece_at l c).start (piece_at l b).start (omega arith)))
                (omega arith)
          ]

  pub next_found : (c : ℕ) → Found c (next_to l task from c)
  unfolding next_to
  next_found zero = nothing refl (λ k n i. not-suc-le-zero n)
  next_found (suc c) = rw add-one at (found_more c (next_to l task from c) refl (next_found c))

  found : Found (whole_pieces l) (next_piece l task from)
  unfolding next_piece
  found = next_found (whole_pieces l)

  -- what the search found is a piece of the table, and fits
  module _ (k : ℕ) (is : Some k ≡ next_piece l task from) where
    one_found : (k < whole_pieces l) × Fits k × ((j : ℕ) → j < whole_pieces l → Fits j → (piece_at l k).start ≤ (piece_at l j).start)
    one_found = go found
      where
        go : Found (whole_pieces l) (next_piece l task from)
            → (k < whole_pieces l) × Fits k × ((j : ℕ) → j < whole_pieces l → Fits j → (piece_at l k).start ≤ (piece_at l j).start)
        go (nothing d f) = absurd (some_not_none k (is ∙ d))
        go (piece b d n i f) = rw (some_same k b (is ∙ d)) (n, i, f)

    pub next_inside : k < whole_pieces l
    next_inside = one_found.0

    pub next_from : ((piece_at l k).task ≡ task) × (from ≤ (piece_at l k).start)
    next_from = one_found.1

  none_found : None ≡ next_piece l task from → (k : ℕ) → k < whole_pieces l → Fits k → ⊥
  none_found e = go found
    where
      go : Found (whole_pieces l) (next_piece l task from) → (k : ℕ) → k < whole_pieces l → Fits k → ⊥
      go (nothing d f) = f
      go (piece b d n i f) = absurd (some_not_none b (sym (e ∙ d)))

-- the search over a frame table: the first of the rest, or none of it
module _ (F m : ℕ) (l : List ℕ) (task from : ℕ) (table : frame_table F m l ≡ true) where
  own : (k : ℕ) → k < whole_pieces l → (piece_at l k).task ≡ task → In (piece_at l k) (by_start task (pieces_of l))
  own k h e = by_start_in task (piece_at l k) (pieces_of l) (first_in l (whole_pieces l) k h) e

  whose : (r : Piece) → In r (by_start task (pieces_of l)) → (k : ℕ) × (k < whole_pieces l) × (r ≡ piece_at l k) × ((piece_at l k).task ≡ task)
  whose r i = named (in_by_start task r (pieces_of l) i) (in_first l (whole_pieces l) r (in_by_start task r (pieces_of l) i).0)
    where
      named : In r (pieces_of l) × (r.task ≡ task) → (k : ℕ) × (k < whole_pieces l) × (r ≡ piece_at l k) → (k : ℕ) × (k < whole_pieces l) × (r ≡ piece_at l k) × ((piece_at l k).task ≡ task)
      named j n = (n.0, n.1, n.2, ap (λ (q : Piece). q.task) (sym n.2) ∙ j.1)

  begin : {a b : ℕ} → a ≡ b → from ≤ a → from ≤ b
  begin p q = omega arith

  pub next_rest : (k : ℕ) → Some k ≡ next_piece l task from
      → rest from (by_start task (pieces_of l)) ≡ piece_at l k ∷ rest ((piece_at l k).start + (piece_at l k).len) (by_start task (pieces_of l))
  next_rest k e =
      rest_first from 0 (by_start task (pieces_of l)) (piece_at l k) (chain_of_table F m l task table) (own k one.0 one.1.0) one.1.1
      (λ r j g. least r (whose r j) g)
    where
      one : (k < whole_pieces l) × Fits l task from k × ((j : ℕ) → j < whole_pieces l → Fits l task from j → (piece_at l k).start ≤ (piece_at l j).start)
      one = one_found l task from k e

      least : (r : Piece) → (k : ℕ) × (k < whole_pieces l) × (r ≡ piece_at l k) × ((piece_at l k).task ≡ task) → from ≤ r.start → (piece_at l k).start ≤ r.start
      least r w g = omega (arith, one.2 w.0 w.1 (w.3, begin (ap (λ (q : Piece). q.start) w.2) g), ap (λ (q : Piece). q.start) w.2)

  pub next_last : None ≡ next_piece l task from → rest from (by_start task (pieces_of l)) ≡ []
  next_last e = rest_nothing from (by_start task (pieces_of l)) (λ r j g. none r (whose r j) g)
    where
      none : (r : Piece) → (k : ℕ) × (k < whole_pieces l) × (r ≡ piece_at l k) × ((piece_at l k).task ≡ task) → from ≤ r.start → ⊥
      none r w g = none_found l task from e w.0 w.1 (w.3, begin (ap (λ (q : Piece). q.start) w.2) g)

  -- from the start of the frame on, all of them
  pub rest_whole : rest 0 (by_start task (pieces_of l)) ≡ by_start task (pieces_of l)
  rest_whole = rest_all 0 0 (by_start task (pieces_of l)) (chain_of_table F m l task table) (le_refl _)
