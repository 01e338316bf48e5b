-- The loop that gathers the walked task's pieces by start.
-- Assumes nothing.
use mathlib.Core.Path.{◌≡◌, ◌∙◌, ap, ap₂}
use mathlib.Core.List.{List, [], ◌∷◌}
use Prim.Native.Nat.{ℕ, ◌+◌, ◌-◌, ◌%◌, ◌^◌, ◌≤◌, ◌<◌}
use native.Mathlib.Nat.{not-suc-le-zero}
use native.Mathlib.Decide.{ℕ_discrete}
use native.Mathlib.Numerals.{add-one}
use native.Mathlib.Omega.{arith}
use lib.ListN.{length, get_or, take, set, length-set}
use lib.Seq.{get_or-set_same, get_or-set_other, get_or-take, length-take-le}
use Rattle.rules.specs.Sum.{sum_to}
use Rattle.rules.specs.Piece.{Piece, pieces_of, whole_pieces}
use Rattle.rules.specs.Moves.{by_start}
use Rattle.rules.specs.Service.{units}
use Rattle.sums.proofs.Sum.{sum_cong}
use Rattle.stretches.proofs.Readings.{Sound}
use Rattle.rules.proofs.Numbers.{length_first}
use Rattle.std.specs.Prelude.{Option, None, Some}
use Rattle.table.specs.Read.{piece_of, stretch_at, stretch_get}
use Rattle.table.specs.declared.Stretch.{Stretch}
use Rattle.table.proofs.Reading.{table_reads, stretch_got}
use Rattle.moves.specs.Next.{next_piece}
use Rattle.moves.proofs.Rest.{rest, next_rest, next_last, rest_whole, next_from, next_inside}
use Rattle.moves.proofs.Moves.{length_by_start}
use Rattle.walker.specs.declared.span.Span.{Span}
use Rattle.walker.specs.Served.{no_span, inside, unit_to, units_of, start_at, len_at}
use Rattle.walker.specs.Gathered.{FrameOf, Gathered}
use Rattle.walker.proofs.Covered.{insides, table_covered}

-- one stretch stored at the place c
module _ (spans : List Span) (c t : ℕ) (s : Span) (room : c < length spans) where
  pub here_set : get_or (set spans c s) c no_span ≡ s
  here_set = get_or-set_same spans c s no_span room

  pub other_set : (i : ℕ) → i < c → get_or (set spans c s) i no_span ≡ get_or spans i no_span
  other_set i h = get_or-set_other spans c i s no_span (λ e. omega arith)

  pub unit_more : unit_to (set spans c s) (c + 1) t ≡ unit_to spans c t + inside s.start s.len t
  unfolding unit_to sum_to
  unit_more =
      rw (add-one c)
      (ap₂ ◌+◌ (sum_cong c (λ i l. ap (λ (x : Span). inside x.start x.len t) (other_set i l))) (ap (λ (x : Span). inside x.start x.len t) here_set))

module _ (F : ℕ) (l : List ℕ) (task : ℕ) where
  -- the first `count` stretches stand in the list, all before `from`; the others are to come
  pub record Gathering (spans : List Span) (count from : ℕ) : Type 0 where
    pub within : from ≤ F
    pub long : length spans ≡ 95
    pub room : count + length (rest from (by_start task (pieces_of l))) ≤ 95
    pub units : (t : ℕ) → unit_to spans count t + insides (rest from (by_start task (pieces_of l))) t ≡ insides (by_start task (pieces_of l)) t
    pub ends : (i : ℕ) → i < count → start_at spans i + len_at spans i ≤ from
    pub order : (i j : ℕ) → i < j → j < count → start_at spans i + len_at spans i ≤ start_at spans j

module _ (F : ℕ) (l : List ℕ) (task : ℕ) (framed : FrameOf F l) where
  few : length (by_start task (pieces_of l)) ≤ 95
  few = omega (arith, length_by_start task (pieces_of l), length_first l (whole_pieces l), (table_reads F framed.cores l framed.table).few)

  pub gathering_none : (spans : List Span) → length spans ≡ 95 → Gathering F l task spans 0 0
  unfolding unit_to sum_to
  gathering_none spans s =
      record {
        within = omega arith;
        long = s;
        room = omega (arith, few, ap length (rest_whole F framed.cores l task 0 framed.table));
        units = λ t. ap (λ (r : List Piece). 0 + insides r t) (rest_whole F framed.cores l task 0 framed.table) ∙ omega arith;
        ends = λ i h. absurd (not-suc-le-zero h);
        order = λ i j g h. absurd (not-suc-le-zero h);
      }

  module _ (spans : List Span) (count from k : ℕ) (p : Stretch) (now : Gathering F l task spans count from) (next : Some k ≡ next_piece l task from) (o : Option Stretch) (read : o ≡ stretch_get l k) (got : o ≡ Some p) where
    is_at : p ≡ stretch_at l k
    is_at = stretch_got l k o p read got (next_inside l task from k next)

    left : rest from (by_start task (pieces_of l)) ≡ piece_of p ∷ rest (p.start + p.len) (by_start task (pieces_of l))
    left = rw is_at (next_rest F framed.cores l task from framed.table k next)

    reads : Sound F framed.cores (piece_of p)
    reads = rw is_at ((table_reads F framed.cores l framed.table).sound k (next_inside l task from k next))

    later : from ≤ p.start
    later = rw is_at (next_from l task from k next).1

    pub gathering_room : count < length spans
    gathering_room = omega (arith, now.room, now.long, ap length left)

    pub gathering_fits : p.start + p.len < 2 ^ 32
    gathering_fits = omega (arith, reads.end, framed.short)

    pub gathering_less : F - (p.start + p.len) < F - from
    gathering_less = omega (arith, reads.end, reads.len, framed.short, later)

    pub gathering_more : Gathering F l task (set spans count (record { start = p.start; len = p.len })) (count + 1) (p.start + p.len)
    unfolding insides
    gathering_more =
        record {
          within = omega (arith, reads.end, framed.short);
          long = simp length-set now.long;
          room = omega (arith, now.room, ap length left);
          units = λ t. omega (arith, unit_more spans count t new gathering_room, now.units t, ap (λ (r : List Piece). insides r t) left);
          ends = ends;
          order = order;
        }
      where
        new : Span
        new = record { start = p.start; len = p.len }

        starts_here : start_at (set spans count new) count ≡ p.start
        starts_here = ap (λ (x : Span). x.start) (here_set spans count 0 new gathering_room)

        lasts_here : len_at (set spans count new) count ≡ p.len
        lasts_here = ap (λ (x : Span). x.len) (here_set spans count 0 new gathering_room)

        starts : (i : ℕ) → i < count → start_at (set spans count new) i ≡ start_at spans i
        starts i h = ap (λ (x : Span). x.start) (other_set spans count 0 new gathering_room i h)

        lasts : (i : ℕ) → i < count → len_at (set spans count new) i ≡ len_at spans i
        lasts i h = ap (λ (x : Span). x.len) (other_set spans count 0 new gathering_room i h)

        ends : (i : ℕ) → i < count + 1 → start_at (set spans count new) i + len_at (set spans count new) i ≤ p.start + p.len
        ends i h =
            elim (ℕ_discrete i count) [
              | yes d ↦ rw d (omega (arith, starts_here, lasts_here))
              | no d ↦ omega (arith, starts i (omega arith), lasts i (omega arith), now.ends i (omega arith), later)
            ]

        order : (i j : ℕ) → i < j → j < count + 1 → start_at (set spans count new) i + len_at (set spans count new) i ≤ start_at (set spans count new) j
        order i j g h =
            elim (ℕ_discrete j count) [
              | yes d ↦ rw d (omega (arith, starts_here, starts i (omega arith), lasts i (omega arith), now.ends i (omega arith), later))
              | no d ↦ omega (arith, starts i (omega arith), lasts i (omega arith), starts j (omega arith), now.order i j g (omega arith))
            ]

  module _ (spans : List Span) (count from : ℕ) (now : Gathering F l task spans count from) (last : None ≡ next_piece l task from) where
    none : rest from (by_start task (pieces_of l)) ≡ []
    none = next_last F framed.cores l task from framed.table last

    at_most : count ≤ 95
    at_most = omega (arith, now.room)

    long : length (take count spans) ≡ count
    long = length-take-le count spans (omega (arith, now.long, now.room))

    at : (i : ℕ) → i < count → get_or (take count spans) i no_span ≡ get_or spans i no_span
    at i h = get_or-take count spans i no_span h

    starts : (i : ℕ) → i < count → start_at (take count spans) i ≡ start_at spans i
    starts i h = ap (λ (x : Span). x.start) (at i h)

    lasts : (i : ℕ) → i < count → len_at (take count spans) i ≡ len_at spans i
    lasts i h = ap (λ (x : Span). x.len) (at i h)

    below : {i : ℕ} → i < length (take count spans) → i < count
    below h = omega (arith, long)

    pub gathering_done : (count ≤ 95) × Gathered F l task (take count spans)
    unfolding unit_to insides
    gathering_done = (
      at_most,
      record {
        sorted =
            record {
              few = omega (arith, long, at_most);
              ends = λ i h. omega (arith, starts i (below h), lasts i (below h), now.ends i (below h), now.within);
              order = λ i j g h. omega (arith, starts i (sooner g (below h)), lasts i (sooner g (below h)), starts j (below h), now.order i j g (below h));
            };
        units = λ t. ap (λ (c : ℕ). unit_to (take count spans) c t) long
            ∙ sum_cong count (λ i h. ap (λ (x : Span). inside x.start x.len t) (at i h))
            ∙ all t (now.units t) (ap (λ (r : List Piece). insides r t) none) ∙ table_covered F framed.cores l task t framed.table;
      },
    )
      where
        sooner : {i j : ℕ} → i < j → j < count → i < count
        sooner g h = omega arith

        all : (t : ℕ) → unit_to spans count t + insides (rest from (by_start task (pieces_of l))) t ≡ insides (by_start task (pieces_of l)) t
            → insides (rest from (by_start task (pieces_of l))) t ≡ 0 → unit_to spans count t ≡ insides (by_start task (pieces_of l)) t
        all t p q = omega arith

-- the units over all time are the rules'
pub gathered_units : (F : ℕ) (l : List ℕ) (task : ℕ) (spans : List Span) → Gathered F l task spans → (e : ℕ) → units_of F spans e ≡ units F (pieces_of l) task e
unfolding units_of
gathered_units F l task spans g e = sum_cong e (λ t h. g.units (t % F))
