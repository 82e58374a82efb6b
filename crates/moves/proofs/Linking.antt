-- The turn of `index`: the lists over the ends from e + 1 on become those from e on.
use mathlib.Core.Path.{◌≡◌, refl, sym, ap, ◌∙◌, subst}
use mathlib.Core.Logic.{⊎_elim, ◌≢◌}
use mathlib.Core.List.{List}
use Prim.Native.Nat.{ℕ, ◌+◌, ◌-◌, ◌*◌, ◌≤◌, ◌<◌}
use native.Mathlib.Omega.{arith}
use lib.ListN.{length, get_or, set, length-set}
use lib.Seq.{get_or-set_same, get_or-set_other}
use Rattle.moves.specs.Layout.{head_at, mark_at, trail_at, spare_at, next_at, head, next, Sizes}
use Rattle.moves.specs.Lists.{FirstEnd, Lists, linked, Beside, Indexed}
use Rattle.meaning.proofs.General.{same?}
use Rattle.moves.proofs.Places.{sizes_long}
use Rattle.moves.proofs.Steps.{word_below}

-- one end more, that holds another code
first_other : (ws : List ℕ) (c e h : ℕ) → get_or ws e 0 ≢ c → FirstEnd ws c (e + 1) h → FirstEnd ws c e h
first_other ws c e h n r =
    record {
      hit = λ k l b q. ⊎_elim (λ (s : k ≡ e). absurd (n (subst (λ (j : ℕ). get_or ws j 0 ≡ c) s q))) (λ s. r.hit k (omega arith) b q) (same? k e);
      found = λ p. (omega (arith, r.found p), (r.found p).1, (r.found p).2);
    }

-- one end more, that holds the code
first_same : (ws : List ℕ) (e : ℕ) → e < length ws → FirstEnd ws (get_or ws e 0) e (e + 1)
first_same ws e l =
    let q : e + 1 - 1 ≡ e = omega arith in
    record {
      hit = λ k a b s. (omega arith, omega arith);
      found = λ p. (omega arith, omega arith, ap (λ (j : ℕ). get_or ws j 0) q);
    }

module _ (n : ℕ) (ws W : List ℕ) (e : ℕ) (le : e < length ws) (lc : get_or ws e 0 < 2 * n) (fits : next_at n (length ws) ≤ length W) where
  -- a load after the two stores, off both
  off : (k : ℕ) → k ≢ head_at n (get_or ws e 0) → k ≢ next_at n e → get_or (linked n W (get_or ws e 0) e) k 0 ≡ get_or W k 0
  off k p q =
      get_or-set_other (set W (next_at n e) (head n W (get_or ws e 0))) (head_at n (get_or ws e 0)) k (e + 1) 0 p
      ∙ get_or-set_other W (next_at n e) k (head n W (get_or ws e 0)) 0 q

  -- the head of the code is the new end
  at_head : head n (linked n W (get_or ws e 0) e) (get_or ws e 0) ≡ e + 1
  at_head = get_or-set_same (set W (next_at n e) (head n W (get_or ws e 0))) (head_at n (get_or ws e 0)) (e + 1) 0 (simp length-set (omega arith))

  -- after which comes the old head
  at_next : next n (linked n W (get_or ws e 0) e) e ≡ head n W (get_or ws e 0)
  at_next =
      get_or-set_other (set W (next_at n e) (head n W (get_or ws e 0))) (head_at n (get_or ws e 0)) (next_at n e) (e + 1) 0 (omega arith)
      ∙ get_or-set_same W (next_at n e) (head n W (get_or ws e 0)) 0 (omega arith)

  -- so the lists have one end more
  lists_step : Lists n ws (e + 1) W → Lists n ws e (linked n W (get_or ws e 0) e)
  lists_step r =
      record {
        heads = λ k l. ⊎_elim
            (λ (s : k ≡ get_or ws e 0). rw (s, at_head) (first_same ws e le))
            (λ s. rw (off k s (omega arith)) (first_other ws k e (head n W k) (λ q. s (sym q)) (r.heads k l)))
            (same? k (get_or ws e 0));
        nexts = λ k a b. ⊎_elim
            (λ (s : k ≡ e). rw (s, at_next) (r.heads (get_or ws e 0) lc))
            (λ s. rw (off (next_at n k) (omega arith) (omega arith)) (r.nexts k (omega arith) b))
            (same? k e);
      }

  -- and nothing beside them differs
  beside_step : (W₀ : List ℕ) → Beside n (length ws) W₀ W → Beside n (length ws) W₀ (linked n W (get_or ws e 0) e)
  beside_step W₀ r =
      record {
        long = simp length-set r.long;
        marks = λ x l. off (mark_at n x) (omega arith) (omega arith) ∙ r.marks x l;
        trails = λ i l. off (trail_at n i) (omega arith) (omega arith) ∙ r.trails i l;
        spares = λ x l. off (spare_at n x) (omega arith) (omega arith) ∙ r.spares x l;
        past = λ k l. off (next_at n k) (omega arith) (omega arith) ∙ r.past k l;
      }

-- the invariant of the loop of `index`: the ends from e on are linked
pub record Indexing (n : ℕ) (ws W₀ W : List ℕ) (e : ℕ) : Type 0 where
  pub low : e ≤ length ws
  pub lists : Lists n ws e W
  pub beside : Beside n (length ws) W₀ W

-- at its start no end is linked
pub index_none : (n : ℕ) (ws W : List ℕ) → ((c : ℕ) → c < 2 * n → head n W c ≡ 0) → Indexing n ws W W (length ws)
index_none n ws W z =
    record {
      low = omega arith;
      lists =
          record {
            heads = λ k l. rw (z k l) (record { hit = λ e a b q. omega arith; found = λ p. omega arith });
            nexts = λ k a b. omega arith;
          };
      beside = record { long = refl; marks = λ x l. refl; trails = λ i l. refl; spares = λ x l. refl; past = λ k l. refl };
    }

-- the words and their nexts have room
words_room_lem : {n : ℕ} {ws W : List ℕ} → Sizes n ws W → next_at n (length ws) ≤ length W
words_room_lem s = omega (arith, s.even, s.room)

-- a turn links one more
pub index_turn : {n : ℕ} {ws W₀ W W' : List ℕ} {e c : ℕ} →
    Sizes n ws W₀ → Indexing n ws W₀ W e → 0 < e → c ≡ get_or ws (e - 1) 0 → W' ≡ linked n W c (e - 1) → Indexing n ws W₀ W' (e - 1)
index_turn {n} {ws} {W₀} {W} {W'} {e} {c} s r p qc qW =
    let up : e - 1 + 1 ≡ e = omega arith in
    let le : e - 1 < length ws = omega (arith, r.low) in
    let fits : next_at n (length ws) ≤ length W = omega (arith, r.beside.long, words_room_lem s) in
    record {
      low = omega arith;
      lists = rw (qW, qc) (lists_step n ws W (e - 1) le (word_below s (e - 1) le) fits (rw up r.lists));
      beside = rw (qW, qc) (beside_step n ws W (e - 1) le (word_below s (e - 1) le) fits W₀ r.beside);
    }

-- at its end all are
pub index_done : {n : ℕ} {ws W₀ W : List ℕ} {e : ℕ} → Sizes n ws W₀ → Indexing n ws W₀ W e → e ≤ 0 → Indexed n ws W₀ W
index_done {n} {ws} {W₀} {W} {e} s r z =
    let q : e ≡ 0 = omega arith in
    record { ready = record { sizes = sizes_long s r.beside.long; lists = rw q at r.lists }; beside = r.beside }
