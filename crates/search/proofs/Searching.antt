-- The search: a trial that is kept decides one choice more, and a choice whose codes both fail is the lowest that clashes.
use mathlib.Core.Path.{◌≡◌, refl, sym, ◌∙◌}
use mathlib.Core.Logic.{◌⊎◌, inr, inl, ⊎_elim}
use mathlib.Core.List.{List}
use Prim.Native.Nat.{ℕ, suc, ◌+◌, ◌*◌, ◌<◌}
use native.Mathlib.Omega.{arith}
use native.Mathlib.Numerals.{add-one}
use Rattle.search.specs.Search.{Taught, Settles, Halts}
use Rattle.search.specs.State.{rota_of, State, Around, Known}
use Rattle.meaning.specs.Chains.{Reach, Clash, LowestClash}
use Rattle.meaning.specs.Codes.{late, early, opposite}
use Rattle.meaning.specs.Rotas.{First}
use Rattle.moves.specs.Layout.{mark, spare, Apart}
use Rattle.lessons.specs.Learning.{Learnt}
use Rattle.moves.specs.Lists.{Ready}
use Rattle.moves.specs.Trials.{Grew, GaveUp}
use Rattle.moves.specs.Walks.{Held, Listed, Undone}
use Rattle.search.proofs.Following.{rota_of_lem, rota_follows}
use Rattle.meaning.proofs.CodeLaws.{opposite_late, opposite_early}
use Rattle.meaning.proofs.Growing.{Grown, grown_same, grown_early, grown_late, grown_has_early, grown_has_late, grown_free, grown_first}
use Rattle.meaning.proofs.Sets.{With}
use Rattle.moves.proofs.Places.{sizes_long, ready_apart}
use Rattle.moves.proofs.Trying.{unmarked, held_there, held_back}

-- what stays around

pub around_refl : (n : ℕ) (W : List ℕ) → Around n W W
around_refl n W = record { long = refl; heads = λ c l. refl; nexts = λ e. refl }

pub around_trans : {n : ℕ} {W W' W'' : List ℕ} → Around n W W' → Around n W' W'' → Around n W W''
around_trans p q = record { long = q.long ∙ p.long; heads = λ c l. q.heads c l ∙ p.heads c l; nexts = λ e. q.nexts e ∙ p.nexts e }

-- a move that keeps to marks and trail leaves the rest
pub apart_around : {n : ℕ} {W W' : List ℕ} → Apart n W W' → Around n W W'
apart_around p = record { long = p.long; heads = p.heads; nexts = p.nexts }

-- where the lists are as they were, they stand
pub ready_around : {n : ℕ} {ws W W' : List ℕ} → Ready n ws W → Around n W W' → Ready n ws W'
ready_around r p =
    record {
      sizes = sizes_long r.sizes p.long;
      lists = record { heads = λ c l. rw (p.heads c l) (r.lists.heads c l); nexts = λ e a b. rw (p.nexts e) (r.lists.nexts e a b) };
    }

-- notes stay true where each stays or becomes a true 2
pub known_more : {n : ℕ} {ws W W' : List ℕ} → Known n ws W → ((x : ℕ) → x < 2 * n → (spare n W' x ≡ spare n W x) ⊎ (spare n W' x ≡ 2)) →
    ((x : ℕ) → x < 2 * n → spare n W' x ≡ 2 → Reach ws x (opposite x)) → Known n ws W'
known_more k same turns =
    record {
      low = λ x l. ⊎_elim (λ e. omega (arith, k.low x l)) (λ e. omega arith) (same x l);
      frees = λ x l q. ⊎_elim (λ e. k.frees x l (sym e ∙ q)) (λ e. absurd (omega arith)) (same x l);
      turns = turns;
    }

-- nor does it touch a note
pub known_apart : {n : ℕ} {ws W W' : List ℕ} → Known n ws W → Apart n W W' → Known n ws W'
known_apart k p = known_more k (λ x l. inl (p.spares x l)) (λ x l e. k.turns x l (sym (p.spares x l) ∙ e))

-- where nothing is noted, nothing is wrong
pub known_none : {n : ℕ} {ws W : List ℕ} → ((x : ℕ) → x < 2 * n → spare n W x ≡ 0) → Known n ws W
known_none z =
    record { low = λ x l. omega (arith, z x l); frees = λ x l e. absurd (omega (arith, z x l)); turns = λ x l e. absurd (omega (arith, z x l)) }

-- the state after a trial, kept or given up
pub state_grew : {n : ℕ} {ws : List ℕ} {c tail : ℕ} {W W' : List ℕ} {t : ℕ} → State n ws W tail → Grew n ws c tail W W' t → State n ws W' t
state_grew s g = record { ready = ready_apart s.ready g.apart; holding = g.holding; known = known_apart s.known g.apart }

pub state_gave_up : {n : ℕ} {ws : List ℕ} {c tail : ℕ} {W W' : List ℕ} {b : ℕ} → State n ws W tail → GaveUp n ws c tail W W' b → State n ws W' tail
state_gave_up s g = record { ready = ready_apart s.ready g.apart; holding = g.holding; known = known_apart s.known g.apart }

-- more is learnt after a failure is noted
pub taught_more : {n : ℕ} {ws : List ℕ} {c tail : ℕ} {W W₁ W₂ : List ℕ} → c < 2 * n → Taught n ws c tail W W₁ → Learnt n ws tail W₁ W₂ → Taught n ws c tail W W₂
taught_more {n} {ws} {c} {tail} {W} {W₁} {W₂} m t l =
    let around : Around n W₁ W₂ = record { long = l.still.long; heads = l.still.heads; nexts = l.still.nexts } in
    record {
      around = around_trans t.around around;
      here = ⊎_elim (λ e. e ∙ t.here) (λ e. e) (l.spares c m);
      state = record {
        ready = ready_around t.state.ready around;
        holding = l.still.holding;
        known = known_more t.state.known l.spares l.notes.turns;
      };
      marks = λ x k. l.still.marks x k ∙ t.marks x k;
      spares = λ x k. ⊎_elim (λ e. ⊎_elim (λ d. inl (e ∙ d)) (λ d. inr (e ∙ d)) (t.spares x k)) (λ e. inr e) (l.spares x k);
    }

-- what is settled after changes that keep the marks is settled
pub settles_after : {n : ℕ} {ws : List ℕ} {v w : ℕ} {W W₁ W' : List ℕ} {t : ℕ} → Around n W W₁ → ((x : ℕ) → x < 2 * n → mark n W₁ x ≡ mark n W x) →
    Settles n ws v w W₁ W' t → Settles n ws v w W W' t
settles_after {n} {ws} {v} {w} {W} {W₁} {W'} a same s =
    record {
      around = around_trans a s.around;
      state = s.state;
      grown = λ B g. s.grown B (grown_same ws (λ d. 0 < B d) (Held n W) (Held n W₁) (held_there same) (held_back same) v g);
    }

-- what is learnt afterwards keeps what is settled
pub settles_taught : {n : ℕ} {ws : List ℕ} {v w c : ℕ} {W W₁ W' : List ℕ} {t : ℕ} → Settles n ws v w W W₁ t → Taught n ws c t W₁ W' → Settles n ws v w W W' t
settles_taught {n} {ws} {v} {w} {c} {W} {W₁} {W'} s t =
    record {
      around = around_trans s.around t.around;
      state = t.state;
      grown = λ B g. grown_same ws (λ d. 0 < B d) (Held n W₁) (Held n W') (held_there t.marks) (held_back t.marks) w (s.grown B g);
    }

-- a code with no mark is not in the set
pub unheld : {n : ℕ} {W : List ℕ} {x : ℕ} → mark n W x ≡ 0 → Held n W x → ⊥
unheld e h = omega (arith, e, h.is_marked)

-- nothing is left of a trail that is taken back to its start
pub undone_all : {n : ℕ} {W W' : List ℕ} → Undone n 0 W W' → (x : ℕ) → x < 2 * n → mark n W' x ≡ 0
undone_all {n} {W} {W'} u x l =
    unmarked {W = W'} l (λ h. let w = u.listed.queued x l h.is_marked in omega (arith, w.1))

-- one choice more
module _ (n : ℕ) (ws W : List ℕ) (tail v : ℕ) (s : State n ws W tail) where
  -- the set has one of its codes already
  pub settles_early : Held n W (early v) → Settles n ws v (v + 1) W W tail
  settles_early h = rw (add-one v) (record { around = around_refl n W; state = s; grown = λ B g. grown_has_early ws (λ d. 0 < B d) (Held n W) v g h })

  pub settles_late : Held n W (late v) → Settles n ws v (v + 1) W W tail
  settles_late h = rw (add-one v) (record { around = around_refl n W; state = s; grown = λ B g. grown_has_late ws (λ d. 0 < B d) (Held n W) v g h })

  module _ (W' : List ℕ) (t : ℕ) (out_late : mark n W (late v) ≡ 0) (out_early : mark n W (early v) ≡ 0) where
    -- early is kept
    pub settles_by_early : Grew n ws (early v) tail W W' t → Settles n ws v (v + 1) W W' t
    settles_by_early g =
        rw (add-one v) (record {
          around = apart_around g.apart;
          state = state_grew s g;
          grown = λ B h. grown_same ws (λ d. 0 < B d) (With ws (Held n W) (early v)) (Held n W') g.holds g.only (suc v)
              (grown_early ws (λ d. 0 < B d) (Held n W) v h (unheld out_late) (λ p. g.free (rw (opposite_early v) p)));
        })

    -- late is kept, where early leads to late
    pub settles_by_late : Reach ws (early v) (late v) → Grew n ws (late v) tail W W' t → Settles n ws v (v + 1) W W' t
    settles_by_late p g =
        rw (add-one v) (record {
          around = apart_around g.apart;
          state = state_grew s g;
          grown = λ B h. grown_same ws (λ d. 0 < B d) (With ws (Held n W) (late v)) (Held n W') g.holds g.only (suc v)
              (grown_late ws (λ d. 0 < B d) (Held n W) v h (unheld out_early) (λ q. g.free (rw (opposite_late v) q)) (inr p));
        })

-- the loop: nothing is settled at first, a turn settles one more, and a choice that is stuck is the lowest that clashes
pub settles_none : {n : ℕ} {ws : List ℕ} {v t : ℕ} {W : List ℕ} → State n ws W t → Settles n ws v v W W t
settles_none {n} {ws} {v} {t} {W} s = record { around = around_refl n W; state = s; grown = λ B g. g }

pub settles_on : {n : ℕ} {ws : List ℕ} {u v w : ℕ} {W W' W'' : List ℕ} {t t' : ℕ} → Settles n ws u v W W' t → Settles n ws v w W' W'' t' → Settles n ws u w W W'' t'
settles_on p q = record { around = around_trans p.around q.around; state = q.state; grown = λ B g. q.grown B (p.grown B g) }

pub halts : {n : ℕ} {ws : List ℕ} {u v : ℕ} {W W' W'' : List ℕ} {t : ℕ} → Settles n ws u v W W' t → v < n → Around n W' W'' → Listed n W'' t → Clash ws v →
    Halts n ws u W W'' v t
halts {n} {ws} {u} {v} {W} {W'} s h a l c =
    record {
      around = around_trans s.around a;
      listed = l;
      within = h;
      clash = c;
      lowest = λ B g. grown_free ws (λ d. 0 < B d) (Held n W') v (s.grown B g);
    }

-- from an empty set the search finds the first rota, or the lowest choice that clashes
module _ (n : ℕ) (ws W : List ℕ) (empty : (x : ℕ) → x < 2 * n → mark n W x ≡ 0) where
  none_held : (x : ℕ) → Held n W x → ⊥
  none_held x h = unheld (empty x h.is_code) h

  abbrev nothing : ℕ → ℕ
  nothing d = 0

  grown_empty : Grown ws (λ d. 0 < nothing d) (Held n W) 0
  grown_empty =
      record {
        closed = λ a k b s h. absurd (none_held a h);
        consistent = λ c h k. none_held c h;
        base = λ d h. absurd (omega arith);
        origin = λ d h. absurd (none_held d h);
        decided = λ u h. absurd (omega arith);
      }

  pub found_first : (W' : List ℕ) (t : ℕ) → Settles n ws 0 n W W' t → First n ws (rota_of n W')
  found_first W' t s =
      let g : Grown ws (λ d. 0 < nothing d) (Held n W') n = s.grown nothing grown_empty in
      grown_first n ws (λ d. 0 < nothing d) (Held n W') g s.state.ready.sizes.codes (rota_of n W') (rota_of_lem n W') (rota_follows n ws W' (λ d. 0 < nothing d) g) (λ d h. absurd (omega arith))

  pub found_clash : (W' : List ℕ) (v t : ℕ) → Halts n ws 0 W W' v t → LowestClash ws v
  found_clash W' v t h = record { clash = h.clash; lowest = h.lowest nothing grown_empty }
