-- The replay of a rota and the retreat from it, choice by choice.
use mathlib.Core.Path.{◌≡◌, refl, sym, ap, ◌∙◌, subst}
use mathlib.Core.Logic.{◌⊎◌, inl, inr, ⊎_elim, ◌≢◌}
use mathlib.Core.List.{List}
use Prim.Native.Nat.{ℕ, ◌+◌, ◌-◌, ◌*◌, ◌≤◌, ◌<◌}
use native.Mathlib.Omega.{arith}
use lib.ListN.{length, get_or, set, take, length-take}
use lib.Seq.{get_or-take}
use mathlib.Core.Bool.{Bool, true, false}
use Rattle.replay.specs.Replay.{Past, Spans, length_at, Levels, NoneFrom, Replayed, Unchanged, Raised, JoinSays, LiftSays}
use Rattle.search.specs.State.{Around}
use Rattle.meaning.specs.Chains.{Reach}
use Rattle.meaning.specs.Codes.{late, opposite, choice_of, code_of}
use Rattle.meaning.specs.Rotas.{True, Rota}
use Rattle.moves.specs.Layout.{spare_at, mark, trail, Tables, Spared}
use Rattle.moves.specs.Lists.{Ready}
use Rattle.moves.specs.Trials.{Grew}
use Rattle.moves.specs.Walks.{Listed, Held, Holding, Undone}
use Rattle.search.proofs.Searching.{around_refl, around_trans, apart_around}
use Rattle.meaning.proofs.General.{same?}
use Rattle.meaning.proofs.ChainLaws.{reach_refl, never_both, reach_sound}
use Rattle.meaning.proofs.CodeLaws.{code_of_parts}
use Rattle.meaning.proofs.NextLaws.{Kept, NoneAt, stuck_none, late_none, past_none}
use Rattle.meaning.proofs.Sets.{closed_reach}
use Rattle.moves.proofs.Places.{apart_refl, spare_stored, spare_elsewhere, spare_spared, tables}
use Rattle.moves.proofs.Trails.{trail_few}
use Rattle.moves.proofs.Trying.{holding_none, listed_spared}

-- a rota at the front of an area

module _ (n : ℕ) (area : List ℕ) (rota : Rota n (take n area)) where
  -- has room there
  pub rota_fits : n ≤ length area
  rota_fits = omega (arith, rota.long, length-take n area)

  -- and its values stand there
  pub rota_at : (v : ℕ) → v < n → get_or (take n area) v 0 ≡ get_or area v 0
  rota_at v l = get_or-take n area v 0 l

-- a code of the set joins it
pub join_has : {n : ℕ} {ws : List ℕ} {c t : ℕ} {W : List ℕ} → Holding n ws W t → Held n W c → Grew n ws c t W W t
join_has {n} {ws} {c} {t} {W} h i =
    let reached : (x : ℕ) → Reach ws c x → Held n W x = λ x p. closed_reach ws (Held n W) h.closed c x p i in
    record {
      apart = apart_refl n W;
      holding = h;
      grows = omega arith;
      old = λ k l. refl;
      holds = λ x w. ⊎_elim (λ (j : Held n W x). j) (λ (p : Reach ws c x). reached x p) w;
      only = λ x j. inl j;
      free = λ p. h.consistent c i (reached (opposite c) p);
    }

-- nothing changes
pub unchanged_none : {n : ℕ} {ws : List ℕ} {t : ℕ} {W : List ℕ} → Holding n ws W t → Unchanged n ws t W W
unchanged_none {n} {ws} {t} {W} h = record { apart = apart_refl n W; holding = h; old = λ k l. refl }

-- sets that stand on codes

-- two trails that are the same hold the same set
module _ {n : ℕ} {W U : List ℕ} {t : ℕ} (a : Listed n W t) (b : Listed n U t) (same : (k : ℕ) → k < t → trail n U k ≡ trail n W k) where
  same_there : (x : ℕ) → Held n W x → Held n U x
  same_there x h =
      let w = a.queued x h.is_code h.is_marked in
      record { is_code = h.is_code; is_marked = subst (λ (y : ℕ). 0 < mark n U y) (same w.0 w.1 ∙ w.2) (b.inside w.0 w.1).1 }

  same_back : (x : ℕ) → Held n U x → Held n W x
  same_back x h =
      let w = b.queued x h.is_code h.is_marked in
      record { is_code = h.is_code; is_marked = subst (λ (y : ℕ). 0 < mark n W y) (sym (same w.0 w.1) ∙ w.2) (a.inside w.0 w.1).1 }

  pub stands_same : {ws : List ℕ} {P : ℕ → Type 0} → Spans n ws P W t → Spans n ws P U t
  stands_same s =
      record {
        holding = record {
          listed = b;
          closed = λ x k y st h. same_there y (s.holding.closed x k y st (same_back x h));
          consistent = λ x h k. s.holding.consistent x (same_back x h) (same_back (opposite x) k);
        };
        all = λ c p. same_there c (s.all c p);
        only = λ x h. s.only x (same_back x h);
      }

-- a set that has grown by c stands on c too
pub stands_grew : {n : ℕ} {ws : List ℕ} {P : ℕ → Type 0} (Q : ℕ → Type 0) {c tail t : ℕ} {W W' : List ℕ} → ((d : ℕ) → P d → Q d) → Q c →
    ((d : ℕ) → Q d → P d ⊎ (d ≡ c)) → Spans n ws P W tail → Grew n ws c tail W W' t → Spans n ws Q W' t
stands_grew {n} {ws} {P} Q {c} {tail} {t} {W} {W'} more here less s g =
    record {
      holding = g.holding;
      all = λ d q. ⊎_elim
          (λ (p : P d). g.holds d (inl (s.all d p)))
          (λ (e : d ≡ c). rw e (g.holds c (inr (reach_refl ws c))))
          (less d q);
      only = λ x h. ⊎_elim
          (λ (i : Held n W x). let o = s.only x i in (o.0, more o.0 o.1, o.2))
          (λ (p : Reach ws c x). (c, here, p))
          (g.only x h);
    }

-- what is remembered holds while the trail grows past it
pub levels_move : {n : ℕ} {ws r : List ℕ} {top t t' : ℕ} {W W' : List ℕ} → Levels n ws r top W t →
    ((j : ℕ) → j < top → length_at n W' j ≡ length_at n W j) → ((k : ℕ) → k < t → trail n W' k ≡ trail n W k) → t ≤ t' → Levels n ws r top W' t'
levels_move {n} {ws} {r} {top} {t} {t'} {W} {W'} h m q l =
    record {
      rising = λ i j a b. omega (arith, m i (omega arith), m j b, h.rising i j a b);
      last = λ j b. omega (arith, m j b, h.last j b);
      back = λ j b. rw (m j b) (λ U tr same. h.back j b U tr (λ k a. same k a ∙ q k (omega (arith, h.last j b))));
    }

-- the replay

-- the choices below i are replayed
pub record Replaying (n : ℕ) (ws r W₀ W : List ℕ) (i t : ℕ) : Type 0 where
  pub high : i ≤ n
  pub around : Around n W₀ W
  pub stands : Spans n ws (Past r i) W t
  pub levels : Levels n ws r i W t

-- at the start nothing is replayed
pub replay_start : {n : ℕ} {ws r W : List ℕ} → ((x : ℕ) → x < 2 * n → mark n W x ≡ 0) → Replaying n ws r W W 0 0
replay_start {n} {ws} {r} {W} z =
    record {
      high = omega arith;
      around = around_refl n W;
      stands = record {
        holding = holding_none n ws W z;
        all = λ c p. absurd (omega (arith, p.0));
        only = λ x h. absurd (omega (arith, h.is_marked, z x h.is_code));
      };
      levels = record { rising = λ i j a b. absurd (omega arith); last = λ j b. absurd (omega arith); back = λ j b. absurd (omega arith) };
    }

-- the codes of the choices before i + 1 are those before i and the one of i
past_more : (r : List ℕ) (i d : ℕ) → Past r i d → Past r (i + 1) d
past_more r i d p = (omega (arith, p.0), p.1)

past_here : {n : ℕ} (r : List ℕ) → Rota n r → (i : ℕ) → Past r (i + 1) (code_of i (get_or r i 0))
past_here r rota i =
    let b = rota.bits i in
    let e : choice_of (code_of i (get_or r i 0)) ≡ i = omega arith in
    (omega arith, rw e (omega arith))

past_less : (r : List ℕ) (i d : ℕ) → Past r (i + 1) d → Past r i d ⊎ (d ≡ code_of i (get_or r i 0))
past_less r i d p =
    ⊎_elim
    (λ (e : choice_of d ≡ i). inr (sym (code_of_parts d) ∙ ap (code_of (choice_of d)) (sym p.1) ∙ ap (λ (v : ℕ). code_of v (get_or r v 0)) e))
    (λ (e : choice_of d ≢ i). inl (omega (arith, p.0), p.1))
    (same? (choice_of d) i)

-- a code that the set does not let in: no allowed rota agrees with r up to its choice
pub barred_none : {n : ℕ} {ws r W : List ℕ} {i t : ℕ} → Rota n r → Spans n ws (Past r i) W t →
    Held n W (opposite (code_of i (get_or r i 0))) ⊎ Reach ws (code_of i (get_or r i 0)) (opposite (code_of i (get_or r i 0))) → NoneFrom n ws r (i + 1)
barred_none {n} {ws} {r} {W} {i} {t} rota s bad j l q ok same less =
    let c = code_of i (get_or r i 0) in
    let true_past : (d : ℕ) → Past r (i + 1) d → True q d = λ d p. sym (same (choice_of d) (omega (arith, p.0))) ∙ p.1 in
    let yes : True q c = true_past c (past_here r rota i) in
    never_both q c yes
    (⊎_elim
    (λ (h : Held n W (opposite c)). let o = s.only (opposite c) h in reach_sound n ws q ok o.0 (opposite c) o.2 (true_past o.0 (past_more r i o.0 o.1)))
    (λ (p : Reach ws c (opposite c)). reach_sound n ws q ok c (opposite c) p yes)
    bad)

-- the trail's length is remembered: the word v at place x, which is that of choice i
module _ {n : ℕ} {ws r W₀ W W₁ : List ℕ} {i t x v : ℕ} (s : Ready n ws W₀) (l : i < n) (h : Replaying n ws r W₀ W i t) (ex : x ≡ late i) (ev : v ≡ t)
    (e : W₁ ≡ set W (spare_at n x) v) where
  fits : Tables n W
  fits = omega (arith, tables s.sizes, h.around.long)

  stored : W₁ ≡ set W (spare_at n (late i)) t
  stored = rw (← ex, ← ev) e

  spared : Spared n W W₁
  spared = rw stored (spare_spared n W (late i) t (omega arith) fits)

  here : length_at n W₁ i ≡ t
  here = rw stored (spare_stored n W (late i) t (omega arith) fits)

  old : (j : ℕ) → j < i → length_at n W₁ j ≡ length_at n W j
  old j q = rw stored (spare_elsewhere n W (late i) t (omega arith) fits (late j) (omega arith))

  places : (k : ℕ) → k < t → trail n W₁ k ≡ trail n W k
  places k m = spared.trails k (omega (arith, trail_few h.stands.holding.listed))

  pub stored_around : Around n W₀ W₁
  stored_around = around_trans h.around (record { long = spared.long; heads = spared.heads; nexts = spared.nexts })

  pub stored_stands : Spans n ws (Past r i) W₁ t
  stored_stands = stands_same h.stands.holding.listed (listed_spared spared h.stands.holding.listed) places h.stands

  stored_levels : Levels n ws r (i + 1) W₁ t
  stored_levels =
      record {
        rising = λ a b p q. ⊎_elim
            (λ (f : b ≡ i). ⊎_elim
            (λ (g : a ≡ i). rw (f, g) (omega arith))
            (λ (g : a ≢ i). rw f (omega (arith, here, old a (omega arith), h.levels.last a (omega arith))))
            (same? a i))
            (λ (f : b ≢ i). omega (arith, old a (omega arith), old b (omega arith), h.levels.rising a b p (omega arith)))
            (same? b i);
        last = λ j q. ⊎_elim (λ (f : j ≡ i). rw f (omega (arith, here))) (λ (f : j ≢ i). omega (arith, old j (omega arith), h.levels.last j (omega arith))) (same? j i);
        back = λ j q. ⊎_elim
            (λ (f : j ≡ i). rw (f, here) (λ U tr same. stands_same stored_stands.holding.listed tr same stored_stands))
            (λ (f : j ≢ i).
            let lj : j < i = omega arith in
            rw (old j lj) (λ U tr same. h.levels.back j lj U tr (λ k a. same k a ∙ places k (omega (arith, h.levels.last j lj)))))
            (same? j i);
      }

  -- the choice follows
  pub replay_turn : {W₂ : List ℕ} {c k : ℕ} → Rota n r → c ≡ code_of i (get_or r i 0) → Grew n ws c t W₁ W₂ k → Replaying n ws r W₀ W₂ (i + 1) k
  replay_turn {W₂} {c} {k} rota ec g =
      record {
        high = omega arith;
        around = around_trans stored_around (apart_around g.apart);
        stands = stands_grew (Past r (i + 1)) (past_more r i) (rw ec (past_here r rota i)) (λ d p. rw ec (past_less r i d p)) stored_stands g;
        levels = levels_move stored_levels (λ j q. g.apart.spares (late j) (omega arith)) g.old g.grows;
      }

  -- it cannot
  pub replay_stop : {W₂ : List ℕ} {c : ℕ} → Rota n r → c ≡ code_of i (get_or r i 0) → Unchanged n ws t W₁ W₂ → Held n W₁ (opposite c) ⊎ Reach ws c (opposite c) →
      Replayed n ws r W₀ W₂ (i + 1) t
  replay_stop {W₂} {c} rota ec u bad =
      record {
        around = around_trans stored_around (apart_around u.apart);
        within = omega arith;
        listed = u.holding.listed;
        levels = levels_move stored_levels (λ j q. u.apart.spares (late j) (omega arith)) u.old (omega arith);
        none = barred_none rota stored_stands (rw ec at bad);
      }

-- a rota that was followed to its end
pub replay_done : {n : ℕ} {ws r W₀ W : List ℕ} {i t : ℕ} → n ≤ i → Replaying n ws r W₀ W i t → Replayed n ws r W₀ W n t
replay_done {n} {ws} {r} {W₀} {W} {i} {t} l h =
    let e : i ≡ n = omega (arith, h.high) in
    record {
      around = h.around;
      within = omega arith;
      listed = h.stands.holding.listed;
      levels = rw e at h.levels;
      none = past_none n ws r;
    }

-- the retreat

-- choice p is late already, or late p cannot join: it cannot be raised
pub lift_late : {n : ℕ} {ws W : List ℕ} {t : ℕ} (r : List ℕ) (p : ℕ) → Rota n r → Spans n ws (Past r p) W t → get_or r p 0 ≢ 0 → Unchanged n ws t W W × NoneAt n ws r p
lift_late {n} {ws} {W} {t} r p rota s ne = (unchanged_none s.holding, late_none n ws r p (omega (arith, rota.bits p)))

module _ {n : ℕ} {ws W W' : List ℕ} {tail c : ℕ} (r : List ℕ) (p : ℕ) (s : Spans n ws (Past r p) W tail) (ec : c ≡ late p) where
  lift_barred : Unchanged n ws tail W W' × (Held n W (opposite c) ⊎ Reach ws c (opposite c)) → Unchanged n ws tail W W' × NoneAt n ws r p
  lift_barred u = (
    u.0,
    stuck_none n ws r p
        (⊎_elim
        (λ (h : Held n W (opposite c)). let o = s.only (opposite c) h in (o.0, late p, inl o.1, inr refl, rw (← ec) o.2))
        (λ (q : Reach ws c (opposite c)). (late p, late p, inr refl, inr refl, rw ec at q))
        u.1),
  )

  lift_raised : {t : ℕ} → p < n → get_or r p 0 ≡ 0 → Grew n ws c tail W W' t → Raised n ws r p W W' t
  lift_raised l z g =
      record {
        around = apart_around g.apart;
        within = l;
        early = z;
        stands = stands_grew (Kept r p) (λ d q. inl q) (inr ec) (λ d q. rw ec q) s g;
      }

-- by what became of late p
pub lift_by : (n : ℕ) (ws r : List ℕ) (p tail : ℕ) (W W' : List ℕ) (t : ℕ) {c : ℕ} (j : Bool) → Spans n ws (Past r p) W tail → c ≡ late p → p < n → get_or r p 0 ≡ 0 →
    JoinSays n ws c tail W W' t j → LiftSays n ws r p tail W W' t j
lift_by n ws r p tail W W' t true s ec l z g = lift_raised r p s ec l z g
lift_by n ws r p tail W W' t false s ec l z u = let b = lift_barred r p s ec (u.0, u.1) in (b.0, b.1, u.2)

-- no rota comes after r that leaves it at choice v or later
pub record Retreating (n : ℕ) (ws r W₀ W : List ℕ) (v t : ℕ) : Type 0 where
  pub high : v ≤ n
  pub around : Around n W₀ W
  pub listed : Listed n W t
  pub levels : Levels n ws r v W t
  pub none : NoneFrom n ws r v

-- the trail is taken back to where it ended before choice v - 1
module _ {n : ℕ} {ws r W₀ W : List ℕ} {v t b : ℕ} {W₁ : List ℕ} (l : 0 < v) (h : Retreating n ws r W₀ W v t) (eb : b ≡ length_at n W (v - 1)) (u : Undone n b W W₁) where
  lj : v - 1 < v
  lj = omega arith

  lengths : (j : ℕ) → j < v → length_at n W₁ j ≡ length_at n W j
  lengths j q = u.apart.spares (late j) (omega (arith, h.high))

  trails : (k : ℕ) → k < t → trail n W₁ k ≡ trail n W k
  trails k m = u.trails k (omega (arith, trail_few h.listed))

  pub taken_around : Around n W₀ W₁
  taken_around = around_trans h.around (apart_around u.apart)

  pub taken_stands : Spans n ws (Past r (v - 1)) W₁ b
  taken_stands =
      rw eb (h.levels.back (v - 1) lj W₁ (rw eb at u.listed) (λ k m. trails k (omega (arith, h.levels.last (v - 1) lj))))

  taken_levels : Levels n ws r (v - 1) W₁ b
  taken_levels =
      record {
        rising = λ i j a q. omega (arith, lengths i (omega arith), lengths j (omega arith), h.levels.rising i j a (omega arith));
        last = λ j q. omega (arith, eb, lengths j (omega arith), h.levels.rising j (v - 1) (omega arith) lj);
        back = λ j q. rw (lengths j (omega arith)) (λ U tr same. h.levels.back j (omega arith) U tr (λ k m. same k m ∙ trails k (omega (arith, h.levels.last j (omega arith)))));
      }

  pub retreat_turn : {W₂ : List ℕ} {w : ℕ} → w ≡ v - 1 → Unchanged n ws b W₁ W₂ × NoneAt n ws r w → Retreating n ws r W₀ W₂ (v - 1) b
  retreat_turn {W₂} {w} ew f =
      record {
        high = omega (arith, h.high);
        around = around_trans taken_around (apart_around f.0.apart);
        listed = f.0.holding.listed;
        levels = levels_move taken_levels (λ j q. f.0.apart.spares (late j) (omega (arith, h.high))) f.0.old (omega arith);
        none = λ i q. ⊎_elim
            (λ (e : i ≡ w). rw e f.1)
            (λ (e : i ≢ w). h.none i (omega arith))
            (same? i w);
      }

  pub retreat_found : {W₂ : List ℕ} {w k : ℕ} → w ≡ v - 1 → Raised n ws r w W₁ W₂ k → Raised n ws r w W₀ W₂ k × NoneFrom n ws r (w + 1)
  retreat_found {W₂} {w} {k} ew f =
      (record { around = around_trans taken_around f.around; within = f.within; early = f.early; stands = f.stands }, λ i q. h.none i (omega arith))
