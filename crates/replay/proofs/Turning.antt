-- The next rota: where the search begins after the retreat, and what it finds.
use mathlib.Core.Path.{◌≡◌, refl, ◌∙◌}
use mathlib.Core.Logic.{◌⊎◌, inl, inr, ⊎_elim, ◌≢◌}
use mathlib.Core.List.{List}
use Prim.Native.Nat.{ℕ, suc, ◌+◌, ◌-◌, ◌*◌, ◌<◌, min}
use native.Mathlib.Omega.{arith}
use Rattle.meaning.specs.declared.answers.Moved.{Moved}
use lib.ListN.{get_or, set}
use native.Mathlib.Numerals.{add-one}
use Rattle.replay.specs.Replay.{Spans, NoneFrom, Forgot, TurnSays}
use Rattle.search.specs.Search.{Settles, Halts}
use Rattle.search.specs.State.{rota_of, Around, State}
use Rattle.meaning.specs.Codes.{late, early}
use Rattle.meaning.specs.Rotas.{Rota, Next}
use Rattle.moves.specs.Layout.{spare_at, mark, spare, Tables}
use Rattle.moves.specs.Lists.{Ready}
use Rattle.moves.specs.Walks.{Held, Holding, Undone}
use Rattle.search.proofs.Following.{rota_of_lem, rota_follows}
use Rattle.replay.proofs.Replaying.{stands_same}
use Rattle.search.proofs.Searching.{around_trans, apart_around, ready_around, known_none, undone_all, found_first}
use Rattle.meaning.proofs.ChainLaws.{late_true, early_true, clash_impossible}
use Rattle.meaning.proofs.General.{below_suc, same?}
use Rattle.meaning.proofs.Growing.{Grown, grown_allowed, grown_true, grown_must}
use Rattle.meaning.proofs.NextLaws.{Kept, none_ended, made_next}
use Rattle.meaning.proofs.Sets.{closed_reach, Spread}
use Rattle.moves.proofs.Places.{spared_refl, spared_trans, spare_stored, spare_elsewhere, spare_spared}
use Rattle.moves.proofs.Trails.{trail_few}
use Rattle.moves.proofs.Trying.{holding_none, listed_spared}

-- the spare table is cleared

pub forgot_none : (n : ℕ) (W : List ℕ) → Forgot n 0 W W
forgot_none n W = record { spared = spared_refl n W; zeros = λ x l. absurd (omega arith) }

pub forgot_more : {n k x : ℕ} {W W' W'' : List ℕ} → Tables n W → k < 2 * n → Forgot n k W W' → x ≡ k → W'' ≡ set W' (spare_at n x) 0 → Forgot n (k + 1) W W''
forgot_more {n} {k} {x} {W} {W'} {W''} fits l f ex e =
    let fits' : Tables n W' = omega (arith, f.spared.long) in
    let stored : W'' ≡ set W' (spare_at n k) 0 = rw (← ex) e in
    record {
      spared = rw stored (spared_trans f.spared (spare_spared n W' k 0 l fits'));
      zeros = λ y m. rw stored (⊎_elim
          (λ (q : y ≡ k). rw q (spare_stored n W' k 0 l fits'))
          (λ (q : y ≢ k). spare_elsewhere n W' k 0 l fits' y q ∙ f.zeros y (omega arith))
          (same? y k));
    }

-- the lists stay
pub forgot_around : {n k : ℕ} {W W' : List ℕ} → Forgot n k W W' → Around n W W'
forgot_around f = record { long = f.spared.long; heads = f.spared.heads; nexts = f.spared.nexts }

-- the set is the same
pub forgot_stands : {n k : ℕ} {ws W W' : List ℕ} {P : ℕ → Type 0} {t : ℕ} → Forgot n k W W' → Spans n ws P W t → Spans n ws P W' t
forgot_stands f s =
    let l = s.holding.listed in
    stands_same l (listed_spared f.spared l) (λ i m. f.spared.trails i (omega (arith, trail_few l))) s

-- a closed and consistent set without notes is a state of the search
unnoted_state : {n : ℕ} {ws W : List ℕ} {t : ℕ} → Ready n ws W → Holding n ws W t → ((x : ℕ) → x < 2 * n → spare n W x ≡ 0) → State n ws W t
unnoted_state r h z =
    record { ready = r; holding = h; known = known_none z }

-- the area where the search begins, after the replay, the retreat and the clearing of the spare table
module _ {n : ℕ} {ws W₀ W W₁ : List ℕ} (r : Ready n ws W₀) (a : Around n W₀ W) (f : Forgot n (2 * n) W W₁) where
  pub begin_around : Around n W₀ W₁
  begin_around = around_trans a (forgot_around f)

  -- from a choice that is raised
  pub begin_raised : {P : ℕ → Type 0} {t : ℕ} → Spans n ws P W t → State n ws W₁ t
  begin_raised s = unnoted_state (ready_around r begin_around) (forgot_stands f s).holding f.zeros

  -- or from nothing
  pub begin_empty : {W₂ : List ℕ} → Undone n 0 W₁ W₂ → Around n W₀ W₂ × State n ws W₂ 0
  begin_empty {W₂} u =
      let b : Around n W₀ W₂ = around_trans begin_around (apart_around u.apart) in
      (b, unnoted_state (ready_around r b) (holding_none n ws W₂ (undone_all u)) (λ x l. u.apart.spares x l ∙ f.zeros x l))

-- the search after the retreat

-- the set as seeds
abbrev seeds : ℕ → List ℕ → ℕ → ℕ
seeds n W d = min (mark n W d) (2 * n - d)

-- a code of the set is a seed, and a seed is of the set
seeded : {n : ℕ} {W : List ℕ} (d : ℕ) → Held n W d → 0 < seeds n W d
seeded d h = omega (arith, h.is_code, h.is_marked)

unseeded : {n : ℕ} {W : List ℕ} (d : ℕ) → 0 < seeds n W d → Held n W d
unseeded d h = record { is_code = omega arith; is_marked = omega arith }

module _ (n : ℕ) (ws r W W' : List ℕ) (p t t' : ℕ) (rota : Rota n r) (l : p < n) (low : get_or r p 0 ≡ 0) (stands : Spans n ws (Kept r p) W t)
    (none : NoneFrom n ws r (p + 1)) (s : Settles n ws (p + 1) n W W' t') where
  -- each choice up to p is decided
  decided : (u : ℕ) → u < suc p → Held n W (early u) ⊎ Held n W (late u)
  decided =
      below_suc {P = λ u. Held n W (early u) ⊎ Held n W (late u)} p
      (λ u h. ⊎_elim
      (λ (e : get_or r u 0 ≡ 0). inl (stands.all (early u) (inl (omega arith, early_true r u e))))
      (λ (e : get_or r u 0 ≢ 0). inr (stands.all (late u) (inl (omega arith, late_true r u (omega (arith, rota.bits u))))))
      (same? (get_or r u 0) 0))
      (inr (stands.all (late p) (inr refl)))

  begun : Grown ws (λ d. 0 < seeds n W d) (Held n W) (p + 1)
  begun =
      rw (add-one p)
      (record {
        closed = stands.holding.closed;
        consistent = stands.holding.consistent;
        base = unseeded;
        origin = λ d h. inl (seeded d h);
        decided = λ u h. ⊎_elim (λ e. inl e) (λ e. inr (e, inr (inl (seeded (late u) e)))) (decided u h);
      })

  ended : Grown ws (λ d. 0 < seeds n W d) (Held n W') n
  ended = s.grown (seeds n W) begun

  -- all that was raised leads to is in the set that the search has made
  raised_held : (c : ℕ) → Spread ws (Kept r p) c → Held n W' c
  raised_held c b =
      ended.base c (seeded c (closed_reach ws (Held n W) stands.holding.closed b.0 c b.2 (stands.all b.0 b.1)))

  pub found_next : Next n ws r (rota_of n W')
  found_next =
      let range = s.state.ready.sizes.codes in
      let follows = rota_follows n ws W' (λ d. 0 < seeds n W d) ended in
      let B : ℕ → Type 0 = λ d. 0 < seeds n W d in
      made_next n ws r rota p low l (λ i h. none i (omega arith)) (rota_of n W')
      (grown_allowed n ws B (Held n W') ended range (rota_of n W') (rota_of_lem n W') follows)
      (λ c h b. grown_true n ws B (Held n W') ended range (rota_of n W') (rota_of_lem n W') follows c h (raised_held c b))
      (λ u e. ⊎_elim (λ m. inl m) (λ b. inr (stands.only (late u) (unseeded (late u) b)))
      (grown_must n ws B (Held n W') ended range (rota_of n W') (rota_of_lem n W') follows u e))

-- what the searches show

-- the search from an empty set goes through: rotas exist, and none comes after r
pub turn_ended : {n : ℕ} {ws W₀ W W' : List ℕ} {t : ℕ} (r : List ℕ) → ((x : ℕ) → x < 2 * n → mark n W x ≡ 0) → NoneFrom n ws r 0 → Around n W₀ W →
    Settles n ws 0 n W W' t → TurnSays n ws r W₀ W' Moved.Ended
turn_ended {n} {ws} {W₀} {W} {W'} {t} r empty past a s =
    (around_trans a s.around, (rota_of n W', (found_first n ws W empty W' t s).allowed), none_ended n ws r (λ j. past j (omega arith)))

-- a search halts: no rota exists
pub turn_impossible : {n : ℕ} {ws W₀ W W' : List ℕ} {v u t : ℕ} (r : List ℕ) → Around n W₀ W → Halts n ws v W W' u t → TurnSays n ws r W₀ W' Moved.Impossible
turn_impossible {n} {ws} {W₀} {W} {W'} {v} {u} {t} r a h = (around_trans a h.around, clash_impossible n ws u h.clash)
