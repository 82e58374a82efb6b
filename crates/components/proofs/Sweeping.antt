-- The walks from one code and from all: what `search` and `components` keep.
use Prim.Native.Nat.{ℕ, ◌+◌, ◌*◌, ◌≤◌, ◌<◌}
use mathlib.Core.Path.{◌≡◌, refl, ◌∙◌, subst}
use mathlib.Core.Logic.{⊎_elim, ◌≢◌}
use mathlib.Core.List.{List}
use native.Mathlib.Omega.{arith}
use Rattle.components.specs.Leads.{Leads, Side}
use Rattle.components.specs.Walk.{cursor, WalkState, TurnMade, Searched, Walking, Alike, moved, stacked_on}
use Rattle.meaning.specs.Codes.{opposite}
use Rattle.moves.specs.Layout.{mark, trail, spare, Sizes}
use Rattle.moves.specs.Lists.{Nexts}
use Rattle.components.proofs.Storing.{Pushed, pushed_by}
use Rattle.components.proofs.Walking.{alike, pushed}
use Rattle.components.proofs.Ways.{words_of}
use Rattle.meaning.proofs.CodeLaws.{opposite_below}
use Rattle.meaning.proofs.General.{same?}
use Rattle.moves.proofs.Places.{sizes_long, tables}

-- ---- the walks from one code and from all

-- nothing differs; two moves in a row; what stays where only the tables differ
pub side_refl : (n : ℕ) (W : List ℕ) → Side n W W
side_refl n W = record { long = refl; nexts = λ e. refl }

-- two moves in a row
pub side_trans : {n : ℕ} {W W' W'' : List ℕ} → Side n W W' → Side n W' W'' → Side n W W''
side_trans p q = record { long = q.long ∙ p.long; nexts = λ e. q.nexts e ∙ p.nexts e }

-- the sizes stay
pub sizes_side : {n : ℕ} {ws W W' : List ℕ} → Sizes n ws W → Side n W W' → Sizes n ws W'
sizes_side s p = sizes_long s p.long

-- and the rests of the lists
pub nexts_side : {n : ℕ} {ws W W' : List ℕ} → Nexts n ws W → Side n W W' → Nexts n ws W'
nexts_side {n} {ws} {W} {W'} x p = record { nexts = λ e l. rw (p.nexts e) (x.nexts e l) }

-- the invariant of the loop of `search`
pub record Searching (n : ℕ) (ws : List ℕ) (root : ℕ) (W₀ W : List ℕ) (t k : ℕ) : Type 0 where
  pub state : WalkState n ws W t k
  pub side : Side n W₀ W
  pub met : (x : ℕ) → x < 2 * n → 0 < mark n W₀ x → 0 < mark n W x
  pub got : 0 < mark n W root

-- the walk begins with root alone on the stack
pub search_push : {n : ℕ} {ws W W' : List ℕ} {root : ℕ} → Sizes n ws W → WalkState n ws W 0 0 → root < 2 * n → mark n W root ≡ 0 → Pushed n root 0 0 W W'
    → WalkState n ws W' 1 1 × Side n W W' × ((x : ℕ) → x < 2 * n → 0 < mark n W x → 0 < mark n W' x) × (0 < mark n W' root)
search_push {n} {ws} {W} {W'} {root} sz h l z p = (
  pushed
      (alike (trail n W') (spare n W') (cursor n W') (λ q u. absurd (omega arith)) (λ j u. absurd (omega arith))
      (λ x u. p.heads (opposite x) (opposite_below n x u)) (omega arith) h)
      root (mark n W') l z p.top p.end p.rank p.ranks (λ q u. absurd (omega arith)) (words_of sz),
  record { long = p.long; nexts = p.nexts },
  (λ x u m. ⊎_elim
      (λ (q : x ≡ root). rw (q, p.rank) (omega arith))
      (λ (q : x ≢ root). omega (arith, p.ranks x u q))
      (same? x root)),
  omega (arith, p.rank),
)

-- the same, as `search` begins with an empty stack
pub search_begin : {w u : Walking} {root : ℕ} → Sizes w.n w.words w.tables → WalkState w.n w.words w.tables 0 0 → w.top ≡ 0 → w.depth ≡ 0 → root < 2 * w.n → mark w.n w.tables root ≡ 0
    → u ≡ moved w (stacked_on w.n w.tables root w.top w.depth) (w.top + 1) (w.depth + 1) → Alike w u × Searching w.n w.words root w.tables u.tables u.top u.depth
search_begin {w} {u} {root} sz h t0 k0 l z q =
    let b : WalkState w.n w.words (stacked_on w.n w.tables root 0 0) 1 1 × Side w.n w.tables (stacked_on w.n w.tables root 0 0) × ((x : ℕ) → x < 2 * w.n → 0 < mark w.n w.tables x → 0 < mark w.n (stacked_on w.n w.tables root 0 0) x) × (0 < mark w.n (stacked_on w.n w.tables root 0 0) root) =
    search_push sz h l z (pushed_by l (omega arith) (omega arith) (tables sz) refl) in
    rw (q, t0, k0) (record { n = refl; words = refl }, record { state = b.0; side = b.1; met = b.2; got = b.3 })

-- a turn keeps it
pub search_turn : {n : ℕ} {ws : List ℕ} {root : ℕ} {W₀ W : List ℕ} {t k : ℕ} {W' : List ℕ} {t' k' : ℕ}
    → root < 2 * n → Searching n ws root W₀ W t k → TurnMade n ws W t k W' t' k' → Searching n ws root W₀ W' t' k'
search_turn {n} {ws} {root} l s r =
    record {
      state = r.state;
      side = side_trans s.side r.side;
      met = λ x u m. r.met x u (s.met x u m);
      got = r.met root l s.got;
    }

-- the same, over walks
pub search_more : {w u v : Walking} {root : ℕ} → root < 2 * w.n → Alike w u → Searching w.n w.words root w.tables u.tables u.top u.depth → Alike u v
    → TurnMade u.n u.words u.tables u.top u.depth v.tables v.top v.depth → Alike w v × Searching w.n w.words root w.tables v.tables v.top v.depth
search_more {w} {u} {v} {root} l a s b r = (record { n = b.n ∙ a.n; words = b.words ∙ a.words }, search_turn l s (rw (a.n, a.words) at r))

-- at the end of the path the stack is empty too
pub search_done : {n : ℕ} {ws : List ℕ} {root : ℕ} {E W₀ W : List ℕ} {t k : ℕ}
    → Side n E W₀ → ((x : ℕ) → x < 2 * n → 0 < mark n E x → 0 < mark n W₀ x) → Searching n ws root W₀ W t k → k ≤ 0 → Searched n ws root E W
search_done {n} {ws} {root} {E} {W₀} {W} {t} {k} sd mt s z =
    let ek : k ≡ 0 = omega arith in
    let et : t ≡ 0 = s.state.floor.0 ek in
    record {
      state = subst (λ (y : ℕ). WalkState n ws W 0 y) ek (subst (λ (y : ℕ). WalkState n ws W y k) et s.state);
      side = side_trans sd s.side;
      met = λ x u m. s.met x u (mt x u m);
      got = s.got;
    }

-- the invariant of the loop of `components`
pub record Sweeping (n : ℕ) (ws W₀ W : List ℕ) (x : ℕ) : Type 0 where
  pub state : WalkState n ws W 0 0
  pub side : Side n W₀ W
  pub met : (y : ℕ) → y < x → 0 < mark n W y
  pub within : x ≤ 2 * n

-- a code that was met is passed over
pub sweep_skip : {n : ℕ} {ws W₀ W : List ℕ} {x : ℕ} → x < 2 * n → Sweeping n ws W₀ W x → mark n W x ≢ 0 → Sweeping n ws W₀ W (x + 1)
sweep_skip {n} {ws} {W₀} {W} {x} l s z =
    record {
      state = s.state;
      side = s.side;
      met = λ y u. ⊎_elim (λ (e : y ≡ x). rw e (omega arith)) (λ (e : y ≢ x). s.met y (omega arith)) (same? y x);
      within = omega arith;
    }

-- from one that was not the walk is done
pub sweep_turn : {n : ℕ} {ws W₀ W W' : List ℕ} {x : ℕ} → x < 2 * n → Sweeping n ws W₀ W x → Searched n ws x W W' → Sweeping n ws W₀ W' (x + 1)
sweep_turn {n} {ws} {W₀} {W} {W'} {x} l s r =
    record {
      state = r.state;
      side = side_trans s.side r.side;
      met = λ y u. ⊎_elim (λ (e : y ≡ x). rw e r.got) (λ (e : y ≢ x). r.met y (omega arith) (s.met y (omega arith))) (same? y x);
      within = omega arith;
    }

-- the same, over a walk that is in no code
pub record Sweeps (m : ℕ) (ws W : List ℕ) (w : Walking) (x : ℕ) : Type 0 where
  pub n : w.n ≡ m
  pub words : w.words ≡ ws
  pub top : w.top ≡ 0
  pub depth : w.depth ≡ 0
  pub sweeping : Sweeping m ws W w.tables x

-- a walk from one code keeps it
pub sweeps_turn : {n : ℕ} {ws W : List ℕ} {u v : Walking} {x : ℕ} → x < 2 * n → Sweeps n ws W u x → Alike u v → v.top ≡ 0 → v.depth ≡ 0
    → Searched u.n u.words x u.tables v.tables → Sweeps n ws W v (x + 1)
sweeps_turn {n} {ws} {W} {u} {v} {x} l s a t k r =
    record { n = a.n ∙ s.n; words = a.words ∙ s.words; top = t; depth = k; sweeping = sweep_turn l s.sweeping (rw (s.n, s.words) at r) }

-- at the end every code is settled
pub sweep_done : {n : ℕ} {ws W₀ W : List ℕ} {x : ℕ} → Sweeping n ws W₀ W x → 2 * n ≤ x → Leads n ws W
sweep_done {n} {ws} {W₀} {W} {x} s z =
    record { settled = all; lead = λ y l. s.state.lead y l (all y l) }
  where
    all : (y : ℕ) → y < 2 * n → 2 * n < mark n W y
    all y l =
        ⊎_elim (λ g. g)
        (λ (w : (p : ℕ) × (p < 0) × (trail n W p ≡ y)). absurd (omega (arith, w.1)))
        (s.state.placed y l (s.met y (omega arith)))
