-- The turns of `spread` and `undo`, over the work area.
use mathlib.Core.Path.{◌≡◌, refl, sym, ap, ◌∙◌, subst}
use mathlib.Core.Logic.{◌≢◌}
use mathlib.Core.List.{List}
use Prim.Native.Nat.{ℕ, ◌+◌, ◌-◌, ◌*◌, ◌≤◌, ◌<◌}
use native.Mathlib.Omega.{arith}
use lib.ListN.{set}
use Rattle.moves.specs.Layout.{mark_at, trail_at, mark, trail, Tables, Sizes, Apart}
use Rattle.moves.specs.Walks.{Listed, Held, Touched, Visited, SpreadFrom, Undone}
use Rattle.meaning.proofs.Sets.{Closed}
use Rattle.moves.proofs.Breadth.{Bfs, start, advance, finish}
use Rattle.moves.proofs.Places.{apart_refl, apart_trans, mark_stored, mark_elsewhere, mark_trail, mark_apart}
use Rattle.moves.proofs.Steps.{step_to, step_from}
use Rattle.moves.proofs.Trails.{trail_few, trail_room, pop_kept, trail_pop}
use Rattle.moves.proofs.Visiting.{touch_mark, touch_others, touch_place, touch_places, touch_apart}

-- a walk from src on top of what E holds in s places, as it stands in W
abbrev pub Walk : ℕ → List ℕ → ℕ → List ℕ → ℕ → List ℕ → ℕ → ℕ → Type 0
Walk n ws src E s W h t = Bfs (2 * n) ws src (mark n E) (trail n E) s (mark n W) (trail n W) h t

-- the invariant of the loop of `spread`: the walk goes on from where the loop began, over whatever set it stands on
pub record Spreading (n : ℕ) (ws W₀ : List ℕ) (h₀ t₀ : ℕ) (W : List ℕ) (h t : ℕ) : Type 0 where
  pub apart : Apart n W₀ W
  pub walk : (src : ℕ) (E : List ℕ) (s : ℕ) → Walk n ws src E s W₀ h₀ t₀ → Walk n ws src E s W h t

-- the walk's start
pub spread_start : {n : ℕ} {ws : List ℕ} {src s : ℕ} {W W' : List ℕ} {t : ℕ} →
    Tables n W → src < 2 * n → mark n W src ≡ 0 → Listed n W s → Touched n W src 1 s W' t → Apart n W W' × Walk n ws src W s W' s t
spread_start {n} {ws} {src} {s} {W} {W'} {t} lw l z r d =
    let res = d.new z in
    let ls : s < 2 * n = trail_room r l z in
    rw (res.0, res.1) (
      touch_apart n W src 1 s l ls lw,
      start (2 * n) ws src (mark n W) (trail n W) (mark n (set (set W (mark_at n src) 1) (trail_at n s) src)) (trail n (set (set W (mark_at n src) 1) (trail_at n s) src)) s r l z
          (touch_mark n W src 1 s l ls lw)
          (touch_others n W src 1 s l ls lw)
          (touch_place n W src 1 s l ls lw)
          (touch_places n W src 1 s l ls lw),
    )

-- and what holds from there on
pub walked_on : {n : ℕ} {ws : List ℕ} {src s : ℕ} {W W₀ : List ℕ} {t₀ : ℕ} {W' : List ℕ} {h t : ℕ} →
    Tables n W → (src < 2 * n) × (mark n W src ≡ 0) → Listed n W s → Touched n W src 1 s W₀ t₀ → Spreading n ws W₀ s t₀ W' h t → Apart n W W' × Walk n ws src W s W' h t
walked_on lw c r d g =
    let b = spread_start lw c.0 c.1 r d in
    (apart_trans b.0 g.apart, g.walk _ _ _ b.1)

-- a turn visits one place more
pub spread_turn : {n : ℕ} {ws E W₀ : List ℕ} {h₀ t₀ : ℕ} {W : List ℕ} {h t a v : ℕ} {W' : List ℕ} {t' : ℕ} →
    Sizes n ws E → Spreading n ws W₀ h₀ t₀ W h t → h < t → a ≡ trail n W h → v ≡ mark n W a + 1 →
    Apart n W W' × Visited (2 * n) ws a v (mark n W) (trail n W) t (mark n W') (trail n W') t' → Spreading n ws W₀ h₀ t₀ W' (h + 1) t'
spread_turn {n} {ws} {E} {W₀} {h₀} {t₀} {W} {h} {t} {a} {v} {W'} {t'} sz r l qa qv d =
    record {
      apart = apart_trans r.apart d.0;
      walk = λ src E s b.
          advance (2 * n) ws src (mark n E) (trail n E) s (mark n W) (trail n W) h t v (mark n W') (trail n W') t' (r.walk src E s b) l
          (qv ∙ ap (λ (x : ℕ). mark n W x + 1) qa)
          (subst (λ (x : ℕ). Visited (2 * n) ws x v (mark n W) (trail n W) t (mark n W') (trail n W') t') qa d.1)
          (step_to sz);
    }

-- at the end of the trail all is reached
pub spread_done : {n : ℕ} {ws : List ℕ} {src s : ℕ} {E W : List ℕ} {h t : ℕ} →
    Sizes n ws E → Closed ws (Held n E) → Apart n E W → Walk n ws src E s W h t → t ≤ h → SpreadFrom n ws src s E W t
spread_done {n} {ws} {src} {s} {E} {W} {h} {t} sz cl ap r z =
    let e : h ≡ t = omega (arith, r.ahead) in
    record {
      apart = ap;
      listed = r.listed;
      grows = omega (arith, r.low, r.ahead);
      old = λ i l. (r.old i l).0;
      kept = r.kept;
      least = finish (step_to sz) (λ a k b st p. (cl a k b st (record { is_code = step_from sz a k b st; is_marked = p })).is_marked) (rw e at r);
      chain = r.chain;
    }

-- the code at the head of the walk, and its mark
pub walk_small : (n : ℕ) {ws : List ℕ} {src s : ℕ} {mk₀ q₀ : ℕ → ℕ} (W : List ℕ) {h t a m : ℕ} →
    Bfs (2 * n) ws src mk₀ q₀ s (mark n W) (trail n W) h t → h < t → a ≡ trail n W h → m ≡ mark n W a → (a < 2 * n) × (m ≤ 2 * n)
walk_small n {ws} {src} {s} {mk₀} {q₀} W {h} {t} {a} {m} r ht qa qm =
    let low : mark n W a ≤ h + 1 = subst (λ (x : ℕ). mark n W x ≤ h + 1) (sym qa) (r.small h r.low ht) in
    (omega (arith, qa, (r.listed.inside h ht).0), omega (arith, low, trail_few r.listed))

-- at its start nothing is taken back
pub undo_start : {n t : ℕ} {W : List ℕ} → Listed n W t → Undone n t W W
undo_start {n} {t} {W} r = record { apart = apart_refl n W; trails = λ i l. refl; listed = r; kept = λ i l. refl }

-- the last code of the trail loses its mark
pub undo_turn : {n t x : ℕ} {W₀ W W' : List ℕ} → Tables n W₀ → 0 < t → Undone n t W₀ W → x ≡ trail n W (t - 1) → W' ≡ set W (mark_at n x) 0 → Undone n (t - 1) W₀ W'
undo_turn {n} {t} {x} {W₀} {W} {W'} lw p r qx qW =
    let up : t - 1 + 1 ≡ t = omega arith in
    let tr : Listed n W (t - 1 + 1) = rw up r.listed in
    let lx : x < 2 * n = omega (arith, qx, (tr.inside (t - 1) (omega arith)).0) in
    let fits : Tables n W = omega (arith, r.apart.long) in
    let mk' : ℕ → ℕ = mark n (set W (mark_at n x) 0) in
    let q' : ℕ → ℕ = trail n (set W (mark_at n x) 0) in
    let zx : mk' (trail n W (t - 1)) ≡ 0 = subst (λ (y : ℕ). mk' y ≡ 0) qx (mark_stored n W x 0 lx fits) in
    let mo : (y : ℕ) → y < 2 * n → y ≢ trail n W (t - 1) → mk' y ≡ mark n W y = λ y l ne. mark_elsewhere n W x 0 lx fits y (λ e. ne (e ∙ qx)) in
    let qo : (i : ℕ) → i < 2 * n → q' i ≡ trail n W i = λ i l. mark_trail n W x 0 lx fits i in
    rw qW (record {
      apart = apart_trans r.apart (mark_apart n W x 0 lx fits);
      trails = λ i l. qo i l ∙ r.trails i l;
      listed = trail_pop (2 * n) (mark n W) (trail n W) mk' q' (t - 1) tr zx mo qo;
      kept = λ i l.
          let same : trail n W i ≡ trail n W₀ i = r.trails i (omega (arith, trail_few tr)) in
          subst (λ (y : ℕ). mk' y ≡ mark n W y) same (pop_kept (2 * n) (mark n W) (trail n W) mk' q' (t - 1) tr zx mo qo i l) ∙ r.kept i (omega arith);
    })
