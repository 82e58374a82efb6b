-- The turns of `pull` and `press`: walks that stop at a code whose opposite is in the set.
use mathlib.Core.Path.{◌≡◌, sym, ap, ◌∙◌, subst}
use mathlib.Core.Logic.{◌⊎◌, inl, inr, ⊎_elim, ◌≢◌}
use mathlib.Core.List.{List}
use Prim.Native.Nat.{ℕ, ◌+◌, ◌-◌, ◌*◌, ◌/◌, ◌≤◌, ◌<◌}
use native.Mathlib.Omega.{arith}
use lib.ListN.{get_or}
use Rattle.meaning.specs.Chains.{Step, Reach}
use Rattle.meaning.specs.Codes.{opposite}
use Rattle.meaning.specs.Rules.{other_end}
use Rattle.moves.specs.Layout.{mark, trail, next, Tables, Sizes, Apart}
use Rattle.moves.specs.Lists.{Ready}
use Rattle.moves.specs.Trials.{Pulled, Pressed}
use Rattle.moves.specs.Walks.{OntoTrail, Listed, Held, Holding, Touched}
use Rattle.meaning.proofs.ChainLaws.{reach_refl, reach_step, reach_trans}
use Rattle.meaning.proofs.CodeLaws.{opposite_opposite, opposite_other}
use Rattle.meaning.proofs.General.{same?, below_or_from}
use Rattle.meaning.proofs.Sets.{Closed, Consistent}
use Rattle.moves.proofs.Places.{apart_trans, tables_apart}
use Rattle.moves.proofs.Steps.{end_step, step_to}
use Rattle.moves.proofs.Trails.{trail_room, onto_trans}
use Rattle.moves.proofs.Visiting.{touch_others, Touching, touching, Visiting, visit_turn, visit_all}

-- a touch of a code whose opposite has no mark leaves the set consistent
pub touch_consistent : {n : ℕ} {W : List ℕ} {b t : ℕ} {W' : List ℕ} {t' : ℕ} → Tables n W → Listed n W t → b < 2 * n →
    Touched n W b 1 t W' t' → (mark n W b ≡ 0 → mark n W (opposite b) ≡ 0) → Consistent (Held n W) → Consistent (Held n W')
touch_consistent {n} {W} {b} {t} {W'} {t'} lw r lb d z s x p q =
    ⊎_elim
    (λ (m : mark n W b ≡ 0).
    let res = d.new m in
    let off : (y : ℕ) → y < 2 * n → y ≢ b → mark n W' y ≡ mark n W y = rw res.0 (touch_others n W b 1 t lb (trail_room r lb m) lw) in
    ⊎_elim
    (λ (e : x ≡ b).
    let ne : opposite x ≢ b = λ f. opposite_other x (f ∙ sym e) in
    omega (arith, q.is_marked, off (opposite x) q.is_code ne, z m, ap (λ (y : ℕ). mark n W (opposite y)) e))
    (λ (e : x ≢ b). ⊎_elim
    (λ (f : opposite x ≡ b).
    let g : x ≡ opposite b = sym (opposite_opposite x) ∙ ap opposite f in
    omega (arith, p.is_marked, off x p.is_code e, z m, ap (mark n W) g))
    (λ (f : opposite x ≢ b).
    s x (record { is_code = p.is_code; is_marked = omega (arith, p.is_marked, off x p.is_code e) })
    (record { is_code = q.is_code; is_marked = omega (arith, q.is_marked, off (opposite x) q.is_code f) }))
    (same? (opposite x) b))
    (same? x b))
    (λ (m : mark n W b ≢ 0).
    let res = d.old (omega arith) in
    s x (rw res.0 at p) (rw res.0 at q))
    (same? (mark n W b) 0)

-- the invariant of the loop of `pull`: as that of `visit`, and the set stays consistent
pub record Pulling (n : ℕ) (ws : List ℕ) (a : ℕ) (W₀ : List ℕ) (t₀ : ℕ) (W : List ℕ) (t e : ℕ) : Type 0 where
  pub visit : Visiting n ws a 1 W₀ t₀ W t e
  pub consistent : Consistent (Held n W₀) → Consistent (Held n W)

-- a turn takes in the code at the other end, whose opposite has no mark
pub pull_turn : {n : ℕ} {ws : List ℕ} {a : ℕ} {W₀ : List ℕ} {t₀ : ℕ} {W : List ℕ} {t e b : ℕ} {W' : List ℕ} {t' e' : ℕ} →
    Ready n ws W₀ → Pulling n ws a W₀ t₀ W t e → 0 < e → b < 2 * n → b ≡ get_or ws (other_end (e - 1)) 0 →
    Touched n W b 1 t W' t' × (mark n W b ≡ 0 → mark n W (opposite b) ≡ 0) → e' ≡ next n W' (e - 1) → Pulling n ws a W₀ t₀ W' t' e'
pull_turn rd r p lb qb d qe =
    record {
      visit = visit_turn rd (omega arith) r.visit p qb d.0 qe;
      consistent = λ so. touch_consistent (tables_apart rd.sizes r.visit.apart) r.visit.onto.listed lb d.0 d.1 (r.consistent so);
    }

-- as far as the loop went
pulled : {n : ℕ} {ws : List ℕ} {a : ℕ} {W₀ : List ℕ} {t₀ : ℕ} {W : List ℕ} {t e : ℕ} → Pulling n ws a W₀ t₀ W t e → Pulled n ws a W₀ t₀ W t
pulled r =
    let v = r.visit in
    record { apart = v.apart; onto = v.onto; new = λ i l m. (v.new i l m).0; consistent = r.consistent }

-- at the end of the list all that a leads to has a mark
pub pull_done : {n : ℕ} {ws : List ℕ} {a : ℕ} {W₀ : List ℕ} {t₀ : ℕ} {W : List ℕ} {t e : ℕ} →
    Sizes n ws W₀ → Pulling n ws a W₀ t₀ W t e → e ≤ 0 → Pulled n ws a W₀ t₀ W t × ((k b : ℕ) → Step ws a k b → 0 < mark n W b)
pull_done s r z = (pulled r, visit_all s r.visit z)

-- or the loop stops at a code whose opposite has one
pub pull_stop : {n : ℕ} {ws : List ℕ} {a : ℕ} {W₀ : List ℕ} {t₀ : ℕ} {W : List ℕ} {t e b x : ℕ} {W' : List ℕ} {t' : ℕ} →
    Sizes n ws W₀ → Pulling n ws a W₀ t₀ W t e → 0 < e → b ≡ get_or ws (other_end (e - 1)) 0 → (x ≡ b) × (t' ≡ t) × (W' ≡ W) × (0 < mark n W (opposite b)) →
    Pulled n ws a W₀ t₀ W' t' × ((k : ℕ) × Step ws a k x) × (0 < mark n W' (opposite x))
pull_stop {n} {ws} {a} {W₀} {t₀} {W} {t} {e} {b} {x} {W'} {t'} s r p qb d =
    rw (d.0, d.1, d.2) (pulled r, ((e - 1) / 2, end_step s (omega (arith, (r.visit.cur.at p).0)) (r.visit.cur.at p).1 qb), d.3)

-- a walk from src on top of what E holds in s places: the places from s to h are visited
pub record Going (n : ℕ) (ws : List ℕ) (src : ℕ) (E : List ℕ) (s : ℕ) (W : List ℕ) (h t : ℕ) : Type 0 where
  pub within : src < 2 * n
  pub onto : OntoTrail n E s W t
  pub low : s ≤ h
  pub ahead : h ≤ t
  pub under : (i : ℕ) → i < s → 0 < mark n E (trail n E i)
  pub new : (i : ℕ) → s ≤ i → i < t → Reach ws src (trail n W i)
  pub done : (i : ℕ) → s ≤ i → i < h → (k b : ℕ) → Step ws (trail n W i) k b → 0 < mark n W b
  pub consistent : Consistent (Held n W)
  pub has : 0 < mark n W src

-- a marked code was marked before, or stands at one of the new places
going_from : {n : ℕ} {ws : List ℕ} {src : ℕ} {E : List ℕ} {s : ℕ} {W : List ℕ} {h t x : ℕ} → Going n ws src E s W h t → Held n W x →
    Held n E x ⊎ ((i : ℕ) × (s ≤ i) × (i < t) × (trail n W i ≡ x))
going_from {n} {ws} {src} {E} {s} {W} {h} {t} {x} g p =
    let w = g.onto.listed.queued x p.is_code p.is_marked in
    ⊎_elim
    (λ (m : w.0 < s).
    inl (record { is_code = p.is_code; is_marked = subst (λ (y : ℕ). 0 < mark n E y) (sym (g.onto.old w.0 m) ∙ w.2) (g.under w.0 m) }))
    (λ (m : s ≤ w.0). inr (w.0, m, w.1, w.2))
    (below_or_from w.0 s)

module _ {n : ℕ} {ws : List ℕ} {src : ℕ} {E : List ℕ} {s : ℕ} {W : List ℕ} {h t : ℕ} {W' : List ℕ} {t' : ℕ}
    (in_n : (a k c : ℕ) → Step ws a k c → c < 2 * n) (r : Going n ws src E s W h t) (ht : h < t) (d : Pulled n ws (trail n W h) W t W' t') where
  -- as far as the walk went, with the same places visited
  pub going_part : Going n ws src E s W' h t'
  going_part =
      record {
        within = r.within;
        onto = onto_trans r.onto d.onto;
        low = r.low;
        ahead = omega (arith, d.onto.grows);
        under = r.under;
        new = λ i a b. ⊎_elim
            (λ (l : i < t). rw (d.onto.old i l) (r.new i a l))
            (λ (l : t ≤ i).
            let st = d.new i l b in
            reach_trans ws src (trail n W h) (trail n W' i) (r.new h r.low ht) (reach_step ws (trail n W h) st.0 (trail n W' i) st.1))
            (below_or_from i t);
        done = λ i a b k c st.
            let o = r.done i a b k c (subst (λ (y : ℕ). Step ws y k c) (d.onto.old i (omega arith)) st) in
            omega (arith, o, d.onto.kept c (in_n (trail n W' i) k c st) o);
        consistent = d.consistent r.consistent;
        has = omega (arith, r.has, d.onto.kept src r.within r.has);
      }

  -- one place more, where all that it leads to is taken in
  pub going_next : ((k b : ℕ) → Step ws (trail n W h) k b → 0 < mark n W' b) → Going n ws src E s W' (h + 1) t'
  going_next all =
      let g = going_part in
      record {
        within = g.within;
        onto = g.onto;
        low = omega (arith, g.low);
        ahead = omega (arith, d.onto.grows);
        under = g.under;
        new = g.new;
        done = λ i a b k c st. ⊎_elim
            (λ (e : i ≡ h). all k c (subst (λ (y : ℕ). Step ws y k c) (ap (trail n W') e ∙ d.onto.old h ht) st))
            (λ (e : i ≢ h). g.done i a (omega arith) k c st)
            (same? i h);
        consistent = g.consistent;
        has = g.has;
      }

-- the invariant of the loop of `press`
pub record Pressing (n : ℕ) (ws W₀ : List ℕ) (h₀ t₀ : ℕ) (W : List ℕ) (h t : ℕ) : Type 0 where
  pub apart : Apart n W₀ W
  pub walk : (src : ℕ) (E : List ℕ) (s : ℕ) → Going n ws src E s W₀ h₀ t₀ → Going n ws src E s W h t

-- the walk's start
pub press_start : {n : ℕ} {ws : List ℕ} {src s : ℕ} {W W' : List ℕ} {t : ℕ} →
    Tables n W → Holding n ws W s → (src < 2 * n) × (mark n W src ≡ 0) × (mark n W (opposite src) ≡ 0) → Touched n W src 1 s W' t → Apart n W W' × Going n ws src W s W' s t
press_start {n} {ws} {src} {s} {W} {W'} {t} lw r c d =
    let g : Touching n W src 1 s W' t = touching lw r.listed c.0 (omega arith) d in (
      g.apart,
      record {
        within = c.0;
        onto = g.onto;
        low = omega arith;
        ahead = g.onto.grows;
        under = λ i l. (r.listed.inside i l).1;
        new = λ i a l. rw (g.new i a l).0 (reach_refl ws src);
        done = λ i a l. absurd (omega arith);
        consistent = touch_consistent lw r.listed c.0 d (λ m. c.2) r.consistent;
        has = g.has;
      },
    )

-- and what holds from there on
pub pressed_on : {n : ℕ} {ws : List ℕ} {src s : ℕ} {W W₀ : List ℕ} {t₀ : ℕ} {W' : List ℕ} {h t : ℕ} →
    Tables n W → Holding n ws W s → (src < 2 * n) × (mark n W src ≡ 0) × (mark n W (opposite src) ≡ 0) → Touched n W src 1 s W₀ t₀ → Pressing n ws W₀ s t₀ W' h t →
    Apart n W W' × Going n ws src W s W' h t
pressed_on lw hold c d r =
    let b = press_start lw hold c d in
    (apart_trans b.0 r.apart, r.walk _ _ _ b.1)

-- a turn visits one place more
pub press_turn : {n : ℕ} {ws E W₀ : List ℕ} {h₀ t₀ : ℕ} {W : List ℕ} {h t a : ℕ} {W' : List ℕ} {t' : ℕ} →
    Sizes n ws E → Pressing n ws W₀ h₀ t₀ W h t → h < t → a ≡ trail n W h →
    Pulled n ws a W t W' t' × ((k b : ℕ) → Step ws a k b → 0 < mark n W' b) → Pressing n ws W₀ h₀ t₀ W' (h + 1) t'
press_turn {n} {ws} {E} {W₀} {h₀} {t₀} {W} {h} {t} {a} {W'} {t'} sz r l qa d =
    let e = rw qa at d in
    record {
      apart = apart_trans r.apart d.0.apart;
      walk = λ src E s g. going_next (step_to sz) (r.walk src E s g) l e.0 e.1;
    }

-- as far as a walk went
pressed : {n : ℕ} {ws : List ℕ} {src s : ℕ} {E W : List ℕ} {h t : ℕ} → Apart n E W → Going n ws src E s W h t → Pressed n ws src s E W t
pressed {n} {ws} {src} {s} {E} {W} {h} {t} ap g =
    record {
      apart = ap;
      onto = g.onto;
      only = λ x p. ⊎_elim (λ i. inl i)
          (λ (i : (i : ℕ) × (s ≤ i) × (i < t) × (trail n W i ≡ x)). inr (subst (Reach ws src) i.3 (g.new i.0 i.1 i.2))) (going_from g p);
      consistent = g.consistent;
      has = g.has;
    }

-- the walk stops at a code whose opposite has a mark
pub press_stop : {n : ℕ} {ws : List ℕ} {src s : ℕ} {E W : List ℕ} {h t a b : ℕ} {W' : List ℕ} {t' : ℕ} →
    Sizes n ws E → Apart n E W → Going n ws src E s W h t → h < t → a ≡ trail n W h → Pulled n ws a W t W' t' × ((k : ℕ) × Step ws a k b) × (0 < mark n W' (opposite b)) →
    Pressed n ws src s E W' t' × (b < 2 * n) × Reach ws src b × (0 < mark n W' (opposite b))
press_stop {n} {ws} {src} {s} {E} {W} {h} {t} {a} {b} {W'} {t'} sz ap r l qa d =
    let e = rw qa at d in
    let st = e.1 in (
      pressed (apart_trans ap e.0.apart) (going_part (step_to sz) r l e.0),
      step_to sz (trail n W h) st.0 b st.1,
      reach_trans ws src (trail n W h) b (r.new h r.low l) (reach_step ws (trail n W h) st.0 b st.1),
      e.2,
    )

-- or it ends, and the set is closed
pub press_done : {n : ℕ} {ws : List ℕ} {src s : ℕ} {E W : List ℕ} {h t : ℕ} →
    Sizes n ws E → Holding n ws E s → Apart n E W → Going n ws src E s W h t → t ≤ h → Pressed n ws src s E W t × Closed ws (Held n W)
press_done {n} {ws} {src} {s} {E} {W} {h} {t} sz hold ap g z = (
  pressed ap g,
  λ x k y st p.
      let ly = step_to sz x k y st in
      record {
        is_code = ly;
        is_marked = ⊎_elim
            (λ (i : Held n E x).
            let o = hold.closed x k y st i in
            omega (arith, o.is_marked, g.onto.kept y ly o.is_marked))
            (λ (i : (i : ℕ) × (s ≤ i) × (i < t) × (trail n W i ≡ x)).
            g.done i.0 i.1 (omega (arith, i.2)) k y (subst (λ (v : ℕ). Step ws v k y) (sym i.3) st))
            (going_from g p);
      },
)
