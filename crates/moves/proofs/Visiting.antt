-- The turns of `visit`: a touch grows the trail, and the ends of a list are gone through one by one.
use mathlib.Core.Path.{◌≡◌, ◌∙◌, subst}
use mathlib.Core.Logic.{inl, ⊎_elim, ◌≢◌}
use mathlib.Core.List.{List}
use Prim.Native.Nat.{ℕ, ◌-◌, ◌*◌, ◌/◌, ◌≤◌, ◌<◌}
use native.Mathlib.Omega.{arith}
use lib.ListN.{length, get_or, set, length-set}
use Rattle.meaning.specs.Chains.{Step}
use Rattle.meaning.specs.Codes.{opposite}
use Rattle.meaning.specs.Rules.{other_end}
use Rattle.moves.specs.Layout.{mark_at, trail_at, head, mark, trail, next, Tables, Sizes, Apart}
use Rattle.moves.specs.Lists.{Cursor, Passed, Ready}
use Rattle.moves.specs.Walks.{OntoTrail, Listed, Touched, Visited}
use Rattle.meaning.proofs.General.{same?, below_or_from}
use Rattle.moves.proofs.Cursors.{nexts_of, head_first, first_cursor, none_passed, left_of, cursor_next, cursor_passed, cursor_less}
use Rattle.moves.proofs.Places.{apart_refl, apart_trans, mark_stored, mark_elsewhere, mark_trail, mark_apart, trail_stored, trail_elsewhere, trail_mark, trail_apart, tables_apart}
use Rattle.moves.proofs.Steps.{other_end_below, word_below, end_step, step_end, step_to}
use Rattle.moves.proofs.Trails.{trail_room, push_onto, onto_refl, onto_trans}

-- the two stores of `touch`
module _ (n : ℕ) (W : List ℕ) (b v t : ℕ) (lb : b < 2 * n) (lt : t < 2 * n) (fits : Tables n W) where
  -- the area keeps its length
  long : Tables n (set W (mark_at n b) v)
  long = simp length-set (omega arith)

  -- b has its mark
  pub touch_mark : mark n (set (set W (mark_at n b) v) (trail_at n t) b) b ≡ v
  touch_mark = trail_mark n (set W (mark_at n b) v) t b lt long b lb ∙ mark_stored n W b v lb fits

  -- other codes keep theirs
  pub touch_others : (x : ℕ) → x < 2 * n → x ≢ b → mark n (set (set W (mark_at n b) v) (trail_at n t) b) x ≡ mark n W x
  touch_others x l e = trail_mark n (set W (mark_at n b) v) t b lt long x l ∙ mark_elsewhere n W b v lb fits x e

  -- b is on the trail
  pub touch_place : trail n (set (set W (mark_at n b) v) (trail_at n t) b) t ≡ b
  touch_place = trail_stored n (set W (mark_at n b) v) t b lt long

  -- the other places stay
  pub touch_places : (i : ℕ) → i < 2 * n → i ≢ t → trail n (set (set W (mark_at n b) v) (trail_at n t) b) i ≡ trail n W i
  touch_places i l e = trail_elsewhere n (set W (mark_at n b) v) t b lt long i e ∙ mark_trail n W b v lb fits i

  -- nothing else differs
  pub touch_apart : Apart n W (set (set W (mark_at n b) v) (trail_at n t) b)
  touch_apart = apart_trans (mark_apart n W b v lb fits) (trail_apart n (set W (mark_at n b) v) t b lt long)

-- what a touch of b does: the trail goes on, by b alone, and b has a mark
pub record Touching (n : ℕ) (W : List ℕ) (b v t : ℕ) (W' : List ℕ) (t' : ℕ) : Type 0 where
  pub apart : Apart n W W'
  pub onto : OntoTrail n W t W' t'
  pub new : (i : ℕ) → t ≤ i → i < t' → (trail n W' i ≡ b) × (mark n W' b ≡ v)
  pub has : 0 < mark n W' b

-- by cases on its mark
pub touching : {n : ℕ} {W : List ℕ} {b v t : ℕ} {W' : List ℕ} {t' : ℕ} →
    Tables n W → Listed n W t → b < 2 * n → 0 < v → Touched n W b v t W' t' → Touching n W b v t W' t'
touching {n} {W} {b} {v} {t} {W'} {t'} lw r lb pv d =
    ⊎_elim
    (λ (z : mark n W b ≡ 0).
    let lt : t < 2 * n = trail_room r lb z in
    let res = d.new z in
    let am = touch_mark n W b v t lb lt lw in
    let aq = touch_place n W b v t lb lt lw in
    let X = set (set W (mark_at n b) v) (trail_at n t) b in
    let pb : 0 < mark n X b = omega (arith, am) in
    rw (res.0, res.1) (record {
      apart = touch_apart n W b v t lb lt lw;
      onto =
          push_onto (2 * n) (mark n W) (trail n W) (mark n X) (trail n X) t b r lb z pb (touch_others n W b v t lb lt lw) aq (touch_places n W b v t lb lt lw);
      new = λ i l m.
          let e : i ≡ t = omega arith in
          rw e (aq, am);
      has = pb;
    }))
    (λ (z : mark n W b ≢ 0).
    let res = d.old (omega arith) in
    rw (res.0, res.1) (record { apart = apart_refl n W; onto = onto_refl r; new = λ i l m. absurd (omega arith); has = omega arith }))
    (same? (mark n W b) 0)

-- the invariant of the loop of `visit`: the ends that the cursor e has passed lead to marked codes
pub record Visiting (n : ℕ) (ws : List ℕ) (a v : ℕ) (W₀ : List ℕ) (t₀ : ℕ) (W : List ℕ) (t e : ℕ) : Type 0 where
  pub apart : Apart n W₀ W
  pub onto : OntoTrail n W₀ t₀ W t
  pub new : (i : ℕ) → t₀ ≤ i → i < t → ((k : ℕ) × Step ws a k (trail n W i)) × (mark n W (trail n W i) ≡ v)
  pub cur : Cursor ws a e
  pub seen : (k : ℕ) → k < length ws → get_or ws k 0 ≡ opposite a → Passed e k → 0 < mark n W (get_or ws (other_end k) 0)

-- at its start nothing is new
pub visit_start : {n : ℕ} {ws W : List ℕ} {t a v e : ℕ} →
    Ready n ws W → Listed n W t → a < 2 * n → e ≡ head n W (opposite a) → Visiting n ws a v W t W t e
visit_start {n} {ws} {W} {t} {a} {v} {e} rd r la qe =
    let f = head_first rd la qe in
    record {
      apart = apart_refl n W;
      onto = onto_refl r;
      new = λ i l m. absurd (omega arith);
      cur = first_cursor f;
      seen = λ k l q u. absurd (none_passed f (omega arith) l q u);
    }

-- a turn touches the code at the other end, and goes on in the list
pub visit_turn : {n : ℕ} {ws : List ℕ} {a v : ℕ} {W₀ : List ℕ} {t₀ : ℕ} {W : List ℕ} {t e b : ℕ} {W' : List ℕ} {t' e' : ℕ} →
    Ready n ws W₀ → 0 < v → Visiting n ws a v W₀ t₀ W t e → 0 < e → b ≡ get_or ws (other_end (e - 1)) 0 → Touched n W b v t W' t' → e' ≡ next n W' (e - 1) →
    Visiting n ws a v W₀ t₀ W' t' e'
visit_turn {n} {ws} {a} {v} {W₀} {t₀} {W} {t} {e} {b} {W'} {t'} {e'} rd pv r p qb d qe =
    let s = rd.sizes in
    let lk : e - 1 < length ws = omega (arith, (r.cur.at p).0) in
    let st : Step ws a ((e - 1) / 2) b = end_step s lk (r.cur.at p).1 qb in
    let g : Touching n W b v t W' t' = touching (tables_apart s r.apart) r.onto.listed (step_to s a ((e - 1) / 2) b st) pv d in
    let apart = apart_trans r.apart g.apart in
    let q : e' ≡ next n W₀ (e - 1) = qe ∙ apart.nexts (e - 1) in
    record {
      apart = apart;
      onto = onto_trans r.onto g.onto;
      new = λ i l m. ⊎_elim
          (λ (x : i < t).
          let o = r.new i l x in
          let ins = r.onto.listed.inside i x in
          rw (g.onto.old i x) (o.0, g.onto.kept (trail n W i) ins.0 ins.1 ∙ o.1))
          (λ (x : t ≤ i). rw (g.new i x m).0 (((e - 1) / 2, st), (g.new i x m).1))
          (below_or_from i t);
      cur = cursor_next (nexts_of rd) r.cur p q;
      seen = λ k l h u. ⊎_elim
          (λ (z : k ≡ e - 1). rw (z, ← qb) g.has)
          (λ (z : Passed e k).
          let before = r.seen k l h z in
          omega (arith, before, g.onto.kept (get_or ws (other_end k) 0) (word_below s (other_end k) (other_end_below k (length ws) s.even l)) before))
          (cursor_passed (nexts_of rd) r.cur p q k l h u);
    }

-- a turn leaves less of it
pub visit_less : {n : ℕ} {ws : List ℕ} {a v : ℕ} {W₀ : List ℕ} {t₀ : ℕ} {W : List ℕ} {t e b : ℕ} {W' : List ℕ} {t' e' : ℕ} →
    Ready n ws W₀ → 0 < v → Visiting n ws a v W₀ t₀ W t e → 0 < e → b ≡ get_or ws (other_end (e - 1)) 0 → Touched n W b v t W' t' → e' ≡ next n W' (e - 1) →
    left_of e' < left_of e
visit_less {e = e} rd pv r p qb d qe = cursor_less (nexts_of rd) r.cur p (qe ∙ (visit_turn rd pv r p qb d qe).apart.nexts (e - 1)) rd.sizes

-- at the end of the list all that a leads to has a mark
pub visit_all : {n : ℕ} {ws : List ℕ} {a v : ℕ} {W₀ : List ℕ} {t₀ : ℕ} {W : List ℕ} {t e : ℕ} →
    Sizes n ws W₀ → Visiting n ws a v W₀ t₀ W t e → e ≤ 0 → (k b : ℕ) → Step ws a k b → 0 < mark n W b
visit_all {n} {ws} {a} {v} {W₀} {t₀} {W} {t} {e} s r z k b st =
    let w = step_end s st in
    subst (λ (x : ℕ). 0 < mark n W x) w.3 (r.seen w.0 w.1 w.2 (inl (omega arith)))

-- so a is visited
pub visit_done : {n : ℕ} {ws : List ℕ} {a v : ℕ} {W₀ : List ℕ} {t₀ : ℕ} {W : List ℕ} {t e : ℕ} →
    Sizes n ws W₀ → Visiting n ws a v W₀ t₀ W t e → e ≤ 0 → Apart n W₀ W × Visited (2 * n) ws a v (mark n W₀) (trail n W₀) t₀ (mark n W) (trail n W) t
visit_done s r z = (r.apart, record { onto = r.onto; new = r.new; all = visit_all s r z })
