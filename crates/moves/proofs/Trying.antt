-- What a trial leaves, from what its walk found.
use mathlib.Core.Path.{◌≡◌, sym, ◌∙◌, subst}
use mathlib.Core.Logic.{⊎_elim, ◌≢◌}
use mathlib.Core.List.{List}
use Prim.Native.Nat.{ℕ, ◌*◌, ◌<◌}
use native.Mathlib.Omega.{arith}
use Rattle.meaning.specs.Chains.{Reach}
use Rattle.meaning.specs.Codes.{opposite}
use Rattle.moves.specs.Layout.{mark, trail, Spared}
use Rattle.moves.specs.Trials.{Pressed, Grew, GaveUp}
use Rattle.moves.specs.Walks.{OntoTrail, Listed, Held, Holding, Undone}
use Rattle.meaning.proofs.ChainLaws.{reach_trans, reach_flip, reach_turn}
use Rattle.meaning.proofs.CodeLaws.{opposite_opposite, opposite_below}
use Rattle.meaning.proofs.General.{same?}
use Rattle.meaning.proofs.Sets.{Closed, closed_reach}
use Rattle.moves.proofs.Places.{apart_trans}
use Rattle.moves.proofs.Trails.{trail_few, trail_none, trail_same}

-- a code outside the set has no mark
pub unmarked : {n : ℕ} {W : List ℕ} {x : ℕ} → x < 2 * n → (Held n W x → ⊥) → mark n W x ≡ 0
unmarked {n} {W} {x} l out = ⊎_elim (λ (e : mark n W x ≡ 0). e) (λ (e : mark n W x ≢ 0). absurd (out (record { is_code = l; is_marked = omega arith }))) (same? (mark n W x) 0)

-- no marks: the empty set
pub holding_none : (n : ℕ) (ws W : List ℕ) → ((x : ℕ) → x < 2 * n → mark n W x ≡ 0) → Holding n ws W 0
holding_none n ws W z =
    let none : (x : ℕ) → Held n W x → ⊥ = λ x p. omega (arith, p.is_marked, z x p.is_code) in
    record { listed = trail_none (2 * n) (mark n W) (trail n W) z; closed = λ a k b st p. absurd (none a p); consistent = λ x p q. none x p }

-- a set with the same marks
module _ {n : ℕ} {W W' : List ℕ} (same : (x : ℕ) → x < 2 * n → mark n W' x ≡ mark n W x) where
  -- holds the same codes
  pub held_there : (x : ℕ) → Held n W x → Held n W' x
  held_there x p = record { is_code = p.is_code; is_marked = omega (arith, p.is_marked, same x p.is_code) }

  -- and no others
  pub held_back : (x : ℕ) → Held n W' x → Held n W x
  held_back x p = record { is_code = p.is_code; is_marked = omega (arith, p.is_marked, same x p.is_code) }

  -- and is as closed and consistent
  pub holding_same : {ws : List ℕ} {t t' : ℕ} → Listed n W' t' → Holding n ws W t → Holding n ws W' t'
  holding_same r h =
      record {
        listed = r;
        closed = λ a k b st p. held_there b (h.closed a k b st (held_back a p));
        consistent = λ x p q. h.consistent x (held_back x p) (held_back (opposite x) q);
      }

-- a trail that goes on from another, taken back: the places are as before
pub undone_old : {n : ℕ} {tail t : ℕ} (W : List ℕ) {W₁ W₂ : List ℕ} →
    Listed n W tail → OntoTrail n W tail W₁ t → Undone n tail W₁ W₂ → (i : ℕ) → i < tail → trail n W₂ i ≡ trail n W i
undone_old W r o u i l = u.trails i (omega (arith, trail_few r)) ∙ o.old i l

-- and the marks are as before
pub undone_same : {n : ℕ} {tail t : ℕ} (W : List ℕ) {W₁ W₂ : List ℕ} →
    Listed n W tail → OntoTrail n W tail W₁ t → Undone n tail W₁ W₂ → (x : ℕ) → x < 2 * n → mark n W₂ x ≡ mark n W x
undone_same {n} {tail} {t} W {W₁} {W₂} r o u x l =
    ⊎_elim
    (λ (m : mark n W x ≡ 0). ⊎_elim
    (λ (k : mark n W₂ x ≡ 0). omega arith)
    (λ (k : mark n W₂ x ≢ 0).
    let w = u.listed.queued x l (omega arith) in
    let e : trail n W w.0 ≡ x = sym (undone_old W r o u w.0 w.1) ∙ w.2 in
    absurd (omega (arith, m, subst (λ (y : ℕ). 0 < mark n W y) e (r.inside w.0 w.1).1)))
    (same? (mark n W₂ x) 0))
    (λ (m : mark n W x ≢ 0).
    let w = r.queued x l (omega arith) in
    let e : trail n W₁ w.0 ≡ x = o.old w.0 w.1 ∙ w.2 in
    subst (λ (y : ℕ). mark n W₂ y ≡ mark n W₁ y) e (u.kept w.0 w.1) ∙ o.kept x l (omega arith))
    (same? (mark n W x) 0)

module _ {n : ℕ} {ws : List ℕ} {c tail : ℕ} {W W₁ : List ℕ} {t : ℕ} (h : Holding n ws W tail)
    (lc : (c < 2 * n) × (mark n W c ≡ 0) × (mark n W (opposite c) ≡ 0)) (p : Pressed n ws c tail W W₁ t) where
  -- a walk that met nothing: the set has grown
  pub tried_kept : Closed ws (Held n W₁) → Grew n ws c tail W W₁ t
  tried_kept closed =
      let source : Held n W₁ c = record { is_code = lc.0; is_marked = p.has } in
      let reached : (x : ℕ) → Reach ws c x → Held n W₁ x = λ x q. closed_reach ws (Held n W₁) closed c x q source in
      record {
        apart = p.apart;
        holding = record { listed = p.onto.listed; closed = closed; consistent = p.consistent };
        grows = p.onto.grows;
        old = p.onto.old;
        holds = λ x q. ⊎_elim (λ (i : Held n W x). record { is_code = i.is_code; is_marked = omega (arith, i.is_marked, p.onto.kept x i.is_code i.is_marked) }) (λ (i : Reach ws c x). reached x i) q;
        only = p.only;
        free = λ q. p.consistent c source (reached (opposite c) q);
      }

  -- the opposite of c is not in the set, so nothing in the set is the opposite of what c reaches
  clear_of : (b : ℕ) → Reach ws c b → Held n W (opposite b) → ⊥
  clear_of b q i = omega (arith, (closed_reach ws (Held n W) h.closed (opposite b) (opposite c) (reach_flip ws c b q) i).is_marked, lc.2)

  -- a walk that met b with its opposite, taken back: the set is as it was, and c leads to both
  pub tried_failed : (b : ℕ) {W₂ : List ℕ} → (b < 2 * n) × Reach ws c b × (0 < mark n W₁ (opposite b)) → Undone n tail W₁ W₂ → GaveUp n ws c tail W W₂ b
  tried_failed b {W₂} m u =
      let lo : opposite b < 2 * n = opposite_below n b m.0 in
      let same : (x : ℕ) → x < 2 * n → mark n W₂ x ≡ mark n W x = undone_same W h.listed p.onto u in
      let other : Reach ws c (opposite b) =
      ⊎_elim (λ (i : Held n W (opposite b)). absurd (clear_of b m.1 i)) (λ (q : Reach ws c (opposite b)). q)
      (p.only (opposite b) (record { is_code = lo; is_marked = m.2 })) in
      let outside : Held n W b → ⊥ = λ i. clear_of (opposite b) other (rw (opposite_opposite b) i) in
      record {
        apart = apart_trans p.apart u.apart;
        holding = holding_same same u.listed h;
        old = undone_old W h.listed p.onto u;
        same = same;
        is_code = m.0;
        to_code = m.1;
        to_opposite = other;
        turns = reach_trans ws c b (opposite c) m.1 (reach_turn ws c b other);
        out = same b m.0 ∙ unmarked m.0 outside;
        out_opposite = same (opposite b) lo ∙ unmarked lo (clear_of b m.1);
      }

-- what changed only spare words
pub listed_spared : {n t : ℕ} {W W' : List ℕ} → Spared n W W' → Listed n W t → Listed n W' t
listed_spared {n} {t} {W} {W'} s r = trail_same (mark n W') (trail n W') s.marks s.trails r
