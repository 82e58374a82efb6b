-- The trail grows and shrinks by a code.
use Prim.Native.Nat.{ℕ, ◌+◌, ◌≤◌, ◌<◌}
use mathlib.Core.Path.{◌≡◌, refl, sym, ap, ◌∙◌, subst}
use mathlib.Core.Logic.{⊎_elim, ◌≢◌}
use native.Mathlib.Omega.{arith}
use Rattle.moves.specs.Walks.{Trail, Onto}
use Rattle.meaning.proofs.General.{same?}
use Rattle.moves.proofs.Counts.{count_le, count_lt, count_none, count_same, count_more}

-- the trail has no more places than there are codes
pub trail_few : {N : ℕ} {mk q : ℕ → ℕ} {t : ℕ} → Trail N mk q t → t ≤ N
trail_few {N} {mk} r = omega (arith, r.count, count_le mk N)

-- there is a place for an unmarked code
pub trail_room : {N : ℕ} {mk q : ℕ → ℕ} {t b : ℕ} → Trail N mk q t → b < N → mk b ≡ 0 → t < N
trail_room {N} {mk} {q} {t} {b} r l z = omega (arith, r.count, count_lt mk N b l z)

-- no marks: an empty trail
pub trail_none : (N : ℕ) (mk q : ℕ → ℕ) → ((x : ℕ) → x < N → mk x ≡ 0) → Trail N mk q 0
trail_none N mk q z =
    record {
      count = count_none mk N z;
      inside = λ i l. absurd (omega arith);
      queued = λ x l p. absurd (omega (arith, z x l));
      once = λ i j l m. absurd (omega arith);
    }

module _ (N : ℕ) (mk q mk' q' : ℕ → ℕ) (t b : ℕ) (r : Trail N mk q t) (lb : b < N) (zb : mk b ≡ 0) (pb : 0 < mk' b)
    (mo : (x : ℕ) → x < N → x ≢ b → mk' x ≡ mk x) (qt : q' t ≡ b) (qo : (i : ℕ) → i < N → i ≢ t → q' i ≡ q i) where
  -- a marked code keeps its mark
  pub push_kept : (x : ℕ) → x < N → 0 < mk x → mk' x ≡ mk x
  push_kept x l p = mo x l (λ e. omega (arith, subst (λ (y : ℕ). mk y ≡ 0) (sym e) zb))

  -- and its place
  pub push_old : (i : ℕ) → i < t → q' i ≡ q i
  push_old i l = qo i (omega (arith, trail_few r)) (omega arith)

  -- and stands on the trail as before
  marked' : (i : ℕ) → i < t → 0 < mk' (q' i)
  marked' i l = rw (push_old i l) (omega (arith, push_kept (q i) (r.inside i l).0 (r.inside i l).1, (r.inside i l).1))

  -- the trail with b on it
  pub trail_push : Trail N mk' q' (t + 1)
  trail_push =
      record {
        count = count_more mk mk' N b lb zb pb mo ∙ ap (λ (k : ℕ). k + 1) r.count;
        inside = λ i l. ⊎_elim
            (λ (e : i ≡ t). rw (e, qt) (lb, pb))
            (λ (e : i ≢ t).
            let l' : i < t = omega arith in
            (rw (push_old i l') (r.inside i l').0, marked' i l'))
            (same? i t);
        queued = λ x l p. ⊎_elim
            (λ (e : x ≡ b). (t, omega arith, qt ∙ sym e))
            (λ (e : x ≢ b).
            let w = r.queued x l (omega (arith, mo x l e)) in
            (w.0, omega (arith, w.1), push_old w.0 w.1 ∙ w.2))
            (same? x b);
        once = λ i j l m e. ⊎_elim
            (λ (z : j ≡ t).
            let l' : i < t = omega arith in
            let f : q i ≡ b = sym (push_old i l') ∙ e ∙ ap q' z ∙ qt in
            omega (arith, (r.inside i l').1, ap mk f, zb))
            (λ (z : j ≢ t). r.once i j l (omega arith) (sym (push_old i (omega arith)) ∙ e ∙ push_old j (omega arith)))
            (same? j t);
      }

  -- goes on from the one before
  pub push_onto : Onto N mk q t mk' q' (t + 1)
  push_onto = record { listed = trail_push; grows = omega arith; old = push_old; kept = push_kept }

-- a trail goes on from itself, and from what it went on from
pub onto_refl : {N : ℕ} {mk q : ℕ → ℕ} {t : ℕ} → Trail N mk q t → Onto N mk q t mk q t
onto_refl r = record { listed = r; grows = omega arith; old = λ i l. refl; kept = λ x l p. refl }

-- and from what it went on from
pub onto_trans : {N : ℕ} {mk q : ℕ → ℕ} {t : ℕ} {mk₁ q₁ : ℕ → ℕ} {t₁ : ℕ} {mk₂ q₂ : ℕ → ℕ} {t₂ : ℕ} →
    Onto N mk q t mk₁ q₁ t₁ → Onto N mk₁ q₁ t₁ mk₂ q₂ t₂ → Onto N mk q t mk₂ q₂ t₂
onto_trans r s =
    record {
      listed = s.listed;
      grows = omega (arith, r.grows, s.grows);
      old = λ i l. s.old i (omega (arith, r.grows)) ∙ r.old i l;
      kept = λ x l p. s.kept x l (omega (arith, r.kept x l p)) ∙ r.kept x l p;
    }

-- the last code of the trail loses its mark
module _ (N : ℕ) (mk q mk' q' : ℕ → ℕ) (t : ℕ) (r : Trail N mk q (t + 1)) (z : mk' (q t) ≡ 0)
    (mo : (x : ℕ) → x < N → x ≢ q t → mk' x ≡ mk x) (qo : (i : ℕ) → i < N → q' i ≡ q i) where
  -- the last place
  last : t < t + 1
  last = omega arith

  -- the other places stay
  same_place : (i : ℕ) → i < t → q' i ≡ q i
  same_place i l = qo i (omega (arith, trail_few r))

  -- their codes keep their marks
  pub pop_kept : (i : ℕ) → i < t → mk' (q i) ≡ mk (q i)
  pop_kept i l = mo (q i) (r.inside i (omega arith)).0 (r.once i t l last)

  -- the trail without its last code
  pub trail_pop : Trail N mk' q' t
  trail_pop =
      record {
        count = omega (arith, r.count, count_more mk' mk N (q t) (r.inside t last).0 z (r.inside t last).1 (λ x l n. sym (mo x l n)));
        inside = λ i l. rw (same_place i l) ((r.inside i (omega arith)).0, omega (arith, pop_kept i l, (r.inside i (omega arith)).1));
        queued = λ x l p. ⊎_elim
            (λ (e : x ≡ q t). absurd (omega (arith, subst (λ (y : ℕ). 0 < mk' y) e p)))
            (λ (e : x ≢ q t).
            let w = r.queued x l (omega (arith, mo x l e)) in
            ⊎_elim
            (λ (f : w.0 ≡ t). absurd (e (sym w.2 ∙ ap q f)))
            (λ (f : w.0 ≢ t).
            let l' : w.0 < t = omega (arith, w.1) in
            (w.0, l', same_place w.0 l' ∙ w.2))
            (same? w.0 t))
            (same? x (q t));
        once = λ i j l m e. r.once i j l (omega arith) (sym (same_place i (omega arith)) ∙ e ∙ same_place j m);
      }

-- the same marks and places below N
pub trail_same : {N : ℕ} {mk q : ℕ → ℕ} {t : ℕ} (mk' q' : ℕ → ℕ) → ((x : ℕ) → x < N → mk' x ≡ mk x) → ((i : ℕ) → i < N → q' i ≡ q i) → Trail N mk q t → Trail N mk' q' t
trail_same {N} {mk} {q} {t} mk' q' ms qs r =
    let same : (i : ℕ) → i < t → q' i ≡ q i = λ i l. qs i (omega (arith, trail_few r)) in
    record {
      count = count_same mk mk' N ms ∙ r.count;
      inside = λ i l. rw (same i l) ((r.inside i l).0, omega (arith, ms (q i) (r.inside i l).0, (r.inside i l).1));
      queued = λ x l p.
          let w = r.queued x l (omega (arith, ms x l)) in
          (w.0, w.1, same w.0 w.1 ∙ w.2);
      once = λ i j l m e. r.once i j l m (sym (same i (omega arith)) ∙ e ∙ same j m);
    }
