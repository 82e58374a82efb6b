-- The turns of `learn`: shades and notes in the spare table, and what two walks share.
use mathlib.Core.Path.{◌≡◌, refl, sym, ap, ◌∙◌}
use mathlib.Core.Logic.{inl, inr, ⊎_elim, ◌≢◌}
use mathlib.Core.List.{List}
use Prim.Native.Nat.{ℕ, ◌+◌, ◌-◌, ◌*◌, ◌%◌, ◌≤◌, ◌<◌}
use native.Mathlib.Omega.{arith}
use lib.ListN.{set}
use Rattle.meaning.specs.Codes.{opposite}
use Rattle.moves.specs.Layout.{spare_at, trail, spare, Tables}
use Rattle.lessons.specs.Learning.{OnTrail, Shaded, Flagged, Noted, Plain}
use Rattle.moves.specs.Walks.{Listed}
use Rattle.meaning.proofs.CodeLaws.{opposite_opposite, opposite_below}
use Rattle.meaning.proofs.General.{same?, below_or_from}
use Rattle.moves.proofs.Places.{spared_refl, spared_trans, spare_stored, spare_elsewhere, spare_spared}
use Rattle.moves.proofs.Trails.{trail_few}

-- a place more of the trail
on_more : {n from i : ℕ} {W : List ℕ} {x : ℕ} → OnTrail n from i W x → OnTrail n from (i + 1) W x
on_more p = record { place = p.place; low = p.low; high = omega (arith, p.high); is = p.is }

-- at its start no code is shaded
pub shade_start : (n from : ℕ) (W : List ℕ) → Shaded n from from W W
shade_start n from W = record { spared = spared_refl n W; notes = λ x l. refl; shades = λ x l p. inl p }

-- the code at place i is shaded
pub shade_turn : {n from end i x s : ℕ} {W₀ W W' : List ℕ} → Tables n W₀ → Listed n W₀ end → from ≤ i → i < end → Shaded n from i W₀ W →
    x ≡ trail n W i → s ≡ spare n W x → W' ≡ set W (spare_at n x) (s % 4 + 4) → Shaded n from (i + 1) W₀ W'
shade_turn {n} {from} {end} {i} {x} {s} {W₀} {W} {W'} lw tr low l r qx qs qW =
    let here : x ≡ trail n W₀ i = qx ∙ r.spared.trails i (omega (arith, trail_few tr)) in
    let lx : x < 2 * n = omega (arith, here, (tr.inside i l).0) in
    let fits : Tables n W = omega (arith, r.spared.long) in
    let same : spare n (set W (spare_at n x) (s % 4 + 4)) x ≡ s % 4 + 4 = spare_stored n W x (s % 4 + 4) lx fits in
    let off : (y : ℕ) → y ≢ x → spare n (set W (spare_at n x) (s % 4 + 4)) y ≡ spare n W y = spare_elsewhere n W x (s % 4 + 4) lx fits in
    rw qW (record {
      spared = spared_trans r.spared (spare_spared n W x (s % 4 + 4) lx fits);
      notes = λ y m. ⊎_elim
          (λ (e : y ≡ x). rw e (omega (arith, same, qs, r.notes x lx)))
          (λ (e : y ≢ x). rw (off y e) (r.notes y m))
          (same? y x);
      shades = λ y m p. ⊎_elim
          (λ (e : y ≡ x). inr (record { place = i; low = low; high = omega arith; is = sym (e ∙ here) }))
          (λ (e : y ≢ x). ⊎_elim (λ q. inl q) (λ q. inr (on_more q)) (r.shades y m (rw (off y e) at p)))
          (same? y x);
    })

-- at its start no code is flagged
pub note_start : (n from : ℕ) (W : List ℕ) → Noted n from from W W
note_start n from W = record { spared = spared_refl n W; shades = λ x l p. p; notes = λ x l. inl refl }

-- the code at place i is flagged
pub note_turn : {n from end i x : ℕ} {W₀ W W' : List ℕ} → Tables n W₀ → Listed n W₀ end → from ≤ i → i < end → Noted n from i W₀ W →
    x ≡ trail n W i → Flagged n W x W' → Noted n from (i + 1) W₀ W'
note_turn {n} {from} {end} {i} {x} {W₀} {W} {W'} lw tr low l r qx d =
    let here : x ≡ trail n W₀ i = qx ∙ r.spared.trails i (omega (arith, trail_few tr)) in
    let lx : x < 2 * n = omega (arith, here, (tr.inside i l).0) in
    let lo : opposite x < 2 * n = opposite_below n x lx in
    let fits : Tables n W = omega (arith, r.spared.long) in
    ⊎_elim
    (λ (z : spare n W x < 4). rw (d.plain z) (record {
      spared = r.spared;
      shades = r.shades;
      notes = λ y m. ⊎_elim (λ q. inl q) (λ q. inr (q.0, q.1, on_more q.2)) (r.notes y m);
    }))
    (λ (z : 4 ≤ spare n W x).
    let o = spare n W (opposite x) in
    let v = o - o % 4 + 2 in
    let same : spare n (set W (spare_at n (opposite x)) v) (opposite x) ≡ v = spare_stored n W (opposite x) v lo fits in
    let off : (y : ℕ) → y ≢ opposite x → spare n (set W (spare_at n (opposite x)) v) y ≡ spare n W y = spare_elsewhere n W (opposite x) v lo fits in
    rw (d.dark z) (record {
      spared = spared_trans r.spared (spare_spared n W (opposite x) v lo fits);
      shades = λ y m p. ⊎_elim
          (λ (e : y ≡ opposite x). rw e (r.shades (opposite x) lo (omega (arith, same, rw e at p))))
          (λ (e : y ≢ opposite x). r.shades y m (rw (off y e) at p))
          (same? y (opposite x));
      notes = λ y m. ⊎_elim
          (λ (e : y ≡ opposite x).
          let back : opposite y ≡ x = ap opposite e ∙ opposite_opposite x in
          inr (rw e (omega (arith, same)), rw back (r.shades x lx z), record { place = i; low = low; high = omega arith; is = sym (back ∙ here) }))
          (λ (e : y ≢ opposite x). rw (off y e) (⊎_elim (λ q. inl q) (λ q. inr (q.0, q.1, on_more q.2)) (r.notes y m)))
          (same? y (opposite x));
    }))
    (below_or_from (spare n W x) 4)

-- at its start nothing is taken away
pub plain_start : (n : ℕ) (W : List ℕ) → Plain n 0 W W
plain_start n W = record { spared = spared_refl n W; done = λ x l. absurd (omega arith); rest = λ x l m. refl }

-- the shade of code i is taken away
pub plain_turn : {n i x s : ℕ} {W₀ W W' : List ℕ} → Tables n W₀ → i < 2 * n → Plain n i W₀ W → x ≡ i → s ≡ spare n W x → W' ≡ set W (spare_at n x) (s % 4) → Plain n (i + 1) W₀ W'
plain_turn {n} {i} {x} {s} {W₀} {W} {W'} lw l r qx qs qW =
    let fits : Tables n W = omega (arith, r.spared.long) in
    let same : spare n (set W (spare_at n i) (s % 4)) i ≡ s % 4 = spare_stored n W i (s % 4) l fits in
    let off : (y : ℕ) → y ≢ i → spare n (set W (spare_at n i) (s % 4)) y ≡ spare n W y = spare_elsewhere n W i (s % 4) l fits in
    rw (qW, qx) (record {
      spared = spared_trans r.spared (spare_spared n W i (s % 4) l fits);
      done = λ y m. ⊎_elim
          (λ (e : y ≡ i). rw e (omega (arith, same, rw qx at qs, r.rest i (omega arith) l)))
          (λ (e : y ≢ i). rw (off y e) (r.done y (omega arith)))
          (same? y i);
      rest = λ y a m. rw (off y (omega arith)) (r.rest y (omega arith) m);
    })
