-- Two outcomes that `index`, or `undo`, allows are one: every word of the area is told.
use mathlib.Core.Path.{◌≡◌, sym, ◌∙◌}
use mathlib.Core.Logic.{⊎_elim}
use mathlib.Core.List.{List}
use Prim.Native.Nat.{ℕ, ◌+◌, ◌-◌, ◌*◌, ◌≤◌, ◌<◌}
use native.Mathlib.Omega.{arith}
use lib.ListN.{length, get_or}
use Rattle.std.proofs.lemmas.Grind.{same_number_lists}
use Rattle.meaning.proofs.General.{below_or_from, compared}
use Rattle.moves.specs.Layout.{head, mark, trail, spare, next}
use Rattle.moves.specs.Lists.{FirstEnd, Indexed}
use Rattle.moves.specs.Walks.{Undone}
use Rattle.moves.proofs.Trails.{trail_few}

-- two areas whose tables hold the same words are the same
record Alike (n : ℕ) (W V : List ℕ) : Type 0 where
  pub long : length W ≡ length V
  pub heads : (c : ℕ) → c < 2 * n → head n W c ≡ head n V c
  pub marks : (x : ℕ) → x < 2 * n → mark n W x ≡ mark n V x
  pub trails : (i : ℕ) → i < 2 * n → trail n W i ≡ trail n V i
  pub spares : (x : ℕ) → x < 2 * n → spare n W x ≡ spare n V x
  pub nexts : (e : ℕ) → next n W e ≡ next n V e

alike_once : {n : ℕ} {W V : List ℕ} → Alike n W V → W ≡ V
alike_once {n} {W} {V} a = same_number_lists W V a.long word
  where
    -- the words of a table that starts at `at` are the same
    part : (at i : ℕ) → at ≤ i → ((x : ℕ) → x < 2 * n → get_or W (at + x) 0 ≡ get_or V (at + x) 0) → i < at + 2 * n → get_or W i 0 ≡ get_or V i 0
    part at i low same high = let e : at + (i - at) ≡ i = omega arith in rw e at (same (i - at) (omega arith))

    word : (i : ℕ) → i < length W → get_or W i 0 ≡ get_or V i 0
    word i l =
        ⊎_elim (λ (h : i < 2 * n). a.heads i h)
        (λ (p : 2 * n ≤ i). ⊎_elim (λ (h : i < 4 * n). part (2 * n) i p a.marks (omega arith))
        (λ (p : 4 * n ≤ i). ⊎_elim (λ (h : i < 6 * n). part (4 * n) i p a.trails (omega arith))
        (λ (p : 6 * n ≤ i). ⊎_elim (λ (h : i < 8 * n). part (6 * n) i p a.spares (omega arith))
        (λ (p : 8 * n ≤ i). let e : 8 * n + (i - 8 * n) ≡ i = omega arith in rw e at (a.nexts (i - 8 * n)))
        (below_or_from i (8 * n))) (below_or_from i (6 * n))) (below_or_from i (4 * n))) (below_or_from i (2 * n))

-- there is one first end
first_end_once : {ws : List ℕ} {c from h k : ℕ} → FirstEnd ws c from h → FirstEnd ws c from k → h ≡ k
first_end_once {ws} {c} {from} {h} {k} p q =
    ⊎_elim (λ (l : h < k). absurd (later p q l)) (⊎_elim (λ e. e) (λ (l : k < h). absurd (later q p l))) (compared h k)
  where
    -- what one finds, the other finds as early
    later : {i j : ℕ} → FirstEnd ws c from i → FirstEnd ws c from j → i < j → ⊥
    later {i} {j} p q l =
        let found = q.found (omega arith) in
        let hit = p.hit (j - 1) (omega (arith, found.0)) (omega (arith, found.1, l)) found.2 in
        let first = p.found hit.0 in
        let again = q.hit (i - 1) (omega (arith, first.0)) (omega (arith, first.1, hit.0)) first.2 in
        omega (arith, again.1, hit.0)

pub index_once : {n : ℕ} {ws W W₁ W₂ : List ℕ} → Indexed n ws W W₁ → Indexed n ws W W₂ → W₁ ≡ W₂
index_once {n} {ws} {W} {W₁} {W₂} p q =
    alike_once (record {
      long = p.beside.long ∙ sym q.beside.long;
      heads = λ c l. first_end_once (p.ready.lists.heads c l) (q.ready.lists.heads c l);
      marks = λ x l. p.beside.marks x l ∙ sym (q.beside.marks x l);
      trails = λ i l. p.beside.trails i l ∙ sym (q.beside.trails i l);
      spares = λ x l. p.beside.spares x l ∙ sym (q.beside.spares x l);
      nexts = λ e. ⊎_elim
          (λ (l : e < length ws). first_end_once (p.ready.lists.nexts e (omega arith) l) (q.ready.lists.nexts e (omega arith) l))
          (λ (h : length ws ≤ e). p.beside.past e h ∙ sym (q.beside.past e h))
          (below_or_from e (length ws));
    })

pub undo_once : {n end : ℕ} {W W₁ W₂ : List ℕ} → Undone n end W W₁ → Undone n end W W₂ → W₁ ≡ W₂
undo_once {n} {end} {W} {W₁} {W₂} p q =
    alike_once (record {
      long = p.apart.long ∙ sym q.apart.long;
      heads = λ c l. p.apart.heads c l ∙ sym (q.apart.heads c l);
      marks = λ x l. marks x l;
      trails = λ i l. p.trails i l ∙ sym (q.trails i l);
      spares = λ x l. p.apart.spares x l ∙ sym (q.apart.spares x l);
      nexts = λ e. p.apart.nexts e ∙ sym (q.apart.nexts e);
    })
  where
    -- a code that has a mark afterwards had it before
    stays : {V : List ℕ} → Undone n end W V → (x : ℕ) → x < 2 * n → 0 < mark n V x → mark n V x ≡ mark n W x
    stays {V} u x l m =
        let t = u.listed.queued x l m in
        let few : t.0 < 2 * n = omega (arith, t.1, trail_few u.listed) in
        let here : trail n W t.0 ≡ x = sym (u.trails t.0 few) ∙ t.2 in
        rw here at (u.kept t.0 t.1)

    -- and it has one in the other area too
    held : {V U : List ℕ} → Undone n end W V → Undone n end W U → (x : ℕ) → x < 2 * n → 0 < mark n V x → 0 < mark n U x
    held {V} {U} u v x l m =
        let t = u.listed.queued x l m in
        let few : t.0 < 2 * n = omega (arith, t.1, trail_few u.listed) in
        let here : trail n U t.0 ≡ x = v.trails t.0 few ∙ sym (u.trails t.0 few) ∙ t.2 in
        rw here at (v.listed.inside t.0 t.1).1

    marks : (x : ℕ) → x < 2 * n → mark n W₁ x ≡ mark n W₂ x
    marks x l = ⊎_elim
        (λ (z : mark n W₁ x < 1). ⊎_elim (λ (y : mark n W₂ x < 1). omega (arith, z, y)) (λ (m : 1 ≤ mark n W₂ x). omega (arith, z, held q p x l m)) (below_or_from (mark n W₂ x) 1))
        (λ (m : 1 ≤ mark n W₁ x). stays p x l m ∙ sym (stays q x l (held p q x l m)))
        (below_or_from (mark n W₁ x) 1)
