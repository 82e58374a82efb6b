-- The marks of a walk from c tell the distances to the opposite of c.
use mathlib.Core.Path.{◌≡◌, refl}
use mathlib.Core.Logic.{⊎_elim, ◌≢◌}
use mathlib.Core.List.{List, [], ◌∷◌, reverse}
use Prim.Native.Nat.{ℕ, ◌+◌, ◌-◌, ◌*◌, ◌≤◌, ◌<◌}
use native.Mathlib.Omega.{arith}
use lib.ListN.{length, length-reverse}
use Rattle.chains.specs.Traces.{Unmarked, Away}
use Rattle.meaning.specs.Chains.{Step, Chain}
use Rattle.meaning.specs.Codes.{opposite}
use Rattle.moves.specs.Layout.{mark, Sizes}
use Rattle.moves.specs.Walks.{Listed, Held, SpreadFrom}
use Rattle.meaning.proofs.ChainLaws.{chain_flip}
use Rattle.meaning.proofs.ChainLength.{shortest_length}
use Rattle.meaning.proofs.CodeLaws.{opposite_opposite, opposite_below}
use Rattle.meaning.proofs.Exists.{shortest_exists}
use Rattle.meaning.proofs.General.{same?}
use Rattle.meaning.proofs.Sets.{Closed}
use Rattle.meaning.proofs.ShortestLaws.{Distance, nearer}
use Rattle.moves.proofs.Steps.{step_to, step_from}

-- no marks: an empty set, which no step leaves
pub none_closed : {n : ℕ} (ws : List ℕ) {W : List ℕ} → Unmarked n W → Closed ws (Held n W)
none_closed ws clean a k b st h = absurd (omega (arith, h.is_marked, clean a h.is_code))

-- and an empty trail, which tells that there is none
pub none_marked : (n : ℕ) (W : List ℕ) → Listed n W 0 → Unmarked n W
none_marked n W r x l =
    ⊎_elim (λ e. e) (λ (e : mark n W x ≢ 0). absurd (omega (arith, (r.queued x l (omega arith)).1))) (same? (mark n W x) 0)

-- the marks of a walk from c on top of no marks, read from the other side
module _ {n : ℕ} {ws : List ℕ} {c : ℕ} {W₀ W : List ℕ} {t r : ℕ} (s : Sizes n ws W) (clean : Unmarked n W₀) (lc : c < 2 * n)
    (sp : SpreadFrom n ws c t W₀ W r) where
  -- a chain from c leads to x, as long as its mark tells
  marked : (x : ℕ) → x < 2 * n → 0 < mark n W x → (ks : List ℕ) × Chain ws c ks x × (mark n W x ≡ length ks + 1)
  marked x l p = ⊎_elim (λ (h : 0 < mark n W₀ x). absurd (omega (arith, clean x l))) (λ h. h) (sp.chain x l p)

  -- and none is shorter
  bound : (x : ℕ) (ks : List ℕ) → x < 2 * n → Chain ws c ks x → (0 < mark n W x) × (mark n W x ≤ length ks + 1)
  bound x ks l p =
      let g = sp.least ks x p in
      (g.0, ⊎_elim (λ (h : 0 < mark n W₀ x). absurd (omega (arith, clean x l))) (λ h. h) g.1)

  -- so marks are small
  few : (x : ℕ) → x < 2 * n → mark n W x ≤ 2 * n
  few x l =
      ⊎_elim
      (λ (z : mark n W x ≡ 0). omega arith)
      (λ (z : mark n W x ≢ 0).
      let w = marked x l (omega arith) in
      let sh = shortest_exists ws x c (w.0, w.1) in
      omega (arith, shortest_length ws x n s.codes c sh.0 lc sh.1, bound x sh.0 l sh.1.chain))
      (same? (mark n W x) 0)

  -- so the marks tell how far each code is from the opposite of c
  pub away : Away n ws c W
  away =
      record {
        least = λ a ks l p.
            let q : Chain ws c (reverse ks) (opposite a) = rw (opposite_opposite c) at (chain_flip ws a ks (opposite c) p) in
            let g = bound (opposite a) (reverse ks) (opposite_below n a l) q in
            (g.0, omega (arith, g.1, length-reverse ks));
        chain = λ a l p.
            let w = marked (opposite a) (opposite_below n a l) p in
            (reverse w.0, rw (opposite_opposite a) at (chain_flip ws c w.0 (opposite a) w.1), omega (arith, w.2, length-reverse w.0));
        small = λ a l. few (opposite a) (opposite_below n a l);
      }

-- the distance that the marks tell; what leads nowhere is far
abbrev pub dist : ℕ → List ℕ → ℕ → ℕ
dist n W a = (mark n W (opposite a) - 1) + 65536 * (1 - mark n W (opposite a))

module _ {n : ℕ} {ws : List ℕ} {c : ℕ} {W : List ℕ} (s : Sizes n ws W) (lc : c < 2 * n) (aw : Away n ws c W) where
  -- a step lowers the distance by one at most
  slow : (a k b : ℕ) → Step ws a k b → dist n W a ≤ dist n W b + 1
  slow a k b st =
      let la : a < 2 * n = step_from s a k b st in
      ⊎_elim
      (λ (z : mark n W (opposite b) ≡ 0). omega (arith, s.few, aw.small a la))
      (λ (z : mark n W (opposite b) ≢ 0).
      let w = aw.chain b (step_to s a k b st) (omega arith) in
      omega (arith, w.2, aw.least a (k ∷ w.0) la (b, st, w.1)))
      (same? (mark n W (opposite b)) 0)

  -- so it is one
  pub distance : Distance ws (opposite c) (dist n W)
  distance = record { end = omega (arith, aw.least (opposite c) [] (opposite_below n c lc) refl); slow = slow }

  -- from a code at a distance, some rule leads one nearer
  pub goes_on : {a d : ℕ} → a < 2 * n → mark n W (opposite a) ≡ d + 1 → 0 < d →
      (k : ℕ) × (b : ℕ) × Step ws a k b × (mark n W (opposite b) ≡ d)
  goes_on {a} {d} la q p =
      let w = aw.chain a la (omega arith) in
      let g = nearer ws (opposite c) (dist n W) distance a w.0 w.1 (omega (arith, w.2)) (omega arith) in
      (g.0, g.1, g.2, omega (arith, g.3, s.few, aw.small a la))

  -- a code at distance 0 is the chain's end
  pub arrived : {a : ℕ} → a < 2 * n → mark n W (opposite a) ≡ 1 → a ≡ opposite c
  arrived {a} la q = let w = aw.chain a la (omega arith) in stop w.0 w.1 (omega (arith, w.2))
    where
      stop : (ks : List ℕ) → Chain ws a ks (opposite c) → length ks ≡ 0 → a ≡ opposite c
      stop [] p e = p
      stop (k ∷ ks) p e = absurd (omega arith)
