-- The highest word, as a pass over the words finds it.
use mathlib.Core.Path.{◌≡◌, refl, ◌∙◌}
use mathlib.Core.Logic.{◌⊎◌, inl, inr, ⊎_elim}
use mathlib.Core.List.{List}
use Prim.Native.Nat.{ℕ, ◌+◌, ◌≤◌, ◌<◌}
use native.Mathlib.Omega.{arith}
use native.Mathlib.Nat.{le_antisymm}
use lib.ListN.{length, get_or}
use Rattle.std.proofs.lemmas.Bool.Decides.{nat_tests}
use Rattle.std.specs.Ordering.{ord_max, nat_cmp}
use Rattle.std.specs.Prelude.{max}
use Rattle.checks.specs.Highest.{Highest}
use Rattle.meaning.proofs.General.{below_or_from}

-- the maximum that the code takes is the larger number
pub max_is : (a b : ℕ) → ord_max nat_cmp a b ≡ max a b
max_is a b = grind (arith, nat_tests)

-- of the first k words top is the highest, or 0
pub record Finding (ws : List ℕ) (k top : ℕ) : Type 0 where
  pub over : (i : ℕ) → i < k → get_or ws i 0 ≤ top
  pub held : (top ≡ 0) ⊎ ((i : ℕ) × (i < k) × (get_or ws i 0 ≡ top))

-- none is passed yet
pub finding_start : (ws : List ℕ) → Finding ws 0 0
finding_start ws = record { over = λ i h. absurd (omega (arith, h)); held = inl refl }

-- one word more
pub finding_turn : (ws : List ℕ) (k top x y : ℕ) → Finding ws k top → x ≡ get_or ws k 0 → y ≡ max top x → Finding ws (k + 1) y
finding_turn ws k top x y f e m =
    record {
      over = λ i h. ⊎_elim (λ (l : i < k). omega (arith, f.over i l, m)) (λ (l : k ≤ i). let q : i ≡ k = omega arith in rw q (omega (arith, e, m))) (below_or_from i k);
      held = ⊎_elim (λ l. ⊎_elim (λ z. inr (k, omega arith, omega (arith, e, m, l, z))) (λ w. inr (w.0, omega (arith, w.1), w.2 ∙ omega (arith, m, l))) f.held)
          (λ l. inr (k, omega arith, omega (arith, e, m, l))) (below_or_from x top);
    }

-- all are
pub finding_end : (ws : List ℕ) (k top : ℕ) → k ≡ length ws → Finding ws k top → Highest ws top
finding_end ws k top e f =
    record { over = λ i h. f.over i (omega (arith, h, e)); held = ⊎_elim (λ z. inl z) (λ w. inr (w.0, omega (arith, w.1, e), w.2)) f.held }

-- a list has one highest word
pub highest_once : (ws : List ℕ) (x y : ℕ) → Highest ws x → Highest ws y → x ≡ y
highest_once ws x y p q = le_antisymm (up p q) (up q p)
  where
    up : {x y : ℕ} → Highest ws x → Highest ws y → x ≤ y
    up p q = ⊎_elim (λ z. omega (arith, z)) (λ w. omega (arith, w.2, q.over w.0 w.1)) p.held
