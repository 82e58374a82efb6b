-- How many of the first k numbers have a mark: laws of `count_of`.
use Prim.Native.Nat.{ℕ, zero, suc, ◌+◌, ◌≤◌, ◌<◌}
use mathlib.Core.Path.{◌≡◌, refl, subst}
use mathlib.Core.Logic.{⊎_elim, ◌≢◌}
use native.Mathlib.Omega.{arith}
use Rattle.moves.specs.Walks.{count_of}
use Rattle.meaning.proofs.General.{same?}

-- at most all of them
pub count_le : (f : ℕ → ℕ) (k : ℕ) → count_of f k ≤ k
unfolding count_of
count_le f zero = omega arith
count_le f (suc k) = omega (arith, count_le f k)

-- fewer, where one has no mark
pub count_lt : (f : ℕ → ℕ) (k b : ℕ) → b < k → f b ≡ 0 → count_of f k < k
unfolding count_of
count_lt f zero b l z = omega arith
count_lt f (suc k) b l z =
    ⊎_elim
    (λ (e : b ≡ k). omega (arith, count_le f k, subst (λ (x : ℕ). f x ≡ 0) e z))
    (λ e. omega (arith, count_lt f k b (omega arith) z))
    (same? b k)

-- none, where none has one
pub count_none : (f : ℕ → ℕ) (k : ℕ) → ((x : ℕ) → x < k → f x ≡ 0) → count_of f k ≡ 0
unfolding count_of
count_none f zero z = refl
count_none f (suc k) z = omega (arith, z k (omega arith), count_none f k (λ x l. z x (omega arith)))

-- as many, where the marks are the same
pub count_same : (f g : ℕ → ℕ) (k : ℕ) → ((x : ℕ) → x < k → g x ≡ f x) → count_of g k ≡ count_of f k
unfolding count_of
count_same f g zero s = refl
count_same f g (suc k) s = omega (arith, s k (omega arith), count_same f g k (λ x l. s x (omega arith)))

-- b gets a mark, and no other number
pub count_more : (f g : ℕ → ℕ) (k b : ℕ) → b < k → f b ≡ 0 → 0 < g b → ((x : ℕ) → x < k → x ≢ b → g x ≡ f x) → count_of g k ≡ count_of f k + 1
unfolding count_of
count_more f g zero b l z p s = omega arith
count_more f g (suc k) b l z p s =
    ⊎_elim
    (λ (e : b ≡ k).
    omega (
      arith,
      subst (λ (x : ℕ). f x ≡ 0) e z,
      subst (λ (x : ℕ). 0 < g x) e p,
      count_same f g k (λ x q. s x (omega arith) (omega arith)),
    ))
    (λ e. omega (arith, s k (omega arith) (omega arith), count_more f g k b (omega arith) z p (λ x q. s x (omega arith))))
    (same? b k)

-- where more numbers have a mark, the count is no less
pub count_mono : (f g : ℕ → ℕ) (k : ℕ) → ((x : ℕ) → x < k → 0 < f x → 0 < g x) → count_of f k ≤ count_of g k
unfolding count_of
count_mono f g zero s = omega arith
count_mono f g (suc k) s =
    ⊎_elim
    (λ (z : f k ≡ 0). omega (arith, count_mono f g k (λ x l. s x (omega arith))))
    (λ (z : f k ≢ 0). omega (arith, s k (omega arith) (omega arith), count_mono f g k (λ x l. s x (omega arith))))
    (same? (f k) 0)
