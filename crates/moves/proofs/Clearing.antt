-- What a cleared area holds: zeros at its front, and then what it held.
use mathlib.Core.Path.{◌≡◌, ap, ◌∙◌}
use mathlib.Core.List.{List, ◌++◌}
use Prim.Native.Nat.{ℕ, ◌≤◌, ◌<◌}
use native.Mathlib.Omega.{arith}
use lib.ListN.{length, length-replicate, get_or, get_or-replicate, drop, replicate}
use Rattle.meaning.specs.Sizes.{over}
use Rattle.meaning.proofs.AreaLaws.{over_front, over_rest, over_length}

-- as many zeros as are asked for
pub length_zeros : (k : ℕ) → length (replicate {A = ℕ} k 0) ≡ k
length_zeros k = length-replicate k 0

-- zeros in front of what is past them
pub over_zeros : (k : ℕ) (W : List ℕ) → over (replicate k 0) W ≡ replicate k 0 ++ drop k W
over_zeros k W = ap (λ (j : ℕ). replicate k 0 ++ drop j W) (length_zeros k)

module _ (k : ℕ) (W : List ℕ) (fits : k ≤ length W) where
  -- the length stays
  pub cleared_length : length (over (replicate k 0) W) ≡ length W
  cleared_length = over_length (replicate k 0) W (omega (arith, length_zeros k))

  -- the first k words are 0
  pub cleared_zero : (i : ℕ) → i < k → get_or (over (replicate k 0) W) i 0 ≡ 0
  cleared_zero i l = over_front (replicate k 0) W i (omega (arith, length_zeros k)) ∙ get_or-replicate k i 0 0 l

  -- the others stay
  pub cleared_rest : (i : ℕ) → k ≤ i → get_or (over (replicate k 0) W) i 0 ≡ get_or W i 0
  cleared_rest i l = over_rest (replicate k 0) W i (omega (arith, length_zeros k))
