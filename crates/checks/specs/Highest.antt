-- The highest of the words.
use Rattle.std.specs.Prelude.{◌≡◌, ◌⊎◌, List, ℕ, ◌≤◌, ◌<◌, length, get_or}

-- no word is over x, and x is one of them, or 0
pub record Highest (ws : List ℕ) (x : ℕ) : Type 0 where
  pub over : (i : ℕ) → i < length ws → get_or ws i 0 ≤ x
  pub held : (x ≡ 0) ⊎ ((i : ℕ) × (i < length ws) × (get_or ws i 0 ≡ x))
