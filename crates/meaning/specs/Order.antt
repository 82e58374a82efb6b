-- Dictionary order, of rotas and of lists of rule numbers.
use Rattle.std.specs.Prelude.{◌≡◌, List, ℕ, ◌<◌, get_or}

-- r comes before s: the first place at which they differ decides, and there r has the lower number
pub record Before (r s : List ℕ) : Type 0 where
  pub at : ℕ
  pub same : (j : ℕ) → j < at → get_or r j 0 ≡ get_or s j 0
  pub less : get_or r at 0 < get_or s at 0
