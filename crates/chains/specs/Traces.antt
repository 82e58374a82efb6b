-- What the marks tell of a chain to the opposite of c, and how a chain is written.
use Rattle.std.specs.Prelude.{◌≡◌, List, ℕ, ◌+◌, ◌*◌, ◌≤◌, ◌<◌, length, get_or}
use Rattle.meaning.specs.Chains.{Step, Chain, Shortest}
use Rattle.meaning.specs.Codes.{opposite}
use Rattle.meaning.specs.Rules.{other_end}
use Rattle.moves.specs.Layout.{mark, Apart}
use Rattle.meaning.specs.Sizes.{over}
use Rattle.moves.specs.Area.{Area, Same}

-- no code of the n choices has a mark
abbrev pub Unmarked : ℕ → List ℕ → Type 0
Unmarked n W = (x : ℕ) → x < 2 * n → mark n W x ≡ 0

-- the mark of the opposite of a is 1 more than the least length of a chain from a to the opposite of c
pub record Away (n : ℕ) (ws : List ℕ) (c : ℕ) (W : List ℕ) : Type 0 where
  pub least : (a : ℕ) (ks : List ℕ) → a < 2 * n → Chain ws a ks (opposite c) → (0 < mark n W (opposite a)) × (mark n W (opposite a) ≤ length ks + 1)
  pub chain : (a : ℕ) → a < 2 * n → 0 < mark n W (opposite a) → (ks : List ℕ) × Chain ws a ks (opposite c) × (mark n W (opposite a) ≡ length ks + 1)
  pub small : (a : ℕ) → a < 2 * n → mark n W (opposite a) ≤ 2 * n

-- the mark of the opposite of the code to which the step by the end e leads
abbrev pub across : ℕ → List ℕ → List ℕ → ℕ → ℕ
across n ws W e = mark n W (opposite (get_or ws (other_end e) 0))

-- some rule leads from a to a code whose opposite has the mark d
abbrev pub LeadsTo : Area → ℕ → ℕ → Type 0
LeadsTo w a d = (k : ℕ) × (b : ℕ) × Step w.rules a k b × (mark w.n w.words (opposite b) ≡ d)

-- k is the lowest rule that leads from a to a code whose opposite has the mark d
pub record LowestTo (n : ℕ) (ws W : List ℕ) (a d k : ℕ) : Type 0 where
  pub next : ℕ
  pub step : Step ws a k next
  pub near : mark n W (opposite next) ≡ d
  pub lowest : (j b : ℕ) → j < k → Step ws a j b → mark n W (opposite b) ≡ d → ⊥

-- the chain that is named, from c to its opposite, is written at the front of the area, and r is its length
pub record Traced (ws : List ℕ) (c : ℕ) (area area' : List ℕ) (r : ℕ) : Type 0 where
  pub chain : List ℕ
  pub shortest : Shortest ws c (opposite c) chain
  pub counted : r ≡ length chain
  pub written : area' ≡ over chain area

-- and the work area is as it was, but for its trail
pub record Chained (a : Area) (c : ℕ) (b : Area) (area area' : List ℕ) (r : ℕ) : Type 0 where
  pub same : Same a b
  pub traced : Traced a.rules c area area' r
  pub apart : Apart a.n a.words b.words
  pub unmarked : Unmarked a.n b.words
