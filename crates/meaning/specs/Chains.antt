-- Steps and chains, and what the calls answer about them. ws is the words of the rules; a, b, c are codes, k is a rule number.
use Rattle.std.specs.Prelude.{◌≡◌, ◌⊎◌, List, [], ◌∷◌, ℕ, ◌≤◌, ◌<◌, length}
use Rattle.meaning.specs.Codes.{opposite, late, early}
use Rattle.meaning.specs.Order.{Before}
use Rattle.meaning.specs.Rules.{rules, left, right}

module _ (ws : List ℕ) where
  -- from code a, rule k, which holds the opposite of a, leads to its other code b
  pub record Step (a k b : ℕ) : Type 0 where
    pub is_rule : k < rules ws
    pub leads : ((left ws k ≡ opposite a) × (right ws k ≡ b)) ⊎ ((right ws k ≡ opposite a) × (left ws k ≡ b))

  -- a chain from a to b is a list of rule numbers whose steps lead from a to b
  abbrev pub Chain : ℕ → List ℕ → ℕ → Type 0
  Chain a [] b = a ≡ b
  Chain a (k ∷ ks) b = (c : ℕ) × Step a k c × Chain c ks b

  -- there is a chain from a to b (of length 0 where a is b)
  abbrev pub Reach : ℕ → ℕ → Type 0
  Reach a b = (ks : List ℕ) × Chain a ks b

  -- choice v clashes: there is a chain from late to early and one back
  abbrev pub Clash : ℕ → Type 0
  Clash v = Reach (late v) (early v) × Reach (early v) (late v)

  -- v is the lowest choice that clashes
  pub record LowestClash (v : ℕ) : Type 0 where
    pub clash : Clash v
    pub lowest : (u : ℕ) → u < v → Clash u → ⊥

  -- ks is the chain from a to b that is named: of the least length, and among those the first in dictionary order of rule numbers
  pub record Shortest (a b : ℕ) (ks : List ℕ) : Type 0 where
    pub chain : Chain a ks b
    pub short : (js : List ℕ) → Chain a js b → length ks ≤ length js
    pub least : (js : List ℕ) → Chain a js b → length js ≡ length ks → Before js ks → ⊥

  -- two codes are tied: a chain leads from each to the other
  abbrev pub Tied : ℕ → ℕ → Type 0
  Tied a b = Reach a b × Reach b a

  -- c is the smallest code that is tied to late v
  pub record Tie (v c : ℕ) : Type 0 where
    pub tied : Tied (late v) c
    pub smallest : (d : ℕ) → Tied (late v) d → c ≤ d
