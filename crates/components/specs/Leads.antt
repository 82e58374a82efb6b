-- What the walk leaves for its callers: the smallest code that each code is tied to, and what is read off from it.
use Rattle.std.specs.Prelude.{◌≡◌, Bool, true, false, List, ℕ, ◌+◌, ◌-◌, ◌*◌, ◌≤◌, ◌<◌, length}
use Rattle.meaning.specs.Chains.{Tied, Clash, Tie}
use Rattle.meaning.specs.Promises.{Each}
use Rattle.meaning.specs.Sizes.{over}
use Rattle.moves.specs.Layout.{mark, next}

-- l is the smallest code that is tied to x
pub record Lead (ws : List ℕ) (x l : ℕ) : Type 0 where
  pub tied : Tied ws x l
  pub smallest : (y : ℕ) → Tied ws x y → l ≤ y

-- the mark of a settled code whose lead is l; and the lead that such a mark tells
abbrev pub settled_rank : ℕ → ℕ → ℕ
settled_rank n l = 2 * n + 1 + l

abbrev pub lead_of : ℕ → List ℕ → ℕ → ℕ
lead_of n W x = mark n W x - (2 * n + 1)

-- the tables of n choices
pub record Marked : Type 0 where
  pub n : ℕ
  pub tables : List ℕ

-- every code is settled
abbrev pub AllSettled : ℕ → List ℕ → Type 0
AllSettled n W = (x : ℕ) → x < 2 * n → 2 * n < mark n W x

-- every code is settled, and its mark tells the smallest code that it is tied to
pub record Leads (n : ℕ) (ws W : List ℕ) : Type 0 where
  pub settled : AllSettled n W
  pub lead : (x : ℕ) → x < 2 * n → Lead ws x (lead_of n W x)

-- the tables are used up, and what is past them stays
pub record Side (n : ℕ) (W W' : List ℕ) : Type 0 where
  pub long : length W' ≡ length W
  pub nexts : (e : ℕ) → next n W' e ≡ next n W e

-- some choice clashes, or none of n choices does
abbrev pub SomeClash : ℕ → List ℕ → Bool → Type 0
SomeClash n ws true = (v : ℕ) × Clash ws v
SomeClash n ws false = (v : ℕ) → v < n → Clash ws v → ⊥

-- the ties are written at the front of the area: those of any list whose leads the marks tell
pub record TiesPut (n : ℕ) (W area area' : List ℕ) : Type 0 where
  pub items : List ℕ
  pub written : area' ≡ over items area
  pub long : length items ≡ n
  pub ties : (ws : List ℕ) → Leads n ws W → Each n (Tie ws) items
