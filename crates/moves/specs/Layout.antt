-- The layout of the work area: heads [0, 2n), marks [2n, 4n), trail [4n, 6n), spare [6n, 8n), nexts from 8n on. No other file of specs/ or proofs/ names an offset.
use Rattle.std.specs.Prelude.{◌≡◌, List, ℕ, ◌+◌, ◌*◌, ◌%◌, ◌≤◌, ◌<◌, length, get_or}
use Rattle.meaning.specs.Rules.{rules, InRange}
use Rattle.meaning.specs.Sizes.{max_choices, max_rules, work_needs}

-- the place of a code in the heads, of a code in the marks, of a place of the trail, of a code in the spare table, of an end in the nexts
abbrev pub head_at : ℕ → ℕ → ℕ
head_at n c = c

abbrev pub mark_at : ℕ → ℕ → ℕ
mark_at n x = 2 * n + x

abbrev pub trail_at : ℕ → ℕ → ℕ
trail_at n i = 4 * n + i

abbrev pub spare_at : ℕ → ℕ → ℕ
spare_at n x = 6 * n + x

abbrev pub next_at : ℕ → ℕ → ℕ
next_at n e = 8 * n + e

-- what stands there in the work area W
abbrev pub head : ℕ → List ℕ → ℕ → ℕ
head n W c = get_or W (head_at n c) 0

abbrev pub mark : ℕ → List ℕ → ℕ → ℕ
mark n W x = get_or W (mark_at n x) 0

abbrev pub trail : ℕ → List ℕ → ℕ → ℕ
trail n W i = get_or W (trail_at n i) 0

abbrev pub spare : ℕ → List ℕ → ℕ → ℕ
spare n W x = get_or W (spare_at n x) 0

abbrev pub next : ℕ → List ℕ → ℕ → ℕ
next n W e = get_or W (next_at n e) 0

-- the tables of n choices fit
abbrev pub Tables : ℕ → List ℕ → Type 0
Tables n W = next_at n 0 ≤ length W

-- an accepted list of n choices, and a work area that is long enough
pub record Sizes (n : ℕ) (ws W : List ℕ) : Type 0 where
  pub few : n ≤ max_choices
  pub short : rules ws ≤ max_rules
  pub even : length ws % 2 ≡ 0
  pub codes : InRange n ws
  pub room : work_needs n ws ≤ length W

-- only the marks and the trail differ
pub record Apart (n : ℕ) (W W' : List ℕ) : Type 0 where
  pub long : length W' ≡ length W
  pub heads : (c : ℕ) → c < 2 * n → head n W' c ≡ head n W c
  pub spares : (x : ℕ) → x < 2 * n → spare n W' x ≡ spare n W x
  pub nexts : (e : ℕ) → next n W' e ≡ next n W e

-- only the spare words differ
pub record Spared (n : ℕ) (W W' : List ℕ) : Type 0 where
  pub long : length W' ≡ length W
  pub heads : (c : ℕ) → c < 2 * n → head n W' c ≡ head n W c
  pub marks : (x : ℕ) → x < 2 * n → mark n W' x ≡ mark n W x
  pub trails : (i : ℕ) → i < 2 * n → trail n W' i ≡ trail n W i
  pub nexts : (e : ℕ) → next n W' e ≡ next n W e
