-- What the occurrence lists mean. An end is a place in the words ws; rule k has the ends 2k and 2k + 1.
use Rattle.std.specs.Prelude.{◌≡◌, ◌⊎◌, List, ℕ, ◌+◌, ◌-◌, ◌*◌, ◌≤◌, ◌<◌, length, get_or, set}
use Rattle.meaning.specs.Codes.{opposite}
use Rattle.moves.specs.Layout.{head_at, next_at, head, mark, trail, spare, next, Sizes}

-- h is 1 more than the least end from `from` on that holds c, or 0 where there is none
pub record FirstEnd (ws : List ℕ) (c from h : ℕ) : Type 0 where
  pub hit : (e : ℕ) → from ≤ e → e < length ws → get_or ws e 0 ≡ c → (0 < h) × (h ≤ e + 1)
  pub found : 0 < h → (from < h) × (h ≤ length ws) × (get_or ws (h - 1) 0 ≡ c)

-- the lists over the ends from `from` on
pub record Lists (n : ℕ) (ws : List ℕ) (from : ℕ) (W : List ℕ) : Type 0 where
  pub heads : (c : ℕ) → c < 2 * n → FirstEnd ws c from (head n W c)
  pub nexts : (e : ℕ) → from ≤ e → e < length ws → FirstEnd ws (get_or ws e 0) (e + 1) (next n W e)

-- the rests of the lists
pub record Nexts (n : ℕ) (ws W : List ℕ) : Type 0 where
  pub nexts : (e : ℕ) → e < length ws → FirstEnd ws (get_or ws e 0) (e + 1) (next n W e)

-- a cursor along the list by which a leads on, that of its opposite: 1 more than an end of the list, or 0 behind the last
pub record Cursor (ws : List ℕ) (a e : ℕ) : Type 0 where
  pub at : 0 < e → (e ≤ length ws) × (get_or ws (e - 1) 0 ≡ opposite a)

-- the cursor e is past the end k of its list
abbrev pub Passed : ℕ → ℕ → Type 0
Passed e k = (e ≡ 0) ⊎ (k + 1 < e)

-- the end e in front of the list of c
abbrev pub linked : ℕ → List ℕ → ℕ → ℕ → List ℕ
linked n W c e = set (set W (next_at n e) (head n W c)) (head_at n c) (e + 1)

-- only the heads and the nexts of m ends differ
pub record Beside (n m : ℕ) (W W' : List ℕ) : Type 0 where
  pub long : length W' ≡ length W
  pub marks : (x : ℕ) → x < 2 * n → mark n W' x ≡ mark n W x
  pub trails : (i : ℕ) → i < 2 * n → trail n W' i ≡ trail n W i
  pub spares : (x : ℕ) → x < 2 * n → spare n W' x ≡ spare n W x
  pub past : (e : ℕ) → m ≤ e → next n W' e ≡ next n W e

-- what the moves find: an accepted list, a work area that is long enough, and the lists in it
pub record Ready (n : ℕ) (ws W : List ℕ) : Type 0 where
  pub sizes : Sizes n ws W
  pub lists : Lists n ws 0 W

-- the lists are built, and nothing beside them differs
pub record Indexed (n : ℕ) (ws W W' : List ℕ) : Type 0 where
  pub ready : Ready n ws W'
  pub beside : Beside n (length ws) W W'
