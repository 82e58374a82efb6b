-- What the spare table says of the codes: 0 nothing, `possible` a note of the caller's own, `fails` that the code leads to its opposite. A word of `shade` or more is shaded: its note is what is left of it modulo `shade`.
use Rattle.std.specs.Prelude.{◌≡◌, ◌⊎◌, List, ℕ, ◌+◌, ◌-◌, ◌*◌, ◌%◌, ◌≤◌, ◌<◌, length, set}
use Rattle.meaning.specs.Chains.{Reach}
use Rattle.meaning.specs.Codes.{opposite}
use Rattle.moves.specs.Area.{Area, Same}
use Rattle.moves.specs.Layout.{spare_at, head, mark, trail, spare, next, Spared}
use Rattle.moves.specs.Walks.{Holding}

abbrev pub possible : ℕ
possible = 1

abbrev pub fails : ℕ
fails = 2

abbrev pub shade : ℕ
shade = 4

-- no word is shaded, and every note that a code fails is true
pub record Notes (n : ℕ) (ws W : List ℕ) : Type 0 where
  pub small : (x : ℕ) → x < 2 * n → spare n W x < shade
  pub turns : (x : ℕ) → x < 2 * n → spare n W x ≡ fails → Reach ws x (opposite x)

-- the set, its trail and the lists are as they were; spare words may differ
pub record Still (n : ℕ) (ws : List ℕ) (tail : ℕ) (W W' : List ℕ) : Type 0 where
  pub long : length W' ≡ length W
  pub heads : (c : ℕ) → c < 2 * n → head n W' c ≡ head n W c
  pub nexts : (e : ℕ) → next n W' e ≡ next n W e
  pub marks : (x : ℕ) → x < 2 * n → mark n W' x ≡ mark n W x
  pub old : (i : ℕ) → i < tail → trail n W' i ≡ trail n W i
  pub holding : Holding n ws W' tail

-- some notes have become `fails`, and every note that a code fails is true
pub record Learnt (n : ℕ) (ws : List ℕ) (tail : ℕ) (W W' : List ℕ) : Type 0 where
  pub still : Still n ws tail W W'
  pub notes : Notes n ws W'
  pub spares : (x : ℕ) → x < 2 * n → (spare n W' x ≡ spare n W x) ⊎ (spare n W' x ≡ fails)

-- x stands on the trail at a place from `from` to `end`
pub record OnTrail (n from end : ℕ) (W : List ℕ) (x : ℕ) : Type 0 where
  pub place : ℕ
  pub low : from ≤ place
  pub high : place < end
  pub is : trail n W place ≡ x

-- codes of the trail are shaded, and every note stays
pub record Shaded (n from end : ℕ) (W W' : List ℕ) : Type 0 where
  pub spared : Spared n W W'
  pub notes : (x : ℕ) → x < 2 * n → spare n W' x % shade ≡ spare n W x % shade
  pub shades : (x : ℕ) → x < 2 * n → shade ≤ spare n W' x → (shade ≤ spare n W x) ⊎ OnTrail n from end W x

-- the opposite of x is noted as failing where x is shaded
pub record Flagged (n : ℕ) (W : List ℕ) (x : ℕ) (W' : List ℕ) : Type 0 where
  pub plain : spare n W x < shade → W' ≡ W
  pub dark : shade ≤ spare n W x → W' ≡ set W (spare_at n (opposite x)) (spare n W (opposite x) - spare n W (opposite x) % shade + fails)

-- a note stays, or is `fails` where the opposite is shaded and stands on the trail
pub record Noted (n from end : ℕ) (W W' : List ℕ) : Type 0 where
  pub spared : Spared n W W'
  pub shades : (x : ℕ) → x < 2 * n → shade ≤ spare n W' x → shade ≤ spare n W x
  pub notes : (x : ℕ) → x < 2 * n → (spare n W' x % shade ≡ spare n W x % shade) ⊎ ((spare n W' x % shade ≡ fails) × (shade ≤ spare n W (opposite x)) × OnTrail n from end W (opposite x))

-- the shades are gone from the first `end` words
pub record Plain (n end : ℕ) (W W' : List ℕ) : Type 0 where
  pub spared : Spared n W W'
  pub done : (x : ℕ) → x < end → spare n W' x ≡ spare n W x % shade
  pub rest : (x : ℕ) → end ≤ x → x < 2 * n → spare n W' x ≡ spare n W x

-- what is shaded, b reaches
pub record Shadowed (n : ℕ) (ws : List ℕ) (b tail : ℕ) (W W' : List ℕ) : Type 0 where
  pub still : Still n ws tail W W'
  pub notes : (x : ℕ) → x < 2 * n → spare n W' x % shade ≡ spare n W x
  pub shades : (x : ℕ) → x < 2 * n → shade ≤ spare n W' x → Reach ws b x

-- a note stays, or is `fails` where the opposite is shaded and b reaches it
pub record Shared (n : ℕ) (ws : List ℕ) (b tail : ℕ) (W W' : List ℕ) : Type 0 where
  pub still : Still n ws tail W W'
  pub notes : (x : ℕ) → x < 2 * n → (spare n W' x % shade ≡ spare n W x % shade) ⊎ ((spare n W' x % shade ≡ fails) × (shade ≤ spare n W (opposite x)) × Reach ws b (opposite x))

-- The same of the whole area: the list and the trail's length stay.

-- codes of the trail are shaded
pub record Shades (a : Area) (from : ℕ) (b : Area) : Type 0 where
  pub same : Same a b
  pub stays : b.tail ≡ a.tail
  pub shaded : Shaded a.n from a.tail a.words b.words

-- x is flagged
pub record Flags (a : Area) (x : ℕ) (b : Area) : Type 0 where
  pub same : Same a b
  pub stays : b.tail ≡ a.tail
  pub flagged : Flagged a.n a.words x b.words

-- codes of the trail are flagged
pub record NotesDown (a : Area) (from : ℕ) (b : Area) : Type 0 where
  pub same : Same a b
  pub stays : b.tail ≡ a.tail
  pub noted : Noted a.n from a.tail a.words b.words

-- the shades are gone
pub record Unshades (a b : Area) : Type 0 where
  pub same : Same a b
  pub stays : b.tail ≡ a.tail
  pub plain : Plain a.n (2 * a.n) a.words b.words

-- what c reaches is shaded
pub record Shadows (a : Area) (c : ℕ) (b : Area) : Type 0 where
  pub same : Same a b
  pub stays : b.tail ≡ a.tail
  pub shadowed : Shadowed a.n a.rules c a.tail a.words b.words

-- what c reaches and is shaded is noted
pub record Shares (a : Area) (c : ℕ) (b : Area) : Type 0 where
  pub same : Same a b
  pub stays : b.tail ≡ a.tail
  pub shared : Shared a.n a.rules c a.tail a.words b.words

-- a failure is learnt from
pub record Learns (a b : Area) : Type 0 where
  pub same : Same a b
  pub stays : b.tail ≡ a.tail
  pub learnt : Learnt a.n a.rules a.tail a.words b.words
