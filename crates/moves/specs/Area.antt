-- The lent area as a move sees it, with the rules that it is lent for, and what each move leaves of it.
use Rattle.std.specs.Borrow.{GName}
use Rattle.std.specs.Prelude.{◌≡◌, Option, Some, None, List, ℕ, suc, ◌*◌, ◌≤◌, ◌<◌, length, set}
use Rattle.meaning.specs.Codes.{opposite}
use Rattle.moves.specs.Layout.{spare_at, mark, spare, next}
use Rattle.moves.specs.Lists.{Ready}
use Rattle.moves.specs.Walks.{Listed, Holding, SpreadFrom, Undone}

-- the reference by which the area was lent, n choices, the words of the rules, the words of the area, and how many places of the trail are taken
pub record Area : Type 0 where
  pub name : GName
  pub n : ℕ
  pub rules : List ℕ
  pub words : List ℕ
  pub tail : ℕ

-- what each move finds: an accepted list, an area that is long enough, the lists in it, and a trail that holds its marked codes
pub record Sound (n : ℕ) (ws W : List ℕ) (t : ℕ) : Type 0 where
  pub ready : Ready n ws W
  pub listed : Listed n W t

-- the same of an area
abbrev pub IsSound : Area → Type 0
IsSound a = Sound a.n a.rules a.words a.tail

-- it holds a closed and consistent set
abbrev pub Holds : Area → Type 0
Holds a = Holding a.n a.rules a.words a.tail

-- c is a code, and neither it nor its opposite has a mark
abbrev pub Free : Area → ℕ → Type 0
Free a c = (c < 2 * a.n) × (mark a.n a.words c ≡ 0) × (mark a.n a.words (opposite c) ≡ 0)

-- what each move leaves: the reference, the choices and the rules, and an area that is sound
pub record Same (a b : Area) : Type 0 where
  pub lent : b.name ≡ a.name
  pub choices : b.n ≡ a.n
  pub list : b.rules ≡ a.rules
  pub sound : IsSound b

-- the lists are built, no code has a mark, and nothing is noted
pub record Fresh (n : ℕ) (ws W : List ℕ) : Type 0 where
  pub ready : Ready n ws W
  pub unmarked : (x : ℕ) → x < 2 * n → mark n W x ≡ 0
  pub unnoted : (x : ℕ) → x < 2 * n → spare n W x ≡ 0

-- and the area past the tables and the lists is as it was
pub record Prepared (n : ℕ) (ws W W' : List ℕ) : Type 0 where
  pub fresh : Fresh n ws W'
  pub long : length W' ≡ length W
  pub past : (e : ℕ) → length ws ≤ e → next n W' e ≡ next n W e

-- so every call begins
pub record Begun (n : ℕ) (ws : List ℕ) (b : Area) : Type 0 where
  pub choices : b.n ≡ n
  pub list : b.rules ≡ ws
  pub empty : b.tail ≡ 0
  pub sound : IsSound b
  pub unmarked : (x : ℕ) → x < 2 * n → mark n b.words x ≡ 0
  pub unnoted : (x : ℕ) → x < 2 * n → spare n b.words x ≡ 0

-- a link of a list: 1 more than an end, or 0 behind the last
abbrev pub link_of : Option ℕ → ℕ
link_of None = 0
link_of (Some e) = suc e

-- what c reaches is marked
pub record Spreads (a : Area) (c : ℕ) (b : Area) : Type 0 where
  pub same : Same a b
  pub spread : SpreadFrom a.n a.rules c a.tail a.words b.words b.tail

-- the trail is taken back to `end` places
pub record Undoes (a : Area) (end : ℕ) (b : Area) : Type 0 where
  pub same : Same a b
  pub undone : Undone a.n end a.words b.words
  pub back : b.tail ≡ end

-- the spare word of x becomes v
pub record Writes (a : Area) (x v : ℕ) (b : Area) : Type 0 where
  pub same : Same a b
  pub words : b.words ≡ set a.words (spare_at a.n x) v
  pub stays : b.tail ≡ a.tail
