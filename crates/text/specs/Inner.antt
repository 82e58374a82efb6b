-- What the writers leave, each its bytes at a place of the area. Nobody has to believe these: the promise of the whole is proved from them.
use Rattle.std.specs.Prelude.{◌≡◌, List, ℕ, ◌+◌, ◌≤◌, length}
use Rattle.meaning.specs.Sizes.{over_at}
use Rattle.text.specs.declared.fields.Text.{Text}

-- there is room for the bytes at the place
pub record Room (bytes : List ℕ) (at : ℕ) (out : List ℕ) : Type 0 where
  pub fits : at + length bytes ≤ length out

-- the bytes are put at the place, and r is the place after them
pub record Puts (bytes out : List ℕ) (at r : ℕ) (out' : List ℕ) : Type 0 where
  pub room : Room bytes at out
  pub end : r ≡ at + length bytes
  pub put : out' ≡ over_at at bytes out

-- of a text that stands at the front of an area: there is room for the bytes behind it
abbrev pub Fits : List ℕ → Text → Type 0
Fits bytes text = Room bytes text.len text.out.now

-- and they are put there, in the same area
pub record Grows (bytes : List ℕ) (text text' : Text) : Type 0 where
  pub same_area : text'.out.ghost_name ≡ text.out.ghost_name
  pub puts : Puts bytes text.out.now text.len text'.len text'.out.now
