-- What the library promises: the text that the list of a book has by its meaning, at the front of the lent area, with the text's length.
-- bs is the book's bytes; out is the lent area before the call, out' after it.
use Rattle.std.specs.Prelude.{◌≡◌, ◌⊎◌, List, ℕ, ◌≤◌, ◌<◌, length, Option, Some, None}
use Rattle.meaning.specs.Codes.{late, early}
use Rattle.meaning.specs.Rules.{rules}
use Rattle.meaning.specs.Rotas.{First, Forced}
use Rattle.meaning.specs.Chains.{LowestClash, Shortest}
use Rattle.meaning.specs.Sizes.{words_room, over}
use Rattle.meaning.specs.Refusals.{Due, none, refused}
use Rattle.meaning.specs.Promises.{Each}
use Rattle.book.specs.Checks.{choices_in, codes_in, book_due}
use Rattle.text.specs.Text.{text_needs, possible_text, impossible_text, refusal_text}

-- the list is possible, and the text is that of its first rota and its forced bytes
pub record PossibleTold (n : ℕ) (ws text : List ℕ) : Type 0 where
  pub rota : List ℕ
  pub forced : List ℕ
  pub first : First n ws rota
  pub each : Each n (Forced n ws) forced
  pub is : text ≡ possible_text n (rules ws) rota forced

-- a choice clashes, and the text is that of the lowest such choice and its two shortest chains
pub record ImpossibleTold (n : ℕ) (ws text : List ℕ) : Type 0 where
  pub choice : ℕ
  pub there : List ℕ
  pub back : List ℕ
  pub lowest : LowestClash ws choice
  pub there_shortest : Shortest ws (late choice) (early choice) there
  pub back_shortest : Shortest ws (early choice) (late choice) back
  pub is : text ≡ impossible_text n (rules ws) choice there back

-- the text of a list
abbrev pub ListText : ℕ → List ℕ → List ℕ → Type 0
ListText n ws text = PossibleTold n ws text ⊎ ImpossibleTold n ws text

-- of a list of which this is due
abbrev pub DueText : Due → ℕ → List ℕ → List ℕ → Type 0
DueText none n ws text = ListText n ws text
DueText (refused number place) n ws text = text ≡ refusal_text number place

-- of a book
abbrev pub BookText : List ℕ → List ℕ → Type 0
BookText bs = DueText (book_due bs words_room) (choices_in bs) (codes_in bs)

-- a text that is right stands at the front of the area, and k is its length; the rest of the area stays
pub record Leaves (Right : List ℕ → Type 0) (out : List ℕ) (k : ℕ) (out' : List ℕ) : Type 0 where
  pub text : List ℕ
  pub right : Right text
  pub long : k ≡ length text
  pub put : out' ≡ over text out

-- an area that is long enough for every text gets the book's; one that is not stays
abbrev pub Shows : List ℕ → List ℕ → Option ℕ → List ℕ → Type 0
Shows bs out (Some k) out' = (text_needs ≤ length out) × Leaves (BookText bs) out k out'
Shows bs out None out' = (length out < text_needs) × (out' ≡ out)
