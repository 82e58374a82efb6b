-- The listed books, with the answer that each has to have. proofs/ListedBooks proves every case.
use Rattle.std.specs.Prelude.{List, [], ◌∷◌, ℕ, Result, Ok, Err}
use Rattle.meaning.specs.declared.refusal.Refusal.{Refusal}
use Rattle.meaning.specs.declared.refusal.Refusal.TheVariants.{TooManyChoices, TooManyRules, CodeTooHigh, AnswerTooShort, BookEnds, NumberTooLong, NumberPadded, BytesLeft}
use Rattle.book.specs.declared.answer.Sizes.{Sizes}
use Rattle.book.specs.Promise.{Reads}

-- a book, the words of the area that it is read into, the answer, and the words afterwards
pub record BookCase : Type 0 where
  pub bytes : List ℕ
  pub words : List ℕ
  pub answer : Result Sizes Refusal
  pub after : List ℕ

-- a book that is refused leaves the words as they were
abbrev pub refused : List ℕ → List ℕ → Refusal → BookCase
refused bs words r = record { bytes = bs; words = words; answer = Err r; after = words }

-- the words of an area are 7 before the call
abbrev pub books : List BookCase
books =
    record { bytes = 0x80 ∷ 0x02 ∷ 0x00 ∷ []; words = 7 ∷ []; answer = Ok (record { n = 256; m = 0 }); after = 7 ∷ [] }
    ∷ refused (0x81 ∷ 0x02 ∷ []) (7 ∷ []) (TooManyChoices 0)
    ∷ refused ([]) (7 ∷ []) (BookEnds 0)
    ∷ refused (0x80 ∷ []) (7 ∷ []) (BookEnds 1)
    ∷ refused (0x80 ∷ 0x80 ∷ []) (7 ∷ []) (NumberTooLong 1)
    ∷ refused (0x80 ∷ 0x00 ∷ []) (7 ∷ []) (NumberPadded 1)
    ∷ refused (0x00 ∷ 0x81 ∷ 0x10 ∷ []) (7 ∷ []) (TooManyRules 1)
    ∷ refused (0x00 ∷ 0x00 ∷ 0x00 ∷ []) (7 ∷ []) (BytesLeft 2)
    ∷ refused (0x01 ∷ 0x01 ∷ 0x00 ∷ 0x02 ∷ []) (7 ∷ 7 ∷ []) (CodeTooHigh 3)
    ∷ refused (0x01 ∷ 0x01 ∷ 0x00 ∷ 0x00 ∷ []) (7 ∷ []) (AnswerTooShort 0)
    ∷ record {
      bytes = 0x03 ∷ 0x03 ∷ 0x00 ∷ 0x02 ∷ 0x03 ∷ 0x04 ∷ 0x01 ∷ 0x04 ∷ [];
      words = 7 ∷ 7 ∷ 7 ∷ 7 ∷ 7 ∷ 7 ∷ 7 ∷ 7 ∷ [];
      answer = Ok (record { n = 3; m = 3 });
      after = 0 ∷ 2 ∷ 3 ∷ 4 ∷ 1 ∷ 4 ∷ 7 ∷ 7 ∷ [];
    }
    ∷ []

-- every case is as the promise says
abbrev pub EveryBook : List BookCase → Type 0
EveryBook [] = Unit {0}
EveryBook (c ∷ cs) = Reads c.bytes c.words c.answer c.after × EveryBook cs
