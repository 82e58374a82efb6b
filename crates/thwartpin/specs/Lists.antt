-- What a call for C that is lent its areas promises: the call's own promise, with the answer as a number and as values in `out`.
-- A name with ' is the area after the call.
use Rattle.std.specs.Prelude.{◌≡◌, Result, ◌⊎◌, List, ℕ, ◌≤◌, ◌<◌, length}
use Rattle.book.specs.Promise.{Reads}
use Rattle.meaning.specs.Promises.{Decides, Forces, TiesUp, Clashes, Moves}
use Rattle.meaning.specs.Sizes.{over}
use Rattle.meaning.specs.declared.refusal.Refusal.{Refusal}
use Rattle.numbers.specs.Numbers.{out_needs, out_short, number_or, values_or, decided_number, decided_values, listed_number, listed_values, clashed_number, clashed_values, moved_number, moved_values, read_number, read_values}

-- the areas of a call on a list: its answer's and its work
pub record Areas : Type 0 where
  pub answer : List ℕ
  pub work : List ℕ

abbrev pub areas : List ℕ → List ℕ → Areas
areas answer work = record { answer = answer; work = work }

-- out is too short: nothing changes
pub record Untold {S : Type 0} (before : S) (out : List ℕ) (r : ℕ) (after : S) (out' : List ℕ) : Type 0 where
  pub short : length out < out_needs
  pub number : r ≡ out_short
  pub stays : after ≡ before
  pub out_stays : out' ≡ out

-- an answer that keeps the call's promise is told by its number, and its values stand at the front of out
pub record Told {A S : Type 0} (number : A → ℕ) (values : A → List ℕ) (keeps : Result A Refusal → S → Type 0) (out : List ℕ) (r : ℕ) (after : S) (out' : List ℕ) : Type 0 where
  pub room : out_needs ≤ length out
  pub answer : Result A Refusal
  pub kept : keeps answer after
  pub numbered : r ≡ number_or number answer
  pub given : out' ≡ over (values_or values answer) out

abbrev pub Tells : {A S : Type 0} → (A → ℕ) → (A → List ℕ) → (Result A Refusal → S → Type 0) → S → List ℕ → ℕ → S → List ℕ → Type 0
Tells number values keeps before out r after out' = Untold before out r after out' ⊎ Told number values keeps out r after out'

-- the promise of a call on a list, with its areas afterwards as one
abbrev pub On : {A : Type 0} → (Result A Refusal → List ℕ → List ℕ → Type 0) → Result A Refusal → Areas → Type 0
On promise a after = promise a after.answer after.work

module _ (n : ℕ) (ws area work out : List ℕ) where
  abbrev pub TellsDecided : ℕ → Areas → List ℕ → Type 0
  TellsDecided = Tells decided_number decided_values (On (Decides n ws area work)) (areas area work) out

  abbrev pub TellsForced : ℕ → Areas → List ℕ → Type 0
  TellsForced = Tells listed_number listed_values (On (Forces n ws area work)) (areas area work) out

  abbrev pub TellsClash : ℕ → Areas → List ℕ → Type 0
  TellsClash = Tells clashed_number clashed_values (On (Clashes n ws area work)) (areas area work) out

  abbrev pub TellsMoved : ℕ → Areas → List ℕ → Type 0
  TellsMoved = Tells moved_number moved_values (On (Moves n ws area work)) (areas area work) out

  abbrev pub TellsTies : ℕ → Areas → List ℕ → Type 0
  TellsTies = Tells listed_number listed_values (On (TiesUp n ws area work)) (areas area work) out

abbrev pub TellsRead : List ℕ → List ℕ → List ℕ → ℕ → List ℕ → List ℕ → Type 0
TellsRead bs words = Tells read_number read_values (Reads bs words) words
