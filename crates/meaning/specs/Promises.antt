-- What the five calls on a list promise: which answer, and each item of the lent areas afterwards.
-- area and work are the lent areas before the call, area' and work' after it.
use Rattle.std.specs.Prelude.{◌≡◌, Result, Ok, Err, List, [], ◌++◌, ℕ, ◌<◌, length, get_or, take}
use Rattle.meaning.specs.Codes.{late, early}
use Rattle.meaning.specs.Rotas.{Possible, Impossible, First, Next, Ended, Forced}
use Rattle.meaning.specs.Chains.{LowestClash, Shortest, Tie}
use Rattle.meaning.specs.Sizes.{rota_needs, chains_need, ties_need, over, cleared}
use Rattle.meaning.specs.Refusals.{Due, due_of, list_due, next_due}
use Rattle.meaning.specs.declared.refusal.Refusal.{Refusal}
use Rattle.meaning.specs.declared.answers.Decided.{Decided}
use Rattle.meaning.specs.declared.answers.Listed.{Listed}
use Rattle.meaning.specs.declared.answers.Clashed.{Clashed}
use Rattle.meaning.specs.declared.answers.Moved.{Moved}

-- The form that all calls share.

-- not refused: what the answer says is written at the front of its area, and the work area is cleared
pub record Answered (says : List ℕ → Type 0) (n : ℕ) (ws area work area' work' : List ℕ) : Type 0 where
  pub items : List ℕ
  pub right : says items
  pub written : area' ≡ over items area
  pub zeros : work' ≡ cleared n ws work

-- refused: nothing changes
pub record Untouched (area work area' work' : List ℕ) : Type 0 where
  pub area_stays : area' ≡ area
  pub work_stays : work' ≡ work

-- what holds of the areas after an answer that says that the items of `says` are written
abbrev pub After : {A : Type 0} → (A → List ℕ → Type 0) → ℕ → List ℕ → List ℕ → List ℕ → Result A Refusal → List ℕ → List ℕ → Type 0
After says n ws area work (Ok a) area' work' = Answered (says a) n ws area work area' work'
After says n ws area work (Err r) area' work' = Untouched area work area' work'

-- a call whose answer a says that the items of `says a` are written keeps its promise where `due` is due: it refuses just that, and the areas are
-- as they should be after it
pub record Keeps {A : Type 0} (says : A → List ℕ → Type 0) (due : Due) (n : ℕ) (ws area work : List ℕ) (answer : Result A Refusal)
    (area' work' : List ℕ) : Type 0 where
  pub refuses : due_of answer ≡ due
  pub after : After says n ws area work answer area' work'

-- Decide: Possible with the first allowed rota, or Impossible with the lowest choice that clashes

abbrev pub DecideSays : ℕ → List ℕ → Decided → List ℕ → Type 0
DecideSays n ws Decided.Possible xs = First n ws xs
DecideSays n ws (Decided.Impossible v) xs = LowestClash ws v.0 × (xs ≡ [])

abbrev pub Decides : ℕ → List ℕ → List ℕ → List ℕ → Result Decided Refusal → List ℕ → List ℕ → Type 0
Decides n ws area work = Keeps (DecideSays n ws) (list_due n ws (length area) (rota_needs n) (length work)) n ws area work

-- Forced and Ties: an item for each choice, or Impossible

pub record Each (n : ℕ) (Item : ℕ → ℕ → Type 0) (xs : List ℕ) : Type 0 where
  pub long : length xs ≡ n
  pub each : (v : ℕ) → v < n → Item v (get_or xs v 0)

abbrev pub ListedSays : ℕ → List ℕ → (ℕ → ℕ → Type 0) → Listed → List ℕ → Type 0
ListedSays n ws Item Listed.Done xs = Possible n ws × Each n Item xs
ListedSays n ws Item Listed.Impossible xs = Impossible n ws × (xs ≡ [])

abbrev pub Forces : ℕ → List ℕ → List ℕ → List ℕ → Result Listed Refusal → List ℕ → List ℕ → Type 0
Forces n ws area work =
    Keeps (ListedSays n ws (Forced n ws)) (list_due n ws (length area) (rota_needs n) (length work)) n ws area work

abbrev pub TiesUp : ℕ → List ℕ → List ℕ → List ℕ → Result Listed Refusal → List ℕ → List ℕ → Type 0
TiesUp n ws area work = Keeps (ListedSays n ws (Tie ws)) (list_due n ws (length area) (ties_need n) (length work)) n ws area work

-- Clash: the chain from late to early of Decide's choice, then the one from early to late, with their lengths; or Possible

pub record BothChains (ws : List ℕ) (v i j : ℕ) (xs : List ℕ) : Type 0 where
  pub lowest : LowestClash ws v
  pub there : List ℕ
  pub back : List ℕ
  pub late_early : Shortest ws (late v) (early v) there
  pub early_late : Shortest ws (early v) (late v) back
  pub there_length : i ≡ length there
  pub back_length : j ≡ length back
  pub words : xs ≡ there ++ back

abbrev pub ClashSays : ℕ → List ℕ → Clashed → List ℕ → Type 0
ClashSays n ws (Clashed.Chains v i j) xs = BothChains ws v.0 i j xs
ClashSays n ws Clashed.Possible xs = Possible n ws × (xs ≡ [])

abbrev pub Clashes : ℕ → List ℕ → List ℕ → List ℕ → Result Clashed Refusal → List ℕ → List ℕ → Type 0
Clashes n ws area work = Keeps (ClashSays n ws) (list_due n ws (length area) (chains_need n) (length work)) n ws area work

-- Next: the first allowed rota after the area's first n bytes; Ended if allowed rotas exist but none comes after; or Impossible

abbrev pub NextSays : ℕ → List ℕ → List ℕ → Moved → List ℕ → Type 0
NextSays n ws rota Moved.Moved xs = Next n ws rota xs
NextSays n ws rota Moved.Ended xs = Possible n ws × Ended n ws rota × (xs ≡ [])
NextSays n ws rota Moved.Impossible xs = Impossible n ws × (xs ≡ [])

abbrev pub Moves : ℕ → List ℕ → List ℕ → List ℕ → Result Moved Refusal → List ℕ → List ℕ → Type 0
Moves n ws area work = Keeps (NextSays n ws (take n area)) (next_due n ws area (length work)) n ws area work
