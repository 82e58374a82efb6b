-- Every rota once: what the rotas of a list in order are, and what is asked of a run of calls that starts with Decide and goes on by Next.
use Rattle.std.specs.Prelude.{◌≡◌, Result, Ok, ◌⊎◌, List, [], ◌∷◌, ℕ, ◌^◌, ◌≤◌, length, take}
use Rattle.meaning.specs.Order.{Before}
use Rattle.meaning.specs.Rotas.{Allowed, First, Next, Ended}
use Rattle.meaning.specs.Promises.{Decides, Moves}
use Rattle.meaning.specs.Refusals.{Due, list_due}
use Rattle.meaning.specs.Sizes.{rota_needs, work_needs}
use Rattle.meaning.specs.declared.answers.Decided.{Decided}
use Rattle.meaning.specs.declared.answers.Moved.{Moved}
use Rattle.meaning.specs.declared.refusal.Refusal.{Refusal}

-- rs are, one after the other, the next allowed rotas from r on, and none comes after the last
abbrev pub Follow : ℕ → List ℕ → List ℕ → List (List ℕ) → Type 0
Follow n ws r [] = Ended n ws r
Follow n ws r (s ∷ rs) = Next n ws r s × Follow n ws s rs

-- the first of rs is the first allowed rota, and the others follow
abbrev pub InOrder : ℕ → List ℕ → List (List ℕ) → Type 0
InOrder n ws [] = ⊥
InOrder n ws (r ∷ rs) = First n ws r × Follow n ws r rs

-- A run of calls, whatever is known of a call with its two areas, its answer and what it leaves in them.
module _ {ℓ} (n : ℕ) (next : List ℕ → List ℕ → Result Moved Refusal → List ℕ → List ℕ → Type ℓ) where
  -- Next is called again and again on the rota's area, with any work area each time: it leaves the rotas rs there, one after the other, and then ends
  abbrev pub GoesOn : List ℕ → List (List ℕ) → Type ℓ
  GoesOn area [] = (work area' work' : List ℕ) × next area work (Ok Moved.Ended) area' work'
  GoesOn area (r ∷ rs) = (work area' work' : List ℕ) × next area work (Ok Moved.Moved) area' work' × (take n area' ≡ r) × GoesOn area' rs

  -- the rotas of a run that Decide begins
  pub record RunOf (decide : List ℕ → List ℕ → Result Decided Refusal → List ℕ → List ℕ → Type ℓ) (r : List ℕ) (rs : List (List ℕ)) : Type ℓ where
    pub area : List ℕ
    pub work : List ℕ
    pub area' : List ℕ
    pub work' : List ℕ
    pub decided : decide area work (Ok Decided.Possible) area' work'
    pub first : take n area' ≡ r
    pub goes_on : GoesOn area' rs

-- a run of calls of which the promises are known
abbrev pub Run : ℕ → List ℕ → List ℕ → List (List ℕ) → Type 0
Run n ws = RunOf n (Moves n ws) (Decides n ws)

-- r is one of the rotas rs
abbrev pub OneOf : List ℕ → List (List ℕ) → Type 0
OneOf r [] = ⊥
OneOf r (s ∷ rs) = (r ≡ s) ⊎ OneOf r rs

-- each of the rotas comes before all that follow it, so none is there twice
abbrev pub Ascending : List (List ℕ) → Type 0
Ascending [] = Unit {0}
Ascending (r ∷ rs) = ((s : List ℕ) → OneOf s rs → Before r s) × Ascending rs

-- rs are the allowed rotas and no other, each once, in dictionary order
pub record EveryRota (n : ℕ) (ws : List ℕ) (rs : List (List ℕ)) : Type 0 where
  pub all : (r : List ℕ) → Allowed n ws r → OneOf r rs
  pub no_other : (r : List ℕ) → OneOf r rs → Allowed n ws r
  pub ascending : Ascending rs

-- No refusal applies to the list: none is due where the areas are just long enough.
abbrev pub Acceptable : ℕ → List ℕ → Type 0
Acceptable n ws = list_due n ws (rota_needs n) (rota_needs n) (work_needs n ws) ≡ Due.none

-- What calls on one list answer, whatever is known of a call with its two areas, its answer and what it leaves in them. Nothing is asked of what an area holds
-- but that the rota which is handed back stands at its front, so it may be the very area that the call before left.
module _ {ℓ} (n : ℕ) (ws : List ℕ) (next : List ℕ → List ℕ → Result Moved Refusal → List ℕ → List ℕ → Type ℓ) where
  -- each call of Next that is handed r, with a work area that is long enough, gives an answer and leaves n bytes of which P holds
  abbrev pub Handed : List ℕ → (Result Moved Refusal → List ℕ → Type 0) → Type ℓ
  Handed r P =
      (area work : List ℕ) (answer : Result Moved Refusal) (area' work' : List ℕ) → take n area ≡ r → work_needs n ws ≤ length work →
      next area work answer area' work' → P answer (take n area')

  -- each handed back in turn, from r on: Next leaves the first of the others, then the second, and so on, and when the last is handed back it answers Ended
  abbrev pub GoesThrough : List ℕ → List (List ℕ) → Type ℓ
  GoesThrough r [] = Handed r (λ answer left. answer ≡ Ok Moved.Ended)
  GoesThrough r (s ∷ others) = Handed r (λ answer left. (answer ≡ Ok Moved.Moved) × (left ≡ s)) × GoesThrough s others

  -- There are the rotas `first` and `others`, which are every allowed rota, each once, in dictionary order, and no other; Decide leaves the
  -- first, whatever areas it is lent, so long as they are long enough; and from there Next goes through the others.
  pub record ListsEveryRota (decide : List ℕ → List ℕ → Result Decided Refusal → List ℕ → List ℕ → Type ℓ) : Type ℓ where
    pub first : List ℕ
    pub others : List (List ℕ)
    pub every : EveryRota n ws (first ∷ others)
    pub at_most : length (first ∷ others) ≤ 2 ^ n
    pub starts : (area work : List ℕ) (answer : Result Decided Refusal) (area' work' : List ℕ) → rota_needs n ≤ length area → work_needs n ws ≤ length work →
        decide area work answer area' work' → (answer ≡ Ok Decided.Possible) × (take n area' ≡ first)
    pub goes_on : GoesThrough first others
