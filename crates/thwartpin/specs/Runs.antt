-- Every rota over the C face: what a host finds that calls Decide and then Next, again and again on one rota, until the number says that it has ended.
use Rattle.std.specs.Prelude.{◌≡◌, List, [], ◌∷◌, ℕ, ◌^◌, ◌≤◌, length, take}
use Rattle.book.specs.Checks.{choices_in, codes_in}
use Rattle.meaning.specs.Runs.{EveryRota}
use Rattle.meaning.specs.Sizes.{rota_needs, work_needs}
use Rattle.numbers.specs.Numbers.{out_needs}
use Rattle.thwartpin.specs.Hosts.{HostDecides, HostMoves}
use Rattle.thwartpin.specs.Lists.{areas, TellsDecided, TellsMoved}

-- What calls on one list answer, whatever is known of a call with the rota's area, the number that it answers and what it leaves in the area.
module _ {ℓ} (n : ℕ) (ws : List ℕ) (next : List ℕ → ℕ → List ℕ → Type ℓ) (ended : ℕ) where
  -- each call of Next that is handed r answers a number and leaves n bytes of which P holds
  abbrev pub Handed : List ℕ → (ℕ → List ℕ → Type 0) → Type ℓ
  Handed r P = (area : List ℕ) (x : ℕ) (area' : List ℕ) → take n area ≡ r → next area x area' → P x (take n area')

  -- each handed back in turn, from r on: Next answers 0 and leaves the first of the others, then the second, and so on, and when the last is handed
  -- back it answers that it has ended
  abbrev pub GoesThrough : List ℕ → List (List ℕ) → Type ℓ
  GoesThrough r [] = Handed r (λ x left. x ≡ ended)
  GoesThrough r (s ∷ others) = Handed r (λ x left. (x ≡ 0) × (left ≡ s)) × GoesThrough s others

  -- There are the rotas `first` and `others`, which are every allowed rota, each once, in dictionary order, and no other; Decide answers 0 and leaves the
  -- first in any area that is long enough; and from there Next goes through the others.
  pub record GivesEveryRota (decide : List ℕ → ℕ → List ℕ → Type ℓ) : Type ℓ where
    pub first : List ℕ
    pub others : List (List ℕ)
    pub every : EveryRota n ws (first ∷ others)
    pub at_most : length (first ∷ others) ≤ 2 ^ n
    pub starts : (area : List ℕ) (x : ℕ) (area' : List ℕ) → rota_needs n ≤ length area → decide area x area' → (x ≡ 0) × (take n area' ≡ first)
    pub goes_on : GoesThrough first others

-- thwartpin_decide and thwartpin_next on one book
abbrev pub HostGives : List ℕ → Type 0
HostGives book = GivesEveryRota (choices_in book) (codes_in book) (HostMoves book) 21 (HostDecides book)

-- the calls on a list, with a work area and an `out` that are long enough, and hold anything
abbrev pub ListDecides : ℕ → List ℕ → List ℕ → ℕ → List ℕ → Type 0
ListDecides n ws area x area' =
    (work : List ℕ) × (out : List ℕ) × (work' : List ℕ) × (out' : List ℕ) × (work_needs n ws ≤ length work) × (out_needs ≤ length out) × TellsDecided n ws area work out x (areas area' work') out'

abbrev pub ListMoves : ℕ → List ℕ → List ℕ → ℕ → List ℕ → Type 0
ListMoves n ws area x area' =
    (work : List ℕ) × (out : List ℕ) × (work' : List ℕ) × (out' : List ℕ) × (work_needs n ws ≤ length work) × (out_needs ≤ length out) × TellsMoved n ws area work out x (areas area' work') out'

-- thwartpin_list_decide and thwartpin_list_next on one list
abbrev pub ListGives : ℕ → List ℕ → Type 0
ListGives n ws = GivesEveryRota n ws (ListMoves n ws) 101 (ListDecides n ws)
