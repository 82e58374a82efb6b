-- What an answer means, by the published meaning of 2-SAT: each record says it of one call whose input is accepted. area is the answer's area before
-- the call, area' after it. proofs/Meaning shows each of every call that keeps its promise.
use Rattle.std.specs.Prelude.{◌≡◌, ◌↔◌, Result, Ok, List, ℕ, ◌<◌, ◌≤◌, length, get_or, take, drop}
use Rattle.meaning.specs.Codes.{late, early}
use Rattle.meaning.specs.Order.{Before}
use Rattle.meaning.specs.Rotas.{True, Allowed, Possible, Impossible, First, Next, Ended, Always, Sometimes}
use Rattle.meaning.specs.Chains.{LowestClash, Shortest, Tied, Tie}
use Rattle.meaning.specs.declared.codes.Choice.{Choice}
use Rattle.meaning.specs.declared.refusal.Refusal.{Refusal}
use Rattle.meaning.specs.declared.answers.Decided.{Decided}
use Rattle.meaning.specs.declared.answers.Listed.{Listed}
use Rattle.meaning.specs.declared.answers.Clashed.{Clashed}
use Rattle.meaning.specs.declared.answers.Moved.{Moved}

-- all allowed rotas agree on choice v
abbrev pub Agreed : ℕ → List ℕ → ℕ → Type 0
Agreed n ws v = (r s : List ℕ) → Allowed n ws r → Allowed n ws s → get_or r v 0 ≡ get_or s v 0

-- Decide: Impossible exactly if no rota meets every rule, with the lowest choice that clashes; else Possible, with the first allowed rota
pub record DecideMeans (n : ℕ) (ws : List ℕ) (answer : Result Decided Refusal) (area' : List ℕ) : Type 0 where
  pub impossible : ((v : Choice) × (answer ≡ Ok (Decided.Impossible v))) ↔ Impossible n ws
  pub possible : (answer ≡ Ok Decided.Possible) ↔ Possible n ws
  pub first : answer ≡ Ok Decided.Possible → First n ws (take n area')
  pub named : (v : Choice) → answer ≡ Ok (Decided.Impossible v) → (v.0 < n) × LowestClash ws v.0

-- Forced: Impossible exactly if no rota meets every rule; else each byte is 0 or 1 exactly if all allowed rotas agree on that value, and 2 exactly
-- if they differ
pub record ForcedMeans (n : ℕ) (ws : List ℕ) (answer : Result Listed Refusal) (area' : List ℕ) : Type 0 where
  pub impossible : (answer ≡ Ok Listed.Impossible) ↔ Impossible n ws
  pub done : (answer ≡ Ok Listed.Done) ↔ Possible n ws
  pub value : answer ≡ Ok Listed.Done → (v x : ℕ) → v < n → x ≤ 1 → (get_or area' v 0 ≡ x) ↔ Always n ws v x
  pub differ : answer ≡ Ok Listed.Done → (v : ℕ) → v < n → (get_or area' v 0 ≡ 2) ↔ (Sometimes n ws v 0 × Sometimes n ws v 1)
  pub forced : answer ≡ Ok Listed.Done → (v : ℕ) → v < n → (get_or area' v 0 ≤ 1) ↔ Agreed n ws v

-- Clash: Chains exactly if no rota meets every rule, and then the rules of the area lead the lowest choice that clashes from late to early and back,
-- each by the shortest chain that is named, and the two lengths are those of the chains; else Possible
pub record ClashMeans (n : ℕ) (ws : List ℕ) (answer : Result Clashed Refusal) (area' : List ℕ) : Type 0 where
  pub impossible : ((v : Choice) × (i : ℕ) × (j : ℕ) × (answer ≡ Ok (Clashed.Chains v i j))) ↔ Impossible n ws
  pub possible : (answer ≡ Ok Clashed.Possible) ↔ Possible n ws
  pub named : (v : Choice) (i j : ℕ) → answer ≡ Ok (Clashed.Chains v i j) → (v.0 < n) × LowestClash ws v.0
  pub late_early : (v : Choice) (i j : ℕ) → answer ≡ Ok (Clashed.Chains v i j) → Shortest ws (late v.0) (early v.0) (take i area')
  pub early_late : (v : Choice) (i j : ℕ) → answer ≡ Ok (Clashed.Chains v i j) → Shortest ws (early v.0) (late v.0) (take j (drop i area'))
  pub lengths : (v : Choice) (i j : ℕ) → answer ≡ Ok (Clashed.Chains v i j) → (length (take i area') ≡ i) × (length (take j (drop i area')) ≡ j)

-- Next: Impossible exactly if no rota meets every rule; Moved exactly if an allowed one comes after the rota that is lent, and the first such is
-- given; Ended exactly if there are allowed rotas and none comes after
pub record NextMeans (n : ℕ) (ws area : List ℕ) (answer : Result Moved Refusal) (area' : List ℕ) : Type 0 where
  pub impossible : (answer ≡ Ok Moved.Impossible) ↔ Impossible n ws
  pub moved : (answer ≡ Ok Moved.Moved) ↔ ((s : List ℕ) × Allowed n ws s × Before (take n area) s)
  pub ended : (answer ≡ Ok Moved.Ended) ↔ (Possible n ws × Ended n ws (take n area))
  pub next : answer ≡ Ok Moved.Moved → Next n ws (take n area) (take n area')

-- Ties: Impossible exactly if no rota meets every rule; else each word is the smallest code tied to late of its choice, two words are the same
-- exactly if late of the one choice is tied to late of the other, and in every allowed rota late of a choice is true exactly if its word is
pub record TiesMean (n : ℕ) (ws : List ℕ) (answer : Result Listed Refusal) (area' : List ℕ) : Type 0 where
  pub impossible : (answer ≡ Ok Listed.Impossible) ↔ Impossible n ws
  pub done : (answer ≡ Ok Listed.Done) ↔ Possible n ws
  pub tie : answer ≡ Ok Listed.Done → (v c : ℕ) → v < n → (get_or area' v 0 ≡ c) ↔ Tie ws v c
  pub same : answer ≡ Ok Listed.Done → (u v : ℕ) → u < n → v < n → (get_or area' u 0 ≡ get_or area' v 0) ↔ Tied ws (late u) (late v)
  pub together : answer ≡ Ok Listed.Done → (v : ℕ) → v < n → (r : List ℕ) → Allowed n ws r → True r (late v) ↔ True r (get_or area' v 0)
