-- Checks in order: the laws of the meaning, in the form that they are used in here.
use mathlib.Core.Path.{◌≡◌, refl}
use mathlib.Core.Bool.{Bool, true, false}
use mathlib.Core.List.{List, [], ◌∷◌, ◌++◌}
use Prim.Native.Nat.{ℕ}
use Rattle.meaning.specs.Refusals.{none, Check, check, first_of}
use Rattle.meaning.proofs.RefusalLaws.{none_applies, applies_none, split_none, due_behind}

-- what follows checks of which none applies decides
pub behind : (cs ds : List Check) → first_of cs ≡ none → first_of (cs ++ ds) ≡ first_of ds
behind cs ds e = due_behind cs ds (none_applies cs e)

-- where nothing is due of two lists of checks, nothing is of either
pub both_none : (cs ds : List Check) → first_of (cs ++ ds) ≡ none → (first_of cs ≡ none) × (first_of ds ≡ none)
both_none cs ds e = let h = split_none cs ds (none_applies (cs ++ ds) e) in (applies_none cs h.0, applies_none ds h.1)

-- where nothing is due, the first check does not apply, and nothing is due of the others
pub check_none : (t : Bool) (number place : ℕ) (cs : List Check) → first_of (check t number place ∷ cs) ≡ none → (t ≡ false) × (first_of cs ≡ none)
check_none t number place cs e = let h = none_applies (check t number place ∷ cs) e in (h.0, applies_none cs h.1)

-- a last check that does not apply
pub last_none : (cs : List Check) (number place : ℕ) → first_of (cs ++ (check false number place ∷ [])) ≡ first_of cs
last_none [] number place = refl
last_none (check true k p ∷ cs) number place = refl
last_none (check false k p ∷ cs) number place = last_none cs number place
