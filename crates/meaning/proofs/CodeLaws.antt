-- Laws of codes.
use mathlib.Core.Path.{◌≡◌}
use Prim.Native.Nat.{ℕ, ◌+◌, ◌-◌, ◌*◌, ◌%◌, ◌<◌}
use native.Mathlib.Omega.{arith}
use native.Mathlib.Decide.{ℕ_discrete}
use mathlib.Core.Logic.{◌⊎◌, inl, inr}
use Rattle.meaning.specs.Codes.{late, early, opposite, choice_of, value_of, code_of}

-- the opposite of an even code c is c + 1
pub opposite_even : (c : ℕ) → c % 2 ≡ 0 → opposite c ≡ c + 1
unfolding opposite
opposite_even c h = omega arith

-- and of an odd one c - 1
pub opposite_odd : (c : ℕ) → c % 2 ≡ 1 → opposite c ≡ c - 1
unfolding opposite
opposite_odd c h = omega arith

-- the opposite of the opposite is the code
pub opposite_opposite : (c : ℕ) → opposite (opposite c) ≡ c
unfolding opposite
opposite_opposite c = omega arith

-- so codes with the same opposite are the same
pub opposite_one : (x y : ℕ) → opposite x ≡ opposite y → x ≡ y
unfolding opposite
opposite_one x y e = omega arith

-- no code is its own opposite
pub opposite_other : (x : ℕ) → opposite x ≡ x → ⊥
unfolding opposite
opposite_other x e = omega arith

-- the opposite of a code of n choices is one
pub opposite_below : (n c : ℕ) → c < 2 * n → opposite c < 2 * n
unfolding opposite
opposite_below n c h = omega arith

-- it speaks of the same choice
pub opposite_choice : (c : ℕ) → choice_of (opposite c) ≡ choice_of c
unfolding opposite
opposite_choice c = omega arith

-- and says the other value
pub opposite_value : (c : ℕ) → value_of (opposite c) + value_of c ≡ 1
unfolding opposite
opposite_value c = omega arith

-- late and early are opposites
pub opposite_late : (v : ℕ) → opposite (late v) ≡ early v
unfolding opposite
opposite_late v = omega arith

pub opposite_early : (v : ℕ) → opposite (early v) ≡ late v
unfolding opposite
opposite_early v = omega arith

-- late v and early v speak of choice v
pub choice_late : (v : ℕ) → choice_of (late v) ≡ v
choice_late v = omega arith

pub choice_early : (v : ℕ) → choice_of (early v) ≡ v
choice_early v = omega arith

-- a code is that of its choice and its value
pub code_of_parts : (c : ℕ) → code_of (choice_of c) (value_of c) ≡ c
code_of_parts c = omega arith

-- a code of n choices speaks of one of them
pub choice_below : (n c : ℕ) → c < 2 * n → choice_of c < n
choice_below n c h = omega arith

-- every code is the late one or the early one of its choice
pub late_or_early : (c : ℕ) → (c ≡ late (choice_of c)) ⊎ (c ≡ early (choice_of c))
late_or_early c = elim (ℕ_discrete (c % 2) 0) [ yes e ↦ inl (omega arith) | no e ↦ inr (omega arith) ]
