-- Rotas, and what the calls answer about them. n is the number of choices, ws the words of the rules, r a rota.
use Rattle.std.specs.Prelude.{◌≡◌, ◌⊎◌, List, ℕ, zero, suc, ◌≤◌, ◌<◌, length, get_or}
use Rattle.meaning.specs.Codes.{choice_of, value_of}
use Rattle.meaning.specs.Order.{Before}
use Rattle.meaning.specs.Rules.{rules, left, right}

-- a code is true in a rota: the choice that it speaks of has the value that it says
abbrev pub True : List ℕ → ℕ → Type 0
True r c = get_or r (choice_of c) 0 ≡ value_of c

-- a rule is met: at least one of its codes is true
abbrev pub Met : List ℕ → List ℕ → ℕ → Type 0
Met ws r k = True r (left ws k) ⊎ True r (right ws k)

-- a rota is n values, each 0 (early) or 1 (late)
pub record Rota (n : ℕ) (r : List ℕ) : Type 0 where
  pub long : length r ≡ n
  pub bits : (v : ℕ) → get_or r v 0 ≤ 1

-- a rota is allowed if every rule is met
pub record Allowed (n : ℕ) (ws r : List ℕ) : Type 0 where
  pub rota : Rota n r
  pub met : (k : ℕ) → k < rules ws → Met ws r k

-- a list is possible if some rota is allowed, and impossible if none is
abbrev pub Possible : ℕ → List ℕ → Type 0
Possible n ws = (r : List ℕ) × Allowed n ws r

abbrev pub Impossible : ℕ → List ℕ → Type 0
Impossible n ws = (r : List ℕ) → Allowed n ws r → ⊥

-- r is the first allowed rota
pub record First (n : ℕ) (ws r : List ℕ) : Type 0 where
  pub allowed : Allowed n ws r
  pub least : (s : List ℕ) → Allowed n ws s → Before s r → ⊥

-- s is the first allowed rota strictly after r, which need not be allowed
pub record Next (n : ℕ) (ws r s : List ℕ) : Type 0 where
  pub allowed : Allowed n ws s
  pub after : Before r s
  pub least : (t : List ℕ) → Allowed n ws t → Before r t → Before t s → ⊥

-- no allowed rota comes after r
abbrev pub Ended : ℕ → List ℕ → List ℕ → Type 0
Ended n ws r = (t : List ℕ) → Allowed n ws t → Before r t → ⊥

-- every allowed rota, or some, has the value x at choice v
abbrev pub Always : ℕ → List ℕ → ℕ → ℕ → Type 0
Always n ws v x = (r : List ℕ) → Allowed n ws r → get_or r v 0 ≡ x

abbrev pub Sometimes : ℕ → List ℕ → ℕ → ℕ → Type 0
Sometimes n ws v x = (r : List ℕ) × Allowed n ws r × (get_or r v 0 ≡ x)

-- x is the forced byte of choice v: 0 or 1 where every allowed rota has that value there, 2 where they differ
abbrev pub Forced : ℕ → List ℕ → ℕ → ℕ → Type 0
Forced n ws v zero = Always n ws v 0
Forced n ws v (suc zero) = Always n ws v 1
Forced n ws v (suc (suc zero)) = Sometimes n ws v 0 × Sometimes n ws v 1
Forced n ws v (suc (suc (suc x))) = ⊥
