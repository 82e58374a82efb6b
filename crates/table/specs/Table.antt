-- The marked table, cases A to K: what is to be answered, and when an answer is right by the definitions. proofs/Marked proves every case.
use Rattle.std.specs.Prelude.{◌≡◌, List, [], ◌∷◌, ℕ, ◌<◌}
use Rattle.meaning.specs.Codes.{late, early}
use Rattle.meaning.specs.Rotas.{Impossible, Next, Forced}
use Rattle.meaning.specs.Chains.{Clash, LowestClash, Shortest, Tie}
use Rattle.meaning.specs.Promises.{Each}
use Rattle.meaning.specs.Runs.{InOrder}
use Rattle.meaning.specs.Sizes.{rota_needs, work_needs}
use Rattle.meaning.specs.Refusals.{Due, none, refused, list_due}

-- a possible list: its rotas in order; for each choice the forced byte and the tie; and what Next gives after other rotas
-- an impossible one: the choice, the chain from late to early and the one back. And a refusal, by number and place
pub data Answer : Type 0 where
  possible : (rotas : List (List ℕ)) (forced ties : List ℕ) (asked : List (List ℕ × List ℕ)) → Answer
  impossible : (v : ℕ) (late_early early_late : List ℕ) → Answer
  refusal : (number place : ℕ) → Answer

-- Next after the first rota of each pair, which need not be allowed, gives the second
abbrev pub Asked : ℕ → List ℕ → List (List ℕ × List ℕ) → Type 0
Asked n ws [] = Unit {0}
Asked n ws (q ∷ qs) = Next n ws q.0 q.1 × Asked n ws qs

-- what is due where the areas are just long enough
abbrev pub least_due : ℕ → List ℕ → Due
least_due n ws = list_due n ws (rota_needs n) (rota_needs n) (work_needs n ws)

abbrev pub Right : ℕ → List ℕ → Answer → Type 0
Right n ws (possible rs fs ts qs) =
    (least_due n ws ≡ none)
    × InOrder n ws rs
    × ((v : ℕ) → v < n → Clash ws v → ⊥)
    × Each n (Forced n ws) fs
    × Each n (Tie ws) ts
    × Asked n ws qs
Right n ws (impossible v ks js) =
    (least_due n ws ≡ none) × LowestClash ws v × Shortest ws (late v) (early v) ks × Shortest ws (early v) (late v) js × Impossible n ws
Right n ws (refusal number place) = least_due n ws ≡ refused number place

pub record Case : Type 0 where
  pub n : ℕ
  pub ws : List ℕ
  pub answer : Answer

-- no choices: one rota, the empty one
abbrev pub case_a : Case
case_a = record { n = 0; ws = []; answer = possible ([] ∷ []) [] [] [] }

-- no rules
abbrev pub case_b : Case
case_b = record { n = 1; ws = []; answer = possible ((0 ∷ []) ∷ (1 ∷ []) ∷ []) (2 ∷ []) (0 ∷ []) [] }

-- a rule that demands late
abbrev pub case_c : Case
case_c = record { n = 1; ws = 0 ∷ 0 ∷ []; answer = possible ((1 ∷ []) ∷ []) (1 ∷ []) (0 ∷ []) ((0 ∷ [], 1 ∷ []) ∷ []) }

-- late and early demanded
abbrev pub case_d : Case
case_d = record { n = 1; ws = 0 ∷ 0 ∷ 1 ∷ 1 ∷ []; answer = impossible 0 (1 ∷ []) (0 ∷ []) }

-- forced by two rules together
abbrev pub case_e : Case
case_e = record { n = 2; ws = 0 ∷ 2 ∷ 0 ∷ 3 ∷ []; answer = possible ((1 ∷ 0 ∷ []) ∷ (1 ∷ 1 ∷ []) ∷ []) (1 ∷ 2 ∷ []) (0 ∷ 2 ∷ []) [] }

-- two choices that go together
abbrev pub case_f : Case
case_f = record { n = 2; ws = 1 ∷ 2 ∷ 3 ∷ 0 ∷ []; answer = possible ((0 ∷ 0 ∷ []) ∷ (1 ∷ 1 ∷ []) ∷ []) (2 ∷ 2 ∷ []) (0 ∷ 0 ∷ []) [] }

-- every pair of values ruled out
abbrev pub case_g : Case
case_g = record { n = 2; ws = 0 ∷ 2 ∷ 0 ∷ 3 ∷ 1 ∷ 2 ∷ 1 ∷ 3 ∷ []; answer = impossible 0 (2 ∷ 3 ∷ []) (0 ∷ 1 ∷ []) }

-- a rule that is always met
abbrev pub case_h : Case
case_h = record { n = 1; ws = 0 ∷ 1 ∷ []; answer = possible ((0 ∷ []) ∷ (1 ∷ []) ∷ []) (2 ∷ []) (0 ∷ []) [] }

-- a sequence; 010 is not allowed
abbrev pub case_i : Case
case_i = record { n = 3; ws = 1 ∷ 2 ∷ 3 ∷ 4 ∷ []; answer = possible ((0 ∷ 0 ∷ 0 ∷ []) ∷ (0 ∷ 0 ∷ 1 ∷ []) ∷ (0 ∷ 1 ∷ 1 ∷ []) ∷ (1 ∷ 1 ∷ 1 ∷ []) ∷ []) (2 ∷ 2 ∷ 2 ∷ []) (0 ∷ 2 ∷ 4 ∷ []) ((0 ∷ 1 ∷ 0 ∷ [], 0 ∷ 1 ∷ 1 ∷ []) ∷ []) }

-- forced with no rule of one code
abbrev pub case_j : Case
case_j = record { n = 3; ws = 0 ∷ 2 ∷ 3 ∷ 4 ∷ 1 ∷ 4 ∷ []; answer = possible ((0 ∷ 1 ∷ 1 ∷ []) ∷ (1 ∷ 0 ∷ 1 ∷ []) ∷ (1 ∷ 1 ∷ 1 ∷ []) ∷ []) (2 ∷ 2 ∷ 1 ∷ []) (0 ∷ 2 ∷ 4 ∷ []) [] }

-- a code that is too high
abbrev pub case_k : Case
case_k = record { n = 2; ws = 0 ∷ 4 ∷ []; answer = refusal 4 1 }

abbrev pub cases : List Case
cases = case_a ∷ case_b ∷ case_c ∷ case_d ∷ case_e ∷ case_f ∷ case_g ∷ case_h ∷ case_i ∷ case_j ∷ case_k ∷ []

-- every case of the list is right
abbrev pub Every : List Case → Type 0
Every [] = Unit {0}
Every (c ∷ cs) = Right c.n c.ws c.answer × Every cs
