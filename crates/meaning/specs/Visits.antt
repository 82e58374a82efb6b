-- What a visit of every rota promises. S is the visitor's state; `sees s r told s'` says that the visitor, given the rota r in the state s, may answer `told` and be left in the state s'.
use Rattle.std.specs.Prelude.{◌≡◌, Result, List, [], ◌∷◌, ◌++◌, ℕ, length}
use Rattle.std.specs.List.{FoldsTo}
use Rattle.std.specs.declared.ops.ControlFlow.{ControlFlow}
use Rattle.std.specs.declared.ops.ControlFlow.TheVariants.{Continue, Break}
use Rattle.meaning.specs.Chains.{LowestClash}
use Rattle.meaning.specs.declared.answers.Visited.{Visited}
use Rattle.meaning.specs.declared.refusal.Refusal.{Refusal}
use Rattle.meaning.specs.Promises.{Keeps}
use Rattle.meaning.specs.Refusals.{list_due}
use Rattle.meaning.specs.Runs.{EveryRota}
use Rattle.meaning.specs.Sizes.{rota_needs}

module _ {S B : Type 0} (n : ℕ) (ws : List ℕ) (sees : S → List ℕ → ControlFlow B (Unit {0}) → S → Type 0) where
  -- given the rotas rs, one after the other, it goes on each time
  abbrev pub Given : S → List (List ℕ) → S → Type 0
  Given s rs s' = FoldsTo (λ p r q. sees p r (Continue tt) q) s rs s'

  -- it was given every rota, each once, in dictionary order, and no other
  pub record GivenAll (s : S) (last : List ℕ) (s' : S) : Type 0 where
    pub before : List (List ℕ)
    pub every : EveryRota n ws (before ++ last ∷ [])
    pub given : Given s (before ++ last ∷ []) s'

  -- it was given the first of them, in that order, up to r, and stopped there, and nowhere before, with the answer b
  pub record StoppedAt (b : B) (s : S) (r : List ℕ) (s' : S) : Type 0 where
    pub before : List (List ℕ)
    pub after : List (List ℕ)
    pub every : EveryRota n ws (before ++ r ∷ after)
    pub here : S
    pub given : Given s before here
    pub stops : sees here r (Break b) s'

  -- the rota that was given last is left at the front of the area; where the list is impossible, nothing is given
  abbrev pub VisitSays : S → S → Visited B → List ℕ → Type 0
  VisitSays s s' Visited.All xs = GivenAll s xs s'
  VisitSays s s' (Visited.Stopped b) xs = StoppedAt b s xs s'
  VisitSays s s' (Visited.Impossible v) xs = LowestClash ws v.0 × (xs ≡ []) × (s' ≡ s)

  -- a visit, from the state s to the state s': refusals, areas and an impossible list as with Decide
  abbrev pub Visits : S → S → List ℕ → List ℕ → Result (Visited B) Refusal → List ℕ → List ℕ → Type 0
  Visits s s' area work = Keeps (VisitSays s s') (list_due n ws (length area) (rota_needs n) (length work)) n ws area work
