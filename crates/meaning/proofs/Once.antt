-- Two outcomes that a promise allows coincide: the answer, and each item of the lent areas.
use mathlib.Core.Path.{◌≡◌, refl, sym, ap, ◌∙◌}
use mathlib.Core.List.{List}
use Prim.Native.Nat.{ℕ}
use native.Mathlib.Omega.{arith}
use lib.ListN.{length, take}
use lib.Seq.{ext_get_or}
use Rattle.std.specs.Prelude.{Result, Ok, Err}
use Rattle.meaning.specs.declared.codes.Choice.{Choice}
use Rattle.meaning.specs.declared.answers.Decided.{Decided}
use Rattle.meaning.specs.declared.answers.Listed.{Listed}
use Rattle.meaning.specs.declared.answers.Clashed.{Clashed}
use Rattle.meaning.specs.declared.answers.Moved.{Moved}
use Rattle.meaning.specs.Chains.{Tie}
use Rattle.meaning.specs.Codes.{late, early}
use Rattle.meaning.specs.declared.refusal.Refusal.{Refusal}
use Rattle.meaning.specs.Outcomes.{Same}
use Rattle.meaning.specs.Promises.{Keeps, DecideSays, Decides, ListedSays, Forces, TiesUp, BothChains, ClashSays, Clashes, NextSays, Moves}
use Rattle.meaning.specs.Refusals.{number_of, place_of, Due, as_due, list_due, next_due}
use Rattle.meaning.specs.Rotas.{Allowed, Forced}
use Rattle.meaning.specs.Sizes.{rota_needs, chains_need, ties_need, over}
use Rattle.meaning.proofs.ChainLaws.{clash_impossible}
use Rattle.meaning.proofs.RefusalLaws.{due_named, not_refused}
use Rattle.meaning.proofs.Unique.{first_unique, next_unique, next_not_ended, forced_unique, shortest_unique, lowest_unique, tie_unique}

-- refusals of one number and place are one
pub same_refused : (r s : Refusal) → as_due r ≡ as_due s → r ≡ s
same_refused r s e = due_named r (number_of s) (place_of s) e ∙ sym (due_named s (number_of s) (place_of s) refl)

-- The form that all calls share: what a call says fixes its answer and its items, and what is due fixes its refusal.
module _ {A : Type 0} (says : A → List ℕ → Type 0) (once : (a b : A) (xs ys : List ℕ) → says a xs → says b ys → (a ≡ b) × (xs ≡ ys)) (n : ℕ) (ws area work : List ℕ) where
  pub keeps_once : (due : Due) (a b : Result A Refusal) (area₁ work₁ area₂ work₂ : List ℕ) → Keeps says due n ws area work a area₁ work₁ →
      Keeps says due n ws area work b area₂ work₂ → Same a area₁ work₁ b area₂ work₂
  keeps_once due (Ok a) (Ok b) area₁ work₁ area₂ work₂ p q =
      let o = once a b p.after.items q.after.items p.after.right q.after.right in
      (ap Ok o.0, p.after.written ∙ ap (λ (xs : List ℕ). over xs area) o.1 ∙ sym q.after.written, p.after.zeros ∙ sym q.after.zeros)
  keeps_once due (Ok a) (Err s) area₁ work₁ area₂ work₂ p q = absurd (not_refused (number_of s) (place_of s) (p.refuses ∙ sym q.refuses))
  keeps_once due (Err r) (Ok b) area₁ work₁ area₂ work₂ p q = absurd (not_refused (number_of r) (place_of r) (q.refuses ∙ sym p.refuses))
  keeps_once due (Err r) (Err s) area₁ work₁ area₂ work₂ p q =
      (ap Err (same_refused r s (p.refuses ∙ sym q.refuses)), p.after.area_stays ∙ sym q.after.area_stays, p.after.work_stays ∙ sym q.after.work_stays)

-- Decide

-- two choices with one number are one
pub same_choice : (u v : Choice) → u.0 ≡ v.0 → u ≡ v
same_choice u v e = λ i. record { 0 = e i }

module _ (n : ℕ) (ws : List ℕ) where
  -- what the answer says tells the answer and the rota
  pub decide_once : (a b : Decided) (xs ys : List ℕ) → DecideSays n ws a xs → DecideSays n ws b ys → (a ≡ b) × (xs ≡ ys)
  decide_once Decided.Possible Decided.Possible xs ys p q = (refl, first_unique n ws xs ys p q)
  decide_once Decided.Possible (Decided.Impossible v) xs ys p q = absurd (clash_impossible n ws v.0 q.0.clash xs p.allowed)
  decide_once (Decided.Impossible v) Decided.Possible xs ys p q = absurd (clash_impossible n ws v.0 p.0.clash ys q.allowed)
  decide_once (Decided.Impossible u) (Decided.Impossible v) xs ys p q =
      (ap Decided.Impossible (same_choice u v (lowest_unique ws u.0 v.0 p.0 q.0)), p.1 ∙ sym q.1)

  -- so Decide has one outcome
  pub decides_once : (area work : List ℕ) (a b : Result Decided Refusal) (area₁ work₁ area₂ work₂ : List ℕ) → Decides n ws area work a area₁ work₁ →
      Decides n ws area work b area₂ work₂ → Same a area₁ work₁ b area₂ work₂
  decides_once area work =
      keeps_once (DecideSays n ws) decide_once
      n ws area work
      (list_due n ws (length area) (rota_needs n) (length work))

-- Forced and Ties

module _ (n : ℕ) (ws : List ℕ) (Item : ℕ → ℕ → Type 0) (unique : (r : List ℕ) → Allowed n ws r → (v x y : ℕ) → Item v x → Item v y → x ≡ y) where
  -- what the answer says tells the answer and the list
  pub listed_once : (a b : Listed) (xs ys : List ℕ) → ListedSays n ws Item a xs → ListedSays n ws Item b ys → (a ≡ b) × (xs ≡ ys)
  listed_once Listed.Done Listed.Done xs ys p q = (
    refl,
    ext_get_or 0 xs ys (p.1.long ∙ sym q.1.long) (λ v h.
        unique p.0.0 p.0.1 v _ _ (p.1.each v (omega (arith, p.1.long))) (q.1.each v (omega (arith, p.1.long)))),
  )
  listed_once Listed.Done Listed.Impossible xs ys p q = absurd (q.0 p.0.0 p.0.1)
  listed_once Listed.Impossible Listed.Done xs ys p q = absurd (p.0 q.0.0 q.0.1)
  listed_once Listed.Impossible Listed.Impossible xs ys p q = (refl, p.1 ∙ sym q.1)

  -- so a call that answers a list has one outcome
  each_once : (area work : List ℕ) (due : Due) (a b : Result Listed Refusal) (area₁ work₁ area₂ work₂ : List ℕ) →
      Keeps (ListedSays n ws Item) due n ws area work a area₁ work₁ → Keeps (ListedSays n ws Item) due n ws area work b area₂ work₂ →
      Same a area₁ work₁ b area₂ work₂
  each_once area work =
      keeps_once (ListedSays n ws Item) listed_once n ws area work

module _ (n : ℕ) (ws : List ℕ) where
  -- Forced
  pub forces_once : (area work : List ℕ) (a b : Result Listed Refusal) (area₁ work₁ area₂ work₂ : List ℕ) → Forces n ws area work a area₁ work₁ →
      Forces n ws area work b area₂ work₂ → Same a area₁ work₁ b area₂ work₂
  forces_once area work =
      each_once n ws (Forced n ws) (λ r ok v x y p q. forced_unique n ws v x y r ok p q) area work (list_due n ws (length area) (rota_needs n) (length work))

  -- Ties
  pub ties_once : (area work : List ℕ) (a b : Result Listed Refusal) (area₁ work₁ area₂ work₂ : List ℕ) → TiesUp n ws area work a area₁ work₁ →
      TiesUp n ws area work b area₂ work₂ → Same a area₁ work₁ b area₂ work₂
  ties_once area work =
      each_once n ws (Tie ws) (λ r ok v x y p q. tie_unique ws v x y p q) area work (list_due n ws (length area) (ties_need n) (length work))

-- Clash

module _ (n : ℕ) (ws : List ℕ) where
  -- the choice that clashes tells its chains
  chains_once : (u v : Choice) (i j k l : ℕ) (xs ys : List ℕ) → BothChains ws u.0 i j xs → BothChains ws v.0 k l ys →
      (Clashed.Chains u i j ≡ Clashed.Chains v k l) × (xs ≡ ys)
  chains_once u v i j k l xs ys p q =
      let e : u.0 ≡ v.0 = lowest_unique ws u.0 v.0 p.lowest q.lowest in
      let w : u ≡ v = same_choice u v e in
      let f : p.there ≡ q.there = shortest_unique ws (late v.0) (early v.0) p.there q.there (rw e at p.late_early) q.late_early in
      let g : p.back ≡ q.back = shortest_unique ws (early v.0) (late v.0) p.back q.back (rw e at p.early_late) q.early_late in
      let h : i ≡ k = p.there_length ∙ ap length f ∙ sym q.there_length in
      let m : j ≡ l = p.back_length ∙ ap length g ∙ sym q.back_length in
      ((cc), cc (p.words, q.words))

  -- what the answer says tells the answer and the chains
  pub clash_once : (a b : Clashed) (xs ys : List ℕ) → ClashSays n ws a xs → ClashSays n ws b ys → (a ≡ b) × (xs ≡ ys)
  clash_once (Clashed.Chains u i j) (Clashed.Chains v k l) xs ys p q = chains_once u v i j k l xs ys p q
  clash_once (Clashed.Chains u i j) Clashed.Possible xs ys p q = absurd (clash_impossible n ws u.0 p.lowest.clash q.0.0 q.0.1)
  clash_once Clashed.Possible (Clashed.Chains v k l) xs ys p q = absurd (clash_impossible n ws v.0 q.lowest.clash p.0.0 p.0.1)
  clash_once Clashed.Possible Clashed.Possible xs ys p q = (refl, p.1 ∙ sym q.1)

  -- so Clash has one outcome
  pub clashes_once : (area work : List ℕ) (a b : Result Clashed Refusal) (area₁ work₁ area₂ work₂ : List ℕ) → Clashes n ws area work a area₁ work₁ →
      Clashes n ws area work b area₂ work₂ → Same a area₁ work₁ b area₂ work₂
  clashes_once area work =
      keeps_once (ClashSays n ws) clash_once n ws area work
      (list_due n ws (length area) (chains_need n) (length work))

-- Next

module _ (n : ℕ) (ws : List ℕ) where
  -- what the answer says tells the answer and the rota
  pub next_once : (rota : List ℕ) (a b : Moved) (xs ys : List ℕ) → NextSays n ws rota a xs → NextSays n ws rota b ys → (a ≡ b) × (xs ≡ ys)
  next_once rota Moved.Moved Moved.Moved xs ys p q = (refl, next_unique n ws rota xs ys p q)
  next_once rota Moved.Moved Moved.Ended xs ys p q = absurd (next_not_ended n ws rota xs p q.1)
  next_once rota Moved.Moved Moved.Impossible xs ys p q = absurd (q.0 xs p.allowed)
  next_once rota Moved.Ended Moved.Moved xs ys p q = absurd (next_not_ended n ws rota ys q p.1)
  next_once rota Moved.Ended Moved.Ended xs ys p q = (refl, p.2 ∙ sym q.2)
  next_once rota Moved.Ended Moved.Impossible xs ys p q = absurd (q.0 p.0.0 p.0.1)
  next_once rota Moved.Impossible Moved.Moved xs ys p q = absurd (p.0 ys q.allowed)
  next_once rota Moved.Impossible Moved.Ended xs ys p q = absurd (p.0 q.0.0 q.0.1)
  next_once rota Moved.Impossible Moved.Impossible xs ys p q = (refl, p.1 ∙ sym q.1)

  -- so Next has one outcome
  pub moves_once : (area work : List ℕ) (a b : Result Moved Refusal) (area₁ work₁ area₂ work₂ : List ℕ) → Moves n ws area work a area₁ work₁ →
      Moves n ws area work b area₂ work₂ → Same a area₁ work₁ b area₂ work₂
  moves_once area work =
      keeps_once (NextSays n ws (take n area)) (next_once (take n area)) n ws area work
      (next_due n ws area (length work))
