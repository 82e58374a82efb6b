-- Every question has an answer: each promise allows an outcome, whatever it is given. With Once, each allows exactly one.
use mathlib.Core.Path.{◌≡◌, refl, ap}
use mathlib.Core.Bool.{true, false}
use mathlib.Core.Logic.{⊎_elim}
use mathlib.Core.List.{List, [], ◌∷◌, ◌++◌}
use Prim.Native.Nat.{ℕ, zero, suc, ◌≤◌, ◌<◌}
use native.Mathlib.Omega.{arith}
use lib.ListN.{length, get_or, take, get_or-eq_default}
use lib.Seq.{length-take-le}
use Rattle.std.specs.Prelude.{Ok, Err}
use Rattle.meaning.specs.declared.answers.Decided.{Decided}
use Rattle.meaning.specs.declared.answers.Listed.{Listed}
use Rattle.meaning.specs.declared.answers.Clashed.{Clashed}
use Rattle.meaning.specs.declared.answers.Moved.{Moved}
use Rattle.meaning.specs.Accepted.{Accepted}
use Rattle.meaning.specs.Chains.{Clash, LowestClash, Tie}
use Rattle.meaning.specs.Codes.{late, early}
use Rattle.meaning.specs.Outcomes.{Outcome}
use Rattle.meaning.specs.Promises.{Keeps, DecideSays, Decides, Each, ListedSays, Forces, TiesUp, ClashSays, Clashes, NextSays, Moves}
use Rattle.meaning.specs.Refusals.{Due, refused, as_due, Check, check, first_of, list_checks, next_checks, list_due, next_due}
use Rattle.meaning.specs.Rotas.{Rota, Forced}
use Rattle.meaning.specs.Rules.{InRange}
use Rattle.meaning.specs.Sizes.{rota_needs, chains_need, ties_need, over, cleared}
use Rattle.meaning.proofs.ChainLaws.{clash_impossible}
use Rattle.meaning.proofs.Exists.{tie_exists, forced_exists, shortest_exists}
use Rattle.meaning.proofs.General.{below_or_from}
use Rattle.meaning.proofs.NextLaws.{next_or_ended}
use Rattle.meaning.proofs.RefusalLaws.{not_refused, accepted, next_accepted, named, AllNamed}
use Rattle.meaning.proofs.TwoSat.{possible_or_clash, possible_free}

-- so what is due is a refusal
due_is_named : (cs : List Check) → AllNamed cs → (number place : ℕ) → first_of cs ≡ refused number place → as_due (named number place) ≡ refused number place
due_is_named [] h number place e = absurd (not_refused number place e)
due_is_named (check true k p ∷ cs) h number place e =
    let f : k ≡ number = cc in
    let g : p ≡ place = cc in
    rw (f, g) at h.0
due_is_named (check false k p ∷ cs) h number place e = due_is_named cs h.1 number place e

-- of a list
list_named : (n : ℕ) (ws : List ℕ) (area needs work number place : ℕ) → list_due n ws area needs work ≡ refused number place → as_due (named number place) ≡ refused number place
unfolding list_due
list_named n ws area needs work = due_is_named (list_checks n ws area needs work) (refl, (refl, (refl, (refl, (refl, (refl, tt))))))

-- and of a rota
next_named : (n : ℕ) (ws rota : List ℕ) (work number place : ℕ) → next_due n ws rota work ≡ refused number place → as_due (named number place) ≡ refused number place
unfolding next_due
next_named n ws rota work = due_is_named (next_checks n ws rota work) (refl, (refl, (refl, (refl, (refl, (refl, (refl, tt)))))))

-- an answer of a call, and what it says
abbrev pub Saying : {A : Type 0} → (A → List ℕ → Type 0) → Type 0
Saying {A} says = (a : A) × ((xs : List ℕ) × says a xs)

module _ {A : Type 0} (says : A → List ℕ → Type 0) (n : ℕ) (ws area work : List ℕ) where
  -- what is due decides
  keeps_exists : (due : Due) → ((number place : ℕ) → due ≡ refused number place → as_due (named number place) ≡ refused number place) →
      (due ≡ Due.none → Saying says) → Outcome A (Keeps says due n ws area work)
  keeps_exists Due.none names answer =
      let s = answer refl in
      (Ok s.0, over s.1.0 area, cleared n ws work, record { refuses = refl; after = record { items = s.1.0; right = s.1.1; written = refl; zeros = refl } })
  keeps_exists (refused number place) names answer =
      (Err (named number place), area, work, record { refuses = names number place refl; after = record { area_stays = refl; work_stays = refl } })

-- the possible list: what holds of each choice, as a list
pub each_exists : (Item : ℕ → ℕ → Type 0) (n : ℕ) → ((v : ℕ) → v < n → (x : ℕ) × Item v x) → (xs : List ℕ) × Each n Item xs
each_exists Item zero f = ([], record { long = refl; each = λ v h. absurd (omega arith) })
each_exists Item (suc n) f =
    let rest = each_exists (λ v. Item (suc v)) n (λ v h. f (suc v) (omega arith)) in
    let x = f 0 (omega arith) in
    (x.0 ∷ rest.0, record { long = ap suc rest.1.long; each = go x rest })
  where
    go : (x : (x : ℕ) × Item 0 x) (rest : (xs : List ℕ) × Each n (λ v. Item (suc v)) xs) → (v : ℕ) → v < suc n → Item v (get_or (x.0 ∷ rest.0) v 0)
    go x rest zero h = x.1
    go x rest (suc v) h = rest.1.each v (omega arith)

module _ (n : ℕ) (ws area work : List ℕ) where
  -- Decide
  pub decides_exists : Outcome Decided (Decides n ws area work)
  decides_exists =
      keeps_exists (DecideSays n ws) n ws area work (list_due n ws (length area) (rota_needs n) (length work))
      (list_named n ws (length area) (rota_needs n) (length work))
      (λ e. ⊎_elim (λ f. (Decided.Possible, (f.0, f.1))) (λ c. (Decided.Impossible (record { 0 = c.0 }), ([], (c.2, refl))))
      (possible_or_clash n ws (accepted n ws (length area) (rota_needs n) (length work) e).range))

  -- a call that answers a list
  listed_exists : (Item : ℕ → ℕ → Type 0) (needs : ℕ) → (InRange n ws → ((v : ℕ) → v < n → Clash ws v → ⊥) → (v : ℕ) → v < n → (x : ℕ) × Item v x) →
      Outcome Listed (Keeps (ListedSays n ws Item) (list_due n ws (length area) needs (length work)) n ws area work)
  listed_exists Item needs item =
      keeps_exists (ListedSays n ws Item) n ws area work (list_due n ws (length area) needs (length work))
      (list_named n ws (length area) needs (length work))
      (λ e. let range = (accepted n ws (length area) needs (length work) e).range in
      ⊎_elim (λ f. let xs = each_exists Item n (item range (possible_free n ws (f.0, f.1.allowed))) in (Listed.Done, (xs.0, ((f.0, f.1.allowed), xs.1))))
      (λ c. (Listed.Impossible, ([], (clash_impossible n ws c.0 c.2.clash, refl))))
      (possible_or_clash n ws range))

  -- Forced
  pub forces_exists : Outcome Listed (Forces n ws area work)
  forces_exists = listed_exists (Forced n ws) (rota_needs n) (forced_exists n ws)

  -- Ties
  pub ties_exists : Outcome Listed (TiesUp n ws area work)
  ties_exists = listed_exists (Tie ws) (ties_need n) (λ range free v h. tie_exists ws v)

  -- Clash
  pub clashes_exists : Outcome Clashed (Clashes n ws area work)
  clashes_exists =
      keeps_exists (ClashSays n ws) n ws area work (list_due n ws (length area) (chains_need n) (length work))
      (list_named n ws (length area) (chains_need n) (length work))
      (λ e. ⊎_elim (λ f. (Clashed.Possible, ([], ((f.0, f.1.allowed), refl)))) (λ c. both c.0 c.2)
      (possible_or_clash n ws (accepted n ws (length area) (chains_need n) (length work) e).range))
    where
      both : (v : ℕ) → LowestClash ws v → Saying (ClashSays n ws)
      both v l =
          let there = shortest_exists ws (early v) (late v) l.clash.0 in
          let back = shortest_exists ws (late v) (early v) l.clash.1 in (
            Clashed.Chains (record { 0 = v }) (length there.0) (length back.0),
            (there.0 ++ back.0, record { lowest = l; there = there.0; back = back.0; late_early = there.1; early_late = back.1; there_length = refl; back_length = refl; words = refl }),
          )

  -- Next
  pub moves_exists : Outcome Moved (Moves n ws area work)
  moves_exists =
      keeps_exists (NextSays n ws (take n area)) n ws area work (next_due n ws area (length work))
      (next_named n ws area (length work)) (λ e. answer (next_accepted n ws area (length work) e))
    where
      rota : (n ≤ length area) → ((i : ℕ) → i < length (take n area) → get_or (take n area) i 0 < 2) → Rota n (take n area)
      rota room low =
          record {
            long = length-take-le n area room;
            bits = λ v. ⊎_elim (λ h. omega (arith, low v h)) (λ h. omega (arith, get_or-eq_default (take n area) 0 {n = v} h)) (below_or_from v (length (take n area)));
          }

      answer : Accepted n ws (length area) (rota_needs n) (length work) × ((i : ℕ) → i < length (take n area) → get_or (take n area) i 0 < 2) →
          Saying (NextSays n ws (take n area))
      answer ok =
          ⊎_elim
          (λ f. ⊎_elim (λ s. (Moved.Moved, (s.0, s.1))) (λ e. (Moved.Ended, ([], ((f.0, f.1.allowed), e, refl))))
          (next_or_ended n ws (take n area) ok.0.range (rota ok.0.room ok.1) (possible_free n ws (f.0, f.1.allowed))))
          (λ c. (Moved.Impossible, ([], (clash_impossible n ws c.0 c.2.clash, refl))))
          (possible_or_clash n ws ok.0.range)
