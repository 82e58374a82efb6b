-- Every rota is listed: calls that keep the promises of Decide and Next list every allowed rota of a possible list that no refusal applies to, and then end.
-- There are finitely many, since each one that follows has a higher number in binary, and all are below 2 ^ n.
use mathlib.Core.Path.{◌≡◌, refl, sym, ◌∙◌, subst}
use mathlib.Core.Logic.{◌⊎◌, inl, inr, ⊎_elim}
use mathlib.Core.List.{List, [], ◌∷◌}
use Rattle.std.proofs.Common.{ℕ, zero, suc, ◌+◌, ◌^◌, ◌≤◌, ◌<◌, arith}
use Rattle.std.proofs.lemmas.List.{length-take, length-replicate}
use borrow.Author.Tests.{le-ltb}
use lib.ListN.{length, get_or, take, replicate}
use Rattle.std.specs.Prelude.{Result, Ok, Err}
use Rattle.meaning.specs.declared.answers.Decided.{Decided}
use Rattle.meaning.specs.declared.answers.Moved.{Moved}
use Rattle.meaning.specs.declared.refusal.Refusal.{Refusal}
use Rattle.meaning.specs.Promises.{Decides, Moves}
use Rattle.meaning.specs.Refusals.{Due, over_check, first_over, number_of, place_of, NoneApplies, list_checks, list_due, next_due}
use Rattle.meaning.specs.Rotas.{Rota, Possible, First, Next, Ended}
use Rattle.meaning.specs.Rules.{InRange}
use Rattle.meaning.specs.Runs.{Follow, InOrder, GoesOn, Run, EveryRota, Acceptable, Handed, GoesThrough, ListsEveryRota}
use Rattle.meaning.specs.Sizes.{rota_needs, work_needs}
use Rattle.meaning.proofs.Counting.{number, number_below, number_less}
use Rattle.meaning.proofs.EveryRotaOnce.{decided_first, moved_next, ended_ended, in_order_every}
use Rattle.meaning.proofs.NextLaws.{next_or_ended}
use Rattle.meaning.proofs.Outcomes.{decides_exists, moves_exists}
use Rattle.meaning.proofs.RefusalLaws.{none_applies, applies_none, due_behind, not_refused, first_over_lem, accepted}
use Rattle.meaning.proofs.TwoSat.{possible_or_clash, possible_free}
use Rattle.meaning.proofs.Unique.{first_unique, next_unique, next_not_ended, first_or_clash}

-- The rotas.

module _ (n : ℕ) (ws : List ℕ) (range : InRange n ws) (possible : Possible n ws) where
  -- what follows a rota, where no more than k rotas can
  followers : (k : ℕ) (r : List ℕ) → Rota n r → 2 ^ n ≤ number r + k → (rs : List (List ℕ)) × Follow n ws r rs × (length rs + number r < 2 ^ n)
  followers zero r p h = absurd (omega (arith, h, number_below n r p))
  followers (suc k) r p h = go (followers k) (next_or_ended n ws r range p (possible_free n ws possible))
    where
      go : ((s : List ℕ) → Rota n s → 2 ^ n ≤ number s + k → (rs : List (List ℕ)) × Follow n ws s rs × (length rs + number s < 2 ^ n)) →
          ((s : List ℕ) × Next n ws r s) ⊎ Ended n ws r → (rs : List (List ℕ)) × Follow n ws r rs × (length rs + number r < 2 ^ n)
      go rec (inl s) =
          let less = number_less n r s.0 p s.1.allowed.rota s.1.after in
          let f = rec s.0 s.1.allowed.rota (omega (arith, less, h)) in
          (s.0 ∷ f.0, (s.1, f.1), omega (arith, f.2, less))
      go rec (inr e) = ([], e, omega (arith, number_below n r p))

  -- there is a first rota
  first_exists : (r : List ℕ) × First n ws r
  first_exists = ⊎_elim (λ f. f) (λ c. absurd (possible_free n ws possible c.0 c.1 c.2.clash)) (possible_or_clash n ws range)

  -- so there are all rotas in order, and there are at most 2 ^ n
  pub rotas_exist : (r : List ℕ) × (rs : List (List ℕ)) × InOrder n ws (r ∷ rs) × (length (r ∷ rs) ≤ 2 ^ n)
  rotas_exist =
      let f = first_exists in
      let g = followers (2 ^ n) f.0 f.1.allowed.rota (omega arith) in
      (f.0, g.0, (f.1, g.1), omega (arith, g.2))

-- Refusals: none is due.

module _ (n : ℕ) (ws : List ℕ) (ok : Acceptable n ws) where
  -- no check applies where the areas are just long enough, and so none where they are longer
  checks_pass : (area work : ℕ) → rota_needs n ≤ area → work_needs n ws ≤ work → NoneApplies (list_checks n ws area (rota_needs n) work)
  unfolding list_due
  checks_pass area work room space =
      let h = none_applies (list_checks n ws (rota_needs n) (rota_needs n) (work_needs n ws)) ok in
      (h.0, (h.1.0, (h.1.1.0, (le-ltb area (rota_needs n) room, (le-ltb work (work_needs n ws) space, (h.1.1.1.1.1.0, tt))))))

  pub none_due : (area work : ℕ) → rota_needs n ≤ area → work_needs n ws ≤ work → list_due n ws area (rota_needs n) work ≡ Due.none
  unfolding list_due
  none_due area work room space = applies_none (list_checks n ws area (rota_needs n) work) (checks_pass area work room space)

  -- nor where a rota stands in the area's front
  pub next_none_due : (area : List ℕ) (work : ℕ) (r : List ℕ) → take n area ≡ r → Rota n r → work_needs n ws ≤ work → next_due n ws area work ≡ Due.none
  unfolding next_due
  next_none_due area work r front p space =
      let long : length (take n area) ≡ n = rw front p.long in
      let bits : (j : ℕ) → get_or (take n area) j 0 ≤ 1 = rw front p.bits in
      let room : n ≤ length area = omega (arith, long, length-take n area) in
      let last : first_over 2 (take n area) ≡ length (take n area) =
      first_over_lem 2 (take n area) (length (take n area)) (omega arith) (λ j h. omega (arith, bits j)) (λ h. absurd (omega (arith, h))) in
      due_behind (list_checks n ws (length area) (rota_needs n) work) (over_check 2 (take n area) 11 ∷ []) (checks_pass (length area) work room space)
      ∙ applies_none (over_check 2 (take n area) 11 ∷ []) (le-ltb _ _ (omega (arith, last)), tt)

-- a list on which nothing is due is acceptable
pub acceptable : (n : ℕ) (ws : List ℕ) (area work : ℕ) → list_due n ws area (rota_needs n) work ≡ Due.none → Acceptable n ws
unfolding list_due
acceptable n ws area work none =
    let h = none_applies (list_checks n ws area (rota_needs n) work) none in
    applies_none (list_checks n ws (rota_needs n) (rota_needs n) (work_needs n ws))
    (h.0, (h.1.0, (h.1.1.0, (le-ltb n n (omega arith), (le-ltb (work_needs n ws) (work_needs n ws) (omega arith), (h.1.1.1.1.1.0, tt))))))

-- What calls answer that keep their promises.

module _ {ℓ} (n : ℕ) (ws : List ℕ) (ok : Acceptable n ws) (possible : Possible n ws)
    (next : List ℕ → List ℕ → Result Moved Refusal → List ℕ → List ℕ → Type ℓ)
    (next_keeps : (area work : List ℕ) (a : Result Moved Refusal) (area' work' : List ℕ) → next area work a area' work' → Moves n ws area work a area' work') where
  -- Next is not refused where it is handed a rota
  not_due : (r area work : List ℕ) (e : Refusal) (area' work' : List ℕ) → Rota n r → take n area ≡ r → work_needs n ws ≤ length work →
      Moves n ws area work (Err e) area' work' → ⊥
  not_due r area work e area' work' p front space k =
      not_refused (number_of e) (place_of e) (sym (next_none_due n ws ok area (length work) r front p space) ∙ sym k.refuses)

  -- it leaves the next rota where there is one
  next_moves : (r s : List ℕ) → Rota n r → Next n ws r s → Handed n ws next r (λ answer left. (answer ≡ Ok Moved.Moved) × (left ≡ s))
  next_moves r s p is area work answer area' work' front space c = go answer (next_keeps area work answer area' work' c)
    where
      go : (a : Result Moved Refusal) → Moves n ws area work a area' work' → (a ≡ Ok Moved.Moved) × (take n area' ≡ s)
      go (Ok Moved.Moved) k = (refl, next_unique n ws r (take n area') s (rw front at (moved_next k)) is)
      go (Ok Moved.Ended) k = absurd (next_not_ended n ws r s is (rw front at (ended_ended k)))
      go (Ok Moved.Impossible) k = absurd (k.after.right.0 possible.0 possible.1)
      go (Err e) k = absurd (not_due r area work e area' work' p front space k)

  -- and else has ended
  next_ends : (r : List ℕ) → Rota n r → Ended n ws r → Handed n ws next r (λ answer left. answer ≡ Ok Moved.Ended)
  next_ends r p is area work answer area' work' front space c = go answer (next_keeps area work answer area' work' c)
    where
      go : (a : Result Moved Refusal) → Moves n ws area work a area' work' → a ≡ Ok Moved.Ended
      go (Ok Moved.Moved) k = absurd (next_not_ended n ws r (take n area') (rw front at (moved_next k)) is)
      go (Ok Moved.Ended) k = refl
      go (Ok Moved.Impossible) k = absurd (k.after.right.0 possible.0 possible.1)
      go (Err e) k = absurd (not_due r area work e area' work' p front space k)

  -- so it goes through rotas that follow one another
  pub goes_through : (r : List ℕ) (rs : List (List ℕ)) → Rota n r → Follow n ws r rs → GoesThrough n ws next r rs
  goes_through r [] p f = next_ends r p f
  goes_through r (s ∷ rs) p f = (next_moves r s p f.0, goes_through s rs f.0.allowed.rota f.1)

  module _ (decide : List ℕ → List ℕ → Result Decided Refusal → List ℕ → List ℕ → Type ℓ)
      (decide_keeps : (area work : List ℕ) (a : Result Decided Refusal) (area' work' : List ℕ) → decide area work a area' work' → Decides n ws area work a area' work') where
    -- Decide leaves the first rota
    pub decide_first : (r : List ℕ) → First n ws r → (area work : List ℕ) (answer : Result Decided Refusal) (area' work' : List ℕ) → rota_needs n ≤ length area →
        work_needs n ws ≤ length work → decide area work answer area' work' → (answer ≡ Ok Decided.Possible) × (take n area' ≡ r)
    decide_first r is area work answer area' work' room space c = go answer (decide_keeps area work answer area' work' c)
      where
        go : (a : Result Decided Refusal) → Decides n ws area work a area' work' → (a ≡ Ok Decided.Possible) × (take n area' ≡ r)
        go (Ok Decided.Possible) k = (refl, first_unique n ws (take n area') r (decided_first k) is)
        go (Ok (Decided.Impossible v)) k = absurd (first_or_clash n ws r v.0 is k.after.right.0)
        go (Err e) k = absurd (not_refused (number_of e) (place_of e) (sym (none_due n ws ok (length area) (length work) room space) ∙ sym k.refuses))

    -- so they list every rota
    pub calls_list_all : ListsEveryRota n ws next decide
    calls_list_all =
        let a = rotas_exist n ws (accepted n ws (rota_needs n) (rota_needs n) (work_needs n ws) ok).range possible in
        record {
          first = a.0;
          others = a.1;
          every = in_order_every n ws a.0 a.1 a.2;
          at_most = a.3;
          starts = decide_first a.0 a.2.0;
          goes_on = goes_through a.0 a.1 a.2.0.allowed.rota a.2.1;
        }

-- over the promises
pub promises_list_every_rota : (n : ℕ) (ws : List ℕ) → Acceptable n ws → Possible n ws → ListsEveryRota n ws (Moves n ws) (Decides n ws)
promises_list_every_rota n ws ok possible =
    calls_list_all n ws ok possible (Moves n ws) (λ area work a area' work' k. k) (Decides n ws) (λ area work a area' work' k. k)

-- and there is such a run, since each promise can be kept
module _ (n : ℕ) (ws : List ℕ) where
  abbrev space : List ℕ
  space = replicate (work_needs n ws) 0

  long_enough : work_needs n ws ≤ length space
  long_enough = omega (arith, length-replicate {A = ℕ} (work_needs n ws) 0)

  runs_on : (area r : List ℕ) (rs : List (List ℕ)) → take n area ≡ r → GoesThrough n ws (Moves n ws) r rs → GoesOn n (Moves n ws) area rs
  runs_on area r [] front g =
      let o = moves_exists n ws area space in
      let e = g area space o.0 o.1 o.2 front long_enough o.3 in
      (space, o.1, o.2, subst (λ a. Moves n ws area space a o.1 o.2) e o.3)
  runs_on area r (s ∷ rs) front g =
      let o = moves_exists n ws area space in
      let e = g.0 area space o.0 o.1 o.2 front long_enough o.3 in
      (space, o.1, o.2, subst (λ a. Moves n ws area space a o.1 o.2) e.0 o.3, e.1, runs_on o.1 s rs e.1 g.1)

  pub run_exists : Acceptable n ws → Possible n ws → (r : List ℕ) × (rs : List (List ℕ)) × Run n ws r rs × EveryRota n ws (r ∷ rs)
  run_exists ok possible =
      let l = promises_list_every_rota n ws ok possible in
      let area = replicate n 0 in
      let o = decides_exists n ws area space in
      let e = l.starts area space o.0 o.1 o.2 (omega (arith, length-replicate {A = ℕ} n 0)) long_enough o.3 in (
        l.first,
        l.others,
        record {
          area = area;
          work = space;
          area' = o.1;
          work' = o.2;
          decided = subst (λ a. Decides n ws area space a o.1 o.2) e.0 o.3;
          first = e.1;
          goes_on = runs_on o.1 l.first l.others e.1 l.goes_on;
        },
        l.every,
      )
