-- How each call keeps its promise: from what its moves found.
use mathlib.Core.Path.{◌≡◌, refl, sym, ◌∙◌}
use mathlib.Core.Logic.{⊎_elim}
use mathlib.Core.List.{List, [], ◌++◌}
use Prim.Native.Nat.{ℕ, ◌-◌, ◌*◌, ◌≤◌, ◌<◌}
use native.Mathlib.Omega.{arith}
use lib.ListN.{length, take, drop, length-drop, get_or-eq_default}
use lib.Seq.{length-take-le}
use Rattle.std.proofs.lemmas.List.{append-nil, drop_all}
use Rattle.std.specs.Prelude.{min, Result, Ok, Err, IsErrAnd}
use Rattle.meaning.specs.declared.refusal.Refusal.{Refusal}
use Rattle.meaning.specs.declared.codes.Choice.{Choice}
use Rattle.meaning.specs.declared.answers.Moved.{Moved}
use Rattle.meaning.specs.Chains.{Reach, LowestClash}
use Rattle.meaning.specs.Codes.{late, early, opposite, code_of, last_choice}
use Rattle.meaning.specs.Sizes.{max_choices, chains_need, over}
use Rattle.meaning.specs.Promises.{Each, BothChains, Keeps, NextSays}
use Rattle.meaning.specs.Refusals.{Due, as_due, next_due}
use Rattle.meaning.specs.Rotas.{Rota, Possible, Impossible, First, Next, Ended, Forced}
use Rattle.moves.specs.Area.{Area, Begun, Undoes}
use Rattle.moves.specs.Lists.{Ready}
use Rattle.chains.specs.Traces.{Traced, Chained}
use Rattle.search.specs.Search.{Searches, Settles, Halts}
use Rattle.search.specs.State.{Around, rota_of}
use Rattle.replay.specs.Replay.{Finds}
use Rattle.rounds.specs.Rounds.{Sweeps, Swept, forced_of}
use Rattle.meaning.proofs.CodeLaws.{opposite_late, opposite_early}
use Rattle.meaning.proofs.General.{below_or_from, lent_on}
use Rattle.chains.proofs.Both.{second_room, both_chains}
use Rattle.meaning.proofs.Keeping.{keeps_refusal}
use Rattle.meaning.proofs.RefusalLaws.{next_accepted}
use Rattle.search.proofs.Searching.{found_first, found_clash}
use Rattle.rounds.proofs.Forcing.{bytes_right}

-- what is due is refused
pub refuses : {A : Type 0} (says : A → List ℕ → Type 0) (due : Due) (n : ℕ) (ws area W : List ℕ) (answer : Result A Refusal) (r : Refusal) → as_due r ≡ due →
    IsErrAnd answer (λ s. s ≡ r) → Keeps says due n ws area W answer area W
refuses says due n ws area W (Ok a) r e h = absurd h
refuses says due n ws area W (Err s) r e h = keeps_refusal says due n ws area W s (rw h e)

-- the search of a call begins in an area where no code has a mark and nothing is noted
module _ {n : ℕ} {ws : List ℕ} {a : Area} (begun : Begun n ws a) where
  settles : {b : Area} {x : Unit {0}} → Searches a 0 b (Ok x) → Settles n ws 0 n a.words b.words b.tail
  settles s = rw (begun.choices, begun.list) at s.says

  -- it finds the first rota, or the lowest clash
  pub first_found : {b : Area} {x : Unit {0}} → Searches a 0 b (Ok x) → First n ws (rota_of n b.words)
  first_found {b} s = found_first n ws a.words begun.unmarked b.words b.tail (settles s)

  pub clash_found : {b : Area} {v : Choice} → Searches a 0 b (Err v) → LowestClash ws v.0
  clash_found {b} {v} s =
      let halts : Halts n ws 0 a.words b.words v.0 b.tail = rw (begun.choices, begun.list) at s.says in
      found_clash n ws a.words begun.unmarked b.words v.0 b.tail halts

  -- and the rounds after it find what is forced
  pub forced_found : {b : Area} {x : Unit {0}} (c : Area) → Searches a 0 b (Ok x) → Sweeps b c → Each n (Forced n ws) (forced_of n c.words)
  forced_found {b} c s w =
      let swept : Swept n ws (2 * n) b.words c.words = rw (s.same.choices ∙ begun.choices, s.same.list ∙ begun.list) at w.swept in
      bytes_right n ws c.words 0 swept.more.state swept.all (rota_of n b.words, (first_found s).allowed)

  -- Next finds the rota that comes after, or what else it answers
  pub next_found : {b : Area} (r : List ℕ) → Finds a (take a.n r) b Moved.Moved → Next n ws (take n r) (rota_of n b.words)
  next_found {b} r f =
      let says : Around n a.words b.words × Next n ws (take n r) (rota_of n b.words) = rw (begun.choices, begun.list) at f.says in
      says.1

  pub none_found : {b : Area} (r : List ℕ) (m : Moved) → Finds a (take a.n r) b m → (m ≡ Moved.Moved → ⊥) → NextSays n ws (take n r) m []
  none_found r Moved.Moved f other = absurd (other refl)
  none_found {b} r Moved.Ended f other =
      let says : Around n a.words b.words × Possible n ws × Ended n ws (take n r) = rw (begun.choices, begun.list) at f.says in
      (says.1, says.2, refl)
  none_found {b} r Moved.Impossible f other =
      let says : Around n a.words b.words × Impossible n ws = rw (begun.choices, begun.list) at f.says in
      (says.1, refl)

-- Clash: the search is taken back, and two chains are written of the choice that is stuck
module _ {n : ℕ} {ws : List ℕ} {a b u : Area} {v : Choice} (few : n ≤ max_choices) (begun : Begun n ws a) (stuck : Searches a 0 b (Err v)) (undone : Undoes b 0 u) where
  same_choices : u.n ≡ n
  same_choices = undone.same.choices ∙ stuck.same.choices ∙ begun.choices

  same_list : u.rules ≡ ws
  same_list = undone.same.list ∙ stuck.same.list ∙ begun.list

  stuck_halts : Halts n ws 0 a.words b.words v.0 b.tail
  stuck_halts = rw (begun.choices, begun.list) at stuck.says

  -- the codes of the choice
  pub is_late : (c : ℕ) → c ≡ code_of (min last_choice v.0) 1 → c ≡ late v.0
  is_late c e = omega (arith, e, few, stuck_halts.within)

  pub is_early : (c : ℕ) → c ≡ code_of (min last_choice v.0) 0 → c ≡ early v.0
  is_early c e = omega (arith, e, few, stuck_halts.within)

  module _ {c : ℕ} (area : List ℕ) (e : c ≡ late v.0) (fits : chains_need n ≤ length area) where
    -- the first chain can be written
    pub late_chains : (c < 2 * u.n) × Reach u.rules c (opposite c) × (2 * u.n ≤ length area)
    late_chains =
        rw (same_choices, same_list)
        (omega (arith, e, stuck_halts.within), rw (e, opposite_late v.0) stuck_halts.clash.0, omega (arith, fits))

    module _ {w : Area} {area₁ : List ℕ} {r : ℕ} (first : Chained u c w area area₁ r) where
      traced_late : Traced ws c area area₁ r
      traced_late = rw same_list at first.traced

      -- behind it there is room for the second
      rest_room : (r ≤ length area₁) × (2 * n ≤ length (drop r area₁))
      rest_room =
          let ready : Ready n ws u.words = rw (same_choices, same_list) at undone.same.sound.ready in
          second_room ready (omega (arith, e, stuck_halts.within)) traced_late fits

      rest_whole : take (length area₁ - r) (drop r area₁) ≡ drop r area₁
      rest_whole = lent_on area₁ r

      pub early_chains : (d : ℕ) → d ≡ early v.0 → (d < 2 * w.n) × Reach w.rules d (opposite d) × (2 * w.n ≤ length (take (length area₁ - r) (drop r area₁)))
      early_chains d f =
          rw (first.same.choices ∙ same_choices, first.same.list ∙ same_list, rest_whole)
          (omega (arith, f, stuck_halts.within), rw (f, opposite_early v.0) stuck_halts.clash.1, rest_room.1)

      -- and both are what the call promises
      pub chains_found : {x : Area} {part : List ℕ} {d s : ℕ} → d ≡ early v.0 → Chained w d x (take (length area₁ - r) (drop r area₁)) part s →
          (xs : List ℕ) × BothChains ws v.0 r s xs × (take r area₁ ++ (part ++ drop (length area₁ - r) (drop r area₁)) ≡ over xs area)
      chains_found {x} {part} {d} {s} f second =
          let one : Traced ws (late v.0) area area₁ r = rw e at traced_late in
          let two : Traced ws (early v.0) (drop r area₁) part s = rw (first.same.list ∙ same_list, rest_whole, f) at second.traced in
          let both = both_chains (clash_found begun stuck) one two in
          let end : part ++ drop (length area₁ - r) (drop r area₁) ≡ part = rw (drop_all (length area₁ - r) (drop r area₁) (omega (arith, length-drop r area₁))) (append-nil part) in
          (both.0, both.1, rw end both.2)

-- Next: the given bytes are a rota
pub next_rota : (n : ℕ) (ws area : List ℕ) (work : ℕ) → Due.none ≡ next_due n ws area work → Rota n (take n area)
next_rota n ws area work fine =
    let accepts = next_accepted n ws area work (sym fine) in
    record {
      long = length-take-le n area accepts.0.room;
      bits = λ v. ⊎_elim (λ h. omega (arith, accepts.1 v h)) (λ h. omega (arith, get_or-eq_default (take n area) 0 {n = v} h)) (below_or_from v (length (take n area)));
    }
