-- Every rota, of the engine itself: on a possible list that no refusal applies to, `decide` and then `next` until it ends, which it does, list every allowed rota,
-- each once, in dictionary order, and no other.
-- A call is here all that the function's own contract tells its caller, and nothing more.
use mathlib.Core.Path.{◌≡◌}
use mathlib.Core.List.{List, ◌∷◌}
use Prim.Native.Nat.{ℕ}
use borrow.Fn.World.{ArgsD}
use contract.Lifetimes.{Lfts}
use denote.Triple.Clauses.{AtExit}
use Rattle.std.specs.Prelude.{Result}
use Rattle.meaning.specs.declared.answers.Decided.{Decided}
use Rattle.meaning.specs.declared.answers.Moved.{Moved}
use Rattle.meaning.specs.declared.refusal.Refusal.{Refusal}
use Rattle.meaning.specs.Promises.{Decides, Moves}
use Rattle.meaning.specs.Rotas.{Possible}
use Rattle.meaning.specs.Runs.{RunOf, EveryRota, Acceptable, ListsEveryRota}
use Rattle.meaning.proofs.EveryRotaListed.{calls_list_all}
use Rattle.meaning.proofs.EveryRotaOnce.{calls_list_every_rota}
use Rattle.engine.specs.contracts.decide as decide
use Rattle.engine.proofs.decide.Reads as decide_reads
use Rattle.engine.specs.contracts.next as next
use Rattle.engine.proofs.next.Reads as next_reads

-- a call with n, ws and two areas, which leaves area' and work' in them
pub record Lends (κs : Lfts 3) (args : ArgsD decide.signature κs) (exits : AtExit decide.ended κs) (n : ℕ) (ws area work area' work' : List ℕ) : Type 0 where
  pub is_count : args.0 ≡ n
  pub is_words : args.1.0.now ≡ ws
  pub is_area : args.1.1.0.now ≡ area
  pub is_work : args.1.1.1.0.now ≡ work
  pub area_after : exits.1.1.0.now ≡ area'
  pub work_after : exits.1.1.1.0.now ≡ work'

-- `decide` was called, and answered r
pub record DecideCall (n : ℕ) (ws area work : List ℕ) (r : Result Decided Refusal) (area' work' : List ℕ) : Type 1 where
  pub κs : Lfts 3
  pub args : ArgsD decide.signature κs
  pub exits : AtExit decide.ended κs
  pub lends : Lends κs args exits n ws area work area' work'
  pub told : decide_reads.Learnt κs args r exits

-- and so `next`
pub record NextCall (n : ℕ) (ws area work : List ℕ) (r : Result Moved Refusal) (area' work' : List ℕ) : Type 1 where
  pub κs : Lfts 3
  pub args : ArgsD next.signature κs
  pub exits : AtExit next.ended κs
  pub lends : Lends κs args exits n ws area work area' work'
  pub told : next_reads.Learnt κs args r exits

-- what is told of the arguments and exits is told of what they are
tells : {A : Type 0} (P : ℕ → List ℕ → List ℕ → List ℕ → A → List ℕ → List ℕ → Type 0) (r : A) (κs : Lfts 3) (args : ArgsD decide.signature κs)
    (exits : AtExit decide.ended κs) {n : ℕ} {ws area work area' work' : List ℕ} → Lends κs args exits n ws area work area' work' →
    P args.0 args.1.0.now args.1.1.0.now args.1.1.1.0.now r exits.1.1.0.now exits.1.1.1.0.now → P n ws area work r area' work'
tells P r κs args exits l p = rw (l.is_count, l.is_words, l.is_area, l.is_work, l.area_after, l.work_after) at p

-- each keeps its promise
pub decide_keeps : (n : ℕ) (ws area work : List ℕ) (r : Result Decided Refusal) (area' work' : List ℕ) → DecideCall n ws area work r area' work' → Decides n ws area work r area' work'
decide_keeps n ws area work r area' work' c = tells Decides r c.κs c.args c.exits c.lends c.told

pub next_keeps : (n : ℕ) (ws area work : List ℕ) (r : Result Moved Refusal) (area' work' : List ℕ) → NextCall n ws area work r area' work' → Moves n ws area work r area' work'
next_keeps n ws area work r area' work' c = tells Moves r c.κs c.args c.exits c.lends c.told

-- the rotas that `decide`, and then `next` until it ends, leave in the area
abbrev pub EngineRun : ℕ → List ℕ → List ℕ → List (List ℕ) → Type 1
EngineRun n ws = RunOf n (NextCall n ws) (DecideCall n ws)

-- what a run that has ended lists
pub engine_lists_every_rota : (n : ℕ) (ws r : List ℕ) (rs : List (List ℕ)) → EngineRun n ws r rs → EveryRota n ws (r ∷ rs)
engine_lists_every_rota n ws r rs c = calls_list_every_rota n ws (DecideCall n ws) (NextCall n ws) (decide_keeps n ws) (next_keeps n ws) r rs c

-- the calls are answered, go on, and end with the last rota
pub engine_goes_through_every_rota : (n : ℕ) (ws : List ℕ) → Acceptable n ws → Possible n ws → ListsEveryRota n ws (NextCall n ws) (DecideCall n ws)
engine_goes_through_every_rota n ws ok possible = calls_list_all n ws ok possible (NextCall n ws) (next_keeps n ws) (DecideCall n ws) (decide_keeps n ws)
