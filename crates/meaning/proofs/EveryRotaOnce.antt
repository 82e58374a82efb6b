-- Over the promises: a run that starts at Decide's rota and goes on by Next until Ended lists every allowed rota, each once,
-- in dictionary order, and no other.
use mathlib.Core.Path.{◌≡◌, sym, ◌∙◌}
use mathlib.Core.Logic.{◌⊎◌, inl, inr, ⊎_elim}
use mathlib.Core.List.{List, [], ◌∷◌}
use Prim.Native.Nat.{ℕ}
use lib.ListN.{length, take, drop}
use lib.Seq.{take_at}
use Rattle.std.specs.Prelude.{Result, Ok}
use Rattle.meaning.specs.declared.answers.Decided.{Decided}
use Rattle.meaning.specs.declared.answers.Moved.{Moved}
use Rattle.meaning.specs.declared.refusal.Refusal.{Refusal}
use Rattle.meaning.specs.Order.{Before}
use Rattle.meaning.specs.Promises.{Decides, Moves}
use Rattle.meaning.specs.Rotas.{Allowed, First, Next, Ended}
use Rattle.meaning.specs.Runs.{Follow, InOrder, GoesOn, RunOf, Run, OneOf, Ascending, EveryRota}
use Rattle.meaning.proofs.OrderLaws.{before_trans, ordered}

-- what Decide and Next leave at the front of the rota's area is the rota that they say
pub decided_first : {n : ℕ} {ws area work area' work' : List ℕ} → Decides n ws area work (Ok Decided.Possible) area' work' → First n ws (take n area')
decided_first {n} {ws} {area} {work} {area'} {work'} p =
    let a = p.after in
    rw (a.written, take_at a.items (drop (length a.items) area) n a.right.allowed.rota.long) a.right

-- Next: the next one
pub moved_next : {n : ℕ} {ws area work area' work' : List ℕ} → Moves n ws area work (Ok Moved.Moved) area' work' → Next n ws (take n area) (take n area')
moved_next {n} {ws} {area} {work} {area'} {work'} p =
    let a = p.after in
    rw (a.written, take_at a.items (drop (length a.items) area) n a.right.allowed.rota.long) a.right

-- Ended: none comes after
pub ended_ended : {n : ℕ} {ws area work area' work' : List ℕ} → Moves n ws area work (Ok Moved.Ended) area' work' → Ended n ws (take n area)
ended_ended p = p.after.right.1

-- the rotas of a run are in order
goes_on : (n : ℕ) (ws area : List ℕ) (rs : List (List ℕ)) → GoesOn n (Moves n ws) area rs → Follow n ws (take n area) rs
goes_on n ws area [] g = ended_ended g.3
goes_on n ws area (r ∷ rs) g =
    (rw g.4 at (moved_next g.3), rw g.4 at (goes_on n ws g.1 rs g.5))

-- and the first of them is Decide's
pub run_in_order : (n : ℕ) (ws r : List ℕ) (rs : List (List ℕ)) → Run n ws r rs → InOrder n ws (r ∷ rs)
run_in_order n ws r rs p = (rw p.first at (decided_first p.decided), rw p.first at (goes_on n ws p.area' rs p.goes_on))

-- rotas that follow one another are allowed, come after the one before, and leave none out
module _ (n : ℕ) (ws : List ℕ) where
  -- they are allowed
  follow_allowed : (r : List ℕ) (rs : List (List ℕ)) → Follow n ws r rs → (s : List ℕ) → OneOf s rs → Allowed n ws s
  follow_allowed r [] f s m = absurd m
  follow_allowed r (t ∷ rs) f s (inl e) = rw e f.0.allowed
  follow_allowed r (t ∷ rs) f s (inr m) = follow_allowed t rs f.1 s m

  -- they come after the one before
  follow_after : (r : List ℕ) (rs : List (List ℕ)) → Follow n ws r rs → (s : List ℕ) → OneOf s rs → Before r s
  follow_after r [] f s m = absurd m
  follow_after r (t ∷ rs) f s (inl e) = rw e f.0.after
  follow_after r (t ∷ rs) f s (inr m) = before_trans r t s f.0.after (follow_after t rs f.1 s m)

  -- they go up
  follow_ascending : (r : List ℕ) (rs : List (List ℕ)) → Follow n ws r rs → Ascending rs
  follow_ascending r [] f = tt
  follow_ascending r (t ∷ rs) f = (follow_after t rs f.1, follow_ascending t rs f.1)

  -- of two allowed rotas, of which the second does not come before the first, they are equal or the second comes after
  from_on : (t s : List ℕ) → Allowed n ws t → Allowed n ws s → (Before s t → ⊥) → (s ≡ t) ⊎ Before t s
  from_on t s p q out = ⊎_elim (λ e. inl (sym e)) (⊎_elim (λ b. inr b) (λ b. absurd (out b))) (ordered t s (p.rota.long ∙ sym q.rota.long))

  -- no allowed rota past the first is left out
  follow_all : (r : List ℕ) (rs : List (List ℕ)) → Follow n ws r rs → (s : List ℕ) → Allowed n ws s → Before r s → OneOf s rs
  follow_all r [] f s ok b = f s ok b
  follow_all r (t ∷ rs) f s ok b =
      ⊎_elim (λ e. inl e) (λ c. inr (follow_all t rs f.1 s ok c)) (from_on t s f.0.allowed ok (f.0.least s ok b))

  -- so rotas in order are every allowed rota, each once
  pub in_order_every : (r : List ℕ) (rs : List (List ℕ)) → InOrder n ws (r ∷ rs) → EveryRota n ws (r ∷ rs)
  in_order_every r rs p =
      record {
        all = λ s ok. ⊎_elim (λ e. inl e) (λ b. inr (follow_all r rs p.1 s ok b)) (from_on r s p.0.allowed ok (p.0.least s ok));
        no_other = λ s m. ⊎_elim (λ e. rw e p.0.allowed) (λ k. follow_allowed r rs p.1 s k) m;
        ascending = (follow_after r rs p.1, follow_ascending r rs p.1);
      }

-- every rota, once
pub every_rota_once : (n : ℕ) (ws r : List ℕ) (rs : List (List ℕ)) → Run n ws r rs → EveryRota n ws (r ∷ rs)
every_rota_once n ws r rs p = in_order_every n ws r rs (run_in_order n ws r rs p)

-- Whatever is known of the calls of a run, if it tells their promises.
module _ {ℓ} (n : ℕ) (ws : List ℕ) (decide : List ℕ → List ℕ → Result Decided Refusal → List ℕ → List ℕ → Type ℓ) (next : List ℕ → List ℕ → Result Moved Refusal → List ℕ → List ℕ → Type ℓ)
    (decide_keeps : (area work : List ℕ) (a : Result Decided Refusal) (area' work' : List ℕ) → decide area work a area' work' → Decides n ws area work a area' work')
    (next_keeps : (area work : List ℕ) (a : Result Moved Refusal) (area' work' : List ℕ) → next area work a area' work' → Moves n ws area work a area' work') where
  calls_go_on : (area : List ℕ) (rs : List (List ℕ)) → GoesOn n next area rs → GoesOn n (Moves n ws) area rs
  calls_go_on area [] c = (c.0, c.1, c.2, next_keeps _ _ _ _ _ c.3)
  calls_go_on area (r ∷ rs) c = (c.0, c.1, c.2, next_keeps _ _ _ _ _ c.3, c.4, calls_go_on c.1 rs c.5)

  pub calls_list_every_rota : (r : List ℕ) (rs : List (List ℕ)) → RunOf n next decide r rs → EveryRota n ws (r ∷ rs)
  calls_list_every_rota r rs c =
      every_rota_once n ws r rs
      (record {
        area = c.area;
        work = c.work;
        area' = c.area';
        work' = c.work';
        decided = decide_keeps _ _ _ _ _ c.decided;
        first = c.first;
        goes_on = calls_go_on c.area' rs c.goes_on;
      })
