-- The laws that carry a visit of every rota: what holds whenever the visitor is about to be given a rota, from the start to each way out.
use mathlib.Core.Path.{◌≡◌, refl, sym, ap, ◌∙◌}
use mathlib.Core.List.{List, [], ◌∷◌, ◌++◌, append_assoc}
use Rattle.std.proofs.Common.{ℕ, ◌-◌, ◌^◌, ◌≤◌, ◌<◌, arith}
use Rattle.std.proofs.lemmas.Fn.{FoldsTo-push}
use Rattle.std.proofs.lemmas.List.{length-replicate}
use Rattle.std.specs.declared.ops.ControlFlow.{ControlFlow}
use Rattle.std.specs.declared.ops.ControlFlow.TheVariants.{Continue, Break}
use Rattle.std.specs.Prelude.{Ok, Err}
use lib.ListN.{length, take, drop, replicate, length-append}
use lib.Seq.{take_at, drop_at}
use Rattle.meaning.specs.declared.answers.Decided.{Decided}
use Rattle.meaning.specs.declared.answers.Moved.{Moved}
use Rattle.meaning.specs.declared.codes.Choice.{Choice}
use Rattle.meaning.specs.declared.refusal.Refusal.{Refusal}
use Rattle.meaning.specs.Promises.{Decides, Moves}
use Rattle.meaning.specs.Refusals.{Due, number_of, place_of, list_due}
use Rattle.meaning.specs.Rotas.{Allowed, Next}
use Rattle.meaning.specs.Runs.{Follow, EveryRota}
use Rattle.meaning.specs.Sizes.{rota_needs, work_needs, over, cleared}
use Rattle.meaning.proofs.Counting.{number, number_below, number_less}
use Rattle.meaning.proofs.EveryRotaListed.{rotas_exist, next_none_due, acceptable}
use Rattle.meaning.proofs.EveryRotaOnce.{decided_first, moved_next, in_order_every}
use Rattle.meaning.proofs.RefusalLaws.{accepted, not_refused}
use Rattle.meaning.proofs.Unique.{first_unique, next_unique}
use Rattle.meaning.specs.declared.answers.Visited.{Visited}
use Rattle.meaning.specs.Visits.{Given, Visits}

-- what is written over as much replaces it
over_over : (xs ys area : List ℕ) → length xs ≡ length ys → over xs (over ys area) ≡ over xs area
over_over xs ys area e = ap (λ (l : List ℕ). xs ++ l) (drop_at ys (drop (length ys) area) (length xs) (sym e) ∙ ap (λ (k : ℕ). drop k area) (sym e))

-- a work area that was cleared is cleared, and long enough
cleared_again : (n : ℕ) (ws work : List ℕ) → cleared n ws (cleared n ws work) ≡ cleared n ws work
cleared_again n ws work = over_over (replicate (work_needs n ws) 0) (replicate (work_needs n ws) 0) work refl

cleared_long : (n : ℕ) (ws work : List ℕ) → work_needs n ws ≤ length (cleared n ws work)
cleared_long n ws work = simp (length-append) (omega (arith, length-replicate {A = ℕ} (work_needs n ws) 0))

module _ {S B : Type 0} (n : ℕ) (ws : List ℕ) (sees : S → List ℕ → ControlFlow B (Unit {0}) → S → Type 0) (area work : List ℕ) (s : S) where
  -- the visitor, which stood at s, was given the first rotas and told to go on, and the next one stands in the area
  pub record Visiting (area' work' : List ℕ) (s' : S) : Type 0 where
    pub none : list_due n ws (length area) (rota_needs n) (length work) ≡ Due.none
    pub before : List (List ℕ)
    pub after : List (List ℕ)
    pub every : EveryRota n ws (before ++ take n area' ∷ after)
    pub allowed : Allowed n ws (take n area')
    pub follow : Follow n ws (take n area') after
    pub given : Given n ws sees s before s'
    pub front : area' ≡ over (take n area') area
    pub zeros : work' ≡ cleared n ws work

  -- Decide's rota is the first
  pub start : (area' work' : List ℕ) → Decides n ws area work (Ok Decided.Possible) area' work' → Visiting area' work' s
  start area' work' d =
      let none : list_due n ws (length area) (rota_needs n) (length work) ≡ Due.none = sym d.refuses in
      let first = decided_first d in
      let a = rotas_exist n ws (accepted n ws (length area) (rota_needs n) (length work) none).range (take n area', first.allowed) in
      let e : a.0 ≡ take n area' = first_unique n ws a.0 (take n area') a.2.0 first in
      record {
        none = none;
        before = [];
        after = a.1;
        every = rw e at (in_order_every n ws a.0 a.1 a.2);
        allowed = first.allowed;
        follow = rw e at a.2.1;
        given = refl;
        front = d.after.written ∙ ap (λ (xs : List ℕ). over xs area) (sym (ap (λ (l : List ℕ). take n l) d.after.written ∙ take_at d.after.items (drop (length d.after.items) area) n d.after.right.allowed.rota.long));
        zeros = d.after.zeros;
      }

  -- no rota: nothing was given
  pub impossible : (v : Choice) (area' work' : List ℕ) → Decides n ws area work (Ok (Decided.Impossible v)) area' work' → Visits n ws sees s s area work (Ok (Visited.Impossible v)) area' work'
  impossible v area' work' d =
      record {
        refuses = d.refuses;
        after = record { items = d.after.items; right = (d.after.right.0, d.after.right.1, refl); written = d.after.written; zeros = d.after.zeros };
      }

  module _ (area' work' : List ℕ) (s' : S) (v : Visiting area' work' s') where
    -- the visitor stops
    pub stopped : (s'' : S) (b : B) → sees s' (take n area') (Break b) s'' → Visits n ws sees s s'' area work (Ok (Visited.Stopped b)) area' work'
    stopped s'' b stops =
        record {
          refuses = sym v.none;
          after = record {
            items = take n area';
            right = record { before = v.before; after = v.after; every = v.every; here = s'; given = v.given; stops = stops };
            written = v.front;
            zeros = v.zeros;
          };
        }

    module _ (area'' work'' : List ℕ) where
      -- Next is not refused
      pub not_refuses : (e : Refusal) → Moves n ws area' work' (Err e) area'' work'' → ⊥
      not_refuses e m =
          not_refused (number_of e) (place_of e)
          (sym (next_none_due n ws (acceptable n ws (length area) (length work) v.none) area' (length work') (take n area') refl v.allowed.rota
          (rw v.zeros (cleared_long n ws work))) ∙ sym m.refuses)

      -- it leaves the next rota, which has a higher number
      pub shrinks : Moves n ws area' work' (Ok Moved.Moved) area'' work'' → 2 ^ n - number (take n area'') < 2 ^ n - number (take n area')
      shrinks m =
          let next = moved_next m in
          omega (arith, number_less n (take n area') (take n area'') v.allowed.rota next.allowed.rota next.after, number_below n (take n area'') next.allowed.rota)

      module _ (s'' : S) (goes : sees s' (take n area') (Continue tt) s'') where
        -- so the visit goes on
        pub turn : Moves n ws area' work' (Ok Moved.Moved) area'' work'' → Visiting area'' work'' s''
        turn m = go v.after v.every v.follow
          where
            next : Next n ws (take n area') (take n area'')
            next = moved_next m

            items : take n area'' ≡ m.after.items
            items = ap (λ (l : List ℕ). take n l) m.after.written ∙ take_at m.after.items (drop (length m.after.items) area') n m.after.right.allowed.rota.long

            front : area'' ≡ over (take n area'') area
            front =
                m.after.written ∙ ap (λ (l : List ℕ). over m.after.items l) v.front
                ∙ over_over m.after.items (take n area') area (m.after.right.allowed.rota.long ∙ sym v.allowed.rota.long)
                ∙ ap (λ (xs : List ℕ). over xs area) (sym items)

            go : (after : List (List ℕ)) → EveryRota n ws (v.before ++ take n area' ∷ after) → Follow n ws (take n area') after → Visiting area'' work'' s''
            go [] every f = absurd (f (take n area'') next.allowed next.after)
            go (t ∷ rs) every f =
                let e : t ≡ take n area'' = next_unique n ws (take n area') t (take n area'') f.0 next in
                record {
                  none = v.none;
                  before = v.before ++ take n area' ∷ [];
                  after = rs;
                  every = rw append_assoc (rw e at every);
                  allowed = next.allowed;
                  follow = rw e at f.1;
                  given = FoldsTo-push (λ p r q. sees p r (Continue tt) q) s v.before s' (take n area') s'' v.given goes;
                  front = front;
                  zeros = m.after.zeros ∙ ap (λ (l : List ℕ). cleared n ws l) v.zeros ∙ cleared_again n ws work;
                }

        -- or every rota was given
        pub done : (answer : Moved) → (answer ≡ Moved.Moved → ⊥) → Moves n ws area' work' (Ok answer) area'' work'' → Visits n ws sees s s'' area work (Ok Visited.All) area'' work''
        done Moved.Moved not m = absurd (not refl)
        done Moved.Impossible not m = absurd (m.after.right.0 (take n area') v.allowed)
        done Moved.Ended not m =
            record {
              refuses = sym v.none;
              after = record {
                items = take n area';
                right = record { before = v.before; every = go v.after v.every v.follow; given = FoldsTo-push (λ p r q. sees p r (Continue tt) q) s v.before s' (take n area') s'' v.given goes };
                written = m.after.written ∙ ap (λ (xs : List ℕ). over xs area') m.after.right.2 ∙ v.front;
                zeros = m.after.zeros ∙ ap (λ (l : List ℕ). cleared n ws l) v.zeros ∙ cleared_again n ws work;
              };
            }
          where
            go : (after : List (List ℕ)) → EveryRota n ws (v.before ++ take n area' ∷ after) → Follow n ws (take n area') after → EveryRota n ws (v.before ++ take n area' ∷ [])
            go [] every f = every
            go (t ∷ rs) every f = absurd (m.after.right.1 t f.0.allowed f.0.after)
