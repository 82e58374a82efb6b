-- The turns of `turn`, over the work area: a code more, a component less or two, a code less.
use Prim.Native.Nat.{ℕ, ◌+◌, ◌-◌, ◌*◌, ◌≤◌, ◌<◌}
use mathlib.Core.Path.{◌≡◌, refl, sym, ap, ◌∙◌, subst}
use mathlib.Core.Logic.{◌⊎◌, ⊎_elim, ◌≢◌}
use mathlib.Core.List.{List}
use native.Mathlib.Omega.{arith}
use lib.ListN.{length, get_or}
use Rattle.components.specs.Leads.{Lead, Side}
use Rattle.components.specs.Walk.{Ranked, PartClosed, Least, cursor, Accounted, Dfs, WalkState, Old, Scanned, Stacked, Beyond, Settled, opposites, Lifted, TurnMade, Turns, Walking, Alike, moved, noted}
use Rattle.meaning.specs.Chains.{Step, Reach, Tied}
use Rattle.meaning.specs.Codes.{opposite}
use Rattle.meaning.specs.Rules.{other_end}
use Rattle.moves.specs.Layout.{mark, trail, spare, next, Tables, Sizes}
use Rattle.moves.specs.Lists.{Cursor}
use Rattle.components.proofs.Settling.{alive, exact, round, collected, lives, mirrored}
use Rattle.components.proofs.Storing.{beyond_refl, beyond_mark, Noted, noted_at, Pushed}
use Rattle.components.proofs.Walking.{alike, fits, deep, lowered, advanced, pushed, dropped}
use Rattle.components.proofs.Ways.{join, once, turned_from, turned_to, words_of, step_lt}
use Rattle.meaning.proofs.ChainLaws.{reach_flip}
use Rattle.meaning.proofs.CodeLaws.{opposite_opposite, opposite_below}
use Rattle.meaning.proofs.General.{same?, below_or_from}
use Rattle.moves.proofs.Counts.{count_le, count_lt, count_more, count_mono}
use Rattle.moves.proofs.Places.{tables, mark_stored, mark_elsewhere}

-- the end of a path of k places, and the code that stands there
abbrev pub last_place : ℕ → List ℕ → ℕ → ℕ
last_place n W k = spare n W (k - 1)

-- and its code
abbrev pub last_code : ℕ → List ℕ → ℕ → ℕ
last_code n W k = trail n W (last_place n W k)

-- what `turn` reads there
pub record Last (n : ℕ) (W : List ℕ) (t k : ℕ) : Type 0 where
  pub place : last_place n W k < t
  pub few : t ≤ 2 * n
  pub path : k ≤ t
  pub code : last_code n W k < 2 * n
  pub met : 0 < mark n W (last_code n W k)
  pub own : mark n W (last_code n W k) ≤ last_place n W k + 1

module _ {n : ℕ} {ws W : List ℕ} {t k : ℕ} (sz : Sizes n ws W) (pk : 0 < k) (h : WalkState n ws W t k) where
  -- the path has a last place
  last_on_path : k - 1 < k
  last_on_path = omega arith

  -- and the state says this of it
  pub last_of : Last n W t k
  last_of =
      let l : last_place n W k < t = (h.climb (k - 1) last_on_path).1 in
      let s = h.stacked (last_place n W k) l in
      record { place = l; few = fits h; path = deep h; code = s.0; met = s.1; own = s.2 }

  -- its cursor is in its list
  pub last_cursor : Cursor ws (last_code n W k) (cursor n W (last_code n W k))
  last_cursor = record { at = h.cur (last_place n W k) last_of.place }

  -- after `scan`
  module _ {e low hit : ℕ} (f : Scanned n ws W (last_code n W k) e low hit) where
    -- the lowest rank met is at most the place of the code itself
    low_le : low ≤ last_place n W k + 1
    low_le = omega (arith, f.less, last_of.own)

    -- the rank found is that of a place which the code at the end of the path reaches
    reaches : Reach ws (last_code n W k) (trail n W (low - 1))
    reaches =
        ⊎_elim
        (λ (q : low ≡ mark n W (last_code n W k)). rw q (h.low (last_place n W k) last_of.place))
        (λ (w : (z : ℕ) × ((i : ℕ) × Step ws (last_code n W k) i z) × (mark n W z ≡ low)).
        ⊎_elim
        (λ (g : 2 * n < mark n W w.0). absurd (omega (arith, g, w.2, low_le, last_of.place, last_of.few)))
        (λ (g : (p : ℕ) × (p < t) × (trail n W p ≡ w.0)).
        join (once w.1.1) (subst (λ (x : ℕ). Reach ws x (trail n W (low - 1))) g.2
        (subst (λ (x : ℕ). Reach ws (trail n W g.0) (trail n W (x - 1))) (ap (mark n W) g.2 ∙ w.2) (h.low g.0 g.1))))
        (h.placed w.0 (step_lt (words_of sz) w.1.1) (omega (arith, w.2, f.pos))))
        f.why

    -- what `note` requires
    pub low_lt : low < 65536
    low_lt = omega (arith, low_le, last_of.place, last_of.few, sz.few)

    -- and the cursor fits a word
    pub cursor_lt : e < 65536
    cursor_lt =
        ⊎_elim (λ (z : e ≡ 0). omega arith) (λ (z : e ≢ 0). omega (arith, (f.cur.at (omega arith)).0, sz.short, sz.even)) (same? e 0)

    -- a code that was not met has room on the stack and on the path
    pub hit_lt : 0 < hit → (hit - 1 < 2 * n) × (t < 2 * n) × (k < 2 * n)
    hit_lt p =
        let g = f.new p in
        let r : t < 2 * n = room_for g in
        (g.0, r, omega (arith, deep h))
      where
        room_for : (hit - 1 < 2 * n) × (mark n W (hit - 1) ≡ 0) × ((i : ℕ) × Step ws (last_code n W k) i (hit - 1)) → t < 2 * n
        room_for g = omega (arith, h.count, count_lt (mark n W) (2 * n) (hit - 1) g.0 g.1)

  -- an end leads to a code
  target : (i : ℕ) → i < length ws → get_or ws (other_end i) 0 < 2 * n
  target i l = (words_of sz).inside i l

  -- after `note`
  module _ {e low hit : ℕ} {W₁ : List ℕ} (f : Scanned n ws W (last_code n W k) e low hit) (nt : Noted n (last_code n W k) e low W W₁) where
    -- what was met stays met
    noted_met : (x : ℕ) → x < 2 * n → 0 < mark n W x → 0 < mark n W₁ x
    noted_met x l p =
        ⊎_elim
        (λ (q : x ≡ last_code n W k). rw (q, nt.rank) f.pos)
        (λ (q : x ≢ last_code n W k). omega (arith, nt.ranks x l q))
        (same? x (last_code n W k))

    -- the rank is noted
    noted_walk : Dfs (2 * n) ws (mark n W₁) (trail n W) (spare n W) (cursor n W) t k
    noted_walk =
        lowered h (k - 1) last_on_path (mark n W₁) (omega (arith, nt.rank, f.less)) (omega (arith, nt.rank, f.pos)) nt.ranks
        (rw nt.rank (reaches f)) (words_of sz)

    -- a step to a code that was met
    noted_past : (z : ℕ) → z < 2 * n → Ranked n W low z → Accounted (mark n W₁) (trail n W) t (last_place n W k) z
    noted_past z l m =
        record {
          has = noted_met z l m.0;
          low = λ q u v. rw nt.rank (omega (arith, m.1, ap (mark n W) v, (h.stacked q u).2));
        }

    -- nothing new was met
    noted_state : hit ≡ 0 → WalkState n ws W₁ t k
    noted_state q0 =
        alike (trail n W₁) (spare n W₁) (cursor n W₁) (λ p l. nt.trails p) (λ j l. nt.spares j) (λ x l. refl) (fits h)
        (advanced noted_walk (k - 1) last_on_path (cursor n W₁) nt.curs (rw nt.cur f.cur.at)
        (λ i l q u. ⊎_elim
        (λ (w : Old n W (last_code n W k) i). noted_walk.seen (last_place n W k) i last_of.place l q w)
        (λ w. ⊎_elim
        (λ (v : Ranked n W low (get_or ws (other_end i) 0)). noted_past (get_or ws (other_end i) 0) (target i l) v)
        (λ (v : get_or ws (other_end i) 0 + 1 ≡ hit). absurd (omega (arith, v)))
        w)
        (f.seen i l q (rw nt.cur at u))))

    -- the end of the path stays
    same_place : last_place n W₁ k ≡ last_place n W k
    same_place = nt.spares (k - 1)

    -- and the code there
    same_code : last_code n W₁ k ≡ last_code n W k
    same_code = rw same_place (nt.trails (last_place n W k))

    -- what is past the tables stays, also after the next move
    side : {W₂ : List ℕ} → length W₂ ≡ length W₁ → ((e : ℕ) → next n W₂ e ≡ next n W₁ e) → Side n W W₂
    side lg hi = record { long = lg ∙ nt.long; nexts = λ e. hi e ∙ nt.nexts e }

    -- what `push` and `settle` and `lower` require
    pub noted_stacked : Stacked n W₁ t
    noted_stacked = record { few = fits h; codes = λ p l. rw (nt.trails p) (h.stacked p l).0 }

    -- the code at the end of the path is not the first there
    pub not_first : hit ≡ 0 → low ≢ last_place n W k + 1 → 2 ≤ k
    not_first q0 nr =
        ⊎_elim
        (λ (u : k ≡ 1).
        let v : last_place n W k ≡ 0 = ap (spare n W) {x = k - 1} {y = 0} (omega arith) ∙ h.floor.1 pk in
        absurd (nr (omega (arith, low_le f, f.pos))))
        (λ (u : k ≢ 1). omega arith)
        (same? k 1)

    -- so one stands before it
    pub before_last : 2 ≤ k → (spare n W₁ (k - 2) < t) × (trail n W₁ (spare n W₁ (k - 2)) < 2 * n)
    before_last u =
        let e : spare n W₁ (k - 2) ≡ spare n W (k - 2) = nt.spares (k - 2) in
        let l : spare n W₁ (k - 2) < t = rw e (h.climb (k - 2) (omega arith)).1 in
        (l, noted_stacked.codes (spare n W₁ (k - 2)) l)

    -- ---- a code more
    module _ {W₂ : List ℕ} (ph : 0 < hit) (pu : Pushed n (hit - 1) t k W₁ W₂) where
      -- the stack and the path stay as far as they went
      pushed_place : last_place n W₂ k ≡ last_place n W k
      pushed_place = pu.spares (k - 1) last_on_path ∙ same_place

      pushed_stack : (p : ℕ) → p < t → trail n W₂ p ≡ trail n W p
      pushed_stack p l = pu.trails p l ∙ nt.trails p

      pushed_code : last_code n W₂ k ≡ last_code n W k
      pushed_code = rw pushed_place (pushed_stack (last_place n W k) last_of.place)

      -- the code at the end of the path is not the new one
      not_new : last_code n W k ≢ hit - 1
      not_new q = omega (arith, ap (mark n W) q, (f.new ph).1, last_of.met)

      -- which was not met
      new_unmet : mark n W₁ (hit - 1) ≡ 0
      new_unmet = nt.ranks (hit - 1) (f.new ph).0 (λ q. not_new (sym q)) ∙ (f.new ph).1

      -- and which all codes on the stack reach
      all_reach : (p : ℕ) → p < t → Reach ws (trail n W₂ p) (hit - 1)
      all_reach p l =
          rw (pushed_stack p l) (join
          (⊎_elim
          (λ (u : p < last_place n W k). h.up p (last_place n W k) (omega arith) last_of.place)
          (λ (u : last_place n W k ≤ p). h.back (k - 1) p (record { on = last_on_path; from = u; within = l; under = λ v. absurd (omega arith) }))
          (below_or_from p (last_place n W k)))
          (once (f.new ph).2.1))

      -- the walk with the new code, before the cursor goes on
      pushed_walk : Dfs (2 * n) ws (mark n W₂) (trail n W₂) (spare n W₂) (cursor n W) (t + 1) (k + 1)
      pushed_walk =
          pushed
          (alike (trail n W₂) (spare n W₂) (cursor n W) pushed_stack (λ j l. pu.spares j l ∙ nt.spares j) (λ x l. refl) (fits h) noted_walk)
          (hit - 1) (mark n W₂) (f.new ph).0 new_unmet pu.top pu.end pu.rank pu.ranks all_reach (words_of sz)

      -- the cursors are those that were noted
      pushed_cursors : (x : ℕ) → x < 2 * n → cursor n W₂ x ≡ cursor n W₁ x
      pushed_cursors x l = pu.heads (opposite x) (opposite_below n x l)

      pushed_cursor : cursor n W₂ (last_code n W k) ≡ e
      pushed_cursor = pushed_cursors (last_code n W k) last_of.code ∙ nt.cur

      -- and so is the rank
      pushed_rank : mark n W₂ (last_code n W k) ≡ low
      pushed_rank = pu.ranks (last_code n W k) last_of.code not_new ∙ nt.rank

      -- what was met stays met
      pushed_met : (x : ℕ) → x < 2 * n → 0 < mark n W x → 0 < mark n W₂ x
      pushed_met x l p =
          ⊎_elim
          (λ (q : x ≡ hit - 1). rw (q, pu.rank) (omega arith))
          (λ (q : x ≢ hit - 1). omega (arith, pu.ranks x l q, noted_met x l p))
          (same? x (hit - 1))

      -- a step is taken into account where its code is met and lies no lower than the rank
      pushed_past : (z : ℕ) → 0 < mark n W₂ z → ((q : ℕ) → q < t → trail n W q ≡ z → low ≤ q + 1) → Accounted (mark n W₂) (trail n W₂) (t + 1) (last_place n W₂ k) z
      pushed_past z p g =
          record {
            has = p;
            low = λ q u v. rw (pushed_code, pushed_rank) (⊎_elim
                (λ (w : q ≡ t). omega (arith, low_le f, last_of.place))
                (λ (w : q ≢ t). g q (omega arith) (sym (pushed_stack q (omega arith)) ∙ v))
                (same? q t));
          }

      -- the walk with the cursor moved on
      pushed_state : WalkState n ws W₂ (t + 1) (k + 1)
      pushed_state =
          advanced pushed_walk (k - 1) (omega arith) (cursor n W₂)
          (λ x l d. pushed_cursors x l ∙ nt.curs x l (λ q. d (q ∙ sym pushed_code)))
          (rw (pushed_code, pushed_cursor) f.cur.at)
          (λ i l q u. ⊎_elim
          (λ (w : Old n W (last_code n W k) i). pushed_walk.seen (last_place n W₂ k) i (omega (arith, pushed_place, last_of.place)) l q (rw pushed_code w))
          (λ (w : Ranked n W low (get_or ws (other_end i) 0) ⊎ (get_or ws (other_end i) 0 + 1 ≡ hit)). ⊎_elim
          (λ (v : Ranked n W low (get_or ws (other_end i) 0)).
          pushed_past (get_or ws (other_end i) 0) (pushed_met (get_or ws (other_end i) 0) (target i l) v.0) (λ q' a b. omega (arith, v.1, ap (mark n W) b, (h.stacked q' a).2)))
          (λ (v : get_or ws (other_end i) 0 + 1 ≡ hit).
          let y : get_or ws (other_end i) 0 ≡ hit - 1 = omega arith in
          pushed_past (get_or ws (other_end i) 0) (rw (y, pu.rank) (omega arith)) (λ q' a b. absurd (omega (arith, ap (mark n W) (b ∙ y), (f.new ph).1, (h.stacked q' a).1))))
          w)
          (f.seen i l (q ∙ ap opposite pushed_code) (rw (pushed_code, pushed_cursor) at u)))

      -- the turn that goes down
      pub turn_push : TurnMade n ws W t k W₂ (t + 1) (k + 1)
      turn_push =
          record {
            state = pushed_state;
            side = side pu.long pu.nexts;
            met = pushed_met;
            less =
                omega (
                  arith,
                  count_mono (mark n W) (mark n W₁) (2 * n) noted_met,
                  count_more (mark n W₁) (mark n W₂) (2 * n) (hit - 1) (f.new ph).0 new_unmet (omega (arith, pu.rank)) pu.ranks,
                  count_le (mark n W₂) (2 * n),
                );
          }

    -- ---- a component less, or two
    module _ {W₅ : List ℕ} (q0 : hit ≡ 0) (root : low ≡ last_place n W k + 1) (cl : PartClosed n (last_place n W k) t W₁ W₅) where
      -- the state before, with a last place
      closing_state : WalkState n ws W₁ t (k - 1 + 1)
      closing_state = subst (λ (x : ℕ). WalkState n ws W₁ t x) {x = k} {y = k - 1 + 1} (omega arith) (noted_state q0)

      -- what `close` found and stored, said of the noted area
      closing_least : Least (trail n W₁) (last_place n W₁ k) t cl.small
      closing_least = rw same_place cl.least

      closing_settled : Settled n (trail n W₁) (last_place n W₁ k) t (2 * n + 1 + cl.small) W₁ cl.mid
      closing_settled = rw same_place cl.settled

      -- the list of the last code is done, and its rank is its own place
      closing_done : cursor n W₁ (last_code n W₁ k) ≡ 0
      closing_done = rw same_code (nt.cur ∙ f.end q0)

      closing_root : mark n W₁ (last_code n W₁ k) ≡ last_place n W₁ k + 1
      closing_root = rw (same_code, same_place) (nt.rank ∙ root)

      -- the codes at the top are settled
      closed_walk : Dfs (2 * n) ws (mark n cl.mid) (trail n W₁) (spare n W₁) (cursor n W₁) (last_place n W₁ k) (k - 1)
      closed_walk = collected closing_state (words_of sz) closing_done closing_root (mark n cl.mid) cl.small closing_least.at closing_least.less closing_settled.new closing_settled.old

      -- the stack that is left has room
      place_fits : last_place n W₁ k ≤ 2 * n
      place_fits = omega (arith, same_place, last_of.place, last_of.few)

      -- the state after the first store
      closed_state : WalkState n ws cl.mid (last_place n W₁ k) (k - 1)
      closed_state =
          alike (trail n cl.mid) (spare n cl.mid) (cursor n cl.mid) (λ p u. closing_settled.beyond.trails p) (λ j u. closing_settled.beyond.spares j)
          (λ x u. closing_settled.beyond.heads (opposite x) (opposite_below n x u)) place_fits closed_walk

      -- what was met stays met
      closed_met : (x : ℕ) → x < 2 * n → 0 < mark n W x → 0 < mark n cl.mid x
      closed_met x u p = alive closing_state (words_of sz) closing_done closing_root (mark n cl.mid) cl.small closing_least.at closing_least.less closing_settled.new closing_settled.old x u (noted_met x u p)

      -- the opposites are not a component less
      close_one : cl.mirrored ≡ 0 → TurnMade n ws W t k W₅ (last_place n W k) (k - 1)
      close_one z =
          rw (cl.keeps z) (record {
            state = subst (λ (x : ℕ). WalkState n ws cl.mid x (k - 1)) same_place closed_state;
            side = side closing_settled.beyond.long closing_settled.beyond.nexts;
            met = closed_met;
            less = omega (arith, count_mono (mark n W) (mark n cl.mid) (2 * n) closed_met);
          })

      -- they are
      module _ (z : 0 < cl.mirrored) where
        -- what `lone` found and `settle` stored, said of the noted area
        mirror_settled : Settled n (opposites n cl.mid) (last_place n W₁ k) t (2 * n + cl.mirrored) cl.mid W₅
        mirror_settled = rw same_place (cl.mirrors z)

        mirror_least : Least (opposites n cl.mid) (last_place n W₁ k) t (cl.mirrored - 1)
        mirror_least = rw same_place (cl.lone.least z)

        mirror_unmet : (p : ℕ) → last_place n W₁ k ≤ p → p < t → mark n cl.mid (opposites n cl.mid p) ≡ 0
        mirror_unmet p a b = cl.lone.unmet z p (omega (arith, same_place)) b

        -- the stack stays
        mid_stack : (p : ℕ) → trail n cl.mid p ≡ trail n W₁ p
        mid_stack p = closing_settled.beyond.trails p

        -- places at the top reach each other, and nothing else does both
        mirror_round : (p q : ℕ) → last_place n W₁ k ≤ p → p < t → last_place n W₁ k ≤ q → q < t → Reach ws (opposites n cl.mid p) (opposites n cl.mid q)
        mirror_round p q a b a' b' =
            rw (mid_stack p, mid_stack q) (reach_flip ws (trail n W₁ q) (trail n W₁ p)
            (round closing_state (words_of sz) closing_done closing_root (mark n cl.mid) cl.small closing_least.at closing_least.less closing_settled.new closing_settled.old q p a' b' a b))

        -- and what is tied to one of them is one of them
        mirror_exact : (p : ℕ) → last_place n W₁ k ≤ p → p < t → (y : ℕ) → Tied ws (opposites n cl.mid p) y
            → (q : ℕ) × (last_place n W₁ k ≤ q) × (q < t) × (opposites n cl.mid q ≡ y)
        mirror_exact p a b y u =
            let w = exact closing_state (words_of sz) closing_done closing_root (mark n cl.mid) cl.small closing_least.at closing_least.less closing_settled.new closing_settled.old p a b (opposite y)
            (turned_to (rw (mid_stack p) at u.1), turned_from (rw (mid_stack p) at u.0)) in
            (w.0, w.1, w.2, ap opposite (mid_stack w.0 ∙ w.3) ∙ opposite_opposite y)

        -- so the smallest of them is the lead of each
        mirror_leads : (p : ℕ) → last_place n W₁ k ≤ p → p < t → Lead ws (opposites n cl.mid p) (cl.mirrored - 1)
        mirror_leads p a b =
            let l = mirror_least.at in
            record {
              tied = subst (λ (x : ℕ). Tied ws (opposites n cl.mid p) x) l.3 (mirror_round p l.0 a b l.1 l.2, mirror_round l.0 p l.1 l.2 a b);
              smallest = λ y u.
                  let w = mirror_exact p a b y u in
                  omega (arith, mirror_least.less w.0 w.1 w.2, w.3);
            }

        -- which their ranks tell
        mirror_ranks : (p : ℕ) → last_place n W₁ k ≤ p → p < t → mark n W₅ (opposites n cl.mid p) ≡ 2 * n + 1 + (cl.mirrored - 1)
        mirror_ranks p a b = omega (arith, mirror_settled.new p a b)

        -- the opposites are settled
        mirror_walk : Dfs (2 * n) ws (mark n W₅) (trail n cl.mid) (spare n cl.mid) (cursor n cl.mid) (last_place n W₁ k) (k - 1)
        mirror_walk = mirrored closed_state (words_of sz) (mark n W₅) (opposites n cl.mid) (last_place n W₁ k) t (cl.mirrored - 1) mirror_unmet mirror_ranks mirror_settled.old mirror_leads mirror_exact

        -- what was met stays met
        mirror_met : (x : ℕ) → x < 2 * n → 0 < mark n W x → 0 < mark n W₅ x
        mirror_met x u p = lives closed_state (words_of sz) (mark n W₅) (opposites n cl.mid) (last_place n W₁ k) t (cl.mirrored - 1) mirror_unmet mirror_ranks mirror_settled.old mirror_leads mirror_exact x u (closed_met x u p)

        -- the state after the second store
        mirror_state : WalkState n ws W₅ (last_place n W₁ k) (k - 1)
        mirror_state =
            alike (trail n W₅) (spare n W₅) (cursor n W₅) (λ p u. mirror_settled.beyond.trails p) (λ j u. mirror_settled.beyond.spares j)
            (λ x u. mirror_settled.beyond.heads (opposite x) (opposite_below n x u)) place_fits mirror_walk

        -- a component and its mirror image less
        close_two : TurnMade n ws W t k W₅ (last_place n W k) (k - 1)
        close_two =
            record {
              state = subst (λ (x : ℕ). WalkState n ws W₅ x (k - 1)) same_place mirror_state;
              side = side (mirror_settled.beyond.long ∙ closing_settled.beyond.long) (λ e. mirror_settled.beyond.nexts e ∙ closing_settled.beyond.nexts e);
              met = mirror_met;
              less = omega (arith, count_mono (mark n W) (mark n W₅) (2 * n) mirror_met);
            }

      -- the turn that closes: one component less, or two
      pub turn_close : TurnMade n ws W t k W₅ (last_place n W k) (k - 1)
      turn_close =
          ⊎_elim (λ (z : cl.mirrored ≡ 0). close_one z) (λ (z : cl.mirrored ≢ 0). close_two (omega arith)) (same? cl.mirrored 0)

    -- ---- a code less
    module _ {W₄ : List ℕ} {b : ℕ} (q0 : hit ≡ 0) (nr : low ≢ last_place n W k + 1)
        (qb : b ≡ trail n W₁ (spare n W₁ (k - 2))) (lf : Lifted n b low W₁ W₄) where
      -- the path has one place less
      one_less : k - 2 + 1 ≡ k - 1
      one_less = omega (arith, not_first q0 nr)

      -- the state before, with two last places
      dropping_state : WalkState n ws W₁ t (k - 2 + 2)
      dropping_state = subst (λ (x : ℕ). WalkState n ws W₁ t x) {x = k} {y = k - 2 + 2} (omega (arith, not_first q0 nr)) (noted_state q0)

      -- the code before the last one is a code
      before_fits : (spare n W₁ (k - 2) < t) × (trail n W₁ (spare n W₁ (k - 2)) < 2 * n)
      before_fits = before_last (not_first q0 nr)

      -- the two codes at the end of the path differ
      codes_differ : last_code n W₁ k ≢ b
      codes_differ q =
          let g : last_place n W₁ k ≡ spare n W₁ (k - 2) = (noted_state q0).one (last_place n W₁ k) (spare n W₁ (k - 2)) (omega (arith, same_place, last_of.place)) before_fits.0 (q ∙ qb) in
          omega (arith, g, (noted_state q0).rise (k - 2) (k - 1) (omega (arith, not_first q0 nr)) last_on_path)

      -- from a state in which the rank of the code before is low enough
      drop_from : WalkState n ws W₄ t (k - 2 + 2) → Beyond n W₁ W₄ → cursor n W₄ (last_code n W₁ k) ≡ 0
          → mark n W₄ (last_code n W₁ k) ≡ low → mark n W₄ (trail n W₁ (spare n W₁ (k - 2))) ≤ low → WalkState n ws W₄ t (k - 1)
      drop_from g hi c0 r0 r1 =
          let e1 : spare n W₄ (k - 2 + 1) ≡ last_place n W₁ k = rw one_less (hi.spares (k - 1)) in
          let e2 : trail n W₄ (spare n W₄ (k - 2 + 1)) ≡ last_code n W₁ k = rw e1 (hi.trails (last_place n W₁ k)) in
          let e3 : spare n W₄ (k - 2) ≡ spare n W₁ (k - 2) = hi.spares (k - 2) in
          let e4 : trail n W₄ (spare n W₄ (k - 2)) ≡ trail n W₁ (spare n W₁ (k - 2)) = rw e3 (hi.trails (spare n W₁ (k - 2))) in
          subst (λ (x : ℕ). WalkState n ws W₄ t x) one_less
          (dropped g (rw e2 c0) (omega (arith, e1, same_place, ap (mark n W₄) e2, r0, low_le f, nr)) (omega (arith, ap (mark n W₄) e2, ap (mark n W₄) e4, r0, r1)))

      -- the list of the last code is done, and its rank is the lowest met
      last_done : cursor n W₁ (last_code n W₁ k) ≡ 0
      last_done = rw same_code (nt.cur ∙ f.end q0)

      last_rank : mark n W₁ (last_code n W₁ k) ≡ low
      last_rank = rw same_code nt.rank

      -- the rank of the code before stays
      turn_same : mark n W₁ b ≤ low → TurnMade n ws W t k W₄ t (k - 1)
      turn_same u =
          let w = lf.old u in
          rw w (record {
            state = subst (λ (X : List ℕ). WalkState n ws X t (k - 1)) w
                (drop_from (subst (λ (X : List ℕ). WalkState n ws X t (k - 2 + 2)) (sym w) dropping_state) (rw w (beyond_refl n W₁))
                (ap (λ (X : List ℕ). cursor n X (last_code n W₁ k)) w ∙ last_done)
                (ap (λ (X : List ℕ). mark n X (last_code n W₁ k)) w ∙ last_rank)
                (omega (arith, ap (λ (X : List ℕ). mark n X (trail n W₁ (spare n W₁ (k - 2)))) w, ap (mark n W₁) qb)));
            side = side refl (λ e. refl);
            met = noted_met;
            less = omega (arith, count_mono (mark n W) (mark n W₁) (2 * n) noted_met);
          })

      -- the rank of the code before falls
      module _ (u : low < mark n W₁ b) where
        -- the code before is a code, and the tables fit
        before_code : b < 2 * n
        before_code = omega (arith, qb, before_fits.1)

        room : Tables n W₁
        room = omega (arith, nt.long, sz.room)

        -- only its mark differs
        fell : Beyond n W₁ W₄
        fell = rw (lf.new u) (beyond_mark n W₁ b low before_code)

        other_ranks : (x : ℕ) → x ≢ b → mark n W₄ x ≡ mark n W₁ x
        other_ranks x q = rw (lf.new u) (mark_elsewhere n W₁ b low before_code room x q)

        -- and is the lowest rank met
        new_rank : mark n W₄ b ≡ low
        new_rank = rw (lf.new u) (mark_stored n W₁ b low before_code room)

        new_rank_there : mark n W₄ (trail n W₁ (spare n W₁ (k - 2))) ≡ low
        new_rank_there = rw (← qb) new_rank

        -- the walk with that rank
        lowered_walk : Dfs (2 * n) ws (mark n W₄) (trail n W₁) (spare n W₁) (cursor n W₁) t (k - 2 + 2)
        lowered_walk =
            lowered dropping_state (k - 2) (omega arith) (mark n W₄) (omega (arith, new_rank_there, ap (mark n W₁) qb)) (omega (arith, new_rank_there, f.pos))
            (λ x l q. other_ranks x (λ g. q (g ∙ qb)))
            (rw new_rank_there (join
            ((noted_state q0).up (spare n W₁ (k - 2)) (last_place n W₁ k) (omega (arith, (noted_state q0).rise (k - 2) (k - 1) (omega (arith, not_first q0 nr)) last_on_path)) (omega (arith, same_place, last_of.place)))
            (subst (λ (x : ℕ). Reach ws (last_code n W₁ k) (trail n W₁ (x - 1))) last_rank ((noted_state q0).low (last_place n W₁ k) (omega (arith, same_place, last_of.place))))))
            (words_of sz)

        -- what was met stays met
        lowered_met : (x : ℕ) → x < 2 * n → 0 < mark n W x → 0 < mark n W₄ x
        lowered_met x l p =
            ⊎_elim
            (λ (q : x ≡ b). rw (q, new_rank) f.pos)
            (λ (q : x ≢ b). omega (arith, other_ranks x q, noted_met x l p))
            (same? x b)

        -- then the turn drops the last code from the path
        turn_fall : TurnMade n ws W t k W₄ t (k - 1)
        turn_fall =
            record {
              state =
                  drop_from
                  (alike (trail n W₄) (spare n W₄) (cursor n W₄) (λ p l. fell.trails p) (λ j l. fell.spares j)
                  (λ x l. fell.heads (opposite x) (opposite_below n x l)) (fits h) lowered_walk)
                  fell
                  (fell.heads (opposite (last_code n W₁ k)) (opposite_below n (last_code n W₁ k) (omega (arith, same_code, last_of.code))) ∙ last_done)
                  (other_ranks (last_code n W₁ k) codes_differ ∙ last_rank)
                  (omega (arith, new_rank_there));
              side = side fell.long fell.nexts;
              met = lowered_met;
              less = omega (arith, count_mono (mark n W) (mark n W₄) (2 * n) lowered_met);
            }

      -- the turn that goes back up
      pub turn_drop : TurnMade n ws W t k W₄ t (k - 1)
      turn_drop = ⊎_elim (λ (u : low < mark n W₁ b). turn_fall u) (λ (u : mark n W₁ b ≤ low). turn_same u) (below_or_from low (mark n W₁ b))

-- what `turn` knows after its look: where the path ends, what was found there, and that the list and the counts stay
pub record Looked (w u : Walking) (place a e low hit : ℕ) : Type 0 where
  pub n : u.n ≡ w.n
  pub words : u.words ≡ w.words
  pub top : u.top ≡ w.top
  pub depth : u.depth ≡ w.depth
  pub end : Last w.n w.tables w.top w.depth
  pub at : place ≡ last_place w.n w.tables w.depth
  pub code : a ≡ last_code w.n w.tables w.depth
  pub found : Scanned w.n w.words w.tables (last_code w.n w.tables w.depth) e low hit
  pub noted : Noted w.n (last_code w.n w.tables w.depth) e low w.tables u.tables

-- that is what the look and the note leave
pub looked : {w u : Walking} {place a e low hit : ℕ} → Sizes w.n w.words w.tables → 0 < w.depth → WalkState w.n w.words w.tables w.top w.depth
    → place ≡ last_place w.n w.tables w.depth → a ≡ trail w.n w.tables place → Scanned w.n w.words w.tables a e low hit
    → u ≡ moved w (noted w.n w.tables a e low) w.top w.depth → Looked w u place a e low hit
looked {w} {u} {place} {a} {e} {low} {hit} sz pk h at of f q =
    let code : a ≡ last_code w.n w.tables w.depth = of ∙ ap (trail w.n w.tables) at in
    let end : Last w.n w.tables w.top w.depth = last_of sz pk h in
    record {
      n = ap (λ (x : Walking). x.n) q;
      words = ap (λ (x : Walking). x.words) q;
      top = ap (λ (x : Walking). x.top) q;
      depth = ap (λ (x : Walking). x.depth) q;
      end = end;
      at = at;
      code = code;
      found = rw code at f;
      noted = noted_at code (omega (arith, code, end.code)) (tables sz) (ap (λ (x : Walking). x.tables) q);
    }

-- what changes the tables and the counts leaves the list
pub alike_by : (w u : Walking) {v : Walking} {T : List ℕ} {t k : ℕ} → u.n ≡ w.n → u.words ≡ w.words → v ≡ moved u T t k → Alike w v
alike_by w u a b q = rw q (record { n = a; words = b })

-- and a turn that ends so is made
pub turns_by : (w u : Walking) {v : Walking} {T : List ℕ} {t k : ℕ} → u.n ≡ w.n → u.words ≡ w.words → v ≡ moved u T t k
    → TurnMade w.n w.words w.tables w.top w.depth T t k → Turns w v
turns_by w u n words q made = record { alike = alike_by w u n words q; made = rw q made }
