-- The turns of `lowest`: the ends of a code's list are gone through upward, and the first that fits is kept.
use mathlib.Core.Path.{◌≡◌, refl, sym, ap, ◌∙◌, subst}
use mathlib.Core.Logic.{inl, inr, ⊎_elim}
use mathlib.Core.List.{List}
use Prim.Native.Nat.{ℕ, suc, ◌-◌, ◌*◌, ◌/◌, ◌<◌}
use native.Mathlib.Omega.{arith}
use lib.ListN.{length, get_or}
use mathlib.Core.Bool.{Bool, true, false, not, true≢false, false≢true}
use Rattle.std.specs.Option.{is_some}
use Rattle.std.specs.Prelude.{Option, Some, None, unwrap_or}
use Rattle.chains.specs.Traces.{across, LowestTo}
use Rattle.meaning.specs.Chains.{Step}
use Rattle.meaning.specs.Codes.{opposite}
use Rattle.meaning.specs.Rules.{other_end}
use Rattle.meaning.specs.declared.codes.RuleNo.{RuleNo}
use Rattle.moves.specs.Layout.{head, mark, next}
use Rattle.moves.specs.Lists.{Cursor, Passed, Ready}
use Rattle.moves.proofs.Cursors.{left_of, nexts_of, head_first, first_cursor, none_passed, cursor_next, cursor_passed, cursor_less}
use Rattle.moves.proofs.Steps.{end_step, step_end}

-- the invariant of the loop of `lowest`: either no end that is passed fits, or the rule that is found is the one that is asked for
pub record Picking (n : ℕ) (ws W : List ℕ) (a d : ℕ) (found : Option RuleNo) (e : ℕ) : Type 0 where
  pub cur : Cursor ws a e
  pub none : found ≡ None → (k : ℕ) → (k < length ws) → (get_or ws k 0 ≡ opposite a) → Passed e k → across n ws W k ≡ d → ⊥
  pub first : (r : RuleNo) → found ≡ Some r → LowestTo n ws W a d r.0

-- the end of a turn is one of the list's
pub pick_end : {n : ℕ} {ws W : List ℕ} {a d : ℕ} {found : Option RuleNo} {k : ℕ} → Picking n ws W a d found (suc k) → k < length ws
pick_end r = omega (arith, (r.cur.at (omega arith)).0)

module _ {n : ℕ} {ws W : List ℕ} (rd : Ready n ws W) where
  -- at its start no end is passed
  pub pick_start : {a d e : ℕ} → a < 2 * n → e ≡ head n W (opposite a) → Picking n ws W a d None e
  pick_start la qe =
      let f = head_first rd la qe in
      record { cur = first_cursor f; none = λ z k l q u m. none_passed f (omega arith) l q u; first = λ r z. absurd (cc) }

  module _ {a d : ℕ} {found : Option RuleNo} {k e' : ℕ} (r : Picking n ws W a d found (suc k)) (qe : e' ≡ next n W k) where
    -- the end k in the words of the cursor's laws
    at_end : suc k - 1 ≡ k
    at_end = omega arith

    -- the next link
    goes : e' ≡ next n W (suc k - 1)
    goes = rw at_end qe

    -- the cursor goes on
    cur' : Cursor ws a e'
    cur' = cursor_next (nexts_of rd) r.cur (omega arith) goes

    -- and leaves less of the list
    pub pick_less : left_of e' < left_of (suc k)
    pick_less = cursor_less (nexts_of rd) r.cur (omega arith) goes rd.sizes

    -- the end is passed over: a rule was found already
    pub pick_found : (found ≡ None → ⊥) → Picking n ws W a d found e'
    pick_found y = record { cur = cur'; none = λ z. absurd (y z); first = r.first }

    -- or it does not fit
    pub pick_pass : (across n ws W k ≡ d → ⊥) → Picking n ws W a d found e'
    pick_pass wrong =
        record {
          cur = cur';
          none = λ z j l q u m. ⊎_elim
              (λ (y : j ≡ suc k - 1). wrong (ap (across n ws W) (sym (y ∙ at_end)) ∙ m))
              (λ (y : Passed (suc k) j). r.none z j l q y m)
              (cursor_passed (nexts_of rd) r.cur (omega arith) goes j l q u);
          first = r.first;
        }

    -- or it is the first that fits
    pub pick_first : {rule : RuleNo} → found ≡ None → across n ws W k ≡ d → rule.0 ≡ k / 2 → Picking n ws W a d (Some rule) e'
    pick_first {rule} z fits qk = record { cur = cur'; none = λ y. absurd (cc); first = λ s y. let same : rule.0 ≡ s.0 = cc in rw (← same, qk) lowest }
      where
        lowest : LowestTo n ws W a d (k / 2)
        lowest =
            record {
              next = get_or ws (other_end k) 0;
              step = end_step rd.sizes (pick_end r) (rw at_end at (r.cur.at (omega arith)).1) refl;
              near = fits;
              lowest = λ j b l st m.
                  let w = step_end rd.sizes st in
                  r.none z w.0 w.1 w.2 (inr (omega (arith, w.4))) (subst (λ (x : ℕ). mark n W (opposite x) ≡ d) (sym w.3) m);
            }

  -- at the list's end a rule was found, since there is one
  pub pick_done : (found : Option RuleNo) (other : RuleNo) {a d : ℕ} → Picking n ws W a d found 0 →
      ((k : ℕ) × (b : ℕ) × Step ws a k b × (mark n W (opposite b) ≡ d)) → LowestTo n ws W a d (unwrap_or found other).0
  pick_done (Some rule) other r x = r.first rule refl
  pick_done None other {a} {d} r x =
      let w = step_end rd.sizes x.2 in
      absurd (r.none refl w.0 w.1 w.2 (inl refl) (subst (λ (y : ℕ). mark n W (opposite y) ≡ d) (sym w.3) x.3))

-- what the test of `lowest` tells: no rule was found
pub not_found : (found : Option RuleNo) (b : Bool) → is_some found ≡ not b → b ≡ true → found ≡ None
not_found None b q e = refl
not_found (Some rule) b q e = absurd (true≢false (q ∙ ap not e))

-- or one was
pub was_found : (found : Option RuleNo) (b : Bool) → is_some found ≡ not b → b ≡ false → found ≡ None → ⊥
was_found None b q e z = false≢true (q ∙ ap not e)
was_found (Some rule) b q e z = absurd (cc)
