-- Laws of refusals: which check is the first to apply, what an accepted list is, and that number and place tell the refusal.
use mathlib.Core.Path.{◌≡◌, refl, sym, ap, ap₂, ◌∙◌}
use mathlib.Core.Bool.{Bool, true, false, cond}
use mathlib.Core.Logic.{◌≢◌, ⊎_elim}
use mathlib.Core.List.{List, [], ◌∷◌, ◌++◌}
use Prim.Native.Nat.{ℕ, zero, suc, ◌+◌, ◌*◌, ◌%◌, ◌≤◌, ◌<◌}
use native.Mathlib.Omega.{arith}
use lib.Dec.{leb, eqb}
use borrow.Author.Tests.{leb-false, ltb-false, eqb-false, le-leb, lt-leb, lt-ltb}
use lib.ListN.{length, get_or, take}
use Rattle.meaning.specs.declared.refusal.Refusal.{Refusal}
use Rattle.meaning.specs.declared.refusal.Refusal.TheVariants.{TooManyChoices, OddWords, TooManyRules, CodeTooHigh, WorkTooShort, AnswerTooShort, BookEnds, NumberTooLong, NumberPadded, BytesLeft, ValueTooHigh}
use Rattle.meaning.specs.Refusals.{number_of, place_of, Due, refused, as_due, Check, check, first_of, NoneApplies, Given, first_over, over_check, list_checks, next_checks, list_due, next_due}
use Rattle.meaning.specs.Accepted.{Accepted}
use Rattle.meaning.specs.Rules.{rules}
use Rattle.meaning.specs.Sizes.{max_choices, max_rules, rota_needs, work_needs}
use Rattle.meaning.proofs.General.{below_or_from}

-- nothing is due, or a refusal, never both
pub not_refused : (number place : ℕ) → Due.none ≡ refused number place → ⊥
not_refused number place e = let z : ◌≡◌ {A = ℕ} 0 1 = cc in omega arith

-- where nothing is due, no check applies
pub none_applies : (cs : List Check) → first_of cs ≡ Due.none → NoneApplies cs
none_applies [] e = tt
none_applies (check true number place ∷ cs) e = absurd (not_refused number place (sym e))
none_applies (check false number place ∷ cs) e = (refl, none_applies cs e)

-- and the other way round
pub applies_none : (cs : List Check) → NoneApplies cs → first_of cs ≡ Due.none
applies_none [] h = refl
applies_none (check applies number place ∷ cs) h = rw h.0 (applies_none cs h.1)

-- what is due was given
pub due_given : (cs : List Check) (number place : ℕ) → first_of cs ≡ refused number place → Given cs number place
due_given [] number place e = absurd (not_refused number place e)
due_given (check true k p ∷ cs) number place e =
    let f : k ≡ number = cc in
    let g : p ≡ place = cc in
    record { before = []; after = cs; checks = rw (f, g); earlier = tt }
due_given (check false k p ∷ cs) number place e =
    let d = due_given cs number place e in
    record { before = check false k p ∷ d.before; after = d.after; checks = ap (λ (l : List Check). check false k p ∷ l) d.checks; earlier = (refl, d.earlier) }

-- what follows checks of which none applies decides
pub due_behind : (cs ds : List Check) → NoneApplies cs → first_of (cs ++ ds) ≡ first_of ds
due_behind [] ds h = refl
due_behind (check applies number place ∷ cs) ds h = rw h.0 (due_behind cs ds h.1)

-- and where one of them applies, it is due whatever follows
pub due_ahead : (cs ds : List Check) (number place : ℕ) → first_of cs ≡ refused number place → first_of (cs ++ ds) ≡ refused number place
due_ahead [] ds number place e = absurd (not_refused number place e)
due_ahead (check true k p ∷ cs) ds number place e = e
due_ahead (check false k p ∷ cs) ds number place e = due_ahead cs ds number place e

-- what is given is due
pub given_due : (cs : List Check) (number place : ℕ) → Given cs number place → first_of cs ≡ refused number place
given_due cs number place g = rw g.checks (due_behind g.before (check true number place ∷ g.after) g.earlier)

-- the first item that is over a limit, as a search finds it: no item before i is, and i is one unless it is the length
pub first_over_lem : (limit : ℕ) (xs : List ℕ) (i : ℕ) → i ≤ length xs → ((j : ℕ) → j < i → get_or xs j 0 < limit) →
    (i < length xs → limit ≤ get_or xs i 0) → first_over limit xs ≡ i
first_over_lem limit [] i h low at = omega arith
first_over_lem limit (x ∷ xs) zero h low at = rw (le-leb limit x (at (omega arith)))
first_over_lem limit (x ∷ xs) (suc i) h low at =
    rw (lt-leb limit x (low 0 (omega arith)))
    (ap suc (first_over_lem limit xs i (omega arith) (λ j l. low (suc j) (omega arith)) (λ l. at (omega arith))))

-- where there is none, every item is below the limit
pub over_none : (limit : ℕ) (xs : List ℕ) → length xs ≤ first_over limit xs → (i : ℕ) → i < length xs → get_or xs i 0 < limit
over_none limit [] h i l = absurd (omega arith)
over_none limit (x ∷ xs) h i l = go (λ k. over_none limit xs k) (leb limit x) refl i l
  where
    go : (length xs ≤ first_over limit xs → (i : ℕ) → i < length xs → get_or xs i 0 < limit) →
        (t : Bool) → leb limit x ≡ t → (i : ℕ) → i < suc (length xs) → get_or (x ∷ xs) i 0 < limit
    go rec true e i l = absurd (omega (arith, rw e at h))
    go rec false e zero l = leb-false limit x e
    go rec false e (suc i) l = rec (omega (arith, rw e at h)) i (omega arith)

-- words that are not odd are two a rule
even_of : (ws : List ℕ) → length ws % 2 ≢ 1 → length ws ≡ 2 * rules ws
even_of ws h = omega arith

-- what holds where no check applies
checks_accept : (n : ℕ) (ws : List ℕ) (area needs work : ℕ) → NoneApplies (list_checks n ws area needs work) → Accepted n ws area needs work
checks_accept n ws area needs work h =
    let codes : (i : ℕ) → i < length ws → get_or ws i 0 < 2 * n =
    over_none (2 * n) ws (ltb-false (first_over (2 * n) ws) (length ws) h.1.1.1.1.1.0) in
    record {
      choices = ltb-false max_choices n h.0;
      even = even_of ws (eqb-false (length ws % 2) 1 h.1.0);
      few = ltb-false max_rules (rules ws) h.1.1.0;
      room = ltb-false area needs h.1.1.1.0;
      space = ltb-false work (work_needs n ws) h.1.1.1.1.0;
      range = λ k l. (codes (2 * k) (omega arith), codes (2 * k + 1) (omega arith));
    }

-- so a list on which nothing is due is accepted
pub accepted : (n : ℕ) (ws : List ℕ) (area needs work : ℕ) → list_due n ws area needs work ≡ Due.none → Accepted n ws area needs work
unfolding list_due
accepted n ws area needs work e = checks_accept n ws area needs work (none_applies (list_checks n ws area needs work) e)

-- what the answer needs matters only where there are not too many choices
pub due_needs : (n : ℕ) (ws : List ℕ) (area needs needs' work : ℕ) → (n ≤ max_choices → needs ≡ needs') → list_due n ws area needs work ≡ list_due n ws area needs' work
unfolding list_due
due_needs n ws area needs needs' work same =
    ⊎_elim (λ h. simp (lt-ltb max_choices n h)) (λ h. ap (λ (k : ℕ). first_of (list_checks n ws area k work)) (same h)) (below_or_from max_choices n)

-- of two lists of checks none applies: none of either
pub split_none : (cs ds : List Check) → NoneApplies (cs ++ ds) → NoneApplies cs × NoneApplies ds
split_none [] ds h = (tt, h)
split_none (check applies number place ∷ cs) ds h = let r = split_none cs ds h.1 in ((h.0, r.0), r.1)

-- Next's list is accepted as any other, and its rota's bytes are values
pub next_accepted : (n : ℕ) (ws rota : List ℕ) (work : ℕ) → next_due n ws rota work ≡ Due.none →
    Accepted n ws (length rota) (rota_needs n) work × ((i : ℕ) → i < length (take n rota) → get_or (take n rota) i 0 < 2)
unfolding next_due
next_accepted n ws rota work e =
    let h = split_none (list_checks n ws (length rota) (rota_needs n) work) (over_check 2 (take n rota) 11 ∷ []) (none_applies (next_checks n ws rota work) e) in
    (checks_accept n ws (length rota) (rota_needs n) work h.0, over_none 2 (take n rota) (ltb-false _ _ h.1.0))

-- the refusal of a number and a place; a number that no refusal has is taken for 11
abbrev pub named : ℕ → ℕ → Refusal
named number place =
    cond (eqb number 1) (TooManyChoices place)
    (cond (eqb number 2) (OddWords place)
    (cond (eqb number 3) (TooManyRules place)
    (cond (eqb number 4) (CodeTooHigh place)
    (cond (eqb number 5) (WorkTooShort place)
    (cond (eqb number 6) (AnswerTooShort place)
    (cond (eqb number 7) (BookEnds place)
    (cond (eqb number 8) (NumberTooLong place)
    (cond (eqb number 9) (NumberPadded place)
    (cond (eqb number 10) (BytesLeft place) (ValueTooHigh place))))))))))

-- the number of each check is that of a refusal
abbrev pub AllNamed : List Check → Type 0
AllNamed [] = Unit {0}
AllNamed (check applies number place ∷ cs) = (as_due (named number place) ≡ refused number place) × AllNamed cs

-- number and place tell the refusal
pub named_same : (r : Refusal) → named (number_of r) (place_of r) ≡ r
named_same (TooManyChoices p) = refl
named_same (OddWords p) = refl
named_same (TooManyRules p) = refl
named_same (CodeTooHigh p) = refl
named_same (WorkTooShort p) = refl
named_same (AnswerTooShort p) = refl
named_same (BookEnds p) = refl
named_same (NumberTooLong p) = refl
named_same (NumberPadded p) = refl
named_same (BytesLeft p) = refl
named_same (ValueTooHigh p) = refl

-- so the refusal is that of what is due
pub due_named : (r : Refusal) (number place : ℕ) → as_due r ≡ refused number place → r ≡ named number place
due_named r number place e =
    let f : number_of r ≡ number = cc in
    let g : place_of r ≡ place = cc in
    sym (named_same r) ∙ ap₂ named f g
