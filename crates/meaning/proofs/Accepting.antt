-- A call is accepted exactly if no refusal is due.
use mathlib.Core.Path.{◌≡◌, sym}
use mathlib.Core.Bool.{false}
use mathlib.Core.Logic.{⊎_elim, ◌↔◌}
use mathlib.Core.List.{List, [], ◌∷◌, ◌++◌}
use Prim.Native.Nat.{ℕ, ◌+◌, ◌*◌, ◌/◌, ◌%◌, ◌<◌}
use native.Mathlib.Omega.{arith}
use lib.Dec.{ltb}
use borrow.Author.Tests.{le-ltb, ne_eqb}
use lib.ListN.{length, get_or, take}
use lib.Seq.{length-take-le, get_or-take}
use Rattle.meaning.specs.Accepted.{Accepted, AcceptedNext}
use Rattle.meaning.specs.Refusals.{Due, Check, check, first_over, over_check, list_checks, next_checks, list_due, next_due, NoneApplies}
use Rattle.meaning.specs.Rules.{rules, InRange}
use Rattle.meaning.specs.Sizes.{max_choices, max_rules, rota_needs, work_needs}
use Rattle.meaning.proofs.CodeLaws.{late_or_early}
use Rattle.meaning.proofs.RefusalLaws.{applies_none, first_over_lem, accepted, next_accepted}

-- where every item is below the limit, none is over it
pub none_over : (limit : ℕ) (xs : List ℕ) → ((i : ℕ) → i < length xs → get_or xs i 0 < limit) → ltb (first_over limit xs) (length xs) ≡ false
none_over limit xs low =
    le-ltb (first_over limit xs) (length xs) (omega (arith, first_over_lem limit xs (length xs) (omega arith) low (λ h. absurd (omega (arith, h)))))

-- each word is one of a rule's two codes
pub word_below : (n : ℕ) (ws : List ℕ) → length ws ≡ 2 * rules ws → InRange n ws → (i : ℕ) → i < length ws → get_or ws i 0 < 2 * n
word_below n ws even range i h =
    ⊎_elim
    (λ (e : i ≡ 2 * (i / 2)). rw (sym e) at (range (i / 2) (omega (arith, e))).0)
    (λ (e : i ≡ 2 * (i / 2) + 1). rw (sym e) at (range (i / 2) (omega (arith, e))).1)
    (late_or_early i)

-- what is accepted meets no check of the list
pub accept_checks : (n : ℕ) (ws : List ℕ) (area needs work : ℕ) → Accepted n ws area needs work → NoneApplies (list_checks n ws area needs work)
accept_checks n ws area needs work a = (
  le-ltb max_choices n a.choices,
  (
    ne_eqb (length ws % 2) 1 (omega (arith, a.even)),
    (
      le-ltb max_rules (rules ws) a.few,
      (
        le-ltb area needs a.room,
        (le-ltb work (work_needs n ws) a.space, (none_over (2 * n) ws (word_below n ws a.even a.range), tt)),
      ),
    ),
  ),
)

-- a call on a list is accepted exactly if nothing is due
pub accepted_due : (n : ℕ) (ws : List ℕ) (area needs work : ℕ) → Accepted n ws area needs work ↔ (list_due n ws area needs work ≡ Due.none)
unfolding list_due
accepted_due n ws area needs work = (
  (λ a. applies_none (list_checks n ws area needs work) (accept_checks n ws area needs work a)),
  accepted n ws area needs work,
)

-- of two lists of checks that do not apply, none applies
join_none : (cs ds : List Check) → NoneApplies cs → NoneApplies ds → NoneApplies (cs ++ ds)
join_none [] ds p q = q
join_none (check applies number place ∷ cs) ds p q = (p.0, join_none cs ds p.1 q)

-- and so is Next's
pub next_accepted_due : (n : ℕ) (ws rota : List ℕ) (work : ℕ) → AcceptedNext n ws rota work ↔ (next_due n ws rota work ≡ Due.none)
unfolding next_due
next_accepted_due n ws rota work = (
  (λ a.
      let long : length (take n rota) ≡ n = length-take-le n rota a.list.room in
      let low : (i : ℕ) → i < length (take n rota) → get_or (take n rota) i 0 < 2 =
      λ i h. omega (arith, a.values i (omega (arith, h, long)), get_or-take n rota i 0 (omega (arith, h, long))) in
      applies_none (next_checks n ws rota work)
      (join_none (list_checks n ws (length rota) (rota_needs n) work) (over_check 2 (take n rota) 11 ∷ [])
      (accept_checks n ws (length rota) (rota_needs n) work a.list)
      (none_over 2 (take n rota) low, tt))),
  (λ e.
      let a = next_accepted n ws rota work e in
      let long : length (take n rota) ≡ n = length-take-le n rota a.0.room in
      record { list = a.0; values = λ i h. omega (arith, a.1 i (omega (arith, h, long)), get_or-take n rota i 0 h) }),
)
