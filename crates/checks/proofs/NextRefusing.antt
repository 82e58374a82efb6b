-- What Next refuses, after all that every call refuses: a byte over 1 among the first n.
use mathlib.Core.Path.{◌≡◌, refl, sym, ◌∙◌}
use mathlib.Core.List.{List, [], ◌∷◌}
use Prim.Native.Nat.{ℕ, ◌≤◌, ◌<◌}
use Rattle.meaning.specs.declared.refusal.Refusal.{Refusal}
use lib.ListN.{length, take}
use lib.Seq.{length-take-le}
use borrow.Author.Tests.{lt-ltb, le-ltb}
use Rattle.meaning.specs.Refusals.{number_of, place_of, Due, refused, as_due, Check, first_of, first_over, over_check, list_checks, list_due, next_due}
use Rattle.meaning.specs.Sizes.{rota_needs}
use Rattle.meaning.proofs.RefusalLaws.{none_applies, due_behind, due_ahead, accepted}

module _ (n : ℕ) (ws area : List ℕ) (work : ℕ) where
  abbrev common : List Check
  common = list_checks n ws (length area) (rota_needs n) work

  abbrev values : List Check
  values = over_check 2 (take n area) 11 ∷ []

  -- what every call refuses comes first
  pub next_ahead : (r : Refusal) → as_due r ≡ list_due n ws (length area) (rota_needs n) work → as_due r ≡ next_due n ws area work
  unfolding list_due next_due
  next_ahead r e = sym (due_ahead common values (number_of r) (place_of r) (sym e))

  module _ (fine : Due.none ≡ list_due n ws (length area) (rota_needs n) work) where
    pub next_room : n ≤ length area
    next_room = (accepted n ws (length area) (rota_needs n) work (sym fine)).room

    long : length (take n area) ≡ n
    long = length-take-le n area next_room

    behind : next_due n ws area work ≡ first_of values
    unfolding list_due next_due
    behind = due_behind common values (none_applies common (sym fine))

    -- then a byte over 1
    pub next_value : (at : ℕ) → at ≡ first_over 2 (take n area) → at < n → refused 11 at ≡ next_due n ws area work
    next_value at e l = sym (behind ∙ rw (← e, long, lt-ltb at n l) refl)

    -- and where there is none, nothing is due
    pub next_fine : (at : ℕ) → at ≡ first_over 2 (take n area) → n ≤ at → Due.none ≡ next_due n ws area work
    next_fine at e l = sym (behind ∙ rw (← e, long, le-ltb at n l) refl)
