-- Two answers that `accept`, or `accept_next`, allows are one: what is refused is due, and what is accepted is told the words that the call uses.
use Rattle.std.specs.Prelude.{Result, Ok, Err, IfOk}
use mathlib.Core.Path.{◌≡◌, sym, ap, ◌∙◌}
use Prim.Native.Nat.{ℕ, ◌≤◌}
use Rattle.meaning.specs.declared.refusal.Refusal.{Refusal}
use Rattle.meaning.specs.Refusals.{Due, due_of, number_of, place_of}
use Rattle.meaning.proofs.Once.{same_refused}
use Rattle.meaning.proofs.RefusalLaws.{not_refused}

pub accept_once : (due : Due) (needs work : ℕ) (r s : Result ℕ Refusal) → due_of r ≡ due → IfOk r (λ used. (used ≡ needs) × (used ≤ work)) →
    due_of s ≡ due → IfOk s (λ used. (used ≡ needs) × (used ≤ work)) → r ≡ s
accept_once due needs work (Ok a) (Ok b) p k q l = ap Ok (k.0 ∙ sym l.0)
accept_once due needs work (Ok a) (Err e) p k q l = absurd (not_refused (number_of e) (place_of e) (p ∙ sym q))
accept_once due needs work (Err e) (Ok a) p k q l = absurd (not_refused (number_of e) (place_of e) (q ∙ sym p))
accept_once due needs work (Err e) (Err f) p k q l = ap Err (same_refused e f (p ∙ sym q))
