-- The marked table: every case is right, by one test that computes.
use mathlib.Core.Path.{◌≡◌, refl, sym, ap₂}
use mathlib.Core.List.{List, [], ◌∷◌}
use Prim.Native.Nat.{ℕ}
use native.Mathlib.Decide.{ℕ_discrete, dec_le, dec_lt}
use lib.ListN.{length, get_or}
use Rattle.meaning.specs.Chains.{Tie}
use Rattle.meaning.specs.Codes.{late, early, opposite}
use Rattle.meaning.specs.Rules.{other_end}
use Rattle.meaning.specs.Promises.{Each}
use Rattle.meaning.specs.Refusals.{Due, refused, list_due}
use Rattle.meaning.specs.Rotas.{Forced}
use Rattle.meaning.specs.Runs.{Follow, InOrder}
use Rattle.table.specs.Table.{Answer, possible, impossible, refusal, Asked, least_due, Right, Case, case_a, case_b, case_c, case_d, case_e, case_f, case_g, case_h, case_i, case_j, cases, Every}
use Rattle.meaning.proofs.ChainLaws.{clash_impossible}
use Rattle.meaning.proofs.RefusalLaws.{not_refused}
use Rattle.meaning.proofs.Reaching.{reach?}
use Rattle.meaning.proofs.Tests.{shown, map?, and?, not?, below?, first?, next?, ended?, forced?, shortest?, lowest?, tie?}
use Rattle.meaning.proofs.TwoSat.{clash?}

-- whether nothing is due, or just this refusal
abbrev none? : (d : Due) → Dec (d ≡ Due.none)
none? Due.none = yes refl
none? (refused k p) = no (λ e. not_refused k p (sym e))

-- a refusal tells its number and place
same_refusal : (k p number place : ℕ) → refused k p ≡ refused number place → (k ≡ number) × (p ≡ place)
same_refusal k p number place e = ((cc), (cc))

-- whether it is this refusal
abbrev refused? : (d : Due) (number place : ℕ) → Dec (d ≡ refused number place)
refused? Due.none number place = no (not_refused number place)
refused? (refused k p) number place =
    map? (λ e. ap₂ refused e.0 e.1) (same_refusal k p number place) (and? (ℕ_discrete k number) (ℕ_discrete p place))

-- whether Next goes through the rotas so, whether Decide begins so, and whether Next answers so
abbrev follow? : (n : ℕ) (ws r : List ℕ) (rs : List (List ℕ)) → Dec (Follow n ws r rs)
follow? n ws r [] = ended? n ws r
follow? n ws r (s ∷ rs) = and? (next? n ws r s) (follow? n ws s rs)

-- from the first on
abbrev in_order? : (n : ℕ) (ws : List ℕ) (rs : List (List ℕ)) → Dec (InOrder n ws rs)
in_order? n ws [] = no (λ h. h)
in_order? n ws (r ∷ rs) = and? (first? n ws r) (follow? n ws r rs)

-- Next, asked singly
abbrev asked? : (n : ℕ) (ws : List ℕ) (qs : List (List ℕ × List ℕ)) → Dec (Asked n ws qs)
asked? n ws [] = yes tt
asked? n ws (q ∷ qs) = and? (next? n ws q.0 q.1) (asked? n ws qs)

-- whether the items of a list are those of the choices, and as many
abbrev each? : (n : ℕ) (Item : ℕ → ℕ → Type 0) (xs : List ℕ) → ((v x : ℕ) → Dec (Item v x)) → Dec (Each n Item xs)
each? n Item xs item =
    map? (λ p. record { long = p.0; each = p.1 }) (λ e. (e.long, e.each)) (and? (ℕ_discrete (length xs) n) (below? n (λ v. item v (get_or xs v 0))))

-- whether a case is right
abbrev right? : (n : ℕ) (ws : List ℕ) (a : Answer) → Dec (Right n ws a)
right? n ws (possible rs fs ts qs) =
    map? (λ p. (p.0, p.1.0, p.1.1.0, p.1.1.1.0, p.1.1.1.1.0, p.1.1.1.1.1)) (λ p. (p.0, (p.1, (p.2, (p.3, (p.4, p.5))))))
    (and? (none? (least_due n ws))
    (and? (in_order? n ws rs)
    (and? (below? n (λ v. not? (clash? ws v)))
    (and? (each? n (Forced n ws) fs (λ v x. forced? n ws v x)) (and? (each? n (Tie ws) ts (λ v x. tie? ws v x)) (asked? n ws qs))))))
right? n ws (impossible v ks js) =
    map? (λ p. (p.0, p.1.0, p.1.1.0, p.1.1.1, clash_impossible n ws v p.1.0.clash)) (λ p. (p.0, (p.1, (p.2, p.3))))
    (and? (none? (least_due n ws)) (and? (lowest? ws v) (and? (shortest? ws (early v) (late v) ks) (shortest? ws (late v) (early v) js))))
right? n ws (refusal number place) = refused? (least_due n ws) number place

-- whether all cases are
abbrev every? : (cs : List Case) → Dec (Every cs)
every? [] = yes tt
every? (c ∷ cs) = and? (right? c.n c.ws c.answer) (every? cs)

-- cases A to K
pub marked : Every cases
unfolding ℕ_discrete dec_le dec_lt opposite other_end reach? clash? list_due
marked = shown (every? cases) tt

-- and each of them alone
pub right_a : Right case_a.n case_a.ws case_a.answer
right_a = marked.0

pub right_b : Right case_b.n case_b.ws case_b.answer
right_b = marked.1.0

pub right_c : Right case_c.n case_c.ws case_c.answer
right_c = marked.1.1.0

pub right_d : Right case_d.n case_d.ws case_d.answer
right_d = marked.1.1.1.0

pub right_e : Right case_e.n case_e.ws case_e.answer
right_e = marked.1.1.1.1.0

pub right_f : Right case_f.n case_f.ws case_f.answer
right_f = marked.1.1.1.1.1.0

pub right_g : Right case_g.n case_g.ws case_g.answer
right_g = marked.1.1.1.1.1.1.0

pub right_h : Right case_h.n case_h.ws case_h.answer
right_h = marked.1.1.1.1.1.1.1.0

pub right_i : Right case_i.n case_i.ws case_i.answer
right_i = marked.1.1.1.1.1.1.1.1.0

pub right_j : Right case_j.n case_j.ws case_j.answer
right_j = marked.1.1.1.1.1.1.1.1.1.0
