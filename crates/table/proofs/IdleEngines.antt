-- Idle engines, each caught by its promise and the case that shows it: one that refuses what is accepted, one whose rota, forced bytes, ties or
-- lengths come of the sizes alone, a Next that leaves the rota standing, a Next that walks once and then says Ended, a Ties that ties each choice
-- to itself alone. What is asked of an engine is asked of accepted inputs alone, so that one which refuses rightly is caught too.
use mathlib.Core.Path.{◌≡◌, refl, sym, ap, ◌∙◌}
use mathlib.Core.List.{List, [], ◌∷◌, ◌++◌}
use Prim.Native.Nat.{ℕ, ◌<◌}
use native.Mathlib.Omega.{arith}
use native.Mathlib.Decide.{ℕ_discrete, dec_le, dec_lt}
use lib.ListN.{length, get_or, take, replicate}
use Rattle.std.specs.Prelude.{Ok, Err}
use Rattle.meaning.specs.declared.codes.Choice.{Choice}
use Rattle.meaning.specs.declared.refusal.Refusal.{Refusal}
use Rattle.meaning.specs.declared.answers.Decided.{Decided}
use Rattle.meaning.specs.declared.answers.Listed.{Listed}
use Rattle.meaning.specs.declared.answers.Clashed.{Clashed}
use Rattle.meaning.specs.declared.answers.Moved.{Moved}
use Rattle.meaning.specs.Accepted.{Accepted, AcceptedNext}
use Rattle.meaning.specs.Chains.{LowestClash, Shortest, Tie}
use Rattle.meaning.specs.Codes.{late, early, opposite}
use Rattle.meaning.specs.Order.{Before}
use Rattle.meaning.specs.Promises.{DecideSays, Decides, Each, ListedSays, Forces, TiesUp, ClashSays, Clashes, Keeps, NextSays, Moves}
use Rattle.meaning.specs.Refusals.{number_of, place_of, Due, due_of, list_due, next_due}
use Rattle.meaning.specs.Rotas.{Allowed, Possible, Impossible, First, Next, Forced}
use Rattle.meaning.specs.Rules.{rules, other_end}
use Rattle.meaning.specs.Sizes.{rota_needs, chains_need, ties_need, work_needs, over}
use Rattle.table.specs.Engines.{Engine, Obeys}
use Rattle.table.specs.Table.{case_c, case_e, case_f, case_g, case_h, case_i}
use Rattle.table.proofs.Marked.{right_b, right_c, right_e, right_f, right_g, right_h, right_i}
use Rattle.meaning.proofs.Accepting.{accepted_due, next_accepted_due}
use Rattle.meaning.proofs.ChainLaws.{clash_impossible}
use Rattle.meaning.proofs.Meaning.{given, next_means}
use Rattle.meaning.proofs.Once.{decide_once, listed_once, clash_once, next_once}
use Rattle.meaning.proofs.OrderLaws.{before_irrefl}
use Rattle.meaning.proofs.Reaching.{reach?}
use Rattle.meaning.proofs.RefusalLaws.{not_refused}
use Rattle.meaning.proofs.Tests.{shown, shortest?, lowest?}
use Rattle.meaning.proofs.TwoSat.{clash?}
use Rattle.meaning.proofs.Unique.{forced_unique, tie_unique}

-- a work area of just the length that is needed
abbrev bench : ℕ → List ℕ → List ℕ
bench n ws = replicate (work_needs n ws) 0

-- Refusing what is accepted

-- no promise of a call allows it, on any input
pub refuses_accepted : {A : Type 0} (says : A → List ℕ → Type 0) (due : Due) (n : ℕ) (ws area work : List ℕ) (r : Refusal) (area' work' : List ℕ) →
    due ≡ Due.none → Keeps says due n ws area work (Err r) area' work' → ⊥
refuses_accepted says due n ws area work r area' work' e k = not_refused (number_of r) (place_of r) (sym e ∙ sym k.refuses)

-- an engine that refuses everything that is accepted: case B is
pub refuses_everything : (run : Engine Decided) →
    ((n : ℕ) (ws area work : List ℕ) → Accepted n ws (length area) (rota_needs n) (length work) → (r : Refusal) × ((run n ws area work).answer ≡ Err r)) →
    Obeys Decides run → ⊥
refuses_everything run refuses obeys =
    let r = refuses 1 [] (0 ∷ []) (bench 1 []) ((accepted_due 1 [] 1 1 (length (bench 1 []))).1 right_b.0) in
    let k = obeys 1 [] (0 ∷ []) (bench 1 []) in
    not_refused (number_of r.0) (place_of r.0) (sym right_b.0 ∙ sym k.refuses ∙ ap due_of r.1)

-- Decide

-- on an accepted list that has a first rota
decides : (run : Engine Decided) → Obeys Decides run → (n : ℕ) (ws area r : List ℕ) → list_due n ws (length area) (rota_needs n) (length (bench n ws)) ≡ Due.none →
    First n ws r → ((run n ws area (bench n ws)).answer ≡ Ok Decided.Possible) × ((run n ws area (bench n ws)).area ≡ over r area)
decides run obeys n ws area r e f =
    given (DecideSays n ws) (decide_once n ws) n ws area (bench n ws) (list_due n ws (length area) (rota_needs n) (length (bench n ws))) e _ _ _
    (obeys n ws area (bench n ws)) Decided.Possible r f

-- an engine with a single stock rota for each number of choices and of rules, and for what the areas hold: cases C and H differ
pub single_stock_rota : (run : Engine Decided) (stock : (n m : ℕ) (area work : List ℕ) → List ℕ) →
    ((n : ℕ) (ws area work : List ℕ) → Accepted n ws (length area) (rota_needs n) (length work) → (run n ws area work).answer ≡ Ok Decided.Possible →
    take n (run n ws area work).area ≡ stock n (rules ws) area work) → Obeys Decides run → ⊥
single_stock_rota run stock same obeys =
    let c = decides run obeys 1 case_c.ws (0 ∷ []) (1 ∷ []) right_c.0 right_c.1.0 in
    let h = decides run obeys 1 case_h.ws (0 ∷ []) (0 ∷ []) right_h.0 right_h.1.0 in
    let p : stock 1 1 (0 ∷ []) (replicate 30 0) ≡ 1 ∷ [] =
    sym (same 1 case_c.ws (0 ∷ []) (bench 1 case_c.ws) ((accepted_due 1 case_c.ws 1 1 30).1 right_c.0) c.0) ∙ ap (take 1) c.1 in
    let q : stock 1 1 (0 ∷ []) (replicate 30 0) ≡ 0 ∷ [] =
    sym (same 1 case_h.ws (0 ∷ []) (bench 1 case_h.ws) ((accepted_due 1 case_h.ws 1 1 30).1 right_h.0) h.0) ∙ ap (take 1) h.1 in
    let z : ◌≡◌ {A = ℕ} 0 1 = cc in
    omega arith

-- Forced and Ties

-- Forced on an accepted, possible list
forces : (run : Engine Listed) → Obeys Forces run → (n : ℕ) (ws area xs : List ℕ) → list_due n ws (length area) (rota_needs n) (length (bench n ws)) ≡ Due.none →
    Possible n ws → Each n (Forced n ws) xs → ((run n ws area (bench n ws)).answer ≡ Ok Listed.Done) × ((run n ws area (bench n ws)).area ≡ over xs area)
forces run obeys n ws area xs e p f =
    given (ListedSays n ws (Forced n ws)) (listed_once n ws (Forced n ws) (λ r ok v x y p q. forced_unique n ws v x y r ok p q)) n ws area (bench n ws)
    (list_due n ws (length area) (rota_needs n) (length (bench n ws))) e _ _ _ (obeys n ws area (bench n ws)) Listed.Done xs (p, f)

-- a Forced whose bytes come of the sizes and of what the areas hold, and not of the rules: cases C and H differ
pub stock_forced : (run : Engine Listed) (stock : (n m : ℕ) (area work : List ℕ) (v : ℕ) → ℕ) →
    ((n : ℕ) (ws area work : List ℕ) → Accepted n ws (length area) (rota_needs n) (length work) → Possible n ws → (v : ℕ) → v < n →
    get_or (run n ws area work).area v 0 ≡ stock n (rules ws) area work v) → Obeys Forces run → ⊥
stock_forced run stock same obeys =
    let c = forces run obeys 1 case_c.ws (0 ∷ []) (1 ∷ []) right_c.0 (1 ∷ [], right_c.1.0.allowed) right_c.3 in
    let h = forces run obeys 1 case_h.ws (0 ∷ []) (2 ∷ []) right_h.0 (0 ∷ [], right_h.1.0.allowed) right_h.3 in
    let p = same 1 case_c.ws (0 ∷ []) (bench 1 case_c.ws) ((accepted_due 1 case_c.ws 1 1 30).1 right_c.0) (1 ∷ [], right_c.1.0.allowed) 0 (omega arith) in
    let q = same 1 case_h.ws (0 ∷ []) (bench 1 case_h.ws) ((accepted_due 1 case_h.ws 1 1 30).1 right_h.0) (0 ∷ [], right_h.1.0.allowed) 0 (omega arith) in
    omega (arith, p, q, ap (λ (l : List ℕ). get_or l 0 0) c.1, ap (λ (l : List ℕ). get_or l 0 0) h.1)

-- Ties on an accepted, possible list
ties : (run : Engine Listed) → Obeys TiesUp run → (n : ℕ) (ws area xs : List ℕ) → list_due n ws (length area) (ties_need n) (length (bench n ws)) ≡ Due.none →
    Possible n ws → Each n (Tie ws) xs → ((run n ws area (bench n ws)).answer ≡ Ok Listed.Done) × ((run n ws area (bench n ws)).area ≡ over xs area)
ties run obeys n ws area xs e p f =
    given (ListedSays n ws (Tie ws)) (listed_once n ws (Tie ws) (λ r ok v x y p q. tie_unique ws v x y p q)) n ws area (bench n ws)
    (list_due n ws (length area) (ties_need n) (length (bench n ws))) e _ _ _ (obeys n ws area (bench n ws)) Listed.Done xs (p, f)

-- a Ties whose words come of the sizes and of what the areas hold, as do those of one that ties each choice only to itself: cases E and F differ
pub stock_ties : (run : Engine Listed) (stock : (n m : ℕ) (area work : List ℕ) (v : ℕ) → ℕ) →
    ((n : ℕ) (ws area work : List ℕ) → Accepted n ws (length area) (ties_need n) (length work) → Possible n ws → (v : ℕ) → v < n →
    get_or (run n ws area work).area v 0 ≡ stock n (rules ws) area work v) → Obeys TiesUp run → ⊥
stock_ties run stock same obeys =
    let e = ties run obeys 2 case_e.ws (0 ∷ 0 ∷ []) (0 ∷ 2 ∷ []) right_e.0 (1 ∷ 0 ∷ [], right_e.1.0.allowed) right_e.4 in
    let f = ties run obeys 2 case_f.ws (0 ∷ 0 ∷ []) (0 ∷ 0 ∷ []) right_f.0 (0 ∷ 0 ∷ [], right_f.1.0.allowed) right_f.4 in
    let p = same 2 case_e.ws (0 ∷ 0 ∷ []) (bench 2 case_e.ws) ((accepted_due 2 case_e.ws 2 2 44).1 right_e.0) (1 ∷ 0 ∷ [], right_e.1.0.allowed) 1 (omega arith) in
    let q = same 2 case_f.ws (0 ∷ 0 ∷ []) (bench 2 case_f.ws) ((accepted_due 2 case_f.ws 2 2 44).1 right_f.0) (0 ∷ 0 ∷ [], right_f.1.0.allowed) 1 (omega arith) in
    omega (arith, p, q, ap (λ (l : List ℕ). get_or l 1 0) e.1, ap (λ (l : List ℕ). get_or l 1 0) f.1)

-- a Ties that ties each choice only to itself: in case F choice 1 is tied to code 0
pub ties_to_itself : (run : Engine Listed) →
    ((n : ℕ) (ws area work : List ℕ) → Accepted n ws (length area) (ties_need n) (length work) → Possible n ws → (v : ℕ) → v < n →
    get_or (run n ws area work).area v 0 ≡ late v) → Obeys TiesUp run → ⊥
ties_to_itself run itself obeys = stock_ties run (λ n m area work v. late v) itself obeys

-- Next

-- Next on an accepted list, after a rota that another one follows
moves : (run : Engine Moved) → Obeys Moves run → (n : ℕ) (ws area work r : List ℕ) → next_due n ws area (length work) ≡ Due.none → Next n ws (take n area) r →
    ((run n ws area work).answer ≡ Ok Moved.Moved) × ((run n ws area work).area ≡ over r area)
moves run obeys n ws area work r e f =
    given (NextSays n ws (take n area)) (next_once n ws (take n area)) n ws area work (next_due n ws area (length work)) e _ _ _
    (obeys n ws area work) Moved.Moved r f

-- a call of Next that is not refused is accepted
goes_through : (run : Engine Moved) → Obeys Moves run → (n : ℕ) (ws area work : List ℕ) (m : Moved) → (run n ws area work).answer ≡ Ok m → AcceptedNext n ws area (length work)
goes_through run obeys n ws area work m e = (next_accepted_due n ws area (length work)).1 (sym (obeys n ws area work).refuses ∙ ap due_of e)

-- a Next that once leaves the rota standing where it says Moved, on whatever input it does
pub stands_once : (run : Engine Moved) → Obeys Moves run → (n : ℕ) (ws area work : List ℕ) →
    (run n ws area work).answer ≡ Ok Moved.Moved → take n (run n ws area work).area ≡ take n area → ⊥
stands_once run obeys n ws area work e same =
    let ok = goes_through run obeys n ws area work Moved.Moved e in
    let m = next_means n ws area work (run n ws area work).answer (run n ws area work).area (run n ws area work).work (obeys n ws area work) ok in
    let b : Before (take n area) (take n area) = rw same at (m.next e).after in
    before_irrefl (take n area) b

-- so one that leaves it standing everywhere: after 0 case B has 1
pub leaves_standing : (run : Engine Moved) →
    ((n : ℕ) (ws area work : List ℕ) → AcceptedNext n ws area (length work) → (run n ws area work).answer ≡ Ok Moved.Moved → take n (run n ws area work).area ≡ take n area) →
    Obeys Moves run → ⊥
unfolding next_due
leaves_standing run stands obeys =
    let ok = (next_accepted_due 1 [] (0 ∷ []) 24).1 refl in
    let b = moves run obeys 1 [] (0 ∷ []) (bench 1 []) (1 ∷ []) refl right_b.1.1.0 in
    stands_once run obeys 1 [] (0 ∷ []) (bench 1 []) b.0 (stands 1 [] (0 ∷ []) (bench 1 []) ok b.0)

-- a Next that once says Ended where an allowed rota comes after, on whatever input it does
pub ends_once : (run : Engine Moved) → Obeys Moves run → (n : ℕ) (ws area work : List ℕ) →
    (run n ws area work).answer ≡ Ok Moved.Ended → (s : List ℕ) → Allowed n ws s → Before (take n area) s → ⊥
ends_once run obeys n ws area work e s allowed after =
    let ok = goes_through run obeys n ws area work Moved.Ended e in
    let m = next_means n ws area work (run n ws area work).answer (run n ws area work).area (run n ws area work).work (obeys n ws area work) ok in
    (m.ended.0 e).1 s allowed after

-- so one that walks once and then, with some work area, says Ended: in case I 001 comes after 000, and 011 after that
pub walks_once : (run : Engine Moved) →
    ((n : ℕ) (ws area work : List ℕ) → AcceptedNext n ws area (length work) → (run n ws area work).answer ≡ Ok Moved.Moved →
    (room : List ℕ) × ((run n ws (run n ws area work).area room).answer ≡ Ok Moved.Ended)) →
    Obeys Moves run → ⊥
unfolding next_due
walks_once run ends obeys =
    let ws = case_i.ws in
    let i = moves run obeys 3 ws (0 ∷ 0 ∷ 0 ∷ []) (bench 3 ws) (0 ∷ 0 ∷ 1 ∷ []) refl right_i.1.1.0 in
    let e = ends 3 ws (0 ∷ 0 ∷ 0 ∷ []) (bench 3 ws) ((next_accepted_due 3 ws (0 ∷ 0 ∷ 0 ∷ []) 52).1 refl) i.0 in
    let n = right_i.1.1.1.0 in
    let after : Before (take 3 (run 3 ws (0 ∷ 0 ∷ 0 ∷ []) (bench 3 ws)).area) (0 ∷ 1 ∷ 1 ∷ []) = rw i.1 n.after in
    ends_once run obeys 3 ws (run 3 ws (0 ∷ 0 ∷ 0 ∷ []) (bench 3 ws)).area e.0 e.1 (0 ∷ 1 ∷ 1 ∷ []) n.allowed after

-- Clash

-- Clash on an accepted list whose lowest clash and chains are known
clashes : (run : Engine Clashed) → Obeys Clashes run → (n : ℕ) (ws area : List ℕ) → list_due n ws (length area) (chains_need n) (length (bench n ws)) ≡ Due.none →
    (v : Choice) (there back : List ℕ) → LowestClash ws v.0 → Shortest ws (late v.0) (early v.0) there → Shortest ws (early v.0) (late v.0) back →
    (run n ws area (bench n ws)).answer ≡ Ok (Clashed.Chains v (length there) (length back))
clashes run obeys n ws area e v there back low p q =
    (given (ClashSays n ws) (clash_once n ws) n ws area (bench n ws) (list_due n ws (length area) (chains_need n) (length (bench n ws))) e _ _ _
    (obeys n ws area (bench n ws)) (Clashed.Chains v (length there) (length back)) (there ++ back)
    (record { lowest = low; there = there; back = back; late_early = p; early_late = q; there_length = refl; back_length = refl; words = refl })).0

-- case D of two choices, with a rule more that demands late of the second, and once again: of one size with case G
abbrev long_d : List ℕ
long_d = 0 ∷ 0 ∷ 1 ∷ 1 ∷ 2 ∷ 2 ∷ 2 ∷ 2 ∷ []

-- its lowest clash and chains
long_lowest : LowestClash long_d 0
unfolding ℕ_discrete dec_le dec_lt opposite other_end reach? clash?
long_lowest = shown (lowest? long_d 0) tt

long_there : Shortest long_d (late 0) (early 0) (1 ∷ [])
unfolding ℕ_discrete dec_le dec_lt opposite other_end reach?
long_there = shown (shortest? long_d (early 0) (late 0) (1 ∷ [])) tt

long_back : Shortest long_d (early 0) (late 0) (0 ∷ [])
unfolding ℕ_discrete dec_le dec_lt opposite other_end reach?
long_back = shown (shortest? long_d (late 0) (early 0) (0 ∷ [])) tt

-- areas of one size for it and for case G
abbrev words : List ℕ
words = replicate 8 0

d_accepted : Accepted 2 long_d (length words) (chains_need 2) (length (bench 2 long_d))
unfolding list_due
d_accepted = (accepted_due 2 long_d 8 8 56).1 refl

g_accepted : Accepted 2 case_g.ws (length words) (chains_need 2) (length (bench 2 case_g.ws))
unfolding list_due
g_accepted = (accepted_due 2 case_g.ws 8 8 56).1 refl

-- the choice that both name
abbrev named : Choice
named = record { 0 = 0 }

-- their chains have one rule each, and two
d_given : (run : Engine Clashed) → Obeys Clashes run → (run 2 long_d words (bench 2 long_d)).answer ≡ Ok (Clashed.Chains named 1 1)
unfolding list_due
d_given run obeys = clashes run obeys 2 long_d words refl named (1 ∷ []) (0 ∷ []) long_lowest long_there long_back

g_given : (run : Engine Clashed) → Obeys Clashes run → (run 2 case_g.ws words (bench 2 case_g.ws)).answer ≡ Ok (Clashed.Chains named 2 2)
unfolding list_due
g_given run obeys = clashes run obeys 2 case_g.ws words refl named (2 ∷ 3 ∷ []) (0 ∷ 1 ∷ []) right_g.1 right_g.2 right_g.3

-- a Clash whose first length, or whose second, is invented: it comes of the sizes and of what the areas hold
pub invented_first : (run : Engine Clashed) (there : (n m : ℕ) (area work : List ℕ) → ℕ) →
    ((n : ℕ) (ws area work : List ℕ) → Accepted n ws (length area) (chains_need n) (length work) → Impossible n ws →
    (v : Choice) × (j : ℕ) × ((run n ws area work).answer ≡ Ok (Clashed.Chains v (there n (rules ws) area work) j))) → Obeys Clashes run → ⊥
invented_first run there same obeys =
    let d = same 2 long_d words (bench 2 long_d) d_accepted (clash_impossible 2 long_d 0 long_lowest.clash) in
    let g = same 2 case_g.ws words (bench 2 case_g.ws) g_accepted (clash_impossible 2 case_g.ws 0 right_g.1.clash) in
    let p : there 2 4 words (replicate 56 0) ≡ 1 = cc (d_given run obeys, d.2) in
    let q : there 2 4 words (replicate 56 0) ≡ 2 = cc (g_given run obeys, g.2) in
    omega (arith, p, q)

pub invented_second : (run : Engine Clashed) (back : (n m : ℕ) (area work : List ℕ) → ℕ) →
    ((n : ℕ) (ws area work : List ℕ) → Accepted n ws (length area) (chains_need n) (length work) → Impossible n ws →
    (v : Choice) × (i : ℕ) × ((run n ws area work).answer ≡ Ok (Clashed.Chains v i (back n (rules ws) area work)))) → Obeys Clashes run → ⊥
invented_second run back same obeys =
    let d = same 2 long_d words (bench 2 long_d) d_accepted (clash_impossible 2 long_d 0 long_lowest.clash) in
    let g = same 2 case_g.ws words (bench 2 case_g.ws) g_accepted (clash_impossible 2 case_g.ws 0 right_g.1.clash) in
    let p : back 2 4 words (replicate 56 0) ≡ 1 = cc (d_given run obeys, d.2) in
    let q : back 2 4 words (replicate 56 0) ≡ 2 = cc (g_given run obeys, g.2) in
    omega (arith, p, q)

-- so both are not
pub invented_lengths : (run : Engine Clashed) (there back : (n m : ℕ) (area work : List ℕ) → ℕ) →
    ((n : ℕ) (ws area work : List ℕ) → Accepted n ws (length area) (chains_need n) (length work) → Impossible n ws →
    (v : Choice) × ((run n ws area work).answer ≡ Ok (Clashed.Chains v (there n (rules ws) area work) (back n (rules ws) area work)))) →
    Obeys Clashes run → ⊥
invented_lengths run there back same obeys =
    invented_first run there (λ n ws area work ok none. let s = same n ws area work ok none in (s.0, back n (rules ws) area work, s.1)) obeys
