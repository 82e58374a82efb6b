-- What an answer means, of every call that keeps its promise: the statements are in specs/Answers.
use mathlib.Core.Path.{◌≡◌, refl, sym, ap, ◌∙◌}
use mathlib.Core.Logic.{⊎_elim, ◌↔◌}
use mathlib.Core.List.{List, [], ◌++◌, append_assoc}
use Prim.Native.Nat.{ℕ, zero, suc, ◌≤◌, ◌<◌}
use native.Mathlib.Omega.{arith}
use lib.ListN.{length, get_or, take, drop, get_or-eq_default}
use lib.Seq.{length-take-le, get_or-take, take_at, drop_at}
use Rattle.std.specs.Prelude.{Result, Ok, Err}
use Rattle.meaning.specs.declared.codes.Choice.{Choice}
use Rattle.meaning.specs.declared.refusal.Refusal.{Refusal}
use Rattle.meaning.specs.declared.answers.Decided.{Decided}
use Rattle.meaning.specs.declared.answers.Listed.{Listed}
use Rattle.meaning.specs.declared.answers.Clashed.{Clashed}
use Rattle.meaning.specs.declared.answers.Moved.{Moved}
use Rattle.meaning.specs.Accepted.{Accepted, AcceptedNext}
use Rattle.meaning.specs.Answers.{Agreed, DecideMeans, ForcedMeans, ClashMeans, NextMeans, TiesMean}
use Rattle.meaning.specs.Chains.{LowestClash, Shortest, Tied, Tie}
use Rattle.meaning.specs.Codes.{late, early}
use Rattle.meaning.specs.Order.{Before}
use Rattle.meaning.specs.Promises.{Keeps, DecideSays, Decides, Each, ListedSays, Forces, TiesUp, ClashSays, Clashes, NextSays, Moves}
use Rattle.meaning.specs.Refusals.{number_of, place_of, Due, due_of, list_due, next_due}
use Rattle.meaning.specs.Rotas.{Rota, Allowed, Possible, Impossible, First, Next, Always, Forced}
use Rattle.meaning.specs.Rules.{InRange}
use Rattle.meaning.specs.Sizes.{rota_needs, chains_need, ties_need, over}
use Rattle.meaning.proofs.Accepting.{accepted_due, next_accepted_due}
use Rattle.meaning.proofs.AreaLaws.{over_front}
use Rattle.meaning.proofs.ChainLaws.{clash_impossible, reach_sound, reach_trans}
use Rattle.meaning.proofs.Once.{same_choice, decide_once, listed_once, clash_once, next_once}
use Rattle.meaning.proofs.Exists.{tie_exists, forced_exists, shortest_exists}
use Rattle.meaning.proofs.General.{below_or_from}
use Rattle.meaning.proofs.NextLaws.{next_or_ended}
use Rattle.meaning.proofs.Outcomes.{each_exists}
use Rattle.meaning.proofs.RefusalLaws.{not_refused}
use Rattle.meaning.proofs.TwoSat.{possible_or_clash, possible_free}
use Rattle.meaning.proofs.Unique.{lowest_unique, forced_unique, tie_unique}

-- A call on an input on which nothing is due.
module _ {A : Type 0} (says : A → List ℕ → Type 0) (once : (a b : A) (xs ys : List ℕ) → says a xs → says b ys → (a ≡ b) × (xs ≡ ys)) (n : ℕ) (ws area work : List ℕ) where
  -- what it answers is said of the items at the front of the area
  pub told : (due : Due) (answer : Result A Refusal) (area' work' : List ℕ) → Keeps says due n ws area work answer area' work' →
      (a : A) → answer ≡ Ok a → (xs : List ℕ) × says a xs × (area' ≡ over xs area)
  told due answer area' work' k a e =
      let p : Keeps says due n ws area work (Ok a) area' work' = rw e at k in (p.after.items, p.after.right, p.after.written)

  -- an answer that says what should be said is the one that is given, with its items in the area
  pub given : (due : Due) → due ≡ Due.none → (b : Result A Refusal) (area' work' : List ℕ) → Keeps says due n ws area work b area' work' →
      (a : A) (xs : List ℕ) → says a xs → (b ≡ Ok a) × (area' ≡ over xs area)
  given due e (Ok b) area' work' k a xs right =
      let o = once b a k.after.items xs k.after.right right in
      (ap Ok o.0, k.after.written ∙ ap (λ (ys : List ℕ). over ys area) o.1)
  given due e (Err r) area' work' k a xs right = absurd (not_refused (number_of r) (place_of r) (sym e ∙ sym k.refuses))

-- a call answers, and does not refuse, exactly if nothing is due
pub goes_through : {A : Type 0} (says : A → List ℕ → Type 0) (due : Due) (n : ℕ) (ws area work : List ℕ) (answer : Result A Refusal) (area' work' : List ℕ) →
    Keeps says due n ws area work answer area' work' → ((a : A) × (answer ≡ Ok a)) ↔ (due ≡ Due.none)
goes_through says due n ws area work (Ok a) area' work' k = ((λ p. sym k.refuses), (λ e. (a, refl)))
goes_through says due n ws area work (Err r) area' work' k = (
  (λ p. absurd (not_refused (number_of r) (place_of r) (sym (ap due_of p.1)))),
  (λ e. absurd (not_refused (number_of r) (place_of r) (sym e ∙ sym k.refuses))),
)

-- so a call on a list answers exactly if its input is accepted
pub list_goes_through : {A : Type 0} (says : A → List ℕ → Type 0) (n : ℕ) (ws area work : List ℕ) (needs : ℕ) (answer : Result A Refusal) (area' work' : List ℕ) →
    Keeps says (list_due n ws (length area) needs (length work)) n ws area work answer area' work' →
    ((a : A) × (answer ≡ Ok a)) ↔ Accepted n ws (length area) needs (length work)
list_goes_through says n ws area work needs answer area' work' k =
    let g = goes_through says (list_due n ws (length area) needs (length work)) n ws area work answer area' work' k in
    let d = accepted_due n ws (length area) needs (length work) in
    ((λ p. d.1 (g.0 p)), (λ a. g.1 (d.0 a)))

-- and so does Next
pub next_goes_through : (n : ℕ) (ws area work : List ℕ) (answer : Result Moved Refusal) (area' work' : List ℕ) → Moves n ws area work answer area' work' →
    ((m : Moved) × (answer ≡ Ok m)) ↔ AcceptedNext n ws area (length work)
next_goes_through n ws area work answer area' work' k =
    let g = goes_through (NextSays n ws (take n area)) (next_due n ws area (length work)) n ws area work answer area' work' k in
    let d = next_accepted_due n ws area (length work) in
    ((λ p. d.1 (g.0 p)), (λ a. g.1 (d.0 a)))

-- what holds of each choice of a possible list and of each clash of an impossible one
module _ (n : ℕ) (ws : List ℕ) (range : InRange n ws) where
  -- on an impossible list some choice is the lowest that clashes
  clash_of : Impossible n ws → (v : ℕ) × (v < n) × LowestClash ws v
  clash_of none = ⊎_elim (λ f. absurd (none f.0 f.1.allowed)) (λ c. c) (possible_or_clash n ws range)

  -- on a possible one some rota is the first
  first_of_possible : Possible n ws → (r : List ℕ) × First n ws r
  first_of_possible p = ⊎_elim (λ f. f) (λ c. absurd (clash_impossible n ws c.0 c.2.clash p.0 p.1)) (possible_or_clash n ws range)

  -- the lowest clash is one of the choices
  lowest_below : (v : ℕ) → LowestClash ws v → v < n
  lowest_below v low =
      let c = clash_of (clash_impossible n ws v low.clash) in
      omega (arith, c.1, lowest_unique ws v c.0 low c.2)

-- Decide
module _ (n : ℕ) (ws area work : List ℕ) (a : Result Decided Refusal) (area' work' : List ℕ) (k : Decides n ws area work a area' work')
    (ok : Accepted n ws (length area) (rota_needs n) (length work)) where
  pub decide_means : DecideMeans n ws a area'
  decide_means =
      let due = list_due n ws (length area) (rota_needs n) (length work) in
      let tell = told (DecideSays n ws) (decide_once n ws) n ws area work due a area' work' k in
      let give = given (DecideSays n ws) (decide_once n ws) n ws area work due ((accepted_due n ws (length area) (rota_needs n) (length work)).0 ok) a area' work' k in
      record {
        impossible = (
          (λ e. clash_impossible n ws e.0.0 (tell (Decided.Impossible e.0) e.1).1.0.clash),
          (λ none. let c = clash_of n ws ok.range none in (record { 0 = c.0 }, (give (Decided.Impossible (record { 0 = c.0 })) [] (c.2, refl)).0)),
        );
        possible = (
          (λ e. let t = tell Decided.Possible e in (t.0, t.1.allowed)),
          (λ p. let f = first_of_possible n ws ok.range p in (give Decided.Possible f.0 f.1).0),
        );
        first = λ e. let t = tell Decided.Possible e in rw (t.2, take_at t.0 (drop (length t.0) area) n t.1.allowed.rota.long) t.1;
        named = λ v e. let t = tell (Decided.Impossible v) e in (lowest_below n ws ok.range v.0 t.1.0, t.1.0);
      }

-- ties go on from one code to the next
tied_over : (ws : List ℕ) (a b c : ℕ) → Tied ws a b → Tied ws c b → Tied ws a c
tied_over ws a b c p q = (reach_trans ws a b c p.0 q.1, reach_trans ws c b a q.0 p.1)

-- tied choices have one tie
tie_of_tied : (ws : List ℕ) (u v c : ℕ) → Tied ws (late u) (late v) → Tie ws v c → Tie ws u c
tie_of_tied ws u v c t s =
    record {
      tied = (reach_trans ws (late u) (late v) c t.0 s.tied.0, reach_trans ws c (late v) (late u) s.tied.1 t.1);
      smallest = λ d q. s.smallest d (reach_trans ws (late v) (late u) d t.1 q.0, reach_trans ws d (late u) (late v) q.1 t.0);
    }

-- the rota that is lent
lent_rota : (n : ℕ) (ws area : List ℕ) (work : ℕ) → AcceptedNext n ws area work → Rota n (take n area)
lent_rota n ws area work ok =
    let long : length (take n area) ≡ n = length-take-le n area ok.list.room in
    record {
      long = long;
      bits = λ v. ⊎_elim (λ h. omega (arith, ok.values v h, get_or-take n area v 0 h)) (λ h. omega (arith, get_or-eq_default (take n area) 0 {n = v} (omega (arith, h, long)))) (below_or_from v n);
    }

-- both chains of the lowest clash
both_exist : (n : ℕ) (ws : List ℕ) (v : ℕ) → LowestClash ws v →
    (there : List ℕ) × (back : List ℕ) × ClashSays n ws (Clashed.Chains (record { 0 = v }) (length there) (length back)) (there ++ back)
both_exist n ws v l =
    let there = shortest_exists ws (early v) (late v) l.clash.0 in
    let back = shortest_exists ws (late v) (early v) l.clash.1 in (
      there.0,
      back.0,
      record { lowest = l; there = there.0; back = back.0; late_early = there.1; early_late = back.1; there_length = refl; back_length = refl; words = refl },
    )

-- where an allowed rota comes after the one that is lent, some rota is the next
next_of_after : (n : ℕ) (ws area : List ℕ) (work : ℕ) → AcceptedNext n ws area work → (s : List ℕ) → Allowed n ws s → Before (take n area) s →
    (t : List ℕ) × Next n ws (take n area) t
next_of_after n ws area work ok s p b =
    ⊎_elim (λ f. f) (λ ended. absurd (ended s p b))
    (next_or_ended n ws (take n area) ok.list.range (lent_rota n ws area work ok) (possible_free n ws (s, p)))

-- Forced and Ties
module _ (n : ℕ) (ws : List ℕ) (Item : ℕ → ℕ → Type 0) (unique : (r : List ℕ) → Allowed n ws r → (v x y : ℕ) → Item v x → Item v y → x ≡ y)
    (exists : Possible n ws → (xs : List ℕ) × Each n Item xs)
    (area work : List ℕ) (due : Due) (none : due ≡ Due.none) (a : Result Listed Refusal) (area' work' : List ℕ)
    (k : Keeps (ListedSays n ws Item) due n ws area work a area' work') where
  listed_tell : (b : Listed) → a ≡ Ok b → (xs : List ℕ) × ListedSays n ws Item b xs × (area' ≡ over xs area)
  listed_tell = told (ListedSays n ws Item) (listed_once n ws Item unique) n ws area work due a area' work' k

  listed_give : (b : Listed) (xs : List ℕ) → ListedSays n ws Item b xs → (a ≡ Ok b) × (area' ≡ over xs area)
  listed_give = given (ListedSays n ws Item) (listed_once n ws Item unique) n ws area work due none a area' work' k

  -- Impossible exactly if no rota is allowed
  listed_impossible : (a ≡ Ok Listed.Impossible) ↔ Impossible n ws
  listed_impossible = ((λ e. (listed_tell Listed.Impossible e).1.0), (λ none. (listed_give Listed.Impossible [] (none, refl)).0))

  -- Done exactly if one is
  listed_done : (a ≡ Ok Listed.Done) ↔ Possible n ws
  listed_done = (
    (λ e. (listed_tell Listed.Done e).1.0),
    (λ p. let xs = exists p in (listed_give Listed.Done xs.0 (p, xs.1)).0),
  )

  -- and then each item is as it should be
  listed_item : a ≡ Ok Listed.Done → (v : ℕ) → v < n → Item v (get_or area' v 0)
  listed_item e v h =
      let t = listed_tell Listed.Done e in
      rw (t.2, over_front t.0 area v (omega (arith, h, t.1.1.long))) (t.1.1.each v h)

-- Forced

-- a value of all allowed rotas, as a forced byte
always_forced : (n : ℕ) (ws : List ℕ) (v x : ℕ) → x ≤ 1 → Always n ws v x → Forced n ws v x
always_forced n ws v zero h p = p
always_forced n ws v (suc zero) h p = p
always_forced n ws v (suc (suc x)) h p = absurd (omega (arith, h))

forced_always : (n : ℕ) (ws : List ℕ) (v x : ℕ) → x ≤ 1 → Forced n ws v x → Always n ws v x
forced_always n ws v zero h p = p
forced_always n ws v (suc zero) h p = p
forced_always n ws v (suc (suc x)) h p = absurd (omega (arith, h))

-- where all allowed rotas agree, the forced byte is their value
agreed_value : (n : ℕ) (ws : List ℕ) (v x : ℕ) → Forced n ws v x → Agreed n ws v → x ≤ 1
agreed_value n ws v zero p same = omega arith
agreed_value n ws v (suc zero) p same = omega arith
agreed_value n ws v (suc (suc zero)) p same = absurd (omega (arith, same p.0.0 p.1.0 p.0.1 p.1.1, p.0.2, p.1.2))
agreed_value n ws v (suc (suc (suc x))) p same = absurd p

module _ (n : ℕ) (ws area work : List ℕ) (a : Result Listed Refusal) (area' work' : List ℕ) (k : Forces n ws area work a area' work')
    (ok : Accepted n ws (length area) (rota_needs n) (length work)) where
  pub forced_means : ForcedMeans n ws a area'
  forced_means =
      let due = list_due n ws (length area) (rota_needs n) (length work) in
      let none = (accepted_due n ws (length area) (rota_needs n) (length work)).0 ok in
      let unique : (r : List ℕ) → Allowed n ws r → (v x y : ℕ) → Forced n ws v x → Forced n ws v y → x ≡ y = λ r s v x y p q. forced_unique n ws v x y r s p q in
      let exists : Possible n ws → (xs : List ℕ) × Each n (Forced n ws) xs =
      λ p. each_exists (Forced n ws) n (forced_exists n ws ok.range (possible_free n ws p)) in
      let item = listed_item n ws (Forced n ws) unique exists area work due none a area' work' k in
      let done = listed_done n ws (Forced n ws) unique exists area work due none a area' work' k in
      record {
        impossible = listed_impossible n ws (Forced n ws) unique exists area work due none a area' work' k;
        done = done;
        value = λ e v x h l. (
          (λ q. forced_always n ws v x l (rw q at (item e v h))),
          (λ p. let r = done.0 e in unique r.0 r.1 v (get_or area' v 0) x (item e v h) (always_forced n ws v x l p)),
        );
        differ = λ e v h. (
          (λ q. rw q at (item e v h)),
          (λ p. let r = done.0 e in unique r.0 r.1 v (get_or area' v 0) 2 (item e v h) p),
        );
        forced = λ e v h. (
          (λ l r s p q. let always = forced_always n ws v (get_or area' v 0) l (item e v h) in always r p ∙ sym (always s q)),
          agreed_value n ws v (get_or area' v 0) (item e v h),
        );
      }

-- Ties
module _ (n : ℕ) (ws area work : List ℕ) (a : Result Listed Refusal) (area' work' : List ℕ) (k : TiesUp n ws area work a area' work')
    (ok : Accepted n ws (length area) (ties_need n) (length work)) where
  pub ties_mean : TiesMean n ws a area'
  ties_mean =
      let due = list_due n ws (length area) (ties_need n) (length work) in
      let none = (accepted_due n ws (length area) (ties_need n) (length work)).0 ok in
      let unique : (r : List ℕ) → Allowed n ws r → (v x y : ℕ) → Tie ws v x → Tie ws v y → x ≡ y = λ r s v x y p q. tie_unique ws v x y p q in
      let exists : Possible n ws → (xs : List ℕ) × Each n (Tie ws) xs =
      λ p. each_exists (Tie ws) n (λ v h. tie_exists ws v) in
      let item = listed_item n ws (Tie ws) unique exists area work due none a area' work' k in
      record {
        impossible = listed_impossible n ws (Tie ws) unique exists area work due none a area' work' k;
        done = listed_done n ws (Tie ws) unique exists area work due none a area' work' k;
        tie = λ e v c h. ((λ q. rw q at (item e v h)), (λ t. tie_unique ws v (get_or area' v 0) c (item e v h) t));
        same = λ e u v g h. (
          (λ q.
              let s : Tie ws u (get_or area' v 0) = rw q at (item e u g) in
              tied_over ws (late u) (get_or area' v 0) (late v) s.tied (item e v h).tied),
          (λ t. tie_unique ws u (get_or area' u 0) (get_or area' v 0) (item e u g) (tie_of_tied ws u v (get_or area' v 0) t (item e v h))),
        );
        together = λ e v h r p. (
          reach_sound n ws r p (late v) (get_or area' v 0) (item e v h).tied.0,
          reach_sound n ws r p (get_or area' v 0) (late v) (item e v h).tied.1,
        );
      }

-- Clash
module _ (n : ℕ) (ws area work : List ℕ) (a : Result Clashed Refusal) (area' work' : List ℕ) (k : Clashes n ws area work a area' work')
    (ok : Accepted n ws (length area) (chains_need n) (length work)) where
  clash_tell : (b : Clashed) → a ≡ Ok b → (xs : List ℕ) × ClashSays n ws b xs × (area' ≡ over xs area)
  clash_tell = told (ClashSays n ws) (clash_once n ws) n ws area work (list_due n ws (length area) (chains_need n) (length work)) a area' work' k

  -- the chains stand in the area
  clash_chains : (v : Choice) (i j : ℕ) → a ≡ Ok (Clashed.Chains v i j) → Shortest ws (late v.0) (early v.0) (take i area') × Shortest ws (early v.0) (late v.0) (take j (drop i area'))
      × (length (take i area') ≡ i) × (length (take j (drop i area')) ≡ j)
  clash_chains v i j e =
      let t = clash_tell (Clashed.Chains v i j) e in
      let c = t.1 in
      let rest = drop (length t.0) area in
      let split : area' ≡ c.there ++ (c.back ++ rest) = t.2 ∙ ap (λ (xs : List ℕ). xs ++ rest) c.words ∙ append_assoc c.there c.back rest in
      let one : take i area' ≡ c.there = ap (λ (xs : List ℕ). take i xs) split ∙ take_at c.there (c.back ++ rest) i (sym c.there_length) in
      let two : take j (drop i area') ≡ c.back = ap (λ (xs : List ℕ). take j (drop i xs)) split ∙ ap (λ (xs : List ℕ). take j xs) (drop_at c.there (c.back ++ rest) i (sym c.there_length)) ∙ take_at c.back rest j (sym c.back_length) in
      (rw one c.late_early, rw two c.early_late, rw one (sym c.there_length), rw two (sym c.back_length))

  pub clash_means : ClashMeans n ws a area'
  clash_means =
      let due = list_due n ws (length area) (chains_need n) (length work) in
      let give = given (ClashSays n ws) (clash_once n ws) n ws area work due ((accepted_due n ws (length area) (chains_need n) (length work)).0 ok) a area' work' k in
      record {
        impossible = (
          (λ e. clash_impossible n ws e.0.0 (clash_tell (Clashed.Chains e.0 e.1 e.2) e.3).1.lowest.clash),
          (λ none.
              let c = clash_of n ws ok.range none in
              let s = both_exist n ws c.0 c.2 in
              (record { 0 = c.0 }, length s.0, length s.1, (give (Clashed.Chains (record { 0 = c.0 }) (length s.0) (length s.1)) (s.0 ++ s.1) s.2).0)),
        );
        possible = (
          (λ e. (clash_tell Clashed.Possible e).1.0),
          (λ p. (give Clashed.Possible [] (p, refl)).0),
        );
        named = λ v i j e. let t = clash_tell (Clashed.Chains v i j) e in (lowest_below n ws ok.range v.0 t.1.lowest, t.1.lowest);
        late_early = λ v i j e. (clash_chains v i j e).0;
        early_late = λ v i j e. (clash_chains v i j e).1;
        lengths = λ v i j e. let c = clash_chains v i j e in (c.2, c.3);
      }

-- Next
module _ (n : ℕ) (ws area work : List ℕ) (a : Result Moved Refusal) (area' work' : List ℕ) (k : Moves n ws area work a area' work')
    (ok : AcceptedNext n ws area (length work)) where
  pub next_means : NextMeans n ws area a area'
  next_means =
      let due = next_due n ws area (length work) in
      let rota = take n area in
      let tell = told (NextSays n ws rota) (next_once n ws rota) n ws area work due a area' work' k in
      let give = given (NextSays n ws rota) (next_once n ws rota) n ws area work due ((next_accepted_due n ws area (length work)).0 ok) a area' work' k in
      record {
        impossible = ((λ e. (tell Moved.Impossible e).1.0), (λ none. (give Moved.Impossible [] (none, refl)).0));
        moved = (
          (λ e. let t = tell Moved.Moved e in (t.0, t.1.allowed, t.1.after)),
          (λ p. let s = next_of_after n ws area (length work) ok p.0 p.1 p.2 in (give Moved.Moved s.0 s.1).0),
        );
        ended = (
          (λ e. let t = tell Moved.Ended e in (t.1.0, t.1.1)),
          (λ p. (give Moved.Ended [] (p.0, p.1, refl)).0),
        );
        next = λ e. let t = tell Moved.Moved e in rw (t.2, take_at t.0 (drop (length t.0) area) n t.1.allowed.rota.long) t.1;
      }

-- Decide and Clash name the same choice, whatever areas they are lent
pub same_choice_named : (n : ℕ) (ws rota work rota' work' chains room chains' room' : List ℕ) (u v : Choice) (i j : ℕ) →
    Decides n ws rota work (Ok (Decided.Impossible u)) rota' work' → Clashes n ws chains room (Ok (Clashed.Chains v i j)) chains' room' → u ≡ v
same_choice_named n ws rota work rota' work' chains room chains' room' u v i j d c = same_choice u v (lowest_unique ws u.0 v.0 d.after.right.0 c.after.right.lowest)
