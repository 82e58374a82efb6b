-- What the engine's answers come to as text: for the list of an accepted book none of the calls refuses, and each answer gives the list's text.
use Rattle.std.specs.Prelude.{Ok, Err}
use mathlib.Core.Path.{◌≡◌, refl, sym, ap, ◌∙◌}
use mathlib.Core.List.{List, [], ◌∷◌}
use Prim.Native.Nat.{ℕ, zero, suc, ◌+◌, ◌*◌, ◌≤◌, ◌<◌}
use native.Mathlib.Omega.{arith}
use lib.ListN.{length, take, drop, get_or, length-append, length-drop}
use lib.Seq.{take_at, drop_at}
use borrow.Author.Tests.{le-ltb}
use Rattle.meaning.specs.declared.answers.Decided.{Decided}
use Rattle.meaning.specs.declared.answers.Listed.{Listed}
use Rattle.meaning.specs.declared.answers.Clashed.{Clashed}
use Rattle.meaning.specs.declared.codes.Choice.{Choice}
use Rattle.meaning.specs.declared.refusal.Refusal.{Refusal}
use Rattle.meaning.specs.Codes.{late, early}
use Rattle.meaning.specs.Rules.{rules, InRange}
use Rattle.meaning.specs.Rotas.{First, Forced, Impossible}
use Rattle.meaning.specs.Chains.{Chain}
use Rattle.meaning.specs.Sizes.{max_choices, max_rules, rota_needs, chains_need, work_needs, over, words_room, work_room}
use Rattle.meaning.specs.Refusals.{Due, number_of, place_of, list_due}
use Rattle.meaning.specs.Promises.{Keeps, DecideSays, Decides, ListedSays, Each, Forces, ClashSays, BothChains, Clashes}
use Rattle.meaning.proofs.ChainLaws.{clash_impossible}
use Rattle.meaning.proofs.ChainLength.{clash_within}
use Rattle.meaning.proofs.RefusalLaws.{not_refused}
use Rattle.book.specs.Saved.{Savable}
use Rattle.book.proofs.GivenLists.{saved_due, read_is_list}
use Rattle.book.specs.Promise.{Reads}
use Rattle.text.specs.Text.{text_needs, possible_text, impossible_text}
use Rattle.text.specs.Inner.{Room}
use Rattle.lines.specs.Promise.{ListText, BookText, Leaves}
use Rattle.text.proofs.Lengths.{possible_short, impossible_short}

-- what an area that starts with the items gives back
front : (items area area' : List ℕ) (k : ℕ) → area' ≡ over items area → length items ≡ k → take k area' ≡ items
front items area area' k e l = rw e (take_at items (drop (length items) area) k l)

-- the items of an area fit it
pub items_fit : (items area area' : List ℕ) → area' ≡ over items area → length area' ≡ length area → length items ≤ length area
items_fit items area area' e l = omega (arith, ap length e, length-append items (drop (length items) area), length-drop (length items) area)

module _ {n : ℕ} {ws : List ℕ} (s : Savable n ws words_room) where
  -- nothing is due of the list of a book in areas at full size
  nothing_due : (area needs work : ℕ) → needs ≤ area → work_room ≤ work → list_due n ws area needs work ≡ Due.none
  nothing_due area needs work p q =
      let w : work_needs n ws ≤ work = omega (arith, s.choices, s.few) in
      saved_due n ws words_room area needs work s ∙ rw (le-ltb area needs p, le-ltb work (work_needs n ws) w) refl

  -- so a call answers
  never_refused : {A : Type 0} (says : A → List ℕ → Type 0) (needs : ℕ) (area work : List ℕ) (r : Refusal) (area' work' : List ℕ) → needs ≤ length area →
      work_room ≤ length work → Keeps says (list_due n ws (length area) needs (length work)) n ws area work (Err r) area' work' → ⊥
  never_refused says needs area work r area' work' p q k =
      not_refused (number_of r) (place_of r) (sym (k.refuses ∙ nothing_due (length area) needs (length work) p q))

  -- both codes of each rule are in range
  range : InRange n ws
  range k h = (s.codes (2 * k) (omega (arith, s.even)), s.codes (2 * k + 1) (omega (arith, s.even)))

  -- the rules of a chain are rules of the list
  chain_below : (a : ℕ) (ks : List ℕ) (b : ℕ) → Chain ws a ks b → (i : ℕ) → i < length ks → get_or ks i 0 < rules ws
  chain_below a [] b c i h = absurd (omega arith)
  chain_below a (k ∷ ks) b c zero h = c.1.is_rule
  chain_below a (k ∷ ks) b c (suc i) h = chain_below c.0 ks b c.2 i (omega arith)

  module _ {area work area' work' : List ℕ} where
    -- Decide is not refused
    pub decide_not_refused : {r : Refusal} → Decides n ws area work (Err r) area' work' → work_room ≤ length work → max_choices ≤ length area → ⊥
    decide_not_refused {r} k room h = never_refused (DecideSays n ws) (rota_needs n) area work r area' work' (omega (arith, s.choices)) room k

    -- where it says impossible, there is no rota
    pub decide_impossible : {v : Choice} → Decides n ws area work (Ok (Decided.Impossible v)) area' work' → Impossible n ws
    decide_impossible {v} k = clash_impossible n ws v.0 k.after.right.0.clash

    -- Forced is not refused
    pub forced_not_refused : {r : Refusal} → Forces n ws area work (Err r) area' work' → work_room ≤ length work → max_choices ≤ length area → ⊥
    forced_not_refused {r} k room h = never_refused (ListedSays n ws (Forced n ws)) (rota_needs n) area work r area' work' (omega (arith, s.choices)) room k

    -- its area starts with the forced bytes
    pub forced_each : Forces n ws area work (Ok Listed.Done) area' work' → Each n (Forced n ws) (take n area')
    forced_each k = let a = k.after in rw (front a.items area area' n a.written a.right.1.long) a.right.1

    -- Clash is not refused
    pub clash_not_refused : {r : Refusal} → Clashes n ws area work (Err r) area' work' → work_room ≤ length work → chains_need max_choices ≤ length area → ⊥
    clash_not_refused {r} k room h = never_refused (ClashSays n ws) (chains_need n) area work r area' work' (omega (arith, s.choices)) room k

    -- its area starts with the two chains, which fit it
    pub clash_chains : {v : Choice} {i j : ℕ} → Clashes n ws area work (Ok (Clashed.Chains v i j)) area' work' → length area' ≡ length area →
        (i + j ≤ length area) × BothChains ws v.0 i j (take (i + j) area') × (i + j ≡ length (take (i + j) area'))
    clash_chains {v} {i} {j} k l =
        let a = k.after in
        let b = a.right in
        let long : length a.items ≡ i + j = ap length b.words ∙ omega (arith, length-append b.there b.back, b.there_length, b.back_length) in
        (omega (arith, items_fit a.items area area' a.written l), rw (front a.items area area' (i + j) a.written long) b, omega (arith, long, ap length (front a.items area area' (i + j) a.written long)))

  module _ {rota forced : List ℕ} (f : First n ws rota) (e : Each n (Forced n ws) forced) where
    -- the text of a possible list has room
    pub possible_room : {out : List ℕ} → text_needs ≤ length out → Room (possible_text n (rules ws) rota forced) 0 out
    possible_room h =
        record { fits = omega (arith, possible_short n (rules ws) rota forced s.choices s.few f.allowed.rota.long e.long) }

  module _ {v i j : ℕ} {xs : List ℕ} (b : BothChains ws v i j xs) where
    there_is : take i xs ≡ b.there
    there_is = rw b.words (take_at b.there b.back i (sym b.there_length))

    back_is : drop i xs ≡ b.back
    back_is = rw b.words (drop_at b.there b.back i (sym b.there_length))

    -- the text of a clash has room
    pub impossible_room : {out : List ℕ} → i + j ≤ chains_need max_choices → text_needs ≤ length out → Room (impossible_text n (rules ws) v (take i xs) (drop i xs)) 0 out
    impossible_room h w =
        let inside : v < n = clash_within n ws range v b.lowest.clash in
        rw (there_is, back_is)
        (record {
          fits =
              omega (
                arith,
                impossible_short n (rules ws) v b.there b.back s.choices s.few (omega (arith, s.choices)) (omega (arith, b.there_length, b.back_length))
                    (λ u l. omega (arith, s.few, chain_below (late v) b.there (early v) b.late_early.chain u l))
                    (λ u l. omega (arith, s.few, chain_below (early v) b.back (late v) b.early_late.chain u l)),
              );
        })

-- a book that is accepted, with the text of its list
pub list_told : (bs : List ℕ) {words : List ℕ} {n m : ℕ} {words' out : List ℕ} {k : ℕ} {out' : List ℕ} → Reads bs words (Ok (record { n = n; m = m })) words' →
    length words ≡ words_room → Leaves (ListText n (take (2 * m) words')) out k out' → Leaves (BookText bs) out k out'
list_told bs {words} {n} {m} {words'} g e l =
    let d = rw e at g.refuses in
    let t = rw ((read_is_list bs words n m words' g).front, g.says.0) at l.right in
    record { text = l.text; right = rw (sym d) t; long = l.long; put = l.put }

-- its list is one that the calls take
pub list_savable : (bs : List ℕ) {words : List ℕ} {n m : ℕ} {words' : List ℕ} → Reads bs words (Ok (record { n = n; m = m })) words' → length words ≡ words_room →
    (m ≤ max_rules) × Savable n (take (2 * m) words') words_room × (2 * m ≡ length (take (2 * m) words'))
list_savable bs {words} {n} {m} {words'} g e =
    let q = read_is_list bs words n m words' g in (
      omega (arith, q.count, q.savable.few),
      rw q.front (rw e at q.savable),
      omega (arith, ap length q.front, q.savable.even, q.count),
    )
