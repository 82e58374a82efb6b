-- Laws of bytes put at a place of an area: one after the other they are one text, and what has room as a whole has room piece by piece.
use mathlib.Core.Path.{◌≡◌, refl, ◌∙◌}
use mathlib.Core.List.{List, [], ◌∷◌, ◌++◌}
use Prim.Native.Nat.{ℕ, ◌+◌, ◌<◌}
use native.Mathlib.Omega.{arith}
use lib.ListN.{length, set, length-append}
use Rattle.meaning.proofs.AreaLaws.{over_at_length, over_at_one, over_at_append}
use Rattle.text.specs.declared.fields.Text.{Text}
use Rattle.text.specs.Inner.{Room, Puts, Grows}

-- the area keeps its length
pub puts_long : {bytes out : List ℕ} {at r : ℕ} {out' : List ℕ} → Puts bytes out at r out' → length out' ≡ length out
puts_long {bytes} {out} {at} p = rw p.put (over_at_length at bytes out p.room.fits)

-- a store is one byte put
pub puts_byte : (out : List ℕ) (at b : ℕ) → at < length out → Puts (b ∷ []) out at (at + 1) (set out at b)
puts_byte out at b h = record { room = record { fits = omega arith }; end = refl; put = over_at_one at b out h }

-- bytes put behind bytes
pub puts_append : {xs ys out out₁ out₂ : List ℕ} {at r s : ℕ} → Puts xs out at r out₁ → Puts ys out₁ r s out₂ → Puts (xs ++ ys) out at s out₂
puts_append {xs} {ys} {out} {out₁} {out₂} {at} {r} {s} p q =
    record {
      room = record { fits = omega (arith, p.end, q.room.fits, puts_long p, length-append xs ys) };
      end = omega (arith, p.end, q.end, length-append xs ys);
      put = q.put ∙ rw (p.put, p.end) (over_at_append at xs ys out (omega (arith, p.room.fits)));
    }

-- the first of two pieces has room where both have
pub room_first : (xs ys : List ℕ) (at : ℕ) (out : List ℕ) → Room (xs ++ ys) at out → Room xs at out
room_first xs ys at out h = record { fits = omega (arith, length-append xs ys, h.fits) }

-- and the second has where the first is put
pub room_rest : {xs out : List ℕ} {at r : ℕ} {out' : List ℕ} (ys : List ℕ) → Puts xs out at r out' → Room (xs ++ ys) at out → Room ys r out'
room_rest {xs} ys p h = record { fits = omega (arith, length-append xs ys, p.end, puts_long p, h.fits) }

-- a text that grows twice
pub grows_append : {xs ys : List ℕ} {text text' text'' : Text} → Grows xs text text' → Grows ys text' text'' → Grows (xs ++ ys) text text''
grows_append p q = record { same_area = q.same_area ∙ p.same_area; puts = puts_append p.puts q.puts }
