-- `turn` meets its contract: each of its three ends is a law of Turning.
use Prim.Native.Nat.{ℕ, ◌+◌, ◌-◌, ◌*◌, ◌≤◌, ◌<◌}
use mathlib.Core.Path.{◌≡◌, refl, sym, ap, ◌∙◌}
use mathlib.Core.Logic.{◌≢◌}
use native.Mathlib.Omega.{arith}
use Rattle.components.specs.Walk.{Walking, or_zero, Scanned, walking}
use Rattle.moves.specs.Layout.{trail, spare}
use Rattle.components.proofs.Storing.{pushed_at}
use Rattle.components.proofs.Turning.{last_place, last_code, Last, Looked, looked, alike_by, turns_by, last_of, low_lt, cursor_lt, hit_lt, noted_stacked, not_first, before_last, turn_push, turn_close, turn_drop}
use Rattle.moves.proofs.Places.{tables}
use Rattle.components.proofs.tables.Walk.turn.Goals as goal

pub path_end-place-requires : goal.path_end-place-requires
path_end-place-requires c = let end : Last c.args.self.now.n c.args.self.now.tables.now c.args.self.now.top c.args.self.now.depth = last_of c.requires.linked.sizes c.requires.running.0 c.requires.running.1 in
    omega (arith, c.requires.running.0, end.few, end.path)

pub stacked-a-requires : goal.stacked-a-requires
stacked-a-requires c = let end : Last c.args.self.now.n c.args.self.now.tables.now c.args.self.now.top c.args.self.now.depth = last_of c.requires.linked.sizes c.requires.running.0 c.requires.running.1 in
    let at : c.path_end-place.result ≡ last_place c.args.self.now.n c.args.self.now.tables.now c.args.self.now.depth = c.path_end-place.ensures in
    omega (arith, at, end.place, end.few)

pub note-requires : goal.note-requires
note-requires c = let end : Last c.args.self.now.n c.args.self.now.tables.now c.args.self.now.top c.args.self.now.depth = last_of c.requires.linked.sizes c.requires.running.0 c.requires.running.1 in
    let at : c.path_end-place.result ≡ last_place c.args.self.now.n c.args.self.now.tables.now c.args.self.now.depth = c.path_end-place.ensures in
    let code : c.stacked-a.result.0 ≡ last_code c.args.self.now.n c.args.self.now.tables.now c.args.self.now.depth = c.stacked-a.ensures ∙ ap (trail c.args.self.now.n c.args.self.now.tables.now) at in
    let found : Scanned c.args.self.now.n c.args.self.now.words.now c.args.self.now.tables.now (last_code c.args.self.now.n c.args.self.now.tables.now c.args.self.now.depth) c.scan-found.result.cursor c.scan-found.result.low (or_zero c.scan-found.result.down) = rw code at c.scan-found.ensures in
    (omega (arith, code, end.code), cursor_lt c.requires.linked.sizes c.requires.running.0 c.requires.running.1 found, low_lt c.requires.linked.sizes c.requires.running.0 c.requires.running.1 found)

pub push-requires : goal.push-requires
push-requires c = let v : Looked (walking c.args.self.now) (walking c.note.new.self) c.path_end-place.result c.stacked-a.result.0 c.scan-found.result.cursor c.scan-found.result.low (or_zero c.scan-found.result.down) =
    looked c.requires.linked.sizes c.requires.running.0 c.requires.running.1 c.path_end-place.ensures c.stacked-a.ensures c.scan-found.ensures c.note.ensures.noted in
    let hit : or_zero c.scan-found.result.down ≡ c.in-Some.z.0 + 1 = ap or_zero c.in-Some.is in
    let p : 0 < or_zero c.scan-found.result.down = omega (arith, hit) in
    let g = hit_lt c.requires.linked.sizes c.requires.running.0 c.requires.running.1 v.found p in
    omega (arith, hit, g, v.n, v.top, v.depth)

pub returns-in-Some-clause-turns : goal.returns-in-Some-clause-turns
returns-in-Some-clause-turns c = let v : Looked (walking c.args.self.now) (walking c.note.new.self) c.path_end-place.result c.stacked-a.result.0 c.scan-found.result.cursor c.scan-found.result.low (or_zero c.scan-found.result.down) =
    looked c.requires.linked.sizes c.requires.running.0 c.requires.running.1 c.path_end-place.ensures c.stacked-a.ensures c.scan-found.ensures c.note.ensures.noted in
    let hit : or_zero c.scan-found.result.down ≡ c.in-Some.z.0 + 1 = ap or_zero c.in-Some.is in
    let p : 0 < or_zero c.scan-found.result.down = omega (arith, hit) in
    let g = hit_lt c.requires.linked.sizes c.requires.running.0 c.requires.running.1 v.found p in
    turns_by (walking c.args.self.now) (walking c.note.new.self) v.n v.words c.push.ensures.pushed
    (rw (v.n, v.top, v.depth) (turn_push c.requires.linked.sizes c.requires.running.0 c.requires.running.1 v.found v.noted p
    (pushed_at (omega (arith, hit)) (omega (arith, hit, g.0)) g.1 g.2 (omega (arith, v.noted.long, tables c.requires.linked.sizes)) refl)))

pub overflow_add-place : goal.overflow_add-place
overflow_add-place c = let v : Looked (walking c.args.self.now) (walking c.note.new.self) c.path_end-place.result c.stacked-a.result.0 c.scan-found.result.cursor c.scan-found.result.low (or_zero c.scan-found.result.down) =
    looked c.requires.linked.sizes c.requires.running.0 c.requires.running.1 c.path_end-place.ensures c.stacked-a.ensures c.scan-found.ensures c.note.ensures.noted in
    omega (arith, v.at, v.end.place, v.end.few, c.requires.linked.sizes.few)

pub close-requires : goal.close-requires
close-requires c = let v : Looked (walking c.args.self.now) (walking c.note.new.self) c.path_end-place.result c.stacked-a.result.0 c.scan-found.result.cursor c.scan-found.result.low (or_zero c.scan-found.result.down) =
    looked c.requires.linked.sizes c.requires.running.0 c.requires.running.1 c.path_end-place.ensures c.stacked-a.ensures c.scan-found.ensures c.note.ensures.noted in
    rw (v.n, v.top) (omega (arith, v.at, v.end.place), noted_stacked c.requires.linked.sizes c.requires.running.0 c.requires.running.1 v.found v.noted)

pub returns-then-found-place-clause-turns : goal.returns-then-found-place-clause-turns
returns-then-found-place-clause-turns c = let v : Looked (walking c.args.self.now) (walking c.note.new.self) c.path_end-place.result c.stacked-a.result.0 c.scan-found.result.cursor c.scan-found.result.low (or_zero c.scan-found.result.down) =
    looked c.requires.linked.sizes c.requires.running.0 c.requires.running.1 c.path_end-place.ensures c.stacked-a.ensures c.scan-found.ensures c.note.ensures.noted in
    let none : or_zero c.scan-found.result.down ≡ 0 = ap or_zero c.in_default.is in
    let depth : c.close.new.self.depth ≡ c.args.self.now.depth = ap (λ (w : Walking). w.depth) c.close.ensures.closes.retabled ∙ v.depth in
    let closed = alike_by (walking c.args.self.now) (walking c.note.new.self) v.n v.words c.close.ensures.closes.retabled in
    turns_by (walking c.args.self.now) (walking c.close.new.self) closed.n closed.words c.back_to.ensures.moved
    (rw (depth, v.at) (turn_close c.requires.linked.sizes c.requires.running.0 c.requires.running.1 v.found v.noted none
    (c.if-found-place.true ∙ ap (λ (x : ℕ). x + 1) v.at) (rw (v.n, v.top, v.at) at c.close.ensures.closes.closed)))

pub path_end-requires : goal.path_end-requires
path_end-requires c = let v : Looked (walking c.args.self.now) (walking c.note.new.self) c.path_end-place.result c.stacked-a.result.0 c.scan-found.result.cursor c.scan-found.result.low (or_zero c.scan-found.result.down) =
    looked c.requires.linked.sizes c.requires.running.0 c.requires.running.1 c.path_end-place.ensures c.stacked-a.ensures c.scan-found.ensures c.note.ensures.noted in
    let none : or_zero c.scan-found.result.down ≡ 0 = ap or_zero c.in_default.is in
    let no_root : c.scan-found.result.low ≢ last_place c.args.self.now.n c.args.self.now.tables.now c.args.self.now.depth + 1 = λ u. c.if-found-place.false (u ∙ ap (λ (x : ℕ). x + 1) (sym v.at)) in
    let two_at_least : 2 ≤ c.args.self.now.depth = not_first c.requires.linked.sizes c.requires.running.0 c.requires.running.1 v.found v.noted none no_root in
    omega (arith, two_at_least, v.depth, v.n, v.end.few, v.end.path)

pub stacked-b-requires : goal.stacked-b-requires
stacked-b-requires c = let v : Looked (walking c.args.self.now) (walking c.note.new.self) c.path_end-place.result c.stacked-a.result.0 c.scan-found.result.cursor c.scan-found.result.low (or_zero c.scan-found.result.down) =
    looked c.requires.linked.sizes c.requires.running.0 c.requires.running.1 c.path_end-place.ensures c.stacked-a.ensures c.scan-found.ensures c.note.ensures.noted in
    let none : or_zero c.scan-found.result.down ≡ 0 = ap or_zero c.in_default.is in
    let no_root : c.scan-found.result.low ≢ last_place c.args.self.now.n c.args.self.now.tables.now c.args.self.now.depth + 1 = λ u. c.if-found-place.false (u ∙ ap (λ (x : ℕ). x + 1) (sym v.at)) in
    let two_at_least : 2 ≤ c.args.self.now.depth = not_first c.requires.linked.sizes c.requires.running.0 c.requires.running.1 v.found v.noted none no_root in
    let before : (c.path_end.result < c.args.self.now.top) × (trail c.args.self.now.n c.note.new.self.tables.now c.path_end.result < 2 * c.args.self.now.n) = rw (rw (v.n, v.depth) at c.path_end.ensures) (before_last c.requires.linked.sizes c.requires.running.0 c.requires.running.1 v.found v.noted two_at_least) in
    omega (arith, before.0, v.end.few, v.n)

pub lower-requires : goal.lower-requires
lower-requires c = let v : Looked (walking c.args.self.now) (walking c.note.new.self) c.path_end-place.result c.stacked-a.result.0 c.scan-found.result.cursor c.scan-found.result.low (or_zero c.scan-found.result.down) =
    looked c.requires.linked.sizes c.requires.running.0 c.requires.running.1 c.path_end-place.ensures c.stacked-a.ensures c.scan-found.ensures c.note.ensures.noted in
    let none : or_zero c.scan-found.result.down ≡ 0 = ap or_zero c.in_default.is in
    let no_root : c.scan-found.result.low ≢ last_place c.args.self.now.n c.args.self.now.tables.now c.args.self.now.depth + 1 = λ u. c.if-found-place.false (u ∙ ap (λ (x : ℕ). x + 1) (sym v.at)) in
    let two_at_least : 2 ≤ c.args.self.now.depth = not_first c.requires.linked.sizes c.requires.running.0 c.requires.running.1 v.found v.noted none no_root in
    let before : (c.path_end.result < c.args.self.now.top) × (trail c.args.self.now.n c.note.new.self.tables.now c.path_end.result < 2 * c.args.self.now.n) = rw (rw (v.n, v.depth) at c.path_end.ensures) (before_last c.requires.linked.sizes c.requires.running.0 c.requires.running.1 v.found v.noted two_at_least) in
    let b : c.stacked-b.result.0 ≡ trail c.args.self.now.n c.note.new.self.tables.now c.path_end.result = rw v.n at c.stacked-b.ensures in
    (omega (arith, b, before.1, v.n), low_lt c.requires.linked.sizes c.requires.running.0 c.requires.running.1 v.found)

pub returns-clause-turns : goal.returns-clause-turns
returns-clause-turns c = let v : Looked (walking c.args.self.now) (walking c.note.new.self) c.path_end-place.result c.stacked-a.result.0 c.scan-found.result.cursor c.scan-found.result.low (or_zero c.scan-found.result.down) =
    looked c.requires.linked.sizes c.requires.running.0 c.requires.running.1 c.path_end-place.ensures c.stacked-a.ensures c.scan-found.ensures c.note.ensures.noted in
    let none : or_zero c.scan-found.result.down ≡ 0 = ap or_zero c.in_default.is in
    let no_root : c.scan-found.result.low ≢ last_place c.args.self.now.n c.args.self.now.tables.now c.args.self.now.depth + 1 = λ u. c.if-found-place.false (u ∙ ap (λ (x : ℕ). x + 1) (sym v.at)) in
    let b : c.stacked-b.result.0 ≡ trail c.args.self.now.n c.note.new.self.tables.now c.path_end.result = rw v.n at c.stacked-b.ensures in
    let place : c.path_end.result ≡ spare c.args.self.now.n c.note.new.self.tables.now (c.args.self.now.depth - 2) = rw (v.n, v.depth) at c.path_end.ensures in
    let top : c.top.result ≡ c.args.self.now.top = c.top.ensures.top ∙ ap (λ (w : Walking). w.top) c.lower.ensures.retabled ∙ v.top in
    let depth : c.lower.new.self.depth ≡ c.args.self.now.depth = ap (λ (w : Walking). w.depth) c.lower.ensures.retabled ∙ v.depth in
    let lowered = alike_by (walking c.args.self.now) (walking c.note.new.self) v.n v.words c.lower.ensures.retabled in
    turns_by (walking c.args.self.now) (walking c.lower.new.self) lowered.n lowered.words c.back_to-2.ensures.moved
    (rw (top, depth) (turn_drop c.requires.linked.sizes c.requires.running.0 c.requires.running.1 v.found v.noted none no_root
    (b ∙ ap (trail c.args.self.now.n c.note.new.self.tables.now) place) (rw v.n at c.lower.ensures.lifted)))
