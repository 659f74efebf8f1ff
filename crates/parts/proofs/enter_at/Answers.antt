use Prim.Native.Nat.{ℕ, suc, ◌<◌, ◌≤◌}
use mathlib.Core.Path.{sym, ap, subst, ◌∙◌}
use mathlib.Core.List.{◌∷◌, ◌++◌}
use native.Mathlib.Omega.{arith}
use lib.ListN.{take, drop}
use lib.Seq.{get_or-take}
use Rattle.parts.specs.Entries.{quoted_too}
use Rattle.parts.specs.Places.{entered_at, PlaceWithin}
use Rattle.parts.proofs.EntryLaws.{front_changed, front_full, front_longer}
use Rattle.parts.proofs.enter_at.Goals as goal

pub offset_bounds-words-p : goal.offset_bounds-words-p
offset_bounds-words-p c =
    let found_within : c.in-Ok.p < c.args.n = subst (PlaceWithin c.args.n) c.in-Ok.is c.requires.1 in
    omega (arith, found_within)

pub bounds-words-p : goal.bounds-words-p
bounds-words-p c =
    let found_within : c.in-Ok.p < c.args.n = subst (PlaceWithin c.args.n) c.in-Ok.is c.requires.1 in
    omega (arith, found_within)

pub offset_bounds-words-p-in-Ok : goal.offset_bounds-words-p-in-Ok
offset_bounds-words-p-in-Ok c =
    let found_within : c.in-Ok.p < c.args.n = subst (PlaceWithin c.args.n) c.in-Ok.is c.requires.1 in
    omega (arith, found_within)

pub bounds-words-p-in-Ok : goal.bounds-words-p-in-Ok
bounds-words-p-in-Ok c =
    let found_within : c.in-Ok.p < c.args.n = subst (PlaceWithin c.args.n) c.in-Ok.is c.requires.1 in
    omega (arith, found_within)

pub returns-then-n-words : goal.returns-then-n-words
returns-then-n-words c =
    let h = let new_within : c.in-Err.p ≤ c.args.n = subst (PlaceWithin c.args.n) c.in-Err.is c.requires.1 in
    let p = c.in-Err.p in
    front_full c.args.words.now c.args.n c.requires.0 p _ c.args.v (new_within) (ap (entered_at c.args.v (take c.args.n c.args.words.now)) c.in-Err.is) c.if-n-words.true in
    record { value = h.0; words = h.1 }

pub insert_at-requires : goal.insert_at-requires
insert_at-requires c =
    let new_within : c.in-Err.p ≤ c.args.n = subst (PlaceWithin c.args.n) c.in-Err.is c.requires.1 in
    (new_within, omega (arith, c.requires.0, c.if-n-words.false))

pub returns-in-Ok : goal.returns-in-Ok
returns-in-Ok c =
    let h = let found_within : c.in-Ok.p < c.args.n = subst (PlaceWithin c.args.n) c.in-Ok.is c.requires.1 in
    let t = take c.args.n c.args.words.now in
    let p = c.in-Ok.p in
    let h = found_within in
    front_changed c.args.words.now c.args.n c.requires.0 p _ c.quoted_too.result h
    (ap (entered_at c.args.v t) c.in-Ok.is
    ∙ ap (λ (k : ℕ). take p t ++ k ∷ drop (suc p) t) (ap (quoted_too c.args.v) (get_or-take c.args.n c.args.words.now p 0 h) ∙ sym c.quoted_too.ensures)) in
    record { value = h.0; words = h.1 }

pub returns-else-n-words : goal.returns-else-n-words
returns-else-n-words c =
    let new_within : c.in-Err.p ≤ c.args.n = subst (PlaceWithin c.args.n) c.in-Err.is c.requires.1 in
    let p = c.in-Err.p in
    let g = front_longer c.args.words.now c.args.n c.requires.0 p _ c.args.v (new_within) (ap (entered_at c.args.v (take c.args.n c.args.words.now)) c.in-Err.is) (omega (arith, c.requires.0, c.if-n-words.false)) in
    record { value = g.0; words = c.insert_at.ensures ∙ g.1 }
