-- Lists of parts that lent words hold, and what the definition says of them.
use Prim.Native.Nat.{ℕ, suc, ◌+◌, ◌-◌, ◌<◌, ◌≤◌}
use mathlib.Core.Path.{◌≡◌, refl, sym, ap, subst, ◌∙◌}
use mathlib.Core.List.{List, [], ◌∷◌, ◌++◌}
use mathlib.Core.Bool.{Bool, true, false, cond}
use native.Mathlib.Omega.{arith}
use lib.Dec.{ltb}
use lib.ListN.{length, take, drop, length-append, length-drop, take-append-drop, length-map}
use lib.Seq.{take_at, drop_at, drop-drop, length-take-le}
use borrow.Author.Tests.{ltb-false, ltb-true}
use Rattle.definition.specs.Text.{Text, same, earlier}
use Rattle.definition.specs.Facts.{insert, Ascending}
use Rattle.definition.specs.Calls.{part_text}
use Rattle.definition.proofs.UniverseLaws.{insert_ascending}
use Rattle.parts.specs.Packed.{text_of}
use Rattle.parts.specs.Entries.{quoted_too, index, enter, enter_all, note, note_all, texts_of, in_front, count_in, Held}
use Rattle.std.specs.Prelude.{Some, None}
use Rattle.parts.proofs.PackLaws.{quoted_part}

pub length_texts : (facts query : Text) (ws : List ℕ) → length (texts_of facts query ws) ≡ length ws
length_texts facts query ws = length-map ws (text_of facts query)

quoted_text : (facts query : Text) (v w : ℕ) → text_of facts query (quoted_too v w) ≡ text_of facts query w
unfolding text_of
quoted_text facts query v w = ap (part_text facts query) (quoted_part v w)

-- the universe with one more
pub texts_enter : (facts query : Text) (v : ℕ) (ws : List ℕ) → texts_of facts query (enter facts query v ws) ≡ insert (text_of facts query v) (texts_of facts query ws)
unfolding enter insert
texts_enter facts query v [] = refl
texts_enter facts query v (w ∷ ws) = go (same t u) (earlier t u) (texts_enter facts query v ws)
  where
    t : Text
    t = text_of facts query v

    u : Text
    u = text_of facts query w

    go : (a b : Bool) → texts_of facts query (enter facts query v ws) ≡ insert t (texts_of facts query ws)
        → texts_of facts query (cond a (quoted_too v w ∷ ws) (cond b (v ∷ w ∷ ws) (w ∷ enter facts query v ws)))
        ≡ cond a (u ∷ texts_of facts query ws) (cond b (t ∷ u ∷ texts_of facts query ws) (u ∷ insert t (texts_of facts query ws)))
    go true b ih = ap (λ (x : Text). x ∷ texts_of facts query ws) (quoted_text facts query v w)
    go false true ih = refl
    go false false ih = ap (λ (xs : List Text). u ∷ xs) ih

-- entering keeps byte order
pub enter_ascending : (facts query : Text) (v : ℕ) (ws : List ℕ) → Ascending (texts_of facts query ws) → Ascending (texts_of facts query (enter facts query v ws))
enter_ascending facts query v ws a = subst Ascending (sym (texts_enter facts query v ws)) (insert_ascending (text_of facts query v) (texts_of facts query ws) a)

pub enter_all_ascending : (facts query : Text) (vs ws : List ℕ) → Ascending (texts_of facts query ws) → Ascending (texts_of facts query (enter_all facts query vs ws))
unfolding enter_all
enter_all_ascending facts query [] ws a = a
enter_all_ascending facts query (v ∷ vs) ws a = enter_all_ascending facts query vs (enter facts query v ws) (enter_ascending facts query v ws a)

pub enter_longer : (facts query : Text) (v : ℕ) (ws : List ℕ) → length ws ≤ length (enter facts query v ws)
unfolding enter
enter_longer facts query v [] = omega arith
enter_longer facts query v (w ∷ ws) = go (same (text_of facts query v) (text_of facts query w)) (earlier (text_of facts query v) (text_of facts query w)) (enter_longer facts query v ws)
  where
    go : (a b : Bool) → length ws ≤ length (enter facts query v ws) → suc (length ws) ≤ length (cond a (quoted_too v w ∷ ws) (cond b (v ∷ w ∷ ws) (w ∷ enter facts query v ws)))
    go true b h = omega arith
    go false true h = omega arith
    go false false h = omega arith

pub enter_all_longer : (facts query : Text) (vs ws : List ℕ) → length ws ≤ length (enter_all facts query vs ws)
unfolding enter_all
enter_all_longer facts query [] ws = omega arith
enter_all_longer facts query (v ∷ vs) ws = omega (arith, enter_longer facts query v ws, enter_all_longer facts query vs (enter facts query v ws))

pub enter_all_append : (facts query : Text) (vs us ws : List ℕ) → enter_all facts query (vs ++ us) ws ≡ enter_all facts query us (enter_all facts query vs ws)
unfolding enter_all
enter_all_append facts query [] us ws = refl
enter_all_append facts query (v ∷ vs) us ws = enter_all_append facts query vs us (enter facts query v ws)

pub note_all_append : (facts query : Text) (vs us ws : List ℕ) → note_all facts query (vs ++ us) ws ≡ note_all facts query us (note_all facts query vs ws)
unfolding note_all
note_all_append facts query [] us ws = refl
note_all_append facts query (v ∷ vs) us ws = note_all_append facts query vs us (note facts query v ws)

pub note_longer : (facts query : Text) (v : ℕ) (ws : List ℕ) → length ws ≤ length (note facts query v ws)
unfolding note
note_longer facts query v ws = go (ltb (index facts query v ws) (length ws))
  where
    go : (b : Bool) → length ws ≤ length (cond b ws (ws ++ (v ∷ [])))
    go true = omega arith
    go false = rw length-append (omega arith)

pub note_all_longer : (facts query : Text) (vs ws : List ℕ) → length ws ≤ length (note_all facts query vs ws)
unfolding note_all
note_all_longer facts query [] ws = omega arith
note_all_longer facts query (v ∷ vs) ws = omega (arith, note_longer facts query v ws, note_all_longer facts query vs (note facts query v ws))

-- words that hold a list
pub held_first : (words : List ℕ) (n : ℕ) → n ≤ length words → Held words words (take n words) n
held_first words n h = record { count = sym (length-take-le n words h); room = h; is = sym (take-append-drop n words) }

module _ {old words ws : List ℕ} {n : ℕ} (h : Held old words ws n) where
  pub held_take : take n words ≡ ws
  held_take = ap (take n) h.is ∙ take_at ws (drop n old) n (sym h.count)

  pub held_drop : drop n words ≡ drop n old
  held_drop = ap (drop n) h.is ∙ drop_at ws (drop n old) n (sym h.count)

  pub held_length : length words ≡ length old
  held_length = ap length h.is ∙ length-append ws (drop n old) ∙ rw length-drop (omega (arith, h.count, h.room))

  -- and then a longer list in its place
  pub held_then : {new es : List ℕ} {m : ℕ} → Held words new es m → n ≤ m → Held old new es m
  held_then {new} {es} {m} g l =
      let e : n + (m - n) ≡ m = omega arith in
      record {
        count = g.count;
        room = omega (arith, g.room, held_length);
        is =
            g.is
            ∙ ap (λ (k : ℕ). es ++ drop k words) (sym e)
            ∙ ap (λ (l : List ℕ). es ++ l) (sym (drop-drop (m - n) n words) ∙ ap (drop (m - n)) held_drop ∙ drop-drop (m - n) n old)
            ∙ ap (λ (k : ℕ). es ++ drop k old) e;
      }

-- what an answer of the code says of the words
module _ (words new es : List ℕ) (n : ℕ) (w : new ≡ in_front es words) where
  pub held_front : Some n ≡ count_in es words → Held words new es n
  held_front c = go (ltb (length words) (length es)) refl w c
    where
      go : (b : Bool) → ltb (length words) (length es) ≡ b → new ≡ cond b words (es ++ drop (length es) words) → Some n ≡ cond b None (Some (length es)) → Held words new es n
      go true e f g = let z : ◌≡◌ {A = ℕ} 0 1 = cc in absurd (omega arith)
      go false e f g =
          let k : n ≡ length es = cc in
          record { count = k; room = omega (arith, ltb-false (length words) (length es) e); is = rw k f }

pub no_room : (words es : List ℕ) → None ≡ count_in es words → length words < length es
no_room words es c = go (ltb (length words) (length es)) refl c
  where
    go : (b : Bool) → ltb (length words) (length es) ≡ b → None ≡ cond b None (Some (length es)) → length words < length es
    go true e g = ltb-true (length words) (length es) e
    go false e g = let z : ◌≡◌ {A = ℕ} 0 1 = cc in absurd (omega arith)
