-- A store that begins with the tables' words holds each relation's tuples.
use Prim.Native.Nat.{ℕ, ◌<◌}
use mathlib.Core.Path.{◌≡◌, sym, ap, ap₂, ◌∙◌}
use mathlib.Core.List.{List, [], ◌++◌}
use native.Mathlib.Omega.{arith}
use lib.ListN.{length, get_or, take, drop, take-append-drop}
use Rattle.definition.specs.Text.{Text}
use Rattle.definition.specs.Tables.{holds, table_words}
use Rattle.definition.specs.Accept.{Accepted, elements, relation_words}
use Rattle.definition.specs.Meaning.{Tables}
use Rattle.definition.specs.Claim.{table_image}
use Rattle.definition.proofs.RunLaws.{Shaped}
use Rattle.definition.proofs.RelationLaws.{place_of, table_of_at, shaped_length, shaped_at, words_before}
use Rattle.tuples.proofs.Tables.{word_lt_words}
use Rattle.tuples.proofs.Images.{image_holds}
use Rattle.meaning.specs.Ready.{Tabled}

module _ (w : Accepted) (β : Text → ℕ) (loops : List Text) (vs : List ℕ) (ts : Tables) (firsts : List ℕ) (shaped : Shaped (elements w) w.relations ts)
    (places : (i : ℕ) → i < length w.relations → get_or firsts i 0 ≡ relation_words (elements w) (take i w.relations)) where
  pub stored : (s : List ℕ) → take (relation_words (elements w) w.relations) s ≡ table_image ts → Tabled w β loops vs ts s firsts
  stored s e =
      record {
        same = λ r t h a b.
            let u = elements w in
            let i = place_of r w.relations in
            let z = drop (relation_words u w.relations) s in
            let whole : s ≡ table_image ts ++ z = sym (take-append-drop (relation_words u w.relations) s) ∙ ap (λ (l : List ℕ). l ++ z) e in
            let l : i < length ts = omega (arith, shaped_length shaped) in
            let n : length (get_or ts i []) ≡ table_words u (length t) = shaped_at shaped i h ∙ ap (table_words u) (sym a) in
            ap₂ (λ (o : ℕ) (x : List ℕ). holds u (drop o x) t) (places i h) whole
            ∙ image_holds ts i z l (relation_words u (take i w.relations)) u (words_before shaped i) t (rw n (word_lt_words u t b))
            ∙ ap (λ (x : List ℕ). holds u x t) (sym (table_of_at r shaped));
      }
