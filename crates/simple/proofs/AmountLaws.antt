-- An item that begins with a quantity: alone, or beside a sign.
use Rattle.std.specs.Prelude.{Ok, Err}
use mathlib.Core.List.{List, [], ◌∷◌, ◌++◌}
use mathlib.Core.Path.{◌≡◌, refl, sym, subst}
use native.Mathlib.Omega.{arith}
use Prim.Native.Nat.{ℕ, ◌+◌, ◌-◌, ◌≤◌, ◌<◌}
use lib.ListN.{length}
use Rattle.definition.proofs.GrammarReads.{read!, fail!, as!, as_fails!, ◌▸◌, ◌▹◌, stop!, done! }
use Rattle.definition.proofs.GrammarStatements.{item_quantity_rule, item_figures_rule, item_alone! }
use Rattle.definition.specs.Grammar.{Tree, Quantity}
use Rattle.definition.specs.Grammar as Grammar
use Rattle.definition.specs.Syntax.{says}
use Rattle.definition.specs.Token.{Token}
use Rattle.expressions.proofs.OperatorLaws.{paid_of, got_of}
use Rattle.expressions.proofs.QuantityLaws.{figures_wrote}
use Rattle.expressions.specs.Operators.{Joined}
use Rattle.lexer.specs.Tokens.{sign_of}
use Rattle.simple.proofs.ItemLaws.{rows_words}
use Rattle.simple.specs.Statements.{IsItem, ItemRoom, ItemClosed}
use Rattle.terms.proofs.TokenLaws.{sign_first, not_sign, begins_one}
use Rattle.terms.proofs.WriteLaws.{wrote_next, wrote_as}
use Rattle.terms.specs.declared.ParseError.{ParseError}
use Rattle.terms.specs.Phrases.{Answer, kind_in, Wrote, parsed, far, IsQuantity}
use Rattle.terms.specs.Terms.{FirstOfQuantity}
use Rattle.words.specs.Fields.{word, AMOUNT, ROWS, FIGURES}
use Rattle.words.specs.Raw.{flat, flat_item}

amount_words : (ts : List Token) (t : Tree Quantity) (n : ℕ) → flat (says ts t) n ++ (word AMOUNT n 0 0 ∷ []) ≡ flat_item (says ts (Grammar.item_quantity t)) n
unfolding says flat_item
amount_words ts t n = refl

module _ {ws : List ℕ} {p n d : ℕ} {A A₁ : List ℕ} {a : Answer} (u : FirstOfQuantity (kind_in ws p)) (h : IsQuantity ws p n d A A₁ a) where
  pub amount_stops : {why : ParseError} → a ≡ Err why → IsItem ws p n d A A₁ (Err why)
  amount_stops i = record {
    bounds = subst (far ws p n) i h.bounds;
    at = λ ts g. as_fails! (item_quantity_rule (begins_one ws p u)) (stop! (subst (parsed Quantity (λ ts t. says ts t) ws ts p n d A A₁) i (h.at ts g)));
  }

  module _ {q m : ℕ} (i : a ≡ Ok (q, m)) where
    pub amount_alone : {A₂ : List ℕ} {r : Answer} → (41 ≤ kind_in ws q → kind_in ws q ≤ 46 → ⊥) → ItemClosed AMOUNT n 0 A₁ A₂ (Ok (q, m)) r → IsItem ws p n d A A₂ r
    amount_alone {A₂} e j =
        let o = paid_of h i in
        subst (IsItem ws p n d A A₂) (sym j.0) (record {
          bounds = record { more = omega arith; ahead = omega arith; paid = omega arith; within = o.within };
          at = λ ts g. let f = got_of h i ts g in record {
            tree = Grammar.item_quantity f.tree;
            reads = as! (item_quantity_rule (begins_one ws p u)) (f.reads ▸ item_alone! (not_sign ws q e) ▸ done!);
            wrote = subst (Wrote A n (flat_item (says ts (Grammar.item_quantity f.tree)) n) (m + 1)) (sym j.1) (wrote_as (amount_words ts f.tree n) (wrote_next f.wrote (word AMOUNT n 0 0)));
          };
        })

    pub amount_compared : d ≤ 32 → 41 ≤ kind_in ws q → kind_in ws q ≤ 46 → {A₂ : List ℕ} (A₃ : List ℕ) {A₄ : List ℕ} {b : Answer} (c : Answer) {r : Answer} → IsQuantity ws (q + 1) m d A₁ A₂ b → Joined FIGURES m (kind_in ws q - 41) A₂ A₃ b c → ItemClosed ROWS n 0 A₃ A₄ c r → IsItem ws p n d A A₄ r
    amount_compared l low high {A₂} A₃ {A₄} {b} c {r} v j k = by b v j
      where
        by : (b : Answer) → IsQuantity ws (q + 1) m d A₁ A₂ b → Joined FIGURES m (kind_in ws q - 41) A₂ A₃ b c → IsItem ws p n d A A₄ r
        by (Ok (q', l')) v j =
            let o = paid_of h i in
            let o' = v.bounds in
            let w = subst (λ c. ItemClosed ROWS n 0 A₃ A₄ c r) j.0 k in
            subst (IsItem ws p n d A A₄) (sym w.0) (record {
              bounds = record { more = omega arith; ahead = omega arith; paid = omega arith; within = o'.within };
              at = λ ts g. let f = got_of h i ts g in let f' = v.at ts g in record {
                tree = Grammar.item_expression (Grammar.figures f.tree (sign_of (kind_in ws q)) f'.tree);
                reads = as! (item_quantity_rule (begins_one ws p u)) (f.reads ▸ read! item_figures_rule l (sign_first ws q low high) (f'.reads ▸ done!) ▸ done!);
                wrote = subst (Wrote A n (flat_item (says ts (Grammar.item_expression (Grammar.figures f.tree (sign_of (kind_in ws q)) f'.tree))) n) (l' + 1 + 1)) (sym w.1) (wrote_as (rows_words ts (Grammar.figures f.tree (sign_of (kind_in ws q)) f'.tree) n) (wrote_next (figures_wrote ts f.tree f'.tree low high f.wrote f'.wrote j.1) (word ROWS n 0 0)));
              };
            })
        by (Err why) v j =
            let w = subst (λ c. ItemClosed ROWS n 0 A₃ A₄ c r) j k in
            subst (IsItem ws p n d A A₄) (sym w) (record {
              bounds = v.bounds;
              at = λ ts g. as_fails! (item_quantity_rule (begins_one ws p u)) ((got_of h i ts g).reads ▹ stop! (fail! item_figures_rule l (sign_first ws q low high) (stop! (v.at ts g))));
            })

-- room for the item's word after the word over two quantities
pub compared_room : {ws : List ℕ} {p d m M i s : ℕ} {A A' : List ℕ} {b : Answer} (g : ℕ) (B B' : List ℕ) (c : Answer) → IsQuantity ws p m d A A' b → Joined FIGURES m g B B' b c → m + 1 < p → i < 65536 → s < 65536 → length ws ≤ M → ItemRoom M ROWS i s c
compared_room {ws} {p} {d} {m} {M} {i} {s} {A} {A'} {b} g B B' c v j hp hi hs hm = by b v j
  where
    by : (b : Answer) → IsQuantity ws p m d A A' b → Joined FIGURES m g B B' b c → ItemRoom M ROWS i s c
    by (Ok (q, l)) v j = let o = v.bounds in subst (ItemRoom M ROWS i s) (sym j.0) (omega (arith, o.paid, o.within), (omega arith, (hi, hs)))
    by (Err why) v j = subst (ItemRoom M ROWS i s) (sym j) tt
