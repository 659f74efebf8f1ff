-- The closing line, part by part, and its length.
use Prim.Native.Nat.{ℕ, ◌+◌, ◌<◌, ◌≤◌}
use mathlib.Core.Path.{◌≡◌, refl, sym, ap, ap₂, ◌∙◌}
use mathlib.Core.Bool.{Bool, true, cond}
use mathlib.Core.List.{List, [], ◌∷◌, ◌++◌, append_assoc}
use native.Mathlib.Omega.{arith}
use native.Mathlib.Nat.{min-eq_left}
use borrow.Author.Tests.{lt-ltb, le-ltb}
use lib.Dec.{ltb}
use lib.ListN.{length, take, drop, length-append}
use lib.Seq.{sets-eq, take_at}
use Rattle.definition.specs.Text.{Text, ascii}
use Rattle.definition.specs.Answer.{ok, refusal, number, place, ending_word}
use Rattle.definition.specs.Calls.{ran_answer}
use Rattle.definition.specs.Decimals.{decimal}
use Rattle.definition.specs.Page.{page}
use Rattle.definition.specs.declared.Ending.{Ending}
use Rattle.definition.specs.declared.Ending.TheVariants.{Done, Spent, Full}
use Rattle.definition.specs.declared.Refusal.{Refusal}
use Rattle.definition.specs.declared.Stopped.{Stopped}
use Rattle.std.specs.Prelude.{Result, Ok, Err}
use Rattle.lines.specs.Put.{Put}
use Rattle.lines.proofs.Digits.{few_digits}
use Rattle.page.specs.Closing.{LINE_BYTES, closing, refusal_text, shown, Closes}

-- the line of a run that ended, and that of a refusal
pub stopped_line : (s : Stopped) → (ending_word s.ending ++ (32 ∷ decimal s.steps)) ++ (10 ∷ []) ≡ page (ok s) []
unfolding page
stopped_line s = append_assoc (ending_word s.ending) (32 ∷ decimal s.steps) (10 ∷ [])

pub refusal_parts : (q : Refusal) {m e : ℕ} → m ≡ number q → e ≡ place q → (ascii "refused" ++ (32 ∷ decimal m)) ++ (32 ∷ decimal e) ≡ refusal_text q
refusal_parts q f g = rw (f, g) refl

pub refused_line : (q : Refusal) → refusal_text q ++ (10 ∷ []) ≡ page (refusal q) []
unfolding page
refused_line q = ap (λ (x : Text). ascii "refused " ++ x) (append_assoc (decimal (number q)) (32 ∷ decimal (place q)) (10 ∷ []))

few_in_word : (e : Ending) → length (ending_word e) ≤ 5
few_in_word Done = omega arith
few_in_word Spent = omega arith
few_in_word Full = omega arith

-- no line is longer than LINE-BYTES
pub few_in_line : (a : Result Stopped Refusal) → length (closing a) ≤ LINE_BYTES
unfolding page
few_in_line (Ok s) =
    let d = decimal s.steps in
    omega (arith, length-append (ending_word s.ending) (32 ∷ (d ++ (10 ∷ []))), length-append d (10 ∷ []), few_in_word s.ending, few_digits 10 s.steps)
few_in_line (Err q) =
    let m = decimal (number q) in
    let e = decimal (place q) in
    omega (arith, length-append m (32 ∷ (e ++ (10 ∷ []))), length-append e (10 ∷ []), few_digits 10 (number q), few_digits 10 (place q))

-- a buffer that is too short, and one that has the line put to its start
pub closes_short : (a : Result Stopped Refusal) (buffer : List ℕ) → length buffer < LINE_BYTES → Closes a buffer 0 buffer
closes_short a buffer h = record { count = simp (lt-ltb (length buffer) LINE_BYTES h); bytes = simp (lt-ltb (length buffer) LINE_BYTES h) }

pub closes_put : (a : Result Stopped Refusal) (buffer : List ℕ) {n : ℕ} {buffer' : List ℕ} → LINE_BYTES ≤ length buffer → Put true buffer 0 (closing a) n buffer' → Closes a buffer n buffer'
closes_put a buffer {n} {buffer'} h p =
    let l = few_in_line a in
    let z : 0 + length (closing a) ≡ length (closing a) = omega arith in
    record {
      count = p.end ∙ min-eq_left (omega arith) ∙ z ∙ ap (λ (b : Bool). cond b 0 (length (closing a))) (sym (le-ltb (length buffer) LINE_BYTES h));
      bytes =
          p.bytes ∙ sets-eq (closing a) buffer 0 (omega arith) ∙ ap (λ (k : ℕ). closing a ++ drop k buffer) z
          ∙ ap (λ (b : Bool). cond b buffer (closing a ++ drop (length (closing a)) buffer)) (sym (le-ltb (length buffer) LINE_BYTES h));
    }

-- what is printed before the line and the line are the page
pub page_parts : (a : Result Stopped Refusal) (output : Text) → take (shown a) output ++ closing a ≡ page (ran_answer a) (take (shown a) output)
unfolding page
page_parts (Ok s) output = refl
page_parts (Err q) output = refl

-- the line in a buffer that is long enough
module _ {a : Result Stopped Refusal} {buffer : List ℕ} {n : ℕ} {buffer' : List ℕ} (h : LINE_BYTES ≤ length buffer) (p : Closes a buffer n buffer') where
  closed : n ≡ length (closing a)
  closed = p.count ∙ ap (λ (b : Bool). cond b 0 (length (closing a))) (le-ltb (length buffer) LINE_BYTES h)

  with_line : buffer' ≡ closing a ++ drop (length (closing a)) buffer
  with_line = p.bytes ∙ ap (λ (b : Bool). cond b buffer (closing a ++ drop (length (closing a)) buffer)) (le-ltb (length buffer) LINE_BYTES h)

  pub line_within : n ≤ length buffer'
  line_within = omega (arith, closed, ap length with_line, length-append (closing a) (drop (length (closing a)) buffer))

  pub line_closes : take n buffer' ≡ closing a
  line_closes = ap₂ take closed with_line ∙ take_at (closing a) (drop (length (closing a)) buffer) (length (closing a)) refl
