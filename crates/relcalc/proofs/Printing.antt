-- What is printed of a run's answer: the bytes that it has written, which are bytes of its buffer, and the line.
use Prim.Native.Nat.{ℕ, ◌≤◌}
use mathlib.Core.Path.{◌≡◌, refl, ap, ap₂, ◌∙◌}
use mathlib.Core.List.{List, ◌++◌}
use native.Mathlib.Omega.{arith}
use lib.ListN.{length, take, drop, length-append}
use Rattle.definition.specs.Text.{Text}
use Rattle.definition.specs.Limits.{Limits, document_01}
use Rattle.definition.specs.Answer.{Answer, ok, refused}
use Rattle.definition.specs.Accept.{Accepted, accept_store}
use Rattle.definition.specs.Run.{State}
use Rattle.definition.specs.Claim.{Shows, Ends}
use Rattle.definition.specs.Calls.{run_meets, RunMeets}
use Rattle.definition.specs.declared.Ending.{Ending}
use Rattle.definition.specs.declared.Ending.TheVariants.{Done, Spent, Full}
use Rattle.definition.specs.declared.Refusal.{Refusal}
use Rattle.definition.specs.declared.Stopped.{Stopped}
use Rattle.std.specs.Prelude.{Result, Ok, Err}
use Rattle.definition.proofs.AcceptLaws.{ok_injective}
use Rattle.page.specs.Closing.{LINE_BYTES, shown, Closes}
use Rattle.page.proofs.Closings.{page_parts, line_within, line_closes}
use Rattle.relcalc.specs.Prints.{BUDGET, Prints}

shows_within : {w : Accepted} {s : State} {store : List ℕ} {buffer : Text} {r : Stopped} {store' : List ℕ} {buffer' : Text} → Shows w s store buffer r store' buffer' → r.written ≤ length buffer'
shows_within {w} {s} {store} {buffer} h = omega (arith, h.written, ap length h.output, length-append s.output (drop (length s.output) buffer))

module _ (budget : ℕ) (store : List ℕ) (buffer : Text) (store' : List ℕ) (buffer' : Text) where
  ends_within : {w : Accepted} {r : Stopped} → Ends w budget store buffer r store' buffer' → r.written ≤ length buffer'
  ends_within {w} {r} e = go r.ending refl
    where
      go : (x : Ending) → r.ending ≡ x → r.written ≤ length buffer'
      go Done q = shows_within (e.at_done q)
      go Spent q = shows_within (e.at_spent q)
      go Full q = shows_within (e.at_full q).3

  answer_within : (x : Answer Accepted) (a : Result Stopped Refusal) → run_meets x budget store buffer a store' buffer' → shown a ≤ length buffer'
  answer_within x (Err q) h = omega arith
  answer_within (ok w) (Ok s) h = let e = ends_within h.demand_3.ends in omega (arith, ap (λ (r : Stopped). r.written) (ok_injective h.answer))
  answer_within (refused row place) (Ok s) h = let z : ◌≡◌ {A = ℕ} 0 1 = cc h.answer in absurd (omega arith)

  run_within : {limits : Limits} {facts query : Text} {a : Result Stopped Refusal} → RunMeets limits facts query budget store buffer a store' buffer' → shown a ≤ length buffer'
  run_within {limits} {facts} {query} {a} h = answer_within (accept_store limits facts query (length store)) a h.meets

pub prints : {facts query : Text} {store : List ℕ} {output line : Text} {a : Result Stopped Refusal} {n k : ℕ} {store' : List ℕ} {output' line' : Text}
    → RunMeets document_01 facts query BUDGET store output a store' output' → LINE_BYTES ≤ length line → n ≡ shown a → Closes a line k line'
    → Prints facts query store output line (record { output = n; line = k }) store' output' line'
prints {facts} {query} {store} {output} {line} {a} {n} {k} {store'} {output'} {line'} m h e p =
    record {
      answer = a;
      meets = m;
      closes = p;
      output_within = omega (arith, run_within BUDGET store output store' output' m);
      line_within = line_within h p;
      printed = ap₂ (λ (x y : Text). x ++ y) (ap (λ (j : ℕ). take j output') e) (line_closes h p) ∙ page_parts a output';
    }
