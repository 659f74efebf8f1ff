-- The number of tuples of a table: the ones of its words, whatever its arity; and the counts of a run, after any number of steps.
use mathlib.Core.Path.{◌≡◌, refl, sym, ap, ap₂, subst, ◌∙◌}
use mathlib.Core.Bool.{Bool, true, false, cond}
use mathlib.Core.List.{List, [], ◌∷◌, ◌++◌, map, append_assoc, append-nil}
use Prim.Native.Nat.{ℕ, zero, suc, ◌+◌, ◌-◌, ◌*◌, ◌/◌, ◌%◌, ◌<◌}
use native.Mathlib.Nat.{add-zero, zero-add, add_assoc}
use native.Mathlib.Omega.{arith}
use lib.Count.{ones, ones_step}
use lib.ListN.{length, drop, replicate, length-append, length-map}
use lib.Seq.{take_at, drop_at}
use Rattle.definition.specs.Text.{Text, same, keep, gather, from, below, some_of}
use Rattle.definition.specs.Limits.{Limits}
use Rattle.definition.specs.Answer.{Answer, ok}
use Rattle.definition.specs.Syntax.{Term, Expression}
use Rattle.definition.specs.Facts.{Relation}
use Rattle.definition.specs.Tables.{Tuple, holds, word, table, table_words, tuples, tuple_count}
use Rattle.definition.specs.Accept.{Accepted, accept_store, elements, scratch_words, words_needed}
use Rattle.definition.specs.Meaning.{Tables, Environment}
use Rattle.definition.specs.Assignment.{loaded, fact_holds, assigned, assign_tables}
use Rattle.definition.specs.Run.{Task, assigning, printing, testing, repeating, ranging, taking, step, next_of, start, point}
use Rattle.definition.specs.Claim.{table_image, store_image, FirstUnfit, Shows, Ends}
use Rattle.definition.specs.Calls.{counts_from, counts, CountsMeet, counts_meet, RunMeets, run_meets, RunEnds, ran_answer}
use Rattle.definition.specs.declared.Ending.{Ending}
use Rattle.definition.specs.declared.Ending.TheVariants.{Done, Spent, Full}
use Rattle.definition.specs.declared.Stopped.{Stopped}
use Rattle.std.specs.Prelude.{Result}
use Rattle.definition.specs.declared.Refusal.{Refusal}
use Rattle.definition.proofs.TableLaws.{Below, holds_table}
use Rattle.definition.proofs.TupleLaws.{keep_map, keep_gather, gather_ext, keep_singles}
use Rattle.definition.proofs.RunLaws.{Shaped, none, one, point_shaped}
use Rattle.definition.proofs.Claims.{no, done_spent, done_full, spent_full}

-- ---- the ones of a table's words

-- the ones of some words
unfoldable pub all_ones : List ℕ → ℕ
all_ones [] = 0
all_ones (w ∷ ws) = ones w + all_ones ws

pub ones_append : (xs ys : List ℕ) → all_ones (xs ++ ys) ≡ all_ones xs + all_ones ys
unfolding all_ones
ones_append [] ys = sym (zero-add (all_ones ys))
ones_append (x ∷ xs) ys = rw (ones_append xs ys) (sym (add_assoc (ones x) (all_ones xs) (all_ones ys)))

-- a bit more
ones_bit : (q : ℕ) (b : Bool) → ones (q * 2 + cond b 1 0) ≡ cond b 1 0 + ones q
ones_bit q b = ones_step (q * 2 + cond b 1 0) ∙ ap₂ (λ (x y : ℕ). x + ones y) (low b) (high b)
  where
    low : (b : Bool) → (q * 2 + cond b 1 0) % 2 ≡ cond b 1 0
    low true = omega arith
    low false = omega arith

    high : (b : Bool) → (q * 2 + cond b 1 0) / 2 ≡ q
    high true = omega arith
    high false = omega arith

ones_none : ones 0 ≡ 0
unfolding ones
ones_none = refl

ones_one : (b : Bool) → ones (cond b 1 0) ≡ cond b 1 0
unfolding ones
ones_one true = refl
ones_one false = refl

length_cond : {A : Type 0} (b : Bool) (x : A) (l : List A) → length (cond b (x ∷ l) l) ≡ cond b 1 0 + length l
length_cond true x l = omega arith
length_cond false x l = sym (zero-add (length l))

ones_word : (n a : ℕ) (f : ℕ → Bool) → ones (word n a f) ≡ length (keep f (from n a))
unfolding word keep from
ones_word zero a f = ones_none
ones_word (suc n) a f =
    ones_bit (word n (suc a) f) (f a) ∙ ap (λ (k : ℕ). cond (f a) 1 0 + k) (ones_word n (suc a) f) ∙ sym (length_cond (f a) a (keep f (from n (suc a))))

-- the tuples that pass a test, by their first elements
pub keep_tuples : (u n : ℕ) (f : Tuple → Bool) → keep f (tuples u (suc n)) ≡ gather (λ a. map (λ t. a ∷ t) (keep (λ t. f (a ∷ t)) (tuples u n))) (below u)
unfolding tuples
keep_tuples u n f =
    keep_gather f (λ a. map (λ t. a ∷ t) (tuples u n)) (below u)
    ∙ gather_ext (λ a. keep f (map (λ t. a ∷ t) (tuples u n))) (λ a. map (λ t. a ∷ t) (keep (λ t. f (a ∷ t)) (tuples u n))) (λ a. keep_map f (λ t. a ∷ t) (tuples u n)) (below u)

ones_gather : {A : Type 0} (g : ℕ → List ℕ) (h : ℕ → List A) → ((a : ℕ) → all_ones (g a) ≡ length (h a)) → (xs : List ℕ) → all_ones (gather g xs) ≡ length (gather h xs)
unfolding all_ones gather
ones_gather g h e [] = refl
ones_gather g h e (x ∷ xs) = ones_append (g x) (gather g xs) ∙ ap₂ ◌+◌ (e x) (ones_gather g h e xs) ∙ sym (length-append (h x) (gather h xs))

ones_0 : (u : ℕ) (f : Tuple → Bool) → all_ones (table u 0 f) ≡ length (keep f (tuples u 0))
unfolding all_ones table tuples keep
ones_0 u f = ap (λ (k : ℕ). k + 0) (ones_one (f [])) ∙ sym (length_cond (f []) [] [])

ones_1 : (u : ℕ) (f : Tuple → Bool) → all_ones (table u 1 f) ≡ length (keep f (tuples u 1))
unfolding all_ones table
ones_1 u f =
    add-zero (ones (word u 0 (λ a. f (a ∷ []))))
    ∙ ones_word u 0 (λ a. f (a ∷ []))
    ∙ sym (ap length (keep_singles u f) ∙ length-map (keep (λ a. f (a ∷ [])) (below u)) (λ a. a ∷ []))

-- the ones of a table's words are the tuples that it was made of, whatever its arity
pub ones_table : (u n : ℕ) (f : Tuple → Bool) → all_ones (table u n f) ≡ length (keep f (tuples u n))
unfolding table
ones_table u zero f = ones_0 u f
ones_table u (suc zero) f = ones_1 u f
ones_table u (suc (suc n)) f =
    ones_gather (λ a. table u (suc n) (λ t. f (a ∷ t))) (λ a. map (λ t. a ∷ t) (keep (λ t. f (a ∷ t)) (tuples u (suc n))))
    (λ a. ones_table u (suc n) (λ t. f (a ∷ t)) ∙ sym (length-map (keep (λ t. f (a ∷ t)) (tuples u (suc n))) (λ t. a ∷ t))) (below u)
    ∙ sym (ap length (keep_tuples u (suc n) f))

-- ---- and they are the tuples that it holds

gather_same : {A : Type 0} (f g : ℕ → List A) (n a : ℕ) → ((i : ℕ) → i < a + n → f i ≡ g i) → gather f (from n a) ≡ gather g (from n a)
unfolding gather from
gather_same f g zero a e = refl
gather_same f g (suc n) a e = ap₂ ◌++◌ (e a (omega arith)) (gather_same f g n (suc a) (λ i l. e i (omega arith)))

same_0 : (u : ℕ) (f g : Tuple → Bool) → f [] ≡ g [] → keep f (tuples u 0) ≡ keep g (tuples u 0)
unfolding tuples keep
same_0 u f g e = ap (λ (b : Bool). cond b ([] ∷ []) []) e

pub keep_same : (u n : ℕ) (f g : Tuple → Bool) → ((t : Tuple) → length t ≡ n → Below u t → f t ≡ g t) → keep f (tuples u n) ≡ keep g (tuples u n)
keep_same u zero f g e = same_0 u f g (e [] refl tt)
keep_same u (suc n) f g e =
    keep_tuples u n f
    ∙ gather_same (λ a. map (λ t. a ∷ t) (keep (λ t. f (a ∷ t)) (tuples u n))) (λ a. map (λ t. a ∷ t) (keep (λ t. g (a ∷ t)) (tuples u n))) u 0
    (λ a l. ap (map (λ t. a ∷ t)) (keep_same u n (λ t. f (a ∷ t)) (λ t. g (a ∷ t)) (λ t k h. e (a ∷ t) (ap suc k) (omega arith, h))))
    ∙ sym (keep_tuples u n g)

pub count_table : (u n : ℕ) (f : Tuple → Bool) → tuple_count u n (table u n f) ≡ length (keep f (tuples u n))
unfolding tuple_count
count_table u n f = ap length (keep_same u n (holds u (table u n f)) f made)
  where
    made : (t : Tuple) → length t ≡ n → Below u t → holds u (table u n f) t ≡ f t
    made t k h = rw (← k) (holds_table u t f h)

-- the number of ones of a table's words is the number of its tuples
pub ones_count : (u n : ℕ) (f : Tuple → Bool) → all_ones (table u n f) ≡ tuple_count u n (table u n f)
ones_count u n f = ones_table u n f ∙ sym (count_table u n f)

-- ---- every table of a run is made by a test, so that its ones are its tuples

pub data Made (u : ℕ) : List Relation → Tables → Type 0 where
  made_none : Made u [] []
  made_one : {q : Relation} {qs : List Relation} {ts : Tables} (f : Tuple → Bool) → Made u qs ts → Made u (q ∷ qs) (table u q.arity f ∷ ts)

-- the number of tuples of each table
unfoldable pub table_counts : ℕ → List Relation → Tables → List ℕ
table_counts u [] ts = []
table_counts u (r ∷ rs) [] = []
table_counts u (r ∷ rs) (t ∷ ts) = tuple_count u r.arity t ∷ table_counts u rs ts

pub counts_ones : {u : ℕ} {rs : List Relation} {ts : Tables} → Made u rs ts → table_counts u rs ts ≡ map all_ones ts
unfolding table_counts
counts_ones made_none = refl
counts_ones {u} (made_one {q} f m) = ap₂ (λ (x : ℕ) (l : List ℕ). x ∷ l) (sym (ones_count u q.arity f)) (counts_ones m)

made_tables : (u : ℕ) (f : Relation → Tuple → Bool) (rs : List Relation) → Made u rs (map (λ r. table u r.arity (f r)) rs)
made_tables u f [] = made_none
made_tables u f (r ∷ rs) = made_one (f r) (made_tables u f rs)

module _ (w : Accepted) where
  made_assigned : (ts : Tables) (env : Environment) (r : Text) (ps : List Term) (e : Expression) {qs : List Relation} {us : Tables}
      → Made (elements w) qs us → Made (elements w) qs (assign_tables w ts env r ps e qs us)
  unfolding assign_tables
  made_assigned ts env r ps e made_none = made_none
  made_assigned ts env r ps e (made_one {q} {qs} {ts = us} f m) = go (same r q.name) (made_assigned ts env r ps e m)
    where
      old : List ℕ
      old = table (elements w) q.arity f

      go : (b : Bool) → Made (elements w) qs (assign_tables w ts env r ps e qs us)
          → Made (elements w) (q ∷ qs) (cond b (table (elements w) q.arity (assigned w ts env ps e old) ∷ us) (old ∷ assign_tables w ts env r ps e qs us))
      go true ih = made_one (assigned w ts env ps e old) m
      go false ih = made_one f ih

  next_made : (ts : Tables) (out : Text) (n : ℕ) (k : List Task) → Made (elements w) w.relations ts → Made (elements w) w.relations (next_of w ts out n k).tables
  unfolding step
  next_made ts out n [] m = m
  next_made ts out n (assigning env r ps e ∷ k) m = made_assigned ts env r.text ps e m
  next_made ts out n (printing env is ∷ k) m = m
  next_made ts out n (testing env e a b ∷ k) m = m
  next_made ts out n (repeating env e a ∷ k) m = m
  next_made ts out n (ranging env v e a ∷ k) m = m
  next_made ts out n (taking env v x a ∷ k) m = m

  pub point_made : (n : ℕ) → Made (elements w) w.relations (point w n).tables
  unfolding point start loaded
  point_made zero = made_tables (elements w) (λ r t. some_of (fact_holds w r.name t) w.facts) w.relations
  point_made (suc n) = let c = point w n in next_made c.tables c.output c.steps c.todo (point_made n)

-- ---- the counts of a store

-- the tables' words before others, z
pub counts_image : {u : ℕ} {rs : List Relation} {ts : Tables} → Shaped u rs ts → (z : List ℕ) → counts_from u rs (table_image ts ++ z) ≡ table_counts u rs ts
unfolding counts_from table_counts table_image gather
counts_image none z = refl
counts_image {u} (one {q} {qs} {t} {ts} e s) z =
    ap (counts_from u (q ∷ qs)) (append_assoc t (table_image ts) z)
    ∙ ap₂ (λ (x y : List ℕ). tuple_count u q.arity x ∷ counts_from u qs y)
    (take_at t (table_image ts ++ z) (table_words u q.arity) e) (drop_at t (table_image ts ++ z) (table_words u q.arity) e)
    ∙ ap (λ (l : List ℕ). tuple_count u q.arity t ∷ l) (counts_image s z)

-- the number of tuples of each table, unused ones zero
abbrev pub counts_of : Limits → Accepted → Tables → List ℕ
counts_of limits w ts = table_counts (elements w) w.relations ts ++ replicate (limits.relations - length w.relations) 0

-- the counts of the store at a point are those of its tables
pub counts_at : (limits : Limits) (w : Accepted) (store : List ℕ) (n : ℕ) → counts limits w (store_image w (point w n).tables store) ≡ counts_of limits w (point w n).tables
unfolding counts store_image
counts_at limits w store n =
    ap (λ (l : List ℕ). l ++ replicate (limits.relations - length w.relations) 0) (counts_image (point_shaped w n) (replicate (scratch_words w) 0 ++ drop (words_needed w) store))

-- the counts as loaded, which the records have
pub counts_loaded : (limits : Limits) (w : Accepted) → counts limits w (table_image (loaded w)) ≡ counts_of limits w (loaded w)
unfolding counts point start
counts_loaded limits w =
    ap (λ (l : List ℕ). l ++ replicate (limits.relations - length w.relations) 0)
    (ap (counts_from (elements w) w.relations) (sym (append-nil (table_image (loaded w)))) ∙ counts_image (point_shaped w 0) [])

-- as the ones of its words
pub counts_of_ones : (limits : Limits) (w : Accepted) (n : ℕ)
    → counts_of limits w (point w n).tables ≡ map all_ones (point w n).tables ++ replicate (limits.relations - length w.relations) 0
counts_of_ones limits w n = ap (λ (l : List ℕ). l ++ replicate (limits.relations - length w.relations) 0) (counts_ones (point_made w n))

-- ---- the counts of a run

-- the point of the definition's run at which a run ended, and its counts: the numbers of tuples of the tables of that point
pub record CountsAt (limits : Limits) (w : Accepted) (budget : ℕ) (buffer : Text) (r : Result Stopped Refusal) (cs : List ℕ) : Type 0 where
  pub stopped : Stopped
  pub answer : ran_answer r ≡ ok stopped
  pub n : ℕ
  -- at its end, which is a point that stays, or after as many steps as the budget
  pub done : stopped.ending ≡ Done → (n ≡ budget) × ((point w n).todo ≡ [])
  pub spent : stopped.ending ≡ Spent → n ≡ budget
  -- just before the first PRINT that doesn't fit
  pub full : stopped.ending ≡ Full → (n < budget) × FirstUnfit w (length buffer) n
  pub steps : stopped.steps ≡ (point w n).steps
  pub counts : cs ≡ counts_of limits w (point w n).tables

counts_told : (limits : Limits) (w : Accepted) (n : ℕ) (store : List ℕ) (buffer : Text) (r : Stopped) (store' : List ℕ) (buffer' : Text) (cs : List ℕ)
    → Shows w (point w n) store buffer r store' buffer' → cs ≡ counts limits w store' → cs ≡ counts_of limits w (point w n).tables
counts_told limits w n store buffer r store' buffer' cs sh h = h ∙ ap (counts limits w) sh.tables ∙ counts_at limits w store n

module _ (limits : Limits) (w : Accepted) (budget : ℕ) (store : List ℕ) (buffer : Text) (q : Result Stopped Refusal) (store' : List ℕ) (buffer' : Text) (cs : List ℕ)
    (h : cs ≡ counts limits w store') (r : Stopped) (a : ran_answer q ≡ ok r) (d : Ends w budget store buffer r store' buffer') where
  ended_counts : (e : Ending) → r.ending ≡ e → CountsAt limits w budget buffer q cs
  ended_counts Done e =
      let sh = d.at_done e in
      record {
        stopped = r;
        answer = a;
        n = budget;
        done = λ x. (refl, (d.done.0 e).0);
        spent = λ x. refl;
        full = λ x. absurd (no e x done_full);
        steps = sh.steps;
        counts = counts_told limits w budget store buffer r store' buffer' cs sh h;
      }
  ended_counts Spent e =
      let sh = d.at_spent e in
      record {
        stopped = r;
        answer = a;
        n = budget;
        done = λ x. absurd (no x e done_spent);
        spent = λ x. refl;
        full = λ x. absurd (no e x spent_full);
        steps = sh.steps;
        counts = counts_told limits w budget store buffer r store' buffer' cs sh h;
      }
  ended_counts Full e =
      let f = d.at_full e in
      record {
        stopped = r;
        answer = a;
        n = f.0;
        done = λ x. absurd (no x e done_full);
        spent = λ x. absurd (no x e spent_full);
        full = λ x. (f.1, f.2);
        steps = f.3.steps;
        counts = counts_told limits w f.0 store buffer r store' buffer' cs f.3 h;
      }

module _ (limits : Limits) (facts query : Text) (budget : ℕ) (store : List ℕ) (buffer : Text) (r : Result Stopped Refusal) (store' : List ℕ) (buffer' : Text) (cs : List ℕ) where
  -- "After any number of steps, spent and full endings included, each count equals the number of tuples in that table"
  pub run_counts : (w : Accepted) → RunMeets limits facts query budget store buffer r store' buffer' → CountsMeet limits facts query store cs store'
      → accept_store limits facts query (length store) ≡ ok w → CountsAt limits w budget buffer r cs
  run_counts w run cm e =
      let ends : RunEnds w budget store buffer r store' buffer' = subst (λ (a : Answer Accepted). run_meets a budget store buffer r store' buffer') e run.meets in
      let told : cs ≡ counts limits w store' = subst (λ (a : Answer Accepted). counts_meet limits a cs store') e cm.meets in
      ended_counts limits w budget store buffer r store' buffer' cs told ends.stopped ends.answer ends.demand_3.ends ends.stopped.ending refl
