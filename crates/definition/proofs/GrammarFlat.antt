-- What is read is the tree's tokens: so code that reads a phrase from token p up to token q has a tree of q - p tokens.
use Prim.Native.Nat.{ℕ, zero, suc, ◌+◌, ◌≤◌}
use mathlib.Core.List.{List, [], ◌∷◌, ◌++◌, append_assoc, append-nil}
use mathlib.Core.Path.{◌≡◌, refl, ap, sym, subst, ◌∙◌}
use native.Mathlib.Omega.{arith}
use lib.ListN.{length, drop, length-drop, length-append}
use Rattle.definition.proofs.GrammarMachine.{flat_value, flat_forest, Out, mach}
use Rattle.definition.proofs.GrammarPlaces.{log_o}
use Rattle.definition.proofs.GrammarSound.{Fair, whole, part, mach_fair}
use Rattle.definition.proofs.GrammarTold.{plain, cut, read_cut}
use Rattle.definition.proofs.GrammarReads.{Reads, cat, level, at_level, done!, ◌▸◌, token!, name!, string!, number!, sign! }
use Rattle.definition.specs.Grammar.{Nonterminal, Tree, flat}
use Rattle.definition.specs.Reader.{Symbol, phrase, fixed, identifier, any_string, any_number, any_sign, level_end, Value, Forest, levels_open, Reading, read_as, refused_at, map_reading, on_row, finish_reading, read}
use Rattle.definition.specs.Syntax.{size}
use Rattle.definition.specs.Token.{Terminal, name, string, number, sign, key}

-- The trees that are read have the tokens that are read.
cut_read : {s : List Symbol} (l : List Terminal) (v : List ℕ) (x : Reading s) (fs : Forest s) → cut l v x ≡ read_as fs → x ≡ read_as fs
cut_read [] v x fs e = e
cut_read (t ∷ l) [] x fs e = e
cut_read {s} (t ∷ l) (n ∷ v) x fs e = at n (cut_read l v x fs) e
  where
    at : (n : ℕ) → (cut l v x ≡ read_as fs → x ≡ read_as fs) → on_row n (t ∷ l) (cut l v x) ≡ read_as fs → x ≡ read_as fs
    at zero f e = f e
    at (suc n) f e = absurd (let z : ◌≡◌ {A = ℕ} 0 1 = cc in omega arith)

fair_flat : {s : List Symbol} (ts : List Terminal) (fs : Forest s) (o : Out s) → Fair ts s o → plain o ≡ read_as fs → flat_forest s fs ≡ ts
fair_flat {s} ts fs o (whole {fs = gs} h n) e = ap (flat_forest s) (same gs fs e) ∙ h
  where
    same : (gs fs : Forest s) → ◌≡◌ {A = Reading s} (read_as gs) (read_as fs) → fs ≡ gs
    same gs fs e = cc
fair_flat {s} ts fs o (part pre w gs h k n) e = absurd (let z : ◌≡◌ {A = ℕ} 0 1 = cc in omega arith)

pub read_flat : (ts : List Terminal) (s : List Symbol) (fs : Forest s) → read ts s ≡ read_as fs → flat_forest s fs ≡ ts
read_flat ts s fs e = fair_flat ts fs (mach ts s) (mach_fair ts s) (cut_read ts (log_o (mach ts s)) (plain (mach ts s)) fs (sym (read_cut ts s) ∙ e))

-- A stack at level d that reads the tokens l.
abbrev symbol : Terminal → Symbol
symbol (name x) = identifier
symbol (string x) = any_string
symbol (number o x) = any_number
symbol (sign g) = any_sign
symbol (key k) = fixed k

abbrev value : (t : Terminal) → Value (symbol t)
value (name x) = x
value (string x) = x
value (number o x) = (o, x)
value (sign g) = g
value (key k) = tt

abbrev symbols : List Terminal → List Symbol
symbols [] = []
symbols (t ∷ l) = symbol t ∷ symbols l

abbrev values : (l : List Terminal) → Forest (symbols l)
values [] = tt
values (t ∷ l) = (value t, values l)

same_level : (l : List Terminal) (d : ℕ) → level (symbols l) d ≡ d
same_level [] d = refl
same_level (name x ∷ l) d = same_level l d
same_level (string x ∷ l) d = same_level l d
same_level (number o x ∷ l) d = same_level l d
same_level (sign g ∷ l) d = same_level l d
same_level (key k ∷ l) d = same_level l d

one_read : {d : ℕ} → d ≤ 32 → (t : Terminal) (l : List Terminal) → Reads d (symbol t ∷ []) (t ∷ l) (value t, tt) l
one_read m (name x) l = name! m refl
one_read m (string x) l = string! m refl
one_read m (number o x) l = number! m refl
one_read m (sign g) l = sign! m refl
one_read m (key k) l = token! m refl

all_read : {d : ℕ} → d ≤ 32 → (l : List Terminal) → Reads d (symbols l) l (values l) []
all_read m [] = done!
all_read {d} m (t ∷ l) = one_read (subst (λ i. i ≤ 32) (sym (same_level l d)) m) t l ▸ all_read m l

abbrev ends : ℕ → List Symbol
ends zero = []
ends (suc d) = level_end ∷ ends d

abbrev closed : (d : ℕ) → Forest (ends d)
closed zero = tt
closed (suc d) = (tt, closed d)

ends_level : (d : ℕ) → levels_open (ends d) ≡ d
ends_level zero = refl
ends_level (suc d) = ap suc (ends_level d)

ends_read : (d : ℕ) → finish_reading (ends d) ≡ read_as (closed d)
ends_read zero = refl
ends_read (suc d) = ap (map_reading (λ fs. (tt, fs))) (ends_read d)

abbrev rest : ℕ → List Terminal → List Symbol
rest d l = symbols l ++ ends d

rest_read : {d : ℕ} → d ≤ 32 → (l : List Terminal) → read l (rest d l) ≡ read_as (cat (symbols l) (ends d) (values l) (closed d))
rest_read {d} m l = (all_read m l).is (ends d) (ends_level d) ∙ ap (map_reading (cat (symbols l) (ends d) (values l))) (ends_read d)

flat_cat : (γ s : List Symbol) (fs : Forest γ) (gs : Forest s) → flat_forest (γ ++ s) (cat γ s fs gs) ≡ flat_forest γ fs ++ flat_forest s gs
flat_cat [] s fs gs = refl
flat_cat (x ∷ γ) s fs gs = ap (λ l. flat_value x fs.0 ++ l) (flat_cat γ s fs.1 gs) ∙ sym (append_assoc (flat_value x fs.0) (flat_forest γ fs.1) (flat_forest s gs))

-- the symbols γ read exactly the tokens of their trees
pub reads_flat : {d : ℕ} {γ : List Symbol} {ts r : List Terminal} {fs : Forest γ} → d ≤ 32 → Reads d γ ts fs r → ts ≡ flat_forest γ fs ++ r
reads_flat {d} {γ} {ts} {r} {fs} m f =
    let s = rest d r in
    let gs : Forest (rest d r) = cat (symbols r) (ends d) (values r) (closed d) in
    let e : read ts (γ ++ rest d r) ≡ read_as (cat γ (rest d r) fs gs) = f.is s (at_level (symbols r) (ends d) d (ends_level d) ∙ same_level r d) ∙ ap (map_reading (cat γ s fs)) (rest_read m r) in
    sym (read_flat ts (γ ++ s) (cat γ s fs gs) e) ∙ flat_cat γ s fs gs ∙ ap (λ l. flat_forest γ fs ++ l) (read_flat r s gs (rest_read m r))

-- a phrase read from token p up to token q has q - p tokens
pub reads_size : {d : ℕ} {n : Nonterminal} {a : Tree n} (ts : List Terminal) (p q : ℕ) → d ≤ 32 → p ≤ length ts → q ≤ length ts → Reads d (phrase n ∷ []) (drop p ts) (a, tt) (drop q ts) → q ≡ p + size a
reads_size {a = a} ts p q m h i f =
    let e = ap length (reads_flat m f) in
    omega (arith, e, length-append (flat a ++ []) (drop q ts), ap length (append-nil (flat a)), length-drop p ts, length-drop q ts)
