-- Row 18: the first pattern of a text that nothing spells, at its token.
use mathlib.Core.Path.{◌≡◌, refl}
use mathlib.Core.Bool.{not}
use mathlib.Core.List.{List, [], ◌∷◌}
use mathlib.Core.Option.{Option, some, none}
use Rattle.definition.specs.Text.{Text}
use Rattle.definition.specs.Token.{Token}
use Rattle.definition.specs.Answer.{Answer, ok, refused, refuse_if, ◌>>◌}
use Rattle.definition.specs.Pattern.{Pattern, branches, Spells, read_pattern, is_some, well_formed}
use Rattle.definition.specs.Names.{pattern_rows}
use Rattle.definition.proofs.PatternLaws.{pattern_read, malformed_is}

-- "an empty or malformed pattern": no pattern is spelled so
abbrev pub Malformed : Text → Type 0
Malformed s = (p : Pattern) → Spells branches s p → ⊥

pub data PatternRows : List Token → Answer (Unit {0}) → Type 0 where
  no_pattern : PatternRows [] (ok tt)
  -- "18 with the pattern's token"
  row_18 : {s : Token} {ss : List Token} → Malformed s.text → PatternRows (s ∷ ss) (refused 18 s.at)
  spelled : {s : Token} {ss : List Token} {a : Answer (Unit {0})} (p : Pattern) → Spells branches s.text p → PatternRows ss a → PatternRows (s ∷ ss) a

pub rows_18 : (ss : List Token) → PatternRows ss (pattern_rows ss)
unfolding pattern_rows well_formed
rows_18 [] = no_pattern
rows_18 (s ∷ ss) = at (read_pattern s.text) refl (rows_18 ss)
  where
    at : (o : Option Pattern) → read_pattern s.text ≡ o → PatternRows ss (pattern_rows ss) → PatternRows (s ∷ ss) (◌>>◌ (refuse_if (not (is_some o)) 18 s.at) (pattern_rows ss))
    at none e h = row_18 ((malformed_is s.text).0 e)
    at (some p) e h = spelled p ((pattern_read s.text p).0 e) h
