-- Sums of `#(e)` and literals, and ratios: one table and one theorem.
use mathlib.Core.List.{List, [], ◌∷◌}
use lib.Dec.{T}
use Rattle.definition.specs.Text.{all_of}
use Rattle.definition.proofs.CaseTable.{Case, case, refusal, holds, F}

unfoldable pub figures : List Case
figures =
    -- "held bonds on this curve over all held bonds"
    case F "PRINT #(Held(x) & On(x,_)) / #(On(x,_));" 4 73 "1/3done 1\n"
    ∷ case F "PRINT #(On(x,y)), \" \", #(On(x,_) | On(_,x)) + 10;" 4 73 "3 14done 1\n"
    -- "otherwise a ratio prints reduced, as top, slash, bottom, and a plain sum as its digits"
    ∷ case "" "PRINT 0 / 5;" 0 0 "0/1done 1\n"
    ∷ case "" "PRINT 4 / 2;" 0 0 "2/1done 1\n"
    ∷ case "" "PRINT 4 / 1;" 0 0 "4/1done 1\n"
    ∷ case "" "PRINT 4;" 0 0 "4done 1\n"
    ∷ case "" "PRINT 999999 / 2;" 0 0 "999999/2done 1\n"
    ∷ case "" "PRINT 360 + 24 / 36 + 108, ENDL, 007;" 0 0 "8/3\n7done 1\n"
    -- "A ratio with bottom 0 makes every comparison false and prints `none`"
    ∷ case F "PRINT 3 / #(FALSE(x)), 0 / 0;" 4 73 "nonenonedone 1\n"
    ∷ case "" "IF 3 / 0 != 1 { PRINT \"t\"; } IF 1 / 0 = 1 / 0 { PRINT \"t\"; } IF 1 < 1 / 0 { PRINT \"t\"; } IF 1 <= 1 / 0 { PRINT \"t\"; } IF 1 / 0 > 0 { PRINT \"t\"; } IF 0 / 0 >= 0 { PRINT \"t\"; }" 0 0 "done 6\n"
    -- "Ratios compare by cross products"
    ∷ case "" "IF 1 / 3 < 1 / 2 { PRINT 1; } IF 2 / 4 = 1 / 2 { PRINT 2; } IF 2 / 4 != 1 / 2 { PRINT 3; } IF 4 / 2 = 2 { PRINT 4; } IF 1 >= 999999 / 999998 { PRINT 5; }" 0 0 "124done 8\n"
    -- "`#(TRUE())` is 1"; no elements; each "_" is its own EX
    ∷ case "" "PRINT #(TRUE()), #(FALSE()), #(TRUE(x)), #(TRUE(_));" 0 0 "1000done 1\n"
    ∷ case F "PRINT #(TRUE(x)), \" \", #(TRUE(x,y)), \" \", #(TRUE(x,y,z)), \" \", #(On(_,_)), #(\"Z\"=\"Z\");" 4 73 "4 16 64 10done 1\n"
    -- "It hides outer attributes, has none free itself"
    ∷ case F "PRINT On(x,_) & (#(On(x,y)) = 3);" 4 73 "B7\nC10\nC5\ndone 1\n"
    ∷ case F "PRINT EX(x, #(Held(x)) = 1 + 0);" 4 73 "\ndone 1\n"
    ∷ case F "IF #(Held(x)) > 2 { PRINT \"many\"; } ELSE { PRINT \"few\"; }" 4 73 "fewdone 2\n"
    ∷ case F "PRINT #(#(On(x,y)) = 3), #(!(#(On(x,y)) = 3));" 4 73 "10done 1\n"
    -- a loop variable is no attribute
    ∷ case F "FOR c IN On(x,_) | On(_,x) { PRINT #(On(c,x)); }" 4 73 "1101done 9\n"
    ∷ case F "WHILE #(Held(x)) < 3 { Held(x) := Held(x) | EX(y, Held(y) & On(y,x)); } PRINT #(Held(x));" 4 73 "3done 6\n"
    -- a comparison as an item, with and without a label
    ∷ case F "PRINT #(On(x,y)) = 3, [\"n\"] 1 < 2, 2 < 1;" 4 73 "\nn\ndone 1\n"
    -- "up to 8 summands", on each side
    ∷ case "" "PRINT 1 + 2 + 3 + 4 + 5 + 6 + 7 + 8 / 1 + 1 + 1 + 1 + 1 + 1 + 1 + 2;" 0 0 "4/1done 1\n"
    ∷ refusal "" "PRINT 1 + 2 + 3 + 4 + 5 + 6 + 7 + 8 + 9;" "refused 19 38\n"
    ∷ refusal "" "PRINT 1 / 1 + 2 + 3 + 4 + 5 + 6 + 7 + 8 + #(TRUE());" "refused 19 42\n"
    ∷ refusal "" "PRINT 1+1+1+1+1+1+1+1+;" "refused 10 22\n"
    ∷ refusal "" "PRINT 1+1+1+1+1+1+1+1+x;" "refused 10 22\n"
    ∷ refusal "" "PRINT 1+1+1+1+1+1+1+1+2;}" "refused 19 22\n"
    -- "literals to 999,999"; over 32 bytes
    ∷ case "" "PRINT 999999, 00999999;" 0 0 "999999999999done 1\n"
    ∷ refusal "" "PRINT 1000000;" "refused 19 6\n"
    ∷ refusal "" "PRINT 00000000001000000;" "refused 19 6\n"
    ∷ case "" "PRINT 00000000000000000000000000000012;" 0 0 "12done 1\n"
    ∷ refusal "" "PRINT 000000000000000000000000000000012;" "refused 9 6\n"
    ∷ refusal "" "PRINT 99999999999999999999999999999999;" "refused 19 6\n"
    -- "`//` and `/*` still open comments"
    ∷ case "" "PRINT 4 // 2;\n;" 0 0 "4done 1\n"
    ∷ case "" "PRINT 4 /* 2 */ / /**/ 6;" 0 0 "2/3done 1\n"
    ∷ case "" "PRINT 4/ //2\n2;" 0 0 "2/1done 1\n"
    ∷ refusal "" "PRINT 4 / / 2;" "refused 10 10\n"
    -- a quantity alone is no expression; a literal is no term; digits end where a letter begins
    ∷ refusal F "IF #(Held(x)) { P(); }" "refused 10 14\n"
    ∷ refusal F "P() := 5;" "refused 10 8\n"
    ∷ refusal F "PRINT #(5);" "refused 10 9\n"
    ∷ refusal F "PRINT #Held(x);" "refused 10 7\n"
    ∷ refusal F "PRINT 1 = 1 = 1;" "refused 10 12\n"
    ∷ refusal F "PRINT 1 / 2 / 3;" "refused 10 12\n"
    ∷ refusal F "PRINT 1 & Held(x);" "refused 10 8\n"
    ∷ refusal F "PRINT Held(x) & 1 = 1;" "refused 10 16\n"
    ∷ refusal F "PRINT (1 + 1) + 1;" "refused 10 12\n"
    ∷ refusal F "PRINT [\"n\"] 1;" "refused 10 13\n"
    ∷ refusal F "PRINT EX(#(Held(x)) = 1);" "refused 10 9\n"
    ∷ refusal "" "PRINT 12ab;" "refused 10 8\n"
    -- "at one token after 10 and before 13": a large number that fits nowhere; # at level 33; there a ninth summand
    ∷ refusal F "PRINT On(1000000);" "refused 10 9\n"
    ∷ refusal F "1000000" "refused 10 0\n"
    ∷ case F "IF ((((((((((((((((((((((((((((((((1 = 1)))))))))))))))))))))))))))))))) { PRINT 1; }" 4 73 "1done 2\n"
    ∷ case F "IF (((((((((((((((((((((((((((((((#(TRUE()) = 1))))))))))))))))))))))))))))))) { PRINT 1; }" 4 73 "1done 2\n"
    ∷ refusal F "IF ((((((((((((((((((((((((((((((((#(TRUE()) = 1)))))))))))))))))))))))))))))))) { PRINT 1; }" "refused 13 35\n"
    ∷ refusal F "IF ((((((((((((((((((((((((((((((((1+1+1+1+1+1+1+1+#(TRUE()) = 1" "refused 19 51\n"
    ∷ refusal F "IF ((((((((((((((((((((((((((((((((1+1+1+1+1+1+1+#(TRUE()) = 1" "refused 13 49\n"
    ∷ refusal F "IF (((((((((((((((((((((((((((((((((1000000 = 1" "refused 13 35\n"
    -- "Its e has no more free attributes than a printed expression may, else refusal 12"
    ∷ case F "PRINT #(Held(x) & Held(y) & Held(z));" 4 73 "1done 1\n"
    ∷ refusal F "P(); PRINT #(Held(x) & Held(y) & Held(z) & Held(w));" "refused 12 5\n"
    ∷ refusal F "Held(x) := Held(x) & (1 < #(Held(x) & Held(y) & Held(z) & Held(w)));" "refused 12 0\n"
    ∷ refusal F "IF #(TC(Held(x))) = 0 { P(); }" "refused 12 0\n"
    ∷ refusal F "PRINT #(Held(x) & Held(y) & Held(z) & Held(w) & Held(v));" "refused 13 0\n"
    ∷ refusal F "PRINT #(Held(Held));" "refused 11 13\n"
    ∷ []

pub figures_hold : T (all_of holds figures)
unfolding holds all_of figures
figures_hold = tt
